-- `lent::ask` meets its contract, way by way: the node stands, there is no room, a new one is made. Assumes nothing.
use Rattle.std.proofs.Common.{◌≡◌, ◌+◌, ◌*◌, ◌≤◌, length, sym, refl, ap, ◌∙◌, subst, rules}
use Rattle.checks.specs.Checked.{place_of}
use Rattle.index.specs.Key.{home}
use Rattle.index.proofs.Lending.{asked-stands, asked-made, made-long}
use Rattle.index.proofs.lent.ask.Goals as goal

pub link-requires : goal.link-requires
link-requires c =
    let eight : length c.args.r ≡ 8
    = search rules in (
      subst (λ l. 8 * c.args.n + c.args.n + c.args.n ≤ length l) (sym c.put_row.ensures)
          (made-long c.args.n c.args.mark c.args.top c.args.r c.args.lent.now
          (sym (ap place_of c.in-None.is)
          ∙ c.find.ensures)
          c.if-n-mark.false eight
          c.forget.new.lent
          c.forget.ensures.0
          c.forget.ensures.1),
      c.if-n-mark.false,
    )

pub returns-in-Some : goal.returns-in-Some
returns-in-Some c =
    asked-stands c.args.n
    c.args.mark c.args.top
    c.args.r c.args.lent.now _
    (sym (ap place_of c.in-Some.is) ∙ c.find.ensures)

pub returns-else-n-mark : goal.returns-else-n-mark
returns-else-n-mark c =
    let eight : length c.args.r ≡ 8
    = search rules in
    asked-made c.args.n c.args.mark c.args.top c.args.r c.args.lent.now
    (sym (ap place_of c.in-None.is) ∙ c.find.ensures) c.if-n-mark.false eight
    c.forget.new.lent c.forget.ensures.0 c.forget.ensures.1
    c.put_row.new.words c.link.new.index (home c.args.n c.args.r)
    c.put_row.ensures refl c.link.ensures
