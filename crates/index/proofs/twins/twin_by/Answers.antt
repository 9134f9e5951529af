use Rattle.std.proofs.Common.{◌≡◌, ◌+◌, false, true, not, length, sym, refl, ap, ◌∙◌, subst, add-one, arith}
use native.Mathlib.Nat.{sub-zero}
use Rattle.words.proofs.Tests.{rejected-turn, rejected-stop, rejected-end}
use Rattle.index.specs.Key.{home, place}
use Rattle.index.specs.Chains.{Indexed, linked}
use Rattle.index.proofs.Chaining.{indexed-linked, length-linked}
use Rattle.index.proofs.Twinning.{absent-some, fresh-by}
use Rattle.index.proofs.twins.twin_by.Goals as goal

pub loop-k-init : goal.loop-k-init
loop-k-init c = (refl, c.requires.0, rw sub-zero)

pub returns-then-is_some : goal.returns-then-is_some
returns-then-is_some c =
    rejected-stop _ _ _ _ c.loop-k.invariant.2 c.loop-k-test.true
    (fresh-by _ c.row-r.result c.loop-k.k
    c.find.result false c.find.ensures c.row-r.ensures
    (absent-some c.find.result ∙ ap not (sym c.is_some.ensures ∙ c.if-is_some.true)))

pub loop-k-preserved : goal.loop-k-preserved
loop-k-preserved c =
    let e : c.link.new.index ≡ linked c.loop-k.index 0 c.args.n (place c.args.store.now c.args.n c.loop-k.k) c.loop-k.k =
    c.link.ensures ∙ ap (λ q. linked
    c.loop-k.index 0
    c.args.n q
    c.loop-k.k)
    (ap (home c.args.n) c.row-r.ensures) in
    let h = indexed-linked c.loop-k.invariant.1
    (omega (
      arith,
      c.loop-k-test.true,
      c.requires.1,
    )) in (
      ap length e ∙ length-linked _ _ _ _ _ ∙ c.loop-k.invariant.0,
      subst (λ l. Indexed c.args.store.now l 0 c.args.n (c.loop-k.k + 1)) (sym e) (subst (Indexed _ _ 0 c.args.n) (sym (add-one c.loop-k.k)) h),
      rejected-turn _ _ _ _ c.loop-k.invariant.2
          c.loop-k-test.true
          (fresh-by _ c.row-r.result
          c.loop-k.k
          c.find.result true
          c.find.ensures
          c.row-r.ensures
          (absent-some c.find.result ∙ ap not (sym c.is_some.ensures ∙ c.if-is_some.false))),
    )

pub returns : goal.returns
returns c = rejected-end _ _ _ _ c.loop-k.invariant.2 c.loop-k-test.false
