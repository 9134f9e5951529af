use Rattle.std.proofs.Common.{◌≡◌, ◌+◌, ◌-◌, length, sym, refl, ap, ◌∙◌, subst, add-one, arith}
use Rattle.index.specs.Lent.{Held, joined, built}
use Rattle.index.specs.Key.{home}
use Rattle.index.proofs.Lending.{held-joined, length-joined, joined-so, built-step}
use Rattle.index.proofs.lent.build.Goals as goal

pub loop-k-init : goal.loop-k-init
loop-k-init c = (refl, c.requires.0, ap (λ d. built c.args.n 0 d c.args.lent.now) (omega arith))

pub loop-k-preserved : goal.loop-k-preserved
loop-k-preserved c =
    let e : c.link.new.index ≡ joined c.args.n c.loop-k.k c.loop-k.lent = joined-so c.args.n
    c.loop-k.lent c.loop-k.k c.row-r.result (home c.args.n c.row-r.result)
    c.link.ensures refl c.row-r.ensures in
    let h = held-joined c.args.n
    c.loop-k.lent
    c.loop-k.k
    c.loop-k.invariant.1
    (omega (
      arith,
      c.loop-k-test.true,
      c.requires.1,
    )) in (
      ap length e ∙ length-joined c.args.n _ _
          ∙ c.loop-k.invariant.0,
      subst (λ l. Held l c.args.n
          (c.loop-k.k + 1)) (sym e)
          (subst (Held _ c.args.n)
          (sym (add-one c.loop-k.k)) h),
      ap (built c.args.n
          (c.loop-k.k + 1)
          (c.args.mark
          - (c.loop-k.k + 1))) e
          ∙ sym (built-step c.args.n
          c.loop-k.lent
          c.loop-k.k
          c.args.mark
          c.loop-k-test.true)
          ∙ c.loop-k.invariant.2,
    )

pub returns : goal.returns
unfolding built
returns c =
    let e : c.loop-k.k ≡ c.args.mark = omega (arith, c.loop-k-test.false, c.loop-k.auto.k-end) in
    let z : c.args.mark - c.loop-k.k ≡ 0 = omega arith in (
      ap (λ d. built c.args.n c.loop-k.k d c.loop-k.lent) (sym z)
          ∙ c.loop-k.invariant.2,
      subst (Held c.loop-k.lent c.args.n) e c.loop-k.invariant.1,
    )
