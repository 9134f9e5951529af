use Rattle.std.proofs.Common.{◌≡◌, suc, ◌-◌, length, sym, refl, ap, ◌∙◌, subst, arith}
use Rattle.index.specs.Lent.{Held, parted, forgotten}
use Rattle.index.specs.Key.{home}
use Rattle.index.proofs.Lending.{held-parted, length-parted, parted-so, forgotten-step}
use Rattle.index.proofs.lent.forget.Goals as goal

pub loop-k-init : goal.loop-k-init
loop-k-init c = (c.requires.1, refl, c.requires.0, refl)

pub loop-k-preserved : goal.loop-k-preserved
loop-k-preserved c =
    let e : c.unlink.new.index ≡ parted
    c.args.n
    (c.loop-k.k - 1)
    c.loop-k.lent =
    parted-so c.args.n
    c.loop-k.lent
    (c.loop-k.k - 1)
    c.row-r.result (home c.args.n c.row-r.result)
    c.unlink.ensures refl
    c.row-r.ensures in
    let s : c.loop-k.k
    ≡ suc (c.loop-k.k - 1) =
    omega (arith, c.loop-k-test.true) in
    let h = held-parted c.args.n
    c.loop-k.lent
    (c.loop-k.k - 1)
    (subst (Held c.loop-k.lent
    c.args.n) s
    c.loop-k.invariant.2) in (
      omega (arith, c.loop-k-test.true),
      ap length e ∙ length-parted c.args.n _ _
          ∙ c.loop-k.invariant.1,
      subst (λ l. Held l c.args.n
          (c.loop-k.k - 1)) (sym e) h,
      ap (forgotten c.args.n
          c.args.mark
          (c.loop-k.k - 1
          - c.args.mark)) e
          ∙ sym (forgotten-step c.args.n
          c.loop-k.lent
          c.args.mark
          c.loop-k.k
          c.loop-k-test.true)
          ∙ c.loop-k.invariant.3,
    )

pub returns : goal.returns
unfolding forgotten
returns c =
    let e : c.loop-k.k ≡ c.args.mark = omega (arith, c.loop-k-test.false, c.loop-k.invariant.0) in
    let z : c.loop-k.k - c.args.mark ≡ 0 = omega arith in (
      ap (λ d. forgotten c.args.n c.args.mark d c.loop-k.lent) (sym z)
          ∙ c.loop-k.invariant.3,
      subst (Held c.loop-k.lent c.args.n) e c.loop-k.invariant.2,
    )
