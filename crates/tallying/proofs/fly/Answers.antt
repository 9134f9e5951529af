use Rattle.std.proofs.Common.{ℕ, ◌<◌, refl, ap, ◌∙◌, add-one, arith}
use lib.ListN.{length-take}
use lib.Seq.{get_or-take}
use Rattle.tallying.specs.Counts.{bumped, flown}
use Rattle.tallying.proofs.fly.Goals as goal

pub loop-e-init : goal.loop-e-init
unfolding flown
loop-e-init c = refl

pub loop-e-preserved : goal.loop-e-preserved
unfolding flown
loop-e-preserved c =
    let l : c.loop-e.e-index < c.args.n = omega (arith, length-take c.args.n c.args.kept.now, c.loop-e-test.true) in
    c.add.ensures
    ∙ rw add-one (λ z. bumped (c.loop-e.invariant z) (get_or-take c.args.n c.args.kept.now c.loop-e.e-index 0 l z) 3)

pub returns : goal.returns
returns c =
    c.loop-e.invariant
    ∙ ap (λ (n : ℕ). flown c.args.kept.now c.args.counts.now n)
    (omega (arith, length-take c.args.n c.args.kept.now, c.loop-e-test.false, c.loop-e.auto.e-index-end))
