use Rattle.std.proofs.Common.{refl, arith}
use Rattle.stepping.proofs.Loading.{none_yet, loaded-bound, loaded-unbound, all-loaded}
use Rattle.stepping.proofs.own.load_bindings.Goals as goal
use Rattle.stepping.proofs.own.load_bindings.Goals.{else-w-ne0, then-w-ne0}

pub loop-v-init : goal.loop-v-init
loop-v-init c = none_yet _ _

pub loop-v-preserved : goal.loop-v-preserved
loop-v-preserved c =
    elim c.if-w-ne0.branch [
      | then-w-ne0 w ↦ rw (w.work-is, w.mask-is) (loaded-bound c.loop-v.invariant (omega (arith, c.loop-v-test.true, c.requires.1))
          c.requires.0 _ refl w.if-w-ne0.true)
      | else-w-ne0 w ↦ rw (w.work-is, w.mask-is) (loaded-unbound c.loop-v.invariant (omega (arith, c.loop-v-test.true, c.requires.1))
          c.requires.0 _ refl w.if-w-ne0.false)
    ]

pub returns : goal.returns
returns c = all-loaded c.loop-v.invariant (omega (arith, c.loop-v-test.false, c.requires.1)) c.requires.1
