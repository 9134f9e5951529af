use Rattle.std.proofs.Common.{◌<◌, ◌∙◌, arith}
use Rattle.stepping.proofs.Loading.{one_written, word-bound, word-unbound}
use Rattle.stepping.proofs.own.put_bindings.Goals as goal
use Rattle.stepping.proofs.own.put_bindings.Goals.{in-Some, in-None}

pub loop-v-preserved : goal.loop-v-preserved
loop-v-preserved c =
    let inside : c.loop-v.v < 64 = omega (arith, c.loop-v-test.true, c.loop-v.invariant.long) in
    one_written c.loop-v.invariant inside
    (elim c.match-bound.branch [
      | in-Some w ↦ w.w-is ∙ word-bound _ _ _ inside w.in-Some.ensures
      | in-None w ↦ w.w-is ∙ word-unbound _ _ _ inside w.in-None.ensures
    ])
