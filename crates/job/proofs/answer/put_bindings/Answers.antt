-- The lines of the bound variables below v are put, and one more.
use Rattle.std.proofs.Common.{arith, refl, ◌∙◌}
use Rattle.job.proofs.Answers.{bindings-none, bindings-more, length-bindings}
use Rattle.job.proofs.answer.put_bindings.Goals as goal

pub loop-v-init : goal.loop-v-init
loop-v-init c = (refl, bindings-none c.args.buf.now c.args.bindings.now c.args.start)

pub put_binding-at-requires : goal.put_binding-at-requires
put_binding-at-requires c =
    (omega (arith, c.loop-v.invariant.1.place, length-bindings c.args.bindings.now c.loop-v.v), omega arith)

pub loop-v-preserved : goal.loop-v-preserved
loop-v-preserved c = (
  c.put_binding-at.auto.buf ∙ c.loop-v.invariant.0,
  bindings-more c.args.bindings.now c.loop-v.v (omega arith) c.loop-v.invariant.1 c.put_binding-at.ensures,
)
