-- The lines of the nodes below k are put, and one more.
use Rattle.std.proofs.Common.{arith, refl, ◌∙◌}
use Rattle.job.proofs.Answers.{nodes-none, nodes-more, length-nodes}
use Rattle.job.proofs.answer.put_nodes.Goals as goal

pub loop-k-init : goal.loop-k-init
loop-k-init c = (refl, nodes-none c.args.buf.now c.args.store.now c.args.start)

pub put_node-at-requires : goal.put_node-at-requires
put_node-at-requires c = omega (arith, c.loop-k.invariant.1.place, length-nodes c.args.store.now c.loop-k.k)

pub loop-k-preserved : goal.loop-k-preserved
loop-k-preserved c = (
  c.put_node-at.auto.buf ∙ c.loop-k.invariant.0,
  nodes-more c.args.store.now c.loop-k.k (omega arith) c.loop-k.invariant.1 c.put_node-at.ensures,
)
