-- `job::answer::put_node` meets its contract: the letter and the rest. Assumes nothing.
use Rattle.std.proofs.Common.{arith, ◌+◌}
use Rattle.job.proofs.Answers.{node-put}
use Rattle.job.proofs.answer.put_node.Goals as goal

pub returns : goal.returns
returns c =
    node-put c.args.store.now c.args.k (c.min-shown.result + 1) c.node_shown-numbers.result (omega arith)
    c.node_shown-numbers.ensures (omega (arith, c.word.ensures, c.min-shown.ensures)) c.put_byte-end.ensures c.put_rest.ensures
