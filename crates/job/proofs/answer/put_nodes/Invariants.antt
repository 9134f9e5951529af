-- `job::answer::put_nodes` meets its contract. The loop's invariant: the lines of the nodes below k are put. Assumes nothing.
use Rattle.std.proofs.Common.{◌≡◌, length}
use Rattle.text.specs.Written.{Put}
use Rattle.job.specs.Written.{written}
use Rattle.job.specs.Answer.{node_lines}
use Rattle.job.proofs.answer.put_nodes.Given as goal

abbrev pub invariant-loop-k : goal.invariant-loop-k
invariant-loop-k l =
    (length l.buf ≡ length l.initial.buf) × Put l.initial.buf l.start (written (node_lines l.store l.k)) l.buf l.at
