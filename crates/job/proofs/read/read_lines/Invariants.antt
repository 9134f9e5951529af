-- `job::read::read_lines` meets its contract. The loop's invariant: what the rest of the text means after what is read so far is what the whole means. Assumes nothing.
use Rattle.std.proofs.Common.{◌-◌, length}
use Rattle.job.specs.Job.{blank}
use Rattle.job.specs.Held.{heading_of}
use Rattle.job.proofs.Going.{Goes}
use Rattle.job.proofs.read.read_lines.Given as goal

abbrev pub invariant-loop-at : goal.invariant-loop-at
invariant-loop-at l =
    Goes l.text (record { heading = blank; table = l.initial.table; store = l.initial.store; bindings = l.initial.bindings })
    (record { heading = heading_of l.h; table = l.table; store = l.store; bindings = l.bindings }) l.at l.n

abbrev pub decreases-loop-at : goal.decreases-loop-at
decreases-loop-at l = length l.text - l.at
