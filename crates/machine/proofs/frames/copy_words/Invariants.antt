-- `frames::copy_words` meets its contract. Assumes nothing.
use Rattle.machine.proofs.Copying.{SoFar}
use Rattle.machine.proofs.frames.copy_words.Given as goal

abbrev pub invariant-loop-rest : goal.invariant-loop-rest
invariant-loop-rest l =
    SoFar l.initial.work l.from l.to l.mask l.v l.rest l.work

abbrev pub decreases-loop-rest : goal.decreases-loop-rest
decreases-loop-rest l =
    l.rest
