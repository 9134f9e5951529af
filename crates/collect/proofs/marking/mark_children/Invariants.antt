-- `collect::marking::mark_children` meets its contract. The loop's invariant: the first i children are marked. Assumes nothing.
use lib.Dec.{eqb}
use Rattle.checks.specs.Good.{child}
use Rattle.collect.specs.Reachable.{among}
use Rattle.collect.specs.Passes.{MarksOver}
use Rattle.collect.proofs.marking.mark_children.Given as goal

abbrev pub invariant-loop-i : goal.invariant-loop-i
invariant-loop-i l = MarksOver l.initial.work (λ j. among (λ m. eqb (child l.store l.k m) j) l.i) l.work
