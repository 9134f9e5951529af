-- `rules::shape::shape_of` meets its contract. The loop's invariant: the fields up to the place are those of a rule. Assumes nothing.
use Rattle.rules.proofs.Shaping.{Shaping}
use lib.ListN.{length}
use Prim.Native.Nat.{◌+◌, ◌-◌}
use Rattle.rules.proofs.shape.shape_of.Given as goal

abbrev pub invariant-loop-at : goal.invariant-loop-at
invariant-loop-at l =
    Shaping l.line l.left.at l.right.at l.fields l.size l.at

abbrev pub decreases-loop-at : goal.decreases-loop-at
decreases-loop-at l =
    length l.line + 1 - l.at
