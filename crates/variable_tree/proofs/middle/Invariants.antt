-- `variable_tree::middle` meets its contract: the lower end never passes the upper one. Assumes nothing.
use Prim.Native.Nat.{◌-◌, ◌≤◌}
use Rattle.variable_tree.proofs.middle.Given as goal

abbrev pub invariant-loop-high : goal.invariant-loop-high
invariant-loop-high l =
    (l.low ≤ l.high) × (l.high ≤ l.below)

abbrev pub decreases-loop-high : goal.decreases-loop-high
decreases-loop-high l =
    l.high - l.low
