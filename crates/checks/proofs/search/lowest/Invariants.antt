-- `checks::search::lowest` meets its contract. The loop's invariant: the test held at every number before. Assumes nothing.
use Rattle.std.proofs.Common.{ℕ, true, ◌<◌}
use Rattle.checks.proofs.search.lowest.Given as goal

abbrev pub invariant-loop-k : goal.invariant-loop-k
invariant-loop-k g l = (j : ℕ) → j < l.k → goal.F-post g l.good j true
