-- `fly` meets its contract. Assumes nothing.
use Rattle.std.proofs.Common.{◌≡◌}
use Rattle.tallying.specs.Counts.{flown}
use Rattle.tallying.proofs.fly.Given as goal

abbrev pub invariant-loop-e : goal.invariant-loop-e
invariant-loop-e l =
    l.counts ≡ flown l.kept l.initial.counts l.e-index
