-- `checks::entries::check_all_entries` meets its contract. The loop's invariant: every entry before is good. Assumes nothing.
use Rattle.std.proofs.Common.{◌≡◌, ℕ, true, ◌<◌}
use Rattle.checks.specs.Good.{good_entry}
use Rattle.checks.proofs.entries.check_all_entries.Given as goal

abbrev pub invariant-loop-e : goal.invariant-loop-e
invariant-loop-e l = (k : ℕ) → k < l.e → good_entry l.table k ≡ true
