-- `run_rules::read::read_entries` meets its contract: each `e` line ends inside the text, and has the numbers of a row. Assumes nothing.
use Rattle.std.proofs.Common.{length, ◌≤◌}
use Rattle.run_rules.proofs.read.read_entries.Given as goal

abbrev pub invariant-loop-used : goal.invariant-loop-used
invariant-loop-used l = l.at ≤ length l.text
