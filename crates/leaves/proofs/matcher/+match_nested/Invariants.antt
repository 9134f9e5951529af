-- `matcher::match_nested` meets its contract. The loop's invariant: from child i on, with the record as it is filled so far, all goes
-- on to the whole, whatever the mark. The measure of a call is the nesting.
use mathlib.Core.Path.{◌≡◌}
use lib.ListN.{length}
use Rattle.checks.specs.Good.{operand_count}
use Rattle.state.specs.Record.{record_long}
use Rattle.leaves.proofs.Matching.{Matched}
use Prim.Native.Nat.{◌<◌, ◌≤◌}
use Rattle.leaves.proofs.matcher.+match_nested.Given as goal

abbrev pub decreases-match_nested : goal.decreases-match_nested
decreases-match_nested l = l.deep

abbrev pub invariant-loop-i : goal.invariant-loop-i
invariant-loop-i l =
    (l.i ≤ l.i-end) × (l.i-end ≡ operand_count l.table l.p) × (l.left < 4294967296) × (length l.st ≡ record_long) × Matched l.table l.store l.deep l.p l.s l.initial.st l.st l.left l.i
