-- `matcher::match_in_place` meets its contract. The loop's invariant: from child i of the pattern x on, with the record as it is
-- filled so far, all goes on to what answers the whole, whatever the mark. The measure counts seven for each level of
-- nesting, and the children left, which are at most six.
use mathlib.Core.Path.{◌≡◌}
use Prim.Native.Nat.{◌+◌, ◌-◌, ◌*◌, ◌<◌, ◌≤◌}
use lib.ListN.{length}
use Rattle.checks.specs.Good.{operand_count}
use Rattle.state.specs.Record.{record_long}
use Rattle.leaves.proofs.Matching.{Going}
use Rattle.leaves.proofs.matcher.match_in_place.Given as goal

abbrev pub invariant-loop-i : goal.invariant-loop-i
invariant-loop-i l =
    (l.i ≤ l.n) × (l.n ≡ operand_count l.table l.x) × (l.left < 4294967296) × (0 < l.d) × (length l.st ≡ record_long) × Going l.table l.store l.deep l.p l.s l.initial.st
    l.d l.x l.t l.st l.left l.i

abbrev pub decreases-loop-i : goal.decreases-loop-i
decreases-loop-i l =
    7 * l.d + (l.n - l.i)
