-- `compare::same` meets its contract. The outer loop's invariant: a word that answers the pair at hand answers the whole, and
-- both nodes stand in the store. The inner one's: from pair i on all goes on to what answers it. By every table, with any bindings
-- and mark. The measure of a call, and of the outer loop, is the nesting.
use mathlib.Core.Path.{◌≡◌}
use Rattle.state.specs.Visits.{count_of, Stored}
use Rattle.leaves.proofs.Comparing.{Pair, FromPair}
use Prim.Native.Nat.{◌<◌, ◌≤◌}
use Rattle.leaves.proofs.compare.+same.Given as goal

abbrev pub decreases-same : goal.decreases-same
decreases-same l = l.deep

abbrev pub invariant-loop-i : goal.invariant-loop-i
invariant-loop-i l =
    (l.i < l.n) × (l.n ≡ count_of l.store l.x) × (l.n ≡ count_of l.store l.y) × (l.left < 4294967296) × (l.d < l.deep)
    × FromPair l.store l.a l.b l.units l.deep l.x l.y l.d l.i l.left
    × Stored l.store l.x × Stored l.store l.y

abbrev pub invariant-loop-left : goal.invariant-loop-left
invariant-loop-left l =
    (l.left < 4294967296) × (l.d ≤ l.deep)
    × Pair l.store l.a l.b l.units l.deep l.x l.y l.d l.left
    × Stored l.store l.x × Stored l.store l.y

abbrev pub decreases-loop-left : goal.decreases-loop-left
decreases-loop-left l =
    l.d
