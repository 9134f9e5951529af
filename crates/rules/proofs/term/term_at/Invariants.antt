-- `rules::term::term_at` meets its contract. The loop's invariant: what is left to go through gives what the whole gives;
-- places and counts are bounded by the place. Assumes nothing.
use mathlib.Core.Path.{◌≡◌}
use Prim.Native.Nat.{◌+◌, ◌-◌, ◌*◌, ◌≤◌}
use lib.ListN.{length}
use Rattle.rules.specs.Scan.{fields_from, scanned}
use Rattle.rules.proofs.term.term_at.Given as goal

abbrev pub invariant-loop-wanted : goal.invariant-loop-wanted
invariant-loop-wanted l =
    (scanned (fields_from l.line l.at) l.wanted l.at l.fields l.size ≡ scanned (fields_from l.line l.from) 1 l.from 0 0)
    × (l.fields ≤ l.at) × (l.size ≤ l.fields) × (3 * l.wanted ≤ 3 + 5 * l.at)

abbrev pub decreases-loop-wanted : goal.decreases-loop-wanted
decreases-loop-wanted l =
    length l.line + 1 - l.at
