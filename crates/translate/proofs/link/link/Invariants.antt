-- `translate::link::link` meets its contract. The loop's invariant: table and ends are those after the entries from e on.
-- Assumes nothing.
use mathlib.Core.Path.{◌≡◌}
use Prim.Native.Nat.{◌-◌, ◌≤◌}
use lib.ListN.{length}
use Rattle.translate.specs.Links.{steps_table, steps_ends}
use Rattle.translate.proofs.link.link.Given as goal

abbrev pub invariant-loop-e : goal.invariant-loop-e
invariant-loop-e l =
    (l.first ≤ l.e) × (length l.table ≡ length l.initial.table)
    × (l.table ≡ steps_table l.initial.table l.initial.ends l.stop (l.stop - l.e)) × (l.ends ≡ steps_ends l.initial.table l.initial.ends l.stop (l.stop - l.e))
