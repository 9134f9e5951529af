-- `translate::link::row_linked` meets its contract: what is still to be filled in gives the whole row. Assumes nothing.
use mathlib.Core.Path.{◌≡◌}
use Prim.Native.Nat.{◌+◌, ◌-◌}
use lib.ListN.{length}
use Rattle.translate.specs.Links.{filled, row_linked}
use Rattle.translate.proofs.link.row_linked.Given as goal

abbrev pub invariant-loop-i : goal.invariant-loop-i
invariant-loop-i l =
    (length l.row ≡ 8) × (filled (l.i-end - l.i) l.end l.ends l.row (2 + l.i) ≡ row_linked l.table l.ends l.e)
