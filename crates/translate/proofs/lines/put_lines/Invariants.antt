-- `translate::lines::put_lines` meets its contract. The loop's invariant: what is left to put after what was put is all. Assumes nothing.
use Rattle.translate.proofs.Lining.{Lining}
use mathlib.Core.Path.{◌≡◌}
use Prim.Native.Nat.{◌-◌}
use lib.ListN.{length}
use Rattle.translate.proofs.lines.put_lines.Given as goal

abbrev pub invariant-loop-at : goal.invariant-loop-at
invariant-loop-at l =
    Lining l.text l.used l.initial.table l.table l.e l.at × (length l.ends ≡ length l.initial.ends)

abbrev pub decreases-loop-at : goal.decreases-loop-at
decreases-loop-at l =
    length l.text - l.at
