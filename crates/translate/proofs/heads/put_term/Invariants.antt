-- `rules::heads::put_term` meets its contract. The loop's invariant: what is left to put after what was put is all. Assumes nothing.
use Rattle.translate.proofs.Putting.{Puts}
use lib.ListN.{length}
use Prim.Native.Nat.{◌+◌, ◌-◌}
use Rattle.translate.proofs.heads.put_term.Given as goal

abbrev pub invariant-loop-wanted : goal.invariant-loop-wanted
invariant-loop-wanted l =
    Puts l.line l.from l.first l.initial.table l.table l.wanted l.at l.e

abbrev pub decreases-loop-wanted : goal.decreases-loop-wanted
decreases-loop-wanted l =
    length l.line + 1 - l.at
