-- `collect::moving::renumbered_row` meets its contract. The loop's invariant: the first i children are renumbered.
-- Assumes nothing.
use lib.ListN.{get_or}
use Rattle.collect.proofs.Renumbering.{RowTo}
use Rattle.collect.proofs.moving.renumbered_row.Given as goal

abbrev pub invariant-loop-i : goal.invariant-loop-i
invariant-loop-i l = RowTo l.store (λ c. get_or l.work c 0) l.k l.i l.row
