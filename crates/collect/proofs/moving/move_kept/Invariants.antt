-- `collect::moving::move_kept` meets its contract. The loop's invariant: the nodes below k are done, and n of them are moved.
-- Assumes nothing.
use Rattle.collect.proofs.Progress.{Packs}
use Rattle.collect.proofs.moving.move_kept.Given as goal

abbrev pub invariant-loop-k : goal.invariant-loop-k
invariant-loop-k l = Packs l.initial.store l.initial.work l.mark l.k l.n l.store l.work
