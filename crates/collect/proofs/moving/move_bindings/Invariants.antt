-- `collect::moving::move_bindings` meets its contract. The loop's invariant: the words so far are moved, and those after them are
-- as lent. Assumes nothing.
use lib.ListN.{get_or}
use Rattle.collect.proofs.Rebinding.{Rebinds}
use Rattle.collect.proofs.moving.move_bindings.Given as goal

abbrev pub invariant-loop-v : goal.invariant-loop-v
invariant-loop-v l = Rebinds (λ k. get_or l.work k 0) l.initial.bindings l.v l.bindings
