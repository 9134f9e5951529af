-- `collect::marking::mark_reached` meets its contract. The loop's invariant: the marks are those of the roots and of the children of
-- reached nodes from k on. Assumes nothing.
use Rattle.std.proofs.Common.{◌-◌, length}
use Rattle.collect.specs.Reachable.{reached}
use Rattle.collect.specs.Passes.{Flags}
use Rattle.collect.proofs.marking.mark_reached.Given as goal

abbrev pub invariant-loop-k : goal.invariant-loop-k
invariant-loop-k l = Flags (length l.initial.work) (reached l.store l.bindings l.mark l.subject (l.mark - l.k)) l.work
