-- `go` meets its contract. The invariant: what is done so far. A turn that is no visit comes nearer to the root, and a visit is one of those
-- that are left. Assumes nothing.
use Prim.Native.Nat.{◌+◌, ◌*◌}
use Rattle.machine.proofs.Going.{rank, SoFar}
use Rattle.machine.proofs.Going.{Untouched}
use Rattle.machine.proofs.go.Given as goal

abbrev pub invariant-loop-next : goal.invariant-loop-next
invariant-loop-next l =
    SoFar l.shares l.table l.initial.store l.initial.work l.initial.m l.stop l.store l.work l.m × Untouched l.once l.initial.store l.initial.work l.initial.m l.store l.work l.m

abbrev pub decreases-loop-next : goal.decreases-loop-next
decreases-loop-next l =
    4098 * l.m.fuel + rank l.m
