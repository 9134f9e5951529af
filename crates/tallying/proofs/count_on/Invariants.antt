-- `count_on` meets its contract: what is counted so far is kept from turn to turn. A turn that is no visit comes nearer to the root, and a
-- visit is one of those that are left. Assumes nothing.
use Rattle.std.proofs.Common.{◌+◌, ◌*◌, ◌<◌}
use Rattle.machine.proofs.Going.{rank}
use Rattle.tallying.specs.Counts.{Room}
use Rattle.tallying.specs.Tally.{CountedOn}
use Rattle.tallying.proofs.count_on.Given as goal

abbrev pub invariant-loop-kept : goal.invariant-loop-kept
invariant-loop-kept l =
    CountedOn l.shares l.table l.initial.store l.initial.work l.initial.counts l.initial.m l.m l.s l.store l.work l.kept l.counts × Room l.initial.counts × (l.initial.m.fuel < 4294967296)

abbrev pub decreases-loop-kept : goal.decreases-loop-kept
decreases-loop-kept l =
    4098 * l.m.fuel + rank l.m
