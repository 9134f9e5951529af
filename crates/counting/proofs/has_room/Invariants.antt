-- `has_room` meets its contract. The loop's invariant: what comes from word j on decides. Assumes nothing.
use mathlib.Core.Path.{◌≡◌}
use Prim.Native.Nat.{◌+◌, ◌-◌, ◌*◌, ◌≤◌}
use lib.Dec.{leb}
use lib.ListN.{get_or}
use Rattle.words.specs.Tests.{every}
use Rattle.tallying.specs.Counts.{highest}
use Rattle.counting.proofs.has_room.Given as goal

abbrev pub invariant-loop-j : goal.invariant-loop-j
invariant-loop-j l =
    (l.j ≤ 4)
    × (every (λ j. leb (get_or l.counts (4 * l.x + j) 0) highest) l.j (4 - l.j) ≡ every (λ j. leb (get_or l.counts (4 * l.x + j) 0) highest) 0 4)
