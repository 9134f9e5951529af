-- `text::field::numbers` meets its contract. The loop's invariant: the numbers so far and the fields from i on decide. Assumes nothing.
use mathlib.Core.Path.{◌≡◌}
use Prim.Native.Nat.{◌-◌, ◌≤◌}
use lib.ListN.{length, drop}
use Prim.Native.Nat.{◌<◌}
use lib.ListN.{take, get_or}
use mathlib.Core.List.{tail}
use Rattle.text.specs.Text.{parts, numbers_of}
use Rattle.text.proofs.Fields.{Filled, after}
use Rattle.text.proofs.field.numbers.Given as goal

abbrev pub invariant-loop-i : goal.invariant-loop-i
invariant-loop-i l =
    (l.count ≤ 8)
    × (l.i ≤ length l.line)
    × (l.i < length l.line → get_or l.line l.i 0 ≡ 9)
    × Filled l.at l.count
    × (after (take l.count l.at) (numbers_of (8 - l.count) (tail (parts 9 (drop l.i l.line)))) ≡ numbers_of 8 (tail (parts 9 (drop l.from l.line))))

abbrev pub decreases-loop-i : goal.decreases-loop-i
decreases-loop-i l =
    length l.line - l.i
