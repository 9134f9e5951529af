-- `frames::move_on` meets its contract. Assumes nothing.
use mathlib.Core.Path.{refl, ap}
use Prim.Native.Nat.{ℕ, ◌+◌, ◌%◌}
use Rattle.machine.proofs.Opening.{moved_on}
use Rattle.machine.proofs.frames.move_on.Goals as goal

pub returns : goal.returns
returns c t e =
    moved_on _ _ _ _ _ _ _ _ _ _ t c.requires.0 c.requires.1 refl c.put_head.ensures e c.word-x.ensures c.word-y.ensures
    (ap (λ (n : ℕ). n % 8 + 1) c.word.ensures)
