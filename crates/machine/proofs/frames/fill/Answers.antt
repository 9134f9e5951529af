-- `frames::fill` meets its contract. Assumes nothing.
use mathlib.Core.Path.{refl, ap}
use Prim.Native.Nat.{ℕ, ◌%◌}
use native.Mathlib.Omega.{arith}
use Rattle.machine.proofs.Restoring.{filled_in, filled-out}
use Rattle.machine.proofs.frames.fill.Goals as goal

pub returns-then-at-lt6 : goal.returns-then-at-lt6
returns-then-at-lt6 c =
    filled_in _ _ _ _ _ c.requires.0 c.requires.1 (ap (λ (n : ℕ). n % 8) c.word-at.ensures) c.if-at-lt6.true refl

pub returns-else-at-lt6 : goal.returns-else-at-lt6
returns-else-at-lt6 c = filled-out _ _ _ _ (ap (λ (n : ℕ). n % 8) c.word-at.ensures) (omega (arith, c.if-at-lt6.false))
