-- `nodes::row_at` meets its contract. Assumes nothing.
use mathlib.Core.Path.{◌≡◌, sym}
use mathlib.Core.List.{[], ◌∷◌}
use Prim.Native.Nat.{ℕ, ◌+◌, ◌*◌}
use native.Mathlib.Omega.{arith}
use lib.ListN.{get_or-eq_default}
use Rattle.words.specs.Words.{word_at}
use Rattle.machine.proofs.nodes.row_at.Goals as goal

pub returns-else-r-words : goal.returns-else-r-words
returns-else-r-words c =
    let zero-at : (j : ℕ) → 0 ≡ word_at c.args.words.now c.args.r j = λ j. sym (get_or-eq_default c.args.words.now 0 {n = 8 * c.args.r + j} (omega (arith, c.if-r-words.false))) in
    λ z. zero-at 0 z ∷ zero-at 1 z ∷ zero-at 2 z ∷ zero-at 3 z ∷ zero-at 4 z ∷ zero-at 5 z ∷ zero-at 6 z ∷ zero-at 7 z ∷ []
