-- Numbers written, and a text put into a buffer.
use Rattle.std.specs.Prelude.{◌≡◌, List, [], ◌∷◌, ◌++◌, ℕ, ◌+◌, ◌≤◌, length, take, drop}
use Rattle.text.specs.Text.{decimal}

-- numbers, each after a tab
unfoldable pub numbers_text : List ℕ → List ℕ
numbers_text [] = []
numbers_text (v ∷ vs) = 9 ∷ (decimal v ++ numbers_text vs)

-- every number is within the limit
pub data Within : List ℕ → Type 0 where
  empty : Within []
  limited : {v : ℕ} {vs : List ℕ} → v ≤ 4294967295 → Within vs → Within (v ∷ vs)

-- the buffer with a text at a place
unfoldable pub put_text : List ℕ → ℕ → List ℕ → List ℕ
put_text b at t = take at b ++ (t ++ drop (at + length t) b)

-- the text was put, and the place after it is told
pub record Put (b : List ℕ) (at : ℕ) (t : List ℕ) (b' : List ℕ) (r : ℕ) : Type 0 where
  pub place : r ≡ at + length t
  pub text : b' ≡ put_text b at t
