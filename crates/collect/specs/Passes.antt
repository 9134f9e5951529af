-- What the two passes leave in the work list and in the store on their way. No promise speaks of it.
use Rattle.std.specs.Prelude.{◌≡◌, Bool, true, not, List, ℕ, ◌*◌, ◌≤◌, ◌<◌, eqb, length, get_or, take, if◌then◌else◌}
use Rattle.checks.specs.Good.{child_count, child}
use Rattle.collect.specs.Packed.{rank, packed}

-- w has n words: 1 at the numbers that pass the test, and at the others what `old` has
pub record Marks (n : ℕ) (old : ℕ → ℕ) (p : ℕ → Bool) (w : List ℕ) : Type 0 where
  pub long : length w ≡ n
  pub at : (i : ℕ) → i < n → get_or w i 0 ≡ (if p i then 1 else old i)

-- the same over the list w₀, and over zeros
abbrev pub MarksOver : List ℕ → (ℕ → Bool) → List ℕ → Type 0
MarksOver w₀ p w = Marks (length w₀) (λ i. get_or w₀ i 0) p w

abbrev pub Flags : ℕ → (ℕ → Bool) → List ℕ → Type 0
Flags n p w = Marks n (λ i. 0) p w

-- a work list's mark of node k
abbrev pub flagged : List ℕ → ℕ → Bool
flagged w k = not (eqb (get_or w k 0) 0)

-- the nodes that the work list w marks can be moved: what they name is marked, and lies below them
pub record Movable (s w : List ℕ) (mark : ℕ) : Type 0 where
  pub fits : 8 * mark ≤ length s
  pub long : mark ≤ length w
  pub count : (k : ℕ) → k < mark → child_count s k ≤ 6
  pub below : (k i : ℕ) → k < mark → i < child_count s k → child s k i < k
  pub closed : (k i : ℕ) → k < mark → flagged w k ≡ true → i < child_count s k → flagged w (child s k i) ≡ true

-- they have been moved: n of them stand first in the store, and the work list has their new numbers
pub record Moved (s₀ w₀ : List ℕ) (m n : ℕ) (s w : List ℕ) : Type 0 where
  pub mark : n ≡ rank (flagged w₀) m
  pub store : length s ≡ length s₀
  pub first : take (8 * n) s ≡ packed (flagged w₀) s₀ m
  pub work : length w ≡ length w₀
  pub number : (k : ℕ) → k < m → flagged w₀ k ≡ true → get_or w k 0 ≡ rank (flagged w₀) k
