-- Rows of eight words: one that was put, and the others. Assumes nothing.
use mathlib.Core.Path.{◌≡◌, refl, ap, sym, ◌∙◌}
use mathlib.Core.Logic.{◌≢◌, ◌⊎◌, ⊎_elim}
use mathlib.Core.List.{List, [], ◌∷◌}
use Prim.Native.Nat.{ℕ, zero, suc, ◌+◌, ◌*◌, ◌/◌, ◌%◌, ◌<◌, ◌≤◌}
use native.Mathlib.Omega.{arith}
use lib.ListN.{length, get_or}
use Rattle.words.specs.Words.{word_at, put_row}
use Rattle.words.proofs.Rows.{word_at-put_row-same, word_at-put_row-other}
use Rattle.machine.specs.Stack.{row_at}

-- eight words are a row
pub eight-list : (r : List ℕ) → length r ≡ 8 → r ≡ get_or r 0 0 ∷ get_or r 1 0 ∷ get_or r 2 0 ∷ get_or r 3 0 ∷ get_or r 4 0 ∷ get_or r 5 0 ∷ get_or r 6 0
    ∷ get_or r 7 0 ∷ []
eight-list [] l = absurd (omega arith)
eight-list (a ∷ []) l = absurd (omega arith)
eight-list (a ∷ b ∷ []) l = absurd (omega arith)
eight-list (a ∷ b ∷ c ∷ []) l = absurd (omega arith)
eight-list (a ∷ b ∷ c ∷ d ∷ []) l = absurd (omega arith)
eight-list (a ∷ b ∷ c ∷ d ∷ e ∷ []) l = absurd (omega arith)
eight-list (a ∷ b ∷ c ∷ d ∷ e ∷ f ∷ []) l = absurd (omega arith)
eight-list (a ∷ b ∷ c ∷ d ∷ e ∷ f ∷ g ∷ []) l = absurd (omega arith)
eight-list (a ∷ b ∷ c ∷ d ∷ e ∷ f ∷ g ∷ h ∷ []) l = refl
eight-list (a ∷ b ∷ c ∷ d ∷ e ∷ f ∷ g ∷ h ∷ i ∷ r) l = absurd (omega arith)

-- rows with the same words are the same
pub row_same : (u v : List ℕ) (q r : ℕ) → ((j : ℕ) → j < 8 → word_at u q j ≡ word_at v r j) → row_at u q ≡ row_at v r
row_same u v q r f =
    λ z. f 0 (omega arith) z ∷ f 1 (omega arith) z ∷ f 2 (omega arith) z ∷ f 3 (omega arith) z ∷ f 4 (omega arith) z ∷ f 5 (omega arith) z
    ∷ f 6 (omega arith) z ∷ f 7 (omega arith) z ∷ []

-- word j of a row
pub row_word : (u : List ℕ) (r j : ℕ) → j < 8 → get_or (row_at u r) j 0 ≡ word_at u r j
row_word u r zero l = refl
row_word u r (suc zero) l = refl
row_word u r (suc (suc zero)) l = refl
row_word u r (suc (suc (suc zero))) l = refl
row_word u r (suc (suc (suc (suc zero)))) l = refl
row_word u r (suc (suc (suc (suc (suc zero))))) l = refl
row_word u r (suc (suc (suc (suc (suc (suc zero)))))) l = refl
row_word u r (suc (suc (suc (suc (suc (suc (suc zero))))))) l = refl
row_word u r (suc (suc (suc (suc (suc (suc (suc (suc j)))))))) l = absurd (omega arith)

-- a row that was put, and every other word
module _ (w : List ℕ) (k : ℕ) (r : List ℕ) (inside : 8 * k + 8 ≤ length w) (eight : length r ≡ 8) where
  pub row_put : row_at (put_row w k r) k ≡ r
  row_put =
      let at = word_at-put_row-same w k r inside eight in
      (λ z. at 0 (omega arith) z ∷ at 1 (omega arith) z ∷ at 2 (omega arith) z ∷ at 3 (omega arith) z ∷ at 4 (omega arith) z ∷ at 5 (omega
      arith) z ∷ at 6 (omega arith) z ∷ at 7 (omega arith) z ∷ [])
      ∙ sym (eight-list r eight)

  pub row_kept : (i : ℕ) → i ≢ k → row_at (put_row w k r) i ≡ row_at w i
  row_kept i n = row_same (put_row w k r) w i i (λ j l. word_at-put_row-other w k r inside eight i j l n)

  pub place_kept : (j : ℕ) → (j < 8 * k) ⊎ (8 * k + 8 ≤ j) → get_or (put_row w k r) j 0 ≡ get_or w j 0
  place_kept j h =
      let e : 8 * (j / 8) + j % 8 ≡ j = omega arith in
      let n : (j / 8 ≡ k → ⊥) = λ z. ⊎_elim (λ l. omega arith) (λ l. omega arith) h in
      ap (λ (i : ℕ). get_or (put_row w k r) i 0) (sym e) ∙ word_at-put_row-other w k r inside eight (j / 8) (j % 8) (omega arith) n ∙ ap (λ (i :
      ℕ). get_or w i 0) e
