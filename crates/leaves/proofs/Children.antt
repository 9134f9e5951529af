-- The words after the first two of a row, as a list: the children of a node and the operands of an entry, one at a time,
-- and a row that is filled with children one at a time.
use mathlib.Core.Path.{◌≡◌, refl, ap, sym, ◌∙◌}
use mathlib.Core.List.{List, [], ◌∷◌, ◌++◌, append_assoc}
use Prim.Native.Nat.{ℕ, zero, suc, ◌+◌, ◌-◌, ◌≤◌, ◌<◌, min}
use native.Mathlib.Omega.{arith}
use native.Mathlib.Numerals.{add-one}
use lib.ListN.{length, get_or, take, drop, set, replicate, length-take, length-append, drop_of_length-le}
use lib.Seq.{drop-cons, get_or-take, set-append_seam}
use Rattle.words.specs.Words.{word_at}
use Rattle.meaning.specs.Table.{six}
use Rattle.meaning.specs.Store.{row}

module _ (w : List ℕ) (k : ℕ) where
  -- word i of the six
  pub six-at : (i : ℕ) → i < 6 → get_or (six w k) i 0 ≡ word_at w k (2 + i)
  six-at zero h = refl
  six-at (suc zero) h = refl
  six-at (suc (suc zero)) h = refl
  six-at (suc (suc (suc zero))) h = refl
  six-at (suc (suc (suc (suc zero)))) h = refl
  six-at (suc (suc (suc (suc (suc zero))))) h = refl
  six-at (suc (suc (suc (suc (suc (suc i)))))) h = absurd (omega arith)

  module _ (n : ℕ) where
    -- the first n of them: at most six
    pub part_length : length (take n (six w k)) ≡ min n 6
    part_length = length-take n (six w k)

    -- the next one
    pub part-next : (i : ℕ) → i < min n 6 → drop i (take n (six w k)) ≡ word_at w k (2 + i) ∷ drop (i + 1) (take n (six w k))
    part-next i h =
        let j : i < length (take n (six w k)) = omega (arith, part_length) in
        let l : i < n = omega arith in
        let e : get_or (take n (six w k)) i 0 ≡ word_at w k (2 + i) = get_or-take n (six w k) i 0 l ∙ six-at i (omega arith) in
        rw (add-one, drop-cons (take n (six w k)) i 0 j, e)

    -- none is left
    pub part_end : (i : ℕ) → min n 6 ≤ i → drop i (take n (six w k)) ≡ []
    part_end i h = drop_of_length-le (take n (six w k)) {i = i} (omega (arith, part_length))

-- the eight words of a node whose children are gs so far
abbrev pub filled : ℕ → ℕ → List ℕ → List ℕ
filled c n gs = c ∷ n ∷ gs ++ replicate (6 - length gs) 0

-- one child more
pub filled_next : (c n i x : ℕ) (gs made : List ℕ) → made ≡ filled c n gs → length gs ≡ i → i < 6 →
    set made (2 + i) x ≡ filled c n (gs ++ (x ∷ []))
filled_next c n i x gs made e h l =
    let j : 2 + i ≡ suc (suc (length gs)) = omega arith in
    let z : 6 - length gs ≡ suc (6 - length (gs ++ (x ∷ []))) = omega (arith, length-append gs (x ∷ [])) in
    let s : set (gs ++ (0 ∷ replicate (6 - length (gs ++ (x ∷ []))) 0)) (length gs) x ≡ (gs ++ (x ∷ [])) ++ replicate
    (6 - length (gs ++ (x ∷ []))) 0 = set-append_seam gs 0 _ x ∙ sym (append_assoc gs (x ∷ []) _) in
    rw (e, j, z) (ap (λ r. c ∷ n ∷ r) s)

pub one_more : (gs : List ℕ) (x i : ℕ) → length gs ≡ i → length (gs ++ (x ∷ [])) ≡ i + 1
one_more gs x i h = omega (arith, length-append gs (x ∷ []))

-- with all its children it is the node's row
pub filled_row : (c n : ℕ) (gs made : List ℕ) → made ≡ filled c n gs → length gs ≡ n → made ≡ row c gs
unfolding row
filled_row c n gs made e h = e ∙ ap (λ (l : ℕ). c ∷ l ∷ gs ++ replicate (6 - length gs) 0) (sym h)
