-- A row that was put, and words that were cleared: their lengths, what stands where, what is kept.
-- Assumes nothing.
use mathlib.Core.Path.{◌≡◌, ap, sym, ◌∙◌}
use mathlib.Core.Logic.{◌≢◌, ⊎_elim}
use mathlib.Core.List.{List, [], ◌++◌, append_assoc, append-nil}
use Prim.Native.Nat.{ℕ, ◌+◌, ◌-◌, ◌*◌, ◌≤◌, ◌<◌, min}
use native.Mathlib.Nat.{eq-or-lt_of_le}
use native.Mathlib.Omega.{arith}
use lib.ListN.{length, get_or, take, drop, replicate, length-append, length-take, length-drop, length-replicate, get_or-replicate, get_or-append, get_or-eq_default}
use borrow.Rule.Slice.PartMut.{mid_of, post_of, put_mid, mid_len, Post-is}
use Rattle.std.proofs.lemmas.List.{drop_all}
use lib.Seq.{take_all, take_at, take-take, take-append-le, get_or-take, get_or-drop, get_or-append-add, length-take-le}
use Rattle.words.proofs.Tests.{below-or-from}
use Rattle.words.specs.Words.{word_at, put_row, cleared_from}

-- A list of two parts, read n places into the second.
get_or-second : (xs ys : List ℕ) (m n : ℕ) → length xs ≡ m → get_or (xs ++ ys) (m + n) 0 ≡ get_or ys n 0
get_or-second xs ys m n e = ap (λ (k : ℕ). get_or (xs ++ ys) (k + n) 0) (sym e) ∙ get_or-append-add xs ys n 0

module _ (w : List ℕ) (k : ℕ) (r : List ℕ) (inside : 8 * k + 8 ≤ length w) (eight : length r ≡ 8) where
  -- The words before the row are as many as its place says.
  before : length (take (8 * k) w) ≡ 8 * k
  before = length-take-le (8 * k) w (omega arith)

  -- So are those through its end.
  through : length (take (8 * k) w ++ r) ≡ 8 * k + 8
  through = length-append (take (8 * k) w) r ∙ omega (arith, before)

  -- The words stay as many.
  pub length-put_row : length (put_row w k r) ≡ length w
  unfolding put_row
  length-put_row = simp (length-append, length-take, length-drop) (omega arith)

  -- The rows below are kept, all at once.
  pub take-put_row : take (8 * k) (put_row w k r) ≡ take (8 * k) w
  unfolding put_row
  take-put_row = take_at (take (8 * k) w) (r ++ drop (8 * k + 8) w) (8 * k) before

  -- The row reads as it was put.
  pub word_at-put_row-same : (j : ℕ) → j < 8 → word_at (put_row w k r) k j ≡ get_or r j 0
  unfolding put_row
  word_at-put_row-same j l =
      get_or-second (take (8 * k) w) (r ++ drop (8 * k + 8) w) (8 * k) j before
      ∙ get_or-append r (drop (8 * k + 8) w) 0 j (omega arith)

  -- A row below reads as before.
  below : (i j : ℕ) → j < 8 → i < k → word_at (put_row w k r) i j ≡ word_at w i j
  unfolding put_row
  below i j l h =
      get_or-append (take (8 * k) w) (r ++ drop (8 * k + 8) w) 0 (8 * i + j) (omega (arith, before))
      ∙ get_or-take (8 * k) w (8 * i + j) 0 (omega arith)

  -- A row above reads as before.
  above : (i j : ℕ) → k < i → word_at (put_row w k r) i j ≡ word_at w i j
  unfolding put_row
  above i j h =
      let n : ℕ = 8 * i + j - (8 * k + 8) in
      let e : 8 * i + j ≡ 8 * k + 8 + n = omega arith in
      ap (λ (m : ℕ). get_or (take (8 * k) w ++ (r ++ drop (8 * k + 8) w)) m 0) e
      ∙ ap (λ (l : List ℕ). get_or l (8 * k + 8 + n) 0) (sym (append_assoc (take (8 * k) w) r (drop (8 * k + 8) w)))
      ∙ get_or-second (take (8 * k) w ++ r) (drop (8 * k + 8) w) (8 * k + 8) n through
      ∙ get_or-drop (8 * k + 8) w n 0
      ∙ ap (λ (m : ℕ). get_or w m 0) (sym e)

  -- Every other row reads as before.
  pub word_at-put_row-other : (i j : ℕ) → j < 8 → i ≢ k → word_at (put_row w k r) i j ≡ word_at w i j
  word_at-put_row-other i j l n =
      ⊎_elim (below i j l)
      (λ h. ⊎_elim (λ e. absurd (n (sym e))) (above i j) (eq-or-lt_of_le h))
      (below-or-from i k)

module _ (w : List ℕ) where
  -- The words stay as many.
  pub length-cleared_from : (i : ℕ) → length (cleared_from w i) ≡ length w
  unfolding cleared_from
  length-cleared_from i = simp (length-append, length-take, length-replicate) (omega arith)

  -- The words before place i are kept, any number of them at once.
  pub take-cleared_from : (n i : ℕ) → n ≤ i → take n (cleared_from w i) ≡ take n w
  unfolding cleared_from
  take-cleared_from n i h = ⊎_elim within past (below-or-from n (length w))
    where
      within : n < length w → take n (take i w ++ replicate (length w - i) 0) ≡ take n w
      within l = take-append-le n (take i w) _ (omega (arith, length-take i w)) ∙ take-take n i w h

      past : length w ≤ n → take n (take i w ++ replicate (length w - i) 0) ≡ take n w
      past l =
          let none : length w - i ≡ 0 = omega arith in
          let whole : take i w ≡ w = take_all i w (omega arith) in
          rw (none, whole, append-nil)

  -- Below place i the words read as before.
  pub get_or-cleared_from-below : (i j : ℕ) → j < i → get_or (cleared_from w i) j 0 ≡ get_or w j 0
  get_or-cleared_from-below i j h =
      sym (get_or-take i (cleared_from w i) j 0 h)
      ∙ ap (λ (l : List ℕ). get_or l j 0) (take-cleared_from i i (omega arith))
      ∙ get_or-take i w j 0 h

  -- From place i on they read 0.
  pub get_or-cleared_from-from : (i j : ℕ) → i ≤ j → get_or (cleared_from w i) j 0 ≡ 0
  unfolding cleared_from
  get_or-cleared_from-from i j h = ⊎_elim within past (below-or-from j (length w))
    where
      past : length w ≤ j → get_or (cleared_from w i) j 0 ≡ 0
      past l = get_or-eq_default (cleared_from w i) 0 (omega (arith, length-cleared_from i))

      within : j < length w → get_or (cleared_from w i) j 0 ≡ 0
      within l =
          let e : i + (j - i) ≡ j = omega arith in
          ap (λ (m : ℕ). get_or (take i w ++ replicate (length w - i) 0) m 0) (sym e)
          ∙ get_or-second (take i w) (replicate (length w - i) 0) i (j - i) (length-take-le i w (omega arith))
          ∙ get_or-replicate (length w - i) (j - i) 0 0 (omega arith)

  -- Zeros filled in from a place on, which is not past the end, are what is cleared.
  pub cleared_from-filled : (i m : ℕ) (v : List ℕ) → m ≡ min i (length w)
      → v ≡ replicate (length (mid_of m (length w - m) w)) 0 → put_mid m (length w - m) w v ≡ cleared_from w i
  unfolding cleared_from
  cleared_from-filled i m v e f =
      let inside : m ≤ length w = omega arith in
      let many : length (mid_of m (length w - m) w) ≡ length w - m = mid_len m (length w) w (omega arith) in
      let none : post_of m (length w - m) w ≡ [] = Post-is m (length w) w inside ∙ drop_all (length w) w (omega arith) in
      let same : length w - m ≡ length w - i = omega arith in
      rw (f, many, none, append-nil, same) (ap (λ (l : List ℕ). l ++ replicate (length w - i) 0) (⊎_elim short long (below-or-from i (length w))))
    where
      short : i < length w → take m w ≡ take i w
      short l = let z : m ≡ i = omega arith in rw z

      long : length w ≤ i → take m w ≡ take i w
      long l = take_all m w (omega arith) ∙ sym (take_all i w l)
