-- The number of a field by its length and its first byte, and eight places for the numbers of a line. Assumes nothing.
use mathlib.Core.Path.{◌≡◌, refl, ap, sym, ◌∙◌, subst}
use mathlib.Core.List.{List, [], ◌∷◌, ◌++◌, tail, append-nil}
use mathlib.Core.Option.{Option, none, some}
use Prim.Native.Nat.{ℕ, suc, ◌+◌, ◌-◌, ◌≤◌, ◌<◌}
use native.Mathlib.Omega.{arith}
use native.Mathlib.Numerals.{add-one}
use lib.ListN.{length, get_or, set, take, drop, replicate, length-set, length-drop}
use lib.Seq.{length-take-le, set_at, append_snoc, take-suc-set, drop-drop, get_or-drop}
use borrow.Author.Tests.{eq-eqb, ne_eqb}
use Rattle.text.specs.Text.{parts, up_to, one_word, valued, number_of, in_front, numbers_of, eight}
use Rattle.text.specs.Held.{numbers_held}
use Rattle.text.specs.declared.Numbers.{Numbers}
use Rattle.std.specs.Prelude as std
use Rattle.std.specs.Prelude.{Some}
use Rattle.text.proofs.Parts.{parts-on, parts-end, parts_first, up_to-take, length-up_to, up_to-stops}

-- An empty field is no number.
pub number-none : (m : ℕ) (f : List ℕ) → length f ≡ 0 → number_of m f ≡ none
unfolding number_of
number-none m [] e = refl
number-none m (b ∷ f) e = absurd (omega arith)

-- A first digit that is no zero begins a number.
pub number_digits : (m : ℕ) (f : List ℕ) → (length f ≡ 0 → ⊥) → (get_or f 0 0 ≡ 48 → ⊥) → number_of m f ≡ valued m 0 f
unfolding number_of
number_digits m [] n d = absurd (n refl)
number_digits m (b ∷ f) n d = rw (ne_eqb _ _ d)

-- A zero alone is zero.
pub number-zero : (m : ℕ) (f : List ℕ) → get_or f 0 0 ≡ 48 → length f ≡ 1 → number_of m f ≡ some 0
unfolding number_of
number-zero m [] d e = absurd (omega arith)
number-zero m (b ∷ []) d e = rw (eq-eqb _ _ d)
number-zero m (b ∷ c ∷ f) d e = absurd (omega arith)

-- A leading zero is refused.
pub number-leading : (m : ℕ) (f : List ℕ) → (length f ≡ 0 → ⊥) → get_or f 0 0 ≡ 48 → (length f ≡ 1 → ⊥) → number_of m f ≡ none
unfolding number_of
number-leading m [] n d o = absurd (n refl)
number-leading m (b ∷ []) n d o = absurd (o refl)
number-leading m (b ∷ c ∷ f) n d o = rw (eq-eqb _ _ d)

-- The first n of eight places hold numbers, and the others zeros.
pub record Filled (at : List ℕ) (n : ℕ) : Type 0 where
  pub places : length at ≡ 8
  pub rest : at ≡ take n at ++ replicate (8 - n) 0

pub filled_none : Filled (replicate 8 0) 0
filled_none = record { places = refl; rest = refl }

module _ (at : List ℕ) (n : ℕ) (filled : Filled at n) where
  -- The numbers so far, and one more.
  pub filled-taken : (v : ℕ) → n < 8 → take (n + 1) (set at n v) ≡ take n at ++ (v ∷ [])
  filled-taken v l = rw add-one (take-suc-set at n v (omega (arith, filled.places)))

  -- One more number.
  pub filled_more : (v : ℕ) → n < 8 → Filled (set at n v) (n + 1)
  filled_more v l = record {
    places = length-set at n v ∙ filled.places;
    rest =
        let e : 8 - n ≡ suc (8 - (n + 1)) = omega arith in
        let k : length (take n at) ≡ n = length-take-le n at (omega (arith, filled.places)) in
        ap (λ (l : List ℕ). set l n v) filled.rest
        ∙ ap (λ (m : ℕ). set (take n at ++ replicate m 0) n v) e
        ∙ set_at (take n at) 0 (replicate (8 - (n + 1)) 0) v n k
        ∙ sym (append_snoc (take n at) v (replicate (8 - (n + 1)) 0))
        ∙ ap (λ (l : List ℕ). l ++ replicate (8 - (n + 1)) 0) (sym (filled-taken v l));
  }

  -- The numbers so far are as many as n, and with zeros they are the places.
  pub filled-length : n ≤ 8 → length (take n at) ≡ n
  filled-length l = length-take-le n at (omega (arith, filled.places))

  pub filled-eight : n ≤ 8 → at ≡ eight (take n at)
  unfolding eight
  filled-eight l = filled.rest ∙ ap (λ (m : ℕ). take n at ++ replicate (8 - m) 0) (sym (filled-length l))

-- Numbers after those that were read.
abbrev pub after : List ℕ → Option (List ℕ) → Option (List ℕ)
after vs none = none
after vs (some ws) = some (vs ++ ws)

-- Nothing was read yet.
pub after_none : (o : Option (List ℕ)) → after [] o ≡ o
after_none none = refl
after_none (some ws) = refl

-- A number in front of the rest is one more that was read.
pub after_one : (vs : List ℕ) (v : ℕ) (o : Option (List ℕ)) → after vs (in_front (some v) o) ≡ after (vs ++ (v ∷ [])) o
after_one vs v none = refl
after_one vs v (some ws) = ap some (sym (append_snoc vs v ws))

-- No number in front: none at all.
pub after-bad : (vs : List ℕ) (o : Option (List ℕ)) → after vs (in_front none o) ≡ none
after-bad vs o = refl

module _ (line : List ℕ) (i : ℕ) (l : i < length line) (tab : get_or line i 0 ≡ 9) where
  -- The fields from a tab on: the one after it, which ends at a tab or the end, and the fields from there on.
  pub fields-next : (e : ℕ)
      → e ≡ (i + 1) + length (up_to 9 (drop (i + 1) line))
      → tail (parts 9 (drop i line)) ≡ take (e - (i + 1)) (drop (i + 1) line) ∷ tail (parts 9 (drop e line))
  fields-next e z =
      let n : ℕ = length (up_to 9 (drop (i + 1) line)) in
      let d : n ≡ e - (i + 1) = omega arith in
      parts-on 9 line i l tab
      ∙ parts_first 9 (drop (i + 1) line)
      ∙ ap (λ (f : List ℕ). f ∷ tail (parts 9 (drop n (drop (i + 1) line)))) (up_to-take 9 (drop (i + 1) line) ∙ ap (λ (m : ℕ). take m (drop (i + 1) line)) d)
      ∙ ap (λ (r : List ℕ). take (e - (i + 1)) (drop (i + 1) line) ∷ tail (parts 9 r)) (drop-drop n (i + 1) line ∙ ap (λ (m : ℕ). drop m line) (sym z))

  -- The field's end is inside the line, and a tab stands there unless it is the end.
  pub field_end : (e : ℕ)
      → e ≡ (i + 1) + length (up_to 9 (drop (i + 1) line))
      → (i < e) × (e ≤ length line) × (e < length line → get_or line e 0 ≡ 9)
  field_end e z =
      let b : length (up_to 9 (drop (i + 1) line)) ≤ length line - (i + 1) = subst (λ (m : ℕ). length (up_to 9 (drop (i + 1) line)) ≤ m)
      (length-drop (i + 1) line) (length-up_to 9 (drop (i + 1) line)) in (
        omega arith,
        omega arith,
        λ m. ap (λ (k : ℕ). get_or line k 0) z ∙ sym (get_or-drop (i + 1) line (length (up_to 9 (drop (i + 1) line))) 0) ∙ up_to-stops 9 (drop (i + 1) line) (rw (length-drop (i + 1) line) (omega arith)),
      )

  module _ (vs : List ℕ) (n e : ℕ) (z : e ≡ (i + 1) + length (up_to 9 (drop (i + 1) line))) where
    -- Too many numbers.
    pub numbers-over : 8 ≤ n → after vs (numbers_of (8 - n) (tail (parts 9 (drop i line)))) ≡ none
    unfolding numbers_of
    numbers-over m =
        let k : 8 - n ≡ 0 = omega arith in
        rw (fields-next e z, k)

    -- A field that is no number.
    pub numbers-bad : n < 8 → none ≡ number_of one_word (take (e - (i + 1)) (drop (i + 1) line)) → after vs (numbers_of (8 - n) (tail (parts 9 (drop i line)))) ≡ none
    unfolding numbers_of
    numbers-bad m p =
        let k : 8 - n ≡ suc (8 - (n + 1)) = omega arith in
        rw (fields-next e z, k, ← p)

    -- A number more.
    pub numbers_on : n < 8
        → (v : ℕ)
        → some v ≡ number_of one_word (take (e - (i + 1)) (drop (i + 1) line))
        → after (vs ++ (v ∷ [])) (numbers_of (8 - (n + 1)) (tail (parts 9 (drop e line)))) ≡ after vs (numbers_of (8 - n) (tail (parts 9 (drop i line))))
    unfolding numbers_of
    numbers_on m v p =
        let k : 8 - n ≡ suc (8 - (n + 1)) = omega arith in
        rw (fields-next e z, k, ← p) (sym (after_one vs v (numbers_of (8 - (n + 1)) (tail (parts 9 (drop e line))))))

-- At the end no number is left.
pub numbers-end : (line : List ℕ) (i k : ℕ) (vs : List ℕ) → length line ≤ i → after vs (numbers_of k (tail (parts 9 (drop i line)))) ≡ some vs
unfolding numbers_of
numbers-end line i k vs l = rw (parts-end 9 line i l) (ap some (append-nil vs))

-- Eight places that hold the numbers so far are the numbers held.
pub numbers-held : (at : List ℕ) (n : ℕ) → Filled at n → n ≤ 8 → Some (record { count = n; at = at }) ≡ numbers_held (some (take n at))
numbers-held at n filled l =
    ap (λ (k : ℕ). made k at) (sym (filled-length at n filled l))
    ∙ ap (made (length (take n at))) (filled-eight at n filled l)
  where
    made : ℕ → List ℕ → std.Option Numbers
    made k xs = Some (record { count = k; at = xs })
