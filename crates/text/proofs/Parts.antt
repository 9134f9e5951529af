-- The parts of a text: where the first one ends, and what is left after it. Assumes nothing.
use mathlib.Core.Path.{◌≡◌, refl, ap}
use mathlib.Core.Bool.{Bool, true, false}
use mathlib.Core.List.{List, [], ◌∷◌, tail}
use mathlib.Core.Option.{none, some}
use Prim.Native.Nat.{ℕ, suc, ◌+◌, ◌-◌, ◌*◌, ◌≤◌, ◌<◌}
use native.Mathlib.Numerals.{add-one}
use native.Mathlib.Omega.{arith}
use Rattle.std.proofs.lemmas.Bool.Decides.{nat_tests}
use lib.Dec.{eqb, ltb}
use lib.ListN.{length, get_or, take, drop, drop_of_length-le}
use lib.Seq.{drop-cons}
use borrow.Author.Tests.{eq-eqb, ne_eqb, lt-ltb, le-ltb, eqb-true, ltb-false}
use Rattle.std.specs.Prelude.{if◌then◌else◌, cond}
use Rattle.std.specs.List.{position_or_len}
use Rattle.std.specs.Char.{is_ascii_digit}
use Rattle.std.proofs.lemmas.List.Recursion.{is_position_or_len}
use Rattle.text.specs.Text.{grown, parts, up_to, valued}

-- A text from place i on is its byte there and the rest.
pub from-here : (s : List ℕ) (i : ℕ) → i < length s → drop i s ≡ get_or s i 0 ∷ drop (i + 1) s
from-here s i l = rw (add-one, drop-cons s i 0 l)

module _ (c : ℕ) (s : List ℕ) (i : ℕ) where
  -- At a separator nothing stands before it.
  pub up_to-here : i < length s → get_or s i 0 ≡ c → up_to c (drop i s) ≡ []
  unfolding up_to
  up_to-here l e = rw (from-here s i l, eq-eqb _ _ e)

  -- Any other byte is one more.
  pub up_to-on : i < length s → (get_or s i 0 ≡ c → ⊥) → length (up_to c (drop i s)) ≡ suc (length (up_to c (drop (i + 1) s)))
  unfolding up_to
  up_to-on l n = rw (from-here s i l, ne_eqb _ _ n)

  -- At the end there is nothing.
  pub up_to-end : length s ≤ i → up_to c (drop i s) ≡ []
  unfolding up_to
  up_to-end l = rw (drop_of_length-le s l)

  -- After a separator the parts go on.
  pub parts-on : i < length s → get_or s i 0 ≡ c → tail (parts c (drop i s)) ≡ parts c (drop (i + 1) s)
  unfolding parts
  parts-on l e = rw (from-here s i l, eq-eqb _ _ e)

  -- At the end no part is left.
  pub parts-end : length s ≤ i → tail (parts c (drop i s)) ≡ []
  unfolding parts
  parts-end l = rw (drop_of_length-le s l)

module _ (c : ℕ) where
  -- The first part, and then the parts after it.
  pub parts_first : (t : List ℕ) → parts c t ≡ up_to c t ∷ tail (parts c (drop (length (up_to c t)) t))
  unfolding parts up_to
  parts_first [] = refl
  parts_first (b ∷ s) = go (eqb b c) refl (parts_first s)
    where
      go : (q : Bool)
          → eqb b c ≡ q
          → parts c s ≡ up_to c s ∷ tail (parts c (drop (length (up_to c s)) s))
          → (if q then [] ∷ parts c s else grown b (parts c s))
          ≡ (if q then [] else b ∷ up_to c s) ∷ tail (parts c (drop (length (if q then [] else b ∷ up_to c s)) (b ∷ s)))
      go true e h = rw e
      go false e h = ap (grown b) h

  -- The first part is a beginning of the text.
  pub up_to-take : (t : List ℕ) → up_to c t ≡ take (length (up_to c t)) t
  unfolding up_to
  up_to-take [] = refl
  up_to-take (b ∷ s) = go (eqb b c) (up_to-take s)
    where
      go : (q : Bool)
          → up_to c s ≡ take (length (up_to c s)) s
          → (if q then [] else b ∷ up_to c s) ≡ take (length (if q then [] else b ∷ up_to c s)) (b ∷ s)
      go true h = refl
      go false h = ap (λ (l : List ℕ). b ∷ l) h

  -- It is no longer than the text.
  pub length-up_to : (t : List ℕ) → length (up_to c t) ≤ length t
  unfolding up_to
  length-up_to [] = omega arith
  length-up_to (b ∷ s) = go (eqb b c) (length-up_to s)
    where
      go : (q : Bool) → length (up_to c s) ≤ length s → length (if q then [] else b ∷ up_to c s) ≤ suc (length s)
      go true h = omega arith
      go false h = omega arith

  -- It ends at a separator, where it is not all.
  pub up_to-stops : (t : List ℕ) → length (up_to c t) < length t → get_or t (length (up_to c t)) 0 ≡ c
  unfolding up_to
  up_to-stops [] l = absurd (omega arith)
  up_to-stops (b ∷ s) l = go (eqb b c) refl (up_to-stops s) l
    where
      go : (q : Bool)
          → eqb b c ≡ q
          → (length (up_to c s) < length s → get_or s (length (up_to c s)) 0 ≡ c)
          → length (if q then [] else b ∷ up_to c s) < suc (length s)
          → get_or (b ∷ s) (length (if q then [] else b ∷ up_to c s)) 0 ≡ c
      go true e h l = eqb-true b c e
      go false e h l = h (omega arith)

-- From 48 to 57 a byte is a digit.
no-digit : (b : ℕ) → is_ascii_digit b ≡ false → 48 ≤ b → b ≤ 57 → ⊥
no-digit b h lo hi = grind (arith, nat_tests)

module _ (m : ℕ) (f : List ℕ) (i v : ℕ) (l : i < length f) where
  -- No digit: no number.
  pub valued-other : is_ascii_digit (get_or f i 0) ≡ false → valued m v (drop i f) ≡ none
  unfolding valued
  valued-other h = rw (from-here f i l) (go (ltb b 48) refl (ltb 57 b) refl)
    where
      b : ℕ
      b = get_or f i 0

      go : (x : Bool) → ltb b 48 ≡ x → (y : Bool) → ltb 57 b ≡ y
          → (if x then none else (if y then none else (if ltb m (v * 10 + (b - 48)) then none else valued m (v * 10 + (b - 48)) (drop (i + 1) f)))) ≡ none
      go true x y z = refl
      go false x true z = refl
      go false x false z = absurd (no-digit b h (ltb-false b 48 x) (ltb-false 57 b z))

  -- A digit: the number so far and the rest decide, within the limit.
  pub valued-over : 48 ≤ get_or f i 0 → get_or f i 0 ≤ 57 → m < v * 10 + (get_or f i 0 - 48) → valued m v (drop i f) ≡ none
  unfolding valued
  valued-over h n o = rw (from-here f i l, le-ltb _ _ h, le-ltb _ _ n, lt-ltb _ _ o)

  pub valued-on : 48 ≤ get_or f i 0 → get_or f i 0 ≤ 57 → v * 10 + (get_or f i 0 - 48) ≤ m
      → valued m v (drop i f) ≡ valued m (v * 10 + (get_or f i 0 - 48)) (drop (i + 1) f)
  unfolding valued
  valued-on h n o = rw (from-here f i l, le-ltb _ _ h, le-ltb _ _ n, le-ltb _ _ o)

-- Nothing more: the number so far.
pub valued-end : (m : ℕ) (f : List ℕ) (i v : ℕ) → length f ≤ i → valued m v (drop i f) ≡ some v
unfolding valued
valued-end m f i v l = rw (drop_of_length-le f l)

-- The part before the first separator is as long as the place of the first separator.
pub length-up_to-position : (c : ℕ) (s : List ℕ) → length (up_to c s) ≡ position_or_len (λ (b : ℕ). eqb b c) s
unfolding up_to
length-up_to-position c = is_position_or_len (λ (s : List ℕ). length (up_to c s)) (λ (b : ℕ). eqb b c) refl step
  where
    step : (b : ℕ) (s : List ℕ) → length (up_to c (b ∷ s)) ≡ cond (eqb b c) 0 (1 + length (up_to c s))
    step b s = go (eqb b c)
      where
        go : (q : Bool) → length (if q then [] else b ∷ up_to c s) ≡ cond q 0 (1 + length (up_to c s))
        go true = refl
        go false = omega arith
