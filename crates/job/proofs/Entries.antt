-- An `e` line, field by field: its kind, its argument and its operands. Assumes nothing.
use mathlib.Core.Path.{◌≡◌, refl, ap, sym, ◌∙◌}
use mathlib.Core.Bool.{Bool, true, false, ◌&&◌, ◌||◌}
use mathlib.Core.List.{List, [], ◌∷◌, ◌++◌, tail}
use mathlib.Core.Option.{Option, none, some}
use Prim.Native.Nat.{ℕ, suc, ◌+◌, ◌-◌, ◌/◌, ◌%◌, ◌≤◌, ◌<◌}
use native.Mathlib.Omega.{arith}
use lib.Dec.{leb, eqb}
use lib.ListN.{length, get_or, drop, replicate}
use borrow.Author.Tests.{le-leb, lt-leb}
use Rattle.text.specs.Text.{one_word, two_words, parts, number_of, in_front, numbers_of, eight}
use Rattle.text.specs.Held.{numbers_held}
use Rattle.std.specs.Prelude.{Some, None}
use Rattle.text.specs.declared.Numbers.{Numbers}
use Rattle.text.proofs.Parts.{parts-end}
use Rattle.job.specs.Lines.{Taken, entry_fits, fits, line_from, entry_numbers, no_line, line_held}
use Rattle.job.proofs.Shapes.{get_or-eight}

-- Which numbers fit, and which do not.
module _ (k a : ℕ) (vs : List ℕ) where
  abbrev all : List ℕ
  all = k ∷ a ∷ vs

  many : 6 < length vs → fits 1 (length all) all ≡ false
  unfolding fits entry_fits
  many l = rw (le-leb 2 (suc (suc (length vs))) (omega arith), lt-leb (suc (suc (length vs))) 8 (omega arith))

  no_kind : 255 < k → fits 1 (length all) all ≡ false
  unfolding fits entry_fits
  no_kind l = rw (le-leb 2 (suc (suc (length vs))) (omega arith), lt-leb k 255 l) (go (leb (suc (suc (length vs))) 8))
    where
      go : (b : Bool) → b && false ≡ false
      go true = refl
      go false = refl

  no-argument : eqb k 16 || leb a one_word ≡ false → fits 1 (length all) all ≡ false
  unfolding fits entry_fits
  no-argument n = rw (le-leb 2 (suc (suc (length vs))) (omega arith), n) (go (leb (suc (suc (length vs))) 8) (leb k 255))
    where
      go : (b c : Bool) → b && (c && false) ≡ false
      go true true = refl
      go true false = refl
      go false c = refl

  all_fit : length vs ≤ 6 → k ≤ 255 → eqb k 16 || leb a one_word ≡ true → fits 1 (length all) all ≡ true
  unfolding fits entry_fits
  all_fit l m o = rw (le-leb 2 (suc (suc (length vs))) (omega arith), le-leb (suc (suc (length vs))) 8 (omega arith), le-leb k 255 m, o)

-- Six places for the operands.
six : (vs : List ℕ) → length vs ≤ 6
    → get_or vs 0 0 ∷ get_or vs 1 0 ∷ get_or vs 2 0 ∷ get_or vs 3 0 ∷ get_or vs 4 0 ∷ get_or vs 5 0 ∷ [] ≡ vs ++ replicate (8 - suc (suc (length vs))) 0
six [] l = refl
six (a ∷ []) l = refl
six (a ∷ b ∷ []) l = refl
six (a ∷ b ∷ c ∷ []) l = refl
six (a ∷ b ∷ c ∷ d ∷ []) l = refl
six (a ∷ b ∷ c ∷ d ∷ e ∷ []) l = refl
six (a ∷ b ∷ c ∷ d ∷ e ∷ f ∷ []) l = refl
six (a ∷ b ∷ c ∷ d ∷ e ∷ f ∷ g ∷ vs) l = absurd (omega arith)

abbrev made : ℕ → List ℕ → ℕ → ℕ → Taken
made n at h next = record { name = 1; count = n; at = at; high = h; next = next }

module _ (k a next : ℕ) (got : Numbers) where
  abbrev held : Option (List ℕ) → Taken
  held o = line_held (line_from 1 (in_front (some k) (in_front (some a) o))) next

  -- Fields that are no numbers, or too many.
  pub entry-many : (o : Option (List ℕ)) → Some got ≡ numbers_held o → 6 < got.count → no_line next ≡ held o
  entry-many none e l = refl
  entry-many (some vs) e l =
      let i : got ≡ record { count = length vs; at = eight vs } = cc in
      sym (rw (many k a vs (omega (arith, ap (λ (n : Numbers). n.count) i))))

  -- A kind above 255.
  pub entry-no-kind : (o : Option (List ℕ)) → 255 < k → no_line next ≡ held o
  entry-no-kind none l = refl
  entry-no-kind (some vs) l = sym (rw (no_kind k a vs l))

  -- An argument of two words, of an entry that is no scope.
  pub entry-no-argument : (o : Option (List ℕ)) → eqb k 16 || leb a one_word ≡ false → no_line next ≡ held o
  entry-no-argument none n = refl
  entry-no-argument (some vs) n = sym (rw (no-argument k a vs n))

  -- The line.
  pub entry-made : (o : Option (List ℕ)) → Some got ≡ numbers_held o → got.count ≤ 6 → k ≤ 255 → eqb k 16 || leb a one_word ≡ true
      → made (got.count + 2) (k ∷ (a % 4294967296) ∷ get_or got.at 0 0 ∷ get_or got.at 1 0 ∷ get_or got.at 2 0 ∷ get_or got.at 3 0
      ∷ get_or got.at 4 0 ∷ get_or got.at 5 0 ∷ []) (a / 4294967296) next ≡ held o
  unfolding eight
  entry-made none e l m p = cc
  entry-made (some vs) e l m p =
      let i : got ≡ record { count = length vs; at = eight vs } = cc in
      let c : got.count ≡ length vs = ap (λ (n : Numbers). n.count) i in
      let n : got.count + 2 ≡ suc (suc (length vs)) = omega (arith, c) in
      let w : (j : ℕ) → get_or got.at j 0 ≡ get_or vs j 0 = λ j. ap (λ (n : Numbers). get_or n.at j 0) i ∙ get_or-eight vs j in
      let s = six vs (omega (arith, c)) in
      let r : k ∷ (a % 4294967296) ∷ get_or got.at 0 0 ∷ get_or got.at 1 0 ∷ get_or got.at 2 0 ∷ get_or got.at 3 0 ∷ get_or got.at 4 0 ∷ get_or got.at 5 0 ∷ []
      ≡ k ∷ (a % 4294967296) ∷ (vs ++ replicate (8 - suc (suc (length vs))) 0) =
      (λ z. k ∷ (a % 4294967296) ∷ w 0 z ∷ w 1 z ∷ w 2 z ∷ w 3 z ∷ w 4 z ∷ w 5 z ∷ []) ∙ ap (λ (t : List ℕ). k ∷ (a % 4294967296) ∷ t) s in
      (λ z. made (n z) (r z) (a / 4294967296) next) ∙ sym (rw (all_fit k a vs (omega (arith, c)) m p))

-- Fields that make no line.
module _ (next : ℕ) where
  abbrev read : List (List ℕ) → Taken
  read fs = line_held (line_from 1 (entry_numbers fs)) next

  none_read : (fs : List (List ℕ)) → entry_numbers fs ≡ none → no_line next ≡ read fs
  none_read fs e = sym (ap (λ (o : Option (List ℕ)). line_held (line_from 1 o) next) e)

  -- No field is left.
  pub no_field : (line : List ℕ) (e : ℕ) → length line ≤ e → no_line next ≡ read (tail (parts 9 (drop e line)))
  unfolding entry_numbers
  no_field line e l = none_read (tail (parts 9 (drop e line))) (rw (parts-end 9 line e l))

  -- The kind is no number.
  pub kind-none : (f : List ℕ) (fs gs : List (List ℕ)) → fs ≡ f ∷ gs → none ≡ number_of one_word f → no_line next ≡ read fs
  unfolding entry_numbers
  kind-none f fs gs e n = none_read fs (ap entry_numbers e ∙ go gs)
    where
      go : (gs : List (List ℕ)) → entry_numbers (f ∷ gs) ≡ none
      go [] = refl
      go (g ∷ gs) = rw (← n)

  -- There is no argument.
  pub argument-left : (f line : List ℕ) (fs : List (List ℕ)) (e : ℕ) → fs ≡ f ∷ tail (parts 9 (drop e line)) → length line ≤ e → no_line next ≡ read fs
  unfolding entry_numbers
  argument-left f line fs e z l = none_read fs (ap entry_numbers z ∙ rw (parts-end 9 line e l))

  -- The argument is no number.
  pub argument-none : (f g : List ℕ) (fs gs : List (List ℕ)) → fs ≡ f ∷ g ∷ gs → none ≡ number_of two_words g → no_line next ≡ read fs
  unfolding entry_numbers
  argument-none f g fs gs e n = none_read fs (ap entry_numbers e ∙ rw (← n) (go (number_of one_word f)))
    where
      go : (o : Option ℕ) → in_front o none ≡ none
      go none = refl
      go (some v) = refl

-- The operands are no numbers, or too many.
pub operands-none : (next : ℕ) (f g : List ℕ) (fs gs : List (List ℕ)) → fs ≡ f ∷ g ∷ gs → None ≡ numbers_held (numbers_of 8 gs)
    → no_line next ≡ read next fs
unfolding entry_numbers
operands-none next f g fs gs e n = none_read next fs (ap entry_numbers e ∙ go (numbers_of 8 gs) n (number_of one_word f) (number_of two_words g))
  where
    go : (o : Option (List ℕ)) → None ≡ numbers_held o → (p q : Option ℕ) → in_front p (in_front q o) ≡ none
    go (some vs) z p q = cc
    go none z none q = refl
    go none z (some v) none = refl
    go none z (some v) (some w) = refl

-- Both are numbers.
pub entry_read : (f g : List ℕ) (fs gs : List (List ℕ)) (k a : ℕ) → fs ≡ f ∷ g ∷ gs → some k ≡ number_of one_word f → some a ≡ number_of two_words g
    → entry_numbers fs ≡ in_front (some k) (in_front (some a) (numbers_of 8 gs))
unfolding entry_numbers
entry_read f g fs gs k a e p q = ap entry_numbers e ∙ rw (← p, ← q)
