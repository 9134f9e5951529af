-- A line by its name and its numbers, as the code holds them. Assumes nothing.
use mathlib.Core.Path.{◌≡◌, refl, ap, sym, ◌∙◌}
use mathlib.Core.Bool.{true, false}
use mathlib.Core.List.{List, [], ◌∷◌, ◌++◌, tail}
use mathlib.Core.Option.{Option, none, some}
use Prim.Native.Nat.{ℕ, zero, suc, ◌+◌, ◌-◌, ◌≤◌, ◌<◌}
use native.Mathlib.Omega.{arith}
use lib.Dec.{eqb}
use lib.ListN.{length, get_or, take, drop, replicate}
use borrow.Author.Tests.{lt-ltb, le-ltb}
use Rattle.text.specs.Text.{parts, up_to, numbers_of, eight}
use Rattle.text.specs.Held.{numbers_held}
use Rattle.text.specs.Lines.{line_end}
use Rattle.std.specs.Prelude.{Some, None}
use Rattle.text.specs.declared.Numbers.{Numbers}
use Rattle.job.specs.Lines.{Line, name_of, job_fits, entry_fits, node_fits, binding_fits, fits, line_from, entry_numbers, field_numbers, line_of, words, upper, no_line, line_held, taken_at}
use Rattle.text.proofs.Parts.{parts_first, up_to-take, length-up_to, up_to-stops}
use Rattle.text.proofs.Lines.{line-bytes}

-- Zeros after numbers read as nothing does.
get_or-zeros : (m i : ℕ) → ◌≡◌ {A = ℕ} (get_or (replicate m 0) i 0) 0
get_or-zeros zero i = refl
get_or-zeros (suc m) zero = refl
get_or-zeros (suc m) (suc i) = get_or-zeros m i

get_or-more : (vs : List ℕ) (m i : ℕ) → get_or (vs ++ replicate m 0) i 0 ≡ get_or vs i 0
get_or-more [] m i = get_or-zeros m i
get_or-more (v ∷ vs) m zero = refl
get_or-more (v ∷ vs) m (suc i) = get_or-more vs m i

pub get_or-eight : (vs : List ℕ) (i : ℕ) → get_or (eight vs) i 0 ≡ get_or vs i 0
unfolding eight
get_or-eight vs i = get_or-more vs (8 - length vs) i

-- So numbers fit a name as their eight places do.
pub fits-eight : (k n : ℕ) (vs : List ℕ) → fits k n (eight vs) ≡ fits k n vs
unfolding fits job_fits entry_fits node_fits binding_fits
fits-eight k n vs = rw (get_or-eight vs 3, get_or-eight vs 0, get_or-eight vs 1)

-- Nothing fits 4, which is no name.
fits-four : (n : ℕ) (vs : List ℕ) → fits 4 n vs ≡ false
unfolding fits
fits-four n vs = refl

-- Of a line that is no `e` line the words are the numbers.
words-other : (k : ℕ) (vs : List ℕ) → eqb k 1 ≡ false → words k vs ≡ vs
words-other k vs e = rw e

upper-other : (k : ℕ) (vs : List ℕ) → eqb k 1 ≡ false → upper k vs ≡ 0
upper-other k vs e = rw e

module _ (k next : ℕ) (got : Numbers) (plain : eqb k 1 ≡ false) where
  -- Numbers that do not fit make no line.
  pub line-none : (o : Option (List ℕ)) → Some got ≡ numbers_held o → fits k got.count got.at ≡ false → no_line next ≡ line_held (line_from k o) next
  line-none none e f = refl
  line-none (some vs) e f =
      let i : got ≡ record { count = length vs; at = eight vs } = cc in
      let g : fits k (length vs) vs ≡ false = sym (fits-eight k (length vs) vs) ∙ sym (ap (λ (n : Numbers). fits k n.count n.at) i) ∙ f in
      rw g

  -- Those that fit make the line.
  pub line-some : (o : Option (List ℕ))
      → Some got ≡ numbers_held o
      → fits k got.count got.at ≡ true
      → record { name = k; count = got.count; at = got.at; high = 0; next = next } ≡ line_held (line_from k o) next
  line-some none e f = cc
  line-some (some vs) e f =
      let i : got ≡ record { count = length vs; at = eight vs } = cc in
      let g : fits k (length vs) vs ≡ true = sym (fits-eight k (length vs) vs) ∙ sym (ap (λ (n : Numbers). fits k n.count n.at) i) ∙ f in
      rw (g, i, plain)

module _ (l : List ℕ) (e : ℕ) (z : e ≡ 0 + length (up_to 9 l)) where
  -- The name ends at a tab or at the end.
  pub name-end : (e ≤ length l) × (e < length l → get_or l e 0 ≡ 9)
  name-end =
      let n : e ≡ length (up_to 9 l) = omega arith in
      (omega (arith, length-up_to 9 l), λ m. ap (λ (i : ℕ). get_or l i 0) n ∙ up_to-stops 9 l (omega arith))

  -- The line is that of the name and of the fields after it.
  pub line-fields : line_of l ≡ line_from (name_of (take e l)) (field_numbers (name_of (take e l)) (tail (parts 9 (drop e l))))
  unfolding line_of
  line-fields =
      let n : length (up_to 9 l) ≡ e = omega arith in
      let f : up_to 9 l ≡ take e l = up_to-take 9 l ∙ ap (λ (i : ℕ). take i l) n in
      rw (parts_first 9 l, n, f)

  -- An `e` line.
  pub entry_whole : (k next : ℕ) → k ≡ name_of (take e l) → k ≡ 1 → line_held (line_from 1 (entry_numbers (tail (parts 9 (drop e l))))) next ≡ line_held (line_of l) next
  entry_whole k next named one =
      let n : name_of (take e l) ≡ 1 = sym named ∙ one in
      sym (ap (λ (o : Option Line). line_held o next) (line-fields ∙ ap (λ (i : ℕ). line_from i (field_numbers i (tail (parts 9 (drop e l))))) n))

  -- The line is bad where there is no name, or its fields are no numbers.
  pub nameless : (next : ℕ) → 4 ≡ name_of (take e l) → no_line next ≡ line_held (line_of l) next
  nameless next z =
      sym (ap (λ (o : Option Line). line_held o next)
      (line-fields ∙ ap (λ (i : ℕ). line_from i (field_numbers i (tail (parts 9 (drop e l))))) (sym z) ∙ go (numbers_of 8 (tail (parts 9 (drop e l))))))
    where
      go : (o : Option (List ℕ)) → line_from 4 o ≡ none
      go none = refl
      go (some vs) = rw (fits-four (length vs) vs)

  pub numberless : (k next : ℕ) → k ≡ name_of (take e l) → eqb k 1 ≡ false → None ≡ numbers_held (numbers_of 8 (tail (parts 9 (drop e l))))
      → no_line next ≡ line_held (line_of l) next
  numberless k next named plain z =
      let f : field_numbers k (tail (parts 9 (drop e l))) ≡ numbers_of 8 (tail (parts 9 (drop e l))) = rw plain in
      sym (ap (λ (o : Option Line). line_held o next)
      (line-fields ∙ ap (λ (i : ℕ). line_from i (field_numbers i (tail (parts 9 (drop e l))))) (sym named) ∙ ap (line_from k) (f ∙ go (numbers_of 8 (tail (parts 9 (drop e l)))) z)))
    where
      go : (o : Option (List ℕ)) → None ≡ numbers_held o → o ≡ none
      go none z = refl
      go (some vs) z = cc

  module _ (k next : ℕ) (got : Numbers) (named : k ≡ name_of (take e l)) (plain : eqb k 1 ≡ false) (held : Some got ≡ numbers_held (numbers_of 8 (tail (parts 9 (drop e l))))) where
    whole : line_held (line_from k (numbers_of 8 (tail (parts 9 (drop e l))))) next ≡ line_held (line_of l) next
    whole =
        let f : field_numbers k (tail (parts 9 (drop e l))) ≡ numbers_of 8 (tail (parts 9 (drop e l))) = rw plain in
        sym (ap (λ (o : Option Line). line_held o next) (line-fields ∙ ap (λ (i : ℕ). line_from i (field_numbers i (tail (parts 9 (drop e l))))) (sym named) ∙ ap (line_from k) f))

    -- The line is bad where the numbers do not fit the name.
    pub bad-line : fits k got.count got.at ≡ false → no_line next ≡ line_held (line_of l) next
    bad-line f = line-none k next got plain (numbers_of 8 (tail (parts 9 (drop e l)))) held f ∙ whole

    -- Where they fit it is the line.
    pub good-line : fits k got.count got.at ≡ true → record { name = k; count = got.count; at = got.at; high = 0; next = next } ≡ line_held (line_of l) next
    good-line f = line-some k next got plain (numbers_of 8 (tail (parts 9 (drop e l)))) held f ∙ whole

module _ (s : List ℕ) (at : ℕ) where
  -- A line with its line feed.
  pub taken-line : (e n : ℕ) → e ≡ line_end s at → n ≡ line_end s at + 1 → line_end s at < length s → line_held (line_of (take (e - at) (drop at s))) n ≡ taken_at s at
  unfolding taken_at
  taken-line e n z y l =
      rw (lt-ltb (line_end s at) (length s) l)
      (ap (line_held (line_of (take (e - at) (drop at s)))) y ∙ ap (λ (t : List ℕ). line_held (line_of t) (line_end s at + 1)) (sym (line-bytes s at e z)))

  -- No line feed is left.
  pub taken_none : length s ≤ line_end s at → no_line (length s) ≡ taken_at s at
  unfolding taken_at
  taken_none l = rw (le-ltb (line_end s at) (length s) l)
