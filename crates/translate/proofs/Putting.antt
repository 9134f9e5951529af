-- The loop that puts the bare entries of a term: what is left to put after what was put is all. Assumes nothing.
use mathlib.Core.Path.{◌≡◌, refl, ap, sym, ◌∙◌}
use mathlib.Core.Option.{Option, none, some}
use mathlib.Core.List.{List, [], ◌∷◌}
use Prim.Native.Nat.{ℕ, zero, suc, ◌+◌, ◌-◌, ◌*◌, ◌≤◌, ◌<◌}
use native.Mathlib.Omega.{arith}
use lib.ListN.{length, take, drop, replicate}
use Rattle.words.specs.Words.{rows, put_row}
use Rattle.meaning.specs.Table.{PVAR, PCON}
use Rattle.text.specs.Text.{up_to, one_word, number_of}
use Rattle.rules.specs.Text.{Fields, variable, constructor, neither, head_of, up_to_six}
use Rattle.rules.specs.Entries.{Entry, pattern, row_of}
use Rattle.rules.specs.Scan.{fields_from}
use Rattle.translate.specs.Added.{put_entries, Placed}
use Rattle.translate.specs.Bare.{on_count, bare_of, bare_count}
use Rattle.rules.proofs.Scanning.{SixMost, six-most, fields-here, fields-past}

-- ---- rows

pub variable-row : (v : ℕ) → 288 ∷ v ∷ 0 ∷ 0 ∷ 0 ∷ 0 ∷ 0 ∷ 0 ∷ [] ≡ row_of (pattern (PVAR v))
unfolding row_of
variable-row v = refl

pub constructor-row : (c n : ℕ) → n ≤ 6 → (304 + n) ∷ c ∷ 0 ∷ 0 ∷ 0 ∷ 0 ∷ 0 ∷ 0 ∷ [] ≡ row_of (pattern (PCON c (replicate n 0)))
unfolding row_of
constructor-row c zero l = refl
constructor-row c (suc zero) l = refl
constructor-row c (suc (suc zero)) l = refl
constructor-row c (suc (suc (suc zero))) l = refl
constructor-row c (suc (suc (suc (suc zero)))) l = refl
constructor-row c (suc (suc (suc (suc (suc zero))))) l = refl
constructor-row c (suc (suc (suc (suc (suc (suc zero)))))) l = refl
constructor-row c (suc (suc (suc (suc (suc (suc (suc n))))))) l = absurd (omega arith)

-- ---- the fields, one by one

pub bare-none : (fs : Fields) (w : ℕ) → w ≡ 0 → bare_of fs w ≡ []
unfolding bare_of
bare-none [] w e = refl
bare-none (f ∷ fs) w e = rw e

module _ (f : List ℕ) (fs : Fields) where
  first-neither : (w : ℕ) → neither ≡ head_of f → bare_of (f ∷ fs) w ≡ []
  unfolding bare_of
  first-neither zero h = refl
  first-neither (suc w) h = rw (← h)

  first-variable : (w v : ℕ) → 0 < w → variable v ≡ head_of f → bare_of (f ∷ fs) w ≡ pattern (PVAR v) ∷ bare_of fs (w - 1)
  unfolding bare_of
  first-variable zero v m h = absurd (omega arith)
  first-variable (suc w) v m h = let z : suc w - 1 ≡ w = omega arith in rw (← h, z)

  first-constructor : (w c : ℕ) → 0 < w → constructor c ≡ head_of f → bare_of (f ∷ fs) w ≡ bare_count fs c (w - 1)
  unfolding bare_of
  first-constructor zero c m h = absurd (omega arith)
  first-constructor (suc w) c m h = let z : suc w - 1 ≡ w = omega arith in rw (← h, z)

  first-bad : (c w : ℕ) → none ≡ up_to_six (number_of one_word f) → bare_count (f ∷ fs) c w ≡ []
  unfolding bare_count
  first-bad c w h = rw (← h)

  first_count : (c w k : ℕ) → some k ≡ up_to_six (number_of one_word f) → (bare_count (f ∷ fs) c w ≡ pattern (PCON c (replicate k 0)) ∷ bare_of fs (w + k)) × (k ≤ 6)
  unfolding bare_count
  first_count c w k h = (rw (← h), rw (← h) at (six-most (number_of one_word f)))

pub bare-past : (l : List ℕ) (i w : ℕ) → length l < i → bare_of (fields_from l i) w ≡ []
unfolding bare_of
bare-past l i w h = rw (fields-past l i h)

pub count_past : (l : List ℕ) (i c w : ℕ) → length l < i → bare_count (fields_from l i) c w ≡ []
unfolding bare_count
count_past l i c w h = rw (fields-past l i h)

module _ (l : List ℕ) (i e : ℕ) (at : i ≤ length l) (found : e ≡ i + length (up_to 9 (drop i l))) where
  abbrev field : List ℕ
  field = take (e - i) (drop i l)

  here : fields_from l i ≡ field ∷ fields_from l (e + 1)
  here = fields-here l i e at found

  pub bare-neither : (w : ℕ) → neither ≡ head_of field → bare_of (fields_from l i) w ≡ []
  bare-neither w h = ap (λ (fs : Fields). bare_of fs w) here ∙ first-neither field (fields_from l (e + 1)) w h

  pub bare-variable : (w v : ℕ) → 0 < w → variable v ≡ head_of field → bare_of (fields_from l i) w ≡ pattern (PVAR v) ∷ bare_of (fields_from l (e + 1)) (w - 1)
  bare-variable w v m h = ap (λ (fs : Fields). bare_of fs w) here ∙ first-variable field (fields_from l (e + 1)) w v m h

  pub bare-constructor : (w c : ℕ) → 0 < w → constructor c ≡ head_of field → bare_of (fields_from l i) w ≡ bare_count (fields_from l (e + 1)) c (w - 1)
  bare-constructor w c m h = ap (λ (fs : Fields). bare_of fs w) here ∙ first-constructor field (fields_from l (e + 1)) w c m h

  pub count-bad : (c w : ℕ) → none ≡ up_to_six (number_of one_word field) → bare_count (fields_from l i) c w ≡ []
  count-bad c w h = ap (λ (fs : Fields). bare_count fs c w) here ∙ first-bad field (fields_from l (e + 1)) c w h

  pub count-some : (c w k : ℕ) → some k ≡ up_to_six (number_of one_word field)
      → (bare_count (fields_from l i) c w ≡ pattern (PCON c (replicate k 0)) ∷ bare_of (fields_from l (e + 1)) (w + k)) × (k ≤ 6)
  count-some c w k h = let (x, y) = first_count field (fields_from l (e + 1)) c w k h in (ap (λ (fs : Fields). bare_count fs c w) here ∙ x, y)

-- ---- the loop

pub record Puts (l : List ℕ) (from first : ℕ) (t₀ t : List ℕ) (wanted at e : ℕ) : Type 0 where
  pub all : put_entries t e (bare_of (fields_from l at) wanted) ≡ put_entries t₀ first (bare_of (fields_from l from) 1)
  pub count : e + length (bare_of (fields_from l at) wanted) ≡ first + length (bare_of (fields_from l from) 1)
  pub same : length t ≡ length t₀
  pub few : 3 * wanted ≤ 3 + 5 * at

put-none : (t : List ℕ) (e : ℕ) (xs : List Entry) → xs ≡ [] → t ≡ put_entries t e xs
unfolding put_entries
put-none t e xs z = rw z

put_first : (t : List ℕ) (e : ℕ) (x : Entry) (xs ys : List Entry) → ys ≡ x ∷ xs → put_entries (put_row t e (row_of x)) (suc e) xs ≡ put_entries t e ys
unfolding put_entries
put_first t e x xs ys z = rw z

module _ {l : List ℕ} {from first : ℕ} {t₀ t : List ℕ} {wanted at e : ℕ} (p : Puts l from first t₀ t wanted at e) where
  -- Nothing is left to put.
  pub puts-end : bare_of (fields_from l at) wanted ≡ [] → Placed t₀ first (bare_of (fields_from l from) 1) t e
  puts-end z = record { entries = put-none t e (bare_of (fields_from l at) wanted) z ∙ p.all; place = omega (arith, p.count, ap length z) }

  module _ (x : Entry) (ys : List Entry) (z : bare_of (fields_from l at) wanted ≡ x ∷ ys) where
    -- There is room for one more.
    pub puts-room : first + length (bare_of (fields_from l from) 1) ≤ rows t₀ → 8 * e + 8 ≤ length t
    puts-room h = omega (arith, p.count, ap length z, p.same)

    pub puts-below : first + length (bare_of (fields_from l from) 1) ≤ rows t₀ → e < rows t₀
    puts-below h = omega (arith, p.count, ap length z)

    pub puts-on : {t' : List ℕ} {wanted' at' : ℕ} (row : List ℕ) → row ≡ row_of x → t' ≡ put_row t e row → length t' ≡ length t → ys ≡ bare_of (fields_from l at') wanted' → 3 * wanted' ≤ 3 + 5 * at'
        → Puts l from first t₀ t' wanted' at' (e + 1)
    puts-on {t'} {wanted'} {at'} row r q s y f =
        let n : e + 1 ≡ suc e = omega arith in
        record {
          all =
              ap (λ (k : ℕ). put_entries t' k (bare_of (fields_from l at') wanted')) n
              ∙ ap (put_entries t' (suc e)) (sym y)
              ∙ ap (λ (w : List ℕ). put_entries w (suc e) ys) (q ∙ ap (put_row t e) r)
              ∙ put_first t e x ys (bare_of (fields_from l at) wanted) z
              ∙ p.all;
          count = omega (arith, p.count, ap length z, ap length y);
          same = s ∙ p.same;
          few = f;
        }
