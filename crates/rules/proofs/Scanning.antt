-- A line's fields from a place on, and what the code's loop over them does.
use mathlib.Core.Path.{◌≡◌, refl, ap, sym, ◌∙◌}
use mathlib.Core.Bool.{Bool, true, false}
use mathlib.Core.Option.{Option, none, some}
use mathlib.Core.List.{List, [], ◌∷◌, tail}
use Prim.Native.Nat.{ℕ, zero, suc, ◌+◌, ◌-◌, ◌≤◌, ◌<◌}
use native.Mathlib.Omega.{arith}
use lib.Dec.{leb, ltb}
use lib.ListN.{length, drop, take, get_or, length-drop}
use lib.Seq.{drop-drop, get_or-drop, length-take-le, take_all}
use borrow.Author.Tests.{eq-eqb, ne_eqb, leb-true, le-leb, lt-leb, ltb-true, ltb-false, le-ltb, lt-ltb}
use Rattle.std.specs.Prelude.{if◌then◌else◌}
use Rattle.meaning.proofs.Tests.{impossible, decided}
use Rattle.text.specs.Text.{parts, up_to, one_word, number_of}
use Rattle.text.proofs.Parts.{parts_first, parts-on, parts-end, up_to-take, length-up_to, up_to-stops}
use Rattle.rules.specs.Text.{Fields, variable, constructor, neither, variable_head, constructor_head, head_of, up_to_six}
use Rattle.rules.specs.Walk.{begun}
use Rattle.rules.specs.Scan.{fields_from, stopped, finished, scanned, scanned_count}

-- ---- what a field is

pub count_none : (f : List ℕ) → none ≡ number_of one_word f → none ≡ up_to_six (number_of one_word f)
count_none f e = ap up_to_six e

pub count-some : (f : List ℕ) (n : ℕ) → some n ≡ number_of one_word f → n ≤ 6 → some n ≡ up_to_six (number_of one_word f)
count-some f n e l = rw (← e) (rw (le-leb n 6 l))

pub count-over : (f : List ℕ) (n : ℕ) → some n ≡ number_of one_word f → 6 < n → none ≡ up_to_six (number_of one_word f)
count-over f n e l = rw (← e) (rw (lt-leb n 6 l))

pub head-empty : (f : List ℕ) → length f ≡ 0 → neither ≡ head_of f
unfolding head_of
head-empty [] l = refl
head-empty (b ∷ f) l = absurd (omega arith)

pub all_after : (f : List ℕ) → number_of one_word (take (length f - 1) (drop 1 f)) ≡ number_of one_word (drop 1 f)
all_after f = let z : length (drop 1 f) ≤ length f - 1 = omega (arith, length-drop 1 f) in rw (take_all (length f - 1) (drop 1 f) z)

-- the bytes after the first
pub head-v : (f : List ℕ) (o : Option ℕ) → (length f ≡ 0 → ⊥) → get_or f 0 0 ≡ 118 → o ≡ number_of one_word (drop 1 f) → variable_head o ≡ head_of f
unfolding head_of
head-v [] o l h e = absurd (l refl)
head-v (b ∷ f) o l h e = rw (eq-eqb b 118 h) (ap variable_head e)

pub head-c : (f : List ℕ) (o : Option ℕ) → (length f ≡ 0 → ⊥) → (get_or f 0 0 ≡ 118 → ⊥) → o ≡ number_of one_word f → constructor_head o ≡ head_of f
unfolding head_of
head-c [] o l h e = absurd (l refl)
head-c (b ∷ f) o l h e = rw (ne_eqb b 118 h) (ap constructor_head e)

pub con-small : (c : ℕ) → c ≤ 65535 → constructor c ≡ constructor_head (some c)
con-small c l = rw (le-leb c 65535 l)

pub con-large : (c : ℕ) → 65535 < c → neither ≡ constructor_head (some c)
con-large c l = rw (lt-leb c 65535 l)

-- ---- fields from a place on

opened-variable : (f : List ℕ) (fs : Fields) (w at n s v : ℕ) → variable v ≡ head_of f → scanned (f ∷ fs) (suc w) at n s ≡ scanned fs w (at + length f + 1) (n + 1) (s + 1)
unfolding scanned
opened-variable f fs w at n s v h = rw (← h)

opened-constructor : (f : List ℕ) (fs : Fields) (w at n s c : ℕ) → constructor c ≡ head_of f → scanned (f ∷ fs) (suc w) at n s ≡ scanned_count fs w (at + length f + 1) (n + 1) s
unfolding scanned
opened-constructor f fs w at n s c h = rw (← h)

-- a count that is read is at most six
abbrev pub SixMost : Option ℕ → Type 0
SixMost none = Unit {0}
SixMost (some k) = k ≤ 6

pub six-most : (o : Option ℕ) → SixMost (up_to_six o)
six-most none = tt
six-most (some n) = go (leb n 6) refl
  where
    go : (q : Bool) → leb n 6 ≡ q → SixMost (if q then some n else none)
    go true e = leb-true n 6 e
    go false e = tt

pub scan-end : (fs : Fields) (at n s : ℕ) → scanned fs 0 at n s ≡ finished at n s
unfolding scanned
scan-end [] at n s = refl
scan-end (f ∷ fs) at n s = refl

-- inside the line
whole : (l : List ℕ) (i : ℕ) → i ≤ length l → fields_from l i ≡ parts 9 (drop i l)
unfolding fields_from
whole l i at = rw (le-leb i (length l) at)

-- past its end
pub fields-past : (l : List ℕ) (i : ℕ) → length l < i → fields_from l i ≡ []
unfolding fields_from
fields-past l i at = rw (lt-leb i (length l) at)

module _ (f : List ℕ) (fs : Fields) where
  first-neither : (w at n s : ℕ) → 0 < w → neither ≡ head_of f → scanned (f ∷ fs) w at n s ≡ stopped at n s
  unfolding scanned
  first-neither zero at n s m h = absurd (omega arith)
  first-neither (suc w) at n s m h = rw (← h)

  first-variable : (w at n s : ℕ) → 0 < w → (v : ℕ) → variable v ≡ head_of f → scanned (f ∷ fs) w at n s ≡ scanned fs (w - 1) (at + length f + 1) (n + 1) (s + 1)
  first-variable zero at n s m v h = absurd (omega arith)
  first-variable (suc w) at n s m v h = let z : suc w - 1 ≡ w = omega arith in opened-variable f fs w at n s v h ∙ ap (λ (k : ℕ). scanned fs k (at + length f + 1) (n + 1) (s + 1)) (sym z)

  first-constructor : (w at n s : ℕ) → 0 < w → (c : ℕ) → constructor c ≡ head_of f → scanned (f ∷ fs) w at n s ≡ scanned_count fs (w - 1) (at + length f + 1) (n + 1) s
  first-constructor zero at n s m c h = absurd (omega arith)
  first-constructor (suc w) at n s m c h = let z : suc w - 1 ≡ w = omega arith in opened-constructor f fs w at n s c h ∙ ap (λ (k : ℕ). scanned_count fs k (at + length f + 1) (n + 1) s) (sym z)

  first-bad : (w at n s : ℕ) → none ≡ up_to_six (number_of one_word f) → scanned_count (f ∷ fs) w at n s ≡ stopped at n s
  unfolding scanned_count
  first-bad w at n s h = rw (← h)

  first_count : (w at n s k : ℕ) → some k ≡ up_to_six (number_of one_word f) → (scanned_count (f ∷ fs) w at n s ≡ scanned fs (w + k) (at + length f + 1) (n + 1) (s + 1)) × (k ≤ 6)
  unfolding scanned_count
  first_count w at n s k h = (rw (← h), rw (← h) at (six-most (number_of one_word f)))

none_left : (w i n s : ℕ) → 0 < w → scanned [] w i n s ≡ stopped i n s
unfolding scanned
none_left zero i n s m = absurd (omega arith)
none_left (suc w) i n s m = refl

no-count : (w i n s : ℕ) → scanned_count [] w i n s ≡ stopped i n s
unfolding scanned_count
no-count w i n s = refl

pub scan-past : (l : List ℕ) (i w n s : ℕ) → length l < i → 0 < w → scanned (fields_from l i) w i n s ≡ stopped i n s
scan-past l i w n s at m = ap (λ (fs : Fields). scanned fs w i n s) (fields-past l i at) ∙ none_left w i n s m

pub count_past : (l : List ℕ) (i w n s : ℕ) → length l < i → scanned_count (fields_from l i) w i n s ≡ stopped i n s
count_past l i w n s at = ap (λ (fs : Fields). scanned_count fs w i n s) (fields-past l i at) ∙ no-count w i n s

module _ (l : List ℕ) (i e : ℕ) (at : i ≤ length l) (found : e ≡ i + length (up_to 9 (drop i l))) where
  pub end-within : (i ≤ e) × (e ≤ length l)
  end-within = (omega arith, omega (arith, length-up_to 9 (drop i l), length-drop i l))

  stop-tab : e < length l → get_or l e 0 ≡ 9
  stop-tab m = ap (λ (k : ℕ). get_or l k 0) found ∙ sym (get_or-drop i l (length (up_to 9 (drop i l))) 0) ∙ up_to-stops 9 (drop i l) (rw (length-drop i l) (omega arith))

  rest : tail (parts 9 (drop e l)) ≡ fields_from l (e + 1)
  unfolding fields_from
  rest = decided (ltb e (length l)) inside outside
    where
      inside : ltb e (length l) ≡ true → tail (parts 9 (drop e l)) ≡ (if leb (e + 1) (length l) then parts 9 (drop (e + 1) l) else [])
      inside q =
          let m : e < length l = ltb-true e (length l) q in
          let k : e + 1 ≤ length l = omega arith in
          rw (le-leb (e + 1) (length l) k) (parts-on 9 l e m (stop-tab m))

      outside : ltb e (length l) ≡ false → tail (parts 9 (drop e l)) ≡ (if leb (e + 1) (length l) then parts 9 (drop (e + 1) l) else [])
      outside q =
          let m : length l ≤ e = ltb-false e (length l) q in
          let k : length l < e + 1 = omega arith in
          rw (lt-leb (e + 1) (length l) k) (parts-end 9 l e m)

  -- the field that begins here, and those after it
  pub fields-here : fields_from l i ≡ take (e - i) (drop i l) ∷ fields_from l (e + 1)
  fields-here =
      let n : ℕ = length (up_to 9 (drop i l)) in
      let d : n ≡ e - i = omega arith in
      all
      ∙ parts_first 9 (drop i l)
      ∙ ap (λ (f : List ℕ). f ∷ tail (parts 9 (drop n (drop i l)))) (up_to-take 9 (drop i l) ∙ ap (λ (m : ℕ). take m (drop i l)) d)
      ∙ ap (λ (r : List ℕ). take (e - i) (drop i l) ∷ tail (parts 9 r)) (drop-drop n i l ∙ ap (λ (m : ℕ). drop m l) (sym found))
      ∙ ap (λ (r : Fields). take (e - i) (drop i l) ∷ r) rest
    where
      all : fields_from l i ≡ parts 9 (drop i l)
      all = whole l i at

  pub field-length : i + length (take (e - i) (drop i l)) + 1 ≡ e + 1
  field-length =
      let n : ℕ = length (up_to 9 (drop i l)) in
      let d : e - i ≤ length (drop i l) = omega (arith, length-up_to 9 (drop i l)) in
      omega (arith, length-take-le (e - i) (drop i l) d, end-within.0)

  module _ (w n s : ℕ) where
    abbrev field : List ℕ
    field = take (e - i) (drop i l)

    pub scan-neither : 0 < w → neither ≡ head_of field → scanned (fields_from l i) w i n s ≡ stopped i n s
    scan-neither m h = ap (λ (fs : Fields). scanned fs w i n s) fields-here ∙ first-neither field (fields_from l (e + 1)) w i n s m h

    pub scan-variable : 0 < w → (v : ℕ) → variable v ≡ head_of field → scanned (fields_from l i) w i n s ≡ scanned (fields_from l (e + 1)) (w - 1) (e + 1) (n + 1) (s + 1)
    scan-variable m v h = ap (λ (fs : Fields). scanned fs w i n s) fields-here ∙ first-variable field (fields_from l (e + 1)) w i n s m v h
        ∙ ap (λ (a : ℕ). scanned (fields_from l (e + 1)) (w - 1) a (n + 1) (s + 1)) field-length

    pub scan-constructor : 0 < w → (c : ℕ) → constructor c ≡ head_of field → scanned (fields_from l i) w i n s ≡ scanned_count (fields_from l (e + 1)) (w - 1) (e + 1) (n + 1) s
    scan-constructor m c h = ap (λ (fs : Fields). scanned fs w i n s) fields-here ∙ first-constructor field (fields_from l (e + 1)) w i n s m c h
        ∙ ap (λ (a : ℕ). scanned_count (fields_from l (e + 1)) (w - 1) a (n + 1) s) field-length

    pub scan-bad-count : none ≡ up_to_six (number_of one_word field) → scanned_count (fields_from l i) w i n s ≡ stopped i n s
    scan-bad-count h = ap (λ (fs : Fields). scanned_count fs w i n s) fields-here ∙ first-bad field (fields_from l (e + 1)) w i n s h

    pub scan-count : (k : ℕ) → some k ≡ up_to_six (number_of one_word field)
        → (scanned_count (fields_from l i) w i n s ≡ scanned (fields_from l (e + 1)) (w + k) (e + 1) (n + 1) (s + 1)) × (k ≤ 6)
    scan-count k h =
        let (x, y) = first_count field (fields_from l (e + 1)) w i n s k h in
        (ap (λ (fs : Fields). scanned_count fs w i n s) fields-here ∙ x ∙ ap (λ (a : ℕ). scanned (fields_from l (e + 1)) (w + k) a (n + 1) (s + 1)) field-length, y)

    -- a constructor's field is not empty
    pub constructor-long : (c : ℕ) → constructor c ≡ head_of field → i < e
    constructor-long c h = decided (ltb i e) (λ q. ltb-true i e q) (λ q. absurd (empty (omega (arith, ltb-false i e q, field-length))))
      where
        empty : length field ≡ 0 → ⊥
        empty z = let y = head-empty field z in impossible (cc)

-- ---- the fields that begin before a place

pub begun-end : (fs : Fields) (at to : ℕ) → to ≤ at → begun fs at to ≡ []
unfolding begun
begun-end [] at to h = refl
begun-end (f ∷ fs) at to h = rw (le-ltb at to h)

pub begun-on : (f : List ℕ) (fs : Fields) (at to : ℕ) → at < to → begun (f ∷ fs) at to ≡ f ∷ begun fs (at + length f + 1) to
unfolding begun
begun-on f fs at to h = rw (lt-ltb at to h)

module _ (l : List ℕ) (at to : ℕ) where
  -- Nothing is left before the place, or nothing of the line.
  pub begun-past : length l < at → begun (fields_from l at) at to ≡ []
  unfolding begun
  begun-past h = rw (fields-past l at h)

  -- The field that begins here, and those after it.
  pub begun-here : (e : ℕ) (h : at ≤ length l) (found : e ≡ at + length (up_to 9 (drop at l))) → at < to
      → begun (fields_from l at) at to ≡ take (e - at) (drop at l) ∷ begun (fields_from l (e + 1)) (e + 1) to
  begun-here e h found k =
      ap (λ (fs : Fields). begun fs at to) (fields-here l at e h found)
      ∙ begun-on (take (e - at) (drop at l)) (fields_from l (e + 1)) at to k
      ∙ ap (λ (i : ℕ). take (e - at) (drop at l) ∷ begun (fields_from l (e + 1)) i to) (field-length l at e h found)
