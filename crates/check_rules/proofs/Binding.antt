-- The variables of a line's fields as bits of a window, and the order in which a rule binds and uses them. Assumes nothing.
use mathlib.Core.Path.{◌≡◌, refl, ap, sym, ◌∙◌}
use mathlib.Core.Bool.{Bool, true, false, ◌||◌}
use mathlib.Core.List.{List, [], ◌∷◌, ◌++◌, append_assoc}
use Prim.Native.Nat.{ℕ, ◌+◌, ◌-◌, ◌*◌, ◌%◌, ◌^◌, ◌≤◌, ◌<◌}
use native.Mathlib.Omega.{arith}
use lib.Dec.{leb, ltb, eqb}
use lib.Bits.{bit_or}
use lib.ListN.{length}
use borrow.Author.Tests.{lt-ltb, le-ltb, ltb-false, le-leb, lt-leb, leb-true, leb-false, eqb-true, eqb-false, eq-eqb, ne_eqb}
use Rattle.meaning.specs.Bindings.{has}
use Rattle.meaning.proofs.Bits.{has-nothing, has-or, has_one, bit-shift}
use Rattle.meaning.proofs.Tests.{decided}
use Rattle.text.specs.Text.{decimal}
use Rattle.text.proofs.Put.{for-one}
use Rattle.text.proofs.Decimal.{number-decimal}
use Rattle.rules.specs.Rule.{Pat, Pats, var, con, none as no-pats, more as more-pats, count, variables, variables_all, member}
use Rattle.rules.specs.Text.{Fields, pat_fields, pats_fields, Plain, plain-var, plain-con, Plains, plain_more}
use Rattle.rules.specs.Text.{Head, variable, constructor, neither, head_of}
use Rattle.std.specs.Prelude.{if◌then◌else◌}
use Rattle.rules.specs.Scan.{width, fields_from}
use Rattle.rules.specs.Walk.{begun}
use Rattle.check_rules.specs.Bound.{window, marked_by, marks_from}
use Rattle.rules.proofs.Reading.{head-variable, head-constructor}

-- ---- one variable's bit

pub bit-outside : (base m v : ℕ) → v < base → m ≡ marked_by base m (variable v)
bit-outside base m v l = rw (lt-leb base v l)

pub bit-inside : (base m v : ℕ) → base ≤ v → v - base < window → bit_or m (1 * 2 ^ (v - base) % 18446744073709551616) ≡ marked_by base m (variable v)
bit-inside base m v l k = rw (le-leb base v l, lt-ltb (v - base) window k, bit-shift window (v - base) k)

pub bit-beyond : (base m v : ℕ) → base ≤ v → window ≤ v - base → m ≡ marked_by base m (variable v)
bit-beyond base m v l k = rw (le-leb base v l, le-ltb (v - base) window k)

pub or-false : (x : Bool) → x || false ≡ x
or-false true = refl
or-false false = refl

-- Bit j after a variable's field.
has-marked : (base m v j : ℕ) → j < window → has (marked_by base m (variable v)) j ≡ has m j || eqb (base + j) v
has-marked base m v j k = decided (leb base v) (λ p. decided (ltb (v - base) window) (inside (leb-true base v p)) (beyond (leb-true base v p))) outside
  where
    outside : leb base v ≡ false → has (marked_by base m (variable v)) j ≡ has m j || eqb (base + j) v
    outside p =
        let l : v < base = leb-false base v p in
        ap (λ (x : ℕ). has x j) (sym (bit-outside base m v l)) ∙ sym (rw (ne_eqb (base + j) v (λ e. omega arith)) (or-false (has m j)))

    beyond : base ≤ v → ltb (v - base) window ≡ false → has (marked_by base m (variable v)) j ≡ has m j || eqb (base + j) v
    beyond l q =
        let n : window ≤ v - base = ltb-false (v - base) window q in
        ap (λ (x : ℕ). has x j) (sym (bit-beyond base m v l n)) ∙ sym (rw (ne_eqb (base + j) v (λ e. omega arith)) (or-false (has m j)))

    inside : base ≤ v → ltb (v - base) window ≡ true → has (marked_by base m (variable v)) j ≡ has m j || eqb (base + j) v
    inside l q =
        rw (le-leb base v l, q)
        (has-or m (2 ^ (v - base)) j ∙ ap (λ (x : Bool). has m j || x) (has_one (v - base) j ∙ decided (eqb j (v - base)) same other))
      where
        same : eqb j (v - base) ≡ true → eqb j (v - base) ≡ eqb (base + j) v
        same e = e ∙ sym (eq-eqb (base + j) v (omega (arith, eqb-true j (v - base) e)))

        other : eqb j (v - base) ≡ false → eqb j (v - base) ≡ eqb (base + j) v
        other e = e ∙ sym (ne_eqb (base + j) v (λ z. eqb-false j (v - base) e (omega arith)))

-- ---- the variables of fields

abbrev pub head_variables : Head → List ℕ
head_variables (variable v) = v ∷ []
head_variables (constructor c) = []
head_variables neither = []

unfoldable pub variables_in : Fields → List ℕ
variables_in [] = []
variables_in (f ∷ fs) = head_variables (head_of f) ++ variables_in fs

pub in-append : (fs gs : Fields) → variables_in (fs ++ gs) ≡ variables_in fs ++ variables_in gs
unfolding variables_in
in-append [] gs = refl
in-append (f ∷ fs) gs = rw (in-append fs gs) (sym (append_assoc (head_variables (head_of f)) (variables_in fs) (variables_in gs)))

pub member-append : (v : ℕ) (xs ys : List ℕ) → member v (xs ++ ys) ≡ member v xs || member v ys
unfolding member
member-append v [] ys = refl
member-append v (x ∷ xs) ys = rw (member-append v xs ys) (go (eqb v x))
  where
    go : (b : Bool) → b || (member v xs || member v ys) ≡ (b || member v xs) || member v ys
    go true = refl
    go false = refl

-- A number is no variable.
number-none : (n : ℕ) → n ≤ 65535 → head_variables (head_of (decimal n)) ≡ []
number-none n l = rw (head-constructor (decimal n) n (number-decimal for-one n (omega arith)) l)

mutual
  unfolding variables_in pat_fields pats_fields variables variables_all

  pub in-pat : (p : Pat) → Plain p → variables_in (pat_fields p) ≡ variables p
  in-pat (var v) (plain-var l) = rw (head-variable v l)
  in-pat (con c ps) (plain-con l m h) = rw (number-none c l, number-none (count ps) (omega arith), in-pats ps h)

  in-pats : (ps : Pats) → Plains ps → variables_in (pats_fields ps) ≡ variables_all ps
  in-pats no-pats h = refl
  in-pats (more-pats p ps) (plain_more h k) = rw (in-append (pat_fields p) (pats_fields ps), in-pat p h, in-pats ps k)

-- ---- bits of the fields up to a place

marked-has : (base j : ℕ) → j < window → (h : Head) (m : ℕ) → has (marked_by base m h) j ≡ has m j || member (base + j) (head_variables h)
unfolding member
marked-has base j k (variable v) m = has-marked base m v j k ∙ ap (λ (x : Bool). has m j || x) (sym (or-false (eqb (base + j) v)))
marked-has base j k (constructor c) m = sym (or-false (has m j))
marked-has base j k neither m = sym (or-false (has m j))

or_assoc : (x y z : Bool) → (x || y) || z ≡ x || (y || z)
or_assoc true y z = refl
or_assoc false y z = refl

module _ (base j : ℕ) (k : j < window) where
  pub marks-has : (gs rest : Fields) (at m : ℕ) → has (marks_from base (gs ++ rest) at (at + width gs) m) j ≡ has m j || member (base + j) (variables_in gs)
  unfolding marks_from width variables_in member
  marks-has [] [] at m = sym (or-false (has m j))
  marks-has [] (f ∷ rest) at m = rw (le-ltb at (at + 0) (omega arith)) (sym (or-false (has m j)))
  marks-has (g ∷ gs) rest at m =
      let z : at + (length g + 1 + width gs) ≡ at + length g + 1 + width gs = omega arith in
      rw (lt-ltb at (at + (length g + 1 + width gs)) (omega arith), z)
      (marks-has gs rest (at + length g + 1) (marked_by base m (head_of g))
      ∙ ap (λ (x : Bool). x || member (base + j) (variables_in gs)) (marked-has base j k (head_of g) m)
      ∙ or_assoc (has m j) (member (base + j) (head_variables (head_of g))) (member (base + j) (variables_in gs))
      ∙ ap (λ (x : Bool). has m j || x) (sym (member-append (base + j) (head_variables (head_of g)) (variables_in gs))))

  -- The bits of a term are its variables.
  pub term-marks : (l : List ℕ) (i to : ℕ) (p : Pat) (rest : Fields) → Plain p → fields_from l i ≡ pat_fields p ++ rest → to ≡ i + width (pat_fields p)
      → has (marks_from base (fields_from l i) i to 0) j ≡ member (base + j) (variables p)
  term-marks l i to p rest h t z =
      rw (t, z) (marks-has (pat_fields p) rest i 0 ∙ ap (λ (x : Bool). x || member (base + j) (variables_in (pat_fields p))) (has-nothing j) ∙ ap (member (base + j)) (in-pat p h))

-- The mask after fields, one after the other.
unfoldable pub marks_all : ℕ → Fields → ℕ → ℕ
marks_all base [] m = m
marks_all base (f ∷ fs) m = marks_all base fs (marked_by base m (head_of f))

pub marks-begun : (base : ℕ) (fs : Fields) (at to m : ℕ) → marks_all base (begun fs at to) m ≡ marks_from base fs at to m
unfolding marks_from begun marks_all
marks-begun base [] at to m = refl
marks-begun base (f ∷ fs) at to m = go (ltb at to) (marks-begun base fs (at + length f + 1) to (marked_by base m (head_of f)))
  where
    rest : Fields
    rest = begun fs (at + length f + 1) to

    go : (q : Bool) → marks_all base rest (marked_by base m (head_of f)) ≡ marks_from base fs (at + length f + 1) to (marked_by base m (head_of f)) → marks_all base (if q then f ∷ begun fs (at + length f + 1) to else []) m ≡ (if q then marks_from base fs (at + length f + 1) to (marked_by base m (head_of f)) else m)
    go true e = e
    go false e = refl

pub marks-first : (base : ℕ) (f : List ℕ) (fs : Fields) (m : ℕ) → marks_all base (f ∷ fs) m ≡ marks_all base fs (marked_by base m (head_of f))
unfolding marks_all
marks-first base f fs m = refl

pub marks-none : (base m : ℕ) → marks_all base [] m ≡ m
unfolding marks_all
marks-none base m = refl
