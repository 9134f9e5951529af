-- The operands of an entry, as the code writes them.
use mathlib.Core.Path.{◌≡◌, refl, ap, sym, ◌∙◌}
use mathlib.Core.Bool.{Bool, true, false}
use mathlib.Core.List.{List}
use Prim.Native.Nat.{ℕ, zero, suc, ◌+◌, ◌-◌, ◌/◌, ◌%◌, ◌≤◌, ◌<◌, min}
use native.Mathlib.Omega.{arith}
use lib.Dec.{eqb, ltb}
use lib.ListN.{length, get_or, set, length-set}
use borrow.Author.Tests.{eq-eqb, ne_eqb, lt-ltb, le-ltb, ltb-false, ltb-true}
use Rattle.std.specs.Prelude.{if◌then◌else◌}
use Rattle.words.specs.Words.{word_at, put_row, row_at}
use Rattle.translate.specs.Links.{inner_of, filled, row_linked, steps_table, steps_ends}
use Rattle.translate.specs.declared.link.Linked.{Linked}

pub inner-call : (w : ℕ) → w / 16 ≡ 8 → 0 ≡ inner_of w
unfolding inner_of
inner-call w e = rw (eq-eqb (w / 16) 8 e)

pub inner-count : (w n : ℕ) → (w / 16 ≡ 8 → ⊥) → n ≡ min (w % 16) 6 → n ≡ inner_of w
unfolding inner_of
inner-count w n e m = rw (ne_eqb (w / 16) 8 e) (go (ltb 6 (w % 16)) refl)
  where
    go : (y : Bool) → ltb 6 (w % 16) ≡ y → n ≡ (if y then 6 else w % 16)
    go true x = omega (arith, m, ltb-true 6 (w % 16) x)
    go false x = omega (arith, m, ltb-false 6 (w % 16) x)

pub inner-most : (w : ℕ) → inner_of w ≤ 6
unfolding inner_of
inner-most w = go (eqb (w / 16) 8) (ltb 6 (w % 16)) refl
  where
    go : (x y : Bool) → ltb 6 (w % 16) ≡ y → (if x then 0 else (if y then 6 else w % 16)) ≤ 6
    go true y e = omega arith
    go false true e = omega arith
    go false false e = omega (arith, ltb-false 6 (w % 16) e)

pub filled-end : (n o : ℕ) (es row : List ℕ) (j : ℕ) → n ≡ 0 → record { row = row; end = o } ≡ filled n o es row j
unfolding filled
filled-end zero o es row j e = refl
filled-end (suc n) o es row j e = absurd (omega arith)

filled-suc : (n o : ℕ) (es row : List ℕ) (j : ℕ) → filled (suc n) o es row j ≡ filled n (get_or es o 0) es (set row j o) (j + 1)
unfolding filled
filled-suc n o es row j = refl

pub filled_more : (n i o : ℕ) (es row : List ℕ) → i < n → filled (n - (i + 1)) (get_or es o 0) es (set row (2 + i) o) (2 + (i + 1)) ≡ filled (n - i) o es row (2 + i)
filled_more n i o es row l =
    let z : n - i ≡ suc (n - (i + 1)) = omega arith in
    let y : 2 + i + 1 ≡ 2 + (i + 1) = omega arith in
    sym (ap (λ (k : ℕ). filled k o es row (2 + i)) z ∙ filled-suc (n - (i + 1)) o es row (2 + i) ∙ ap (λ (j : ℕ). filled (n - (i + 1)) (get_or es o 0) es (set row (2 + i) o) j) y)

-- nothing is filled in yet
pub filled_none : (n : ℕ) (t es : List ℕ) (e : ℕ) → n ≡ inner_of (word_at t e 0) → filled (n - 0) (e + 1) es (row_at t e) (2 + 0) ≡ row_linked t es e
unfolding row_linked
filled_none n t es e h = let z : n - 0 ≡ inner_of (word_at t e 0) = omega arith in rw z

module _ (t es : List ℕ) (stop : ℕ) where
  pub steps-table : (k e : ℕ) → e + 1 ≡ stop - k → put_row (steps_table t es stop k) e (row_linked (steps_table t es stop k) (steps_ends t es stop k) e).row ≡ steps_table t es stop (suc k)
  unfolding steps_table
  steps-table k e h = let z : stop - suc k ≡ e = omega arith in rw z

  pub steps-ends : (k e : ℕ) → e + 1 ≡ stop - k → set (steps_ends t es stop k) e (row_linked (steps_table t es stop k) (steps_ends t es stop k) e).end ≡ steps_ends t es stop (suc k)
  unfolding steps_table
  steps-ends k e h = let z : stop - suc k ≡ e = omega arith in rw z

  -- one entry more
  pub link-step : (e : ℕ) {table ends table' : List ℕ} {r : Linked} → 0 < e → e ≤ stop → table ≡ steps_table t es stop (stop - e) → ends ≡ steps_ends t es stop (stop - e)
      → r ≡ row_linked table ends (e - 1) → table' ≡ put_row table (e - 1) r.row
      → (table' ≡ steps_table t es stop (stop - (e - 1))) × (set ends (e - 1) r.end ≡ steps_ends t es stop (stop - (e - 1)))
  link-step e {table} {ends} {table'} {r} l m a b h g =
      let z : suc (stop - e) ≡ stop - (e - 1) = omega arith in
      let y : e - 1 + 1 ≡ stop - (stop - e) = omega arith in
      let T = steps_table t es stop (stop - e) in
      let E = steps_ends t es stop (stop - e) in
      let q : r ≡ row_linked T E (e - 1) = h ∙ rw (a, b) in (
        g ∙ rw (a, q) (steps-table (stop - e) (e - 1) y) ∙ ap (steps_table t es stop) z,
        rw (b, q) (steps-ends (stop - e) (e - 1) y) ∙ ap (steps_ends t es stop) z,
      )

  pub steps-none : (k : ℕ) → k ≡ 0 → (t ≡ steps_table t es stop k) × (es ≡ steps_ends t es stop k)
  unfolding steps_table
  steps-none k e = (rw e, rw e)

-- a row has eight words
filled-eight : (n o : ℕ) (es row : List ℕ) (j : ℕ) → length (filled n o es row j).row ≡ length row
unfolding filled
filled-eight zero o es row j = refl
filled-eight (suc n) o es row j = filled-eight n (get_or es o 0) es (set row j o) (j + 1) ∙ length-set row j o

pub row-eight : (t es : List ℕ) (e : ℕ) → length (row_linked t es e).row ≡ 8
unfolding row_linked
row-eight t es e = filled-eight (inner_of (word_at t e 0)) (e + 1) es (row_at t e) 2
