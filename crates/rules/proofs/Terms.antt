-- One term of a line where it stands: the term that its fields are, and the fields after it; or the first bad field.
-- Assumes nothing.
use mathlib.Core.Path.{◌≡◌, refl, ap, sym, ◌∙◌}
use mathlib.Core.Bool.{Bool, true, false}
use mathlib.Core.Option.{Option, none, some}
use mathlib.Core.List.{List, [], ◌∷◌, ◌++◌, append-nil}
use Prim.Native.Nat.{ℕ, zero, suc, ◌+◌, ◌-◌, ◌≤◌}
use native.Mathlib.Omega.{arith}
use lib.Dec.{leb, eqb}
use lib.ListN.{length, drop, take, length-append, length-drop}
use borrow.Author.Tests.{leb-true, leb-false, le-leb}
use Rattle.std.specs.Prelude.{if◌then◌else◌}
use Rattle.meaning.proofs.Tests.{impossible, decided}
use Rattle.text.specs.Text.{parts, grown, up_to, one_word, number_of}
use Rattle.rules.specs.Rule.{Pat, Pats, var, con, none as no-pats, more as more-pats, count}
use Rattle.rules.specs.Text.{Fields, pat_fields, pats_fields, Plain, Plains, plain_more, Head, variable, constructor, neither, head_of, up_to_six, bad, read}
use Rattle.rules.specs.Entries.{size, sizes}
use Rattle.rules.specs.Scan.{width, fields_from, scanned, scanned_count, by_head, by_own_count, finished, stopped}
use Rattle.rules.specs.Scan.{Term, term_told}
use Rattle.std.specs.Prelude.{Ok, Err}
use Rattle.rules.specs.declared.term.Term as held
use Rattle.rules.specs.Walk.{begun}
use Rattle.rules.proofs.Scanning.{fields-here, field-length, fields-past, begun-on}
use Rattle.rules.proofs.Told.{same_end, told, Told, told-good, told-bad}

-- ---- the bytes of fields

-- A text is as long as its parts and their separators, but for the last one.
pub width-parts : (c : ℕ) (s : List ℕ) → width (parts c s) ≡ length s + 1
unfolding parts width
width-parts c [] = refl
width-parts c (b ∷ s) = go (eqb b c) (parts c s) (width-parts c s)
  where
    go : (q : Bool) (ps : Fields) → width ps ≡ length s + 1 → width (if q then [] ∷ ps else grown b ps) ≡ suc (length s) + 1
    go true ps h = omega arith
    go false [] h = absurd (omega arith)
    go false (p ∷ ps) h = omega arith

pub width-append : (fs gs : Fields) → width (fs ++ gs) ≡ width fs + width gs
unfolding width
width-append [] gs = omega arith
width-append (f ∷ fs) gs = omega (arith, width-append fs gs)

-- Each field has a separator.
pub length-width : (fs : Fields) → length fs ≤ width fs
unfolding width
length-width [] = omega arith
length-width (f ∷ fs) = omega (arith, length-width fs)

module _ (l : List ℕ) where
  -- The fields from a place on take the rest of the line.
  pub width-from : (i : ℕ) → i ≤ length l → i + width (fields_from l i) ≡ length l + 1
  unfolding fields_from
  width-from i h = rw (le-leb i (length l) h) (omega (arith, width-parts 9 (drop i l), length-drop i l))

  pub width-most : (i : ℕ) → i ≤ length l + 1 → i + width (fields_from l i) ≤ length l + 1
  unfolding width
  width-most i h = decided (leb i (length l)) (λ q. omega (arith, width-from i (leb-true i (length l) q))) past
    where
      past : leb i (length l) ≡ false → i + width (fields_from l i) ≤ length l + 1
      past q = rw (fields-past l i (leb-false i (length l) q)) (omega arith)

  -- After fields stand those that follow them.
  pub fields-along : (i : ℕ) (gs rest : Fields) → fields_from l i ≡ gs ++ rest → fields_from l (i + width gs) ≡ rest
  unfolding width
  fields-along i [] rest e = let z : i + 0 ≡ i = omega arith in rw z e
  fields-along i (g ∷ gs) rest e = decided (leb i (length l)) (inside (λ j. fields-along j gs rest)) past
    where
      past : leb i (length l) ≡ false → fields_from l (i + (length g + 1 + width gs)) ≡ rest
      past q = let z : [] ≡ g ∷ (gs ++ rest) = sym (fields-past l i (leb-false i (length l) q)) ∙ e in impossible (cc)

      inside : ((j : ℕ) → fields_from l j ≡ gs ++ rest → fields_from l (j + width gs) ≡ rest) → leb i (length l) ≡ true → fields_from l (i + (length g + 1 + width gs)) ≡ rest
      inside along q =
          let h : i ≤ length l = leb-true i (length l) q in
          let end : ℕ = i + length (up_to 9 (drop i l)) in
          let both : take (end - i) (drop i l) ∷ fields_from l (end + 1) ≡ g ∷ (gs ++ rest) = sym (fields-here l i end h refl) ∙ e in
          let f : take (end - i) (drop i l) ≡ g = cc in
          let r : fields_from l (end + 1) ≡ gs ++ rest = cc in
          let n : i + length g + 1 ≡ end + 1 = ap (λ (x : List ℕ). i + length x + 1) (sym f) ∙ field-length l i end h refl in
          let z : i + (length g + 1 + width gs) ≡ end + 1 + width gs = omega arith in
          rw z (along (end + 1) r)

-- ---- a term

-- What a term's four numbers say.
pub data TermFound (l : List ℕ) (i : ℕ) (r : Term) : Type 0 where
  term-good : (p : Pat) → Plain p → fields_from l i ≡ pat_fields p ++ fields_from l (i + width (pat_fields p))
      → r ≡ finished (i + width (pat_fields p)) (length (pat_fields p)) (size p) → TermFound l i r
  term-bad : r.good ≡ false → ((k : ℕ) → read (fields_from l i) (suc k) ≡ bad r.fields) → r.fields ≤ length (fields_from l i) → TermFound l i r

one_plain : {p : Pat} → Plains (more-pats p no-pats) → Plain p
one_plain (plain_more h k) = h

by-head-most : (h : Head) (x y z : Term) {m : ℕ} → x.fields ≤ m → y.fields ≤ m → z.fields ≤ m → (by_head h x y z).fields ≤ m
by-head-most (variable v) x y z p q r = p
by-head-most (constructor c) x y z p q r = q
by-head-most neither x y z p q r = r

by-count-most : (o : Option ℕ) (k : ℕ → Term) (z : Term) {m : ℕ} → ((n : ℕ) → (k n).fields ≤ m) → z.fields ≤ m → (by_own_count o k z).fields ≤ m
by-count-most none k z p q = q
by-count-most (some n) k z p q = p n

mutual
  unfolding scanned scanned_count

  -- No more fields are good than there are.
  scan-most : (fs : Fields) (w at n s : ℕ) → (scanned fs w at n s).fields ≤ n + length fs
  scan-most [] zero at n s = omega arith
  scan-most [] (suc w) at n s = omega arith
  scan-most (f ∷ fs) zero at n s = omega arith
  scan-most (f ∷ fs) (suc w) at n s =
      let a : (scanned fs w (at + length f + 1) (n + 1) (s + 1)).fields ≤ n + suc (length fs) = omega (arith, scan-most fs w (at + length f + 1) (n + 1) (s + 1)) in
      let b : (scanned_count fs w (at + length f + 1) (n + 1) s).fields ≤ n + suc (length fs) = omega (arith, count_most fs w (at + length f + 1) (n + 1) s) in
      by-head-most (head_of f) (scanned fs w (at + length f + 1) (n + 1) (s + 1)) (scanned_count fs w (at + length f + 1) (n + 1) s) (stopped at n s) a b (omega arith)

  count_most : (fs : Fields) (w at n s : ℕ) → (scanned_count fs w at n s).fields ≤ n + length fs
  count_most [] w at n s = omega arith
  count_most (f ∷ fs) w at n s = by-count-most (up_to_six (number_of one_word f)) (λ k. scanned fs (w + k) (at + length f + 1) (n + 1) (s + 1)) (stopped at n s)
      (λ k. omega (arith, scan-most fs (w + k) (at + length f + 1) (n + 1) (s + 1))) (omega arith)

pub term_found : (l : List ℕ) (i : ℕ) (r : Term) → r ≡ scanned (fields_from l i) 1 i 0 0 → TermFound l i r
unfolding count pats_fields sizes
term_found l i r e = go (told (fields_from l i) 1 i 0 0)
  where
    one : (ps : Pats) (rest : Fields) → Plains ps → count ps ≡ 1 → fields_from l i ≡ pats_fields ps ++ rest
        → scanned (fields_from l i) 1 i 0 0 ≡ finished (i + width (pats_fields ps)) (0 + length (pats_fields ps)) (0 + sizes ps) → TermFound l i r
    one no-pats rest h c t s = absurd (omega arith)
    one (more-pats p no-pats) rest h c t s =
        let n : pat_fields p ++ [] ≡ pat_fields p = append-nil (pat_fields p) in
        let t' : fields_from l i ≡ pat_fields p ++ rest = t ∙ ap (λ (gs : Fields). gs ++ rest) n in
        let y : fields_from l (i + width (pat_fields p)) ≡ rest = fields-along l i (pat_fields p) rest t' in
        term-good p (one_plain h) (t' ∙ ap (λ (gs : Fields). pat_fields p ++ gs) (sym y)) (e ∙ s ∙ same_end (omega (arith, ap width n)) (omega (arith, ap length n)) (omega arith))
    one (more-pats p (more-pats q ps)) rest h c t s = absurd (omega arith)

    go : Told (fields_from l i) 1 i 0 0 → TermFound l i r
    go (told-good ps rest h c t s) = one ps rest h c t s
    go (told-bad n a z x s) =
        let y : r ≡ stopped a (0 + n) z = e ∙ s in
        let f : r.fields ≡ n = ap (λ (u : Term). u.fields) y ∙ omega arith in
        term-bad (ap (λ (u : Term). u.good) y) (λ k. let y : suc k ≡ 1 + k = omega arith in rw y (x k ∙ ap bad (sym f)))
        (omega (arith, ap (λ (u : Term). u.fields) e, scan-most (fields_from l i) 1 i 0 0))

-- ---- how far it goes

mutual
  unfolding size sizes pat_fields pats_fields

  -- A term has at least a field for each entry.
  pub size-most : (p : Pat) → size p ≤ length (pat_fields p)
  size-most (var v) = omega arith
  size-most (con c ps) = omega (arith, sizes-most ps)

  pub sizes-most : (ps : Pats) → sizes ps ≤ length (pats_fields ps)
  sizes-most no-pats = omega arith
  sizes-most (more-pats p ps) = omega (arith, size-most p, sizes-most ps, length-append (pat_fields p) (pats_fields ps))

-- A good term's places and numbers.
pub record Goodly (l : List ℕ) (i : ℕ) (r : Term) : Type 0 where
  pub on : i + r.fields ≤ r.at
  pub inside : r.at ≤ length l + 1
  pub entries : r.size ≤ r.fields

module _ {l : List ℕ} {i : ℕ} {r : Term} (h : i ≤ length l + 1) where
  pub term-inside : TermFound l i r → i + r.fields ≤ length l + 1
  term-inside (term-good p j t e) =
      let f : r.fields ≡ length (pat_fields p) = ap (λ (u : Term). u.fields) e in
      omega (arith, width-most l i h, ap width t, width-append (pat_fields p) (fields_from l (i + width (pat_fields p))), length-width (pat_fields p))
  term-inside (term-bad g x m) = omega (arith, m, width-most l i h, length-width (fields_from l i))

  pub term-goodly : TermFound l i r → r.good ≡ true → Goodly l i r
  term-goodly (term-good p j t e) g =
      let f : r.fields ≡ length (pat_fields p) = ap (λ (u : Term). u.fields) e in
      let a : r.at ≡ i + width (pat_fields p) = ap (λ (u : Term). u.at) e in
      let s : r.size ≡ size p = ap (λ (u : Term). u.size) e in
      record {
        on = omega (arith, length-width (pat_fields p));
        inside = omega (arith, width-most l i h, ap width t, width-append (pat_fields p) (fields_from l (i + width (pat_fields p))));
        entries = omega (arith, size-most p);
      }
  term-goodly (term-bad k x m) g = impossible (true-false (sym g ∙ k))
    where
      true-false : true ≡ false → ◌≡◌ {A = ℕ} 0 1
      true-false e = cc

-- ---- what the code tells of a term

told-ok : (g : Bool) (a n z : ℕ) (t : held.Term) → Ok t ≡ term_told (record { good = g; at = a; fields = n; size = z })
    → finished t.at t.fields t.size ≡ record { good = g; at = a; fields = n; size = z }
told-ok true a n z t e =
    let x : t ≡ record { at = a; fields = n; size = z } = cc in
    ap (λ (u : held.Term). finished u.at u.fields u.size) x
told-ok false a n z t e = impossible (cc)

told-err : (g : Bool) (a n z m : ℕ) → Err m ≡ term_told (record { good = g; at = a; fields = n; size = z })
    → stopped a m z ≡ record { good = g; at = a; fields = n; size = z }
told-err true a n z m e = impossible (cc)
told-err false a n z m e =
    let x : m ≡ n = cc in
    ap (λ (k : ℕ). stopped a k z) x

module _ (l : List ℕ) (i : ℕ) where
  -- A term that is good.
  pub ok-found : (t : held.Term) → Ok t ≡ term_told (scanned (fields_from l i) 1 i 0 0) → TermFound l i (finished t.at t.fields t.size)
  ok-found t e =
      let s = scanned (fields_from l i) 1 i 0 0 in
      term_found l i (finished t.at t.fields t.size) (told-ok s.good s.at s.fields s.size t e)

  -- One that is not: n of its fields are good.
  pub err-found : (n : ℕ) → Err n ≡ term_told (scanned (fields_from l i) 1 i 0 0) → (a : ℕ) × (z : ℕ) × TermFound l i (stopped a n z)
  err-found n e =
      let s = scanned (fields_from l i) 1 i 0 0 in
      (s.at, s.size, term_found l i (stopped s.at n s.size) (told-err s.good s.at s.fields s.size n e))

  module _ (h : i ≤ length l + 1) where
    pub ok-goodly : (t : held.Term) → Ok t ≡ term_told (scanned (fields_from l i) 1 i 0 0) → Goodly l i (finished t.at t.fields t.size)
    ok-goodly t e = term-goodly h (ok-found t e) refl

    pub ok-inside : (t : held.Term) → Ok t ≡ term_told (scanned (fields_from l i) 1 i 0 0) → i + t.fields ≤ length l + 1
    ok-inside t e = term-inside h (ok-found t e)

    pub err-inside : (n : ℕ) → Err n ≡ term_told (scanned (fields_from l i) 1 i 0 0) → i + n ≤ length l + 1
    err-inside n e = let (a, z, k) = err-found n e in term-inside h k

-- ---- all fields of a line

begun-within : (fs : Fields) (at to : ℕ) → at + width fs ≤ to → begun fs at to ≡ fs
unfolding width begun
begun-within [] at to h = refl
begun-within (f ∷ fs) at to h = begun-on f fs at to (omega arith) ∙ ap (λ (gs : Fields). f ∷ gs) (begun-within fs (at + length f + 1) to (omega arith))

pub begun-whole : (l : List ℕ) → begun (fields_from l 0) 0 (length l + 1) ≡ fields_from l 0
begun-whole l = begun-within (fields_from l 0) 0 (length l + 1) (width-most l 0 (omega arith))
