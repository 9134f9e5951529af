-- Entries put one after the other, and the bare entries of a rule's line. Assumes nothing.
use mathlib.Core.Path.{◌≡◌, refl, ap, sym, ◌∙◌, subst}
use mathlib.Core.List.{List, [], ◌∷◌, ◌++◌, append_assoc, append-nil}
use Prim.Native.Nat.{ℕ, suc, ◌+◌, ◌/◌, ◌%◌, ◌≤◌}
use native.Mathlib.Omega.{arith}
use lib.ListN.{length, length-append}
use Rattle.words.specs.Words.{put_row}
use Rattle.meaning.specs.Table.{SEQ, CALL, MATCH, BUILD, SCOPE, WHERE}
use Rattle.text.specs.Text.{decimal}
use Rattle.text.proofs.Put.{for-one}
use Rattle.text.proofs.Decimal.{number-decimal}
use Rattle.rules.specs.Rule.{Pat, Pats, var, con, none as no-pats, more as more-pats, Condition, count}
use Rattle.rules.specs.Text.{Fields, pat_fields, pats_fields, Plain, plain-var, plain-con, Plains, plain_more}
use Rattle.rules.specs.Entries.{Entry, strategy, row_of}
use Rattle.rules.specs.Scan.{fields_from}
use Rattle.translate.specs.Added.{put_entries, Placed}
use Rattle.translate.specs.Bare.{scope_put, bare_pat, bare_pats, bare_of, bare_count, condition_opened, call_put, bare_condition, bare_found}
use Rattle.rules.specs.Condition.{Found}
use Rattle.rules.proofs.Reading.{head-variable, head-constructor, count-number}
use Rattle.check_rules.proofs.Early.{First}

-- ---- one after the other

pub put-append : (xs ys : List Entry) (t : List ℕ) (e : ℕ) → put_entries t e (xs ++ ys) ≡ put_entries (put_entries t e xs) (e + length xs) ys
unfolding put_entries
put-append [] ys t e = let z : e + 0 ≡ e = omega arith in rw z
put-append (x ∷ xs) ys t e = let z : e + suc (length xs) ≡ suc e + length xs = omega arith in rw z (put-append xs ys (put_row t e (row_of x)) (suc e))

pub placed-more : {t t' t'' : List ℕ} {e e' e'' : ℕ} {xs ys : List Entry} → Placed t e xs t' e' → Placed t' e' ys t'' e'' → Placed t e (xs ++ ys) t'' e''
placed-more {t} {t'} {t''} {e} {e'} {e''} {xs} {ys} p q = record {
  entries = q.entries ∙ ap (λ (w : List ℕ). put_entries w e' ys) p.entries ∙ ap (λ (n : ℕ). put_entries (put_entries t e xs) n ys) p.place ∙ sym (put-append xs ys t e);
  place = omega (arith, p.place, q.place, length-append xs ys);
}

pub placed_one : {t t' : List ℕ} {e : ℕ} (x : Entry) (row : List ℕ) → t' ≡ put_row t e row → row ≡ row_of x → Placed t e (x ∷ []) t' (e + 1)
unfolding put_entries
placed_one {t} {t'} {e} x row q r = record { entries = q ∙ ap (put_row t e) r; place = refl }

-- ---- rows without operands

pub scope-row : (m x : ℕ) → 257 ∷ m % 4294967296 ∷ m / 4294967296 ∷ x ∷ 0 ∷ 0 ∷ 0 ∷ 0 ∷ [] ≡ row_of (strategy (SCOPE m x))
unfolding row_of
scope-row m x = refl

pub scope-placed : {t t' : List ℕ} {e : ℕ} (m : ℕ) → t' ≡ put_row t e (257 ∷ m % 4294967296 ∷ m / 4294967296 ∷ (e + 1) ∷ 0 ∷ 0 ∷ 0 ∷ 0 ∷ []) → Placed t e (scope_put e m) t' (e + 1)
scope-placed {t} {t'} {e} m q = placed_one (strategy (SCOPE m (suc e))) _ q (let z : e + 1 ≡ suc e = omega arith in rw z (scope-row m (suc e)))

pub seq-row : 66 ∷ 0 ∷ 0 ∷ 0 ∷ 0 ∷ 0 ∷ 0 ∷ 0 ∷ [] ≡ row_of (strategy (SEQ 0 0))
unfolding row_of
seq-row = refl

pub where-row : 273 ∷ 0 ∷ 0 ∷ 0 ∷ 0 ∷ 0 ∷ 0 ∷ 0 ∷ [] ≡ row_of (strategy (WHERE 0))
unfolding row_of
where-row = refl

pub match-row : 225 ∷ 0 ∷ 0 ∷ 0 ∷ 0 ∷ 0 ∷ 0 ∷ 0 ∷ [] ≡ row_of (strategy (MATCH 0))
unfolding row_of
match-row = refl

pub build-row : 241 ∷ 0 ∷ 0 ∷ 0 ∷ 0 ∷ 0 ∷ 0 ∷ 0 ∷ [] ≡ row_of (strategy (BUILD 0))
unfolding row_of
build-row = refl

pub call-row : (x : ℕ) → 129 ∷ 0 ∷ x ∷ 0 ∷ 0 ∷ 0 ∷ 0 ∷ 0 ∷ [] ≡ row_of (strategy (CALL x))
unfolding row_of
call-row x = refl

-- One entry more, k after the first.
pub placed_on : {t t₁ t₂ : List ℕ} {e : ℕ} (k : ℕ) {xs : List Entry} → Placed t e xs t₁ (e + k) → (x : Entry) (row : List ℕ) → t₂ ≡ put_row t₁ (e + k) row → row ≡ row_of x
    → Placed t e (xs ++ (x ∷ [])) t₂ (e + suc k)
placed_on {t} {t₁} {t₂} {e} k {xs} p x row q r =
    let z : e + k + 1 ≡ e + suc k = omega arith in
    subst (λ (n : ℕ). Placed t e (xs ++ (x ∷ [])) t₂ n) z (placed-more p (placed_one x row q r))

-- ---- a term's

mutual
  unfolding bare_of bare_count bare_pat bare_pats pat_fields pats_fields count

  bare-pat : (p : Pat) → Plain p → (fs : Fields) (k : ℕ) → bare_of (pat_fields p ++ fs) (suc k) ≡ bare_pat p ++ bare_of fs k
  bare-pat (var v) (plain-var l) fs k = rw (head-variable v l)
  bare-pat (con c ps) (plain-con l m h) fs k =
      let small : c ≤ 4294967295 = omega arith in
      let z : k + count ps ≡ count ps + k = omega arith in
      rw (head-constructor (decimal c) c (number-decimal for-one c small) l, count-number (count ps) m, z, bare-pats ps h fs k)

  bare-pats : (ps : Pats) → Plains ps → (fs : Fields) (k : ℕ) → bare_of (pats_fields ps ++ fs) (count ps + k) ≡ bare_pats ps ++ bare_of fs k
  bare-pats no-pats h fs k = let z : 0 + k ≡ k = omega arith in rw z
  bare-pats (more-pats p ps) (plain_more i h) fs k =
      let z : suc (count ps) + k ≡ suc (count ps + k) = omega arith in
      rw (z, append_assoc, bare-pat p i (pats_fields ps ++ fs) (count ps + k), bare-pats ps h fs k) (sym (append_assoc (bare_pat p) (bare_pats ps) (bare_of fs k)))

none_bare : (fs : Fields) → bare_of fs 0 ≡ []
unfolding bare_of
none_bare [] = refl
none_bare (f ∷ fs) = refl

-- The bare entries that the fields of a term say are the term's.
pub bare-term : (l : List ℕ) (i : ℕ) (p : Pat) (rest : Fields) → Plain p → fields_from l i ≡ pat_fields p ++ rest → bare_of (fields_from l i) 1 ≡ bare_pat p
bare-term l i p rest h t = ap (λ (fs : Fields). bare_of fs 1) t ∙ bare-pat p h rest 0 ∙ ap (λ (xs : List Entry). bare_pat p ++ xs) (none_bare rest) ∙ append-nil (bare_pat p)

-- And so of a condition's.
pub bare-condition : {l : List ℕ} {at : ℕ} {r : Found} {rest : List Condition} (n : First l at r rest) → bare_found l r ≡ bare_condition n.first
unfolding bare_found bare_condition
bare-condition {l} {at} {r} n =
    rw (n.found, bare-term l _ n.first.start _ n.start n.start-text, bare-term l _ n.first.outcome _ n.outcome n.outcome-text)

-- As many entries as it has.
pub found-long : (l : List ℕ) (c : Found) → length (bare_found l c) ≡ 7 + (length (bare_of (fields_from l c.start) 1) + length (bare_of (fields_from l c.outcome) 1))
unfolding bare_found
found-long l c = omega (arith, length-append (bare_of (fields_from l c.start) 1) (call_put c.callee ++ bare_of (fields_from l c.outcome) 1))

pub placed-found : (l : List ℕ) (c : Found) {t t₁ t₂ t₃ t₄ : List ℕ} {e e₁ e₂ e₃ e₄ : ℕ} → Placed t e condition_opened t₁ e₁ → Placed t₁ e₁ (bare_of (fields_from l c.start) 1) t₂ e₂
    → Placed t₂ e₂ (call_put c.callee) t₃ e₃ → Placed t₃ e₃ (bare_of (fields_from l c.outcome) 1) t₄ e₄ → Placed t e (bare_found l c) t₄ e₄
unfolding bare_found
placed-found l c p q r s = placed-more p (placed-more q (placed-more r s))
