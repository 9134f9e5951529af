-- A table whose entries in use are good keeps their free variables when entries are added after them. Assumes nothing.
use mathlib.Core.Path.{◌≡◌, refl, ap, sym, ◌∙◌, subst}
use mathlib.Core.Bool.{true, false}
use mathlib.Core.List.{List, [], ◌∷◌}
use Prim.Native.Nat.{ℕ, ◌+◌, ◌-◌, ◌≤◌, ◌<◌}
use native.Mathlib.Omega.{arith}
use lib.ListN.{get_or-eq_default}
use Rattle.words.specs.Words.{word_at, rows}
use Rattle.checks.specs.Kinds.{ours}
use Rattle.checks.specs.Good.{kind_of, argument_of, number, mask_by}
use Rattle.checks.specs.Plain.{Entry}
use Rattle.meaning.specs.Table.{Strategy, FAIL, MATCH, BUILD, SCOPE, PVAR, PCON, table, table_by, by_kind, operands}
use Rattle.meaning.specs.Free.{In, here, there, operands_of}
use Rattle.meaning.proofs.Tests.{impossible}
use Rattle.free.proofs.Entries.{plain, Shape, is_plain, is-match, is-build, is-scope, is-variable, is-con, shape}
use Rattle.rules.specs.Promises.{Extends}

module _ (a b : List ℕ) (x : ℕ) (same : (j : ℕ) → j < 8 → word_at a x j ≡ word_at b x j) where
  -- Equal words are equal entries.
  pub same-strategy : (table a).strategies x ≡ (table b).strategies x
  unfolding table_by number
  same-strategy = rw (same 0 (omega arith), same 1 (omega arith), same 2 (omega arith), same 3 (omega arith), same 4 (omega arith), same 5 (omega arith), same 6 (omega arith), same 7 (omega arith))

  pub same-pattern : (table a).patterns x ≡ (table b).patterns x
  unfolding table_by
  same-pattern = rw (same 0 (omega arith), same 1 (omega arith), same 2 (omega arith), same 3 (omega arith), same 4 (omega arith), same 5 (omega arith), same 6 (omega arith), same 7 (omega arith))

module _ (t : List ℕ) (x : ℕ) where
  -- A pattern is no strategy, and a strategy no constructor.
  no-strategy : 18 ≤ kind_of t x → (table t).strategies x ≡ FAIL
  unfolding table_by by_kind
  no-strategy l = get_or-eq_default (by_kind (argument_of t x) (word_at t x 2) (word_at t x 3) (operands t x) (mask_by ours t x) (word_at t x (1 + ours))) FAIL l

  no-pattern : kind_of t x ≤ 18 → (table t).patterns x ≡ PVAR (argument_of t x)
  unfolding table_by
  no-pattern l = let z : kind_of t x - 18 ≡ 0 = omega arith in rw z

  none_in : {y : ℕ} {xs : List ℕ} → xs ≡ [] → In y xs → ⊥
  none_in e here = let z : ◌≡◌ {A = ℕ} 0 1 = cc in omega arith
  none_in e (there i) = let z : ◌≡◌ {A = ℕ} 0 1 = cc in omega arith

  first-in : {y p : ℕ} {xs : List ℕ} → xs ≡ y ∷ [] → y ≡ p → In p xs
  first-in e z = rw (e, z) here

  fails : {A : Type 0} {s : Strategy} → (table t).strategies x ≡ FAIL → (table t).strategies x ≡ s → plain s ≡ false → A
  fails i j k = impossible (let z : true ≡ false = ap plain (sym i ∙ j) ∙ k in cc)

  operands-in : Shape ours t x → {y : ℕ} → In y (operands_of ((table t).strategies x)) → y < rows t
  unfolding operands_of
  operands-in (is_plain l o p q s) {y} i = (s y (subst (In y) q i)).0
  operands-in (is-match k i q p) h = absurd (none_in (ap operands_of i) h)
  operands-in (is-build k i q p) h = absurd (none_in (ap operands_of i) h)
  operands-in (is-scope k i m s) h = absurd (none_in (ap operands_of i) h)
  operands-in (is-variable k i l) h = absurd (none_in (ap operands_of (no-strategy (omega arith))) h)
  operands-in (is-con k i p) h = absurd (none_in (ap operands_of (no-strategy (omega arith))) h)

  matched-in : Shape ours t x → (p : ℕ) → (table t).strategies x ≡ MATCH p → p < rows t
  matched-in (is_plain l o f q s) p e = impossible (let z : true ≡ false = sym f ∙ ap plain e in cc)
  matched-in (is-match k i q s) p e = let z : word_at t x 2 ≡ p = cc in (s p (first-in q z)).0
  matched-in (is-build k i q s) p e = impossible (cc)
  matched-in (is-scope k i m s) p e = impossible (cc)
  matched-in (is-variable k i l) p e = fails (no-strategy (omega arith)) e refl
  matched-in (is-con k i s) p e = fails (no-strategy (omega arith)) e refl

  built_in : Shape ours t x → (p : ℕ) → (table t).strategies x ≡ BUILD p → p < rows t
  built_in (is_plain l o f q s) p e = impossible (let z : true ≡ false = sym f ∙ ap plain e in cc)
  built_in (is-match k i q s) p e = impossible (cc)
  built_in (is-build k i q s) p e = let z : word_at t x 2 ≡ p = cc in (s p (first-in q z)).0
  built_in (is-scope k i m s) p e = impossible (cc)
  built_in (is-variable k i l) p e = fails (no-strategy (omega arith)) e refl
  built_in (is-con k i s) p e = fails (no-strategy (omega arith)) e refl

  scoped-in : Shape ours t x → (m y : ℕ) → (table t).strategies x ≡ SCOPE m y → y < rows t
  scoped-in (is_plain l o f q s) m y e = impossible (let z : true ≡ false = sym f ∙ ap plain e in cc)
  scoped-in (is-match k i q s) m y e = impossible (cc)
  scoped-in (is-build k i q s) m y e = impossible (cc)
  scoped-in (is-scope k i n s) m y e = let z : word_at t x (1 + ours) ≡ y = cc in subst (λ (v : ℕ). v < rows t) z s.0
  scoped-in (is-variable k i l) m y e = fails (no-strategy (omega arith)) e refl
  scoped-in (is-con k i s) m y e = fails (no-strategy (omega arith)) e refl

  parts_in : Shape ours t x → (c q : ℕ) (ps : List ℕ) → (table t).patterns x ≡ PCON c ps → In q ps → q < rows t
  parts_in (is_plain l o f g s) c q ps e i = impossible (let z = sym (no-pattern (omega arith)) ∙ e in cc)
  parts_in (is-match k f g s) c q ps e i = impossible (let z = sym (no-pattern (omega arith)) ∙ e in cc)
  parts_in (is-build k f g s) c q ps e i = impossible (let z = sym (no-pattern (omega arith)) ∙ e in cc)
  parts_in (is-scope k f m s) c q ps e i = impossible (let z = sym (no-pattern (omega arith)) ∙ e in cc)
  parts_in (is-variable k f l) c q ps e i = impossible (let z = sym f ∙ e in cc)
  parts_in (is-con k f s) c q ps e i = let z : operands t x ≡ ps = cc in (s q (subst (In q) (sym z) i)).0

-- The entries of a good table are those of a longer one that begins with them.
pub extends : (a b : List ℕ) → ((x : ℕ) → x < rows a → Entry a x) → ((x j : ℕ) → x < rows a → j < 8 → word_at b x j ≡ word_at a x j) → Extends (table a) (table b) (rows a)
extends a b good same = record {
  strategies = λ x l. same-strategy b a x (λ j k. same x j l k);
  patterns = λ x l. same-pattern b a x (λ j k. same x j l k);
  operands = λ x y l i. operands-in a x (shape ours a x (omega arith) (good x l)) i;
  matched = λ x p l e. matched-in a x (shape ours a x (omega arith) (good x l)) p e;
  built = λ x p l e. built_in a x (shape ours a x (omega arith) (good x l)) p e;
  scoped = λ x m y l e. scoped-in a x (shape ours a x (omega arith) (good x l)) m y e;
  parts = λ p c q ps l e i. parts_in a p (shape ours a p (omega arith) (good p l)) c q ps e i;
}
