-- A visit begins: its kind picks its rule.
use mathlib.Core.Path.{◌≡◌, refl, ap, sym, ◌∙◌, subst}
use mathlib.Core.Bool.{Bool, true, false, ◌&&◌}
use mathlib.Core.Logic.{◌⊎◌, inl, inr, ⊎_elim}
use mathlib.Core.Option.{none, some}
use mathlib.Core.List.{List, [], ◌∷◌, ◌++◌, map}
use Prim.Native.Nat.{ℕ, zero, suc, ◌+◌, ◌-◌, ◌≤◌, ◌<◌, ◌/◌, ◌%◌, min}
use native.Mathlib.Omega.{arith}
use borrow.Author.Tests.{eqb-true, eq-eqb, ne_eqb, lt-ltb}
use lib.Dec.{eqb, ltb}
use lib.ListN.{length, get_or, take, drop, set, length-take, get_or-eq_default}
use lib.Seq.{get_or-take}
use Rattle.std.proofs.lemmas.Bool.{cases_eq}
use Rattle.words.specs.Words.{word_at}
use Rattle.std.specs.Prelude.{if◌then◌else◌}
use Rattle.checks.specs.Kinds.{ours, variables}
use Rattle.checks.specs.Good.{kind_of, operand_count, argument_of, constructor_of, child_count, mask_by}
use Rattle.meaning.specs.Bindings.{Bindings, unbound, bind, has, masked}
use Rattle.meaning.specs.Table.{Strategy, FAIL, Pattern, PVAR, PCON, table_by, table, by_kind, operands, six}
use Rattle.meaning.specs.Plan.{ret, fail, stuck, make, ask, keep}
use Rattle.meaning.specs.Rules.{Visit, Do, apply, match, build, compare, does, strategy, matching, building, comparing, variable, needed}
use Rattle.meaning.specs.Rules.{when, when_at, agree, given, nth, put, walk, again, zip, one_of, some_of}
use Rattle.meaning.specs.Store.{children}
use Rattle.meaning.proofs.Bits.{bit_of, bit-has, no-bit-has, has-nothing}
use Rattle.turns.specs.declared.turn.Asked.{Asked}
use Rattle.turns.specs.declared.turn.Turn.{Turn}
use Rattle.turns.specs.declared.turn.Turn.TheVariants.{Done, Failed, Missed, Stuck, Bound, Leaf, Ask}
use Rattle.turns.specs.Ways.{Frame, record_from, held_at, kids, row_to_build, within, makes, ways, way_of, visit_of, hiding, asked_of, opened}
use Rattle.turns.specs.Ways.{plan_of, looked, Fit}
use Rattle.turns.specs.Turns.{Begins, Beside}
use Rattle.turns.proofs.Rows.{six-at, zip-take, zip-map, map-zip, walk_from}
use Rattle.turns.proofs.Resumed.{asking-for}

-- ---- a strategy begins

-- the strategy of entry x, were its kind k
abbrev pub kinded : (t : List ℕ) (x k : ℕ) → Strategy
kinded t x k = get_or (by_kind (argument_of t x) (word_at t x 2) (word_at t x 3) (operands t x) (mask_by ours t x) (word_at t x (1 + ours))) k FAIL

module _ (t w : List ℕ) (x y : ℕ) (c : Bindings ℕ) (r : Turn) where
  -- the turn r begins the strategy of kind k with the plan p
  pub begins : (k : ℕ) (s : Turn) → kind_of t x ≡ k → r ≡ s
      → ((f : Frame) (b : Bindings ℕ) → plan_of t s f (opened t w x y (asked_of s)) b c ≡ looked w (strategy (kinded t x k) y c))
      → Begins t w x y (apply x y c) c r
  unfolding does table_by
  begins k s h e p f b =
      ap (λ r. plan_of t r f (opened t w x y (asked_of r)) b c) e ∙ p f b ∙ ap (λ (k : ℕ). looked w (strategy (kinded t x k) y c)) (sym h)

  -- a kind that asks for a visit of its first operand, or of its pattern, at once
  pub begins-asking : (k m what one : ℕ) → kind_of t x ≡ k → one ≡ word_at t x 2 → r ≡ Ask (asking-for m what one y)
      → ((f : Frame) (b : Bindings ℕ)
      → plan_of t (Ask (asking-for m what (word_at t x 2) y)) f (opened t w x y (asking-for m what (word_at t x 2) y)) b c
      ≡ looked w (strategy (kinded t x k) y c))
      → Begins t w x y (apply x y c) c r
  begins-asking k m what one h o e p = begins k (Ask (asking-for m what (word_at t x 2) y)) h (e ∙ ap (λ (o : ℕ). Ask (asking-for m what o y)) o)
      p

fails-above : (a x y : ℕ) (xs : List ℕ) (m z : ℕ) (k : ℕ) → 18 ≤ k → get_or (by_kind a x y xs m z) k FAIL ≡ FAIL
unfolding by_kind
fails-above a x y xs m z k l = get_or-eq_default (by_kind a x y xs m z) FAIL {n = k} l

pub begins-none : (t w : List ℕ) (x y : ℕ) (c : Bindings ℕ) (r : Turn) → 18 ≤ kind_of t x → r ≡ Failed
    → Begins t w x y (apply x y c) c r
unfolding plan_of strategy looked
begins-none t w x y c r l e =
    begins t w x y c r (kind_of t x) Failed refl e
    (λ f b. sym (ap (λ s. looked w (strategy s y c)) (fails-above (argument_of t x) (word_at t x 2) (word_at t x 3) (operands t x)
    (mask_by ours t x) (word_at t x (1 + ours)) (kind_of t x) l)))

-- a kind that is none of those with a rule of their own
pub none-of-them : (k : ℕ) → (k ≡ 0 → ⊥) → (k ≡ 2 → ⊥) → (k ≡ 3 → ⊥) → (k ≡ 4 → ⊥) → (k ≡ 5 → ⊥) → (k ≡ 6 → ⊥) → (k ≡ 7 → ⊥) → (k ≡ 8 → ⊥)
    → (k ≡ 9 → ⊥) → (k ≡ 10 → ⊥) → (k ≡ 11 → ⊥) → (k ≡ 12 → ⊥) → (k ≡ 13 → ⊥) → (k ≡ 14 → ⊥) → (k ≡ 15 → ⊥) → (k ≡ 16 → ⊥) → (k ≡ 17 → ⊥)
    → (k ≡ 1) ⊎ (18 ≤ k)
none-of-them zero n0 n2 n3 n4 n5 n6 n7 n8 n9 n10 n11 n12 n13 n14 n15 n16 n17 = absurd (n0 refl)
none-of-them (suc zero) n0 n2 n3 n4 n5 n6 n7 n8 n9 n10 n11 n12 n13 n14 n15 n16 n17 = inl refl
none-of-them (suc (suc zero)) n0 n2 n3 n4 n5 n6 n7 n8 n9 n10 n11 n12 n13 n14 n15 n16 n17 = absurd (n2 refl)
none-of-them (suc (suc (suc zero))) n0 n2 n3 n4 n5 n6 n7 n8 n9 n10 n11 n12 n13 n14 n15 n16 n17 = absurd (n3 refl)
none-of-them (suc (suc (suc (suc zero)))) n0 n2 n3 n4 n5 n6 n7 n8 n9 n10 n11 n12 n13 n14 n15 n16 n17 = absurd (n4 refl)
none-of-them (suc (suc (suc (suc (suc zero))))) n0 n2 n3 n4 n5 n6 n7 n8 n9 n10 n11 n12 n13 n14 n15 n16 n17 = absurd (n5 refl)
none-of-them (suc (suc (suc (suc (suc (suc zero)))))) n0 n2 n3 n4 n5 n6 n7 n8 n9 n10 n11 n12 n13 n14 n15 n16 n17 = absurd (n6 refl)
none-of-them (suc (suc (suc (suc (suc (suc (suc zero))))))) n0 n2 n3 n4 n5 n6 n7 n8 n9 n10 n11 n12 n13 n14 n15 n16 n17 = absurd (n7 refl)
none-of-them (suc (suc (suc (suc (suc (suc (suc (suc zero)))))))) n0 n2 n3 n4 n5 n6 n7 n8 n9 n10 n11 n12 n13 n14 n15 n16 n17 =
    absurd (n8 refl)
none-of-them (suc (suc (suc (suc (suc (suc (suc (suc (suc zero))))))))) n0 n2 n3 n4 n5 n6 n7 n8 n9 n10 n11 n12 n13 n14 n15 n16 n17 =
    absurd (n9 refl)
none-of-them (suc (suc (suc (suc (suc (suc (suc (suc (suc (suc zero)))))))))) n0 n2 n3 n4 n5 n6 n7 n8 n9 n10 n11 n12 n13 n14 n15 n16 n17 =
    absurd (n10 refl)
none-of-them (suc (suc (suc (suc (suc (suc (suc (suc (suc (suc (suc zero))))))))))) n0 n2 n3 n4 n5 n6 n7 n8 n9 n10 n11 n12 n13 n14 n15 n16
    n17 = absurd (n11 refl)
none-of-them (suc (suc (suc (suc (suc (suc (suc (suc (suc (suc (suc (suc zero)))))))))))) n0 n2 n3 n4 n5 n6 n7 n8 n9 n10 n11 n12 n13 n14 n15
    n16 n17 = absurd (n12 refl)
none-of-them (suc (suc (suc (suc (suc (suc (suc (suc (suc (suc (suc (suc (suc zero))))))))))))) n0 n2 n3 n4 n5 n6 n7 n8 n9 n10 n11 n12 n13
    n14 n15 n16 n17 = absurd (n13 refl)
none-of-them (suc (suc (suc (suc (suc (suc (suc (suc (suc (suc (suc (suc (suc (suc zero)))))))))))))) n0 n2 n3 n4 n5 n6 n7 n8 n9 n10 n11 n12
    n13 n14 n15 n16 n17 = absurd (n14 refl)
none-of-them (suc (suc (suc (suc (suc (suc (suc (suc (suc (suc (suc (suc (suc (suc (suc zero))))))))))))))) n0 n2 n3 n4 n5 n6 n7 n8 n9 n10
    n11 n12 n13 n14 n15 n16 n17 = absurd (n15 refl)
none-of-them (suc (suc (suc (suc (suc (suc (suc (suc (suc (suc (suc (suc (suc (suc (suc (suc zero)))))))))))))))) n0 n2 n3 n4 n5 n6 n7 n8 n9
    n10 n11 n12 n13 n14 n15 n16 n17 = absurd (n16 refl)
none-of-them (suc (suc (suc (suc (suc (suc (suc (suc (suc (suc (suc (suc (suc (suc (suc (suc (suc zero))))))))))))))))) n0 n2 n3 n4 n5 n6 n7
    n8 n9 n10 n11 n12 n13 n14 n15 n16 n17 = absurd (n17 refl)
none-of-them (suc (suc (suc (suc (suc (suc (suc (suc (suc (suc (suc (suc (suc (suc (suc (suc (suc (suc k)))))))))))))))))) n0 n2 n3 n4 n5 n6
    n7 n8 n9 n10 n11 n12 n13 n14 n15 n16 n17 = inr (omega arith)

-- ---- the visit of each mode

pub as-visit : (t w : List ℕ) {u v : Visit ℕ} → u ≡ v → looked w (does (table t) u) ≡ looked w (does (table t) v)
as-visit t w e = ap (λ v. looked w (does (table t) v)) e

module _ (m x y : ℕ) (b : Bindings ℕ) where
  pub visit-applied : m ≡ 0 → apply x y b ≡ visit_of m x y b
  unfolding visit_of
  visit-applied e = sym (ap (λ (m : ℕ). visit_of m x y b) e)

  pub visit-matched : m ≡ 1 → match x y b ≡ visit_of m x y b
  unfolding visit_of
  visit-matched e = sym (ap (λ (m : ℕ). visit_of m x y b) e)

  pub visit-built : m ≡ 2 → build x y b ≡ visit_of m x y b
  unfolding visit_of
  visit-built e = sym (ap (λ (m : ℕ). visit_of m x y b) e)

  pub visit-compared : (m ≡ 0 → ⊥) → (m ≡ 1 → ⊥) → (m ≡ 2 → ⊥) → compare x y b ≡ visit_of m x y b
  unfolding visit_of
  visit-compared n0 n1 n2 = rw (ne_eqb m 0 n0, ne_eqb m 1 n1, ne_eqb m 2 n2) refl

-- ---- SCOPE begins

-- a mask of nothing hides nothing
hiding-masks : (m : ℕ) (c : Bindings ℕ) → hiding m c ≡ masked m unbound c
unfolding masked
hiding-masks m c = go (eqb m 0) refl
  where
    go : (z : Bool) → eqb m 0 ≡ z → (if z then c else masked m unbound c) ≡ masked m unbound c
    go true e = λ i v. if sym (ap (λ (m : ℕ). has m v) (eqb-true m 0 e) ∙ has-nothing v) i then none else c v
    go false e = refl

pub scope-begins : (t w : List ℕ) (x y m one : ℕ) (c : Bindings ℕ) (r : Turn) → kind_of t x ≡ 16 → one ≡ word_at t x 3 → m ≡ mask_by ours t x
    → r ≡ Ask (record { mode = 0; what = 7; at = 0; x = one; y = y; mask = m }) → Begins t w x y (apply x y c) c r
unfolding plan_of way_of ways visit_of looked strategy by_kind
scope-begins t w x y m one c r h o i e =
    begins t w x y c r 16 _ h e
    (λ f b. λ z. ask keep (apply (o z) y ((hiding-masks m c ∙ ap (λ (m : ℕ). masked m unbound c) i) z))
    (λ h d. ret h (masked (mask_by ours t x) c d)) fail)

-- ---- PATH begins

nth_past : (hs : List ℕ) (i : ℕ) → length hs < i → nth hs i ≡ none
unfolding nth
nth_past [] i l = refl
nth_past (h ∷ hs) zero l = absurd (omega arith)
nth_past (h ∷ hs) (suc zero) l = absurd (omega arith)
nth_past (h ∷ hs) (suc (suc i)) l = nth_past hs (suc i) (omega arith)

nth-zero : (hs : List ℕ) → nth hs 0 ≡ none
unfolding nth
nth-zero [] = refl
nth-zero (h ∷ hs) = refl

nth-at : (hs : List ℕ) (i : ℕ) → i < length hs → nth hs (suc i) ≡ some (get_or hs i 0)
unfolding nth
nth-at [] i l = absurd (omega arith)
nth-at (h ∷ hs) zero l = refl
nth-at (h ∷ hs) (suc i) l = nth-at hs i (omega arith)

put-set : (hs : List ℕ) (i g : ℕ) → put hs (suc i) g ≡ set hs i g
unfolding put
put-set [] i g = refl
put-set (h ∷ hs) zero g = refl
put-set (h ∷ hs) (suc i) g = ap (λ r. h ∷ r) (put-set hs i g)

module _ (t w : List ℕ) (x y : ℕ) (c : Bindings ℕ) (r : Turn) (h : kind_of t x ≡ 9) where
  pub path-nowhere : {i : ℕ} → i ≡ argument_of t x → (i ≡ 0) ⊎ (min (child_count w y) 6 < i) → r ≡ Failed
      → Begins t w x y (apply x y c) c r
  unfolding plan_of looked strategy by_kind given
  path-nowhere {i} o m e =
      begins t w x y c r 9 _ h e
      (λ f b. sym (ap
      (λ p. looked w
      (given p (λ g. ask keep (apply (word_at t x 2) g c) (λ g' b'. again y (constructor_of w y) (put (children w y) (argument_of t x) g')
      b') fail))) (lost m)))
    where
      lost : (i ≡ 0) ⊎ (min (child_count w y) 6 < i) → nth (children w y) (argument_of t x) ≡ none
      lost (inl z) = ap (nth (children w y)) (sym o ∙ z) ∙ nth-zero (children w y)
      lost (inr l) = nth_past (children w y) (argument_of t x) (omega (arith, o, length-take (child_count w y) (six w y)))

  -- the child at i
  pub path-asked : {i one g : ℕ} → i ≡ argument_of t x → (i ≡ 0 → ⊥) → i ≤ min (child_count w y) 6 → one ≡ word_at t x 2
      → g ≡ word_at w y (1 + i)
      → r ≡ Ask (record { mode = 0; what = 11; at = i - 1; x = one; y = g; mask = 0 }) → Begins t w x y (apply x y c) c r
  unfolding plan_of way_of ways visit_of looked strategy by_kind given
  path-asked {i} {one} {g} o n m j q e =
      begins t w x y c r 9 _ h e
      (λ f b. (λ z. ask keep (apply (j z) (kid z) c)
      (λ h d. within (place z) (children w y) (again y (constructor_of w y) (set (children w y) (place z) h) d)) fail)
      ∙ rw (lt-ltb (i - 1) (length (children w y)) inside)
      (λ z. ask keep (apply (word_at t x 2) (get_or (children w y) (i - 1) 0) c) (λ h d. again y (constructor_of w y) (sym (new h) z) d)
      fail)
      ∙ sym (ap (λ p.
      looked w (given p
      (λ g. ask keep (apply (word_at t x 2) g c) (λ g' b'. again y (constructor_of w y) (put (children w y) (argument_of t x) g') b')
      fail))) found))
    where
      inside : i - 1 < length (children w y)
      inside = omega (arith, length-take (child_count w y) (six w y))

      next : argument_of t x ≡ suc (i - 1)
      next = omega (arith, o)

      place : (i - 1) % 8 ≡ i - 1
      place = omega arith

      found : nth (children w y) (argument_of t x) ≡ some (get_or (children w y) (i - 1) 0)
      found = ap (nth (children w y)) next ∙ nth-at (children w y) (i - 1) inside

      new : (h : ℕ) → put (children w y) (argument_of t x) h ≡ set (children w y) (i - 1) h
      new h = ap (λ (i : ℕ). put (children w y) i h) next ∙ put-set (children w y) (i - 1) h

      kid : g ≡ get_or (children w y) (i - 1) 0
      kid =
          q ∙ ap (word_at w y) (omega arith)
          ∙ sym (get_or-take (child_count w y) (six w y) (i - 1) 0 (omega arith) ∙ six-at w y (i - 1) (omega arith))

-- ---- ALL, ONE and SOME begin

one_from : (e : ℕ) (ks : List ℕ) (b : Bindings ℕ) (k : List ℕ → Bindings ℕ → Do ℕ) → 0 < length ks
    → one_of e [] ks b k ≡ ask keep (apply e (get_or ks 0 0) b) (λ h d. within 0 ks (k (set ks 0 h) d))
    (one_of e (take (0 + 1) ks) (drop (0 + 1) ks) b k)
unfolding one_of
one_from e [] b k l = absurd (omega arith)
one_from e (h ∷ hs) b k l = rw (lt-ltb 0 (suc (length hs)) (omega arith)) refl

some-from : (e : ℕ) (ks : List ℕ) (b : Bindings ℕ) (k : List ℕ → Bindings ℕ → Do ℕ) → 0 < length ks
    → some_of e false [] ks b k
    ≡ ask keep (apply e (get_or ks 0 0) b) (λ h d. within 0 ks (some_of e true (take 0 ks ++ (h ∷ [])) (drop (0 + 1) ks) d k))
    (within 0 ks (some_of e false (take (0 + 1) ks) (drop (0 + 1) ks) b k))
unfolding some_of
some-from e [] b k l = absurd (omega arith)
some-from e (h ∷ hs) b k l = rw (lt-ltb 0 (suc (length hs)) (omega arith)) refl

module _ (w : List ℕ) (y : ℕ) where
  pub no-children : {n : ℕ} → n ≡ child_count w y → n ≡ 0 → children w y ≡ []
  no-children o z = ap (λ (n : ℕ). take n (six w y)) (sym o ∙ z)

  pub has-children : {n : ℕ} → n ≡ child_count w y → (n ≡ 0 → ⊥) → 0 < length (children w y)
  has-children o z = omega (arith, length-take (child_count w y) (six w y))

  pub few-children : length (children w y) ≤ 6
  few-children = omega (arith, length-take (child_count w y) (six w y))

  pub first-child : 0 < length (children w y) → {g : ℕ} → g ≡ word_at w y 2 → g ≡ get_or (children w y) 0 0
  first-child l q = q ∙ sym (get_or-take (child_count w y) (six w y) 0 0 (omega (arith, length-take (child_count w y) (six w y))))

-- the kind k of ALL, ONE or SOME, and what its frame waits for
abbrev pub OfChildren : (what k : ℕ) → Type 0
OfChildren what k = ((what ≡ 12) × (k ≡ 11)) ⊎ (((what ≡ 8) × (k ≡ 12)) ⊎ ((what ≡ 9) × (k ≡ 13)))

pub of-all : (what k : ℕ) → OfChildren what k → what ≡ 12 → k ≡ 11
of-all what k (inl h) e = h.1
of-all what k (inr (inl h)) e = absurd (omega (arith, h.0))
of-all what k (inr (inr h)) e = absurd (omega (arith, h.0))

pub of_others : (what k : ℕ) → OfChildren what k → (what ≡ 12 → ⊥) → (k ≡ 12) ⊎ (k ≡ 13)
of_others what k (inl h) n = absurd (n h.0)
of_others what k (inr (inl h)) n = inl h.1
of_others what k (inr (inr h)) n = inr h.1

module _ (t w : List ℕ) (x y : ℕ) (c : Bindings ℕ) (r : Turn) where
  module _ (z : children w y ≡ []) where
    pub all-of-none : kind_of t x ≡ 11 → r ≡ Done y → Begins t w x y (apply x y c) c r
    unfolding plan_of looked strategy by_kind walk again
    all-of-none h e =
        begins t w x y c r 11 _ h e
        (λ f b. sym (ap (λ ks. looked w (walk (map (apply (word_at t x 2)) ks) [] c (again y (constructor_of w y)))) z))

    pub none-of-none : (kind_of t x ≡ 12) ⊎ (kind_of t x ≡ 13) → r ≡ Failed → Begins t w x y (apply x y c) c r
    unfolding plan_of looked strategy by_kind one_of some_of when
    none-of-none (inl h) e =
        begins t w x y c r 12 _ h e (λ f b. sym (ap (λ ks. looked w (one_of (word_at t x 2) [] ks c (again y (constructor_of w y)))) z))
    none-of-none (inr h) e =
        begins t w x y c r 13 _ h e (λ f b. sym (ap (λ ks. looked w (some_of (word_at t x 2) false [] ks c (again y (constructor_of w y)))) z))

  module _ (l : 0 < length (children w y)) {one g : ℕ} (o : one ≡ word_at t x 2) (q : g ≡ word_at w y 2) where
    kid : g ≡ get_or (children w y) 0 0
    kid = first-child w y l q

    all_asked : kind_of t x ≡ 11 → r ≡ Ask (asking-for 0 12 one g) → Begins t w x y (apply x y c) c r
    unfolding plan_of way_of ways visit_of looked strategy by_kind
    all_asked h e =
        begins t w x y c r 11 _ h e
        (λ f b. (λ z. ask keep (apply (o z) (kid z) c)
        (λ h d. within 0 (children w y)
        (walk (zip (λ o h. apply (word_at t x 2) h) (drop (0 + 1) (six t x)) (drop (0 + 1) (children w y)))
        (take 0 (children w y) ++ (h ∷ [])) d (again y (constructor_of w y))))
        fail)
        ∙ sym
        (ap (λ qs. looked w (walk qs [] c (again y (constructor_of w y))))
        (sym (zip-map (apply (word_at t x 2)) (six t x) (children w y) (few-children w y)))
        ∙ ap (looked w) (walk_from (λ o h. apply (word_at t x 2) h) (six t x) (again y (constructor_of w y)) (children w y) c l
        (omega arith))))

    one-asked : kind_of t x ≡ 12 → r ≡ Ask (asking-for 0 8 one g) → Begins t w x y (apply x y c) c r
    unfolding plan_of way_of ways visit_of looked strategy by_kind
    one-asked h e =
        begins t w x y c r 12 _ h e
        (λ f b. (λ z. ask keep (apply (o z) (kid z) c)
        (λ h d. within 0 (children w y) (again y (constructor_of w y) (set (children w y) 0 h) d))
        (one_of (word_at t x 2) (take (0 + 1) (children w y)) (drop (0 + 1) (children w y)) c (again y (constructor_of w y))))
        ∙ sym (ap (looked w) (one_from (word_at t x 2) (children w y) c (again y (constructor_of w y)) l)))

    some-asked : kind_of t x ≡ 13 → r ≡ Ask (asking-for 0 9 one g) → Begins t w x y (apply x y c) c r
    unfolding plan_of way_of ways visit_of looked strategy by_kind
    some-asked h e =
        begins t w x y c r 13 _ h e
        (λ f b. (λ z. ask keep (apply (o z) (kid z) c)
        (λ h d. within 0 (children w y) (some_of (word_at t x 2) true (take 0 (children w y) ++ (h ∷ []))
        (drop (0 + 1) (children w y)) d (again y (constructor_of w y))))
        (within 0 (children w y) (some_of (word_at t x 2) false (take (0 + 1) (children w y)) (drop (0 + 1) (children w y)) c
        (again y (constructor_of w y)))))
        ∙ sym (ap (looked w) (some-from (word_at t x 2) (children w y) c (again y (constructor_of w y)) l)))

    pub children-asked : (what : ℕ) → OfChildren what (kind_of t x) → r ≡ Ask (asking-for 0 what one g) → Begins t w x y (apply x y c) c r
    children-asked what (inl h) e = all_asked h.1 (e ∙ ap (λ (k : ℕ). Ask (asking-for 0 k one g)) h.0)
    children-asked what (inr (inl h)) e = one-asked h.1 (e ∙ ap (λ (k : ℕ). Ask (asking-for 0 k one g)) h.0)
    children-asked what (inr (inr h)) e = some-asked h.1 (e ∙ ap (λ (k : ℕ). Ask (asking-for 0 k one g)) h.0)

-- ---- constructor and count are compared, and then the children are walked: CONG, a PCON met by MATCH, a pair

differs : (c d : ℕ) (xs ys : List ℕ) → (c ≡ d → ⊥) ⊎ (length xs ≡ length ys → ⊥) → agree c xs d ys ≡ false
unfolding agree
differs c d xs ys (inl h) = rw (ne_eqb c d h) refl
differs c d xs ys (inr h) = rw (ne_eqb (length xs) (length ys) h) (go (eqb c d))
  where
    go : (z : Bool) → (z && false) ≡ false
    go true = refl
    go false = refl

agrees : (c d : ℕ) (xs ys : List ℕ) → c ≡ d → length xs ≡ length ys → agree c xs d ys ≡ true
unfolding agree
agrees c d xs ys h g = rw (eq-eqb c d h, eq-eqb (length xs) (length ys) g) refl

-- the first m of us beside the first n of vs, a and d the constructors; guard: what a test is followed by
module _ (w : List ℕ) (guard : Bool → Do ℕ → Do ℕ) (q : ℕ → ℕ → Bindings ℕ → Visit ℕ) (k : List ℕ → Bindings ℕ → Do ℕ)
    (a m : ℕ) (us : List ℕ) (d n : ℕ) (vs : List ℕ) (long : length us ≡ 6) (long' : length vs ≡ 6) (c : Bindings ℕ) where
  abbrev pub guarded : Do ℕ
  guarded = looked w (guard (agree a (take m us) d (take n vs)) (walk (zip q (take m us) (take n vs)) [] c k))

  -- the counts as the code reads them
  few-us : length (take m us) ≡ min m 6
  few-us = length-take m us ∙ ap (λ (l : ℕ). min m l) long

  few-vs : length (take n vs) ≡ min n 6
  few-vs = length-take n vs ∙ ap (λ (l : ℕ). min n l) long'

  pub guard-lost : (a ≡ d → ⊥) ⊎ (min m 6 ≡ min n 6 → ⊥) → guarded ≡ looked w (guard false (walk (zip q (take m us) (take n vs)) [] c k))
  guard-lost h = ap (λ z. looked w (guard z (walk (zip q (take m us) (take n vs)) [] c k))) (differs a d (take m us) (take n vs) (go h))
    where
      go : (a ≡ d → ⊥) ⊎ (min m 6 ≡ min n 6 → ⊥) → (a ≡ d → ⊥) ⊎ (length (take m us) ≡ length (take n vs) → ⊥)
      go (inl h) = inl h
      go (inr h) = inr (λ e. h (sym few-us ∙ e ∙ few-vs))

  module _ (same : a ≡ d) (count : min m 6 ≡ min n 6) where
    passed : guarded ≡ looked w (guard true (walk (zip q (take m us) (take n vs)) [] c k))
    passed = ap (λ z. looked w (guard z (walk (zip q (take m us) (take n vs)) [] c k)))
        (agrees a d (take m us) (take n vs) same (few-us ∙ count ∙ sym few-vs))

    pub guard_empty : min m 6 ≡ 0 → guarded ≡ looked w (guard true (k [] c))
    unfolding walk zip
    guard_empty z = passed ∙ ap (λ xs. looked w (guard true (walk (zip q xs (take n vs)) [] c k))) (empty (take m us) (few-us ∙ z))
      where
        empty : (xs : List ℕ) → length xs ≡ 0 → xs ≡ []
        empty [] h = refl
        empty (x ∷ xs) h = absurd (omega arith)

    pub guard-first : (min m 6 ≡ 0 → ⊥)
        → guarded
        ≡ looked w (guard true (ask keep (q (get_or us 0 0) (get_or vs 0 0) c)
        (λ h e. within 0 (take n vs) (walk (zip q (drop (0 + 1) us) (drop (0 + 1) (take n vs))) (take 0 (take n vs) ++ (h ∷ [])) e k))
        fail))
    guard-first z =
        let l : 0 < length (take n vs) = omega (arith, few-vs) in
        passed
        ∙ ap (λ qs. looked w (guard true (walk qs [] c k))) (zip-take q m us (take n vs) (omega (arith, few-vs)))
        ∙ ap (λ p. looked w (guard true p)) (walk_from q us k (take n vs) c l (omega arith))
        ∙ ap (λ (h : ℕ). looked w (guard true (ask keep (q (get_or us 0 0) h c)
        (λ h e. within 0 (take n vs) (walk (zip q (drop (0 + 1) us) (drop (0 + 1) (take n vs))) (take 0 (take n vs) ++ (h ∷ [])) e k))
        fail)))
        (get_or-take n vs 0 0 (omega arith))

-- what follows from each of the three turns that constructor and count lead to
module _ {w : List ℕ} {y a n : ℕ} {lost : Turn} {first : Asked} {r : Turn} where
  pub of-beside : {P : Type 0} → Beside w y a n lost first r
      → ((a ≡ constructor_of w y → ⊥) ⊎ (min n 6 ≡ min (child_count w y) 6 → ⊥) → r ≡ lost → P)
      → (a ≡ constructor_of w y → min n 6 ≡ min (child_count w y) 6 → min n 6 ≡ 0 → r ≡ Done y → P)
      → (a ≡ constructor_of w y → min n 6 ≡ min (child_count w y) 6 → (min n 6 ≡ 0 → ⊥) → r ≡ Ask first → P)
      → P
  of-beside b differs empty walks =
      ⊎_elim
      (λ same. ⊎_elim
      (λ count. ⊎_elim (λ z. empty same count z (b.empty same count z)) (λ z. walks same count z (b.walks same count z)) (cases_eq (min n 6) 0))
      (λ no. differs (inr no) (b.differs (inr no))) (cases_eq (min n 6) (min (child_count w y) 6)))
      (λ no. differs (inl no) (b.differs (inl no))) (cases_eq a (constructor_of w y))

  pub beside-as : {a' n' : ℕ} {first' : Asked} → a ≡ a' → n ≡ n' → first ≡ first' → Beside w y a n lost first r
      → Beside w y a' n' lost first' r
  beside-as {a'} {n'} ea en ef b =
      subst (λ (f : Asked). Beside w y a' n' lost f r) ef
      (subst (λ (n : ℕ). Beside w y a' n lost first r) en (subst (λ (a : ℕ). Beside w y a n lost first r) ea b))

-- CONG begins
module _ (t w : List ℕ) (x y : ℕ) (c : Bindings ℕ) (r : Turn) (h : kind_of t x ≡ 10) where
  cong-lost : (argument_of t x ≡ constructor_of w y → ⊥) ⊎ (min (operand_count t x) 6 ≡ min (child_count w y) 6 → ⊥) → r ≡ Failed
      → Begins t w x y (apply x y c) c r
  unfolding plan_of looked strategy by_kind when
  cong-lost n e =
      begins t w x y c r 10 _ h e
      (λ f b. sym (guard-lost w when apply (again y (constructor_of w y)) (argument_of t x) (operand_count t x) (six t x) (constructor_of w y)
      (child_count w y) (six w y) refl refl c n))

  module _ (same : argument_of t x ≡ constructor_of w y) (count : min (operand_count t x) 6 ≡ min (child_count w y) 6) where
    cong-empty : min (operand_count t x) 6 ≡ 0 → r ≡ Done y → Begins t w x y (apply x y c) c r
    unfolding plan_of looked strategy by_kind when again
    cong-empty z e =
        begins t w x y c r 10 _ h e
        (λ f b. sym (guard_empty w when apply (again y (constructor_of w y)) (argument_of t x) (operand_count t x) (six t x)
        (constructor_of w y) (child_count w y) (six w y) refl refl c same count z))

    cong-asked : {one g : ℕ} → (min (operand_count t x) 6 ≡ 0 → ⊥) → one ≡ word_at t x 2 → g ≡ word_at w y 2
        → r ≡ Ask (asking-for 0 13 one g)
        → Begins t w x y (apply x y c) c r
    unfolding plan_of way_of ways visit_of looked strategy by_kind when
    cong-asked {one} {g} z o q e =
        begins t w x y c r 10 _ h e
        (λ f b. (λ z. ask keep (apply (o z) (q z) c)
        (λ h e. within 0 (children w y) (walk (zip apply (drop (0 + 1) (six t x)) (drop (0 + 1) (children w y)))
        (take 0 (children w y) ++ (h ∷ [])) e (again y (constructor_of w y)))) fail)
        ∙ sym (guard-first w when apply (again y (constructor_of w y)) (argument_of t x) (operand_count t x) (six t x) (constructor_of w y)
        (child_count w y) (six w y) refl refl c same count z))

  pub cong-begins : Beside w y (argument_of t x) (operand_count t x) Failed (asking-for 0 13 (word_at t x 2) (word_at w y 2)) r
      → Begins t w x y (apply x y c) c r
  cong-begins b = of-beside b cong-lost cong-empty (λ same count z. cong-asked same count z refl refl)

-- ---- a pattern is met

-- the pattern of entry p, were its kind k
abbrev pub patterned : (t : List ℕ) (p k : ℕ) → Pattern
patterned t p k = get_or (PVAR (argument_of t p) ∷ PCON (argument_of t p) (operands t p) ∷ []) (k - 18) (PVAR 0)

module _ (t w : List ℕ) (p y : ℕ) (c : Bindings ℕ) (r : Turn) where
  pub meets : (k : ℕ) (s : Turn) → kind_of t p ≡ k → r ≡ s
      → ((f : Frame) (b : Bindings ℕ) → plan_of t s f (opened t w p y (asked_of s)) b c ≡ looked w (matching p (patterned t p k) y c))
      → Begins t w p y (match p y c) c r
  unfolding does table_by
  meets k s h e q f b =
      ap (λ r. plan_of t r f (opened t w p y (asked_of r)) b c) e ∙ q f b ∙ ap (λ (k : ℕ). looked w (matching p (patterned t p k) y c)) (sym h)

  pub builds : (k : ℕ) (s : Turn) → kind_of t p ≡ k → r ≡ s
      → ((f : Frame) (b : Bindings ℕ) → plan_of t s f (opened t w p y (asked_of s)) b c ≡ looked w (building (patterned t p k) y c))
      → Begins t w p y (build p y c) c r
  unfolding does table_by
  builds k s h e q f b =
      ap (λ r. plan_of t r f (opened t w p y (asked_of r)) b c) e ∙ q f b ∙ ap (λ (k : ℕ). looked w (building (patterned t p k) y c)) (sym h)

-- MATCH meets a PCON
module _ (t w : List ℕ) (p y : ℕ) (c : Bindings ℕ) (r : Turn) (h : kind_of t p ≡ 19) where
  con-missed : (argument_of t p ≡ constructor_of w y → ⊥) ⊎ (min (operand_count t p) 6 ≡ min (child_count w y) 6 → ⊥)
      → r ≡ Missed p
      → Begins t w p y (match p y c) c r
  unfolding plan_of looked matching when_at
  con-missed n e =
      meets t w p y c r 19 _ h e
      (λ f b. sym (guard-lost w (when_at p) match (λ hs d. ret y d) (argument_of t p) (operand_count t p) (six t p) (constructor_of w y)
      (child_count w y) (six w y) refl refl c n))

  module _ (same : argument_of t p ≡ constructor_of w y) (count : min (operand_count t p) 6 ≡ min (child_count w y) 6) where
    con-empty : min (operand_count t p) 6 ≡ 0 → r ≡ Done y → Begins t w p y (match p y c) c r
    unfolding plan_of looked matching when_at
    con-empty z e =
        meets t w p y c r 19 _ h e
        (λ f b. sym (guard_empty w (when_at p) match (λ hs d. ret y d) (argument_of t p) (operand_count t p) (six t p) (constructor_of w y)
        (child_count w y) (six w y) refl refl c same count z))

    con-asked : {one g : ℕ} → (min (operand_count t p) 6 ≡ 0 → ⊥) → one ≡ word_at t p 2 → g ≡ word_at w y 2 → r ≡ Ask (asking-for 1 14 one g)
        → Begins t w p y (match p y c) c r
    unfolding plan_of way_of ways visit_of looked matching when_at
    con-asked {one} {g} z o q e =
        meets t w p y c r 19 _ h e
        (λ f b. (λ z. ask keep (match (o z) (q z) c)
        (λ h e. within 0 (children w y) (walk (zip match (drop (0 + 1) (six t p)) (drop (0 + 1) (children w y)))
        (take 0 (children w y) ++ (h ∷ [])) e (λ hs d. ret y d))) fail)
        ∙ sym (guard-first w (when_at p) match (λ hs d. ret y d) (argument_of t p) (operand_count t p) (six t p) (constructor_of w y)
        (child_count w y) (six w y) refl refl c same count z))

  pub con-begins : Beside w y (argument_of t p) (operand_count t p) (Missed p) (asking-for 1 14 (word_at t p 2) (word_at w y 2)) r
      → Begins t w p y (match p y c) c r
  con-begins b = of-beside b con-missed con-empty (λ same count z. con-asked same count z refl refl)

-- a pair is compared
module _ (t w : List ℕ) (x y : ℕ) (c : Bindings ℕ) (r : Turn) where
  compares : (s : Turn) → r ≡ s
      → ((f : Frame) (b : Bindings ℕ) → plan_of t s f (opened t w x y (asked_of s)) b c ≡ looked w (comparing x y c))
      → Begins t w x y (compare x y c) c r
  unfolding does
  compares s e q f b = ap (λ r. plan_of t r f (opened t w x y (asked_of r)) b c) e ∙ q f b

  pair-lost : (constructor_of w x ≡ constructor_of w y → ⊥) ⊎ (min (child_count w x) 6 ≡ min (child_count w y) 6 → ⊥)
      → r ≡ Failed
      → Begins t w x y (compare x y c) c r
  unfolding plan_of looked comparing when
  pair-lost n e =
      compares _ e
      (λ f b. sym (guard-lost w when compare (λ hs d. ret y d) (constructor_of w x) (child_count w x) (six w x) (constructor_of w y)
      (child_count w y) (six w y) refl refl c n))

  module _ (same : constructor_of w x ≡ constructor_of w y) (count : min (child_count w x) 6 ≡ min (child_count w y) 6) where
    pair-empty : min (child_count w x) 6 ≡ 0 → r ≡ Done y → Begins t w x y (compare x y c) c r
    unfolding plan_of looked comparing when
    pair-empty z e =
        compares _ e
        (λ f b. sym (guard_empty w when compare (λ hs d. ret y d) (constructor_of w x) (child_count w x) (six w x) (constructor_of w y)
        (child_count w y) (six w y) refl refl c same count z))

    pair-asked : {g h : ℕ} → (min (child_count w x) 6 ≡ 0 → ⊥) → g ≡ word_at w x 2 → h ≡ word_at w y 2 → r ≡ Ask (asking-for 3 16 g h)
        → Begins t w x y (compare x y c) c r
    unfolding plan_of way_of ways visit_of looked comparing when
    pair-asked {g} {h} z o q e =
        compares _ e
        (λ f b. (λ z. ask keep (compare (o z) (q z) c)
        (λ h e. within 0 (children w y) (walk (zip compare (drop (0 + 1) (six w x)) (drop (0 + 1) (children w y)))
        (take 0 (children w y) ++ (h ∷ [])) e (λ hs d. ret y d))) fail)
        ∙ sym (guard-first w when compare (λ hs d. ret y d) (constructor_of w x) (child_count w x) (six w x) (constructor_of w y)
        (child_count w y) (six w y) refl refl c same count z))

  pub pair-begins : Beside w y (constructor_of w x) (child_count w x) Failed (asking-for 3 16 (word_at w x 2) (word_at w y 2)) r
      → Begins t w x y (compare x y c) c r
  pair-begins b = of-beside b pair-lost pair-empty (λ same count z. pair-asked same count z refl refl)

-- BUILD meets a PCON
take-as-long : (n : ℕ) (zs xs : List ℕ) → length zs ≡ length xs → take (length (take n zs)) xs ≡ take n xs
take-as-long zero zs xs e = refl
take-as-long (suc n) [] [] e = refl
take-as-long (suc n) [] (x ∷ xs) e = absurd (omega arith)
take-as-long (suc n) (z ∷ zs) [] e = absurd (omega arith)
take-as-long (suc n) (z ∷ zs) (x ∷ xs) e = ap (λ r. x ∷ r) (take-as-long n zs xs (omega arith))

module _ (t w : List ℕ) (p y : ℕ) (c : Bindings ℕ) (r : Turn) (h : kind_of t p ≡ 19) where
  pub leaf-built : {a : ℕ} → operand_count t p ≡ 0 → a ≡ argument_of t p → r ≡ Leaf a → Begins t w p y (build p y c) c r
  unfolding plan_of looked building walk
  leaf-built z o e =
      builds t w p y c r 19 _ h e
      (λ f b. ap (λ (a : ℕ). make a [] (λ n. ret n c)) o
      ∙ sym (ap (λ (n : ℕ). looked w (walk (map (λ p. build p y) (take n (six t p))) [] c (makes (argument_of t p)))) z))

  pub build-asked : {one : ℕ} → (operand_count t p ≡ 0 → ⊥) → one ≡ word_at t p 2 → r ≡ Ask (asking-for 2 15 one y)
      → Begins t w p y (build p y c) c r
  unfolding plan_of way_of ways visit_of looked building
  build-asked {one} z o e =
      builds t w p y c r 19 _ h e
      (λ f b. (λ z. ask keep (build (o z) y c)
      (λ h d. within 0 (kids (row_to_build t p))
      (walk (zip (λ p h. build p y) (drop (0 + 1) (six t p)) (drop (0 + 1) (kids (row_to_build t p))))
      (take 0 (kids (row_to_build t p)) ++ (h ∷ [])) d (makes (argument_of t p)))) fail)
      ∙ sym
      (ap (λ qs. looked w (walk qs [] c (makes (argument_of t p))))
      (sym (map-zip (λ p. build p y) (six t p) (kids (row_to_build t p)) ∙ ap (map (λ p. build p y))
      (take-as-long (operand_count t p) (drop 2 (row_to_build t p)) (six t p) refl)))
      ∙ ap (looked w) (walk_from (λ p h. build p y) (six t p) (makes (argument_of t p)) (kids (row_to_build t p)) c
      (omega (arith, length-take (operand_count t p) (drop 2 (row_to_build t p)))) (omega arith))))

-- a variable's word in the list, its bit in the mask
module _ (k : List ℕ) (m v : ℕ) (few : v < variables) where
  pub bound-to : bit_of m v ≡ 1 → held_at k record_from m v ≡ some (get_or k (record_from + v) 0)
  unfolding held_at
  bound-to z = rw (lt-ltb v variables few, bit-has m v z) refl

  pub bound-to-none : (bit_of m v ≡ 1 → ⊥) → held_at k record_from m v ≡ none
  unfolding held_at
  bound-to-none z = rw (lt-ltb v variables few, no-bit-has m v z) refl

-- the pattern of entry p, of which the code has read the word n, is a PCON or none
pub is-con : (t : List ℕ) (p : ℕ) {n : ℕ} → n ≡ word_at t p 0 → n / 16 ≡ 19 → kind_of t p ≡ 19
is-con t p r e = ap (λ (n : ℕ). n / 16) (sym r) ∙ e

pub is-other : (t : List ℕ) (p : ℕ) {n : ℕ} → n ≡ word_at t p 0 → (n / 16 ≡ 19 → ⊥) → kind_of t p ≡ 19 → ⊥
is-other t p r never e = never (ap (λ (n : ℕ). n / 16) r ∙ e)

-- a variable is met
module _ (t w k : List ℕ) (m p y : ℕ) (fit : Fit t p) (other : kind_of t p ≡ 19 → ⊥) {v : ℕ} (o : v ≡ argument_of t p % 64) (r : Turn) where
  inside : argument_of t p < variables
  inside = fit.variable (fit.is other)

  var-is : argument_of t p ≡ v
  var-is = omega (arith, inside)

  abbrev held : Bindings ℕ
  held = held_at k record_from m

  pub var-compared : {n : ℕ} → some n ≡ held v → r ≡ Ask (asking-for 3 3 n y) → Begins t w p y (match p y held) held r
  unfolding plan_of way_of ways visit_of looked matching variable
  var-compared z e =
      meets t w p y held r 18 _ (fit.is other) e
      (λ f b. ap (λ g. looked w (variable p g (argument_of t p) y held)) (z ∙ ap held (sym var-is)))

  pub var-bound : none ≡ held v → r ≡ Bound v y → Begins t w p y (match p y held) held r
  unfolding plan_of looked matching variable
  var-bound z e =
      meets t w p y held r 18 _ (fit.is other) e
      (λ f b. ap (λ (v : ℕ). ret y (bind v y held)) (omega (arith, inside))
      ∙ ap (λ g. looked w (variable p g (argument_of t p) y held)) (z ∙ ap held (sym var-is)))

  pub var-built : {n : ℕ} → some n ≡ held v → r ≡ Done n → Begins t w p y (build p y held) held r
  unfolding plan_of looked building needed
  var-built z e =
      builds t w p y held r 18 _ (fit.is other) e
      (λ f b. ap (λ g. looked w (needed (argument_of t p) g (λ g. ret g held))) (z ∙ ap held (sym var-is)))

  pub var-stuck : none ≡ held v → r ≡ Stuck v → Begins t w p y (build p y held) held r
  unfolding plan_of looked building needed
  var-stuck z e =
      builds t w p y held r 18 _ (fit.is other) e
      (λ f b. ap stuck (sym var-is) ∙ ap (λ g. looked w (needed (argument_of t p) g (λ g. ret g held))) (z ∙ ap held (sym var-is)))
