-- The test `kept` holds of just the reachable nodes, where each node's children lie below it and the roots lie below the mark.
-- Assumes nothing.
use mathlib.Core.Path.{◌≡◌, refl, ap, sym, ◌∙◌, subst}
use mathlib.Core.Bool.{Bool, true, false, ◌&&◌, ◌||◌, true≢false}
use mathlib.Core.Logic.{◌⊎◌, inl, inr, ⊎_elim}
use mathlib.Core.Option.{some}
use mathlib.Core.List.{List}
use Prim.Native.Nat.{ℕ, zero, suc, ◌-◌, ◌≤◌, ◌<◌}
use native.Mathlib.Nat.{eq-or-lt_of_le}
use native.Mathlib.Omega.{arith}
use lib.Dec.{eqb}
use lib.ListN.{length, get_or, get_or-eq_default}
use borrow.Author.Tests.{eqb-true, eq-eqb}
use Rattle.words.proofs.Tests.{below-or-from, and-true}
use Rattle.checks.specs.Good.{child_count, child}
use Rattle.meaning.specs.Store.{named, bindings}
use Rattle.collect.specs.Reachable.{among, is_child, is_root, Reachable, at-subject, at-binding, at-child, reached, kept}

-- One of two tests holds where either does.
or-true : (a c : Bool) → a || c ≡ true → (a ≡ true) ⊎ (c ≡ true)
or-true true c e = inl refl
or-true false c e = inr e

or_left : (a c : Bool) → a ≡ true → a || c ≡ true
or_left true c e = refl
or_left false c e = absurd (true≢false (sym e))

or_right : (a c : Bool) → c ≡ true → a || c ≡ true
or_right true c e = refl
or_right false c e = e

pub or-false : (a : Bool) → a || false ≡ a
or-false true = refl
or-false false = refl

and-false : (a : Bool) → a && false ≡ false
and-false true = refl
and-false false = refl

-- A test that cannot hold fails.
pub not-holding : (t : Bool) → (t ≡ true → ⊥) → t ≡ false
not-holding true f = absurd (f refl)
not-holding false f = refl

-- The test holds among the first n numbers where it holds at one of them.
among-true : (p : ℕ → Bool) (n : ℕ) → among p n ≡ true → (i : ℕ) × (i < n) × (p i ≡ true)
unfolding among
among-true p zero e = absurd (true≢false (sym e))
among-true p (suc n) e =
    ⊎_elim (λ h. let w : (i : ℕ) × (i < n) × (p i ≡ true) = among-true p n h in (w.0, omega (arith, w.1), w.2))
    (λ h. (n, omega arith, h))
    (or-true (among p n) (p n) e)

among-at : (p : ℕ → Bool) (n i : ℕ) → i < n → p i ≡ true → among p n ≡ true
unfolding among
among-at p zero i l e = absurd (omega arith)
among-at p (suc n) i l e =
    ⊎_elim (λ h. or_left (among p n) (p n) (among-at p n i h e))
    (λ h. let z : i ≡ n = omega arith in or_right (among p n) (p n) (subst (λ (j : ℕ). p j ≡ true) z e))
    (below-or-from i n)

-- A binding's word, and the node that it names.
pub bound-word : (b : List ℕ) (v k : ℕ) → get_or b v 0 ≡ suc k → bindings b v ≡ some k
unfolding bindings named
bound-word b v k e = rw e

named-word : (n k : ℕ) → named n ≡ some k → n ≡ suc k
unfolding named
named-word zero k e = let z : ◌≡◌ {A = ℕ} 0 1 = cc in absurd (omega arith)
named-word (suc j) k e = let z : j ≡ k = cc in ap suc z

pub word_bound : (b : List ℕ) (v k : ℕ) → bindings b v ≡ some k → get_or b v 0 ≡ suc k
unfolding bindings
word_bound b v k e = named-word (get_or b v 0) k e

-- A word outside the bindings is zero.
word-inside : (b : List ℕ) (v k : ℕ) → get_or b v 0 ≡ suc k → v < length b
word-inside b v k e =
    ⊎_elim (λ h. h) (λ h. absurd (omega (arith, get_or-eq_default b 0 h))) (below-or-from v (length b))

module _ (s b : List ℕ) (mark subject : ℕ) where
  -- ---- what is kept is reachable

  root-bound : (k : ℕ) → among (λ v. eqb (get_or b v 0) (suc k)) (length b) ≡ true → Reachable s b subject k
  root-bound k h =
      let w : (v : ℕ) × (v < length b) × (eqb (get_or b v 0) (suc k) ≡ true) = among-true (λ v. eqb (get_or b v 0) (suc k)) (length b) h in
      at-binding w.0 k (bound-word b w.0 k (eqb-true (get_or b w.0 0) (suc k) w.2))

  root-reachable : (k : ℕ) → is_root b subject k ≡ true → Reachable s b subject k
  unfolding is_root
  root-reachable k e =
      ⊎_elim (λ h. subst (λ (j : ℕ). Reachable s b subject j) (sym (eqb-true k subject h)) at-subject)
      (root-bound k)
      (or-true (eqb k subject) (among (λ v. eqb (get_or b v 0) (suc k)) (length b)) e)

  child-reachable : (k i : ℕ) → Reachable s b subject k → is_child s k i ≡ true → Reachable s b subject i
  unfolding is_child
  child-reachable k i r e =
      let w : (j : ℕ) × (j < child_count s k) × (eqb (child s k j) i ≡ true) = among-true (λ j. eqb (child s k j) i) (child_count s k) e in
      subst (λ (j : ℕ). Reachable s b subject j) (eqb-true (child s k w.0) i w.2) (at-child k w.0 r w.1)

  reached-reachable : (n k : ℕ) → reached s b mark subject n k ≡ true → Reachable s b subject k
  unfolding reached
  reached-reachable zero k e = root-reachable k e
  reached-reachable (suc n) k e =
      let asked : Bool = reached s b mark subject n (mark - suc n) in
      ⊎_elim (reached-reachable n k)
      (λ h.
      let both : (asked ≡ true) × (is_child s (mark - suc n) k ≡ true) = and-true asked (is_child s (mark - suc n) k) h in
      child-reachable (mark - suc n) k (reached-reachable n (mark - suc n) both.0) both.1)
      (or-true (reached s b mark subject n k) (asked && is_child s (mark - suc n) k) e)

  pub kept-reachable : (k : ℕ) → kept s b mark subject k ≡ true → Reachable s b subject k
  unfolding kept
  kept-reachable k e = reached-reachable mark k e

  -- ---- what is reachable is kept

  module _ (below : (k i : ℕ) → k < mark → i < child_count s k → child s k i < k) (inside : subject < mark) (bound : (v : ℕ) → get_or b v 0 ≤ mark) where
    pub reachable-below : {k : ℕ} → Reachable s b subject k → k < mark
    reachable-below at-subject = inside
    reachable-below (at-binding v k e) = omega (arith, word_bound b v k e, bound v)
    reachable-below (at-child k i r l) = omega (arith, below k i (reachable-below r) l, reachable-below r)

    -- A node from j on is no child of node j.
    not-child : (j k : ℕ) → j < mark → j ≤ k → is_child s j k ≡ false
    unfolding is_child
    not-child j k h l =
        not-holding (is_child s j k) (λ e.
        let w : (i : ℕ) × (i < child_count s j) × (eqb (child s j i) k ≡ true) = among-true (λ i. eqb (child s j i) k) (child_count s j) e in
        omega (arith, below j w.0 h w.1, eqb-true (child s j w.0) k w.2))

    -- So a node's mark stays once the nodes above it have been asked.
    stays : (n k : ℕ) → n < mark → mark - suc n ≤ k → reached s b mark subject (suc n) k ≡ reached s b mark subject n k
    unfolding reached
    stays n k h l =
        rw (not-child (mark - suc n) k (omega arith) l, and-false (reached s b mark subject n (mark - suc n)))
        (or-false (reached s b mark subject n k))

    settled : (n k : ℕ) → k < mark → mark - suc k ≤ n → n ≤ mark → reached s b mark subject n k ≡ reached s b mark subject (mark - suc k) k
    settled zero k h l m = let z : 0 ≡ mark - suc k = omega arith in ap (λ (n : ℕ). reached s b mark subject n k) z
    settled (suc n) k h l m =
        ⊎_elim (λ z. ap (λ (n : ℕ). reached s b mark subject n k) (sym z))
        (λ z. stays n k (omega arith) (omega arith) ∙ settled n k h (omega arith) (omega arith))
        (eq-or-lt_of_le l)

    -- Nothing is unmarked.
    more : (m n k : ℕ) → n ≤ m → reached s b mark subject n k ≡ true → reached s b mark subject m k ≡ true
    unfolding reached
    more zero n k l e = let z : n ≡ 0 = omega arith in subst (λ (n : ℕ). reached s b mark subject n k ≡ true) z e
    more (suc m) n k l e =
        ⊎_elim (λ z. subst (λ (n : ℕ). reached s b mark subject n k ≡ true) z e)
        (λ z. or_left (reached s b mark subject m k) _ (more m n k (omega arith) e))
        (eq-or-lt_of_le l)

    -- A kept node's child is marked when the node is asked.
    asked-child : (n k i : ℕ) → mark - suc n ≡ k → reached s b mark subject n k ≡ true → i < child_count s k → reached s b mark subject (suc n) (child s k i) ≡ true
    unfolding reached is_child
    asked-child n k i z e l =
        or_right (reached s b mark subject n (child s k i)) _
        (rw (z, e) (among-at (λ j. eqb (child s k j) (child s k i)) (child_count s k) i l (eq-eqb (child s k i) (child s k i) refl)))

    pub kept-child : (k i : ℕ) → k < mark → kept s b mark subject k ≡ true → i < child_count s k → kept s b mark subject (child s k i) ≡ true
    unfolding kept
    kept-child k i h e l =
        more mark (suc (mark - suc k)) (child s k i) (omega arith)
        (asked-child (mark - suc k) k i (omega arith) (sym (settled mark k h (omega arith) (omega arith)) ∙ e) l)

    subject-root : is_root b subject subject ≡ true
    unfolding is_root
    subject-root = or_left (eqb subject subject) _ (eq-eqb subject subject refl)

    bound-root : (v k : ℕ) → get_or b v 0 ≡ suc k → is_root b subject k ≡ true
    unfolding is_root
    bound-root v k e =
        or_right (eqb k subject) _ (among-at (λ v. eqb (get_or b v 0) (suc k)) (length b) v (word-inside b v k e) (eq-eqb (get_or b v 0) (suc k) e))

    root_kept : (k : ℕ) → is_root b subject k ≡ true → kept s b mark subject k ≡ true
    unfolding kept reached
    root_kept k e = more mark 0 k (omega arith) e

    pub reachable-kept : {k : ℕ} → Reachable s b subject k → kept s b mark subject k ≡ true
    reachable-kept at-subject = root_kept subject subject-root
    reachable-kept (at-binding v k e) = root_kept k (bound-root v k (word_bound b v k e))
    reachable-kept (at-child k i r l) = kept-child k i (reachable-below r) (reachable-kept r) l
