-- The marks in the work list: what one more mark changes, and what a node's turn in the pass down does.
-- Assumes nothing.
use mathlib.Core.Path.{◌≡◌, refl, ap, sym, ◌∙◌, subst}
use mathlib.Core.Bool.{Bool, true, false, not, ◌&&◌, ◌||◌}
use mathlib.Core.Logic.{◌≢◌, ⊎_elim}
use mathlib.Core.List.{List}
use Prim.Native.Nat.{ℕ, suc, ◌-◌, ◌≤◌, ◌<◌}
use native.Mathlib.Omega.{arith}
use lib.Dec.{eqb}
use lib.ListN.{length, get_or, set, length-set, get_or-eq_default}
use lib.Seq.{get_or-set_same, get_or-set_other}
use borrow.Author.Tests.{eqb-true, eqb-false, eq-eqb, ne_eqb}
use Rattle.std.specs.Prelude.{if◌then◌else◌}
use Rattle.words.specs.Words.{cleared_from}
use Rattle.words.proofs.Rows.{length-cleared_from, get_or-cleared_from-from}
use Rattle.words.proofs.Tests.{below-or-from}
use Rattle.collect.specs.Reachable.{among, is_child, is_root, reached, kept}
use Rattle.collect.specs.Passes.{Marks, MarksOver, Flags, flagged}
use Rattle.collect.proofs.Reaching.{or-false}

-- One more mark, at t: the test q holds at t, and is p elsewhere.
module _ (n : ℕ) (old : ℕ → ℕ) (w : List ℕ) (p q : ℕ → Bool) (t : ℕ) (m : Marks n old p w) (inside : t < n) (same : (i : ℕ) → i ≢ t → q i ≡ p i) (holds : q t ≡ true) where
  marks-at : (i : ℕ) (h : Bool) → eqb i t ≡ h → i < n → get_or (set w t 1) i 0 ≡ (if q i then 1 else old i)
  marks-at i true e l =
      let z : i ≡ t = eqb-true i t e in
      rw (z, holds) (get_or-set_same w t 1 0 (omega (arith, m.long)))
  marks-at i false e l =
      let d : i ≢ t = eqb-false i t e in
      get_or-set_other w t i 1 0 d ∙ m.at i l ∙ ap (λ (x : Bool). if x then 1 else old i) (sym (same i d))

  pub marks-set : Marks n old q (set w t 1)
  marks-set = record { long = length-set w t 1 ∙ m.long; at = λ i l. marks-at i (eqb i t) refl l }

-- Where the test does not change, neither do the marks.
pub marks-same : (n : ℕ) (old : ℕ → ℕ) (w : List ℕ) (p q : ℕ → Bool) → Marks n old p w → ((i : ℕ) → q i ≡ p i) → Marks n old q w
marks-same n old w p q m e = record {
  long = m.long;
  at = λ i l. m.at i l ∙ ap (λ (x : Bool). if x then 1 else old i) (sym (e i));
}

-- Either of two tests holds where the second does.
or_true_right : (a : Bool) → a || true ≡ true
or_true_right true = refl
or_true_right false = refl

-- A test of one number more, which holds where its value is u.
module _ (f : ℕ → ℕ) (u n : ℕ) where
  pub among-more : f n ≡ u → among (λ j. eqb (f j) u) (suc n) ≡ true
  unfolding among
  among-more e = rw (eq-eqb (f n) u e) (or_true_right (among (λ j. eqb (f j) u) n))

  pub among_same : (f n ≡ u → ⊥) → among (λ j. eqb (f j) u) (suc n) ≡ among (λ j. eqb (f j) u) n
  unfolding among
  among_same e = rw (ne_eqb (f n) u e) (or-false (among (λ j. eqb (f j) u) n))

-- In a cleared list nothing is marked.
pub cleared-flags : (w : List ℕ) → Flags (length w) (λ i. false) (cleared_from w 0)
cleared-flags w = record { long = length-cleared_from w 0; at = λ i l. get_or-cleared_from-from w 0 i (omega arith) }

-- ---- the roots

-- the subject, and the nodes of the first v variables
abbrev root_to : List ℕ → ℕ → ℕ → ℕ → Bool
root_to b subject v j = eqb j subject || among (λ u. eqb (get_or b u 0) (suc j)) v

module _ (b : List ℕ) (subject n : ℕ) where
  pub root-first : (w : List ℕ) → length w ≡ n → subject < n → Flags n (root_to b subject 0) (set (cleared_from w 0) subject 1)
  unfolding among
  root-first w e l =
      marks-set n (λ i. 0) (cleared_from w 0) (λ i. false) (root_to b subject 0) subject
      (subst (λ (m : ℕ). Flags m (λ i. false) (cleared_from w 0)) e (cleared-flags w))
      l
      (λ i d. rw (ne_eqb i subject d))
      (rw (eq-eqb subject subject refl))

  -- The list stays as long as it was.
  pub root-long : (w l : List ℕ) → l ≡ cleared_from w 0 → length (set l subject 1) ≡ length w
  root-long w l e = length-set l subject 1 ∙ ap length e ∙ length-cleared_from w 0

  pub root-more : (w : List ℕ) (v t : ℕ) → Flags n (root_to b subject v) w → get_or b v 0 ≡ suc t → t < n → Flags n (root_to b subject (suc v)) (set w t 1)
  root-more w v t f e l =
      marks-set n (λ i. 0) w (root_to b subject v) (root_to b subject (suc v)) t f l
      (λ i d. ap (λ (x : Bool). eqb i subject || x) (among_same (λ u. get_or b u 0) (suc i) v (λ z. d (omega (arith, z, e)))))
      (rw (among-more (λ u. get_or b u 0) (suc t) v e) (or_true_right (eqb t subject)))

  pub root-same : (w : List ℕ) (v : ℕ) → Flags n (root_to b subject v) w → get_or b v 0 ≡ 0 → Flags n (root_to b subject (suc v)) w
  root-same w v f e =
      marks-same n (λ i. 0) w (root_to b subject v) (root_to b subject (suc v)) f
      (λ i. ap (λ (x : Bool). eqb i subject || x) (among_same (λ u. get_or b u 0) (suc i) v (λ z. omega (arith, z, e))))

-- ---- a node's turn in the pass down

flag_true : (t : Bool) (x : ℕ) → x ≡ (if t then 1 else 0) → (x ≡ 0 → ⊥) → t ≡ true
flag_true true x e n = refl
flag_true false x e n = absurd (n e)

flag-false : (t : Bool) (x : ℕ) → x ≡ (if t then 1 else 0) → x ≡ 0 → t ≡ false
flag-false true x e z = absurd (omega arith)
flag-false false x e z = refl

flag-more : (a c : Bool) (x : ℕ) → x ≡ (if a then 1 else 0) → (if c then 1 else x) ≡ (if a || (true && c) then 1 else 0)
flag-more true true x e = refl
flag-more true false x e = e
flag-more false true x e = refl
flag-more false false x e = e

flag_same : (a c : Bool) (x : ℕ) → x ≡ (if a then 1 else 0) → x ≡ (if a || (false && c) then 1 else 0)
flag_same true c x e = e
flag_same false c x e = e

module _ (s b : List ℕ) (mark subject n j k : ℕ) (w : List ℕ) (at-k : mark - suc j ≡ k) (inside : k < n) (f : Flags n (reached s b mark subject j) w) where
  pub turn-marked : (w' : List ℕ) → (get_or w k 0 ≡ 0 → ⊥) → MarksOver w (is_child s k) w' → Flags n (reached s b mark subject (suc j)) w'
  unfolding reached
  turn-marked w' h m =
      let t : reached s b mark subject j k ≡ true = flag_true (reached s b mark subject j k) (get_or w k 0) (f.at k inside) h in
      record {
        long = m.long ∙ f.long;
        at = λ i l. rw (at-k, t) (m.at i (omega (arith, f.long)) ∙ flag-more (reached s b mark subject j i) (is_child s k i) (get_or w i 0) (f.at i l));
      }

  pub turn-passed : get_or w k 0 ≡ 0 → Flags n (reached s b mark subject (suc j)) w
  unfolding reached
  turn-passed h =
      let t : reached s b mark subject j k ≡ false = flag-false (reached s b mark subject j k) (get_or w k 0) (f.at k inside) h in
      record {
        long = f.long;
        at = λ i l. rw (at-k, t) (flag_same (reached s b mark subject j i) (is_child s k i) (get_or w i 0) (f.at i l));
      }

-- The pass down, from the mark to node 0; n is the work list's length.
module _ (s b : List ℕ) (mark subject : ℕ) where
  pub pass-begun : (n : ℕ) (w : List ℕ) → Flags n (is_root b subject) w → Flags (length w) (reached s b mark subject (mark - mark)) w
  unfolding reached
  pass-begun n w f = let z : mark - mark ≡ 0 = omega arith in rw (z, f.long) f

  module _ (n k : ℕ) (w : List ℕ) (some : 0 < k) (until : k ≤ mark) (inside : k - 1 < n) (f : Flags n (reached s b mark subject (mark - k)) w) where
    one_more : suc (mark - k) ≡ mark - (k - 1)
    one_more = omega arith

    pub pass-marked : (w' : List ℕ) → (get_or w (k - 1) 0 ≡ 0 → ⊥) → MarksOver w (is_child s (k - 1)) w' → Flags n (reached s b mark subject (mark - (k - 1))) w'
    pass-marked w' h m =
        subst (λ (j : ℕ). Flags n (reached s b mark subject j) w') one_more (turn-marked s b mark subject n (mark - k) (k - 1) w (omega arith) inside f w' h m)

    pub pass-passed : get_or w (k - 1) 0 ≡ 0 → Flags n (reached s b mark subject (mark - (k - 1))) w
    pass-passed h = subst (λ (j : ℕ). Flags n (reached s b mark subject j) w) one_more (turn-passed s b mark subject n (mark - k) (k - 1) w (omega arith) inside f h)

  pub pass-ended : (n m k : ℕ) (w : List ℕ) → n ≡ m → k ≤ 0 → Flags n (reached s b mark subject (mark - k)) w → Flags m (kept s b mark subject) w
  unfolding kept
  pass-ended n m k w e l f = let z : mark - k ≡ mark = omega arith in rw (← e) (rw z at f)

-- ---- the marks as a test

-- Where the flags are those of p, and p holds of no number from n on, a list's marks are p.
pub flagged-is : (n : ℕ) (p : ℕ → Bool) (w : List ℕ) → Flags n p w → ((k : ℕ) → p k ≡ true → k < n) → (k : ℕ) → flagged w k ≡ p k
flagged-is n p w f h k = ⊎_elim (λ l. inside (p k) (f.at k l)) outside (below-or-from k n)
  where
    inside : (t : Bool) → get_or w k 0 ≡ (if t then 1 else 0) → flagged w k ≡ t
    inside true e = rw e
    inside false e = rw e

    outside : n ≤ k → flagged w k ≡ p k
    outside l = rw (get_or-eq_default w 0 {n = k} (omega (arith, f.long))) (none (p k) refl)
      where
        none : (t : Bool) → p k ≡ t → false ≡ t
        none true e = absurd (omega (arith, h k e))
        none false e = refl
