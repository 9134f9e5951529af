-- What `every` and `rejected` say of each number, both ways, and how a fact on Bools is taken apart and put together.
-- Assumes nothing.
use mathlib.Core.Path.{◌≡◌, refl, ap, sym, ◌∙◌, subst}
use mathlib.Core.Bool.{Bool, true, false, ◌&&◌, and_assoc, true≢false}
use mathlib.Core.Logic.{◌↔◌, ◌⊎◌, inl, inr, ⊎_elim}
use mathlib.Core.Option.{Option, none, some}
use Prim.Native.Nat.{ℕ, zero, suc, ◌+◌, ◌-◌, ◌≤◌, ◌<◌}
use native.Mathlib.Nat.{eq-or-lt_of_le}
use native.Mathlib.Omega.{arith}
use lib.Dec.{ltb}
use borrow.Author.Tests.{ltb-true, ltb-false, lt-ltb, le-ltb}
use Rattle.std.specs.Prelude.{if◌then◌else◌}
use Rattle.words.specs.Tests.{every, rejected}

-- A number is below another, or from it on.
pub below-or-from : (m n : ℕ) → (m < n) ⊎ (n ≤ m)
below-or-from m n = go (ltb m n) refl
  where
    go : (t : Bool) → ltb m n ≡ t → (m < n) ⊎ (n ≤ m)
    go true e = inl (ltb-true m n e)
    go false e = inr (ltb-false m n e)

-- Both tests hold where their conjunction does.
pub and-true : (a b : Bool) → a && b ≡ true → (a ≡ true) × (b ≡ true)
and-true true b e = (refl, e)
and-true false b e = absurd (true≢false (sym e))

-- A test and one that holds are the test.
true-right : (a : Bool) → a && true ≡ a
true-right true = refl
true-right false = refl

-- Two conjunctions change their middle parts.
and-middle : (a b c d : Bool) → (a && b) && (c && d) ≡ (a && c) && (b && d)
and-middle true b true d = refl
and-middle true true false d = refl
and-middle true false false d = refl
and-middle false b c d = refl

-- Two tests at each number are one test that asks both.
pub every-and : (p q : ℕ → Bool) (i k : ℕ) → every (λ j. p j && q j) i k ≡ every p i k && every q i k
unfolding every
every-and p q i zero = refl
every-and p q i (suc k) =
    ap (λ (b : Bool). (p i && q i) && b) (every-and p q (i + 1) k)
    ∙ and-middle (p i) (q i) (every p (i + 1) k) (every q (i + 1) k)

-- One test for the numbers below n and another for those from n on.
abbrev pub by_side : (p q : ℕ → Bool) → ℕ → ℕ → Bool
by_side p q n i = if ltb i n then p i else q i

module _ (p q : ℕ → Bool) (n : ℕ) where
  -- From n on it is the second.
  every-from : (i k : ℕ) → n ≤ i → every q i k ≡ every (by_side p q n) i k
  unfolding every
  every-from i zero h = refl
  every-from i (suc k) h = rw (le-ltb i n h) (ap (λ (b : Bool). q i && b) (every-from (i + 1) k (omega arith)))

  -- The first up to n and then the second are the one test all the way.
  pub every-by-side : (i k m : ℕ) → i + k ≡ n → every p i k && every q n m ≡ every (by_side p q n) i (k + m)
  unfolding every
  every-by-side i zero m h =
      let e : i ≡ n = omega arith in
      let f : 0 + m ≡ m = omega arith in
      rw (e, f) (every-from n m (omega arith))
  every-by-side i (suc k) m h =
      let l : i < n = omega arith in
      let e : suc k + m ≡ suc (k + m) = omega arith in
      rw (e, lt-ltb i n l, and_assoc) (ap (λ (b : Bool). p i && b) (every-by-side (i + 1) k m (omega arith)))

-- The test holds at each of the k numbers from i on.
abbrev pub Holds : (ℕ → Bool) → ℕ → ℕ → Type 0
Holds p i k = (j : ℕ) → i ≤ j → j < i + k → p j ≡ true

-- e is the first of the k numbers from i on that the test rejects.
pub record First (p : ℕ → Bool) (i k e : ℕ) : Type 0 where
  pub from : i ≤ e
  pub below : e < i + k
  pub rejects : p e ≡ false
  pub before : (j : ℕ) → i ≤ j → j < e → p j ≡ true

module _ (p : ℕ → Bool) where
  -- What holds at i and at the k numbers after it holds at k + 1 numbers from i on.
  holds_more : (i k : ℕ) → p i ≡ true → Holds p (i + 1) k → Holds p i (suc k)
  holds_more i k e h j l m =
      ⊎_elim (λ z. subst (λ (n : ℕ). p n ≡ true) z e) (λ z. h j (omega arith) (omega arith)) (eq-or-lt_of_le l)

  -- Where `every` holds, the test holds at each number.
  every_holds : (i k : ℕ) → every p i k ≡ true → Holds p i k
  unfolding every
  every_holds i zero e = λ j l m. absurd (omega arith)
  every_holds i (suc k) e =
      let both : (p i ≡ true) × (every p (i + 1) k ≡ true) = and-true (p i) (every p (i + 1) k) e in
      holds_more i k both.0 (every_holds (i + 1) k both.1)

  -- Where the test holds at each number, `every` holds.
  holds-every : (i k : ℕ) → Holds p i k → every p i k ≡ true
  unfolding every
  holds-every i zero h = refl
  holds-every i (suc k) h =
      let first : p i ≡ true = h i (omega arith) (omega arith) in
      rw first (holds-every (i + 1) k (λ j l m. h j (omega arith) (omega arith)))

  -- Both ways.
  pub every_true : (i k : ℕ) → every p i k ≡ true ↔ Holds p i k
  every_true i k = (every_holds i k, holds-every i k)

  -- What an outcome of the search tells.
  abbrev Told : ℕ → ℕ → Option ℕ → Type 0
  Told i k none = Holds p i k
  Told i k (some e) = First p i k e

  -- One more number in front.
  told_more : (i k : ℕ) (t : Bool) → p i ≡ t → (o : Option ℕ) → Told (i + 1) k o → Told i (suc k) (if t then o else some i)
  told_more i k true e none h = holds_more i k e h
  told_more i k true e (some d) f =
      record {
        from = omega arith;
        below = omega arith;
        rejects = f.rejects;
        before =
            λ j l m. ⊎_elim (λ z. subst (λ (n : ℕ). p n ≡ true) z e) (λ z. f.before j (omega arith) m) (eq-or-lt_of_le l);
      }
  told_more i k false e o h =
      record { from = omega arith; below = omega arith; rejects = e; before = λ j l m. absurd (omega arith) }

  -- The search tells what its outcome says.
  told : (i k : ℕ) → Told i k (rejected p i k)
  unfolding rejected
  told i zero = λ j l m. absurd (omega arith)
  told i (suc k) = told_more i k (p i) refl (rejected p (i + 1) k) (told (i + 1) k)

  -- Where the test holds, no number is rejected.
  not-both : (j : ℕ) → p j ≡ true → p j ≡ false → ⊥
  not-both j e f = true≢false (sym e ∙ f)

  -- Where the test holds at each number, the outcome is that nothing is rejected.
  holds-none : (i k : ℕ) (o : Option ℕ) → Told i k o → Holds p i k → o ≡ none
  holds-none i k none t h = refl
  holds-none i k (some e) f h = absurd (not-both e (h e f.from f.below) f.rejects)

  -- There is one first number.
  first_one : (i k d e : ℕ) → First p i k d → First p i k e → d ≡ e
  first_one i k d e f g =
      ⊎_elim (λ l. absurd (not-both d (g.before d f.from l) f.rejects))
      (λ l. ⊎_elim sym (λ m. absurd (not-both e (f.before e g.from m) g.rejects)) (eq-or-lt_of_le l))
      (below-or-from d e)

  -- Where e is the first number rejected, the outcome is e.
  first_some : (i k e : ℕ) (o : Option ℕ) → Told i k o → First p i k e → o ≡ some e
  first_some i k e none h f = absurd (not-both e (h e f.from f.below) f.rejects)
  first_some i k e (some d) g f = ap some (first_one i k d e g f)

  -- Nothing is rejected exactly where the test holds at each number.
  pub rejected-none : (i k : ℕ) → rejected p i k ≡ none ↔ Holds p i k
  rejected-none i k = (λ e. subst (Told i k) e (told i k), holds-none i k (rejected p i k) (told i k))

  -- e is found exactly where it is the first number rejected.
  pub rejected-some : (i k e : ℕ) → rejected p i k ≡ some e ↔ First p i k e
  rejected-some i k e = (λ z. subst (Told i k) z (told i k), first_some i k e (rejected p i k) (told i k))

-- A Bool that is true just where the test holds at each of the k numbers from i on.
pub every_both : (p : ℕ → Bool) (i k : ℕ) (b : Bool) → b ≡ true ↔ Holds p i k → b ≡ every p i k
every_both p i k b h = go b (every p i k) refl refl
  where
    go : (s t : Bool) → b ≡ s → every p i k ≡ t → b ≡ t
    go true true q r = q
    go true false q r = q ∙ sym ((every_true p i k).1 (h.0 q)) ∙ r
    go false true q r = h.1 ((every_true p i k).0 r)
    go false false q r = q

-- What a search and a test of the numbers below n come to, by facts on each number.
module _ (p : ℕ → Bool) (n : ℕ) where
  -- Every number passes: nothing is found.
  pub nothing_rejected : ((j : ℕ) → j < n → p j ≡ true) → none ≡ rejected p 0 n
  nothing_rejected h = sym ((rejected-none p 0 n).1 (λ j l m. h j (omega arith)))

  -- k is the first that fails: it is found.
  pub first_rejected : (k : ℕ) → k < n → p k ≡ false → ((j : ℕ) → j < k → p j ≡ true) → some k ≡ rejected p 0 n
  first_rejected k l e h =
      sym ((rejected-some p 0 n k).1 record { from = omega arith; below = omega arith; rejects = e; before = λ j i m. h j m })

  -- Every number passes, or one fails.
  pub every_passes : ((j : ℕ) → j < n → p j ≡ true) → true ≡ every p 0 n
  every_passes h = sym ((every_true p 0 n).1 (λ j l m. h j (omega arith)))

  -- A Bool that is true just where every number passes.
  pub every_either : (b : Bool) → b ≡ true ↔ ((j : ℕ) → j < n → p j ≡ true) → b ≡ every p 0 n
  every_either b h = every_both p 0 n b (λ e j l m. h.0 e j (omega arith), λ f. h.1 (λ j l. f j (omega arith) (omega arith)))

  pub one_fails : (k : ℕ) → k < n → p k ≡ false → false ≡ every p 0 n
  one_fails k l e = go (every p 0 n) refl
    where
      go : (t : Bool) → every p 0 n ≡ t → false ≡ t
      go true q = absurd (true≢false (sym ((every_true p 0 n).0 q k (omega arith) (omega arith)) ∙ e))
      go false q = refl

-- A loop that tests the numbers from i up to n, one a turn: what is left of the range decides what the whole gives.
module _ (p : ℕ → Bool) (i n : ℕ) where
  -- There is one more number before the end.
  one_more : i < n → n - i ≡ suc (n - (i + 1))
  one_more l = omega arith

  -- There is none.
  none_left : n ≤ i → n - i ≡ 0
  none_left l = omega arith

  module _ (whole : Bool) (left : every p i (n - i) ≡ whole) where
    -- The test holds at i: the rest decides.
    pub every-turn : i < n → p i ≡ true → every p (i + 1) (n - (i + 1)) ≡ whole
    unfolding every
    every-turn l e = rw (one_more l, e) at left

    -- The test fails at i: so does the whole.
    pub every-stop : i < n → p i ≡ false → false ≡ whole
    unfolding every
    every-stop l e = rw (one_more l, e) at left

    -- Nothing is left: the whole holds.
    pub every-end : n ≤ i → true ≡ whole
    unfolding every
    every-end l = rw (none_left l) at left

  -- The same where every test is made, and the loop keeps whether all of them held.
  module _ (kept whole : Bool) (left : kept && every p i (n - i) ≡ whole) where
    -- One more is made: the rest decides with it.
    pub every-kept-turn : i < n → (kept && p i) && every p (i + 1) (n - (i + 1)) ≡ whole
    unfolding every
    every-kept-turn l = rw and_assoc (rw (one_more l) at left)

    -- Nothing is left: what was kept is the whole.
    pub every-kept-end : n ≤ i → kept ≡ whole
    unfolding every
    every-kept-end l = sym (true-right kept) ∙ rw (none_left l) at left

  module _ (whole : Option ℕ) (left : rejected p i (n - i) ≡ whole) where
    -- The test holds at i: the rest decides.
    pub rejected-turn : i < n → p i ≡ true → rejected p (i + 1) (n - (i + 1)) ≡ whole
    unfolding rejected
    rejected-turn l e = rw (one_more l, e) at left

    -- The test fails at i: i is found.
    pub rejected-stop : i < n → p i ≡ false → some i ≡ whole
    unfolding rejected
    rejected-stop l e = rw (one_more l, e) at left

    -- Nothing is left: nothing is found.
    pub rejected-end : n ≤ i → none ≡ whole
    unfolding rejected
    rejected-end l = rw (none_left l) at left
