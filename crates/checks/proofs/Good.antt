-- A length that fits, a good entry and a good node are the plain facts of specs/Plain.antt, both ways.
-- Assumes nothing.
use mathlib.Core.Path.{◌≡◌, refl, ap, sym, ◌∙◌, subst}
use mathlib.Core.Bool.{Bool, true, false, ◌&&◌, true≢false, false≢true}
use mathlib.Core.Logic.{◌↔◌, ◌≢◌}
use mathlib.Core.List.{List}
use Prim.Native.Nat.{ℕ, zero, suc, ◌+◌, ◌-◌, ◌*◌, ◌%◌, ◌^◌, ◌≤◌, ◌<◌}
use native.Mathlib.Nat.{le_trans}
use native.Mathlib.Omega.{arith}
use lib.Dec.{leb, ltb, eqb}
use lib.Pow.{pow-add}
use borrow.Author.Tests.{leb-true, ltb-true, eqb-true, eqb-false, le-leb, lt-ltb, eq-eqb, ne_eqb}
use Rattle.std.specs.Prelude.{if◌then◌else◌}
use Rattle.words.specs.Tests.{every}
use Rattle.words.specs.Words.{word_at, rows}
use Rattle.words.proofs.Tests.{and-true, every_true, by_side, every-by-side}
use Rattle.checks.specs.Kinds.{lines, line_of, kind, variables_by, argument_words_by, lowest, highest_by, operands_from_by, sort_of, takes}
use Rattle.checks.specs.Good.{kind_of, operand_count, zeros_from, number, argument_by, operand_by, constructor_of, child_count, child, held_fits, good_node}
use Rattle.checks.specs.Good.{count_fits, argument_fits_by, operand_placed_by, operand_sorted_by, operands_fault_by, unused_zero_by, fault_by, good_entry_by}
use Rattle.checks.specs.Checked.{table_length_fits, store_length_fits}
use Rattle.checks.specs.Plain.{TableLength, StoreLength, Counted, ArguedBy, PlacedBy, SortedBy, UnusedBy, EntryBy, FaultyBy, of-count, of-argument, of-place, of-sort, of-unused, Node}
use Rattle.checks.proofs.Tables.{at_each, same_true, same-itself}

-- No kind takes more than six operands, by one computed test.
all-six : every (λ j. leb (kind j).most 6) 0 20 ≡ true
unfolding every kind line_of lines
all-six = refl

-- The most operands of a kind are at most six.
most-six : (k : ℕ) → k ≤ 19 → (kind k).most ≤ 6
most-six k l = leb-true (kind k).most 6 (at_each (λ j. leb (kind j).most 6) all-six k l)

-- The words from n up to m are zero, as a test and in plain.
zeros-plain : (w : ℕ → ℕ) (n m : ℕ) → every (λ i. eqb (w i) 0) n (m - n) ≡ true ↔ ((i : ℕ) → n ≤ i → i < m → w i ≡ 0)
zeros-plain w n m = (
  λ h i l o. eqb-true (w i) 0 ((every_true zeros n (m - n)).0 h i l (omega arith)),
  λ z. (every_true zeros n (m - n)).1 (λ i l o. eq-eqb (w i) 0 (z i l (omega arith))),
)
  where
    zeros : ℕ → Bool
    zeros i = eqb (w i) 0

-- A test of the numbers after a is the test of the numbers from there.
every-after : (p : ℕ → Bool) (a i k : ℕ) → every p (a + i) k ≡ every (λ j. p (a + j)) i k
unfolding every
every-after p a i zero = refl
every-after p a i (suc k) =
    let e : a + i + 1 ≡ a + (i + 1) = omega arith in
    rw e (ap (λ (b : Bool). p (a + i) && b) (every-after p a (i + 1) k))

-- The zeros after a node's last child, counted from word 0 and from the first child.
pub child-zeros : (s : List ℕ) (k n : ℕ) → zeros_from s k (2 + n) ≡ every (λ i. eqb (child s k i) 0) n (6 - n)
child-zeros s k n = let e : 8 - (2 + n) ≡ 6 - n = omega arith in rw e (every-after (λ i. eqb (word_at s k i) 0) 2 n (6 - n))

-- A good node is one whose words fit, each by itself.
pub good_node-words : (s : List ℕ) (k : ℕ)
    → good_node s k
    ≡ leb (constructor_of s k) 65535 && (leb (child_count s k) 6 && every (λ i. held_fits k (child_count s k) i (child s k i)) 0 6)
unfolding good_node held_fits
good_node-words s k = ap (λ (b : Bool). leb (constructor_of s k) 65535 && b) (held (leb n 6) refl)
  where
    n : ℕ
    n = child_count s k

    below : ℕ → Bool
    below i = ltb (child s k i) k

    zeros : ℕ → Bool
    zeros i = eqb (child s k i) 0

    held : (t : Bool) → leb n 6 ≡ t → t && (every below 0 n && every zeros n (6 - n)) ≡ t && every (by_side below zeros n) 0 6
    held false e = refl
    held true e =
        let l : n ≤ 6 = leb-true n 6 e in
        let six : n + (6 - n) ≡ 6 = omega arith in
        every-by-side below zeros n 0 n (6 - n) (omega arith) ∙ ap (every (by_side below zeros n) 0) six

-- A test that stands for a fact fails where the fact does.
pub not-fact : {A : Type 0} (b : Bool) → b ≡ true ↔ A → b ≡ false ↔ ¬ A
not-fact true f = (λ e. absurd (true≢false e), λ n. absurd (n (f.0 refl)))
not-fact false f = (λ e x. false≢true (f.1 x), λ n. refl)

module _ (t : List ℕ) (e : ℕ) where
  -- The test of the count is the plain facts.
  pub counted : count_fits t e ≡ true ↔ Counted t e
  unfolding count_fits
  counted = (
    λ h.
        let a : (leb (kind_of t e) 19 ≡ true) × _ = and-true _ _ h in
        let b : (leb (kind (kind_of t e)).least (operand_count t e) ≡ true) × _ = and-true _ _ a.1 in
        record { known = leb-true _ _ a.0; least = leb-true _ _ b.0; most = leb-true _ _ b.1 },
    λ p. rw (le-leb _ _ p.known, le-leb _ _ p.least, le-leb _ _ p.most),
  )

  -- A count that fits is at most six.
  pub counted-six : Counted t e → operand_count t e ≤ 6
  counted-six p = le_trans p.most (most-six (kind_of t e) p.known)

  pub at-most-six : count_fits t e ≡ true → operand_count t e ≤ 6
  at-most-six h = counted-six (counted.0 h)

-- A number of n words below 2 ^ 32 is below 2 ^ (32 · n).
number-below : (t : List ℕ) (e : ℕ) → ((j : ℕ) → word_at t e j < 4294967296) → (n j : ℕ) → number t e n j < 2 ^ (32 * n)
unfolding number
number-below t e small zero j = omega arith
number-below t e small (suc zero) j = small j
number-below t e small (suc (suc n)) j =
    let x = number-below t e small (suc n) (j + 1) in
    let s : 32 * suc (suc n) ≡ 32 + 32 * suc n = omega arith in
    let p : 2 ^ (32 * suc (suc n)) ≡ 4294967296 * 2 ^ (32 * suc n) = ap (λ (k : ℕ). 2 ^ k) s ∙ pow-add 2 32 (32 * suc n) in
    omega (arith, small j, x, p)

module _ (W : ℕ) (t : List ℕ) (e : ℕ) where
  -- So is a good entry's.
  pub operand_count-six : EntryBy W t e → operand_count t e ≤ 6
  operand_count-six p = counted-six t e p.counted

  -- The test of the argument.
  pub argued : argument_fits_by W t e ≡ true ↔ ArguedBy W t e
  unfolding argument_fits_by
  argued = (
    λ h.
        let a : (leb (lowest (kind (kind_of t e)).argument) (argument_by W t e) ≡ true) × _ = and-true _ _ h in
        record { low = leb-true _ _ a.0; high = leb-true _ _ a.1 },
    λ p. rw (le-leb _ _ p.low, le-leb _ _ p.high),
  )

  -- What the test of an operand's place says.
  PlacedAt : ℕ → Type 0
  PlacedAt i = (operand_by W t e i < rows t) × (kind_of t e ≢ 8 → e < operand_by W t e i)

  -- The test is that.
  placed_at : (i : ℕ) → operand_placed_by W t e i ≡ true ↔ PlacedAt i
  unfolding operand_placed_by PlacedAt
  placed_at i = (apart, λ p. together p (eqb (kind_of t e) 8) refl)
    where
      apart : operand_placed_by W t e i ≡ true → PlacedAt i
      apart h =
          let a : (ltb (operand_by W t e i) (rows t) ≡ true) × _ = and-true _ _ h in
          (ltb-true _ _ a.0, λ n. ltb-true _ _ (rw (ne_eqb _ _ n) at a.1))

      together : PlacedAt i → (b : Bool) → eqb (kind_of t e) 8 ≡ b → operand_placed_by W t e i ≡ true
      together p true q = rw (lt-ltb _ _ p.0, q)
      together p false q = rw (lt-ltb _ _ p.0, q, lt-ltb _ _ (p.1 (eqb-false _ _ q)))

  -- What the test of an operand's sort says.
  SortedAt : ℕ → Type 0
  SortedAt i =
      (kind_of t e ≢ 8 → sort_of (kind_of t (operand_by W t e i)) ≡ takes (kind_of t e))
      × (kind_of t e ≡ 8 → kind_of t (operand_by W t e i) ≡ 7)

  -- The test is that.
  sorted-at : (i : ℕ) → operand_sorted_by W t e i ≡ true ↔ SortedAt i
  unfolding operand_sorted_by SortedAt
  sorted-at i = (apart, λ p. together p (eqb (kind_of t e) 8) refl)
    where
      apart : operand_sorted_by W t e i ≡ true → SortedAt i
      apart h = (λ n. same_true _ _ (rw (ne_eqb _ _ n) at h), λ q. eqb-true _ _ (rw (eq-eqb _ _ q) at h))

      together : SortedAt i → (b : Bool) → eqb (kind_of t e) 8 ≡ b → operand_sorted_by W t e i ≡ true
      together p true q = rw (q, eq-eqb _ _ (p.1 (eqb-true _ _ q)))
      together p false q = rw (q, p.0 (eqb-false _ _ q)) (same-itself (takes (kind_of t e)))

  -- The tests of all operands, and of the unused words.
  pub placed : every (operand_placed_by W t e) 0 (operand_count t e) ≡ true ↔ PlacedBy W t e
  unfolding PlacedAt
  placed = (
    λ h.
        let at : (i : ℕ) → i < operand_count t e → PlacedAt i = λ i l. (placed_at i).0 ((every_true (operand_placed_by W t e) 0 (operand_count t e)).0 h i (omega arith) (omega arith)) in
        record { inside = λ i l. (at i l).0; above = λ n i l. (at i l).1 n },
    λ p. (every_true (operand_placed_by W t e) 0 (operand_count t e)).1 (λ i l m. (placed_at i).1 (p.inside i (omega arith), λ n. p.above n i (omega arith))),
  )

  pub sorted : every (operand_sorted_by W t e) 0 (operand_count t e) ≡ true ↔ SortedBy W t e
  unfolding SortedAt
  sorted = (
    λ h.
        let at : (i : ℕ) → i < operand_count t e → SortedAt i = λ i l. (sorted-at i).0 ((every_true (operand_sorted_by W t e) 0 (operand_count t e)).0 h i (omega arith) (omega arith)) in
        record { sorted = λ n i l. (at i l).0 n; called = λ n i l. (at i l).1 n },
    λ p. (every_true (operand_sorted_by W t e) 0 (operand_count t e)).1 (λ i l m. (sorted-at i).1 (λ n. p.sorted n i (omega arith), λ n. p.called n i (omega arith))),
  )

  pub unused : unused_zero_by W t e ≡ true ↔ UnusedBy W t e
  unfolding unused_zero_by
  unused =
      let z = zeros-plain (word_at t e) (operands_from_by W (kind_of t e) + operand_count t e) 8 in
      (λ h. record { zero = z.0 h }, λ q. z.1 q.zero)

  -- ---- where the words stand

  -- An argument that is no mask is word 1, and its operands begin at word 2.
  pub argument-word : kind_of t e ≢ 16 → argument_by W t e ≡ word_at t e 1
  unfolding number
  argument-word n = rw (ne_eqb (kind_of t e) 16 n)

  pub operands-word : kind_of t e ≢ 16 → operands_from_by W (kind_of t e) ≡ 2
  operands-word n = rw (ne_eqb (kind_of t e) 16 n)

  pub operand-word : kind_of t e ≢ 16 → (i : ℕ) → operand_by W t e i ≡ word_at t e (2 + i)
  operand-word n i = rw (operands-word n)

  -- A SCOPE's operand stands after its mask.
  pub operand-scope : kind_of t e ≡ 16 → operand_by W t e 0 ≡ word_at t e (1 + W)
  operand-scope k = let z : 1 + W + 0 ≡ 1 + W = omega arith in rw (eq-eqb (kind_of t e) 16 k, z)

  -- Any mask is in a SCOPE's range.
  pub mask_fits : kind_of t e ≡ 16 → ((j : ℕ) → word_at t e j < 4294967296) → argument_fits_by W t e ≡ true
  unfolding kind line_of lines
  mask_fits k small =
      let high : number t e W 1 ≤ 2 ^ variables_by W - 1 = let l = number-below t e small W 1 in omega arith in
      argued.1
      record {
        low = subst (λ (k : ℕ). lowest (kind k).argument ≤ number t e (argument_words_by W k) 1) (sym k) (omega arith);
        high = subst (λ (k : ℕ). number t e (argument_words_by W k) 1 ≤ highest_by W (kind k).argument) (sym k) high;
      }

  -- ---- the fault

  -- An entry is good, or has a fault.
  pub data Judged : ℕ → Type 0 where
    good : EntryBy W t e → Judged 0
    bad : (n : ℕ) → FaultyBy W t e n → Judged n

  -- By the five tests a, b, c, d and u.
  judge : (a b c d u : Bool) → a ≡ true ↔ Counted t e → b ≡ true ↔ ArguedBy W t e → c ≡ true ↔ PlacedBy W t e → d ≡ true ↔ SortedBy W t e
      → u ≡ true ↔ UnusedBy W t e
      → Judged (if a then if b then if eqb (if c then if d then 0 else 16 else 15) 0 then if u then 0 else 17 else if c then if d then 0 else 16 else 15 else 14 else 13)
  judge true true true true true f g h k j = good record { counted = f.0 refl; argued = g.0 refl; placed = h.0 refl; sorted = k.0 refl; unused = j.0 refl }
  judge true true true true false f g h k j = bad 17 (of-unused (f.0 refl) (g.0 refl) (h.0 refl) (k.0 refl) ((not-fact false j).0 refl))
  judge true true true false u f g h k j = bad 16 (of-sort (f.0 refl) (g.0 refl) (h.0 refl) ((not-fact false k).0 refl))
  judge true true false d u f g h k j = bad 15 (of-place (f.0 refl) (g.0 refl) ((not-fact false h).0 refl))
  judge true false c d u f g h k j = bad 14 (of-argument (f.0 refl) ((not-fact false g).0 refl))
  judge false b c d u f g h k j = bad 13 (of-count ((not-fact false f).0 refl))

  pub judged : Judged (fault_by W t e)
  unfolding fault_by operands_fault_by
  judged =
      judge (count_fits t e) (argument_fits_by W t e) (every (operand_placed_by W t e) 0 (operand_count t e))
      (every (operand_sorted_by W t e) 0 (operand_count t e)) (unused_zero_by W t e) (counted t e) argued placed sorted unused

  -- A fault is from 13 to 17.
  pub faulty-within : (n : ℕ) → FaultyBy W t e n → (12 < n) × (n < 18)
  faulty-within n (of-count a) = (omega arith, omega arith)
  faulty-within n (of-argument a b) = (omega arith, omega arith)
  faulty-within n (of-place a b c) = (omega arith, omega arith)
  faulty-within n (of-sort a b c d) = (omega arith, omega arith)
  faulty-within n (of-unused a b c d f) = (omega arith, omega arith)

  -- Where a fault holds, it is the entry's.
  faulty-is : (n : ℕ) → FaultyBy W t e n → fault_by W t e ≡ n
  unfolding fault_by operands_fault_by
  faulty-is n (of-count a) = rw ((not-fact _ (counted t e)).1 a)
  faulty-is n (of-argument a b) = rw ((counted t e).1 a, (not-fact _ argued).1 b)
  faulty-is n (of-place a b c) = rw ((counted t e).1 a, argued.1 b, (not-fact _ placed).1 c)
  faulty-is n (of-sort a b c d) = rw ((counted t e).1 a, argued.1 b, placed.1 c, (not-fact _ sorted).1 d)
  faulty-is n (of-unused a b c d f) = rw ((counted t e).1 a, argued.1 b, placed.1 c, sorted.1 d, (not-fact _ unused).1 f)

  is-faulty : (n : ℕ) → 0 < n → Judged n → FaultyBy W t e n
  is-faulty n l (good p) = absurd (omega arith)
  is-faulty n l (bad m p) = p

  is-good : (n : ℕ) → n ≡ 0 → Judged n → EntryBy W t e
  is-good n q (good p) = p
  is-good n q (bad m p) = absurd (omega (arith, q, (faulty-within m p).0))

  -- A fault is the plain facts.
  pub fault-plain : (n : ℕ) → 0 < n → fault_by W t e ≡ n ↔ FaultyBy W t e n
  fault-plain n l = (λ q. is-faulty n l (subst Judged q judged), faulty-is n)

  -- A good entry is the plain facts.
  pub good_entry-plain : good_entry_by W t e ≡ true ↔ EntryBy W t e
  unfolding good_entry_by fault_by operands_fault_by
  good_entry-plain = (
    λ h. is-good (fault_by W t e) (eqb-true _ _ h) judged,
    λ p. rw ((counted t e).1 p.counted, argued.1 p.argued, placed.1 p.placed, sorted.1 p.sorted, unused.1 p.unused),
  )

  -- A bad entry has a fault.
  pub bad-fault : good_entry_by W t e ≡ false → FaultyBy W t e (fault_by W t e)
  unfolding good_entry_by
  bad-fault h = let n : fault_by W t e ≢ 0 = eqb-false _ _ h in is-faulty (fault_by W t e) (omega arith) judged

-- A good node is the plain facts.
pub good_node-plain : (s : List ℕ) (k : ℕ) → good_node s k ≡ true ↔ Node s k
unfolding good_node
good_node-plain s k = (apart, together)
  where
    lower : ℕ → Bool
    lower i = ltb (child s k i) k

    apart : good_node s k ≡ true → Node s k
    apart h =
        let a : (leb (constructor_of s k) 65535 ≡ true) × _ = and-true _ _ h in
        let b : (leb (child_count s k) 6 ≡ true) × _ = and-true _ _ a.1 in
        let c : (every lower 0 (child_count s k) ≡ true) × _ = and-true _ _ b.1 in
        record {
          constructor = leb-true _ _ a.0;
          count = leb-true _ _ b.0;
          below = λ i l. ltb-true _ _ ((every_true lower 0 (child_count s k)).0 c.0 i (omega arith) (omega arith));
          unused = (zeros-plain (child s k) (child_count s k) 6).0 c.1;
        }

    together : Node s k → good_node s k ≡ true
    together p =
        rw (
          le-leb _ _ p.constructor,
          le-leb _ _ p.count,
          (every_true lower 0 (child_count s k)).1 (λ i l m. lt-ltb _ _ (p.below i (omega arith))),
        )
        ((zeros-plain (child s k) (child_count s k) 6).1 p.unused)

-- A table's length that fits is the plain facts.
pub table_length_fits-plain : (n : ℕ) → table_length_fits n ≡ true ↔ TableLength n
unfolding table_length_fits
table_length_fits-plain n = (apart, λ p. rw (lt-ltb _ _ p.some, eq-eqb _ _ p.whole, le-leb _ _ p.most))
  where
    apart : table_length_fits n ≡ true → TableLength n
    apart h =
        let a : (ltb 0 n ≡ true) × _ = and-true _ _ h in
        let b : (eqb (n % 8) 0 ≡ true) × _ = and-true _ _ a.1 in
        record { some = ltb-true _ _ a.0; whole = eqb-true _ _ b.0; most = leb-true _ _ b.1 }

-- A store's length that fits is the plain facts.
pub store_length_fits-plain : (n : ℕ) → store_length_fits n ≡ true ↔ StoreLength n
unfolding store_length_fits
store_length_fits-plain n = (apart, λ p. rw (eq-eqb _ _ p.whole, le-leb _ _ p.most))
  where
    apart : store_length_fits n ≡ true → StoreLength n
    apart h =
        let a : (eqb (n % 8) 0 ≡ true) × _ = and-true _ _ h in
        record { whole = eqb-true _ _ a.0; most = leb-true _ _ a.1 }
