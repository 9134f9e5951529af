-- The numbers of the kept nodes, and the store with the kept nodes moved one after the other.
-- Assumes nothing.
use mathlib.Core.Path.{◌≡◌, refl, ap, sym, ◌∙◌}
use mathlib.Core.Bool.{Bool, true, false, true≢false}
use mathlib.Core.Logic.{⊎_elim}
use mathlib.Core.List.{List, ◌++◌, map, map-map, append_assoc}
use Prim.Native.Nat.{ℕ, zero, suc, ◌+◌, ◌*◌, ◌≤◌, ◌<◌}
use native.Mathlib.Nat.{eq-or-lt_of_le, le_trans}
use native.Mathlib.Numerals.{add-one}
use native.Mathlib.Omega.{arith}
use lib.ListN.{length, get_or, take, drop, length-append, length-take}
use lib.Seq.{take_at}
use Rattle.std.specs.Prelude.{if◌then◌else◌}
use Rattle.words.specs.Words.{word_at, put_row, cleared_from}
use Rattle.words.proofs.Rows.{length-put_row, word_at-put_row-same, word_at-put_row-other, length-cleared_from, take-cleared_from, get_or-cleared_from-from}
use Rattle.words.proofs.Tests.{below-or-from}
use Rattle.checks.specs.Good.{constructor_of, child_count, child}
use Rattle.meaning.specs.Term.{mk}
use Rattle.meaning.specs.Store.{children, row, term, Kept}
use Rattle.meaning.proofs.Alike.{Holdable}
use Rattle.meaning.proofs.Checked.{Filled}
use Rattle.meaning.proofs.Words.{Below, all-below, kept_word, kept-filled, kept-term, term-node, new-kept, new-filled, new-constructor, new-children}
use Rattle.collect.specs.Packed.{renumbered, rank, packed, store_after}
use Rattle.collect.proofs.Renumbering.{map-alike, get_or-map-below, child-at, length-children, length-renumbered-children}
use Rattle.collect.proofs.Renumbering.{length-renumbered, renumbered-constructor, renumbered-count, renumbered-child}

-- The rows before a row that was put, and the row itself, all at once.
take-put_row-row : (w : List ℕ) (k : ℕ) (r : List ℕ) → 8 * k + 8 ≤ length w → length r ≡ 8 → take (8 * k + 8) (put_row w k r) ≡ take (8 * k) w ++ r
unfolding put_row
take-put_row-row w k r inside eight =
    let long : length (take (8 * k) w ++ r) ≡ 8 * k + 8 = simp (length-append, length-take) (omega arith) in
    rw (← append_assoc (take (8 * k) w) r (drop (8 * k + 8) w))
    (take_at (take (8 * k) w ++ r) (drop (8 * k + 8) w) (8 * k + 8) long)

-- A kept node counts one more.
step-least : (t : Bool) (r : ℕ) → r ≤ (if t then suc r else r)
step-least true r = omega arith
step-least false r = omega arith

step-most : (t : Bool) (r : ℕ) → (if t then suc r else r) ≤ suc r
step-most true r = omega arith
step-most false r = omega arith

module _ (p : ℕ → Bool) where
  -- ---- numbers

  pub rank-kept : (k : ℕ) → p k ≡ true → rank p (suc k) ≡ suc (rank p k)
  unfolding rank
  rank-kept k e = rw e

  pub rank-dropped : (k : ℕ) → p k ≡ false → rank p (suc k) ≡ rank p k
  unfolding rank
  rank-dropped k e = rw e

  pub rank-none : rank p 0 ≡ 0
  unfolding rank
  rank-none = refl

  rank-more : (k : ℕ) → rank p k ≤ rank p (suc k)
  unfolding rank
  rank-more k = step-least (p k) (rank p k)

  rank_most : (k : ℕ) → rank p (suc k) ≤ suc (rank p k)
  unfolding rank
  rank_most k = step-most (p k) (rank p k)

  -- No number is above the old one.
  pub rank-le : (k : ℕ) → rank p k ≤ k
  unfolding rank
  rank-le zero = omega arith
  rank-le (suc k) = le_trans (rank_most k) (omega (arith, rank-le k))

  pub rank_up : (j k : ℕ) → j ≤ k → rank p j ≤ rank p k
  rank_up j zero l = let z : j ≡ 0 = omega arith in omega (arith, ap (rank p) z)
  rank_up j (suc k) l =
      ⊎_elim (λ z. omega (arith, ap (rank p) z)) (λ z. le_trans (rank_up j k (omega arith)) (rank-more k)) (eq-or-lt_of_le l)

  -- The order is the old one.
  pub rank_less : (j k : ℕ) → p j ≡ true → j < k → rank p j < rank p k
  rank_less j k e l = omega (arith, rank-kept j e, rank_up (suc j) k l)

  -- There are no gaps: n is the number of a kept node below m.
  abbrev pub Numbered : ℕ → ℕ → Type 0
  Numbered m n = (k : ℕ) × (k < m) × (p k ≡ true) × (rank p k ≡ n)

  onto-more : (m n : ℕ) → (n < rank p m → Numbered m n) → n < rank p (suc m) → (t : Bool) → p m ≡ t → Numbered (suc m) n
  onto-more m n f l true e =
      ⊎_elim (λ h. let w : Numbered m n = f h in (w.0, omega (arith, w.1), w.2, w.3))
      (λ h. (m, omega arith, e, omega (arith, rank-kept m e)))
      (below-or-from n (rank p m))
  onto-more m n f l false e =
      let w : Numbered m n = f (omega (arith, rank-dropped m e)) in (w.0, omega (arith, w.1), w.2, w.3)

  pub rank-onto : (m n : ℕ) → n < rank p m → Numbered m n
  unfolding rank
  rank-onto zero n l = absurd (omega arith)
  rank-onto (suc m) n l = onto-more m n (rank-onto m n) l (p m) refl

  -- ---- the store, the kept nodes below k moved

  pub built : List ℕ → ℕ → List ℕ
  built s zero = s
  built s (suc k) = if p k then put_row (built s k) (rank p k) (renumbered s (rank p) k) else built s k

  pub built-none : (s : List ℕ) → built s 0 ≡ s
  unfolding built
  built-none s = refl

  pub built-kept : (s : List ℕ) (k : ℕ) → p k ≡ true → built s (suc k) ≡ put_row (built s k) (rank p k) (renumbered s (rank p) k)
  unfolding built
  built-kept s k e = rw e

  pub built-dropped : (s : List ℕ) (k : ℕ) → p k ≡ false → built s (suc k) ≡ built s k
  unfolding built
  built-dropped s k e = rw e

  packed-kept : (s : List ℕ) (k : ℕ) → p k ≡ true → packed p s (suc k) ≡ packed p s k ++ renumbered s (rank p) k
  unfolding packed
  packed-kept s k e = rw e

  packed_dropped : (s : List ℕ) (k : ℕ) → p k ≡ false → packed p s (suc k) ≡ packed p s k
  unfolding packed
  packed_dropped s k e = rw e

  module _ (s : List ℕ) (mark : ℕ) (fits : 8 * mark ≤ length s) (count : (k : ℕ) → k < mark → child_count s k ≤ 6) where
    eight : (k : ℕ) → k < mark → length (renumbered s (rank p) k) ≡ 8
    eight k h = length-renumbered s (rank p) k (count k h)

    long-turn : (k : ℕ) → k < mark → length (built s k) ≡ length s → (t : Bool) → p k ≡ t → length (built s (suc k)) ≡ length s
    long-turn k h l true e =
        ap length (built-kept s k e)
        ∙ length-put_row (built s k) (rank p k) (renumbered s (rank p) k) (omega (arith, rank-le k)) (eight k h)
        ∙ l
    long-turn k h l false e = ap length (built-dropped s k e) ∙ l

    pub built-long : (k : ℕ) → k ≤ mark → length (built s k) ≡ length s
    built-long zero h = ap length (built-none s)
    built-long (suc k) h = long-turn k (omega arith) (built-long k (omega arith)) (p k) refl

    -- There is room for one row more.
    pub room : (k : ℕ) → k < mark → 8 * rank p k + 8 ≤ length (built s k)
    room k h = omega (arith, rank-le k, built-long k (omega arith))

    -- What is moved stands first.
    first-turn : (k : ℕ) → k < mark → take (8 * rank p k) (built s k) ≡ packed p s k → (t : Bool) → p k ≡ t → take (8 * rank p (suc k)) (built s (suc k)) ≡ packed p s (suc k)
    first-turn k h i true e =
        let z : 8 * rank p (suc k) ≡ 8 * rank p k + 8 = omega (arith, rank-kept k e) in
        ap (λ (n : ℕ). take n (built s (suc k))) z
        ∙ ap (take (8 * rank p k + 8)) (built-kept s k e)
        ∙ take-put_row-row (built s k) (rank p k) (renumbered s (rank p) k) (room k h) (eight k h)
        ∙ ap (λ (l : List ℕ). l ++ renumbered s (rank p) k) i
        ∙ sym (packed-kept s k e)
    first-turn k h i false e =
        ap (λ (n : ℕ). take (8 * n) (built s (suc k))) (rank-dropped k e)
        ∙ ap (take (8 * rank p k)) (built-dropped s k e)
        ∙ i
        ∙ sym (packed_dropped s k e)

    pub built-first : (k : ℕ) → k ≤ mark → take (8 * rank p k) (built s k) ≡ packed p s k
    unfolding rank packed
    built-first zero h = refl
    built-first (suc k) h = first-turn k (omega arith) (built-first k (omega arith)) (p k) refl

    -- What is to be moved yet stands where it stood.
    above-turn : (k : ℕ) → k < mark → ((j i : ℕ) → k ≤ j → i < 8 → word_at (built s k) j i ≡ word_at s j i) → (t : Bool) → p k ≡ t
        → (j i : ℕ) → suc k ≤ j → i < 8 → word_at (built s (suc k)) j i ≡ word_at s j i
    above-turn k h f true e j i l m =
        ap (λ (w : List ℕ). word_at w j i) (built-kept s k e)
        ∙ word_at-put_row-other (built s k) (rank p k) (renumbered s (rank p) k) (room k h) (eight k h) j i m (λ z. omega (arith, rank-le k))
        ∙ f j i (omega arith) m
    above-turn k h f false e j i l m = ap (λ (w : List ℕ). word_at w j i) (built-dropped s k e) ∙ f j i (omega arith) m

    pub built-above : (k : ℕ) → k ≤ mark → (j i : ℕ) → k ≤ j → i < 8 → word_at (built s k) j i ≡ word_at s j i
    built-above zero h j i l m = ap (λ (w : List ℕ). word_at w j i) (built-none s)
    built-above (suc k) h j i l m = above-turn k (omega arith) (λ x y o q. built-above k (omega arith) x y o q) (p k) refl j i l m

  -- What stands first, and zeros after it, are the store after the collection.
  pub packed-cleared : (s w : List ℕ) (mark n : ℕ) → n ≡ rank p mark → length w ≡ length s → take (8 * n) w ≡ packed p s mark → cleared_from w (8 * n) ≡ store_after p s mark
  unfolding cleared_from store_after
  packed-cleared s w mark n e l t = rw (t, l, e)

  -- ---- terms

  module _ (s : List ℕ) (mark : ℕ) (f : Filled s mark) (closed : (k i : ℕ) → k < mark → p k ≡ true → i < child_count s k → p (child s k i) ≡ true) where
    few : (k : ℕ) → k < mark → child_count s k ≤ 6
    few k h = (f.node k h).holdable.count

    inside : 8 * mark ≤ length s
    inside = omega (arith, f.fits)

    below : (k i : ℕ) → k < mark → i < child_count s k → child s k i < k
    below k i h l = (f.node k h).below i l

    -- The new children.
    abbrev names : ℕ → List ℕ
    names k = map (rank p) (children s k)

    holdable : (k : ℕ) → k < mark → Holdable (constructor_of s k) (length (names k))
    holdable k h = record {
      constructor = (f.node k h).holdable.constructor;
      count = omega (arith, length-renumbered-children s (rank p) k (few k h), few k h);
    }

    new-below : (k : ℕ) → k < mark → p k ≡ true → Below (rank p k) (names k)
    new-below k h e =
        all-below (rank p k) (names k) (λ i l.
        let m : i < child_count s k = omega (arith, length-renumbered-children s (rank p) k (few k h)) in
        rw (get_or-map-below (rank p) (children s k) i (omega (arith, length-children s k (few k h))), child-at s k (few k h) i m)
        (rank_less (child s k i) k (closed k i h e m) (below k i h m)))

    filled-turn : (k : ℕ) → k < mark → Filled (built s k) (rank p k) → (t : Bool) → p k ≡ t → Filled (built s (suc k)) (rank p (suc k))
    unfolding renumbered
    filled-turn k h i true e =
        rw (built-kept s k e, rank-kept k e, ← add-one (rank p k))
        (new-filled (built s k) (rank p k) (constructor_of s k) (names k) (holdable k h) (room s mark inside few k h) (new-below k h e) i)
    filled-turn k h i false e = rw (built-dropped s k e, rank-dropped k e) i

    pub built-filled : (k : ℕ) → k ≤ mark → Filled (built s k) (rank p k)
    unfolding rank
    built-filled zero h = record { fits = omega arith; node = λ j l. absurd (omega arith) }
    built-filled (suc k) h = filled-turn k (omega arith) (built-filled k (omega arith)) (p k) refl

    -- The words of the nodes moved.
    abbrev Words : ℕ → Type 0
    Words k = (j i : ℕ) → j < k → p j ≡ true → i < 8 → word_at (built s k) (rank p j) i ≡ get_or (renumbered s (rank p) j) i 0

    words-turn : (k : ℕ) → k < mark → Words k → (t : Bool) → p k ≡ t → Words (suc k)
    words-turn k h w true e j i l q m =
        let r = renumbered s (rank p) k in
        let long = length-renumbered s (rank p) k (few k h) in
        rw (built-kept s k e)
        (⊎_elim
        (λ o. word_at-put_row-other (built s k) (rank p k) r (room s mark inside few k h) long (rank p j) i m (λ z. omega (arith, rank_less j k q o)) ∙ w j i o q m)
        (λ o. let z : j ≡ k = omega arith in rw z (word_at-put_row-same (built s k) (rank p k) r (room s mark inside few k h) long i m))
        (below-or-from j k))
    words-turn k h w false e j i l q m =
        rw (built-dropped s k e)
        (⊎_elim (λ o. w j i o q m) (λ o. let z : j ≡ k = omega arith in absurd (true≢false (sym q ∙ ap p z ∙ e))) (below-or-from j k))

    built-word : (k : ℕ) → k ≤ mark → Words k
    built-word zero h j i l q m = absurd (omega arith)
    built-word (suc k) h j i l q m = words-turn k (omega arith) (built-word k (omega arith)) (p k) refl j i l q m

    -- The terms of the nodes moved.
    abbrev Same : ℕ → Type 0
    Same k = (j : ℕ) → j < k → p j ≡ true → term (built s k) (rank p j) ≡ term s j

    module _ (k : ℕ) (h : k < mark) (e : p k ≡ true) (same : Same k) where
      abbrev more : List ℕ
      more = put_row (built s k) (rank p k) (row (constructor_of s k) (names k))

      kept_more : Kept (built s k) (rank p k) more
      kept_more = new-kept (built s k) (rank p k) (constructor_of s k) (names k) (holdable k h) (room s mark inside few k h)

      filled_more : Filled more (rank p k + 1)
      filled_more = new-filled (built s k) (rank p k) (constructor_of s k) (names k) (holdable k h) (room s mark inside few k h) (new-below k h e) (built-filled k (omega arith))

      older : (j : ℕ) → j < k → p j ≡ true → term more (rank p j) ≡ term s j
      older j l q = kept-term (built-filled k (omega arith)) kept_more (rank p j) (rank_less j k q l) ∙ same j l q

      terms-alike : map (term more) (names k) ≡ map (term s) (children s k)
      terms-alike =
          map-map (term more) (rank p) (children s k)
          ∙ map-alike (λ (x : ℕ). term more (rank p x)) (term s) (children s k) (λ i l.
          let m : i < child_count s k = omega (arith, length-children s k (few k h)) in
          rw (child-at s k (few k h) i m) (older (child s k i) (below k i h m) (closed k i h e m)))

      newest : term more (rank p k) ≡ term s k
      newest =
          term-node filled_more (rank p k) (omega arith)
          ∙ (λ z. mk (new-constructor (built s k) (rank p k) (constructor_of s k) (names k) (holdable k h) (room s mark inside few k h) z)
          (map (term more) (new-children (built s k) (rank p k) (constructor_of s k) (names k) (holdable k h) (room s mark inside few k h) z)))
          ∙ ap (mk (constructor_of s k)) terms-alike
          ∙ sym (term-node f k h)

      both : (j : ℕ) → j < suc k → p j ≡ true → term more (rank p j) ≡ term s j
      both j l q = ⊎_elim (λ m. older j m q) (λ m. let z : j ≡ k = omega arith in rw z newest) (below-or-from j k)

    same_turn : (k : ℕ) → k < mark → Same k → (t : Bool) → p k ≡ t → Same (suc k)
    unfolding renumbered
    same_turn k h same true e j l q = rw (built-kept s k e) (both k h e same j l q)
    same_turn k h same false e j l q =
        rw (built-dropped s k e)
        (⊎_elim (λ m. same j m q) (λ m. let z : j ≡ k = omega arith in absurd (true≢false (sym q ∙ ap p z ∙ e))) (below-or-from j k))

    pub built-term : (k : ℕ) → k ≤ mark → Same k
    built-term zero h j l q = absurd (omega arith)
    built-term (suc k) h j l q = same_turn k (omega arith) (built-term k (omega arith)) (p k) refl j l q

    -- ---- the store after the collection

    after-cleared : store_after p s mark ≡ cleared_from (built s mark) (8 * rank p mark)
    after-cleared =
        sym (packed-cleared s (built s mark) mark (rank p mark) refl (built-long s mark inside few mark (omega arith)) (built-first s mark inside few mark (omega arith)))

    pub after_kept : Kept (built s mark) (rank p mark) (store_after p s mark)
    after_kept = record {
      long = ap length after-cleared ∙ length-cleared_from (built s mark) (8 * rank p mark);
      same = ap (take (8 * rank p mark)) after-cleared ∙ take-cleared_from (built s mark) (8 * rank p mark) (8 * rank p mark) (omega arith);
    }

    pub after-long : length (store_after p s mark) ≡ length s
    after-long = after_kept.long ∙ built-long s mark inside few mark (omega arith)

    pub after_filled : Filled (store_after p s mark) (rank p mark)
    after_filled = kept-filled after_kept (built-filled mark (omega arith))

    pub after-term : (k : ℕ) → k < mark → p k ≡ true → term (store_after p s mark) (rank p k) ≡ term s k
    after-term k h e = kept-term (built-filled mark (omega arith)) after_kept (rank p k) (rank_less k mark e h) ∙ built-term mark (omega arith) k h e

    pub after-zero : (j : ℕ) → 8 * rank p mark ≤ j → get_or (store_after p s mark) j 0 ≡ 0
    after-zero j l = ap (λ (w : List ℕ). get_or w j 0) after-cleared ∙ get_or-cleared_from-from (built s mark) (8 * rank p mark) j l

    module _ (k : ℕ) (h : k < mark) (e : p k ≡ true) where
      after-word : (i : ℕ) → i < 8 → word_at (store_after p s mark) (rank p k) i ≡ get_or (renumbered s (rank p) k) i 0
      after-word i m = kept_word after_kept (rank p k) i (rank_less k mark e h) m ∙ built-word mark (omega arith) k i h e m

      pub after-constructor : constructor_of (store_after p s mark) (rank p k) ≡ constructor_of s k
      after-constructor = after-word 0 (omega arith) ∙ renumbered-constructor s (rank p) k (few k h)

      pub after-count : child_count (store_after p s mark) (rank p k) ≡ child_count s k
      after-count = after-word 1 (omega arith) ∙ renumbered-count s (rank p) k (few k h)

      pub after-child : (j : ℕ) → j < child_count s k → child (store_after p s mark) (rank p k) j ≡ rank p (child s k j)
      after-child j l = after-word (2 + j) (omega (arith, few k h)) ∙ renumbered-child s (rank p) k (few k h) j l
