-- The pass up, node by node: how far it is, and what is left when it ends.
-- Assumes nothing.
use mathlib.Core.Path.{◌≡◌, refl, ap, sym, ◌∙◌}
use mathlib.Core.Bool.{Bool, true, false, true≢false}
use mathlib.Core.Logic.{⊎_elim}
use mathlib.Core.List.{List}
use Prim.Native.Nat.{ℕ, ◌+◌, ◌*◌, ◌≤◌, ◌<◌}
use native.Mathlib.Numerals.{add-one}
use native.Mathlib.Omega.{arith}
use lib.ListN.{length, get_or, set, take, length-set}
use lib.Seq.{get_or-set_same, get_or-set_other}
use borrow.Author.Tests.{eq-eqb, ne_eqb}
use Rattle.words.specs.Words.{word_at, put_row}
use Rattle.words.proofs.Tests.{below-or-from}
use Rattle.checks.specs.Good.{child_count, child}
use Rattle.collect.specs.Packed.{renumbered, rank}
use Rattle.collect.specs.Passes.{flagged, Movable, Moved}
use Rattle.collect.proofs.Renumbering.{renumbered-alike}
use Rattle.collect.proofs.Packing.{rank-kept, rank-dropped, rank-none, rank-le, built, built-none, built-kept, built-dropped, built-long, built-first, built-above, room}

-- A test does not both hold and fail.
not-both : (t : Bool) → t ≡ true → t ≡ false → ⊥
not-both true e f = true≢false f
not-both false e f = true≢false (sym e)

-- The nodes below k are done: n of them were marked, and are moved.
pub record Packs (s₀ w₀ : List ℕ) (m k n : ℕ) (s w : List ℕ) : Type 0 where
  pub until : k ≤ m
  pub number : n ≡ rank (flagged w₀) k
  pub store : s ≡ built (flagged w₀) s₀ k
  pub long : length w ≡ length w₀
  pub moved : (i : ℕ) → i < k → flagged w₀ i ≡ true → get_or w i 0 ≡ rank (flagged w₀) i
  pub left : (i : ℕ) → k ≤ i → get_or w i 0 ≡ get_or w₀ i 0

module _ (s₀ w₀ : List ℕ) (m : ℕ) where
  pub packs-none : Packs s₀ w₀ m 0 0 s₀ w₀
  packs-none = record {
    until = omega arith;
    number = sym (rank-none (flagged w₀));
    store = sym (built-none (flagged w₀) s₀);
    long = refl;
    moved = λ i l e. absurd (omega arith);
    left = λ i l. refl;
  }

  module _ (v : Movable s₀ w₀ m) (k n : ℕ) (s w : List ℕ) (q : Packs s₀ w₀ m k n s w) where
    -- The mark of node k is as it was.
    marked : (get_or w k 0 ≡ 0 → ⊥) → flagged w₀ k ≡ true
    marked h = rw (ne_eqb (get_or w₀ k 0) 0 (λ z. h (q.left k (omega arith) ∙ z)))

    unmarked : get_or w k 0 ≡ 0 → flagged w₀ k ≡ false
    unmarked h = rw (eq-eqb (get_or w₀ k 0) 0 (sym (q.left k (omega arith)) ∙ h))

    pub length-store : length s ≡ length s₀
    length-store = ap length q.store ∙ built-long (flagged w₀) s₀ m v.fits v.count k q.until

    module _ (h : k < m) where
      -- Its row in the store is as it was, and its children have their numbers.
      row_is : (get_or w k 0 ≡ 0 → ⊥) → renumbered s (λ c. get_or w c 0) k ≡ renumbered s₀ (rank (flagged w₀)) k
      row_is e =
          rw q.store
          (renumbered-alike s₀ (built (flagged w₀) s₀ k) (λ c. get_or w c 0) (rank (flagged w₀)) k (v.count k h)
          (λ j l. built-above (flagged w₀) s₀ m v.fits v.count k q.until k j (omega arith) l)
          (λ i l. q.moved (child s₀ k i) (v.below k i h l) (v.closed k i h (marked e) l)))

      store_is : (s' r : List ℕ) → (get_or w k 0 ≡ 0 → ⊥) → r ≡ renumbered s (λ c. get_or w c 0) k → s' ≡ put_row s n r → s' ≡ built (flagged w₀) s₀ (k + 1)
      store_is s' r e f g =
          g
          ∙ (λ z. put_row (q.store z) (q.number z) ((f ∙ row_is e) z))
          ∙ sym (built-kept (flagged w₀) s₀ k (marked e))
          ∙ ap (built (flagged w₀) s₀) (sym (add-one k))

      pub packs-moved : (s' r : List ℕ) → (get_or w k 0 ≡ 0 → ⊥) → r ≡ renumbered s (λ c. get_or w c 0) k → s' ≡ put_row s n r → Packs s₀ w₀ m (k + 1) (n + 1) s' (set w k n)
      packs-moved s' r e f g = record {
        until = omega arith;
        number = omega (arith, ap (rank (flagged w₀)) (add-one k), rank-kept (flagged w₀) k (marked e), q.number);
        store = store_is s' r e f g;
        long = length-set w k n ∙ q.long;
        moved = λ i l o.
            ⊎_elim (λ x. get_or-set_other w k i n 0 (λ z. omega arith) ∙ q.moved i x o)
            (λ x. let z : i ≡ k = omega arith in rw z (get_or-set_same w k n 0 (omega (arith, v.long, q.long)) ∙ q.number))
            (below-or-from i k);
        left = λ i l. get_or-set_other w k i n 0 (λ z. omega arith) ∙ q.left i (omega arith);
      }

      pub packs-passed : get_or w k 0 ≡ 0 → Packs s₀ w₀ m (k + 1) n s w
      packs-passed e = record {
        until = omega arith;
        number = omega (arith, ap (rank (flagged w₀)) (add-one k), rank-dropped (flagged w₀) k (unmarked e), q.number);
        store = q.store ∙ sym (built-dropped (flagged w₀) s₀ k (unmarked e)) ∙ ap (built (flagged w₀) s₀) (sym (add-one k));
        long = q.long;
        moved = λ i l o.
            ⊎_elim (λ x. q.moved i x o)
            (λ x. let z : i ≡ k = omega arith in absurd (not-both (flagged w₀ i) o (ap (flagged w₀) z ∙ unmarked e)))
            (below-or-from i k);
        left = λ i l. q.left i (omega arith);
      }

      -- The node's words are as they were.
      word-is : (j : ℕ) → j < 8 → word_at s k j ≡ word_at s₀ k j
      word-is j l = ap (λ (x : List ℕ). word_at x k j) q.store ∙ built-above (flagged w₀) s₀ m v.fits v.count k q.until k j (omega arith) l

      pub count_at : child_count s k ≤ 6
      count_at = omega (arith, word-is 1 (omega arith), v.count k h)

      pub child-at : (i : ℕ) → i < child_count s k → child s k i < length w
      child-at i l =
          let z : i < child_count s₀ k = omega (arith, word-is 1 (omega arith)) in
          omega (arith, word-is (2 + i) (omega (arith, v.count k h)), v.below k i h z, q.long, v.long)

      -- There is room for the row.
      pub room_at : 8 * n + 8 ≤ length s
      room_at = omega (arith, room (flagged w₀) s₀ m v.fits v.count k h, ap length q.store, q.number)

      -- The number of nodes moved is below the mark.
      pub number_at : n ≤ k
      number_at = omega (arith, rank-le (flagged w₀) k, q.number)

  pub packs-all : Movable s₀ w₀ m → (k n : ℕ) (s w : List ℕ) → Packs s₀ w₀ m k n s w → m ≤ k → Moved s₀ w₀ m n s w
  packs-all v k n s w q l =
      let z : k ≡ m = omega (arith, q.until) in
      let r : n ≡ rank (flagged w₀) m = q.number ∙ ap (rank (flagged w₀)) z in
      let t : s ≡ built (flagged w₀) s₀ m = q.store ∙ ap (built (flagged w₀) s₀) z in
      record {
        mark = r;
        store = length-store v k n s w q;
        first = (λ i. take (8 * r i) (t i)) ∙ built-first (flagged w₀) s₀ m v.fits v.count m (omega arith);
        work = q.long;
        number = λ i h o. q.moved i (omega arith) o;
      }
