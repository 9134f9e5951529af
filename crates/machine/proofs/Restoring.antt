-- What a frame gets back. Assumes nothing.
use mathlib.Core.Path.{◌≡◌, refl, ap, sym, ◌∙◌}
use mathlib.Core.Bool.{Bool, true, false, true≢false}
use mathlib.Core.Logic.{inl, inr, ⊎_elim}
use mathlib.Core.List.{List}
use Prim.Native.Nat.{ℕ, ◌+◌, ◌*◌, ◌%◌, ◌<◌, ◌≤◌}
use native.Mathlib.Omega.{arith}
use borrow.Author.Tests.{eq-eqb, ne_eqb, eqb-true, eqb-false}
use lib.Dec.{eqb}
use lib.ListN.{length, get_or, set, length-set}
use lib.Seq.{get_or-set_same, get_or-set_other, ext_get_or}
use Rattle.words.specs.Words.{word_at}
use Rattle.turns.specs.Ways.{record_from, held_at, saves}
use Rattle.machine.specs.declared.Machine.{Machine}
use Rattle.machine.specs.declared.frames.Kept.{Kept}
use Rattle.machine.specs.Stack.{row_at, mask_at}
use Rattle.machine.specs.Machine.{Copied, Keeps, GivenBack, Fills, Restored}
use Rattle.machine.proofs.Holding.{held_same, held-copied}
use Rattle.machine.proofs.Rowing.{row_same, row_word}

pub kept-copied : (k k' : List ℕ) (r what m : ℕ) → r + 10 ≤ 40950 → saves what ≡ true → Copied k record_from (8 * (r + 2)) m k' → Keeps k r
    what m k'
kept-copied k k' r what m l s c = record {
  long = c.long;
  other = λ j h. c.other j (⊎_elim (λ l. inl l) (λ l. inr (omega arith)) h);
  kept = λ _. held-copied k k' record_from (8 * (r + 2)) m c;
  none = λ e. absurd (true≢false (sym s ∙ e));
}

pub kept-none : (k : List ℕ) (r what m : ℕ) → saves what ≡ false → Keeps k r what m k
kept-none k r what m s = record { long = refl; other = λ j h. refl; kept = λ e. absurd (true≢false (sym e ∙ s)); none = λ _. refl }

pub given_back : (k k' : List ℕ) (r mark m : ℕ) → mark ≡ word_at k r 4 → m ≡ mask_at k r → Copied k (8 * (r + 2)) record_from m k' → GivenBack
    k r (record { mark = mark; mask = m }) k'
given_back k k' r mark m e n c = record {
  long = c.long;
  other = λ j h. c.other j (inl h);
  mark = e;
  held = held-copied k k' (8 * (r + 2)) record_from m c ∙ ap (λ (m : ℕ). held_at k (8 * (r + 2)) m) n;
}

-- a word of a row set
set-row : (k : List ℕ) (q i y : ℕ) → i < 8 → 8 * q + 8 ≤ length k → row_at (set k (8 * q + i) y) q ≡ set (row_at k q) i y
set-row k q i y l h = ext_get_or 0 (row_at (set k (8 * q + i) y) q) (set (row_at k q) i y) (sym (length-set (row_at k q) i y)) (λ j g. row_word
    (set k (8 * q + i) y) q j g ∙ at j g (eqb j i) refl)
  where
    at : (j : ℕ) → j < 8 → (c : Bool) → eqb j i ≡ c → word_at (set k (8 * q + i) y) q j ≡ get_or (set (row_at k q) i y) j 0
    at j g true e = let z : j ≡ i = eqb-true j i e in rw (z, get_or-set_same k (8 * q + i) y 0 (omega arith)) (sym (get_or-set_same (row_at k q)
        i y 0 l))
    at j g false e = get_or-set_other k (8 * q + i) (8 * q + j) y 0 (λ (z : 8 * q + j ≡ 8 * q + i). eqb-false j i e (omega arith)) ∙ sym
        (get_or-set_other (row_at k q) i j y 0 (eqb-false j i e) ∙ row_word k q j g)

-- a place outside a row
set-outside : (r : List ℕ) (i y : ℕ) → length r ≤ i → set r i y ≡ r
set-outside r i y h = ext_get_or 0 (set r i y) r (length-set r i y) (λ j g. get_or-set_other r i j y 0 (λ (z : j ≡ i). omega (
  arith,
  length-set
      r i y,
)))

pub filled_in : (k k' : List ℕ) (r i y : ℕ) → r + 10 ≤ 40950 → 327680 ≤ length k → i ≡ word_at k r 3 % 8 → i < 6 → k' ≡ set k (8 * (r + 1) +
    2 + i) y → Fills k r y k'
filled_in k k' r i y room long e l z =
    let q : 8 * (r + 1) + 2 + i ≡ 8 * (r + 1) + (2 + i) = omega arith in
    record {
      long = ap length z ∙ length-set k (8 * (r + 1) + 2 + i) y;
      other = λ j h. ap (λ l. get_or l j 0) z ∙ get_or-set_other k (8 * (r + 1) + 2 + i) j y 0 (λ (x : j ≡ 8 * (r + 1) + 2 + i). ⊎_elim (λ g.
          omega arith) (λ g. omega arith) h);
      row = ap (λ l. row_at l (r + 1)) (z ∙ ap (λ (p : ℕ). set k p y) q) ∙ set-row k (r + 1) (2 + i) y (omega arith) (omega arith) ∙ ap (λ
          (i : ℕ). set (row_at k (r + 1)) (2 + i) y) e;
    }

pub filled-out : (k : List ℕ) (r i y : ℕ) → i ≡ word_at k r 3 % 8 → 6 ≤ i → Fills k r y k
filled-out k r i y e l = record {
  long = refl;
  other = λ j h. refl;
  row = sym (set-outside (row_at k (r + 1)) (2 + word_at k r 3 % 8) y (omega arith));
}

-- what the words before the record, and the row, are after each
module _ (k : List ℕ) (r : ℕ) (m : Machine) where
  pub restored-asked : m.mode < 4 → Restored k r m (record { mark = m.mark; mask = m.mask }) k
  restored-asked h = record {
    long = refl;
    other = λ j _. refl;
    asked = λ _. (refl, refl);
    row = λ _. refl;
    filled = λ e. absurd (omega arith);
    yes = λ e. absurd (omega arith);
    no = λ e. absurd (omega arith);
  }

  pub restored-given-yes : {b : Kept} {k' : List ℕ} → r + 10 ≤ 40950 → m.mode ≡ 4 → word_at k r 0 ≡ 4 → GivenBack k r b k' → Restored k r m
      b k'
  restored-given-yes {b} {k'} room e n g = record {
    long = g.long;
    other = λ j h. g.other j (⊎_elim (λ l. omega arith) (λ l. l.1) h);
    asked = λ h. absurd (omega arith);
    row = λ _. row_same k' k (r + 1) (r + 1) (λ j l. g.other (8 * (r + 1) + j) (omega arith));
    filled = λ _ h. absurd (omega arith);
    yes = λ _. rw (eq-eqb (word_at k r 0) 4 n) (g.mark, g.held);
    no = λ z. absurd (omega arith);
  }

  pub restored-given-no : {b : Kept} {k' : List ℕ} → r + 10 ≤ 40950 → 3 < m.mode → (m.mode ≡ 4 → ⊥) → saves (word_at k r 0) ≡ true →
      GivenBack k r b k' → Restored k r m b k'
  restored-given-no {b} {k'} room h e n g = record {
    long = g.long;
    other = λ j i. g.other j (⊎_elim (λ l. omega arith) (λ l. l.1) i);
    asked = λ z. absurd (omega arith);
    row = λ _. row_same k' k (r + 1) (r + 1) (λ j l. g.other (8 * (r + 1) + j) (omega arith));
    filled = λ z. absurd (e z);
    yes = λ z. absurd (e z);
    no = λ _. rw n (g.mark, g.held);
  }

  pub restored-filled : {k' : List ℕ} → r + 10 ≤ 40950 → m.mode ≡ 4 → 7 < word_at k r 0 → Fills k r m.y k' → Restored k r m (record {
    mark = m.mark;
    mask = m.mask;
  }) k'
  restored-filled {k'} room e n g = record {
    long = g.long;
    other = λ j h. g.other j (⊎_elim (λ l. inl l) (λ l. inr l.0) h);
    asked = λ h. absurd (omega arith);
    row = λ h. absurd (let l = h e in omega arith);
    filled = λ _ _. g.row;
    yes = λ _. rw (ne_eqb (word_at k r 0) 4 (λ (z : word_at k r 0 ≡ 4). omega arith)) (
      refl,
      held_same k k' record_from record_from m.mask
          (λ v l _. g.other (record_from + v) (inr (omega arith))),
    );
    no = λ z. absurd (omega arith);
  }

  pub restored-plain : m.mode ≡ 4 → word_at k r 0 < 8 → (word_at k r 0 ≡ 4 → ⊥) → Restored k r m (record { mark = m.mark; mask = m.mask })
      k
  restored-plain e n h = record {
    long = refl;
    other = λ j _. refl;
    asked = λ z. absurd (omega arith);
    row = λ _. refl;
    filled = λ _ g. absurd (omega arith);
    yes = λ _. rw (ne_eqb (word_at k r 0) 4 h) (refl, refl);
    no = λ z. absurd (omega arith);
  }

  pub restored-marked : {mark : ℕ} → 3 < m.mode → (m.mode ≡ 4 → ⊥) → saves (word_at k r 0) ≡ false → mark ≡ word_at k r 4 → Restored k r m
      (record { mark = mark; mask = m.mask }) k
  restored-marked {mark} h e n z = record {
    long = refl;
    other = λ j _. refl;
    asked = λ z. absurd (omega arith);
    row = λ _. refl;
    filled = λ z. absurd (e z);
    yes = λ z. absurd (e z);
    no = λ _. rw n (z, refl);
  }
