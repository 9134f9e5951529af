-- The node below the mark with given words: what it has, and what tells it; and that distinct nodes stay distinct. Assumes nothing.
use mathlib.Core.Path.{◌≡◌, refl, ap, sym, ◌∙◌, subst}
use mathlib.Core.Bool.{Bool, true, false, true≢false}
use mathlib.Core.Option.{none, some}
use mathlib.Core.List.{List, [], ◌∷◌}
use Prim.Native.Nat.{ℕ, zero, suc, ◌+◌, ◌-◌, ◌*◌, ◌≤◌, ◌<◌}
use native.Mathlib.Decide.{ℕ_discrete}
use native.Mathlib.Omega.{arith}
use lib.Dec.{eqb}
use lib.ListN.{length, get_or, take, drop as dropList, replicate}
use lib.Seq.{take_at, ext_get_or}
use borrow.Author.Tests.{eqb-true, eq-eqb}
use Rattle.std.specs.Prelude.{if◌then◌else◌}
use Rattle.words.specs.Words.{word_at, put_row}
use Rattle.words.proofs.Tests.{and-true}
use Rattle.words.proofs.Rows.{word_at-put_row-same, word_at-put_row-other}
use Rattle.checks.specs.Good.{constructor_of}
use Rattle.meaning.specs.Store.{children, row, Kept}
use Rattle.meaning.specs.Shared.{eight, alike, node_with, Distinct}
use Rattle.meaning.proofs.Tests.{impossible}
use Rattle.meaning.proofs.Words.{kept_word}

pub alike-equal : (xs ys : List ℕ) → alike xs ys ≡ true → xs ≡ ys
unfolding alike
alike-equal [] [] e = refl
alike-equal [] (y ∷ ys) e = impossible (cc)
alike-equal (x ∷ xs) [] e = impossible (cc)
alike-equal (x ∷ xs) (y ∷ ys) e = let (p, q) = and-true (eqb x y) (alike xs ys) e in λ i. eqb-true x y p i ∷ alike-equal xs ys q i

pub alike_refl : (xs : List ℕ) → alike xs xs ≡ true
unfolding alike
alike_refl [] = refl
alike_refl (x ∷ xs) = rw (eq-eqb x x refl, alike_refl xs)

-- it lies below the mark and has them
pub node_with-has : (w r : List ℕ) (m k : ℕ) → node_with w r m ≡ some k → (k < m) × (eight w k ≡ r)
unfolding node_with
node_with-has w r zero k e = impossible (cc)
node_with-has w r (suc m) k e = go (λ f. node_with-has w r m k f) (alike (eight w m) r) refl e
  where
    go : (node_with w r m ≡ some k → (k < m) × (eight w k ≡ r)) → (t : Bool) → alike (eight w m) r ≡ t → (if t then some m else node_with w r m) ≡ some k → (k < suc m) × (eight w k ≡ r)
    go z true a f = let e : m ≡ k = cc in (omega arith, subst (λ j. eight w j ≡ r) e (alike-equal _ _ a))
    go z false a f = let (i, x) = z f in (omega arith, x)

-- where there is none, no node below the mark has them
pub node_with-none : (w r : List ℕ) (m j : ℕ) → j < m → node_with w r m ≡ none → eight w j ≡ r → ⊥
unfolding node_with
node_with-none w r zero j h z e = absurd (omega arith)
node_with-none w r (suc m) j h z e = go (λ l y. node_with-none w r m j l y e) (alike (eight w m) r) refl z (ℕ_discrete j m)
  where
    go : (j < m → node_with w r m ≡ none → ⊥) → (t : Bool) → alike (eight w m) r ≡ t → (if t then some m else node_with w r m) ≡ none → Dec (j ≡ m) → ⊥
    go f true a y d = impossible (cc)
    go f false a y (no n) = f (omega arith) y
    go f false a y (yes q) = true≢false (sym (subst (λ s. alike (eight w m) s ≡ true) (ap (eight w) (sym q) ∙ e) (alike_refl (eight w m))) ∙ a)

-- the highest node is looked at first
pub node_with-next : (w r : List ℕ) (k : ℕ) → 0 < k
    → node_with w r k ≡ (if alike (eight w (k - 1)) r then some (k - 1) else node_with w r (k - 1))
unfolding node_with
node_with-next w r zero h = absurd (omega arith)
node_with-next w r (suc k) h = let e : suc k - 1 ≡ k = omega arith in rw e refl

-- eight words that are one by one the same
pub eight-same : (w w' : List ℕ) (k : ℕ) → ((j : ℕ) → j < 8 → word_at w k j ≡ word_at w' k j) → eight w k ≡ eight w' k
eight-same w w' k o =
    λ z. o 0 (omega arith) z ∷ o 1 (omega arith) z ∷ o 2 (omega arith) z ∷ o 3 (omega arith) z ∷ o 4 (omega arith) z ∷ o 5 (omega arith) z
    ∷ o 6 (omega arith) z ∷ o 7 (omega arith) z ∷ []

-- it is told by the nodes below the mark
pub node_with-same : (w w' r : List ℕ) (m : ℕ) → ((k : ℕ) → k < m → eight w' k ≡ eight w k) → node_with w' r m ≡ node_with w r m
unfolding node_with
node_with-same w w' r zero f = refl
node_with-same w w' r (suc m) f = λ i. if alike (f m (omega arith) i) r then some m else node_with-same w w' r m (λ k h. f k (omega arith)) i

pub kept-eight : {w w' : List ℕ} {m : ℕ} → Kept w m w' → (k : ℕ) → k < m → eight w' k ≡ eight w k
kept-eight {w} {w'} p k h = eight-same w' w k (λ j l. kept_word p k j h l)

-- a row of a constructor and children, at a node
module _ (w : List ℕ) (k c : ℕ) (hs : List ℕ) (e : eight w k ≡ row c hs) where
  pub row-children : children w k ≡ hs
  unfolding row
  row-children = ap (λ (r : List ℕ). take (get_or r 1 0) (dropList 2 r)) e ∙ take_at hs (replicate (6 - length hs) 0) (length hs) refl

  pub row-constructor : constructor_of w k ≡ c
  unfolding row
  row-constructor = ap (λ (r : List ℕ). get_or r 0 0) e

pub distinct-kept : {w w' : List ℕ} {m : ℕ} → Kept w m w' → Distinct w m → Distinct w' m
distinct-kept k d i j h l e = d i j h l (sym (kept-eight k i (omega arith)) ∙ e ∙ kept-eight k j l)

-- a row that no node has is put at the mark
pub distinct-put : (w r : List ℕ) (m : ℕ) → 8 * m + 8 ≤ length w → length r ≡ 8 → node_with w r m ≡ none → Distinct w m → Distinct (put_row w m r) (m + 1)
distinct-put w r m inside e z d i j h l s = go (ℕ_discrete j m)
  where
    older : (k : ℕ) → k < m → eight (put_row w m r) k ≡ eight w k
    older k a = eight-same (put_row w m r) w k (λ x y. word_at-put_row-other w m r inside e k x y (λ q. absurd (omega arith)))

    new : eight (put_row w m r) m ≡ r
    new = ext_get_or 0 (eight (put_row w m r) m) r (sym e) each
      where
        o : (x : ℕ) → x < 8 → word_at (put_row w m r) m x ≡ get_or r x 0
        o = word_at-put_row-same w m r inside e

        each : (x : ℕ) → x < 8 → get_or (eight (put_row w m r) m) x 0 ≡ get_or r x 0
        each zero y = o 0 y
        each (suc zero) y = o 1 y
        each (suc (suc zero)) y = o 2 y
        each (suc (suc (suc zero))) y = o 3 y
        each (suc (suc (suc (suc zero)))) y = o 4 y
        each (suc (suc (suc (suc (suc zero))))) y = o 5 y
        each (suc (suc (suc (suc (suc (suc zero)))))) y = o 6 y
        each (suc (suc (suc (suc (suc (suc (suc zero))))))) y = o 7 y
        each (suc (suc (suc (suc (suc (suc (suc (suc x)))))))) y = absurd (omega arith)

    go : Dec (j ≡ m) → ⊥
    go (no n) = d i j h (omega arith) (sym (older i (omega arith)) ∙ s ∙ older j (omega arith))
    go (yes q) = node_with-none w r m i (omega arith) z (sym (older i (omega arith)) ∙ s ∙ ap (eight (put_row w m r)) q ∙ new)
