-- Words compared, and a line copied with its line feed. Assumes nothing.
use mathlib.Core.Path.{◌≡◌, refl, ap, ◌∙◌, subst}
use mathlib.Core.Logic.{◌⊎◌, inl, inr, ◌↔◌, ⊎_elim}
use mathlib.Core.Bool.{Bool, true, false}
use mathlib.Core.List.{List, ◌∷◌, ◌++◌}
use Prim.Native.Nat.{ℕ, zero, suc, ◌+◌, ◌-◌, ◌≤◌, ◌<◌}
use native.Mathlib.Omega.{arith}
use lib.ListN.{length, get_or, set, drop}
use lib.Seq.{set_at, drop-cons}
use lib.Dec.{eqb}
use borrow.Author.Tests.{eqb-true, eqb-false}
use Rattle.meaning.proofs.Tests.{impossible, decided}
use Rattle.words.proofs.Tests.{below-or-from}
use Rattle.write_rules.specs.Lines.{SameWords, same, differ}

-- ---- the words up to a place are the same

record Compares (a b : List ℕ) (from i : ℕ) : Type 0 where
  pub low : from ≤ i
  pub all : (k : ℕ) → from ≤ k → k < i → get_or a k 0 ≡ get_or b k 0

compares-begin : (a b : List ℕ) (from : ℕ) → Compares a b from from
compares-begin a b from = record { low = omega arith; all = λ k l m. absurd (omega arith) }

module _ {a b : List ℕ} {from i : ℕ} (c : Compares a b from i) where
  compares-on : get_or a i 0 ≡ get_or b i 0 → Compares a b from (i + 1)
  compares-on e = record {
    low = omega (arith, c.low);
    all = λ k l m. ⊎_elim (λ n. c.all k l n) (λ n. let z : i ≡ k = omega arith in subst (λ (j : ℕ). get_or a j 0 ≡ get_or b j 0) z e) (below-or-from k i);
  }

  compares-differ : {to : ℕ} → i < to → (get_or a i 0 ≡ get_or b i 0 → ⊥) → SameWords a b from to false
  compares-differ l n = differ refl i c.low l n

  compares-end : {to : ℕ} → to ≤ i → SameWords a b from to true
  compares-end l = same refl (λ k m n. c.all k m (omega arith))

module _ {a b : List ℕ} {from to : ℕ} where
  -- From a place on they are the same, or one is not.
  compared-on : (n i : ℕ) → n ≡ to - i → Compares a b from i → SameWords a b from to true ⊎ SameWords a b from to false
  compared-on zero i e c = inl (compares-end c (omega arith))
  compared-on (suc n) i e c =
      decided (eqb (get_or a i 0) (get_or b i 0)) (λ q. compared-on n (i + 1) (omega arith) (compares-on c (eqb-true _ _ q)))
      (λ q. inr (compares-differ c (omega arith) (eqb-false _ _ q)))

  -- What is told of all words from one place to another is told of each.
  pub same-told : (answer : Bool) → (answer ≡ true ↔ ((i : ℕ) → from ≤ i → i < to → get_or a i 0 ≡ get_or b i 0)) → SameWords a b from to answer
  same-told true h = same refl (h.0 refl)
  same-told false h = ⊎_elim differing (λ s. s) (compared-on (to - from) from refl (compares-begin a b from))
    where
      differing : SameWords a b from to true → SameWords a b from to false
      differing (same z all) = impossible (let x : false ≡ true = h.1 all in cc)
      differing (differ z i l m n) = impossible (let x : true ≡ false = z in cc)

-- ---- a line copied to the front, and its line feed

pub line-fed : (b line copied : List ℕ) → copied ≡ line → length line < length b
    → set (copied ++ drop (length line) b) (length line) 10 ≡ line ++ (10 ∷ drop (length line + 1) b)
line-fed b line copied e room =
    let s : suc (length line) ≡ length line + 1 = omega arith in
    ap (λ (c : List ℕ). set (c ++ drop (length line) b) (length line) 10) e
    ∙ ap (λ (d : List ℕ). set (line ++ d) (length line) 10) (drop-cons b (length line) 0 room)
    ∙ set_at line (get_or b (length line) 0) (drop (suc (length line)) b) 10 (length line) refl
    ∙ ap (λ (j : ℕ). line ++ (10 ∷ drop j b)) s
