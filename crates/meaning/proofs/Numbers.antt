-- Where no two nodes have the same words, two terms are equal exactly when their numbers are. Assumes nothing.
use mathlib.Core.Path.{◌≡◌, refl, ap, sym, ◌∙◌}
use mathlib.Core.Logic.{⊎_elim}
use mathlib.Core.List.{List, ◌∷◌, ◌++◌, map}
use Prim.Native.Nat.{ℕ, zero, suc, ◌+◌, ◌-◌, ◌≤◌, ◌<◌}
use native.Mathlib.Nat.{eq-or-lt_of_le}
use native.Mathlib.Omega.{arith}
use lib.ListN.{length, get_or, replicate, length-take, length-append, length-replicate, get_or-replicate, get_or-append}
use lib.Seq.{ext_get_or, get_or-take, get_or-append-add}
use Rattle.words.proofs.Tests.{below-or-from}
use Rattle.checks.specs.Good.{constructor_of, child_count, child}
use Rattle.meaning.specs.Term.{con, kids, mk}
use Rattle.meaning.specs.Table.{six}
use Rattle.meaning.specs.Store.{children, row, term}
use Rattle.meaning.proofs.Terms.{con-mk, kids-mk}
use Rattle.meaning.proofs.Checked.{Node, Filled}
use Rattle.meaning.proofs.Words.{Below, below_none, below_more, children-below, term-node}
use Rattle.meaning.specs.Shared.{eight, Distinct}
use Rattle.meaning.proofs.Tests.{impossible}

-- a good node's words are those of its constructor and children
eight-row : (w : List ℕ) (k : ℕ) → Node w k → eight w k ≡ row (constructor_of w k) (children w k)
unfolding row
eight-row w k n = λ i. constructor_of w k ∷ sym count i ∷ rest i
  where
    count : length (children w k) ≡ child_count w k
    count = simp length-take (omega (arith, n.holdable.count))

    word : (i : ℕ) → i < 6 → get_or (six w k) i 0 ≡ child w k i
    word zero h = refl
    word (suc zero) h = refl
    word (suc (suc zero)) h = refl
    word (suc (suc (suc zero))) h = refl
    word (suc (suc (suc (suc zero)))) h = refl
    word (suc (suc (suc (suc (suc zero))))) h = refl
    word (suc (suc (suc (suc (suc (suc i)))))) h = absurd (omega arith)

    rest : six w k ≡ children w k ++ replicate (6 - length (children w k)) 0
    rest =
        ext_get_or 0 (six w k) (children w k ++ replicate (6 - length (children w k)) 0)
        (sym (simp (length-append, length-replicate) (omega (arith, count, n.holdable.count))))
        (λ i h. ⊎_elim (used i) (unused i h) (below-or-from i (child_count w k)))
      where
        used : (i : ℕ) → i < child_count w k → get_or (six w k) i 0 ≡ get_or (children w k ++ replicate (6 - length (children w k)) 0) i 0
        used i l = sym (get_or-append (children w k) (replicate (6 - length (children w k)) 0) 0 i (omega (arith, count)) ∙ get_or-take (child_count w k) (six w k) i 0 l)

        unused : (i : ℕ) → i < 6 → child_count w k ≤ i → get_or (six w k) i 0 ≡ get_or (children w k ++ replicate (6 - length (children w k)) 0) i 0
        unused i h l =
            let e : i ≡ length (children w k) + (i - child_count w k) = omega (arith, count) in
            word i h ∙ n.zeros i l h
            ∙ sym (ap (λ j. get_or (children w k ++ replicate (6 - length (children w k)) 0) j 0) e
            ∙ get_or-append-add (children w k) (replicate (6 - length (children w k)) 0) (i - child_count w k) 0
            ∙ get_or-replicate (6 - length (children w k)) (i - child_count w k) 0 0 (omega (arith, count)))

module _ {w : List ℕ} {m : ℕ} (f : Filled w m) (d : Distinct w m) where
  -- equal lists of terms are equal lists of numbers, where equal terms have equal numbers
  same_numbers : {a b : ℕ} {xs ys : List ℕ} → Below a xs → Below b ys → ((x y : ℕ) → x < a → y < b → term w x ≡ term w y → x ≡ y) → map (term w) xs ≡ map (term w) ys → xs ≡ ys
  same_numbers below_none below_none g e = refl
  same_numbers below_none (below_more i b) g e = impossible (cc)
  same_numbers (below_more i b) below_none g e = impossible (cc)
  same_numbers (below_more {j = x} i b) (below_more {j = y} i' b') g e =
      let head : term w x ≡ term w y = cc in
      λ z. g x y i i' head z ∷ same_numbers b b' g (cc) z

  -- of nodes with equal words one is not below the other
  one-node : (j k : ℕ) → j < m → k < m → eight w j ≡ eight w k → j ≡ k
  one-node j k h l e = ⊎_elim (λ a. absurd (d j k a l e)) (λ a. ⊎_elim (λ z. sym z) (λ b. absurd (d k j b h (sym e))) (eq-or-lt_of_le a)) (below-or-from j k)

  below-bound : (b j k : ℕ) → j < b → j < m → k < m → term w j ≡ term w k → j ≡ k
  below-bound zero j k a h l e = absurd (omega arith)
  below-bound (suc b) j k a h l e =
      let t : mk (constructor_of w j) (map (term w) (children w j)) ≡ mk (constructor_of w k) (map (term w) (children w k)) = sym (term-node f j h) ∙ e ∙ term-node f k l in
      let c : constructor_of w j ≡ constructor_of w k = sym (con-mk _ _) ∙ ap con t ∙ con-mk _ _ in
      let ts : map (term w) (children w j) ≡ map (term w) (children w k) = sym (kids-mk _ _) ∙ ap kids t ∙ kids-mk _ _ in
      let hs : children w j ≡ children w k = same_numbers (children-below (f.node j h)) (children-below (f.node k l))
      (λ x y p q z. below-bound b x y (omega arith) (omega arith) (omega arith) z) ts in
      one-node j k h l (eight-row w j (f.node j h) ∙ (λ i. row (c i) (hs i)) ∙ sym (eight-row w k (f.node k l)))

  pub equal-numbers : (j k : ℕ) → j < m → k < m → term w j ≡ term w k → j ≡ k
  equal-numbers j k h l e = below-bound (suc j) j k (omega arith) h l e
