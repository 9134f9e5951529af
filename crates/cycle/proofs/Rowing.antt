-- The eight words of a good node are the row of its constructor and children, also with one child replaced; and a node made
-- again is a new row at the mark.
use mathlib.Core.Path.{◌≡◌, refl, ap, sym, ◌∙◌}
use mathlib.Core.Logic.{⊎_elim}
use mathlib.Core.List.{List, [], ◌∷◌, ◌++◌}
use Prim.Native.Nat.{ℕ, zero, suc, ◌+◌, ◌-◌, ◌≤◌, ◌<◌, min}
use native.Mathlib.Omega.{arith}
use lib.ListN.{length, get_or, set, take, replicate, length-append, length-set, length-replicate, get_or-replicate, get_or-append}
use lib.Seq.{set-append_left, get_or-take, get_or-append-add, ext_get_or}
use Rattle.words.specs.Words.{word_at}
use Rattle.words.proofs.Tests.{below-or-from}
use Rattle.checks.specs.Good.{constructor_of, child_count}
use Rattle.meaning.specs.Bindings.{Bindings}
use Rattle.meaning.specs.Table.{six}
use Rattle.meaning.specs.Rules.{again, put}
use Rattle.meaning.specs.Limits.{run_plan}
use Rattle.meaning.specs.Store.{children, row}
use Rattle.meaning.specs.Demands.{Kept}
use Rattle.meaning.proofs.Checked.{Node, node-of-good}
use Rattle.meaning.proofs.Words.{kept_word}
use Rattle.state.specs.Noted.{Standing}
use Rattle.state.specs.Record.{standing, held}
use Rattle.state.specs.Visits.{plan, count_of, row_at, noded, Steady, Stored}
use Rattle.state.specs.Answers.{node_in}
use Rattle.state.proofs.Storing.{steady-stored}
use Rattle.cycle.specs.Cycle.{Ready}
use Rattle.leaves.proofs.Children.{six-at, part_length}

-- the subject of a visit stands in the store
pub ready-stored : {t w st : List ℕ} {e g : ℕ} → Ready t w st e g → Stored w (node_in g)
ready-stored {g = g} r = steady-stored r.steady (node_in g) r.subject

-- a node below the mark has the words that it had
module _ {w w' : List ℕ} {m : ℕ} (kept : Kept w m w') (k : ℕ) (inside : k < m) where
  pub kept-count : count_of w' k ≡ count_of w k
  kept-count = ap (λ n. min n 6) (kept_word kept k 1 inside (omega arith))

  pub kept-constructor : constructor_of w' k ≡ constructor_of w k
  kept-constructor = kept_word kept k 0 inside (omega arith)

  pub kept-children : children w' k ≡ children w k
  kept-children =
      λ z. take (kept_word kept k 1 inside (omega arith) z)
      (kept_word kept k 2 inside (omega arith) z ∷ kept_word kept k 3 inside (omega arith) z ∷ kept_word kept k 4 inside (omega arith) z
      ∷ kept_word kept k 5 inside (omega arith) z ∷ kept_word kept k 6 inside (omega arith) z ∷ kept_word kept k 7 inside (omega arith) z
      ∷ [])

  pub kept_row : row_at w' k ≡ row_at w k
  kept_row =
      λ z. kept_word kept k 0 inside (omega arith) z ∷ kept_word kept k 1 inside (omega arith) z ∷ kept_word kept k 2 inside (omega arith) z
      ∷ kept_word kept k 3 inside (omega arith) z ∷ kept_word kept k 4 inside (omega arith) z ∷ kept_word kept k 5 inside (omega arith) z
      ∷ kept_word kept k 6 inside (omega arith) z ∷ kept_word kept k 7 inside (omega arith) z ∷ []

-- a good node
module _ {w : List ℕ} {k : ℕ} (node : Node w k) where
  pub children-length : length (children w k) ≡ child_count w k
  children-length = omega (arith, part_length w k (child_count w k), node.holdable.count)

  -- the words after the last child are zero
  six-padded : six w k ≡ children w k ++ replicate (6 - length (children w k)) 0
  six-padded = ext_get_or 0 (six w k) (children w k ++ replicate (6 - length (children w k)) 0) even at
    where
      even : length (six w k) ≡ length (children w k ++ replicate (6 - length (children w k)) 0)
      even = sym (length-append (children w k) _ ∙ ap (λ (n : ℕ). length (children w k) + n) (length-replicate (6 - length (children w k)) 0) ∙ omega (arith, children-length, node.holdable.count))

      at : (i : ℕ) → i < 6 → get_or (six w k) i 0 ≡ get_or (children w k ++ replicate (6 - length (children w k)) 0) i 0
      at i l = ⊎_elim (λ h. sym (child h)) (λ h. six-at w k i l ∙ node.zeros i (omega (arith, children-length)) l ∙ sym (none h)) (below-or-from i (length (children w k)))
        where
          child : i < length (children w k) → get_or (children w k ++ replicate (6 - length (children w k)) 0) i 0 ≡ get_or (six w k) i 0
          child h = get_or-append (children w k) (replicate (6 - length (children w k)) 0) 0 i h ∙ get_or-take (child_count w k) (six w k) i 0 (omega (arith, children-length))

          none : length (children w k) ≤ i → get_or (children w k ++ replicate (6 - length (children w k)) 0) i 0 ≡ 0
          none h =
              let z : i ≡ length (children w k) + (i - length (children w k)) = omega arith in
              ap (λ (x : ℕ). get_or (children w k ++ replicate (6 - length (children w k)) 0) x 0) z
              ∙ get_or-append-add (children w k) (replicate (6 - length (children w k)) 0) (i - length (children w k)) 0
              ∙ get_or-replicate (6 - length (children w k)) (i - length (children w k)) 0 0 (omega arith)

  pub row_is : row_at w k ≡ row (constructor_of w k) (children w k)
  unfolding row
  row_is = let n : child_count w k ≡ length (children w k) = sym children-length in λ i. constructor_of w k ∷ n i ∷ six-padded i

-- a row with child j replaced
pub row-set : (c j x : ℕ) (hs : List ℕ) → j < length hs → set (row c hs) (2 + j) x ≡ row c (set hs j x)
unfolding row
row-set c j x hs h =
    let z : 2 + j ≡ suc (suc j) = omega arith in
    rw (z, length-set hs j x) (ap (λ r. c ∷ length hs ∷ r) (set-append_left hs (replicate (6 - length hs) 0) j x h))

-- child j + 1, counted from 1, and the children with x in its place
pub put-set : (hs : List ℕ) (j x : ℕ) → put hs (suc j) x ≡ set hs j x
unfolding put
put-set [] j x = refl
put-set (h ∷ hs) zero x = refl
put-set (h ∷ hs) (suc j) x = ap (λ r. h ∷ r) (put-set hs j x)

-- a node with children is made again at the mark
pub again-noded : (t : List ℕ) (n k c u : ℕ) (gs st w : List ℕ) → 0 < length gs → plan t n (again k c gs (held st)) w (standing st) u ≡ noded (row c gs) st w u
unfolding plan run_plan again noded
again-noded t n k c u [] st w h = absurd (omega arith)
again-noded t n k c u (g ∷ gs) st w h = refl

-- a node k of a steady store, and its child j
module _ {w : List ℕ} {m : Standing} {b : Bindings ℕ} (steady : Steady w m b) {k j : ℕ} (inside : k < m.mark) (l : j < count_of w k) where
  good : Node w k
  good = node-of-good w k (steady.good k inside)

  among : j < length (children w k)
  among = omega (arith, part_length w k (child_count w k))

  pub child-below : word_at w k (2 + j) < m.mark
  child-below = omega (arith, good.below j (omega (arith, good.holdable.count)))

  -- the row with child j replaced, read from a store that may have changed above the mark, is the node made again
  pub remade : (t : List ℕ) (n x u : ℕ) {z w' : List ℕ} (st : List ℕ) → Kept w m.mark w' → z ≡ row_at w' k
      → plan t n (again k (constructor_of w k) (set (children w k) j x) (held st)) w' (standing st) u ≡ noded (set z (2 + j) x) st w' u
  remade t n x u {z} {w'} st kept e =
      again-noded t n k (constructor_of w k) u (set (children w k) j x) st w' (simp length-set (omega (arith, among)))
      ∙ ap (λ r. noded r st w' u) (sym (ap (λ r. set r (2 + j) x) (e ∙ kept_row kept k inside ∙ row_is good) ∙ row-set (constructor_of w k) j x (children w k) among))
