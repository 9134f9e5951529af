-- Nodes that stand in the store: their count is at most 6, their children stand in it too, and so does what a run holds.
use mathlib.Core.Path.{◌≡◌}
use mathlib.Core.List.{List}
use Prim.Native.Nat.{ℕ, zero, suc, ◌+◌, ◌*◌, ◌≤◌, ◌<◌}
use native.Mathlib.Omega.{arith}
use lib.ListN.{length}
use Rattle.words.specs.Words.{word_at}
use Rattle.meaning.specs.Bindings.{Bindings}
use Rattle.meaning.specs.Demands.{Kept}
use Rattle.meaning.proofs.Checked.{Node, node-of-good, good-of-node}
use Rattle.meaning.proofs.Words.{kept_word, same-node}
use Rattle.index.specs.Run.{FitsRoom}
use Rattle.state.specs.Noted.{Standing}
use Rattle.state.specs.Visits.{count_of, Steady, Stored, Bound}

module _ {w : List ℕ} {k : ℕ} (s : Stored w k) where
  node : Node w k
  node = node-of-good w k (s.good k (omega arith))

  pub count-stored : word_at w k 1 ≡ count_of w k
  count-stored = omega (arith, node.holdable.count)

  -- a child stands below its parent
  pub child-stored : (i : ℕ) {x : ℕ} → i < count_of w k → x ≡ word_at w k (2 + i) → Stored w x
  child-stored i {x} h e =
      let l : x < k = omega (arith, e, node.below i (omega (arith, h, count-stored))) in
      record { inside = omega (arith, s.inside, l); good = λ j y. s.good j (omega (arith, y, l)) }

-- a node below the mark still stands in a store that is kept up to it
pub kept-stored : {w w' : List ℕ} {m k : ℕ} → Kept w m w' → k < m → Stored w k → Stored w' k
kept-stored {w} {w'} p h s = record {
  inside = omega (arith, s.inside, p.long);
  good = λ j y. good-of-node w' j (same-node w w' j (λ x l. kept_word p j x (omega (arith, y, h)) l) (node-of-good w j (s.good j y)));
}

-- the mark is inside the words
mark-inside : (room : ℕ) (w : List ℕ) (m t n : ℕ) → FitsRoom room w m t n → 8 * m ≤ length w
mark-inside zero w m t n (h, b, s) = omega (arith, b, h.fits, h.long)
mark-inside (suc r) w m t n (e, b, s) = omega (arith, e, b)

module _ {w : List ℕ} {m : Standing} {b : Bindings ℕ} (s : Steady w m b) where
  pub steady-stored : (k : ℕ) → k < m.mark → Stored w k
  steady-stored k h = record {
    inside = omega (arith, h, mark-inside m.notes.room w m.mark m.notes.top m.notes.nodes s.fits);
    good = λ j y. s.good j (omega (arith, y, h));
  }

  pub steady-bound : Bound w b
  steady-bound v j e = steady-stored j (s.bound v j e)
