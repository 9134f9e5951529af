-- The nodes that a collection keeps: those reachable from the subject and the bound variables. First as the smallest set, then
-- as a test that computes; the promise `Kept-reachable` says that the two are one.
use Rattle.std.specs.Prelude.{◌≡◌, Bool, false, ◌&&◌, ◌||◌, List, ℕ, zero, suc, ◌-◌, ◌<◌, eqb, length, get_or}
use Rattle.std.proofs.Math.Option.{some}
use Rattle.checks.specs.Good.{child_count, child}
use Rattle.meaning.specs.Store.{bindings}

-- the test holds at a number below n
unfoldable pub among : (ℕ → Bool) → ℕ → Bool
among p zero = false
among p (suc n) = among p n || p n

-- node i is a child of node k
unfoldable pub is_child : List ℕ → ℕ → ℕ → Bool
is_child s k i = among (λ j. eqb (child s k j) i) (child_count s k)

-- node k is the subject or a bound variable's
unfoldable pub is_root : List ℕ → ℕ → ℕ → Bool
is_root b subject k = eqb k subject || among (λ v. eqb (get_or b v 0) (suc k)) (length b)

-- the store s, the bindings b and the subject
module _ (s b : List ℕ) (subject : ℕ) where
  -- the smallest set that has the subject, each bound variable's node, and the children of its nodes
  pub data Reachable : ℕ → Type 0 where
    at-subject : Reachable subject
    at-binding : (v k : ℕ) → bindings b v ≡ some k → Reachable k
    at-child : (k i : ℕ) → Reachable k → i < child_count s k → Reachable (child s k i)

-- the same, and the mark
module _ (s b : List ℕ) (mark subject : ℕ) where
  -- node k is the subject or a bound variable's, or a child of a reached one of the n nodes next below the mark
  unfoldable pub reached : ℕ → ℕ → Bool
  reached zero k = is_root b subject k
  reached (suc n) k = reached n k || (reached n (mark - suc n) && is_child s (mark - suc n) k)

  -- node k is kept: children lie below their parents, so the nodes below the mark are asked once each, from the highest down
  unfoldable pub kept : ℕ → Bool
  kept k = reached mark k
