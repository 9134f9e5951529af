-- Nodes kept by a test, packed: in their old order, numbered from zero without gaps, their children renumbered.
use Rattle.std.specs.Prelude.{Bool, List, [], ◌++◌, map, ℕ, zero, suc, ◌-◌, ◌*◌, length, replicate, if◌then◌else◌}
use Rattle.checks.specs.Good.{constructor_of}
use Rattle.meaning.specs.Store.{children, row}

-- the eight words of node k with its children renumbered: child j is now f j
unfoldable pub renumbered : List ℕ → (ℕ → ℕ) → ℕ → List ℕ
renumbered s f k = row (constructor_of s k) (map f (children s k))

-- a binding's word renumbered: zero stays, and node k plus one is now f k plus one
unfoldable pub rebound : (ℕ → ℕ) → ℕ → ℕ
rebound f zero = 0
rebound f (suc k) = suc (f k)

-- the nodes that the test keeps
module _ (keeps : ℕ → Bool) where
  -- how many nodes below k are kept: the new number of node k, where it is kept itself
  unfoldable pub rank : ℕ → ℕ
  rank zero = 0
  rank (suc k) = if keeps k then suc (rank k) else rank k

  -- the words of the kept nodes below k, in their old order
  unfoldable pub packed : List ℕ → ℕ → List ℕ
  packed s zero = []
  packed s (suc k) = if keeps k then packed s k ++ renumbered s rank k else packed s k

  -- those of all kept nodes below the mark, and zeros after them
  unfoldable pub store_after : List ℕ → ℕ → List ℕ
  store_after s mark = packed s mark ++ replicate (length s - 8 * rank mark) 0
