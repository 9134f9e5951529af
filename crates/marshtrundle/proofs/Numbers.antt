-- A run with counts comes back as its numbers do. Assumes nothing.
use mathlib.Core.Path.{◌≡◌}
use mathlib.Core.List.{List}
use Prim.Native.Nat.{ℕ}
use Rattle.tallying.specs.Added.{Counted}
use Rattle.tallying.specs.Added.{CountedReturned, counted_at_return}
use Rattle.counting.specs.Counted.{IndexedCountedReturned, indexed_counted_at_return}

module _ {q r : Counted} {s b cs : List ℕ} (e : q ≡ r) where
  pub as-numbers : {w : CountedReturned} → counted_at_return r s b cs ≡ w → counted_at_return q s b cs ≡ w
  as-numbers z = rw e z

  pub as-numbers-indexed : {x : List ℕ} {w : IndexedCountedReturned} → indexed_counted_at_return r s b cs x ≡ w
      → indexed_counted_at_return q s b cs x ≡ w
  as-numbers-indexed z = rw e z
