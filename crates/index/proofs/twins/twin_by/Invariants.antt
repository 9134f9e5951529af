-- `twins::twin_by` meets its contract. The loop's invariant: the nodes below k are in the chains, and those from k on decide.
-- Assumes nothing.
use Rattle.meaning.specs.Shared.{fresh, twin}
use Rattle.std.proofs.Common.{◌≡◌, ◌-◌, length}
use Rattle.words.specs.Tests.{rejected}
use Rattle.index.specs.Chains.{Indexed}
use Rattle.index.proofs.twins.twin_by.Given as goal

abbrev pub invariant-loop-k : goal.invariant-loop-k
invariant-loop-k l =
    (length l.index ≡ length l.initial.index) × Indexed l.store l.index 0 l.n l.k × (rejected (fresh l.store) l.k (l.mark - l.k) ≡ twin l.store l.mark)
