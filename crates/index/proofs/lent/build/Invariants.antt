-- `lent::build` meets its contract. The loop's invariant: the nodes below k are in, and what is left to put in leads to the same words.
-- Assumes nothing.
use Rattle.std.proofs.Common.{◌≡◌, ◌-◌, length}
use Rattle.index.specs.Lent.{Held, built}
use Rattle.index.proofs.lent.build.Given as goal

abbrev pub invariant-loop-k : goal.invariant-loop-k
invariant-loop-k l =
    (length l.lent ≡ length l.initial.lent) × Held l.lent l.n l.k × (built l.n l.k (l.mark - l.k) l.lent ≡ built l.n 0 l.mark l.initial.lent)
