-- `lent::forget` meets its contract. The loop's invariant: the nodes below k are in, and what is left to take out leads to the same words.
-- Assumes nothing.
use Rattle.std.proofs.Common.{◌≡◌, ◌-◌, ◌≤◌, length}
use Rattle.index.specs.Lent.{Held, forgotten}
use Rattle.index.proofs.lent.forget.Given as goal

abbrev pub invariant-loop-k : goal.invariant-loop-k
invariant-loop-k l =
    (l.mark ≤ l.k) × (length l.lent ≡ length l.initial.lent) × Held l.lent l.n l.k × (forgotten l.n l.mark (l.k - l.mark) l.lent ≡ forgotten l.n l.mark (l.top - l.mark) l.initial.lent)
