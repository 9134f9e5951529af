-- `chains::Layout::find` meets its contract. The loop's invariant: the search follows the chain. Its words fall. Assumes nothing.
use Rattle.index.proofs.Chaining.{Follows}
use Rattle.index.proofs.chains.Layout.find.Given as goal

abbrev pub invariant-loop-x : goal.invariant-loop-x
invariant-loop-x l =
    Follows l.store l.r l.fn.self.n l.m l.top l.x

abbrev pub decreases-loop-x : goal.decreases-loop-x
decreases-loop-x l =
    l.x
