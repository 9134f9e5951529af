-- `nodes::standing` meets its contract. The invariant: of the nodes from k up to the mark none has the words. Assumes nothing.
use mathlib.Core.Path.{◌≡◌}
use Rattle.meaning.specs.Shared.{node_with}
use Rattle.machine.proofs.nodes.standing.Given as goal

abbrev pub invariant-loop-k : goal.invariant-loop-k
invariant-loop-k l =
    node_with l.store l.row l.mark ≡ node_with l.store l.row l.k
