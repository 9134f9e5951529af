-- `checks::signature::node_obeys` meets its contract. Assumes nothing.
use Rattle.checks.specs.Signature.{node_obeys}
use Rattle.checks.proofs.signature.node_obeys.Goals as goal

pub returns : goal.returns
unfolding node_obeys
returns c = rw (← c.word.ensures, ← c.word-2.ensures) c.declares.ensures
