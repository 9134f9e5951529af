use Rattle.index.specs.Key.{mixed}
use Rattle.index.proofs.key.key.Goals as goal

pub returns : goal.returns
unfolding mixed
returns c = cc
