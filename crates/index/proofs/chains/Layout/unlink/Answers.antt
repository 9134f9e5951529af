-- `chains::Layout::unlink` meets its contract. Assumes nothing.
use Rattle.std.proofs.Common.{rules}
use Rattle.index.specs.Chains.{unlinked}
use Rattle.index.proofs.chains.Layout.unlink.Goals as goal

pub returns : goal.returns
unfolding unlinked
returns c = rw (← c.home_of-p.ensures.is) (search rules)
