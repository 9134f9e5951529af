-- `chains::Layout::link` meets its contract. Assumes nothing.
use Rattle.std.proofs.Common.{rules}
use Rattle.index.specs.Chains.{linked}
use Rattle.index.proofs.chains.Layout.link.Goals as goal

pub returns : goal.returns
unfolding linked
returns c = rw (← c.home_of-p.ensures.is) (search rules)
