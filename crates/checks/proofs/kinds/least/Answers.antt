-- `checks::kinds::least` meets its contract, as the tables agree with document 01. Assumes nothing.
use Rattle.checks.proofs.Tables.{at-kind}
use Rattle.checks.proofs.kinds.least.Goals as goal

pub returns : goal.returns
returns c = (at-kind c.args.k c.requires).least
