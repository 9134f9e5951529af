-- `record::put_variable` meets its contract: the variable's node is set, and then its bit. Assumes nothing.
use Rattle.state.proofs.Holding.{further, set-bound}
use Rattle.state.proofs.record.put_variable.Goals as goal

pub returns : goal.returns
returns c = rw (c.put_mask.ensures, c.mask_of.ensures) (set-bound further _ _ _ c.requires)
