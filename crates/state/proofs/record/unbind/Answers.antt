-- `record::unbind` meets its contract: the mask loses those of its variables. Assumes nothing.
use Rattle.state.specs.Record.{without_by}
use Rattle.state.proofs.record.unbind.Goals as goal

pub returns : goal.returns
unfolding without_by
returns c = rw (c.put_mask.ensures, c.mask_of.ensures)
