-- `record::put_mask` meets its contract: the mask's words are written, the low one first. Assumes nothing.
use mathlib.Core.Path.{refl}
use Rattle.state.specs.Record.{parted}
use Rattle.state.proofs.record.put_mask.Goals as goal

pub returns : goal.returns
unfolding parted
returns c = refl
