-- `own::save` meets its contract. Assumes nothing.
use Rattle.stepping.proofs.Saving.{saved_rows}
use Rattle.stepping.proofs.own.save.Goals as goal

pub returns : goal.returns
returns c = saved_rows _ _ _ _ _ _ _ c.requires.0 c.put_row.ensures c.put_row-2.ensures
