-- `clear_list` meets its contract. Assumes nothing.
use Rattle.stepping.proofs.clear_list.Goals as goal

pub returns : goal.returns
returns c = c.clear_from.ensures
