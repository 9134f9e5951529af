-- `marshtrundle::exported::marshtrundle_check_table` meets its contract: the numbers are those of `check_table`, each at its place. Assumes nothing.
use Rattle.marshtrundle.proofs.exported.marshtrundle_check_table.Goals as goal

pub returns : goal.returns
returns c = rw c.numbers_of.ensures c.check_table.ensures
