-- `marshtrundle::exported::marshtrundle_free_variables` meets its contract: the numbers are those of `free_variables`, each at its place. Assumes nothing.
use Rattle.marshtrundle.proofs.exported.marshtrundle_free_variables.Goals as goal

pub returns : goal.returns
returns c = rw c.three_numbers.ensures c.free_variables.ensures
