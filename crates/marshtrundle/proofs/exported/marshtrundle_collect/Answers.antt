-- `marshtrundle::exported::marshtrundle_collect` meets its contract: the numbers are those of `collect`, each at its place. Assumes nothing.
use Rattle.marshtrundle.proofs.exported.marshtrundle_collect.Goals as goal

pub returns : goal.returns
returns c = rw c.four_numbers.ensures c.collect.ensures
