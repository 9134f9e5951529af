-- `marshtrundle::exported::marshtrundle_run_many_signed` meets its contract: the numbers are those of `run_many`, each at its place. Assumes nothing.
use Rattle.marshtrundle.proofs.exported.marshtrundle_run_many_signed.Goals as goal

pub returns : goal.returns
returns c = rw c.numbers_of.ensures c.run_many-r.ensures
