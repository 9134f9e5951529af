-- `marshtrundle::exported::marshtrundle_run` meets its contract: the numbers are those of `run`, each at its place. Assumes nothing.
use Rattle.marshtrundle.proofs.exported.marshtrundle_run.Goals as goal

pub returns : goal.returns
returns c = rw c.five_numbers.ensures c.run-ran.ensures
