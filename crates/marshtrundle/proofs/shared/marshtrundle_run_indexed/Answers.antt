-- `marshtrundle::shared::marshtrundle_run_indexed` meets its contract: the numbers are those of `run_indexed`, each at its place. Assumes nothing.
use Rattle.marshtrundle.proofs.shared.marshtrundle_run_indexed.Goals as goal

pub returns : goal.returns
returns c = rw c.five_numbers.ensures c.run_indexed-r.ensures
