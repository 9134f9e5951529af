-- `marshtrundle::shared::marshtrundle_run_many_indexed_signed` meets its contract: the numbers are those of `run_many_indexed`, each at its place. Assumes nothing.
use Rattle.marshtrundle.proofs.shared.marshtrundle_run_many_indexed_signed.Goals as goal

pub returns : goal.returns
returns c = rw c.numbers_of.ensures c.run_many_indexed-r.ensures
