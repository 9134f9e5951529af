-- `marshtrundle::stepped::marshtrundle_start_signed` meets its contract: the numbers are those of `start_run`, each at its place. Assumes nothing.
use Rattle.marshtrundle.proofs.stepped.marshtrundle_start_signed.Goals as goal

pub returns : goal.returns
returns c = rw c.five_numbers.ensures c.start_run-r.ensures
