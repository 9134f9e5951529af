-- `marshtrundle::stepped::marshtrundle_step` meets its contract: the numbers are those of `step_run`, each at its place. Assumes nothing.
use Rattle.marshtrundle.proofs.stepped.marshtrundle_step.Goals as goal

pub returns : goal.returns
returns c = rw c.five_numbers.ensures c.step_run.ensures
