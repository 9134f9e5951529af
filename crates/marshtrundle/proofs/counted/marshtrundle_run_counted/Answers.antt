-- `marshtrundle::counted::marshtrundle_run_counted` meets its contract: the seven numbers are those of `run_counted`. Assumes nothing.
use Rattle.marshtrundle.proofs.Numbers.{as-numbers}
use Rattle.marshtrundle.proofs.counted.marshtrundle_run_counted.Goals as goal

pub returns : goal.returns
returns c = as-numbers c.seven_numbers.ensures c.run_counted-r.ensures
