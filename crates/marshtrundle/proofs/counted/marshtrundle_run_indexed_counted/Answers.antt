-- `marshtrundle::counted::marshtrundle_run_indexed_counted` meets its contract: the seven numbers are those of `run_indexed_counted`. Assumes nothing.
use Rattle.marshtrundle.proofs.Numbers.{as-numbers-indexed}
use Rattle.marshtrundle.proofs.counted.marshtrundle_run_indexed_counted.Goals as goal

pub returns : goal.returns
returns c = as-numbers-indexed c.seven_numbers.ensures c.run_indexed_counted-r.ensures
