-- `marshtrundle::exported::marshtrundle_write_rule` meets its contract: the numbers are those of `write_rule`, each at its place. Assumes nothing.
use Rattle.marshtrundle.proofs.exported.marshtrundle_write_rule.Goals as goal

pub returns : goal.returns
returns c = rw c.three_numbers.ensures c.write_rule.ensures
