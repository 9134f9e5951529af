-- `marshtrundle::exported::marshtrundle_translate_rules` meets its contract: the numbers are those of `translate`, each at its place. Assumes nothing.
use Rattle.marshtrundle.proofs.exported.marshtrundle_translate_rules.Goals as goal

pub returns : goal.returns
returns c = rw c.four_numbers.ensures c.translate.ensures
