-- `marshtrundle::exported::marshtrundle_check_store` meets its contract: the numbers are those of `check_store`, each at its place. Assumes nothing.
use Rattle.marshtrundle.proofs.exported.marshtrundle_check_store.Goals as goal

pub returns : goal.returns
returns c = rw c.numbers_of.ensures c.check_store.ensures
