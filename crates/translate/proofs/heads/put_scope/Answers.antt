-- `translate::heads::put_scope` meets its contract. Assumes nothing.
use Rattle.translate.proofs.Placing.{scope-placed}
use Rattle.translate.proofs.heads.put_scope.Goals as goal

pub returns : goal.returns
returns c =
    scope-placed c.args.mask c.put_row.ensures
