-- `translate::heads::put_build` meets its contract. Assumes nothing.
use Rattle.translate.proofs.Placing.{placed_one, build-row}
use Rattle.translate.proofs.heads.put_build.Goals as goal

pub returns : goal.returns
returns c =
    placed_one _ _ c.put_row.ensures build-row
