-- `translate::heads::open_body` meets its contract, row by row. Assumes nothing.
use Rattle.translate.proofs.Placing.{placed_one, placed_on, seq-row, match-row}
use Rattle.translate.proofs.heads.open_body.Goals as goal

pub returns : goal.returns
returns c =
    placed_on 1 (placed_one _ _ c.put_row.ensures seq-row) _ _ c.put_row-2.ensures match-row
