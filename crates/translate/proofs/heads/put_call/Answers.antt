-- `translate::heads::put_call` meets its contract, row by row. Assumes nothing.
use Rattle.translate.proofs.Placing.{placed_one, placed_on, seq-row, call-row, match-row}
use Rattle.translate.proofs.heads.put_call.Goals as goal

pub returns : goal.returns
returns c =
    placed_on 2 (placed_on 1 (placed_one _ _ c.put_row.ensures seq-row) _ _ c.put_row-2.ensures (call-row c.args.x)) _ _ c.put_row-3.ensures match-row
