-- `translate::heads::open_condition` meets its contract, row by row. Assumes nothing.
use Rattle.translate.proofs.Placing.{placed_one, placed_on, seq-row, where-row, build-row}
use Rattle.translate.proofs.heads.open_condition.Goals as goal

pub returns : goal.returns
returns c =
    placed_on 3 (placed_on 2 (placed_on 1 (placed_one _ _ c.put_row.ensures seq-row) _ _ c.put_row-2.ensures where-row) _ _
    c.put_row-3.ensures seq-row) _ _ c.put_row-4.ensures build-row
