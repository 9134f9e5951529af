-- `nodes::standing_row` meets its contract. Assumes nothing.
use mathlib.Core.Path.{ap, ◌∙◌}
use lib.ListN.{get_or}
use Rattle.meaning.specs.Store.{row}
use Rattle.meaning.specs.Shared.{node_with}
use Rattle.turns.specs.Ways.{kids}
use Rattle.machine.proofs.nodes.standing_row.Goals as goal

pub returns : goal.returns
returns c =
    c.standing.ensures
    ∙ ap (λ r. node_with c.args.store.now r c.args.mark)
    (c.padded.ensures ∙ ap (λ r. row (get_or r 0 0) (kids r)) c.row_inside.ensures)
