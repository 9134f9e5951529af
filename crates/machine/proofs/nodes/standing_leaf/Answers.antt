-- `nodes::standing_leaf` meets its contract. Assumes nothing.
use mathlib.Core.Path.{ap, ◌∙◌}
use Rattle.meaning.specs.Shared.{node_with}
use Rattle.machine.proofs.nodes.standing_leaf.Goals as goal

pub returns : goal.returns
returns c =
    c.standing.ensures ∙ ap (λ r. node_with c.args.store.now r c.args.mark) c.padded.ensures
