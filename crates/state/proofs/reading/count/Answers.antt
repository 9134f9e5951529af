-- `reading::count` meets its contract: a node that stands in the store has at most 6 children.
use mathlib.Core.Path.{◌∙◌}
use Rattle.state.proofs.Storing.{count-stored}
use Rattle.state.proofs.reading.count.Goals as goal

pub returns : goal.returns
returns c = c.node_word.ensures ∙ count-stored c.requires
