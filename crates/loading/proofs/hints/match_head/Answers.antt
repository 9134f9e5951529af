-- `hints::match_head` meets its contract: a MATCH of a PCON.
use mathlib.Core.Path.{sym, ◌∙◌}
use Rattle.loading.proofs.Hinting.{found-match}
use Rattle.loading.proofs.hints.match_head.Goals as goal

pub returns : goal.returns
returns c =
    found-match (sym c.kind_of.ensures ∙ c.if-kind_of-ne-MATCH.false)
    c.word-entry.ensures (sym c.kind_of-2.ensures ∙ c.if-kind_of-ne-PCON.false)
