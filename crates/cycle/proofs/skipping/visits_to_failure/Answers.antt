-- `skipping::visits_to_failure` meets its contract: what the table tells of the first operand, where constructor or count differ and
-- four units and four levels of nesting are left. Assumes nothing.
use mathlib.Core.Path.{sym, ◌∙◌}
use native.Mathlib.Omega.{arith}
use Rattle.cycle.proofs.Failing.{skips-hint}
use Rattle.cycle.proofs.skipping.visits_to_failure.Goals as goal

pub agree-requires : goal.agree-requires
agree-requires c = (rw c.entry.ensures c.requires.2, c.requires.4)

pub returns : goal.returns
returns c =
    skips-hint c.requires.0 c.requires.1 c.requires.3 c.entry-n.ensures c.if-n-eq0.false c.entry.ensures
    (sym c.agree.ensures ∙ c.if-agree.false) (omega (arith, c.if-d-lt4.false)) (omega (arith, c.if-s-lt4.false))
