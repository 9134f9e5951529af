-- `entry_ahead` reads the entry after the visits. Assumes nothing.
use borrow.Author.Tests.{eq-eqb, ne_eqb}
use Rattle.cycle.proofs.visits.entry_ahead.Goals as goal

pub returns-then-ahead-eq0 : goal.returns-then-ahead-eq0
returns-then-ahead-eq0 c = rw (eq-eqb _ _ c.if-ahead-eq0.true) c.entry.ensures

pub returns : goal.returns
returns c = rw (ne_eqb _ _ c.if-ahead-eq0.false) c.entry-2.ensures
