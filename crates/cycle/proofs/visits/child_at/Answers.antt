-- `child_at` gives the new child at its own place, and else the old one. Assumes nothing.
use borrow.Author.Tests.{eq-eqb, ne_eqb}
use Rattle.cycle.proofs.visits.child_at.Goals as goal

pub returns-then-i-place : goal.returns-then-i-place
returns-then-i-place c = rw (eq-eqb _ _ c.if-i-place.true)

pub returns : goal.returns
returns c = rw (ne_eqb _ _ c.if-i-place.false)
