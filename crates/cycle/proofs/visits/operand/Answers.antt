-- `visits::operand` meets its contract: in CONG a word of the entry, by the test on the kind. Assumes nothing.
use borrow.Author.Tests.{eq-eqb, ne_eqb}
use Rattle.cycle.proofs.visits.operand.Goals as goal

pub returns-then-kind-eq-CONG : goal.returns-then-kind-eq-CONG
returns-then-kind-eq-CONG c = rw (eq-eqb _ _ c.if-kind-eq-CONG.true) c.entry.ensures

pub returns : goal.returns
returns c = rw (ne_eqb _ _ c.if-kind-eq-CONG.false)
