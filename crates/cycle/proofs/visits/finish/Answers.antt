-- `finish` ends a walk as the kind, the successes and the children say. Assumes nothing.
use Rattle.cycle.proofs.Returning.{finish-failed, finish-some, finish-itself, finish-node}
use Rattle.cycle.proofs.visits.finish.Goals as goal

pub returns-then-not-won : goal.returns-then-not-won
returns-then-not-won c = finish-failed _ _ _ _ _ _ _ _ c.if-kind-eq-SOME.true c.if-not-won.true c.failure.ensures c.ranges.left.fits

pub returns-then-kind-eq-SOME : goal.returns-then-kind-eq-SOME
returns-then-kind-eq-SOME c = finish-some _ _ _ _ _ _ _ _ c.if-kind-eq-SOME.true c.if-not-won.false c.node.ensures

pub returns-then-n-eq0 : goal.returns-then-n-eq0
returns-then-n-eq0 c = finish-itself _ _ _ _ _ _ _ _ c.if-kind-eq-SOME.false c.if-n-eq0.true c.requires.2

pub returns : goal.returns
returns c = finish-node _ _ _ _ _ _ _ _ c.if-kind-eq-SOME.false c.if-n-eq0.false c.node-2.ensures
