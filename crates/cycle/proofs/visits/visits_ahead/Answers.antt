-- `visits_ahead` reads its number in the table, where the nesting is enough. Assumes nothing.
use native.Mathlib.Omega.{arith}
use Rattle.cycle.proofs.Ahead.{ahead_none, ahead-hint, one-of-three}
use Rattle.cycle.proofs.visits.visits_ahead.Goals as goal

pub returns-then-deep-lt2 : goal.returns-then-deep-lt2
returns-then-deep-lt2 c = ahead_none

pub returns-in-11-to-13 : goal.returns-in-11-to-13
returns-in-11-to-13 c =
    ahead-hint c.requires.0 c.requires.1
    (one-of-three _ _ c.kind.ensures (omega arith) (omega arith)) (omega (arith, c.if-deep-lt2.false))
    c.entry.ensures

pub returns-in_default : goal.returns-in_default
returns-in_default c = ahead_none
