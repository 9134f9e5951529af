-- `next_turn` meets its contract. Assumes nothing.
use native.Mathlib.Omega.{arith}
use Rattle.machine.specs.Machine.{counted, told}
use Rattle.machine.proofs.next_turn.Goals as goal

pub returns-else-m-gt-DEEPEST : goal.returns-else-m-gt-DEEPEST
returns-else-m-gt-DEEPEST c = counted c.if-m-lt-SUCCEEDED.true c.if-m-stop.false (omega (arith, c.if-m-gt-DEEPEST.false))

pub returns-else-m-eq0 : goal.returns-else-m-eq0
returns-else-m-eq0 c = told (omega (arith, c.if-m-lt-SUCCEEDED.false)) (omega (arith, c.if-m-gt-FAILED.false)) c.if-m-eq0.false
