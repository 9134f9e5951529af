-- `cut_end` meets its contract, arm by arm. Assumes nothing.
use Rattle.running.proofs.Whole.{cut-twelve, cut-six, cut_seven, cut-eight, place-unbound, place-limit}
use native.Mathlib.Omega.{arith}
use Rattle.running.proofs.cut_end.Goals as goal

pub returns-then-t-lt-UNITS : goal.returns-then-t-lt-UNITS
returns-then-t-lt-UNITS c = record { answer = cut-twelve c.args.c c.if-t-lt-UNITS.true; place = place-unbound c.args.c c.if-t-lt-UNITS.true }

pub returns-in-3221225536 : goal.returns-in-3221225536
returns-in-3221225536 c = record { answer = cut-six c.args.c c.in-3221225536.is; place = place-limit c.args.c c.if-t-lt-UNITS.false }

pub returns-in-3221225537 : goal.returns-in-3221225537
returns-in-3221225537 c = record { answer = cut_seven c.args.c c.in-3221225537.is; place = place-limit c.args.c c.if-t-lt-UNITS.false }

pub returns-in_default-2 : goal.returns-in_default-2
returns-in_default-2 c = record { answer = cut-eight c.args.c c.if-t-lt-UNITS.false (λ z. omega arith) (λ z. omega arith); place = place-limit c.args.c c.if-t-lt-UNITS.false }
