-- `translate::heads::put_condition` meets its contract, part by part. Assumes nothing.
use Rattle.translate.proofs.Placing.{found-long, placed-found}
use native.Mathlib.Omega.{arith}
use Rattle.std.specs.Prelude.{Ok}
use Rattle.rules.specs.Condition.{found_of}
use Rattle.translate.proofs.heads.put_condition.Goals as goal

pub open_condition-start-requires : goal.open_condition-start-requires
open_condition-start-requires c =
    (omega (arith, c.requires.0, found-long c.args.line.now (found_of (Ok c.args.c))), c.requires.1)

pub put_term-call-requires : goal.put_term-call-requires
put_term-call-requires c = (
  omega (arith, c.requires.0, found-long c.args.line.now (found_of (Ok c.args.c)), c.open_condition-start.ensures.place, c.open_condition-start.auto.table),
  omega
      (arith, c.requires.1, c.open_condition-start.auto.table),
)

pub put_call-outcome-requires : goal.put_call-outcome-requires
put_call-outcome-requires c = (
  omega (
    arith,
    c.requires.0,
    found-long c.args.line.now
        (found_of (Ok c.args.c)),
    c.open_condition-start.ensures.place,
    c.open_condition-start.auto.table,
    c.put_term-call.ensures.place,
    c.put_term-call.auto.table,
  ),
  omega (arith, c.requires.1, c.open_condition-start.auto.table, c.put_term-call.auto.table),
)

pub put_term-requires : goal.put_term-requires
put_term-requires c = (
  omega (
    arith,
    c.requires.0,
    found-long c.args.line.now
        (found_of (Ok c.args.c)),
    c.open_condition-start.ensures.place,
    c.open_condition-start.auto.table,
    c.put_term-call.ensures.place,
    c.put_term-call.auto.table,
    c.put_call-outcome.ensures.place,
    c.put_call-outcome.auto.table,
  ),
  omega
      (arith, c.requires.1, c.open_condition-start.auto.table, c.put_term-call.auto.table, c.put_call-outcome.auto.table),
)

pub returns : goal.returns
returns c =
    placed-found c.args.line.now (found_of (Ok c.args.c)) c.open_condition-start.ensures c.put_term-call.ensures c.put_call-outcome.ensures
    c.put_term.ensures
