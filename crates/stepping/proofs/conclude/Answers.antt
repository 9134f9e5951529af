-- `conclude` meets its contract. Assumes nothing.
use Rattle.std.proofs.Common.{refl, ap, arith, rules}
use Rattle.stepping.specs.declared.own.Given.{Given}
use Rattle.stepping.specs.Ended.{deepest, used-up, paused, done, failed, full, stuck}
use Rattle.stepping.proofs.Concluding.{past-six, paused-with}
use Rattle.stepping.proofs.conclude.Goals as goal

pub returns-then-m-stop : goal.returns-then-m-stop
returns-then-m-stop c = deepest c.if-m-lt-SUCCEEDED.true c.if-m-stop.true refl c.end_run.ensures

pub returns-then-had-visits : goal.returns-then-had-visits
returns-then-had-visits c = used-up c.if-m-lt-SUCCEEDED.true c.if-m-stop.false c.if-had-visits.true
    refl c.end_run-then-had-visits.ensures

pub returns-then-m-lt-SUCCEEDED : goal.returns-then-m-lt-SUCCEEDED
returns-then-m-lt-SUCCEEDED c =
    let e = c.read-g.ensures in
    paused c.if-m-lt-SUCCEEDED.true c.if-m-stop.false (omega (arith, c.if-had-visits.false))
    (paused-with _ _ _ _ _ _ _ _ _ (ap (λ (g : Given). g.units) e) (ap (λ (g : Given). g.subject) e) (ap (λ (g : Given). g.mark) e)
    (search rules) (search rules) c.save.ensures)

pub returns-in-4 : goal.returns-in-4
returns-in-4 c = done c.in-4.is c.finish.ensures

pub returns-in-5 : goal.returns-in-5
returns-in-5 c = failed c.in-5.is refl c.end_run-in-5.ensures

pub returns-in-6 : goal.returns-in-6
returns-in-6 c = full c.in-6.is refl c.end_run-in-6.ensures

pub returns-in_default : goal.returns-in_default
returns-in_default c =
    let none = c.in_default.in_default-own.rest in
    stuck (past-six _ (omega (arith, c.if-m-lt-SUCCEEDED.false)) none.0.0.1 none.0.1 none.1) refl c.end_run-in_default.ensures
