-- `start_run` meets its contract. Assumes nothing.
use Rattle.std.proofs.Common.{refl, arith}
use Rattle.std.proofs.lemmas.Result.{err_from_is_err_and}
use Rattle.checks.proofs.Numbers.{answer_ne0}
use Rattle.calls.specs.Refused.{lent_signature}
use Rattle.calls.specs.Run.{input}
use Rattle.stepping.proofs.Starting.{too_short, refused-by, passes, begun-with}
use Rattle.stepping.proofs.start_run.Goals as goal

pub returns-then-work-lt-WORK : goal.returns-then-work-lt-WORK
returns-then-work-lt-WORK c =
    let a = c.args in
    too_short (lent_signature a.signature)
    (input a.table.now a.store.now a.bindings.now a.mark a.start a.subject a.units) a.work.now c.if-work-lt-WORK.true

pub returns-in_err-check_run : goal.returns-in_err-check_run
returns-in_err-check_run c =
    let a = c.args in
    let p = err_from_is_err_and c.from_residual.result c.from_residual.ensures.1 in
    rw (p.1, p.2)
    (refused-by (lent_signature a.signature)
    (input a.table.now a.store.now a.bindings.now a.mark a.start a.subject a.units) a.work.now _
    (omega (arith, c.if-work-lt-WORK.false)) c.in_err-check_run.ensures (answer_ne0 _))

pub load_bindings-mask-requires : goal.load_bindings-mask-requires
load_bindings-mask-requires c =
    let a = c.args in (
      omega (arith, c.if-work-lt-WORK.false),
      (passes (lent_signature a.signature)
          (input a.table.now a.store.now a.bindings.now a.mark a.start a.subject a.units) a.work.now _ c.in_ok-check_run.ensures refl).bindings,
    )

pub returns : goal.returns
returns c =
    let a = c.args in
    begun-with (lent_signature a.signature)
    (input a.table.now a.store.now a.bindings.now a.mark a.start a.subject a.units) a.work.now _
    (omega (arith, c.if-work-lt-WORK.false)) c.in_ok-check_run.ensures refl _ _ _ c.load_bindings-mask.ensures c.save.ensures
