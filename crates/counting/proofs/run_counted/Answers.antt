-- `run_counted` meets its contract. Assumes nothing.
use mathlib.Core.Path.{refl, ap, sym, ◌∙◌}
use native.Mathlib.Omega.{arith}
use Rattle.std.proofs.lemmas.Result.{err_from_is_err_and}
use Rattle.checks.specs.Checked.{Checked, checked}
use Rattle.checks.proofs.Numbers.{answer_ne0}
use Rattle.calls.specs.Refused.{lent_signature}
use Rattle.calls.specs.Run.{input}
use Rattle.counting.proofs.Refusing.{refused-length, before-counts, by-counts, not-refused, counted-refused, counted-run}
use Rattle.counting.proofs.Refusing.{counted-accepted, counts-room, entries-few}
use Rattle.counting.proofs.run_counted.Goals as goal

pub returns-then-counts-n : goal.returns-then-counts-n
returns-then-counts-n c = counted-refused _ _ _ (checked 2 0) (refused-length _ _ _ c.if-counts-n.true) (λ e. omega arith)

pub returns-in_err-check_run : goal.returns-in_err-check_run
returns-in_err-check_run c =
    let p = err_from_is_err_and c.from_residual.result c.from_residual.ensures.1 in
    rw (p.1, p.2) (counted-refused _ _ _ _ (before-counts _ _ c.if-counts-n.false c.in_err-check_run.ensures (answer_ne0 _)) (answer_ne0 _))

pub overflow_cast-n : goal.overflow_cast-n
overflow_cast-n c =
    let a = c.args in
    let i = input a.table.now a.store.now a.bindings.now a.mark a.start a.subject a.units in
    omega (arith, entries-few i (counted-accepted (lent_signature a.signature) i a.counts.now (checked 0 0) c.in_ok-check_run.ensures refl))

pub returns-in_err-check_counts : goal.returns-in_err-check_counts
returns-in_err-check_counts c =
    let p = err_from_is_err_and c.from_residual-in_err-check_counts.result c.from_residual-in_err-check_counts.ensures.1 in
    rw (p.1, p.2)
    (counted-refused _ _ _ _ (by-counts _ _ c.if-counts-n.false c.in_ok-check_run.ensures c.in_err-check_counts.ensures) (answer_ne0 _))

pub run_on-requires : goal.run_on-requires
run_on-requires c =
    let a = c.args in
    let i = input a.table.now a.store.now a.bindings.now a.mark a.start a.subject a.units in
    let good = counted-accepted (lent_signature a.signature) i a.counts.now (checked 0 0) c.in_ok-check_run.ensures refl in
    let fits = sym (ap (λ (c : Checked). c.answer) c.in_ok-check_counts.ensures) in
    (good, c.if-counts-n.false, counts-room i a.counts.now good c.if-counts-n.false fits)

pub returns : goal.returns
returns c =
    c.run_on.ensures
    ∙ counted-run _ _ _ (not-refused _ _ c.if-counts-n.false c.in_ok-check_run.ensures c.in_ok-check_counts.ensures)
