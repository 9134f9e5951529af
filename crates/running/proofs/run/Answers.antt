-- `run` meets its contract: refused, or the end of an accepted run with the store cleared and the bindings written.
use mathlib.Core.Path.{refl, ap, ◌∙◌}
use native.Mathlib.Omega.{arith}
use Rattle.calls.specs.Outcome.{end_number, ran_of}
use Rattle.calls.specs.Run.{at_return}
use Rattle.std.proofs.lemmas.Result.{err_from_is_err_and}
use Rattle.running.proofs.Whole.{ready-plain, ended-plain, store-small, run-refused, accepted, run_ran, table_fits, is-done-end, bound-left, comes_back}
use Rattle.running.proofs.run.Goals as goal

pub returns-in_err-check_run : goal.returns-in_err-check_run
returns-in_err-check_run c =
    let p = err_from_is_err_and c.from_residual.result c.from_residual.ensures.1 in
    rw (p.1, p.2) (run-refused _ _ _ _ _ _ _ c.args.units _ c.in_err-check_run.ensures)

pub load-requires : goal.load-requires
load-requires c = (table_fits _ (accepted _ _ _ _ _ _ _ c.args.units c.in_ok-check_run.ensures), refl)

pub overflow_cast-nodes : goal.overflow_cast-nodes
overflow_cast-nodes c = omega (arith, store-small _ (accepted _ _ _ _ _ _ _ c.args.units c.in_ok-check_run.ensures))

pub opened-st-requires : goal.opened-st-requires
opened-st-requires c = let h = accepted _ _ _ _ _ _ _ c.args.units c.in_ok-check_run.ensures in h.bindings

pub run_accepted-r-requires : goal.run_accepted-r-requires
run_accepted-r-requires c =
    ready-plain (accepted _ _ _ _ _ _ _ c.args.units c.in_ok-check_run.ensures) c.load.ensures refl c.opened-st.ensures c.ranges.units.fits

-- the store is cleared from the returned mark on, and the bindings come back: the record's where the run is done, else those given

pub closed-requires : goal.closed-requires
closed-requires c =
    let h = accepted _ _ _ _ _ _ _ c.args.units c.in_ok-check_run.ensures in
    let e = ended-plain h c.load.ensures refl c.opened-st.ensures c.ranges.units.fits c.run_accepted-r.ensures in
    (h.bindings, bound-left 1 h e (ap end_number c.in-Done.is))

pub returns-in-Done : goal.returns-in-Done
returns-in-Done c =
    let h = accepted _ _ _ _ _ _ _ c.args.units c.in_ok-check_run.ensures in
    let e = ended-plain h c.load.ensures refl c.opened-st.ensures c.ranges.units.fits c.run_accepted-r.ensures in
    (λ z. at_return (ran_of c.run_accepted-r.result) (c.clear_from.ensures z) c.closed.new.bindings)
    ∙ comes_back 1 h e c.closed.new.bindings (λ z. c.closed.ensures) (λ n. absurd (n (ap end_number c.in-Done.is)))
    ∙ run_ran _ _ _ _ _ _ _ c.args.units c.in_ok-check_run.ensures

pub returns-in_default : goal.returns-in_default
returns-in_default c =
    let h = accepted _ _ _ _ _ _ _ c.args.units c.in_ok-check_run.ensures in
    let e = ended-plain h c.load.ensures refl c.opened-st.ensures c.ranges.units.fits c.run_accepted-r.ensures in
    (λ z. at_return (ran_of c.run_accepted-r.result) (c.clear_from.ensures z) c.args.bindings.now)
    ∙ comes_back 1 h e c.args.bindings.now (λ z. absurd (c.in_default.not-Done (is-done-end _ z))) (λ n. refl)
    ∙ run_ran _ _ _ _ _ _ _ c.args.units c.in_ok-check_run.ensures
