-- `run_accepted` meets its contract: the engine's answer, read, is the run's end.
use Rattle.meaning.specs.Derivation.{nowhere}
use Rattle.running.proofs.Whole.{ready-missing, done-left, done-ends, failed-left, failed_ends, cut_left, cut-ends}
use Rattle.running.proofs.run_accepted.Goals as goal

pub apply-got-requires : goal.apply-got-requires
apply-got-requires c = rw c.done.ensures (ready-missing c.args.st.now nowhere c.requires)

pub overflow_sub-result : goal.overflow_sub-result
overflow_sub-result c =
    done-left c.args.code.now c.args.store.now c.args.st.now _ _ _ c.ranges.units.fits _ _ c.done.ensures c.requires
    _ _ c.apply-got.ensures _ c.answer_of.ensures _ _ c.in-Done.is

pub overflow_sub-result-in-Failed : goal.overflow_sub-result-in-Failed
overflow_sub-result-in-Failed c =
    failed-left c.args.code.now c.args.store.now c.args.st.now _ _ _ c.ranges.units.fits _ _ c.done.ensures c.requires
    _ _ c.apply-got.ensures _ c.answer_of.ensures _ c.in-Failed.is

pub overflow_sub-result-in-Cut : goal.overflow_sub-result-in-Cut
overflow_sub-result-in-Cut c =
    cut_left c.args.code.now c.args.store.now c.args.st.now _ _ _ c.ranges.units.fits _ _ c.done.ensures c.requires
    _ _ c.apply-got.ensures _ c.answer_of.ensures _ c.in-Cut.is

pub returns-in-Done : goal.returns-in-Done
returns-in-Done c =
    done-ends c.args.code.now c.args.store.now c.args.st.now _ _ _ c.ranges.units.fits _ _ c.done.ensures c.requires
    _ _ c.apply-got.ensures _ c.answer_of.ensures _ _ c.in-Done.is

pub returns-in-Failed : goal.returns-in-Failed
returns-in-Failed c =
    failed_ends c.args.code.now c.args.store.now c.args.st.now _ _ _ c.ranges.units.fits _ _ c.done.ensures c.requires
    _ _ c.apply-got.ensures _ c.answer_of.ensures _ c.in-Failed.is

pub returns-in-Cut : goal.returns-in-Cut
returns-in-Cut c =
    cut-ends c.args.code.now c.args.store.now c.args.st.now _ _ _ c.ranges.units.fits _ _ c.done.ensures c.requires
    _ _ c.apply-got.ensures _ c.answer_of.ensures _ c.in-Cut.is c.cut_end.ensures.answer c.cut_end.ensures.place
