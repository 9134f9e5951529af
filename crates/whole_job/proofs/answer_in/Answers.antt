-- `whole_job::answer_in` meets its contract: a bad line, or a job of which as much is lent as was read. Assumes nothing.
use Rattle.std.proofs.Common.{arith, refl, sym}
use lib.ListN.{length-take}
use lib.Seq.{length-take-le}
use Rattle.whole_job.proofs.Answering.{put-good, put-bad, read-bad, read-good, read-sized}
use Rattle.whole_job.proofs.answer_in.Goals as goal

pub slice_bounds-answer_run-end : goal.slice_bounds-answer_run-end
slice_bounds-answer_run-end c = let z = read-sized c.args.text.now c.in-Ok.ensures refl in omega (arith, z.entries, z.table)

pub slice_bounds-answer_run-end-in-Ok : goal.slice_bounds-answer_run-end-in-Ok
slice_bounds-answer_run-end-in-Ok c =
    let z = read-sized c.args.text.now c.in-Ok.ensures refl in sym (length-take-le _ _ (omega (arith, z.entries, z.table)))

pub slice_bounds-answer_run-end-in-Ok-2 : goal.slice_bounds-answer_run-end-in-Ok-2
slice_bounds-answer_run-end-in-Ok-2 c = let z = read-sized c.args.text.now c.in-Ok.ensures refl in omega (arith, z.room, z.store)

pub slice_bounds-answer_run-end-in-Ok-3 : goal.slice_bounds-answer_run-end-in-Ok-3
slice_bounds-answer_run-end-in-Ok-3 c =
    let z = read-sized c.args.text.now c.in-Ok.ensures refl in sym (length-take-le _ _ (omega (arith, z.room, z.store)))

pub answer_run-requires : goal.answer_run-requires
answer_run-requires c =
    let z = read-sized c.args.text.now c.in-Ok.ensures refl in (c.requires.3, simp length-take (omega (arith, z.store)), z.bindings, z.nodes)

pub returns-in-Err : goal.returns-in-Err
returns-in-Err c = put-bad c.args.text.now _ _ (read-bad c.args.text.now c.in-Err.ensures refl) c.answer.ensures

pub returns-in-Ok : goal.returns-in-Ok
returns-in-Ok c = put-good c.args.text.now (read-good c.args.text.now c.in-Ok.ensures refl) c.answer_run.ensures
