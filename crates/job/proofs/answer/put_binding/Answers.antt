-- `job::answer::put_binding` meets its contract: nothing, or the letter and the rest. Assumes nothing.
use Rattle.std.proofs.Common.{arith}
use Rattle.text.proofs.Put.{put-none, put-more}
use Rattle.job.proofs.Answers.{written-unbound, written-bound}
use Rattle.job.proofs.answer.put_binding.Goals as goal

pub returns-then-w-eq0 : goal.returns-then-w-eq0
returns-then-w-eq0 c = rw (written-unbound c.args.bindings.now c.args.v c.if-w-eq0.true) (put-none c.args.buf.now c.args.at)

pub returns : goal.returns
returns c =
    rw (written-bound c.args.bindings.now c.args.v c.if-w-eq0.false) (put-more (omega arith) c.put_byte-end.ensures c.put_rest.ensures)
