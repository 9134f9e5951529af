-- `job::answer::put_line` meets its contract. Assumes nothing.
use Rattle.std.proofs.Common.{arith}
use Rattle.text.proofs.Put.{put-more}
use Rattle.job.specs.Answer.{answer_line}
use Rattle.job.proofs.answer.put_line.Goals as goal

pub returns : goal.returns
unfolding answer_line
returns c = put-more (omega arith) c.put_name-end.ensures c.put_rest.ensures
