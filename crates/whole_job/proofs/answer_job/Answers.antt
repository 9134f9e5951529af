-- `whole_job::answer_job` meets its contract. Assumes nothing.
use borrow.Author.Rules.{rules}
use Rattle.whole_job.proofs.Answering.{put-answers}
use Rattle.whole_job.proofs.answer_job.Goals as goal

pub returns : goal.returns
returns c = put-answers c.answer_in.ensures
