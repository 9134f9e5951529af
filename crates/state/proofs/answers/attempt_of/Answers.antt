-- `answers::attempt_of` meets its contract: what `answer_of` ensures, at each of its answers. Assumes nothing.
use Rattle.state.specs.Answers.{attempt_of}
use Rattle.state.proofs.answers.attempt_of.Goals as goal

pub returns-in-Done : goal.returns-in-Done
unfolding attempt_of
returns-in-Done c = rw (← c.in-Done.ensures)

pub returns-in-Failed : goal.returns-in-Failed
unfolding attempt_of
returns-in-Failed c = rw (← c.in-Failed.ensures)

pub returns-in-Cut : goal.returns-in-Cut
unfolding attempt_of
returns-in-Cut c = rw (← c.in-Cut.ensures)
