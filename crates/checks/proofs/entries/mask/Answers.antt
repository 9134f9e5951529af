-- `checks::entries::mask` meets its contract: two words, the low one first. Assumes nothing.
use Rattle.checks.specs.Good.{number}
use Rattle.checks.proofs.entries.mask.Goals as goal

pub returns : goal.returns
unfolding number
returns c = rw (c.word-low.ensures, c.word-high.ensures)
