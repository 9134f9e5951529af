-- `record::mask_of` meets its contract: the mask's words are read as one number, the low one first. Assumes nothing.
use native.Mathlib.Omega.{arith}
use Rattle.checks.specs.Good.{number}
use Rattle.state.proofs.record.mask_of.Goals as goal

pub returns : goal.returns
unfolding number
returns c = omega (arith, c.word_at.ensures, c.word_at-2.ensures)
