-- `reading::scope_mask` meets its contract: the words of the mask are read as one number, the low one first. Assumes nothing.
use native.Mathlib.Omega.{arith}
use Rattle.checks.specs.Good.{number}
use Rattle.state.proofs.reading.scope_mask.Goals as goal

pub returns : goal.returns
unfolding number
returns c = omega (arith, c.entry.ensures, c.entry-2.ensures)
