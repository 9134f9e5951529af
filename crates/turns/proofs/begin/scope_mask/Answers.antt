-- `begin::scope_mask` meets its contract. Assumes nothing.
use native.Mathlib.Omega.{arith}
use Rattle.checks.specs.Good.{number}
use Rattle.turns.proofs.begin.scope_mask.Goals as goal

pub returns : goal.returns
unfolding number
returns c = omega (arith, c.word-2.ensures, c.word.ensures)
