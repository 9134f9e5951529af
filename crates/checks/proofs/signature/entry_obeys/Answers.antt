-- `checks::signature::entry_obeys` meets its contract: the kinds that name a constructor, and the others. Assumes nothing.
use Rattle.std.proofs.Common.{arith}
use Rattle.std.proofs.lemmas.Bool.Decides.{nat_tests}
use Rattle.checks.specs.Signature.{entry_obeys}
use Rattle.checks.proofs.signature.entry_obeys.Goals as goal

pub returns-in-10 : goal.returns-in-10
unfolding entry_obeys
returns-in-10 c = grind (arith, nat_tests)

pub returns-in_default : goal.returns-in_default
unfolding entry_obeys
returns-in_default c = grind (arith, nat_tests)
