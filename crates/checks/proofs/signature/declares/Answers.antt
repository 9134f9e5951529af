-- `checks::signature::declares` meets its contract: the count, then the word. Assumes nothing.
use Rattle.std.proofs.Common.{rules, arith}
use Rattle.std.proofs.lemmas.Bool.Decides.{nat_tests}
use Rattle.checks.specs.Signature.{declares}
use Rattle.checks.proofs.signature.declares.Goals as goal

pub returns-then-n-le6 : goal.returns-then-n-le6
unfolding declares
returns-then-n-le6 c = let a = c.get.ensures.lookup.1 in search rules

pub returns-else-n-le6 : goal.returns-else-n-le6
unfolding declares
returns-else-n-le6 c = grind (arith, nat_tests)
