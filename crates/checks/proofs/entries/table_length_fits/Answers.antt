-- `checks::entries::table_length_fits` meets its contract, test by test. Assumes nothing.
use Rattle.std.proofs.Common.{arith}
use Rattle.std.proofs.lemmas.Bool.Decides.{nat_tests}
use Rattle.checks.specs.Checked.{table_length_fits}
use Rattle.checks.proofs.entries.table_length_fits.Goals as goal

pub returns-then-n-eq0 : goal.returns-then-n-eq0
unfolding table_length_fits
returns-then-n-eq0 c = grind (arith, nat_tests)

pub returns-else-n-eq0 : goal.returns-else-n-eq0
unfolding table_length_fits
returns-else-n-eq0 c = grind (arith, nat_tests)
