-- `checks::signature::check_entries` meets its contract: the lowest entry that does not obey, or none. Assumes nothing.
use Rattle.std.proofs.Common.{ap, rules}
use Rattle.checks.specs.Checked.{found}
use Rattle.checks.specs.Signature.{entry_obeys, entries_checked}
use Rattle.checks.proofs.signature.check_entries.Goals as goal

pub returns-in-Some : goal.returns-in-Some
unfolding entries_checked
returns-in-Some c = ap (found 10) (c.in-Some.ensures (entry_obeys c.args.signature.now c.args.table.now) (λ k b l h. search rules))

pub returns-in-None : goal.returns-in-None
unfolding entries_checked
returns-in-None c = ap (found 10) (c.in-None.ensures (entry_obeys c.args.signature.now c.args.table.now) (λ k b l h. search rules))
