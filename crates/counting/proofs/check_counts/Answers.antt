-- `check_counts` meets its contract: the lowest entry with a count too high, or none. Assumes nothing.
use Rattle.std.proofs.Common.{ap, rules}
use Rattle.checks.specs.Checked.{found}
use Rattle.counting.specs.Counted.{has_room, counts_checked}
use Rattle.counting.proofs.check_counts.Goals as goal

pub returns-in-Some : goal.returns-in-Some
unfolding counts_checked
returns-in-Some c = ap (found 24) (c.in-Some.ensures (has_room c.args.counts.now) (λ k b l h. search rules))

pub returns-in-None : goal.returns-in-None
unfolding counts_checked
returns-in-None c = ap (found 24) (c.in-None.ensures (has_room c.args.counts.now) (λ k b l h. search rules))
