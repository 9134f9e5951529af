-- `cases::numbers::Numbers::number` is safe and ends: each turn takes a byte. Assumes nothing.
use Rattle.std.proofs.Common.{length}
use Rattle.cases.proofs.numbers.Numbers.number.Given as goal

abbrev pub decreases-loop-b : goal.decreases-loop-b
decreases-loop-b l = length l.self.rest.now
