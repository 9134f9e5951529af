-- `add` meets its contract. Assumes nothing.
use Rattle.std.proofs.Common.{arith}
use Rattle.tallying.proofs.Counting.{bump-inside, bump-outside}
use Rattle.tallying.proofs.add.Goals as goal

pub returns-then-i-counts : goal.returns-then-i-counts
returns-then-i-counts c = bump-inside c.args.counts.now c.args.e c.args.c c.if-i-counts.true

pub returns-else-i-counts : goal.returns-else-i-counts
returns-else-i-counts c = let l = c.if-i-counts.false in bump-outside _ _ _ (omega (arith, l))
