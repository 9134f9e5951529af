-- `checks::kinds::sort_of` meets its contract: the arms are the definition's cases. Assumes nothing.
use native.Mathlib.Omega.{arith}
use borrow.Author.Tests.{le-leb, lt-leb}
use Rattle.checks.specs.Kinds.{sort_of}
use Rattle.checks.proofs.kinds.sort_of.Goals as goal

pub returns-in-0-to-17 : goal.returns-in-0-to-17
unfolding sort_of
returns-in-0-to-17 c = rw (le-leb c.args.k 17 (omega arith))

pub returns-in-18-to-19 : goal.returns-in-18-to-19
unfolding sort_of
returns-in-18-to-19 c =
    rw (lt-leb c.args.k 17 (omega arith), le-leb c.args.k 19 (omega arith))

pub returns-in_default : goal.returns-in_default
unfolding sort_of
returns-in_default c =
    rw (lt-leb c.args.k 17 (omega arith), lt-leb c.args.k 19 (omega arith))
