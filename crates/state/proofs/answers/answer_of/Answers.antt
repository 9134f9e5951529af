-- `answers::answer_of` meets its contract: each return is the arm of `answer_of` that the tests before it name. Assumes nothing.
use borrow.Author.Tests.{lt-ltb, le-ltb}
use Prim.Native.Nat.{◌<◌}
use native.Mathlib.Omega.{arith}
use Rattle.state.specs.Answers.{node_in, cut_half, answer_of}
use Rattle.state.proofs.answers.answer_of.Goals as goal

pub returns-then-t-lt-FAILED : goal.returns-then-t-lt-FAILED
unfolding answer_of
returns-then-t-lt-FAILED c = rw (lt-ltb _ _ c.if-t-lt-FAILED.true)

pub returns-then-t-lt-CUT : goal.returns-then-t-lt-CUT
unfolding answer_of
returns-then-t-lt-CUT c = let l : node_in c.args.r < cut_half = omega (arith, c.if-t-lt-CUT.true) in rw
    (le-ltb _ _ c.if-t-lt-FAILED.false, lt-ltb _ _ l)

pub returns : goal.returns
unfolding answer_of
returns c = rw (le-ltb _ _ c.if-t-lt-FAILED.false, le-ltb _ _ c.if-t-lt-CUT.false)
