use native.Mathlib.Nat.{sub-zero}
use native.Mathlib.Omega.{arith}
use borrow.Author.Tests.{lt-leb, le-leb}
use Rattle.words.proofs.Tests.{every-turn, every-stop, every-end}
use Rattle.counting.specs.Counted.{has_room}
use Rattle.counting.proofs.has_room.Goals as goal

pub loop-j-init : goal.loop-j-init
loop-j-init c = (omega arith, rw sub-zero)

pub returns-then-counts-x-gt-HIGHEST : goal.returns-then-counts-x-gt-HIGHEST
unfolding has_room
returns-then-counts-x-gt-HIGHEST c = every-stop _ _ _ _ c.loop-j.invariant.1 c.loop-j-test.true (lt-leb _ _ c.if-counts-x-gt-HIGHEST.true)

pub loop-j-preserved : goal.loop-j-preserved
loop-j-preserved c = (
  omega (arith, c.loop-j-test.true),
  every-turn _ _ _ _ c.loop-j.invariant.1 c.loop-j-test.true (le-leb _ _ c.if-counts-x-gt-HIGHEST.false),
)

pub returns : goal.returns
unfolding has_room
returns c = every-end _ _ _ _ c.loop-j.invariant.1 c.loop-j-test.false
