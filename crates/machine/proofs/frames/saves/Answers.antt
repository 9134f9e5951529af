-- `frames::saves` meets its contract. Assumes nothing.
use mathlib.Core.Path.{refl}
use native.Mathlib.Omega.{arith}
use borrow.Author.Tests.{lt-ltb, le-ltb}
use Rattle.machine.proofs.frames.saves.Goals as goal

pub returns-then-what-ge-TRIED : goal.returns-then-what-ge-TRIED
returns-then-what-ge-TRIED c = rw (lt-ltb 3 c.args.what (omega (arith, c.if-what-ge-TRIED.true))) refl

pub returns-else-what-ge-TRIED : goal.returns-else-what-ge-TRIED
returns-else-what-ge-TRIED c = rw (le-ltb 3 c.args.what (omega (arith, c.if-what-ge-TRIED.false))) refl
