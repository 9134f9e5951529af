-- `nodes::child` meets its contract. Assumes nothing.
use mathlib.Core.Path.{refl}
use borrow.Author.Tests.{lt-ltb, le-ltb}
use Rattle.machine.proofs.nodes.child.Goals as goal

pub returns-then-j-n : goal.returns-then-j-n
returns-then-j-n c = rw (lt-ltb _ _ c.if-j-n.true) refl

pub returns-else-j-n : goal.returns-else-j-n
returns-else-j-n c = rw (le-ltb _ _ c.if-j-n.false) refl
