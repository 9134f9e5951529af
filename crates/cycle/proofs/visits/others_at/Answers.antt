-- `others_at` writes a child after the second into its word. Assumes nothing.
use borrow.Author.Tests.{lt-ltb, le-ltb}
use Rattle.cycle.proofs.visits.others_at.Goals as goal

pub returns-then-i-lt2 : goal.returns-then-i-lt2
returns-then-i-lt2 c = rw (lt-ltb _ _ c.if-i-lt2.true)

pub returns : goal.returns
returns c = rw (le-ltb _ 2 c.if-i-lt2.false)
