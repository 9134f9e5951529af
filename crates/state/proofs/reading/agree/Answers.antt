-- `reading::agree` meets its contract: the two tests, by what each callee ensures. Assumes nothing.
use borrow.Author.Tests.{eq-eqb, ne_eqb}
use Rattle.state.specs.Visits.{agreeing}
use Rattle.state.proofs.reading.agree.Goals as goal

pub returns-then-entry-node_word : goal.returns-then-entry-node_word
unfolding agreeing
returns-then-entry-node_word c = rw (
  ← c.entry.ensures,
  ← c.node_word.ensures,
  ← c.operands.ensures,
  ← c.count.ensures,
  eq-eqb _ _ c.if-entry-node_word.true,
)

pub returns-else-entry-node_word : goal.returns-else-entry-node_word
unfolding agreeing
returns-else-entry-node_word c = rw (← c.entry.ensures, ← c.node_word.ensures, ne_eqb _ _ c.if-entry-node_word.false)
