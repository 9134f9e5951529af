use mathlib.Core.Path.{sym, ◌∙◌}
use Rattle.state.proofs.AnswerWords.{stopped-units, stopped-nesting}
use Rattle.state.proofs.answers.stopped.Goals as goal

pub returns-then-left-eq0 : goal.returns-then-left-eq0
returns-then-left-eq0 c = c.no_units.ensures ∙ sym (stopped-units _ c.if-left-eq0.true)

pub returns : goal.returns
returns c = c.no_nesting.ensures ∙ sym (stopped-nesting _ c.if-left-eq0.false)
