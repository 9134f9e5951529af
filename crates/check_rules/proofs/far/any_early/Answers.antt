use mathlib.Core.Path.{ap, ◌∙◌}
use Rattle.rules.specs.Walk.{fields_left}
use Rattle.check_rules.proofs.Lines.{known}
use Rattle.check_rules.proofs.Passing.{using-begin, using-early, using-on, using-end}
use Rattle.check_rules.proofs.far.any_early.Goals as goal

pub loop-field-init : goal.loop-field-init
loop-field-init c = using-begin (known c.args.rule.now) _ _ _ (ap fields_left c.into_iter-field-iterator.ensures.into_iter_gives ∙ c.between-field-items.ensures)

pub returns-then-early : goal.returns-then-early
returns-then-early c = using-early _ _ _ c.loop-field.invariant c.in-Some.ensures.steps c.early.result c.early.ensures c.if-early.true

pub loop-field-preserved : goal.loop-field-preserved
loop-field-preserved c = using-on _ _ _ c.loop-field.invariant c.in-Some.ensures.steps c.early.result c.early.ensures c.if-early.false

pub returns : goal.returns
returns c = using-end _ _ _ c.loop-field.invariant c.in-None.ensures.steps.0
