use mathlib.Core.Path.{ap, ◌∙◌}
use Rattle.rules.specs.Walk.{fields_left}
use Rattle.check_rules.proofs.Passing.{binding-begin, binding-on, binding-end}
use Rattle.check_rules.proofs.far.bind_all.Goals as goal

pub loop-field-init : goal.loop-field-init
loop-field-init c = binding-begin (ap fields_left c.into_iter-field-iterator.ensures.into_iter_gives ∙ c.between-field-items.ensures) _ _

pub loop-field-preserved : goal.loop-field-preserved
loop-field-preserved c = binding-on c.loop-field.invariant c.in-Some.ensures.steps c.bind-left.result _ c.bind-left.ensures.0 c.bind-left.ensures.1

pub returns : goal.returns
returns c = (c.loop-field.invariant.less, binding-end _ _ _ c.loop-field.invariant)
