-- The next condition of a line is the one that begins at the place. Assumes nothing.
use mathlib.Core.Path.{refl, subst}
use Rattle.rules.specs.Condition.{found_of, ConditionAt}
use Rattle.rules.proofs.Conditions.{was_ok}
use Rattle.rules.proofs.condition.ConditionsIterator.next.Goals as goal

pub returns-clause-steps : goal.returns-clause-steps
returns-clause-steps c = record {
  inside = c.if-self.false;
  found = subst (λ r. ConditionAt c.args.self.now.line.now c.args.self.now.at (found_of r)) (was_ok c.condition_at.result c.in_ok-c.c c.in_ok-c.ensures.value) c.condition_at.ensures;
  line = refl;
  place = refl;
}
