-- What was bound and the rest of the conditions decide. Assumes nothing.
use mathlib.Core.Path.{◌≡◌}
use Rattle.check_rules.proofs.Early.{Binds}
use Rattle.check_rules.proofs.bound.unbound.Given as goal

abbrev pub invariant-loop-c : goal.invariant-loop-c
invariant-loop-c l = (l.c-iterator.line ≡ l.rule.line) × Binds l.rule.line.now l.rule.right l.rule.conditions l.base l.c-iterator.at l.bound
