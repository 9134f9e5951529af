-- What is bound so far and the rest of the conditions decide. Assumes nothing.
use mathlib.Core.Path.{◌≡◌}
use Rattle.check_rules.proofs.Passing.{Passing}
use Rattle.check_rules.proofs.far.pass.Given as goal

abbrev pub invariant-loop-c : goal.invariant-loop-c
invariant-loop-c l = (l.c-iterator.line ≡ l.rule.line) × Passing l.rule.line.now l.rule.right l.rule.conditions l.low l.c-iterator.at l.below l.tree.keys
