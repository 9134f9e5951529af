-- The rest of the conditions decides. Assumes nothing.
use mathlib.Core.Path.{◌≡◌}
use Rattle.check_rules.proofs.Calling.{Calls}
use Rattle.check_rules.specs.Line.{callable}
use Rattle.check_rules.proofs.line.calls.Given as goal

abbrev pub invariant-loop-c : goal.invariant-loop-c
invariant-loop-c l = (l.c-iterator.line ≡ l.rule.line) × Calls (callable l.table l.masks l.used) l.rule.line.now l.c-iterator.at
