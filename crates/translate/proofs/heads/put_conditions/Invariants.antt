-- `translate::heads::put_conditions` meets its contract. The loop's invariant: what is left to put after what was put is all. Assumes nothing.
use mathlib.Core.Path.{◌≡◌}
use Rattle.translate.proofs.Heading.{Heading}
use Rattle.translate.proofs.heads.put_conditions.Given as goal

abbrev pub invariant-loop-c : goal.invariant-loop-c
invariant-loop-c l = (l.c-iterator.line ≡ l.rule.line) × Heading l.rule.line.now l.first l.initial.table l.table l.e l.c-iterator.at
