-- The fields that are done are fine. Assumes nothing.
use Rattle.rules.specs.Scan.{fields_from}
use Rattle.rules.specs.Walk.{begun, fields_left}
use Rattle.check_rules.proofs.Passing.{Using}
use Rattle.check_rules.proofs.far.any_early.Given as goal

abbrev pub invariant-loop-field : goal.invariant-loop-field
invariant-loop-field l =
    Using l.rule.line.now l.low l.below l.tree.keys (begun (fields_from l.rule.line.now l.from) l.from l.to) (fields_left l.field-iterator)
