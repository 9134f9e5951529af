-- Every new key is a variable of the fields. Assumes nothing.
use Rattle.rules.specs.Scan.{fields_from}
use Rattle.rules.specs.Walk.{begun, fields_left}
use Rattle.check_rules.proofs.Passing.{Binding}
use Rattle.check_rules.proofs.far.bind_all.Given as goal

abbrev pub invariant-loop-field : goal.invariant-loop-field
invariant-loop-field l = Binding (begun (fields_from l.line l.from) l.from l.to) (fields_left l.field-iterator) l.below l.left l.initial.tree.keys l.tree.keys
