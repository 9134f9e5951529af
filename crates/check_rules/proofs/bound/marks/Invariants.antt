-- What the fields that are left add to the mask is what all add. Assumes nothing.
use mathlib.Core.Path.{◌≡◌}
use Rattle.check_rules.specs.Bound.{marks_from}
use Rattle.rules.specs.Scan.{fields_from}
use Rattle.rules.specs.Walk.{fields_left}
use Rattle.check_rules.proofs.Binding.{marks_all}
use Rattle.check_rules.proofs.bound.marks.Given as goal

abbrev pub invariant-loop-field : goal.invariant-loop-field
invariant-loop-field l = marks_all l.base (fields_left l.field-iterator) l.mask ≡ marks_from l.base (fields_from l.line l.from) l.from l.to 0
