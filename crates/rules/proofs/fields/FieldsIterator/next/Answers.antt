-- The next field of a line is the first of those that are left. Assumes nothing.
use mathlib.Core.Path.{ap}
use lib.ListN.{length}
use native.Mathlib.Omega.{arith}
use Rattle.rules.specs.Scan.{fields_from}
use Rattle.rules.proofs.Scanning.{begun-end, begun-past, begun-here, end-within}
use Rattle.rules.proofs.fields.FieldsIterator.next.Goals as goal
use Rattle.rules.proofs.fields.FieldsIterator.next.Goals.{then-self-via-then-self, then-self-via-else-self+then-line-self, After-next_at-end}

pub returns-then-self-clause-steps : goal.returns-then-self-clause-steps
returns-then-self-clause-steps c =
    let s = c.args.self.now in
    elim c.then-self.branch [
      | then-self-via-then-self w ↦
          let e = begun-end (fields_from s.line.now s.at) s.at s.to w.if-self.true in (e, e)
      | then-self-via-else-self+then-line-self w ↦ let e = begun-past s.line.now s.at s.to w.if-line-self.true in (e, e)
    ]

pub slice_bounds-field-end : goal.slice_bounds-field-end
slice_bounds-field-end c =
    let s = c.args.self.now in
    let w = end-within s.line.now s.at c.next_at-end.result c.if-line-self.false c.next_at-end.ensures in
    omega (arith, w.0, w.1)

pub returns-clause-steps : goal.returns-clause-steps
returns-clause-steps c =
    let s = c.args.self.now in
    begun-here s.line.now s.at s.to c.next_at-end.result c.if-line-self.false c.next_at-end.ensures c.if-self.false

pub returns-clause-goes : goal.returns-clause-goes
returns-clause-goes c =
    let s = c.args.self.now in
    let e = begun-here s.line.now s.at s.to c.next_at-end.result c.if-line-self.false c.next_at-end.ensures c.if-self.false in
    record { on = λ _. (tt, tt, omega (arith, ap length e)); keeps = tt; rests = λ _. tt }
