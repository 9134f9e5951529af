-- A bad line, one that may not come next, a line taken in, and the end.
use Rattle.std.proofs.Common.{arith, ◌≡◌, true, false, Option, Some, None, ap, sym}
use Rattle.std.specs.Option.{is_some}
use Rattle.job.specs.Held.{line_taken, section_of}
use Rattle.job.specs.declared.Line.{Line}
use Rattle.job.specs.declared.Name.{Name}
use Rattle.job.specs.declared.Name.TheVariants.{Job, Entry, Node, Binding}
use Rattle.job.proofs.Named.{name-most, found}
use Rattle.job.proofs.Readings.{stopped, finished}
use Rattle.job.proofs.Going.{goes_none, goes-all, goes-bad, goes-refused, line-sound, entry-asks, node-asks, binding-asks, heading-asks, goes_on}
use Rattle.job.proofs.read.read_lines.Goals as goal

-- Before line 1 there is no last name, and after it there is one.
none-section : (o : Option Name) → is_some o ≡ false → section_of o ≡ 0
none-section None e = omega arith
none-section (Some k) e = cc

some-section : (o : Option Name) → is_some o ≡ true → section_of o ≡ 0 → ⊥
some-section None e z = absurd (false-true e)
  where
    false-true : false ≡ true → ⊥
    false-true e = cc
some-section (Some Job) e z = omega arith
some-section (Some Entry) e z = omega arith
some-section (Some Node) e z = omega arith
some-section (Some Binding) e z = omega arith

pub returns-in_default : goal.returns-in_default
returns-in_default c =
    let e : (line_taken c.line_at-taken.result.line c.line_at-taken.result.next).name ≡ 4 =
    ap (λ (o : Option Line). (line_taken o c.line_at-taken.result.next).name) c.in_default.is in
    stopped _ _ _ _ _ (goes-bad c.loop-at.invariant c.line_at-taken.ensures c.loop-at-test.true (omega arith))

pub returns-then-not-admits : goal.returns-then-not-admits
returns-then-not-admits c =
    stopped _ _ _ _ _
    (goes-refused c.loop-at.invariant (found c.line_at-taken.result.next c.in-Some.is c.line_at-taken.ensures) c.loop-at-test.true
    (name-most c.in-Some.line.name) (sym c.if-not-admits.ensures))

pub put_line-requires-clause-table : goal.put_line-requires-clause-table
put_line-requires-clause-table c =
    entry-asks c.loop-at.invariant (found c.line_at-taken.result.next c.in-Some.is c.line_at-taken.ensures) (name-most c.in-Some.line.name) (sym c.if-not-admits.ensures)

pub put_line-requires-clause-store : goal.put_line-requires-clause-store
put_line-requires-clause-store c =
    node-asks c.loop-at.invariant (found c.line_at-taken.result.next c.in-Some.is c.line_at-taken.ensures) (name-most c.in-Some.line.name) (sym c.if-not-admits.ensures)

pub put_line-requires-clause-bindings : goal.put_line-requires-clause-bindings
put_line-requires-clause-bindings c =
    binding-asks c.loop-at.invariant (found c.line_at-taken.result.next c.in-Some.is c.line_at-taken.ensures) (name-most c.in-Some.line.name)

pub advanced-h-requires : goal.advanced-h-requires
advanced-h-requires c =
    heading-asks c.loop-at.invariant (found c.line_at-taken.result.next c.in-Some.is c.line_at-taken.ensures) (name-most c.in-Some.line.name)

pub loop-at-smaller : goal.loop-at-smaller
loop-at-smaller c =
    let h = line-sound c.loop-at.invariant (found c.line_at-taken.result.next c.in-Some.is c.line_at-taken.ensures) (name-most c.in-Some.line.name) in
    omega (arith, h.on, h.within)

pub loop-at-preserved : goal.loop-at-preserved
loop-at-preserved c =
    goes_on c.loop-at.invariant (found c.line_at-taken.result.next c.in-Some.is c.line_at-taken.ensures) (name-most c.in-Some.line.name)
    (sym c.if-not-admits.ensures) c.loop-at-test.true
    c.advanced-h.ensures c.put_line.ensures.table c.put_line.ensures.store c.put_line.ensures.bindings
    c.put_line.auto.table c.put_line.auto.store c.put_line.auto.bindings

pub returns-then-is_none : goal.returns-then-is_none
returns-then-is_none c =
    stopped _ _ _ _ _ (goes_none c.loop-at.invariant c.loop-at-test.false (none-section c.loop-at.h.last c.if-is_none.ensures))

pub returns : goal.returns
returns c = finished _ _ (goes-all c.loop-at.invariant c.loop-at-test.false (some-section c.loop-at.h.last c.if-is_none.ensures))
