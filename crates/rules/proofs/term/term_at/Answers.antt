use mathlib.Core.Path.{◌≡◌, refl, ap, sym, ◌∙◌}
use Prim.Native.Nat.{ℕ, ◌+◌, ◌-◌}
use native.Mathlib.Omega.{arith}
use Rattle.rules.specs.Scan.{fields_from, scanned, term_told}
use Rattle.rules.proofs.Scanning.{end-within, scan-end, scan-past, count_past, scan-neither, scan-variable, scan-constructor}
use Rattle.rules.proofs.Scanning.{scan-bad-count, scan-count, constructor-long}
use Rattle.rules.proofs.term.term_at.Goals as goal

pub loop-wanted-init : goal.loop-wanted-init
loop-wanted-init c = (refl, omega arith, omega arith, omega arith)

pub returns-then-line-at : goal.returns-then-line-at
returns-then-line-at c =
    ap term_told (sym (scan-past c.args.line.now c.loop-wanted.at c.loop-wanted.wanted c.loop-wanted.fields c.loop-wanted.size
    c.if-line-at.true c.loop-wanted-test.true)
    ∙ c.loop-wanted.invariant.0)

pub slice_bounds-head_of-count : goal.slice_bounds-head_of-count
slice_bounds-head_of-count c =
    let h = end-within c.args.line.now c.loop-wanted.at c.next_at-end.result c.if-line-at.false c.next_at-end.ensures in
    omega arith

pub slice_bounds-head_of-start : goal.slice_bounds-head_of-start
slice_bounds-head_of-start c =
    let h = end-within c.args.line.now c.loop-wanted.at c.next_at-end.result c.if-line-at.false c.next_at-end.ensures in
    omega arith

pub slice_bounds-head_of-end : goal.slice_bounds-head_of-end
slice_bounds-head_of-end c =
    let h = end-within c.args.line.now c.loop-wanted.at c.next_at-end.result c.if-line-at.false c.next_at-end.ensures in
    omega arith

pub returns-in-None : goal.returns-in-None
returns-in-None c =
    ap term_told (sym (scan-neither c.args.line.now c.loop-wanted.at c.next_at-end.result c.if-line-at.false c.next_at-end.ensures c.loop-wanted.wanted
    c.loop-wanted.fields c.loop-wanted.size c.loop-wanted-test.true
    c.in-None.ensures) ∙ c.loop-wanted.invariant.0)

pub overflow_add-at : goal.overflow_add-at
overflow_add-at c =
    let h = end-within c.args.line.now c.loop-wanted.at c.next_at-end.result c.if-line-at.false c.next_at-end.ensures in
    omega arith

pub overflow_add-fields : goal.overflow_add-fields
overflow_add-fields c = omega arith

pub overflow_add-size : goal.overflow_add-size
overflow_add-size c = omega arith

pub overflow_sub-wanted : goal.overflow_sub-wanted
overflow_sub-wanted c = omega arith

pub loop-wanted-smaller-in-Some-Variable : goal.loop-wanted-smaller-in-Some-Variable
loop-wanted-smaller-in-Some-Variable c =
    let h = end-within c.args.line.now c.loop-wanted.at c.next_at-end.result c.if-line-at.false c.next_at-end.ensures in
    omega arith

pub loop-wanted-preserved-in-Some-Variable : goal.loop-wanted-preserved-in-Some-Variable
loop-wanted-preserved-in-Some-Variable c =
    let h = end-within c.args.line.now c.loop-wanted.at c.next_at-end.result c.if-line-at.false c.next_at-end.ensures in (
      sym (scan-variable c.args.line.now c.loop-wanted.at c.next_at-end.result c.if-line-at.false c.next_at-end.ensures c.loop-wanted.wanted
          c.loop-wanted.fields c.loop-wanted.size c.loop-wanted-test.true c.in-Some-Variable.field-0-0
          (rw c.in-Some-Variable.field-0-is at c.in-Some-Variable.ensures)) ∙ c.loop-wanted.invariant.0,
      omega arith,
      omega arith,
      omega arith,
    )

pub overflow_add-at-in-Some-Constructor : goal.overflow_add-at-in-Some-Constructor
overflow_add-at-in-Some-Constructor c =
    let h = end-within c.args.line.now c.loop-wanted.at c.next_at-end.result c.if-line-at.false c.next_at-end.ensures in
    omega arith

pub overflow_add-fields-in-Some-Constructor : goal.overflow_add-fields-in-Some-Constructor
overflow_add-fields-in-Some-Constructor c = omega arith

pub returns-then-line-at-2 : goal.returns-then-line-at-2
returns-then-line-at-2 c =
    ap term_told (sym (scan-constructor c.args.line.now c.loop-wanted.at c.next_at-end.result c.if-line-at.false c.next_at-end.ensures c.loop-wanted.wanted
    c.loop-wanted.fields c.loop-wanted.size c.loop-wanted-test.true c.in-Some-Constructor.field-0-0
    (rw c.in-Some-Constructor.field-0-is at c.in-Some-Constructor.ensures)
    ∙ count_past c.args.line.now (c.next_at-end.result + 1) (c.loop-wanted.wanted - 1) (c.loop-wanted.fields + 1)
    c.loop-wanted.size c.if-line-at-2.true) ∙ c.loop-wanted.invariant.0)

pub slice_bounds-children-count : goal.slice_bounds-children-count
slice_bounds-children-count c =
    let h = end-within c.args.line.now (c.next_at-end.result + 1) c.next_at-stop.result c.if-line-at-2.false c.next_at-stop.ensures in
    omega arith

pub slice_bounds-children-start : goal.slice_bounds-children-start
slice_bounds-children-start c =
    let h = end-within c.args.line.now (c.next_at-end.result + 1) c.next_at-stop.result c.if-line-at-2.false c.next_at-stop.ensures in
    omega arith

pub slice_bounds-children-end : goal.slice_bounds-children-end
slice_bounds-children-end c =
    let h = end-within c.args.line.now (c.next_at-end.result + 1) c.next_at-stop.result c.if-line-at-2.false c.next_at-stop.ensures in
    omega arith

pub returns-in_default : goal.returns-in_default
returns-in_default c =
    ap term_told (sym (scan-constructor c.args.line.now c.loop-wanted.at c.next_at-end.result c.if-line-at.false c.next_at-end.ensures c.loop-wanted.wanted
    c.loop-wanted.fields c.loop-wanted.size c.loop-wanted-test.true c.in-Some-Constructor.field-0-0
    (rw c.in-Some-Constructor.field-0-is at c.in-Some-Constructor.ensures)
    ∙ scan-bad-count c.args.line.now (c.next_at-end.result + 1) c.next_at-stop.result c.if-line-at-2.false
    c.next_at-stop.ensures
    (c.loop-wanted.wanted - 1) (c.loop-wanted.fields + 1) c.loop-wanted.size c.in_default.ensures) ∙ c.loop-wanted.invariant.0)

pub overflow_add-at-in-Some-Constructor-2 : goal.overflow_add-at-in-Some-Constructor-2
overflow_add-at-in-Some-Constructor-2 c =
    let h = end-within c.args.line.now (c.next_at-end.result + 1) c.next_at-stop.result c.if-line-at-2.false
    c.next_at-stop.ensures in
    omega arith

pub overflow_add-fields-in-Some-Constructor-2 : goal.overflow_add-fields-in-Some-Constructor-2
overflow_add-fields-in-Some-Constructor-2 c =
    let h = end-within c.args.line.now c.loop-wanted.at c.next_at-end.result c.if-line-at.false c.next_at-end.ensures in
    omega arith

pub overflow_add-size-in-Some-Constructor : goal.overflow_add-size-in-Some-Constructor
overflow_add-size-in-Some-Constructor c = omega arith

pub overflow_sub-wanted-in-Some-Constructor : goal.overflow_sub-wanted-in-Some-Constructor
overflow_sub-wanted-in-Some-Constructor c = omega arith

pub overflow_add-wanted : goal.overflow_add-wanted
overflow_add-wanted c =
    let h = end-within c.args.line.now c.loop-wanted.at c.next_at-end.result c.if-line-at.false c.next_at-end.ensures in
    let i = end-within c.args.line.now (c.next_at-end.result + 1) c.next_at-stop.result c.if-line-at-2.false
    c.next_at-stop.ensures in
    let e = (rw c.in-Some-Constructor.field-0-is at c.in-Some-Constructor.ensures) in
    let j = constructor-long c.args.line.now c.loop-wanted.at c.next_at-end.result c.if-line-at.false c.next_at-end.ensures
    c.loop-wanted.wanted
    c.loop-wanted.fields c.loop-wanted.size c.in-Some-Constructor.field-0-0 e in
    let k = scan-count c.args.line.now (c.next_at-end.result + 1) c.next_at-stop.result c.if-line-at-2.false
    c.next_at-stop.ensures
    (c.loop-wanted.wanted - 1) (c.loop-wanted.fields + 1) c.loop-wanted.size c.in-Some.n
    c.in-Some.ensures in
    omega (arith, k.1, c.loop-wanted.invariant)

pub loop-wanted-smaller : goal.loop-wanted-smaller
loop-wanted-smaller c =
    let h = end-within c.args.line.now c.loop-wanted.at c.next_at-end.result c.if-line-at.false c.next_at-end.ensures in
    let i = end-within c.args.line.now (c.next_at-end.result + 1) c.next_at-stop.result c.if-line-at-2.false
    c.next_at-stop.ensures in
    omega arith

pub loop-wanted-preserved : goal.loop-wanted-preserved
loop-wanted-preserved c =
    let h = end-within c.args.line.now c.loop-wanted.at c.next_at-end.result c.if-line-at.false c.next_at-end.ensures in
    let i = end-within c.args.line.now (c.next_at-end.result + 1) c.next_at-stop.result c.if-line-at-2.false
    c.next_at-stop.ensures in
    let e = (rw c.in-Some-Constructor.field-0-is at c.in-Some-Constructor.ensures) in
    let j = constructor-long c.args.line.now c.loop-wanted.at c.next_at-end.result c.if-line-at.false c.next_at-end.ensures
    c.loop-wanted.wanted
    c.loop-wanted.fields c.loop-wanted.size c.in-Some-Constructor.field-0-0 e in
    let k = scan-count c.args.line.now (c.next_at-end.result + 1) c.next_at-stop.result c.if-line-at-2.false
    c.next_at-stop.ensures
    (c.loop-wanted.wanted - 1) (c.loop-wanted.fields + 1) c.loop-wanted.size c.in-Some.n
    c.in-Some.ensures in (
      sym (scan-constructor c.args.line.now c.loop-wanted.at c.next_at-end.result c.if-line-at.false c.next_at-end.ensures
          c.loop-wanted.wanted
          c.loop-wanted.fields c.loop-wanted.size c.loop-wanted-test.true c.in-Some-Constructor.field-0-0 e ∙ k.0) ∙ c.loop-wanted.invariant.0,
      omega arith,
      omega arith,
      omega (arith, k.1),
    )

pub returns : goal.returns
returns c =
    let z : c.loop-wanted.wanted ≡ 0 = omega arith in
    ap term_told (sym (ap (λ (w : ℕ). scanned (fields_from c.args.line.now c.loop-wanted.at) w c.loop-wanted.at c.loop-wanted.fields c.loop-wanted.size) z
    ∙ scan-end (fields_from c.args.line.now c.loop-wanted.at) c.loop-wanted.at c.loop-wanted.fields c.loop-wanted.size)
    ∙ c.loop-wanted.invariant.0)
