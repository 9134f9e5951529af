use mathlib.Core.Path.{refl, sym, ◌∙◌, ap}
use native.Mathlib.Omega.{arith}
use lib.ListN.{take}
use Rattle.text.proofs.Fields.{filled_none, filled_more, after_none, field_end, numbers-over, numbers-bad, numbers_on, numbers-end, filled-taken, numbers-held}
use Rattle.text.specs.Held.{numbers_held}
use Rattle.text.proofs.field.numbers.Goals as goal

pub loop-i-init : goal.loop-i-init
loop-i-init c = (omega arith, c.requires.0, c.requires.1, filled_none, after_none _)

pub returns-then-count-ge8 : goal.returns-then-count-ge8
returns-then-count-ge8 c =
    sym (ap numbers_held (sym c.loop-i.invariant.4
    ∙ numbers-over c.args.line.now c.loop-i.i c.loop-i-test.true
    (c.loop-i.invariant.2 c.loop-i-test.true) _ c.loop-i.count _ refl c.if-count-ge8.true))

pub slice_bounds-number-start : goal.slice_bounds-number-start
slice_bounds-number-start c =
    let h : _ = field_end c.args.line.now c.loop-i.i
    c.loop-i-test.true (c.loop-i.invariant.2 c.loop-i-test.true)
    c.next_at-end.result c.next_at-end.ensures in omega arith

pub slice_bounds-number-end : goal.slice_bounds-number-end
slice_bounds-number-end c =
    let h : _ = field_end c.args.line.now c.loop-i.i
    c.loop-i-test.true (c.loop-i.invariant.2 c.loop-i-test.true)
    c.next_at-end.result c.next_at-end.ensures in omega arith

pub returns-in_err-v : goal.returns-in_err-v
returns-in_err-v c =
    c.from_residual.ensures
    ∙ ap numbers_held (sym (sym c.loop-i.invariant.4
    ∙ numbers-bad c.args.line.now c.loop-i.i c.loop-i-test.true
    (c.loop-i.invariant.2 c.loop-i-test.true) _ c.loop-i.count c.next_at-end.result
    c.next_at-end.ensures c.if-count-ge8.false c.in_err-v.ensures))

pub loop-i-smaller : goal.loop-i-smaller
loop-i-smaller c =
    let h : _ = field_end c.args.line.now c.loop-i.i c.loop-i-test.true
    (c.loop-i.invariant.2 c.loop-i-test.true) c.next_at-end.result c.next_at-end.ensures in omega arith

pub loop-i-preserved : goal.loop-i-preserved
loop-i-preserved c =
    let h : _ = field_end c.args.line.now c.loop-i.i c.loop-i-test.true
    (c.loop-i.invariant.2 c.loop-i-test.true) c.next_at-end.result c.next_at-end.ensures in (
      omega arith,
      h.1,
      h.2,
      filled_more c.loop-i.at c.loop-i.count c.loop-i.invariant.3 c.in_ok-v.v c.if-count-ge8.false,
      rw (filled-taken c.loop-i.at c.loop-i.count c.loop-i.invariant.3 c.in_ok-v.v c.if-count-ge8.false)
          (numbers_on c.args.line.now c.loop-i.i c.loop-i-test.true
          (c.loop-i.invariant.2 c.loop-i-test.true) (take c.loop-i.count c.loop-i.at)
          c.loop-i.count c.next_at-end.result c.next_at-end.ensures c.if-count-ge8.false
          c.in_ok-v.v c.in_ok-v.ensures
          ∙ c.loop-i.invariant.4),
    )

pub returns : goal.returns
returns c =
    let w : _ = sym c.loop-i.invariant.4 ∙ numbers-end c.args.line.now c.loop-i.i _
    (take c.loop-i.count c.loop-i.at) c.loop-i-test.false in
    numbers-held c.loop-i.at c.loop-i.count c.loop-i.invariant.3 c.loop-i.invariant.0 ∙ sym (ap numbers_held w)
