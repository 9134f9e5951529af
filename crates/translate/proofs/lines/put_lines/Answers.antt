use Rattle.translate.proofs.Lining.{lining-begin, line-within, line-fits, lining-on, lining-further, next-inside, lining-end}
use mathlib.Core.Path.{refl, ◌∙◌}
use native.Mathlib.Omega.{arith}
use Rattle.translate.proofs.lines.put_lines.Goals as goal

pub loop-at-init : goal.loop-at-init
loop-at-init c =
    (lining-begin c.requires.0, refl)

pub slice_bounds-put_line-count : goal.slice_bounds-put_line-count
slice_bounds-put_line-count c =
    let w = line-within c.loop-at.invariant.0 c.loop-at-test.true c.line_from-b.result c.line_from-b.ensures in omega (arith, w.0)

pub slice_bounds-put_line-start : goal.slice_bounds-put_line-start
slice_bounds-put_line-start c =
    let w = line-within c.loop-at.invariant.0 c.loop-at-test.true c.line_from-b.result c.line_from-b.ensures in omega (arith, w.0, w.1)

pub slice_bounds-put_line-end : goal.slice_bounds-put_line-end
slice_bounds-put_line-end c =
    let w = line-within c.loop-at.invariant.0 c.loop-at-test.true c.line_from-b.result c.line_from-b.ensures in omega (arith, w.0, w.1)

pub put_line-e-requires : goal.put_line-e-requires
put_line-e-requires c = (
  line-fits c.loop-at.invariant.0 c.loop-at-test.true c.line_from-b.result c.line_from-b.ensures,
  omega
      (arith, c.requires.1, c.loop-at.invariant.0.same),
  omega (arith, c.requires.2, c.loop-at.invariant.1),
)

pub loop-at-smaller : goal.loop-at-smaller
loop-at-smaller c =
    omega (
      arith,
      lining-further c.loop-at.invariant.0 c.loop-at-test.true c.line_from-b.result c.line_from-b.ensures,
      next-inside
          c.loop-at.invariant.0 c.loop-at-test.true c.line_from-b.result c.line_from-b.ensures,
    )

pub loop-at-preserved : goal.loop-at-preserved
loop-at-preserved c = (
  lining-on c.loop-at.invariant.0 c.loop-at-test.true c.line_from-b.result c.line_from-b.ensures _ _ c.put_line-e.ensures
      c.put_line-e.auto.table,
  c.put_line-e.auto.ends ∙ c.loop-at.invariant.1,
)

pub shape_of-table : goal.shape_of-table
shape_of-table c =
    c.loop-at.invariant.0.same

pub shape_of-ends : goal.shape_of-ends
shape_of-ends c =
    c.loop-at.invariant.1

pub returns : goal.returns
returns c =
    lining-end c.loop-at.invariant.0 c.loop-at-test.false
