-- `job::lines::line_at` meets its contract, by whether a line feed ends the line. Assumes nothing.
use Rattle.std.proofs.Common.{arith, ◌∙◌}
use Rattle.text.proofs.Lines.{bounds-apart, bounds-met}
use Rattle.job.proofs.Shapes.{taken-line, taken_none}
use Rattle.job.proofs.lines.line_at.Goals as goal

pub slice_bounds-line_of-count : goal.slice_bounds-line_of-count
slice_bounds-line_of-count c =
    let fed = bounds-apart c.args.text.now c.args.at c.line_from-found.result c.line_from-found.ensures c.if-found.true in
    omega (arith, fed.end)

pub slice_bounds-line_of-start : goal.slice_bounds-line_of-start
slice_bounds-line_of-start c =
    let fed = bounds-apart c.args.text.now c.args.at c.line_from-found.result c.line_from-found.ensures c.if-found.true in
    omega (arith, fed.end, fed.feed)

pub slice_bounds-line_of-end : goal.slice_bounds-line_of-end
slice_bounds-line_of-end c =
    let fed = bounds-apart c.args.text.now c.args.at c.line_from-found.result c.line_from-found.ensures c.if-found.true in
    omega (arith, fed.end, fed.feed)

pub returns-then-found : goal.returns-then-found
returns-then-found c =
    let fed = bounds-apart c.args.text.now c.args.at c.line_from-found.result c.line_from-found.ensures c.if-found.true in
    c.line_of.ensures c.line_from-found.result.next
    ∙ taken-line c.args.text.now c.args.at c.line_from-found.result.end c.line_from-found.result.next fed.end fed.next fed.feed

pub returns : goal.returns
returns c =
    taken_none c.args.text.now c.args.at
    (bounds-met c.args.text.now c.args.at c.line_from-found.result c.line_from-found.ensures c.if-found.false)
