-- `text::line::line_at` meets its contract, by where the line feed stands. Assumes nothing.
use native.Mathlib.Omega.{arith}
use Rattle.text.proofs.Lines.{bounds-fed, bounds-unfed}
use Rattle.text.proofs.line.line_at.Goals as goal

pub returns-then-end-text : goal.returns-then-end-text
returns-then-end-text c =
    bounds-fed c.args.text.now c.args.at c.next_at-end.result c.next_at-end.ensures c.if-end-text.true

pub returns-else-end-text : goal.returns-else-end-text
returns-else-end-text c =
    bounds-unfed c.args.text.now c.args.at (omega (arith, c.next_at-end.ensures, c.if-end-text.false))

pub returns-else-at-text : goal.returns-else-at-text
returns-else-at-text c =
    bounds-unfed c.args.text.now c.args.at (omega (arith, c.if-at-text.false))
