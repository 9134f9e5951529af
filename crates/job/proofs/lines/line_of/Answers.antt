-- `job::lines::line_of` meets its contract: the name ends at the first tab, and the numbers fit it or do not. Assumes nothing.
use Rattle.std.proofs.Common.{Option, ap, sym, ◌∙◌}
use borrow.Author.Tests.{eqb-false}
use lib.Seq.{length-take-le}
use Rattle.job.specs.Held.{line_taken, name_number}
use Rattle.job.specs.declared.Line.{Line}
use Rattle.job.proofs.Named.{entry-name, other-name}
use Rattle.job.proofs.Shapes.{name-end, nameless, numberless, entry_whole, bad-line, good-line}
use Rattle.job.proofs.lines.line_of.Goals as goal

pub slice_bounds-name-end : goal.slice_bounds-name-end
slice_bounds-name-end c =
    sym (length-take-le c.next_at-end.result c.args.line.now (name-end c.args.line.now c.next_at-end.result c.next_at-end.ensures).0)

pub returns-in_err-name : goal.returns-in_err-name
returns-in_err-name c next =
    ap (λ (r : Option Line). line_taken r next) c.from_residual.ensures
    ∙ nameless c.args.line.now c.next_at-end.result c.next_at-end.ensures next c.in_err-name.ensures

pub entry_of-requires : goal.entry_of-requires
entry_of-requires c = name-end c.args.line.now c.next_at-end.result c.next_at-end.ensures

pub returns-then-eq : goal.returns-then-eq
returns-then-eq c next =
    c.entry_of.ensures next
    ∙ entry_whole c.args.line.now c.next_at-end.result c.next_at-end.ensures (name_number c.in_ok-name.name) next c.in_ok-name.ensures
    (entry-name c.in_ok-name.name c.if-eq.ensures)

pub numbers-requires : goal.numbers-requires
numbers-requires c = name-end c.args.line.now c.next_at-end.result c.next_at-end.ensures

pub returns-in_err-numbers : goal.returns-in_err-numbers
returns-in_err-numbers c next =
    ap (λ (r : Option Line). line_taken r next) c.from_residual-in_err-numbers.ensures
    ∙ numberless c.args.line.now c.next_at-end.result c.next_at-end.ensures (name_number c.in_ok-name.name) next c.in_ok-name.ensures
    (other-name c.in_ok-name.name c.if-eq.ensures) c.in_err-numbers.ensures

pub fits-requires : goal.fits-requires
fits-requires c = eqb-false (name_number c.in_ok-name.name) 1 (other-name c.in_ok-name.name c.if-eq.ensures)

pub returns-then-not-fits : goal.returns-then-not-fits
returns-then-not-fits c next =
    bad-line c.args.line.now c.next_at-end.result c.next_at-end.ensures (name_number c.in_ok-name.name) next
    c.in_ok-numbers.numbers c.in_ok-name.ensures (other-name c.in_ok-name.name c.if-eq.ensures) c.in_ok-numbers.ensures
    (sym c.if-not-fits.ensures)

pub returns : goal.returns
returns c next =
    good-line c.args.line.now c.next_at-end.result c.next_at-end.ensures (name_number c.in_ok-name.name) next
    c.in_ok-numbers.numbers c.in_ok-name.ensures (other-name c.in_ok-name.name c.if-eq.ensures) c.in_ok-numbers.ensures
    (sym c.if-not-fits.ensures)
