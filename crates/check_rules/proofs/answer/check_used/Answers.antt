-- `check_rules::answer::check_used` meets its contract, test by test. Assumes nothing.
use Rattle.check_rules.proofs.Answering.{used-length, used-more, used-none, used-some}
use mathlib.Core.Path.{sym, ◌∙◌}
use Rattle.check_rules.proofs.answer.check_used.Goals as goal

pub returns-then-not-table_length_fits : goal.returns-then-not-table_length_fits
returns-then-not-table_length_fits c =
    used-length c.args.table.now c.args.used (sym c.table_length_fits.ensures ∙ c.if-not-table_length_fits.true)

pub returns-then-table-used : goal.returns-then-table-used
returns-then-table-used c =
    used-more c.args.table.now c.args.used (sym c.table_length_fits.ensures ∙ c.if-not-table_length_fits.false) c.if-table-used.true

pub returns-then-used-eq0 : goal.returns-then-used-eq0
returns-then-used-eq0 c =
    used-none c.args.table.now c.args.used (sym c.table_length_fits.ensures ∙ c.if-not-table_length_fits.false) c.if-table-used.false c.if-used-eq0.true

pub returns : goal.returns
returns c =
    used-some c.args.table.now c.args.used (sym c.table_length_fits.ensures ∙ c.if-not-table_length_fits.false) c.if-table-used.false c.if-used-eq0.false _ c.check_table.ensures
