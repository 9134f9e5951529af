-- `checks::entries::check_table` meets its contract: the length first, then the fault of the lowest bad entry. Assumes nothing.
use mathlib.Core.Path.{sym, ◌∙◌}
use lib.ListN.{length}
use Rattle.checks.specs.Checked.{table_checked_by}
use Rattle.checks.proofs.Good.{table_length_fits-plain}
use Rattle.checks.proofs.entries.check_table.Goals as goal

pub returns-then-not-table_length_fits : goal.returns-then-not-table_length_fits
unfolding table_checked_by
returns-then-not-table_length_fits c = rw (← c.table_length_fits.ensures, c.if-not-table_length_fits.true)

pub check_all_entries-requires : goal.check_all_entries-requires
check_all_entries-requires c =
    ((table_length_fits-plain
    (length c.args.table.now)).0
    (sym c.table_length_fits.ensures ∙ c.if-not-table_length_fits.false)).most

pub returns : goal.returns
unfolding table_checked_by
returns c = rw (← c.table_length_fits.ensures, c.if-not-table_length_fits.false) c.check_all_entries.ensures
