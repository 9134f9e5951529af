-- `lengths_fit` meets its contract. Assumes nothing.
use Rattle.std.proofs.Common.{sym, refl, ◌∙◌, eq-eqb, ne_eqb}
use Rattle.stepping.specs.Stepping.{lengths_fit}
use Rattle.stepping.proofs.lengths_fit.Goals as goal
use Rattle.stepping.proofs.lengths_fit.Goals.{then-not-table_length_fits-via-then-not-table_length_fits}
use Rattle.stepping.proofs.lengths_fit.Goals.{then-not-table_length_fits-via-else-not-table_length_fits+then-not-store_length_fits}
use Rattle.stepping.proofs.lengths_fit.Goals.{then-not-table_length_fits-via-else-not-table_length_fits+else-not-store_length_fits+then-bindings-ne-VARIABLES}

pub returns-then-not-table_length_fits : goal.returns-then-not-table_length_fits
unfolding lengths_fit
returns-then-not-table_length_fits c =
    elim c.then-not-table_length_fits.branch [
      | then-not-table_length_fits-via-then-not-table_length_fits w ↦
          rw (sym c.table_length_fits.ensures ∙ w.if-not-table_length_fits.true) refl
      | then-not-table_length_fits-via-else-not-table_length_fits+then-not-store_length_fits w ↦ rw (
        sym c.table_length_fits.ensures ∙ w.if-not-table_length_fits.false,
        sym w.store_length_fits.ensures ∙ w.if-not-store_length_fits.true,
      ) refl
      | then-not-table_length_fits-via-else-not-table_length_fits+else-not-store_length_fits+then-bindings-ne-VARIABLES w ↦ rw (
        sym c.table_length_fits.ensures ∙ w.if-not-table_length_fits.false,
        sym w.store_length_fits.ensures ∙ w.if-not-store_length_fits.false,
        ne_eqb _ 64 w.if-bindings-ne-VARIABLES.true,
      ) refl
    ]

pub returns : goal.returns
unfolding lengths_fit
returns c = rw (
  sym c.table_length_fits.ensures ∙ c.if-not-table_length_fits.false,
  sym c.store_length_fits.ensures ∙ c.if-not-store_length_fits.false,
  eq-eqb _ 64 c.if-bindings-ne-VARIABLES.false,
) refl
