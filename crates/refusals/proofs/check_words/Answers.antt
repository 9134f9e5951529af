-- `refusals::check_words` meets its contract: the sizes, the table, the store, the signature. Assumes nothing.
use Rattle.std.proofs.Common.{ap, sym}
use Rattle.std.proofs.lemmas.Result.{err_from_is_err_and}
use Rattle.checks.specs.Kinds.{ours}
use Rattle.checks.specs.Checked.{Checked}
use Rattle.checks.proofs.Numbers.{answer-some}
use Rattle.checks.proofs.Promises.{table_passes}
use Rattle.calls.specs.Refused.{words_refused_by}
use Rattle.refusals.proofs.check_words.Goals as goal
use Rattle.refusals.proofs.check_words.Goals.{then-not-sizes_fit-via-then-not-sizes_fit, then-not-sizes_fit-via-else-not-sizes_fit+then-not-lent_fits}

pub returns-then-not-sizes_fit : goal.returns-then-not-sizes_fit
unfolding words_refused_by
returns-then-not-sizes_fit c =
    elim c.then-not-sizes_fit.branch [
      | then-not-sizes_fit-via-then-not-sizes_fit w ↦ rw (← c.sizes_fit.ensures, w.if-not-sizes_fit.true)
      | then-not-sizes_fit-via-else-not-sizes_fit+then-not-lent_fits w ↦
          rw (← c.sizes_fit.ensures, w.if-not-sizes_fit.false, ← w.lent_fits.ensures, w.if-not-lent_fits.true)
    ]

pub returns-in_err-check_table : goal.returns-in_err-check_table
unfolding words_refused_by
returns-in_err-check_table c =
    let p = err_from_is_err_and c.from_residual.result c.from_residual.ensures.1 in
    rw (
      p.1,
      p.2,
      ← c.sizes_fit.ensures,
      c.if-not-sizes_fit.false,
      ← c.lent_fits.ensures,
      c.if-not-lent_fits.false,
      ← c.in_err-check_table.ensures,
      answer-some _,
    )

pub returns-in_err-check_store : goal.returns-in_err-check_store
unfolding words_refused_by
returns-in_err-check_store c =
    let r = c.from_residual-in_err-check_store in
    let p = err_from_is_err_and r.result r.ensures.1 in
    rw (
      p.1,
      p.2,
      ← c.sizes_fit.ensures,
      c.if-not-sizes_fit.false,
      ← c.lent_fits.ensures,
      c.if-not-lent_fits.false,
      ← c.in_ok-check_table.ensures,
      ← c.in_err-check_store.ensures,
      answer-some _,
    )

pub check_obeyed-requires : goal.check_obeyed-requires
check_obeyed-requires c = ((table_passes ours _).0 (ap (λ (r : Checked). r.answer) (sym c.in_ok-check_table.ensures))).0.most

pub returns : goal.returns
unfolding words_refused_by
returns c =
    rw (
      ← c.sizes_fit.ensures,
      c.if-not-sizes_fit.false,
      ← c.lent_fits.ensures,
      c.if-not-lent_fits.false,
      ← c.in_ok-check_table.ensures,
      ← c.in_ok-check_store.ensures,
    )
    c.check_obeyed.ensures
