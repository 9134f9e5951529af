-- What a run with an index refuses, by what is found first. Assumes nothing.
use borrow.Author.Tests.{ne_eqb}
use Rattle.std.proofs.lemmas.Result.{err_from_is_err_and}
use Rattle.checks.proofs.Numbers.{answer_ne0}
use Rattle.calls.specs.Indexed.{indexed_refused_by}
use Rattle.indexed.proofs.refusing.check_indexed_run.Goals as goal

pub returns-in_err-check_indexed_words : goal.returns-in_err-check_indexed_words
unfolding indexed_refused_by
returns-in_err-check_indexed_words c =
    let p = err_from_is_err_and c.from_residual.result c.from_residual.ensures.1 in
    rw (p.1, p.2) (λ x u e. rw (← c.in_err-check_indexed_words.ensures x e, ne_eqb _ 0 (answer_ne0 c.in_err-check_indexed_words.field-0.0)))

pub returns-then-not-start_fits : goal.returns-then-not-start_fits
unfolding indexed_refused_by
returns-then-not-start_fits c =
    λ x u e. rw (← c.in_ok-check_indexed_words.ensures x e, ← c.start_fits.ensures, c.if-not-start_fits.true)

pub returns : goal.returns
unfolding indexed_refused_by
returns c =
    λ x u e. rw (← c.in_ok-check_indexed_words.ensures x e, ← c.start_fits.ensures, c.if-not-start_fits.false)
