-- `refusals::check_run` meets its contract: the words, then the start. Assumes nothing.
use Rattle.std.proofs.lemmas.Result.{err_from_is_err_and}
use Rattle.checks.proofs.Numbers.{answer-some}
use Rattle.calls.specs.Refused.{refused_with_by}
use Rattle.refusals.proofs.check_run.Goals as goal

pub returns-in_err-check_words : goal.returns-in_err-check_words
unfolding refused_with_by
returns-in_err-check_words c =
    let p = err_from_is_err_and c.from_residual.result c.from_residual.ensures.1 in
    rw (p.1, p.2, ← c.in_err-check_words.ensures, answer-some _)

pub returns-then-not-start_fits : goal.returns-then-not-start_fits
unfolding refused_with_by
returns-then-not-start_fits c = rw (← c.in_ok-check_words.ensures, ← c.start_fits.ensures, c.if-not-start_fits.true)

pub returns : goal.returns
unfolding refused_with_by
returns c = rw (← c.in_ok-check_words.ensures, ← c.start_fits.ensures, c.if-not-start_fits.false)
