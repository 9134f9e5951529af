-- `refusals::check_many` meets its contract: five words per subject, the words, then the starts. Assumes nothing.
use Rattle.std.proofs.Common.{◌*◌, length, arith}
use Rattle.std.proofs.lemmas.Result.{err_from_is_err_and}
use borrow.Author.Tests.{eq-eqb, ne_eqb}
use Rattle.checks.proofs.Numbers.{answer-some}
use Rattle.calls.specs.Many.{many_refused_by}
use Rattle.refusals.proofs.check_many.Goals as goal
use Rattle.refusals.proofs.check_many.Goals.{then-n-subjects-via-then-n-subjects, then-n-subjects-via-else-n-subjects+then-n-ne0}

pub returns-then-n-subjects : goal.returns-then-n-subjects
unfolding many_refused_by
returns-then-n-subjects c results units e =
    elim c.then-n-subjects.branch [
      | then-n-subjects-via-then-n-subjects w ↦
          rw (ne_eqb (length results) (5 * length c.args.subjects.now) (λ z. w.if-n-subjects.true (omega (arith, e, z))))
      | then-n-subjects-via-else-n-subjects+then-n-ne0 w ↦
          rw (ne_eqb (length results) (5 * length c.args.subjects.now) (λ z. w.if-n-ne0.true (omega (arith, e, z))))
    ]

pub returns-in_err-check_words : goal.returns-in_err-check_words
unfolding many_refused_by
returns-in_err-check_words c results units e =
    let p = err_from_is_err_and c.from_residual.result c.from_residual.ensures.1 in
    rw (
      p.1,
      p.2,
      eq-eqb (length results) (5 * length c.args.subjects.now) (omega (arith, e, c.if-n-subjects.false, c.if-n-ne0.false)),
      ← c.in_err-check_words.ensures,
      answer-some _,
    )

pub returns-then-not-starts_fit : goal.returns-then-not-starts_fit
unfolding many_refused_by
returns-then-not-starts_fit c results units e =
    rw (
      eq-eqb (length results) (5 * length c.args.subjects.now) (omega (arith, e, c.if-n-subjects.false, c.if-n-ne0.false)),
      ← c.in_ok-check_words.ensures,
      ← c.starts_fit.ensures,
      c.if-not-starts_fit.true,
    )

pub returns : goal.returns
unfolding many_refused_by
returns c results units e =
    rw (
      eq-eqb (length results) (5 * length c.args.subjects.now) (omega (arith, e, c.if-n-subjects.false, c.if-n-ne0.false)),
      ← c.in_ok-check_words.ensures,
      ← c.starts_fit.ensures,
      c.if-not-starts_fit.false,
    )
