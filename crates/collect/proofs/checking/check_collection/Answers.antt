-- `collect::checking::check_collection` meets its contract, test by test in document 01's order. Assumes nothing.
use borrow.Author.Tests.{lt-ltb, le-ltb}
use Rattle.std.proofs.lemmas.Result.{err_from_is_err_and}
use Rattle.checks.proofs.Numbers.{answer-some}
use Rattle.collect.specs.Refused.{start_fits, refused_by}
use Rattle.collect.proofs.checking.check_collection.Goals as goal
use Rattle.collect.proofs.checking.check_collection.Goals.{then-mark-subject-via-then-mark-subject, then-mark-subject-via-else-mark-subject+then-not-bindings_below}

pub returns-then-not-sizes_fit : goal.returns-then-not-sizes_fit
unfolding refused_by
returns-then-not-sizes_fit c = rw (← c.sizes_fit.ensures c.args.subject, c.if-not-sizes_fit.true)

pub returns-in_err-check_store : goal.returns-in_err-check_store
unfolding refused_by
returns-in_err-check_store c =
    let p = err_from_is_err_and c.from_residual.result c.from_residual.ensures.1 in
    rw (p.1, p.2, ← c.sizes_fit.ensures c.args.subject, c.if-not-sizes_fit.false, ← c.in_err-check_store.ensures, answer-some _)

pub returns-then-mark-subject : goal.returns-then-mark-subject
unfolding refused_by start_fits
returns-then-mark-subject c =
    let a = c.args in
    rw (← c.sizes_fit.ensures a.subject, c.if-not-sizes_fit.false, ← c.in_ok-check_store.ensures)
    (elim c.then-mark-subject.branch [
      | then-mark-subject-via-then-mark-subject w ↦ rw (le-ltb a.subject a.mark w.if-mark-subject.true)
      | then-mark-subject-via-else-mark-subject+then-not-bindings_below w ↦
          rw (lt-ltb a.subject a.mark w.if-mark-subject.false, ← w.bindings_below.ensures, w.if-not-bindings_below.true)
    ])

pub returns : goal.returns
unfolding refused_by start_fits
returns c =
    let a = c.args in
    rw (
      ← c.sizes_fit.ensures a.subject,
      c.if-not-sizes_fit.false,
      ← c.in_ok-check_store.ensures,
      lt-ltb a.subject a.mark c.if-mark-subject.false,
      ← c.bindings_below.ensures,
      c.if-not-bindings_below.false,
    )
