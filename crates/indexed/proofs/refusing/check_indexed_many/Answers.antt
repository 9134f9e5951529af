-- What a call over many subjects with an index refuses, by what is found first. Assumes nothing.
use Prim.Native.Nat.{◌*◌}
use native.Mathlib.Omega.{arith}
use lib.ListN.{length}
use borrow.Author.Tests.{eq-eqb, ne_eqb}
use Rattle.std.proofs.lemmas.Result.{err_from_is_err_and}
use Rattle.checks.proofs.Numbers.{answer_ne0}
use Rattle.calls.specs.Indexed.{indexed_many_refused_by}
use Rattle.indexed.proofs.refusing.check_indexed_many.Goals as goal
use Rattle.indexed.proofs.refusing.check_indexed_many.Goals.{then-n-subjects-via-then-n-subjects, then-n-subjects-via-else-n-subjects+then-n-ne0}

pub returns-then-n-subjects : goal.returns-then-n-subjects
unfolding indexed_many_refused_by
returns-then-n-subjects c rs x u n e =
    elim c.then-n-subjects.branch [
      | then-n-subjects-via-then-n-subjects w ↦ rw (ne_eqb (length rs) (5 * length c.args.subjects.now) (λ z. w.if-n-subjects.true (omega (arith, n, z))))
      | then-n-subjects-via-else-n-subjects+then-n-ne0 w ↦ rw (ne_eqb (length rs) (5 * length c.args.subjects.now) (λ z. w.if-n-ne0.true (omega (arith, n, z))))
    ]

pub returns-in_err-check_indexed_words : goal.returns-in_err-check_indexed_words
unfolding indexed_many_refused_by
returns-in_err-check_indexed_words c =
    let p = err_from_is_err_and c.from_residual.result c.from_residual.ensures.1 in
    rw (p.1, p.2)
    (λ rs x u n e. rw (
      eq-eqb (length rs) (5 * length c.args.subjects.now) (omega (arith, n, c.if-n-subjects.false, c.if-n-ne0.false)),
      ← c.in_err-check_indexed_words.ensures x e,
      ne_eqb _ 0 (answer_ne0 c.in_err-check_indexed_words.field-0.0),
    ))

pub returns-then-not-starts_fit : goal.returns-then-not-starts_fit
unfolding indexed_many_refused_by
returns-then-not-starts_fit c =
    λ rs x u n e. rw (
      eq-eqb (length rs) (5 * length c.args.subjects.now) (omega (arith, n, c.if-n-subjects.false, c.if-n-ne0.false)),
      ← c.in_ok-check_indexed_words.ensures x e,
      ← c.starts_fit.ensures,
      c.if-not-starts_fit.true,
    )

pub returns : goal.returns
unfolding indexed_many_refused_by
returns c =
    λ rs x u n e. rw (
      eq-eqb (length rs) (5 * length c.args.subjects.now) (omega (arith, n, c.if-n-subjects.false, c.if-n-ne0.false)),
      ← c.in_ok-check_indexed_words.ensures x e,
      ← c.starts_fit.ensures,
      c.if-not-starts_fit.false,
    )
