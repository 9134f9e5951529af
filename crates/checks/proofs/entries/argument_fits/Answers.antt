-- `checks::entries::argument_fits` meets its contract: any mask is in the range of a SCOPE's, and the others go test by test.
-- Assumes nothing.
use Rattle.std.proofs.Common.{◌≢◌, ◌+◌, ◌*◌, sym, ◌∙◌}
use borrow.Author.Tests.{le-leb, lt-leb, eq-eqb}
use Rattle.checks.specs.Kinds.{ours}
use Rattle.checks.specs.Good.{kind_of, argument_fits_by}
use Rattle.checks.proofs.Good.{argument-word, mask_fits}
use Rattle.checks.proofs.entries.argument_fits.Goals as goal

pub returns-then-k-eq-SCOPE : goal.returns-then-k-eq-SCOPE
returns-then-k-eq-SCOPE c =
    let a = c.args in
    eq-eqb _ _ c.if-k-eq-SCOPE.true
    ∙ sym (mask_fits ours a.table.now a.e (sym c.requires.0 ∙ c.if-k-eq-SCOPE.true) (λ j. (c.type_inv.table (8 * a.e + j)).fits))

pub returns-then-lowest_argument-a : goal.returns-then-lowest_argument-a
unfolding argument_fits_by
returns-then-lowest_argument-a c =
    let a = c.args in
    -- past the first test the entry is no SCOPE
    let no-scope : kind_of a.table.now a.e ≢ 16 = λ z. c.if-k-eq-SCOPE.false (c.requires.0 ∙ z) in
    rw (
      argument-word ours a.table.now a.e no-scope,
      ← c.word-a.ensures,
      ← c.requires.0,
      ← c.lowest_argument.ensures,
      ← c.highest_argument.ensures,
      le-leb _ _ c.if-lowest_argument-a.true,
    )

pub returns-else-lowest_argument-a : goal.returns-else-lowest_argument-a
unfolding argument_fits_by
returns-else-lowest_argument-a c =
    let a = c.args in
    -- past the first test the entry is no SCOPE
    let no-scope : kind_of a.table.now a.e ≢ 16 = λ z. c.if-k-eq-SCOPE.false (c.requires.0 ∙ z) in
    rw (
      argument-word ours a.table.now a.e no-scope,
      ← c.word-a.ensures,
      ← c.requires.0,
      ← c.lowest_argument.ensures,
      lt-leb _ _ c.if-lowest_argument-a.false,
    )
