-- `frames::restore` meets its contract. Assumes nothing.
use mathlib.Core.Path.{ap, sym, ◌∙◌}
use native.Mathlib.Omega.{arith}
use Rattle.turns.specs.Ways.{saves}
use Rattle.machine.proofs.Restoring.{restored-asked, restored-given-yes, restored-given-no, restored-filled, restored-plain, restored-marked}
use Rattle.machine.proofs.frames.restore.Goals as goal

pub returns-then-m-lt-SUCCEEDED : goal.returns-then-m-lt-SUCCEEDED
returns-then-m-lt-SUCCEEDED c = restored-asked _ _ _ c.if-m-lt-SUCCEEDED.true

pub give_back-requires : goal.give_back-requires
give_back-requires c =
    (c.requires.0 (omega (arith, c.if-m-lt-SUCCEEDED.false)), c.requires.1)

pub returns-then-what-eq-TRIED : goal.returns-then-what-eq-TRIED
returns-then-what-eq-TRIED c = restored-given-yes _ _ _ (c.requires.0 (omega (arith, c.if-m-lt-SUCCEEDED.false))) c.if-m-eq-SUCCEEDED.true (sym c.word-what.ensures ∙ c.if-what-eq-TRIED.true) c.give_back.ensures

pub fill-requires : goal.fill-requires
fill-requires c =
    (c.requires.0 (omega (arith, c.if-m-lt-SUCCEEDED.false)), c.requires.1)

pub returns-then-what-ge-LEFTMOST : goal.returns-then-what-ge-LEFTMOST
returns-then-what-ge-LEFTMOST c = restored-filled _ _ _ (c.requires.0 (omega (arith, c.if-m-lt-SUCCEEDED.false))) c.if-m-eq-SUCCEEDED.true (omega (
  arith,
  c.word-what.ensures,
  c.if-what-ge-LEFTMOST.true,
)) c.fill.ensures

pub returns-else-what-ge-LEFTMOST : goal.returns-else-what-ge-LEFTMOST
returns-else-what-ge-LEFTMOST c = restored-plain _ _ _ c.if-m-eq-SUCCEEDED.true (omega (
  arith,
  c.word-what.ensures,
  c.if-what-ge-LEFTMOST.false,
)) (λ e. c.if-what-eq-TRIED.false (c.word-what.ensures ∙ e))

pub give_back-requires-then-saves : goal.give_back-requires-then-saves
give_back-requires-then-saves c =
    (c.requires.0 (omega (arith, c.if-m-lt-SUCCEEDED.false)), c.requires.1)

pub returns-then-saves : goal.returns-then-saves
returns-then-saves c = restored-given-no _ _ _ (c.requires.0 (omega (arith, c.if-m-lt-SUCCEEDED.false))) (omega
    (arith, c.if-m-lt-SUCCEEDED.false)) c.if-m-eq-SUCCEEDED.false (ap saves (sym c.word-what.ensures)
    ∙ sym c.saves.ensures ∙ c.if-saves.true) c.give_back-then-saves.ensures

pub returns : goal.returns
returns c = restored-marked _ _ _ (omega (arith, c.if-m-lt-SUCCEEDED.false)) c.if-m-eq-SUCCEEDED.false (ap saves (sym c.word-what.ensures) ∙ sym c.saves.ensures ∙ c.if-saves.false) c.word.ensures
