-- `begin::children` meets its contract. Assumes nothing.
use mathlib.Core.Path.{refl, ap}
use Rattle.turns.specs.declared.turn.Turn.TheVariants.{Ask}
use Rattle.turns.proofs.Begun.{of-all, of_others, no-children, has-children, all-of-none, none-of-none, children-asked}
use Rattle.turns.proofs.begin.children.Goals as goal

pub returns-then-word-ne0 : goal.returns-then-word-ne0
returns-then-word-ne0 c d =
    children-asked _ _ _ _ d _ (has-children c.args.store.now c.args.y c.word.ensures c.if-word-ne0.true)
    c.word-then-word-ne0.ensures c.word-then-word-ne0-2.ensures _ c.requires (ap Ask c.visit.ensures)

pub returns-then-what-eq-EVERY : goal.returns-then-what-eq-EVERY
returns-then-what-eq-EVERY c d =
    all-of-none _ _ _ _ d _ (no-children c.args.store.now c.args.y c.word.ensures c.if-word-ne0.false)
    (of-all _ _ c.requires c.if-what-eq-EVERY.true) refl

pub returns-else-what-eq-EVERY : goal.returns-else-what-eq-EVERY
returns-else-what-eq-EVERY c d =
    none-of-none _ _ _ _ d _ (no-children c.args.store.now c.args.y c.word.ensures c.if-word-ne0.false)
    (of_others _ _ c.requires c.if-what-eq-EVERY.false) refl
