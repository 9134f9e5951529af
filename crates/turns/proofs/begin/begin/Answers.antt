-- `begin::begin` meets its contract. Assumes nothing.
use mathlib.Core.Path.{◌∙◌}
use Rattle.turns.proofs.Begun.{as-visit, visit-applied, visit-matched, visit-built, visit-compared}
use Rattle.turns.proofs.begin.begin.Goals as goal

pub returns-in-0 : goal.returns-in-0
returns-in-0 c z f b = c.strategy.ensures _ f b ∙ as-visit _ _ (visit-applied _ _ _ _ c.in-0.is)

pub returns-in-1 : goal.returns-in-1
returns-in-1 c z f b = c.matching.ensures (z.matched c.in-1.is) f b ∙ as-visit _ _ (visit-matched _ _ _ _ c.in-1.is)

pub returns-in-2 : goal.returns-in-2
returns-in-2 c z f b = c.building.ensures _ (z.built c.in-2.is) f b ∙ as-visit _ _ (visit-built _ _ _ _ c.in-2.is)

pub returns-in_default : goal.returns-in_default
returns-in_default c z f b =
    let none = c.in_default.in_default-own.rest in
    c.pair.ensures _ _ f b ∙ as-visit _ _ (visit-compared _ _ _ _ none.0.0.1 none.0.1 none.1)
