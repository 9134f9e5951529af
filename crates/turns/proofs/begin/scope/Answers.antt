-- `begin::scope` meets its contract. Assumes nothing.
use mathlib.Core.Path.{ap}
use Rattle.turns.specs.declared.turn.Asked.{Asked}
use Rattle.turns.specs.declared.turn.Turn.TheVariants.{Ask}
use Rattle.turns.proofs.Begun.{scope-begins}
use Rattle.turns.proofs.begin.scope.Goals as goal

pub returns : goal.returns
returns c w d =
    scope-begins _ w _ _ c.scope_mask.result _ d _ c.requires c.word.ensures c.scope_mask.ensures
    (ap (λ (a : Asked). Ask (record { mode = a.mode; what = a.what; at = a.at; x = a.x; y = a.y; mask = c.scope_mask.result })) c.visit.ensures)
