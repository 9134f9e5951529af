-- `begin::pair` meets its contract. Assumes nothing.
use mathlib.Core.Path.{◌∙◌}
use Rattle.turns.proofs.Resumed.{asking-for}
use Rattle.turns.proofs.Begun.{beside-as, pair-begins}
use Rattle.turns.proofs.begin.pair.Goals as goal

pub returns : goal.returns
returns c t d =
    pair-begins t _ _ _ d _
    (beside-as c.word-3.ensures c.word-4.ensures
    (c.visit-first.ensures ∙ (λ z. asking-for 3 16 (c.word.ensures z) (c.word-2.ensures z))) c.beside.ensures)
