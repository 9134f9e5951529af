-- `begin::each` meets its contract. Assumes nothing.
use mathlib.Core.Path.{ap, ◌∙◌}
use Prim.Native.Nat.{ℕ, ◌%◌}
use Rattle.turns.proofs.Resumed.{asking-for}
use Rattle.turns.proofs.Begun.{beside-as, cong-begins}
use Rattle.turns.proofs.begin.each.Goals as goal

pub returns : goal.returns
returns c d =
    cong-begins _ _ _ _ d _ c.requires
    (beside-as c.word-3.ensures (ap (λ (n : ℕ). n % 16) c.word-4.ensures)
    (c.visit-first.ensures ∙ (λ z. asking-for 0 13 (c.word.ensures z) (c.word-2.ensures z))) c.beside.ensures)
