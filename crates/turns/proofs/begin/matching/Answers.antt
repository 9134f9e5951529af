-- `begin::matching` meets its contract. Assumes nothing.
use mathlib.Core.Path.{refl, ap}
use Prim.Native.Nat.{ℕ, ◌%◌}
use Rattle.turns.specs.declared.turn.Turn.TheVariants.{Ask}
use Rattle.turns.proofs.Begun.{is-other, var-compared, var-bound}
use Rattle.turns.proofs.begin.matching.Goals as goal

pub returns-in-Some : goal.returns-in-Some
returns-in-Some c fit =
    var-compared _ _ _ _ _ _ fit (is-other c.args.table.now c.args.p c.word.ensures c.if-word-eq-PCON.false)
    (ap (λ (n : ℕ). n % 64) c.word-v.ensures) _ c.in-Some.ensures (ap Ask c.visit.ensures)

pub returns-in-None : goal.returns-in-None
returns-in-None c fit =
    var-bound _ _ _ _ _ _ fit (is-other c.args.table.now c.args.p c.word.ensures c.if-word-eq-PCON.false)
    (ap (λ (n : ℕ). n % 64) c.word-v.ensures) _ c.in-None.ensures refl
