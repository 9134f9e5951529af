-- `begin::building` meets its contract. Assumes nothing.
use mathlib.Core.Path.{refl, ap, sym, ◌∙◌}
use Prim.Native.Nat.{ℕ, ◌%◌}
use Rattle.turns.specs.declared.turn.Turn.TheVariants.{Ask}
use Rattle.turns.proofs.Begun.{is-con, is-other, leaf-built, build-asked, var-built, var-stuck}
use Rattle.turns.proofs.begin.building.Goals as goal

pub returns-then-word-eq0 : goal.returns-then-word-eq0
returns-then-word-eq0 c w fit =
    leaf-built _ w _ _ _ _ (is-con c.args.table.now c.args.p c.word.ensures c.if-word-eq-PCON.true)
    (ap (λ (n : ℕ). n % 16) (sym c.word-then-word-eq-PCON.ensures) ∙ c.if-word-eq0.true)
    c.word-then-word-eq0.ensures refl

pub returns-then-word-eq-PCON : goal.returns-then-word-eq-PCON
returns-then-word-eq-PCON c w fit =
    build-asked _ w _ _ _ _ (is-con c.args.table.now c.args.p c.word.ensures c.if-word-eq-PCON.true)
    (λ e. c.if-word-eq0.false (ap (λ (n : ℕ). n % 16) c.word-then-word-eq-PCON.ensures ∙ e))
    c.word-then-word-eq-PCON-2.ensures (ap Ask c.visit.ensures)

pub returns-in-Some : goal.returns-in-Some
returns-in-Some c w fit =
    var-built _ w _ _ _ _ fit (is-other c.args.table.now c.args.p c.word.ensures c.if-word-eq-PCON.false)
    (ap (λ (n : ℕ). n % 64) c.word-v.ensures) _ c.in-Some.ensures refl

pub returns-in-None : goal.returns-in-None
returns-in-None c w fit =
    var-stuck _ w _ _ _ _ fit (is-other c.args.table.now c.args.p c.word.ensures c.if-word-eq-PCON.false)
    (ap (λ (n : ℕ). n % 64) c.word-v.ensures) _ c.in-None.ensures refl
