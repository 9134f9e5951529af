-- `resume::failed` meets its contract. Assumes nothing.
use mathlib.Core.Path.{refl, ap, sym, ◌∙◌}
use Prim.Native.Nat.{ℕ}
use Rattle.meaning.specs.Plan.{ret, miss}
use Rattle.turns.specs.declared.turn.Turn.TheVariants.{Done, Failed, Missed, Ask}
use Rattle.turns.specs.Ways.{plan_of, ways}
use Rattle.turns.proofs.Resumed.{recovers, other-asked, fails-too}
use Rattle.turns.proofs.resume.failed.Goals as goal

pub returns-in-3 : goal.returns-in-3
unfolding plan_of ways
returns-in-3 c f o g b w = recovers _ f b _ g 3 (Missed c.args.h.x) (o.what ∙ c.in-3.is) refl (ap (λ (x : ℕ). miss x) (sym o.x))

pub returns-in-5 : goal.returns-in-5
unfolding plan_of ways
returns-in-5 c f o g b w = recovers _ f b _ g 5 (Done c.args.h.y) (o.what ∙ c.in-5.is) refl (ap (λ (y : ℕ). ret y b) (sym o.y))

pub returns-in-6 : goal.returns-in-6
returns-in-6 c f o g b w = other-asked _ f b _ g _ o _ c.in-6.is c.word.ensures (ap Ask c.visit.ensures) w

pub returns-in_default : goal.returns-in_default
unfolding plan_of
returns-in_default c f o g b w =
    let none = c.in_default.in_default-own.rest in
    recovers _ f b _ g _ Failed o.what refl (fails-too _ f b _ c.requires none.0.0.1 none.0.1 none.1)
