-- `resume::succeeded` meets its contract. Assumes nothing.
use mathlib.Core.Path.{refl, ap, sym, ◌∙◌}
use Prim.Native.Nat.{ℕ}
use Rattle.meaning.specs.Plan.{ret}
use Rattle.turns.specs.declared.turn.Turn.TheVariants.{Done, Failed, Ask}
use Rattle.turns.specs.Ways.{plan_of, ways}
use Rattle.turns.proofs.Resumed.{resumes, second-asked, scope-ended, hands_on}
use Rattle.turns.proofs.resume.succeeded.Goals as goal

pub returns-in-1 : goal.returns-in-1
returns-in-1 c f o g b d w = second-asked _ f b _ g _ o _ _ d c.in-1.is c.word.ensures (ap Ask c.visit.ensures) w

pub returns-in-2 : goal.returns-in-2
unfolding plan_of ways
returns-in-2 c f o g b d w = resumes _ f b _ g 2 (Done c.args.h.y) _ d (o.what ∙ c.in-2.is) refl (ap (λ (y : ℕ). ret y d) (sym o.y))

pub returns-in-4 : goal.returns-in-4
unfolding plan_of ways
returns-in-4 c f o g b d w = resumes _ f b _ g 4 (Done c.args.h.y) _ d (o.what ∙ c.in-4.is) refl (ap (λ (y : ℕ). ret y b) (sym o.y))

pub returns-in-5 : goal.returns-in-5
unfolding plan_of ways
returns-in-5 c f o g b d w = resumes _ f b _ g 5 Failed _ d (o.what ∙ c.in-5.is) refl refl

pub returns-in-7 : goal.returns-in-7
returns-in-7 c f o g b d w = scope-ended _ f b _ g _ o _ _ d c.in-7.is c.scope_mask.ensures refl

pub returns-in_default : goal.returns-in_default
unfolding plan_of
returns-in_default c f o g b d w =
    let none = c.in_default.in_default-own.rest in
    resumes _ f b _ g _ (Done c.args.y) _ d o.what refl
    (hands_on _ f b d _ _ c.requires none.0.0.0.0.1 none.0.0.0.1 none.0.0.1 none.0.1 none.1)
