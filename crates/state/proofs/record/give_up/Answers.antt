-- `record::give_up` meets its contract: a word that was read as failed sets the miss, and no other does. Assumes nothing.
use mathlib.Core.Path.{◌≡◌, refl, ap, ◌∙◌}
use mathlib.Core.List.{List}
use Prim.Native.Nat.{ℕ}
use Rattle.state.specs.declared.answers.Answer.{Answer}
use Rattle.state.specs.declared.answers.Answer.TheVariants.{Done, Failed, Cut}
use Rattle.state.specs.Record.{given_up}
use Rattle.state.proofs.record.give_up.Goals as goal

unmoved : (a : Answer) (st : List ℕ) (p : ℕ) → ((x : ℕ) → a ≡ Failed x → ⊥) → st ≡ given_up a st p
unfolding given_up
unmoved (Done x u) st p h = refl
unmoved (Failed u) st p h = absurd (h u refl)
unmoved (Cut c) st p h = refl

pub returns-in_default : goal.returns-in_default
returns-in_default c =
    let a = c.args in
    unmoved c.answer_of.result a.st.now a.p c.in_default.not-Failed
    ∙ ap (λ r. given_up r a.st.now a.p) c.answer_of.ensures

pub returns : goal.returns
unfolding given_up
returns c = rw (← c.answer_of.ensures, c.in-Failed.is)
