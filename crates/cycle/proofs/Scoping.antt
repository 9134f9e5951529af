-- SCOPE: its operand runs with the masked variables unbound, and they are as they were when it returns, also where nothing
-- was saved because none of them was bound.
use mathlib.Core.Path.{◌≡◌, refl, ap, sym, ◌∙◌, subst}
use mathlib.Core.Bool.{Bool, true, false}
use mathlib.Core.Option.{none, some}
use mathlib.Core.Logic.{inl, inr}
use mathlib.Core.List.{List}
use Prim.Native.Nat.{ℕ, ◌+◌, ◌^◌, ◌<◌}
use native.Mathlib.Omega.{arith}
use lib.ListN.{length}
use lib.Bits.{bit_and}
use Rattle.words.specs.Words.{word_at}
use Rattle.std.specs.Prelude.{if◌then◌else◌}
use Rattle.checks.specs.Kinds.{ours, variables}
use Rattle.checks.specs.Good.{kind_of, mask_by}
use Rattle.meaning.specs.Bindings.{Bindings, has, unbound, masked}
use Rattle.meaning.specs.Plan.{keep, ret, fail, ask}
use Rattle.meaning.specs.Rules.{Visit, apply}
use Rattle.state.specs.declared.answers.Answer.{Answer}
use Rattle.state.specs.declared.answers.Answer.TheVariants.{Done, Failed, Cut}
use Rattle.state.specs.Answers.{node_in, units_in, answer_of}
use Rattle.meaning.specs.Limits.{lost, cut, at}
use Rattle.state.specs.Noted.{Standing, left_of}
use Rattle.state.specs.Record.{record_long, mark_of, notes_of, standing, mask_of, held, hidden, kept_words, put_back}
use Rattle.state.specs.Visits.{limit_of, visit, plan, ruled, meaning, out, Steady, Gives}
use Rattle.cycle.specs.Cycle.{Ready}
use Rattle.state.proofs.AnswerWords.{out-answer}
use Rattle.state.proofs.Asking.{goes_on, not_done}
use Rattle.leaves.proofs.Walking.{returned}
use Rattle.leaves.proofs.Patterns.{scope-operand-below}
use Rattle.cycle.proofs.Ruling.{ruled-scope}
use Rattle.state.proofs.Holding.{further, length-hidden, mark-hidden, notes-hidden, held-hidden, held-apart, held-unscope, framed-unscope}
use Rattle.state.proofs.Holding.{shown, mark-shown, notes-shown, held-shown, framed-shown}

-- a visit's answer r with the record st, and the same word with a record st'' that holds f of the bindings
rebound : (t : List ℕ) (n : ℕ) (q : Visit ℕ) (w : List ℕ) (m : Standing) (u r : ℕ) (st w' : List ℕ) → out r st w' ≡ visit t n q w m u
    → (st'' : List ℕ) (f : Bindings ℕ → Bindings ℕ) → held st'' ≡ f (held st) → mark_of st'' ≡ mark_of st → notes_of st'' ≡ notes_of st → out r st'' w' ≡ plan t n (ask keep q (λ h c. ret h (f c)) fail) w m u
unfolding meaning
rebound t n q w m u r st w' is st'' f holds mark miss = go (answer_of r) refl
  where
    go : (a : Answer) → a ≡ answer_of r → out r st'' w' ≡ plan t n (ask keep q (λ h c. ret h (f c)) fail) w m u
    go (Done x v) e =
        out-answer st'' w' r (Done x v) e ∙ rw (holds, mark, miss)
        (sym (goes_on t n w m u q r st w' is (Done x v) e (λ h c. ret h (f c)) fail x v refl
        ∙ returned t n w' (standing st) v x (f (held st))))
    go (Failed v) e =
        out-answer st'' w' r (Failed v) e ∙ ap (λ z. lost (left_of w' (at (mark_of st) z)) v) miss ∙ sym (out-answer st w' r (Failed v) e)
        ∙ not_done t n w m u q r st w' is (Failed v) e keep (λ h c. ret h (f c)) (inl refl)
    go (Cut c) e =
        out-answer st'' w' r (Cut c) e ∙ ap (λ z. cut (limit_of c) (left_of w' (at (mark_of st) z)) (units_in c)) miss
        ∙ sym (out-answer st w' r (Cut c) e) ∙ not_done t n w m u q r st w' is (Cut c) e keep (λ h c. ret h (f c)) (inr refl)

-- what is bound with some variables hidden is bound without
masked-some : (m v j : ℕ) (b : Bindings ℕ) → masked m unbound b v ≡ some j → b v ≡ some j
unfolding masked
masked-some m v j b = go (has m v)
  where
    go : (h : Bool) → (if h then none else b v) ≡ some j → b v ≡ some j
    go true e = absurd (let z : ◌≡◌ {A = ℕ} 0 1 = cc in omega arith)
    go false e = e

steady-masked : {w : List ℕ} {m : Standing} {b : Bindings ℕ} (i : ℕ) → Steady w m b → Steady w m (masked i unbound b)
steady-masked {b = b} i s = record { fits = s.fits; used = s.used; good = s.good; bound = λ v j e. s.bound v j (masked-some i v j b e) }

-- entry e is a SCOPE of the mask i, its operand x
module _ {t w st : List ℕ} {e s x i : ℕ} (n : ℕ) (ready : Ready t w st e s) (ie : i ≡ mask_by ours t e) (small : i < 2 ^ variables) (xe : x ≡ word_at t e (1 + ours)) (scope : kind_of t e ≡ 16) where
  abbrev Returns : ℕ → List ℕ → List ℕ → Type 0
  Returns r st'' w' = Gives (ruled t n e (node_in s) (held st) w (standing st) (units_in s)) st r st'' w'

  abbrev inner : Visit ℕ
  inner = apply x (node_in s) (masked i unbound (held st))

  inside : x < 4096
  inside = rw xe (scope-operand-below t ready.entries e ready.inside scope)

  -- nothing masked is bound
  pub ready-scope : Ready t w st x s
  ready-scope = record { entries = ready.entries; hints = ready.hints; long = ready.long; inside = inside; steady = ready.steady; subject = ready.subject }

  module _ {got : ℕ} {st' w' : List ℕ} (gives : Gives (visit t n (apply x (node_in s) (held st)) w (standing st) (units_in s)) st got st' w') where
    long' : length st' ≡ record_long
    long' = gives.frame.long ∙ ready.long

    pub gives-scope : {st'' : List ℕ} → bit_and (mask_of st) i ≡ 0 → st'' ≡ hidden st' i → Returns got st'' w'
    gives-scope apart f =
        subst (λ p. Returns got p w') (sym f) (
        record {
          is =
              rebound t n inner w (standing st) (units_in s) got st' w'
              (gives.is ∙ ap (λ b. visit t n (apply x (node_in s) b) w (standing st) (units_in s)) (held-apart further st i apart))
              (hidden st' i) (masked i (held st)) (held-unscope further st i apart st' long' small) (mark-hidden further st' i long' small)
              (notes-hidden further st' i long' small)
              ∙ sym (ruled-scope t n e (node_in s) (held st) w (standing st) (units_in s) x xe i ie scope);
          frame = framed-unscope further st i apart st' long' small gives.frame;
        }
        )

  -- some masked variable is bound, and they are hidden
  pub ready-hiding : {st₁ : List ℕ} → st₁ ≡ hidden st i → Ready t w st₁ x s
  ready-hiding f =
      subst (λ p. Ready t w p x s) (sym f) (
      record {
        entries = ready.entries;
        hints = ready.hints;
        long = length-hidden further st i ready.long small;
        inside = inside;
        steady = rw (mark-hidden further st i ready.long small, notes-hidden further st i ready.long small, held-hidden further st i ready.long small) (steady-masked i ready.steady);
        subject = rw (mark-hidden further st i ready.long small) ready.subject;
      }
      )

  module _ {got : ℕ} {st' w' : List ℕ} (gives : Gives (visit t n (apply x (node_in s) (held (hidden st i))) w (standing (hidden st i)) (units_in s)) (hidden st i) got st' w') where
    long'' : length st' ≡ record_long
    long'' = gives.frame.long ∙ length-hidden further st i ready.long small

    gives-shown : Returns got (shown further st i st') w'
    gives-shown = record {
      is =
          rebound t n inner w (standing st) (units_in s) got st' w'
          (gives.is ∙ rw (
            mark-hidden further st i ready.long small,
            notes-hidden further st i ready.long small,
            held-hidden further
                st i ready.long small,
          )) (shown further st i st') (masked i (held st)) (held-shown further st i st' long'' small)
          (mark-shown further st i st' long'' small) (notes-shown further st i st' long'' small)
          ∙ sym (ruled-scope t n e (node_in s) (held st) w (standing st) (units_in s) x xe i ie scope);
      frame = framed-shown further st i st' long'' small ready.long gives.frame;
    }

  -- the record before the operand, after it, with what it bound of the mask unbound, and with what was hidden put back
  pub gives-hiding : {h got : ℕ} {st₁ st' st₂ st₃ ks w' : List ℕ} → st₁ ≡ hidden st i → Gives (visit t n (apply x (node_in s) (held st₁)) w (standing st₁) (units_in s)) st₁ got st' w'
      → h ≡ bit_and (mask_of st) i → ks ≡ kept_words st h → st₂ ≡ hidden st' i → st₃ ≡ put_back ks h st₂ → Returns got st₃ w'
  gives-hiding {got = got} {st' = st'} {st₃ = st₃} {w' = w'} f gives he ke f₂ f₃ =
      let z : st₃ ≡ shown further st i st' = f₃ ∙ rw (f₂, ke, he) in
      subst (λ p. Returns got p w') (sym z) (
      gives-shown (subst (λ p. Gives (visit t n (apply x (node_in s) (held p)) w (standing p) (units_in s)) p got st' w') f gives)
      )
