-- What the contracts of start and step promise together: one theorem over every list of step counts.
use Rattle.std.specs.Prelude.{◌≡◌, ℕ, ◌+◌, ◌<◌, true, List, [], ◌∷◌, ◌≢◌}
use Rattle.std.proofs.Math.Option.{Option}
use Rattle.meaning.specs.Store.{Input, Accepted}
use Rattle.calls.specs.Run.{at_return, run_with}
use Rattle.calls.specs.Outcome.{Outcome}
use Rattle.stepping.specs.Stepping.{Lists, lists, numbers, Holds, Starts, Zero, StepsOn, lengths_fit}

-- the visits of the steps together
unfoldable pub sum : List ℕ → ℕ
sum [] = 0
sum (v ∷ vs) = v + sum vs

-- Step calls in turn over the table t, one for each number of visits, each on the lists as the one before left them: nobody has touched
-- them. All but the last have answered 25; r is the last one's answer.
pub data Calls (t : List ℕ) : List ℕ → Lists → Outcome → Lists → Type 0 where
  last : {v : ℕ} {M M' : Lists} {r : Outcome} → StepsOn t M v r M' → Calls t (v ∷ []) M r M'
  more : {v : ℕ} {vs : List ℕ} {M M' M'' : Lists} {r r' : Outcome}
      → StepsOn t M v r M' → r.answer ≡ 25 → Calls t vs M' r' M'' → Calls t (v ∷ vs) M r' M''

-- The run was started with the signature g, where one was lent, and 25 was answered; the calls were made on what it left.
pub record SteppedBy (g : Option (List ℕ)) (i : Input) (vs : List ℕ) (r : Outcome) (M : Lists) : Type 0 where
  pub before : List ℕ
  pub work : List ℕ
  pub first : Outcome
  pub started : Starts g i before first work
  pub begun : first.answer ≡ 25
  pub calls : Calls i.table vs (lists i.store i.bindings work) r M

-- Stepped to its end by any step counts, it gives the five numbers, store and bindings of the run, and the work list is zero.
abbrev pub AnySteps : Type 0
AnySteps =
    (g : Option (List ℕ)) (i : Input) (vs : List ℕ) (r : Outcome) (M : Lists) → SteppedBy g i vs r M → (r.answer ≢ 25)
    → (at_return r M.store M.bindings ≡ run_with g i) × Zero M.work

-- An unfinished run has made exactly the visits of its steps.
abbrev pub ExactVisits : Type 0
ExactVisits =
    (g : Option (List ℕ)) (i : Input) (vs : List ℕ) (r : Outcome) (M : Lists) → SteppedBy g i vs r M → r.answer ≡ 25
    → r ≡ numbers 25 0 i.subject i.mark (sum vs)

-- With more visits than units it has ended.
abbrev pub EndsInTime : Type 0
EndsInTime =
    (g : Option (List ℕ)) (i : Input) (vs : List ℕ) (r : Outcome) (M : Lists) → SteppedBy g i vs r M → i.units < sum vs
    → r.answer ≢ 25

-- Two outcomes of one step on lists that hold a run agree in the five numbers, and where the run has ended in every word of the store and of
-- the bindings; the work list is zero then.
abbrev pub Agreeing : Type 0
Agreeing =
    (t : List ℕ) (i : Input) (n v : ℕ) (M M' M'' : Lists) (r r' : Outcome) → Accepted i → i.table ≡ t → Holds i n M
    → StepsOn t M v r M' → StepsOn t M v r' M''
    → (r ≡ r') × ((r.answer ≢ 25) → (M'.store ≡ M''.store) × (M'.bindings ≡ M''.bindings))

-- A list that is zero holds no run: a step answers 27 with zeros and writes nothing.
abbrev pub ZeroRefused : Type 0
ZeroRefused =
    (t : List ℕ) (M M' : Lists) (v : ℕ) (r : Outcome) → lengths_fit t M ≡ true → Zero M.work → StepsOn t M v r M'
    → (r ≡ numbers 27 0 0 0 0) × (M' ≡ M)
