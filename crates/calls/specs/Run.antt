-- What a run returns, for every input: the five numbers and every word of the store and of the bindings.
use Rattle.std.specs.Prelude.{◌≡◌, List, ℕ, ◌-◌, eqb, if◌then◌else◌}
use Rattle.std.proofs.Math.Option.{Option, none}
use Rattle.checks.specs.Kinds.{ours}
use Rattle.checks.specs.Checked.{Checked}
use Rattle.meaning.specs.Limits.{ended, lost, cut}
use Rattle.meaning.specs.Derivation.{places, nowhere}
use Rattle.meaning.specs.Store.{Input, Ran, ran_by}
use Rattle.meaning.specs.Answer.{Returned, number, place_of, returned_by}
use Rattle.calls.specs.Refused.{refused_with_by}
use Rattle.calls.specs.Outcome.{Outcome}

-- what is handed over
abbrev pub input : List ℕ → List ℕ → List ℕ → ℕ → ℕ → ℕ → ℕ → Input
input t s b mark start subject units = record { table = t; store = s; bindings = b; mark = mark; start = start; subject = subject; units = units }

-- what comes back: the five numbers with the words at return
abbrev pub at_return : Outcome → List ℕ → List ℕ → Returned
at_return r s b = record { answer = r.answer; place = r.place; subject = r.subject; mark = r.mark; units = r.units; store = s; bindings = b }

-- a refusal writes nothing, and its units are 0
abbrev pub refusing : Input → Checked → Returned
refusing i c = record { answer = c.answer; place = c.place; subject = i.subject; mark = i.mark; units = 0; store = i.store; bindings = i.bindings }

-- refused, or run, with the signature g where one is lent
unfoldable pub run_with_by : ℕ → Option (List ℕ) → Input → Returned
run_with_by W g i =
    if eqb (refused_with_by W g i.table i.store i.bindings i.mark i.start i.subject).answer 0 then returned_by W i (ran_by W places nowhere i)
    else refusing i (refused_with_by W g i.table i.store i.bindings i.mark i.start i.subject)

-- the run where no signature is lent
abbrev pub run_of_by : ℕ → Input → Returned
run_of_by W i = run_with_by W none i

-- the five numbers of a run's end, k being the subject, m the mark and u the units that it was given
unfoldable pub numbers : (k m u : ℕ) → Ran ℕ → Outcome
numbers k m u (ended x b s v) = record { answer = 0; place = 0; subject = x; mark = s.mark; units = u - v }
numbers k m u (lost l v) = record { answer = 1; place = l.notes; subject = k; mark = m; units = u - v }
numbers k m u (cut c l v) = record { answer = number c; place = place_of c; subject = k; mark = m; units = u - v }

-- the store's words at a run's end
unfoldable pub words_of : Ran ℕ → List ℕ
words_of (ended x b s v) = s.words
words_of (lost l v) = l.words
words_of (cut c l v) = l.words

-- the same in the product
abbrev pub run_with : Option (List ℕ) → Input → Returned
run_with = run_with_by ours

abbrev pub run_of : Input → Returned
run_of = run_of_by ours
