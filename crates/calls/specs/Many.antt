-- A whole module in one call: what a call over many subjects returns, for every input. It is what single calls in turn return, each
-- with the bindings given to the call, its own full units and the mark left by the one before.
use Rattle.std.specs.Prelude.{Bool, ◌&&◌, List, [], ◌∷◌, ◌++◌, ℕ, ◌*◌, eqb, length, if◌then◌else◌}
use Rattle.std.proofs.Math.Option.{Option}
use Rattle.checks.specs.Kinds.{ours}
use Rattle.checks.specs.Checked.{checked}
use Rattle.checks.specs.Checked.{Checked}
use Rattle.meaning.specs.Store.{Input}
use Rattle.meaning.specs.Answer.{Returned}
use Rattle.calls.specs.Refused.{or_else, start_fits, words_refused_by, starts_fit}
use Rattle.calls.specs.Run.{input, run_with_by}

-- what is handed to a call over many subjects; `results` is the lent list
pub record Module : Type 0 where
  pub table : List ℕ
  pub store : List ℕ
  pub bindings : List ℕ
  pub mark : ℕ
  pub start : ℕ
  pub subjects : List ℕ
  pub units : ℕ
  pub results : List ℕ

abbrev pub handed : (t s b : List ℕ) (mark start : ℕ) (ks : List ℕ) (units : ℕ) → List ℕ → Module
handed t s b mark start ks units results = record { table = t; store = s; bindings = b; mark = mark; start = start; subjects = ks; units = units; results = results }

-- the refusal, or 0 with place 0, with the signature g where one is lent: the list has five words per subject; then all that a run
-- refuses before it looks at its start; then the start, and every subject below the first mark
unfoldable pub many_refused_by : ℕ → Option (List ℕ) → Module → Checked
many_refused_by W g c =
    if eqb (length c.results) (5 * length c.subjects)
    then or_else (words_refused_by W g c.table c.store c.bindings c.mark)
    (if starts_fit c.table c.bindings c.mark c.start c.subjects then checked 0 0 else checked 5 0)
    else checked 2 0

-- the single call on the subject k, over the store's words s with the mark m
abbrev pub single : Module → List ℕ → ℕ → ℕ → Input
single c s m k = input c.table s c.bindings m c.start k c.units

-- the five numbers of a run
abbrev pub five : Returned → List ℕ
five r = r.answer ∷ r.place ∷ r.subject ∷ r.mark ∷ r.units ∷ []

-- what calls in turn leave: their numbers, one call after the other, and the store's words
pub record Turns : Type 0 where
  pub results : List ℕ
  pub store : List ℕ

-- the numbers of one call, then those of the calls after it
abbrev pub before : List ℕ → Turns → Turns
before ns r = record { results = ns ++ r.results; store = r.store }

-- single calls in turn over the subjects ks, from the store's words s and the mark m on: a call that fails, is cut off or is done hands
-- its store and its mark to the next
unfoldable pub in_turn_by : ℕ → Option (List ℕ) → Module → List ℕ → ℕ → List ℕ → Turns
in_turn_by W g c s m [] = record { results = []; store = s }
in_turn_by W g c s m (k ∷ ks) =
    let r = run_with_by W g (single c s m k) in
    before (five r) (in_turn_by W g c r.store r.mark ks)

-- what comes back: answer and place, with every word of the results and of the store at return
pub record ManyReturned : Type 0 where
  pub answer : ℕ
  pub place : ℕ
  pub results : List ℕ
  pub store : List ℕ

abbrev pub many_at_return : Checked → List ℕ → List ℕ → ManyReturned
many_at_return r results s = record { answer = r.answer; place = r.place; results = results; store = s }

-- 0 and 0, with what calls in turn leave; without subjects they leave all as it was
abbrev pub after_turns : Turns → ManyReturned
after_turns r = record { answer = 0; place = 0; results = r.results; store = r.store }

-- a refusal writes nothing
abbrev pub many_refusing : Module → Checked → ManyReturned
many_refusing c r = record { answer = r.answer; place = r.place; results = c.results; store = c.store }

-- refused, or run in turn
unfoldable pub many_of_by : ℕ → Option (List ℕ) → Module → ManyReturned
many_of_by W g c = if eqb (many_refused_by W g c).answer 0 then after_turns (in_turn_by W g c c.store c.mark c.subjects) else many_refusing c (many_refused_by W g c)

-- the same in the product
abbrev pub many_refused : Option (List ℕ) → Module → Checked
many_refused = many_refused_by ours

abbrev pub many_of : Option (List ℕ) → Module → ManyReturned
many_of = many_of_by ours
