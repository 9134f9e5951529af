-- A run that can be set aside: what the start call and the step call return, and what the lent memory holds between them.
use Rattle.std.specs.Prelude.{◌≡◌, ℕ, ◌+◌, ◌-◌, ◌*◌, ◌<◌, min, Bool, true, false, ◌&&◌, List, [], length, ◌==◌, ◌≢◌, nat_le, nat_lt, slice_index, if◌then◌else◌}
use Rattle.std.proofs.Math.Option.{Option}
use Rattle.words.specs.Words.{word_at}
use Rattle.checks.specs.Kinds.{variables}
use Rattle.checks.specs.Checked.{checked, table_length_fits, store_length_fits}
use Rattle.checks.specs.Checked.{Checked}
use Rattle.meaning.specs.Derivation.{What, Event, history, nowhere}
use Rattle.meaning.specs.Mapped.{renoted}
use Rattle.meaning.specs.Table.{table}
use Rattle.meaning.specs.Rules.{apply, does}
use Rattle.meaning.specs.Steps.{over, next, steps, start}
use Rattle.meaning.specs.Store.{Input, Accepted, bindings, deepest, on}
use Rattle.meaning.specs.Shared.{store_by}
use Rattle.meaning.specs.Answer.{returned}
use Rattle.calls.specs.Refused.{refused_with}
use Rattle.calls.specs.Run.{at_return}
use Rattle.calls.specs.Outcome.{Outcome}
use Rattle.machine.specs.Stack.{Run, Stands}
use Rattle.machine.specs.Machine.{Lent}
use Rattle.machine.specs.declared.Machine.{Machine}

-- the least length of a work list: 80 words for each of 4,096 levels
abbrev pub work_words : ℕ
work_words = 327680

-- five numbers
abbrev pub numbers : (answer place subject mark units : ℕ) → Outcome
numbers a p k m u = record { answer = a; place = p; subject = k; mark = m; units = u }

-- ---- the start call

-- the refusal of a start, or 0 with place 0, with the signature g where one is lent and the work list k: a list too short is a bad length
unfoldable pub start_refused : Option (List ℕ) → Input → List ℕ → Checked
start_refused g i k =
    if nat_le work_words (length k) then refused_with g i.table i.store i.bindings i.mark i.start i.subject
    else checked 2 0

-- 25 with subject and mark as given, no units used; or the refusal
unfoldable pub start_numbers : Option (List ℕ) → Input → List ℕ → Outcome
start_numbers g i k =
    if (start_refused g i k).answer == 0 then numbers 25 0 i.subject i.mark 0
    else numbers (start_refused g i k).answer (start_refused g i k).place i.subject i.mark 0

-- ---- what the lent memory holds between two calls

-- the three lists that a step works on
pub record Lists : Type 0 where
  pub store : List ℕ
  pub bindings : List ℕ
  pub work : List ℕ

abbrev pub lists : List ℕ → List ℕ → List ℕ → Lists
lists w b k = record { store = w; bindings = b; work = k }

-- the run of an input, before its visit n + 1, with nodes shared or not; what happens to visits is noted, which no answer shows
unfoldable pub run_after_by : Bool → Input → ℕ → Run
run_after_by sh i n =
    steps (store_by sh history) (does (table i.table)) n
    (start (store_by sh history) (does (table i.table)) deepest (apply i.start i.subject (bindings i.bindings))
    (on i.store i.mark (nowhere, [])) i.units)

-- nodes are not shared in a run that can be set aside
abbrev pub run_after : Input → ℕ → Run
run_after = run_after_by false

-- the two rows of the run's own words stand at the place of the deepest visit, which opens no frame: 1 more than the mode, then the
-- machine's other words; and what was given: units, subject, mark
abbrev pub own_row : ℕ
own_row = 40950

-- a level above the deepest is read as the deepest
abbrev pub level_in : (mode level : ℕ) → ℕ
level_in mode level = min level (if nat_lt mode 4 then 4096 else 4095)

abbrev pub machine_in : List ℕ → Machine
machine_in k = record {
  x = word_at k own_row 1;
  mode = word_at k own_row 0 - 1;
  y = word_at k own_row 2;
  level = level_in (word_at k own_row 0 - 1) (word_at k own_row 3);
  mark = word_at k own_row 4;
  place = word_at k own_row 5;
  fuel = word_at k own_row 6;
  mask = word_at k own_row 7 + 4294967296 * word_at k (own_row + 1) 0;
}

-- what was given
pub record Given (i : Input) (k : List ℕ) : Type 0 where
  pub units : word_at k (own_row + 1) 1 ≡ i.units
  pub subject : word_at k (own_row + 1) 2 ≡ i.subject
  pub mark : word_at k (own_row + 1) 3 ≡ i.mark

-- the lists hold the run of the input i after n visits, before the limit test of the next one: the work list has what is pending and the
-- units left, the store the nodes made so far, and the bindings are as given
pub record Holds (i : Input) (n : ℕ) (M : Lists) : Type 0 where
  pub lent : Lent M.store M.work
  pub begun : 0 < word_at M.work own_row 0
  pub asked : (machine_in M.work).mode < 4
  pub flight : List What
  pub log : List Event
  pub stands : Stands false i.table (machine_in M.work) M.store M.work flight log (run_after i n)
  pub fuel : (machine_in M.work).fuel + n ≡ i.units
  pub given : Given i M.work
  pub bindings : M.bindings ≡ i.bindings

-- the start: its numbers; a refusal writes nothing; else the list holds the run
pub record Starts (g : Option (List ℕ)) (i : Input) (k : List ℕ) (r : Outcome) (k' : List ℕ) : Type 0 where
  pub numbers : r ≡ start_numbers g i k
  pub refused : (r.answer ≢ 25) → k' ≡ k
  pub begun : r.answer ≡ 25 → Accepted i × Holds i 0 (lists i.store i.bindings k')

-- ---- the step call

-- the lengths that a start asks for
unfoldable pub lengths_fit : List ℕ → Lists → Bool
lengths_fit t M =
    table_length_fits (length t) && (store_length_fits (length M.store)
    && (length M.bindings == variables && nat_le work_words (length M.work)))

-- every word is zero
abbrev pub Zero : List ℕ → Type 0
Zero k = (j : ℕ) → slice_index k j ≡ 0

-- what is answered where the run has come to X by n visits: it is over, and numbers, store and bindings are those of the run's end and the
-- work list is zero; or it is unfinished, 25 with subject and mark as given and n units used, and the lists hold it
abbrev pub AnswersAt : Input → ℕ → Run → Outcome → Lists → Type 0
AnswersAt i n (over e) r M = (at_return r M.store M.bindings ≡ returned i (renoted (λ n. n.0) e)) × Zero M.work
AnswersAt i n (next s u f fs) r M = (r ≡ numbers 25 0 i.subject i.mark n) × Holds i n M

abbrev pub Answers : Input → ℕ → Outcome → Lists → Type 0
Answers i n r M = AnswersAt i n (run_after i n) r M

-- the answers of a step
pub data StepAnswer : ℕ → Type 0 where
  done : StepAnswer 0
  failed : StepAnswer 1
  bad-length : StepAnswer 2
  cut_off : (n : ℕ) → 5 < n → n < 9 → StepAnswer n
  unbound : StepAnswer 12
  unfinished : StepAnswer 25
  nothing-begun : StepAnswer 27

-- a step of v visits over the table t: refused by its lengths, or on a list without a run, it writes nothing; on lists that hold the run of
-- an input it does v visits of it, or fewer if it ends. Whatever the lists hold, it answers with a number of the list
pub record StepsOn (t : List ℕ) (M : Lists) (v : ℕ) (r : Outcome) (M' : Lists) : Type 0 where
  pub lengths : lengths_fit t M ≡ false → (r ≡ numbers 2 0 0 0 0) × (M' ≡ M)
  pub zero : lengths_fit t M ≡ true → word_at M.work own_row 0 ≡ 0 → (r ≡ numbers 27 0 0 0 0) × (M' ≡ M)
  pub goes : (i : Input) (n : ℕ) → Accepted i → i.table ≡ t → Holds i n M → Answers i (n + v) r M'
  pub listed : StepAnswer r.answer
