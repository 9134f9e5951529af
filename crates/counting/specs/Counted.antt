-- The counted run: what it refuses and what it returns, for every input. `counted_of` is the contract of `run_counted`, `indexed_counted_of`
-- of `run_indexed_counted`. The counts are words of 64 bits, four for each entry of the table: its visits as a strategy, successes,
-- failures, and visits in flight at a cut-off.
use Rattle.std.specs.Prelude.{Bool, true, false, List, ℕ, ◌+◌, ◌*◌, eqb, leb, length, get_or, replicate, if◌then◌else◌}
use Rattle.std.proofs.Math.Option.{Option}
use Rattle.words.specs.Tests.{every, rejected}
use Rattle.words.specs.Words.{rows}
use Rattle.checks.specs.Checked.{checked, found}
use Rattle.checks.specs.Checked.{Checked}
use Rattle.meaning.specs.Store.{Input}
use Rattle.calls.specs.Refused.{or_else, refused_with}
use Rattle.calls.specs.Run.{refusing}
use Rattle.calls.specs.Indexed.{indexed_refused}
use Rattle.tallying.specs.Added.{Counted}
use Rattle.tallying.specs.Counts.{highest}
use Rattle.tallying.specs.Added.{CountedReturned, counted_at_return, counted_end, ran_if}

-- ---- what is refused

-- the list has four words for each entry of the table
unfoldable pub counts_fit : (t cs : List ℕ) → Bool
counts_fit t cs = eqb (length cs) (4 * rows t)

-- no count of entry x is too high
unfoldable pub has_room : List ℕ → ℕ → Bool
has_room cs x = every (λ j. leb (get_or cs (4 * x + j) 0) highest) 0 4

-- 24 with the lowest of n entries that has a count too high
unfoldable pub counts_checked : List ℕ → ℕ → Checked
counts_checked cs n = found 24 (rejected (has_room cs) 0 n)

-- the refusal, or 0 with place 0, c being what is refused without counts: 2 for a list of another length too, then c, then 24
unfoldable pub refused_counting : Checked → (t cs : List ℕ) → Checked
refused_counting c t cs = if counts_fit t cs then or_else c (counts_checked cs (rows t)) else checked 2 0

-- ---- what comes back

-- a refusal adds nothing, and has no visits
abbrev pub refusing_counting : Input → Checked → List ℕ → CountedReturned
refusing_counting i c cs = record { run = refusing i c; patterns = 0; pairs = 0; counts = cs }

-- refused, or run, with the signature g where one is lent
unfoldable pub counted_of : Option (List ℕ) → Input → List ℕ → CountedReturned
counted_of g i cs =
    let c = refused_counting (refused_with g i.table i.store i.bindings i.mark i.start i.subject) i.table cs in
    if eqb c.answer 0 then counted_end i (ran_if false i) cs else refusing_counting i c cs

-- what comes back with an index, and every word of the index
pub record IndexedCountedReturned : Type 0 where
  pub run : CountedReturned
  pub index : List ℕ

abbrev pub indexed_counted_at_return : Counted → (s b cs x : List ℕ) → IndexedCountedReturned
indexed_counted_at_return r s b cs x = record { run = counted_at_return r s b cs; index = x }

-- refused, and the index is as lent; or run with one node for one term, and the index is all zero
unfoldable pub indexed_counted_of : Option (List ℕ) → Input → (x cs : List ℕ) → IndexedCountedReturned
indexed_counted_of g i x cs =
    let c = refused_counting (indexed_refused g i x) i.table cs in
    if eqb c.answer 0 then record { run = counted_end i (ran_if true i) cs; index = replicate (length x) 0 }
    else record { run = refusing_counting i c cs; index = x }
