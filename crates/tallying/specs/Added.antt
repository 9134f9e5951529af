-- What an accepted run with counts adds to them, and what comes back of it. The counts are words of 64 bits, four for each entry of the
-- table: its visits as a strategy, successes, failures, and visits in flight at a cut-off.
use Rattle.std.specs.Prelude.{ℕ, zero, suc, ◌+◌, ◌-◌, ◌/◌, ◌%◌, Bool, List, [], ◌∷◌}
use Rattle.checks.specs.Kinds.{ours}
use Rattle.meaning.specs.Derivation.{Event, history, nowhere}
use Rattle.meaning.specs.Tallies.{is_entry, any_pattern, is_pair, counted, begins, wins, loses}
use Rattle.meaning.specs.Limits.{ended, lost, cut}
use Rattle.meaning.specs.Mapped.{renoted}
use Rattle.meaning.specs.Store.{Input, Ran}
use Rattle.meaning.specs.Shared.{ran_sharing}
use Rattle.meaning.specs.Answer.{Returned, returned}
use Rattle.calls.specs.Run.{at_return}
use Rattle.std.specs.Prelude.{Result, Ok, Err}
use Rattle.checks.specs.declared.refusal.Refusal.{Refusal}
use Rattle.calls.specs.Outcome.{Outcome, ran_of, outcome_of}
use Rattle.tallying.specs.declared.RanCounted.{RanCounted}
use Rattle.tallying.specs.declared.Seen.{Seen}

-- the seven numbers: those of a run, and its visits of patterns and of pairs
pub record Counted : Type 0 where
  pub ended : Outcome
  pub seen : Seen

-- those of an accepted run with counts
abbrev pub counted_ran : RanCounted → Counted
counted_ran r = record { ended = ran_of r.ran; seen = r.seen }

-- those of a run with counts that was given the subject k and the mark m, and may be refused: then it has no visits
abbrev pub counted_outcome : Result RanCounted Refusal → (k m : ℕ) → Counted
counted_outcome (Ok r) k m = counted_ran r
counted_outcome (Err e) k m = record { ended = outcome_of (Err e) k m; seen = record { patterns = 0; pairs = 0 } }

-- ---- what is added

-- what happened to visits until a run's end, the latest first
unfoldable pub log_of : Ran (ℕ × List Event) → List Event
log_of (ended k b s u) = s.notes.1
log_of (lost l u) = l.notes.1
log_of (cut c l u) = l.notes.1

-- what is added to count c of entry x: its visits that began, that succeeded, that failed, and that began and did not end
unfoldable pub added : List Event → (x c : ℕ) → ℕ
added log x zero = counted (begins (is_entry x)) log
added log x (suc zero) = counted (wins (is_entry x)) log
added log x (suc (suc zero)) = counted (loses (is_entry x)) log
added log x (suc (suc (suc c))) = counted (begins (is_entry x)) log - (counted (wins (is_entry x)) log + counted (loses (is_entry x)) log)

-- the counts with that added, the first of them being word j
unfoldable pub tallied : List Event → ℕ → List ℕ → List ℕ
tallied log j [] = []
tallied log j (c ∷ cs) = (c + added log (j / 4) (j % 4)) ∷ tallied log (suc j) cs

-- ---- what comes back

-- what comes back of a run, the visits of patterns and of pairs, and every word of the counts
pub record CountedReturned : Type 0 where
  pub run : Returned
  pub patterns : ℕ
  pub pairs : ℕ
  pub counts : List ℕ

abbrev pub counted_at_return : Counted → (s b cs : List ℕ) → CountedReturned
counted_at_return r s b cs = record { run = at_return r.ended s b; patterns = r.seen.patterns; pairs = r.seen.pairs; counts = cs }

-- the end e of an accepted run
abbrev pub counted_end : Input → Ran (ℕ × List Event) → List ℕ → CountedReturned
counted_end i e cs = record {
  run = returned i (renoted (λ n. n.0) e);
  patterns = counted (begins any_pattern) (log_of e);
  pairs = counted (begins is_pair) (log_of e);
  counts = tallied (log_of e) 0 cs;
}

-- the run that notes what happens to visits: over the plain store, or with one node for one term
abbrev pub ran_if : Bool → Input → Ran (ℕ × List Event)
ran_if sh i = ran_sharing sh ours history (nowhere, []) i
