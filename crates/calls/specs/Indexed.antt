-- Wish 12, one node for one term: what a call with an index refuses and returns, for every input. The index is x, words of 32 bits, in lent
-- memory; it may hold anything before. `indexed_of` is the contract of `run_indexed`, `indexed_many_of` of `run_many_indexed`.
use Rattle.std.specs.Prelude.{◌≡◌, Bool, List, [], ◌∷◌, ◌++◌, ℕ, ◌*◌, eqb, leb, length, replicate, if◌then◌else◌}
use Rattle.std.proofs.Math.Option.{Option}
use Rattle.words.specs.Words.{rows}
use Rattle.checks.specs.Kinds.{ours}
use Rattle.checks.specs.Checked.{checked, found}
use Rattle.checks.specs.Checked.{Checked}
use Rattle.meaning.specs.Derivation.{places, nowhere}
use Rattle.meaning.specs.Store.{Input}
use Rattle.meaning.specs.Answer.{Returned, returned_by}
use Rattle.meaning.specs.Shared.{twin, shared_ran_by}
use Rattle.calls.specs.Refused.{or_else, start_fits, starts_fit, words_refused_by}
use Rattle.calls.specs.Run.{at_return, refusing}
use Rattle.calls.specs.Many.{Module, single, five}
use Rattle.calls.specs.Outcome.{Outcome}

-- the index has at least two words for each node of the store
unfoldable pub index_fits : List ℕ → List ℕ → Bool
index_fits s x = leb (2 * rows s) (length x)

-- what is refused before the start is looked at: 2 for too short an index too; then all that a run refuses; then 21 with the lowest node
-- below the mark that has an earlier one's words
unfoldable pub indexed_words_refused_by : ℕ → (g : Option (List ℕ)) (t s b : List ℕ) (mark : ℕ) (x : List ℕ) → Checked
indexed_words_refused_by W g t s b mark x = if index_fits s x then or_else (words_refused_by W g t s b mark) (found 21 (twin s mark)) else checked 2 0

-- the refusal, or 0 with place 0, with the signature g where one is lent
unfoldable pub indexed_refused_by : ℕ → Option (List ℕ) → Input → List ℕ → Checked
indexed_refused_by W g i x =
    or_else (indexed_words_refused_by W g i.table i.store i.bindings i.mark x)
    (if start_fits i.table i.bindings i.mark i.start i.subject then checked 0 0 else checked 5 0)

-- what comes back: that of a run, and every word of the index
pub record IndexedReturned : Type 0 where
  pub run : Returned
  pub index : List ℕ

abbrev pub indexed_at_return : Outcome → (s b x : List ℕ) → IndexedReturned
indexed_at_return r s b x = record { run = at_return r s b; index = x }

-- refused, and the index is as lent; or the variant's run, and the index is all zero
unfoldable pub indexed_of_by : ℕ → Option (List ℕ) → Input → List ℕ → IndexedReturned
indexed_of_by W g i x =
    if eqb (indexed_refused_by W g i x).answer 0 then record { run = returned_by W i (shared_ran_by W places nowhere i); index = replicate (length x) 0 }
    else record { run = refusing i (indexed_refused_by W g i x); index = x }

-- ---- many subjects

unfoldable pub indexed_many_refused_by : ℕ → Option (List ℕ) → Module → List ℕ → Checked
indexed_many_refused_by W g c x =
    if eqb (length c.results) (5 * length c.subjects)
    then or_else (indexed_words_refused_by W g c.table c.store c.bindings c.mark x)
    (if starts_fit c.table c.bindings c.mark c.start c.subjects then checked 0 0 else checked 5 0)
    else checked 2 0

-- what calls in turn leave: their numbers, one call after the other, the store's words and the index
pub record IndexedTurns : Type 0 where
  pub results : List ℕ
  pub store : List ℕ
  pub index : List ℕ

abbrev pub indexed_before : List ℕ → IndexedTurns → IndexedTurns
indexed_before ns r = record { results = ns ++ r.results; store = r.store; index = r.index }

-- single calls in turn over the subjects ks, from the store's words s, the index x and the mark m on
unfoldable pub indexed_in_turn_by : ℕ → Option (List ℕ) → Module → (s x : List ℕ) → ℕ → List ℕ → IndexedTurns
indexed_in_turn_by W g c s x m [] = record { results = []; store = s; index = x }
indexed_in_turn_by W g c s x m (k ∷ ks) =
    let r = indexed_of_by W g (single c s m k) x in
    indexed_before (five r.run) (indexed_in_turn_by W g c r.run.store r.index r.run.mark ks)

-- what comes back: answer and place, with every word of the results, of the store and of the index at return
pub record IndexedManyReturned : Type 0 where
  pub answer : ℕ
  pub place : ℕ
  pub results : List ℕ
  pub store : List ℕ
  pub index : List ℕ

abbrev pub indexed_many_at_return : Checked → (results s x : List ℕ) → IndexedManyReturned
indexed_many_at_return r results s x = record { answer = r.answer; place = r.place; results = results; store = s; index = x }

-- refused, and nothing is written; or 0 and 0, with what calls in turn leave
unfoldable pub indexed_many_of_by : ℕ → Option (List ℕ) → Module → List ℕ → IndexedManyReturned
indexed_many_of_by W g c x =
    let r = indexed_many_refused_by W g c x in
    let t = indexed_in_turn_by W g c c.store x c.mark c.subjects in
    if eqb r.answer 0 then indexed_many_at_return (checked 0 0) t.results t.store t.index else indexed_many_at_return r c.results c.store x

-- the same in the product
abbrev pub indexed_refused : Option (List ℕ) → Input → List ℕ → Checked
indexed_refused = indexed_refused_by ours

abbrev pub indexed_of : Option (List ℕ) → Input → List ℕ → IndexedReturned
indexed_of = indexed_of_by ours

abbrev pub indexed_many_refused : Option (List ℕ) → Module → List ℕ → Checked
indexed_many_refused = indexed_many_refused_by ours

abbrev pub indexed_many_of : Option (List ℕ) → Module → List ℕ → IndexedManyReturned
indexed_many_of = indexed_many_of_by ours
