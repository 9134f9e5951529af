-- What the contract of `run` promises, in the reader's words. `run`'s contract is `Runs` of what it was handed and what it
-- returned; each statement below holds of everything that meets it.
use Rattle.std.specs.Prelude.{◌≡◌, ◌≢◌, ◌↔◌, List, map, ℕ, ◌+◌, ◌*◌, ◌≤◌, ◌<◌, length, get_or}
use Rattle.words.specs.Words.{rows}
use Rattle.checks.specs.declared.kinds.Sort.TheVariants.{Strategy}
use Rattle.checks.specs.Kinds.{variables_by, sort_of}
use Rattle.checks.specs.Good.{kind_of, good_entry_by, good_node}
use Rattle.checks.specs.Plain.{TableLength, StoreLength, FaultyBy}
use Rattle.checks.specs.Checked.{Checked}
use Rattle.checks.specs.Checked.{checked, table_checked_by, store_checked}
use Rattle.checks.specs.Promises.{AllGood, Lowest}
use Rattle.meaning.specs.Term.{Term}
use Rattle.meaning.specs.System.{Env, ◌∶◌is◌, ◌⊢◌⇒◌, trace}
use Rattle.meaning.specs.Table.{SEQ, table_by}
use Rattle.meaning.specs.Derivation.{Out, failed, quiet, nowhere, misses, last_of}
use Rattle.meaning.specs.Limits.{Res, ended, lost, cut, Counted}
use Rattle.meaning.specs.Store.{Input, AcceptedBy, term, meant, bindings, Kept}
use Rattle.meaning.specs.Answer.{Returned, number, place_of}
use Rattle.meaning.specs.Small.{Case, cases}
use Rattle.meaning.specs.Demands.{Says, limits, start_visit, At, Encloses, Agreed, started}
use Rattle.collect.specs.Collected.{Afterwards}
use Rattle.collect.specs.Promises.{CollectsBy, lent_by, after}
use Rattle.meaning.specs.Orderings.{Site, Every, Separate, Reordered, InOrder}
use Rattle.free.specs.Answered.{FreeVariables}
use Rattle.free.specs.Answered.{AnsweredBy}
use Rattle.calls.specs.Refused.{refused_by}
use Rattle.calls.specs.Run.{at_return, run_of_by}
use Rattle.calls.specs.Outcome.{Outcome}

-- the outcome o with the store's words s and the bindings' words b meets the contract
abbrev pub Runs : ℕ → Input → Outcome → List ℕ → List ℕ → Type 0
Runs W i o s b = at_return o s b ≡ run_of_by W i

-- Two outcomes that meet the contract agree, in every number and every word.
abbrev pub Agreeing : ℕ → Type 0
Agreeing W = (i : Input) (o o' : Outcome) (s s' b b' : List ℕ) → Runs W i o s b → Runs W i o' s' b' → (o ≡ o') × (s ≡ s') × (b ≡ b')

-- the answers of a refusal, and all answers
pub data Refusal : ℕ → Type 0 where
  of-sizes : Refusal 2
  of_entry : (n : ℕ) → 12 < n → n < 18 → Refusal n
  of_node : Refusal 4
  of-start : Refusal 5

pub data InList : ℕ → Type 0 where
  when-done : InList 0
  when-failed : InList 1
  when-refused : (n : ℕ) → Refusal n → InList n
  when-cut-off : (n : ℕ) → 5 < n → n < 9 → InList n
  when-unbound : InList 12

-- Demand 1: every answer is one of the list.
abbrev pub Listed : ℕ → Type 0
Listed W = (i : Input) (o : Outcome) (s b : List ℕ) → Runs W i o s b → InList o.answer

-- Demand 1: malformed input, and no other, is refused.
abbrev pub Refuses : ℕ → Type 0
Refuses W = (i : Input) (o : Outcome) (s b : List ℕ) → Runs W i o s b → Refusal o.answer ↔ (AcceptedBy W i → ⊥)

-- Answer 3 is given by nothing that the linker calls: not by the run, the question of free variables, or a check.
pub record NeverThree (W : ℕ) : Type 0 where
  pub run : (i : Input) (o : Outcome) (s b : List ℕ) → Runs W i o s b → o.answer ≢ 3
  pub free : (t : List ℕ) (e : ℕ) (q : FreeVariables) → AnsweredBy W t e q → q.answer ≢ 3
  pub table : (t : List ℕ) (c : Checked) → c ≡ table_checked_by W t → c.answer ≢ 3
  pub store : (s : List ℕ) (mark : ℕ) (c : Checked) → c ≡ store_checked s mark → c.answer ≢ 3

-- ---- which refusal is given, both ways

-- what document 01 asks of the sizes
pub record SizesFit (W : ℕ) (i : Input) : Type 0 where
  pub table : TableLength (length i.table)
  pub store : StoreLength (length i.store)
  pub bindings : length i.bindings ≡ variables_by W
  pub mark : i.mark ≤ rows i.store

-- every entry is good; every node below the mark is good
abbrev pub EntriesGood : ℕ → Input → Type 0
EntriesGood W i = AllGood (good_entry_by W i.table) (rows i.table)

abbrev pub NodesGood : Input → Type 0
NodesGood i = AllGood (good_node i.store) i.mark

-- what document 01 asks of the start
pub record StartFits (i : Input) : Type 0 where
  pub inside : i.start < rows i.table
  pub strategy : sort_of (kind_of i.table i.start) ≡ Strategy
  pub subject : i.subject < i.mark
  pub bound : (v : ℕ) → get_or i.bindings v 0 ≤ i.mark

-- Answer 2: the sizes do not fit.
abbrev pub RefusesSizes : ℕ → Type 0
RefusesSizes W = (i : Input) (o : Outcome) (s b : List ℕ) → Runs W i o s b → (o.answer ≡ 2) ↔ (SizesFit W i → ⊥)

-- An answer from 13 on with its place: the sizes fit, the place is the lowest bad entry, and the answer is its first fault.
abbrev pub RefusesEntry : ℕ → Type 0
RefusesEntry W =
    (i : Input) (o : Outcome) (s b : List ℕ) (n p : ℕ) → 12 < n → Runs W i o s b
    → ((o.answer ≡ n) × (o.place ≡ p)) ↔ (SizesFit W i × Lowest (good_entry_by W i.table) (rows i.table) p × FaultyBy W i.table p n)

-- Answer 4 with its place: the sizes fit, every entry is good, and the place is the lowest bad node below the mark.
abbrev pub RefusesNode : ℕ → Type 0
RefusesNode W =
    (i : Input) (o : Outcome) (s b : List ℕ) (p : ℕ) → Runs W i o s b
    → ((o.answer ≡ 4) × (o.place ≡ p)) ↔ (SizesFit W i × EntriesGood W i × Lowest (good_node i.store) i.mark p)

-- Answer 5: the sizes fit, every entry and every node below the mark is good, and the start does not fit.
abbrev pub RefusesStart : ℕ → Type 0
RefusesStart W =
    (i : Input) (o : Outcome) (s b : List ℕ) → Runs W i o s b
    → (o.answer ≡ 5) ↔ (SizesFit W i × EntriesGood W i × NodesGood i × (StartFits i → ⊥))

-- Every answer below 12 but 1 and 4 has place 0.
abbrev pub NoPlace : ℕ → Type 0
NoPlace W = (i : Input) (o : Outcome) (s b : List ℕ) → Runs W i o s b → o.answer ≢ 1 → o.answer ≢ 4 → o.answer < 12 → o.place ≡ 0

-- What is accepted is just what is not refused; and it is all of the above.
abbrev pub NotRefused : ℕ → Type 0
NotRefused W = (i : Input) → (refused_by W i.table i.store i.bindings i.mark i.start i.subject ≡ checked 0 0) ↔ AcceptedBy W i

abbrev pub AcceptedPlain : ℕ → Type 0
AcceptedPlain W = (i : Input) → AcceptedBy W i ↔ (SizesFit W i × EntriesGood W i × NodesGood i × StartFits i)

-- ---- what comes back

-- what is given back as it was given
pub record AsGiven (i : Input) (o : Outcome) (b : List ℕ) : Type 0 where
  pub subject : o.subject ≡ i.subject
  pub mark : o.mark ≡ i.mark
  pub bindings : b ≡ i.bindings

-- Demand 1: a refusal writes nothing and uses no units.
abbrev pub WritesNothing : ℕ → Type 0
WritesNothing W =
    (i : Input) (o : Outcome) (s b : List ℕ) → Runs W i o s b → (AcceptedBy W i → ⊥) → AsGiven i o b × (s ≡ i.store) × (o.units ≡ 0)

-- Demand 1: all answers but 0 give back subject, mark and bindings.
abbrev pub GivesBack : ℕ → Type 0
GivesBack W = (i : Input) (o : Outcome) (s b : List ℕ) → Runs W i o s b → (o.answer ≡ 0 → ⊥) → AsGiven i o b

-- Demand 1: nodes below the given mark never change, and what is not refused leaves zeros from the returned mark to the end.
abbrev pub Keeps : ℕ → Type 0
Keeps W = (i : Input) (o : Outcome) (s b : List ℕ) → Runs W i o s b → Kept i.store i.mark s

abbrev pub Clears : ℕ → Type 0
Clears W = (i : Input) (o : Outcome) (s b : List ℕ) → AcceptedBy W i → Runs W i o s b → (k : ℕ) → 8 * o.mark ≤ k → get_or s k 0 ≡ 0

-- how a run ends, terms as values; what it notes on its way is left out, and `LastMiss` says it
abbrev pub Ended : Type 0
Ended = Res Term Env (Counted (Unit {0})) (Unit {0})

-- what comes back says r: the answer, the term, its bindings and the mark are r's, of a cut-off the answer and the place, and the
-- units used, with those that r leaves, are the units given
abbrev pub Told : Input → Returned → Ended → Type 0
Told i r (ended t c x u) =
    (r.answer ≡ 0) × (term r.store r.subject ≡ t) × (meant r.store (bindings r.bindings) ≡ c) × (r.mark ≡ x.mark)
    × (r.units + u ≡ i.units)
Told i r (lost l u) = (r.answer ≡ 1) × (r.units + u ≡ i.units)
Told i r (cut c l u) = (r.answer ≡ number c) × (r.place ≡ place_of c) × (r.units + u ≡ i.units)

-- Demand 2: what is not refused answers r exactly when r is so: done and failed by a derivation that fits, each cut-off by a
-- beginning that fits and meets its own limit first, 12 with its place by one that fits and ends at that variable.
abbrev pub Demand2 : ℕ → Type 0
Demand2 W =
    (i : Input) (o : Outcome) (s b : List ℕ) → AcceptedBy W i → Runs W i o s b
    → (r : Ended) → Told i (at_return o s b) r ↔ Says quiet tt (table_by W i.table) (limits i) (start_visit i) r

-- Wish 10: the place of a failed run is the pattern at which the last match in it gave up, in the order of time, caught or not; 4,096
-- where no match did.
abbrev pub LastMiss : ℕ → Type 0
LastMiss W =
    (i : Input) (o : Outcome) (s b : List ℕ) → AcceptedBy W i → Runs W i o s b → o.answer ≡ 1
    → (d : table_by W i.table ⊢ start_visit i ⇒ failed) → o.place ≡ last_of nowhere (misses (trace d))

-- Where 12 is answered there is no derivation, whatever the limits.
abbrev pub UnboundUnderivable : ℕ → Type 0
UnboundUnderivable W =
    (i : Input) (o : Outcome) (s b : List ℕ) → AcceptedBy W i → Runs W i o s b → o.answer ≡ 12 → (x : Out Term Env) → table_by W i.table ⊢ start_visit i ⇒ x → ⊥

-- Demand 3: e runs x at the place π and f runs y at ρ, neither place inside the other; the question of free variables finds
-- none in x and y. Two runs, one in each order, that both end in done or failed agree, whatever units each is given.
abbrev pub Demand3 : ℕ → Type 0
Demand3 W =
    (i : Input) (x y e f start units : ℕ) (π ρ : List ℕ) (q q' : FreeVariables) (o o' : Outcome) (s s' b b' : List ℕ)
    → AnsweredBy W i.table x q → q.answer ≡ 0 → q.mask ≡ 0 → AnsweredBy W i.table y q' → q'.answer ≡ 0 → q'.mask ≡ 0
    → At (table_by W i.table) x e π → At (table_by W i.table) y f ρ → (Encloses π ρ → ⊥) → (Encloses ρ π → ⊥)
    → table_by W i.table ∶ i.start is SEQ e f → table_by W i.table ∶ start is SEQ f e
    → AcceptedBy W i → AcceptedBy W (started i start units) → Runs W i o s b → Runs W (started i start units) o' s' b'
    → (r r' : Ended) → Told i (at_return o s b) r → Told (started i start units) (at_return o' s' b') r' → Agreed r r'

-- Wish 7: a run done before a collection gives an equal term and equal bindings after it, one that failed fails, and both use the
-- same units.
abbrev pub RunsAgain : ℕ → Type 0
RunsAgain W =
    (i : Input) (w : List ℕ) (r : Afterwards) (o o' : Outcome) (s s' b b' : List ℕ)
    → AcceptedBy W i → rows i.store ≤ length w → CollectsBy W (lent_by i w) r → Runs W i o s b → Runs W (after i r) o' s' b' → o.answer ≤ 1
    → (o'.answer ≡ o.answer) × (o'.units ≡ o.units)
    × (o.answer ≡ 0 → (term s' o'.subject ≡ term s o.subject) × (meant s' (bindings b') ≡ meant s (bindings b)))

-- a site whose strategy the question of free variables finds closed, and whose entry runs it at its place
pub record Movable (W : ℕ) (t : List ℕ) (x : Site) : Type 0 where
  pub question : FreeVariables
  pub answered : AnsweredBy W t x.strategy question
  pub good : question.answer ≡ 0
  pub none : question.mask ≡ 0
  pub at : At (table_by W t) x.strategy x.entry x.place

-- Demand 3 for any number of places, none inside another: two runs, each in some order of them, that both end in done or failed
-- agree, whatever units each is given.
abbrev pub Demand3All : ℕ → Type 0
Demand3All W =
    (i : Input) (xs ys zs : List Site) (start units : ℕ) (o o' : Outcome) (s s' b b' : List ℕ)
    → Every (Movable W i.table) xs → Separate xs → Reordered xs ys → Reordered xs zs
    → InOrder (table_by W i.table) i.start ys → InOrder (table_by W i.table) start zs
    → AcceptedBy W i → AcceptedBy W (started i start units) → Runs W i o s b → Runs W (started i start units) o' s' b'
    → (r r' : Ended) → Told i (at_return o s b) r → Told (started i start units) (at_return o' s' b') r' → Agreed r r'

-- The small runs: each gives, of what `run` is handed, what its line says, every number and every word.
abbrev pub SmallRunsOfRunBy : ℕ → Type 0
SmallRunsOfRunBy W = map (λ (c : Case). run_of_by W c.given) (cases W) ≡ map (λ (c : Case). c.gives) (cases W)

-- with 32 variables, and with 64
pub record SmallRunsOfRun : Type 0 where
  pub with-32 : SmallRunsOfRunBy 1
  pub with-64 : SmallRunsOfRunBy 2
