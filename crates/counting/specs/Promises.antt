-- What the contracts of the counted calls promise, in the reader's words. Each statement holds of everything that meets the contract, and
-- is proved under its name in small letters: in proofs/Promises.antt, but `RefusesTwo` and `Listed` in proofs/Answers.antt, and
-- `EachACount` and `EachACountIndexed` in proofs/Tracing.antt. Where it says `Call`, it holds without an index and with one.
use Rattle.std.specs.Prelude.{◌≡◌, Bool, true, false, ◌≢◌, ◌↔◌, ◌⊎◌, List, ℕ, zero, suc, ◌+◌, ◌*◌, ◌<◌, ◌≤◌, length, get_or, replicate}
use Rattle.std.proofs.Math.Option.{Option, none, some}
use Rattle.words.specs.Words.{rows}
use Rattle.checks.specs.Kinds.{sort_of}
use Rattle.checks.specs.Good.{kind_of}
use Rattle.checks.specs.Checked.{Checked}
use Rattle.checks.specs.declared.kinds.Sort.TheVariants.{Pattern}
use Rattle.meaning.specs.Term.{Term}
use Rattle.meaning.specs.Plan.{keep, ret, fail, ask}
use Rattle.meaning.specs.Table.{table}
use Rattle.meaning.specs.Derivation.{done, failed, stays, fails, Trace, visits, left}
use Rattle.meaning.specs.System.{Env, ◌⊢◌⇒◌, trace}
use Rattle.meaning.specs.Beginning.{Given, Begun, Fits, Met, stop, level, trace as traceBegun}
use Rattle.meaning.specs.Limits.{Limit}
use Rattle.meaning.specs.Demands.{whole, limits, start_visit}
use Rattle.meaning.specs.Tallies.{entry_visits, successes, failures, in_flight, pattern_visits, pair_visits}
use Rattle.meaning.specs.Store.{Input}
use Rattle.meaning.specs.Shared.{sized}
use Rattle.meaning.specs.Answer.{Returned, number}
use Rattle.calls.specs.Refused.{refused_with}
use Rattle.calls.specs.Run.{at_return, run_with}
use Rattle.calls.specs.Indexed.{indexed_refused, indexed_at_return, indexed_of}
use Rattle.calls.specs.Promises.{InList}
use Rattle.calls.specs.Signed.{SignedInList}
use Rattle.tallying.specs.Added.{Counted}
use Rattle.tallying.specs.Counts.{highest}
use Rattle.tallying.specs.Added.{counted_at_return}
use Rattle.counting.specs.Counted.{refused_counting, counted_of, indexed_counted_at_return, indexed_counted_of}

-- given: the counts lent. The numbers r, the store's words s, the bindings' words b and the counts cs at return meet the contract of the
-- call without an index; with the index x, those and the words x' of the index at return
abbrev pub CountsRun : Option (List ℕ) → Input → (given : List ℕ) → Counted → (s b cs : List ℕ) → Type 0
CountsRun g i given r s b cs = counted_at_return r s b cs ≡ counted_of g i given

abbrev pub CountsIndexed : Option (List ℕ) → Input → (x given : List ℕ) → Counted → (s b cs x' : List ℕ) → Type 0
CountsIndexed g i x given r s b cs x' = indexed_counted_at_return r s b cs x' ≡ indexed_counted_of g i x given

-- a call, with the signature where one is lent: without an index, or with one
pub data Call : Type 0 where
  plain : Option (List ℕ) → Call
  indexed : Option (List ℕ) → (x : List ℕ) → Call

-- what meets the contract of the call
abbrev pub Meets : Call → Input → (given : List ℕ) → Counted → (s b cs : List ℕ) → Type 0
Meets (plain g) i given r s b cs = CountsRun g i given r s b cs
Meets (indexed g x) i given r s b cs = (x' : List ℕ) × CountsIndexed g i x given r s b cs x'

-- what the same run without counts refuses, and what it returns; whether nodes are shared
abbrev pub refusal_of : Call → Input → Checked
refusal_of (plain g) i = refused_with g i.table i.store i.bindings i.mark i.start i.subject
refusal_of (indexed g x) i = indexed_refused g i x

abbrev pub without_counts : Call → Input → Returned
without_counts (plain g) i = run_with g i
without_counts (indexed g x) i = (indexed_of g i x).run

abbrev pub shares : Call → Bool
shares (plain g) = false
shares (indexed g x) = true

-- what the call with counts refuses: 0 where it runs
abbrev pub verdict_of : Call → Input → (given : List ℕ) → Checked
verdict_of c i given = refused_counting (refusal_of c i) i.table given

-- four words for each entry
abbrev pub FourEach : Input → (given : List ℕ) → Type 0
FourEach i given = length given ≡ 4 * rows i.table

-- ---- the run

-- Two outcomes that meet the contract agree, in every number and every word.
abbrev pub Agreeing : Type 0
Agreeing =
    (c : Call) (i : Input) (given : List ℕ) (r r' : Counted) (s s' b b' cs cs' : List ℕ)
    → Meets c i given r s b cs → Meets c i given r' s' b' cs' → (r ≡ r') × (s ≡ s') × (b ≡ b') × (cs ≡ cs')

-- The index too.
abbrev pub AgreeingIndex : Type 0
AgreeingIndex =
    (g : Option (List ℕ)) (i : Input) (x given : List ℕ) (r r' : Counted) (s s' b b' cs cs' x' x'' : List ℕ)
    → CountsIndexed g i x given r s b cs x' → CountsIndexed g i x given r' s' b' cs' x'' → x' ≡ x''

-- Counts change nothing: where they are not refused, the five numbers, the store and the bindings are those of the same run without
-- counts, refused or not.
abbrev pub AsRun : Type 0
AsRun =
    (c : Call) (i : Input) (given : List ℕ) (r : Counted) (s b cs : List ℕ) → FourEach i given → ((j : ℕ) → get_or given j 0 ≤ highest)
    → Meets c i given r s b cs → at_return r.ended s b ≡ without_counts c i

-- And so is the index.
abbrev pub AsIndexed : Type 0
AsIndexed =
    (g : Option (List ℕ)) (i : Input) (x given : List ℕ) (r : Counted) (s b cs x' : List ℕ) → FourEach i given
    → ((j : ℕ) → get_or given j 0 ≤ highest) → CountsIndexed g i x given r s b cs x'
    → indexed_at_return r.ended s b x' ≡ indexed_of g i x

-- ---- what is refused

-- A count list of another length: 2, whatever else is so.
abbrev pub RefusesLength : Type 0
RefusesLength =
    (c : Call) (i : Input) (given : List ℕ) (r : Counted) (s b cs : List ℕ) → (FourEach i given → ⊥) → Meets c i given r s b cs
    → (r.ended.answer ≡ 2) × (r.ended.place ≡ 0)

-- Then all that the run without counts refuses, with its place.
abbrev pub RefusesFirst : Type 0
RefusesFirst =
    (c : Call) (i : Input) (given : List ℕ) (r : Counted) (s b cs : List ℕ) → FourEach i given → (refusal_of c i).answer ≢ 0
    → Meets c i given r s b cs → (r.ended.answer ≡ (refusal_of c i).answer) × (r.ended.place ≡ (refusal_of c i).place)

-- 2, both ways: the list has another length, or the run without counts is refused with 2. So no run that is not refused answers 2.
abbrev pub RefusesTwo : Type 0
RefusesTwo =
    (c : Call) (i : Input) (given : List ℕ) (r : Counted) (s b cs : List ℕ) → Meets c i given r s b cs
    → (r.ended.answer ≡ 2) ↔ ((FourEach i given → ⊥) ⊎ ((refusal_of c i).answer ≡ 2))

-- p is the lowest of n entries that has a count too high
pub record LowestFull (given : List ℕ) (n p : ℕ) : Type 0 where
  pub inside : p < n
  pub word : ℕ
  pub one : word < 4
  pub high : highest < get_or given (4 * p + word) 0
  pub before : (x : ℕ) → x < p → (j : ℕ) → j < 4 → get_or given (4 * x + j) 0 ≤ highest

-- 24 with its place, both ways: the list has its length, the run without counts is not refused, and the place is the lowest entry that
-- has a count too high. So 24 comes after all other refusals, and no other answer is 24.
abbrev pub RefusesFull : Type 0
RefusesFull =
    (c : Call) (i : Input) (given : List ℕ) (r : Counted) (s b cs : List ℕ) (p : ℕ) → Meets c i given r s b cs
    → ((r.ended.answer ≡ 24) × (r.ended.place ≡ p))
    ↔ (FourEach i given × ((refusal_of c i).answer ≡ 0) × LowestFull given (rows i.table) p)

-- the answers of the run without counts and without an index, with the signature where one is lent
abbrev pub RunInList : Option (List ℕ) → ℕ → Type 0
RunInList none n = InList n
RunInList (some g) n = SignedInList n

-- all answers: those, 21 where an index is lent, and 24
pub data CountedInList : Call → ℕ → Type 0 where
  without-index : {g : Option (List ℕ)} {n : ℕ} → RunInList g n → CountedInList (plain g) n
  with-index : {g : Option (List ℕ)} {x : List ℕ} {n : ℕ} → RunInList g n → CountedInList (indexed g x) n
  of-twin : {g : Option (List ℕ)} {x : List ℕ} → CountedInList (indexed g x) 21
  of-full-count : {c : Call} → CountedInList c 24

-- Every answer is one of the list.
abbrev pub Listed : Type 0
Listed =
    (c : Call) (i : Input) (given : List ℕ) (r : Counted) (s b cs : List ℕ) → Meets c i given r s b cs → CountedInList c r.ended.answer

-- what a refusal gives back
pub record Untouched (i : Input) (given : List ℕ) (r : Counted) (s b cs : List ℕ) : Type 0 where
  pub counts : cs ≡ given
  pub patterns : r.seen.patterns ≡ 0
  pub pairs : r.seen.pairs ≡ 0
  pub units : r.ended.units ≡ 0
  pub subject : r.ended.subject ≡ i.subject
  pub mark : r.ended.mark ≡ i.mark
  pub store : s ≡ i.store
  pub bindings : b ≡ i.bindings

-- A refused run adds nothing, has no visits and writes nothing.
abbrev pub AddsNothing : Type 0
AddsNothing =
    (c : Call) (i : Input) (given : List ℕ) (r : Counted) (s b cs : List ℕ) → (verdict_of c i given).answer ≢ 0 → Meets c i given r s b cs
    → Untouched i given r s b cs

-- A refused call leaves the index as lent; one that runs leaves it all zero.
abbrev pub LeavesIndex : Type 0
LeavesIndex =
    (g : Option (List ℕ)) (i : Input) (x given : List ℕ) (r : Counted) (s b cs x' : List ℕ) → CountsIndexed g i x given r s b cs x'
    → ((verdict_of (indexed g x) i given).answer ≢ 0 → x' ≡ x)
    × ((verdict_of (indexed g x) i given).answer ≡ 0 → x' ≡ replicate (length x) 0)

-- ---- what is counted

-- There are as many counts as before, refused or not.
abbrev pub KeepsLength : Type 0
KeepsLength =
    (c : Call) (i : Input) (given : List ℕ) (r : Counted) (s b cs : List ℕ) → Meets c i given r s b cs → length cs ≡ length given

-- what the run of i that answers n did, given g: a derivation that fits, or a counted beginning that fits and meets its limit
pub data Does (g : Given) (i : Input) : ℕ → Trace → Type 0 where
  is-done : {t : Term} {b : Env} {u : ℕ} (d : table i.table ⊢ start_visit i ⇒ done t b)
      → Fits g (whole (start_visit i) stays (trace d)) u → Does g i 0 (whole (start_visit i) stays (trace d))
  has-failed : {u : ℕ} (d : table i.table ⊢ start_visit i ⇒ failed)
      → Fits g (whole (start_visit i) fails (trace d)) u → Does g i 1 (whole (start_visit i) fails (trace d))
  is_cut : (c : Limit) {u : ℕ} (d : Begun (table i.table) (ask keep (start_visit i) ret fail) (stop c))
      → Fits g (traceBegun d) u → Met g c (level d) (left (traceBegun d)) u → Does g i (number c) (traceBegun d)

-- each number is a count over the trace t, added to the one given
pub record CountOf (given : List ℕ) (r : Counted) (cs : List ℕ) (t : Trace) : Type 0 where
  pub visited : (x : ℕ) → 4 * x + 3 < length given → get_or cs (4 * x) 0 ≡ get_or given (4 * x) 0 + entry_visits x t
  pub succeeded : (x : ℕ) → 4 * x + 3 < length given → get_or cs (4 * x + 1) 0 ≡ get_or given (4 * x + 1) 0 + successes x t
  pub failed : (x : ℕ) → 4 * x + 3 < length given → get_or cs (4 * x + 2) 0 ≡ get_or given (4 * x + 2) 0 + failures x t
  pub flying : (x : ℕ) → 4 * x + 3 < length given → get_or cs (4 * x + 3) 0 ≡ get_or given (4 * x + 3) 0 + in_flight x t
  pub patterns : r.seen.patterns ≡ pattern_visits t
  pub pairs : r.seen.pairs ≡ pair_visits t
  pub units : r.ended.units ≡ visits t

-- Each number is a count over the derivation or its counted beginning: without an index, what is not refused did t, and this is counted
-- of it.
abbrev pub EachACount : Type 0
EachACount =
    (g : Option (List ℕ)) (i : Input) (given : List ℕ) (r : Counted) (s b cs : List ℕ) → (verdict_of (plain g) i given).answer ≡ 0
    → CountsRun g i given r s b cs → (t : Trace) × Does (limits i) i r.ended.answer t × CountOf given r cs t

-- With an index too, but for answer 7: what is not refused did t, given room for some number of nodes. A node that stands is not made
-- again, so that the store's own nodes may be too few for t.
abbrev pub EachACountIndexed : Type 0
EachACountIndexed =
    (g : Option (List ℕ)) (i : Input) (x given : List ℕ) (r : Counted) (s b cs x' : List ℕ)
    → (verdict_of (indexed g x) i given).answer ≡ 0 → r.ended.answer ≢ 7 → CountsIndexed g i x given r s b cs x'
    → (size : ℕ) × (t : Trace) × Does (sized size i) i r.ended.answer t × CountOf given r cs t

-- the visits of the first n entries
unfoldable pub visits_in : ℕ → List ℕ → ℕ
visits_in zero cs = 0
visits_in (suc n) cs = visits_in n cs + get_or cs (4 * n) 0

-- Entry, pattern and pair visits together make the units, refused or not.
abbrev pub UnitsAddUp : Type 0
UnitsAddUp =
    (c : Call) (i : Input) (given : List ℕ) (r : Counted) (s b cs : List ℕ) → Meets c i given r s b cs
    → visits_in (rows i.table) cs + r.seen.patterns + r.seen.pairs ≡ visits_in (rows i.table) given + r.ended.units

-- Successes, failures and in-flight visits make an entry's visits: what is added to the three is added to the first.
abbrev pub FatesAddUp : Type 0
FatesAddUp =
    (c : Call) (i : Input) (given : List ℕ) (r : Counted) (s b cs : List ℕ) → Meets c i given r s b cs
    → (x : ℕ) → 4 * x + 3 < length given
    → get_or cs (4 * x + 1) 0 + get_or cs (4 * x + 2) 0 + get_or cs (4 * x + 3) 0 + get_or given (4 * x) 0
    ≡ get_or cs (4 * x) 0 + get_or given (4 * x + 1) 0 + get_or given (4 * x + 2) 0 + get_or given (4 * x + 3) 0

-- Every count is a word of 64 bits: with counts that are not refused and units of 32 bits none wraps.
abbrev pub NeverOverflows : Type 0
NeverOverflows =
    (c : Call) (i : Input) (given : List ℕ) (r : Counted) (s b cs : List ℕ) → (verdict_of c i given).answer ≡ 0 → i.units < 4294967296
    → Meets c i given r s b cs → (j : ℕ) → get_or cs j 0 < 18446744073709551616

-- Where the run is done or failed no visit is in flight.
abbrev pub EndedNoneInFlight : Type 0
EndedNoneInFlight =
    (c : Call) (i : Input) (given : List ℕ) (r : Counted) (s b cs : List ℕ) → r.ended.answer ≤ 1 → Meets c i given r s b cs
    → (x : ℕ) → 4 * x + 3 < length given → get_or cs (4 * x + 3) 0 ≡ get_or given (4 * x + 3) 0

-- A pattern is never visited as a strategy: its four counts stay.
abbrev pub PatternsStay : Type 0
PatternsStay =
    (c : Call) (i : Input) (given : List ℕ) (r : Counted) (s b cs : List ℕ) → Meets c i given r s b cs
    → (x : ℕ) → sort_of (kind_of i.table x) ≡ Pattern → 4 * x + 3 < length given
    → (j : ℕ) → j < 4 → get_or cs (4 * x + j) 0 ≡ get_or given (4 * x + j) 0
