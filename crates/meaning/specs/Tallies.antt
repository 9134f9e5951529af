-- Where the units go: document 02's numbers as counts over a derivation or its counted beginning, and as counts over what a run has noted
-- of its visits. The proofs are proofs/Tallies.antt.
use Rattle.std.specs.Prelude.{◌≡◌, Bool, true, false, ◌&&◌, List, [], ◌∷◌, ℕ, zero, suc, ◌+◌, ◌<◌, eqb, if◌then◌else◌}
use Rattle.meaning.specs.Derivation.{What, entry, pattern, pair, Fate, stays, goes, fails, in-flight, Trace, over, missed, node}
use Rattle.meaning.specs.Derivation.{visit, visits, Event, began, ended, history, noted}

-- 1 where the test holds
abbrev pub one-if : Bool → ℕ
one-if b = if b then 1 else 0

-- ---- what is visited, and how it went

-- the entry x as a strategy; any entry; any pattern; a pair
unfoldable pub is_entry : ℕ → What → Bool
is_entry x (entry y) = eqb x y
is_entry x (pattern p) = false
is_entry x pair = false

unfoldable pub any_entry : What → Bool
any_entry (entry y) = true
any_entry (pattern p) = false
any_entry pair = false

unfoldable pub any_pattern : What → Bool
any_pattern (entry y) = false
any_pattern (pattern p) = true
any_pattern pair = false

unfoldable pub is_pair : What → Bool
is_pair (entry y) = false
is_pair (pattern p) = false
is_pair pair = true

-- it has succeeded, whether its nodes stay or not; it has failed; it has begun and not ended
unfoldable pub succeeded : Fate → Bool
succeeded stays = true
succeeded goes = true
succeeded fails = false
succeeded in-flight = false

unfoldable pub has_failed : Fate → Bool
has_failed stays = false
has_failed goes = false
has_failed fails = true
has_failed in-flight = false

unfoldable pub flies : Fate → Bool
flies stays = false
flies goes = false
flies fails = false
flies in-flight = true

-- ---- counts over a trace

-- the visits of a trace that pass a test
unfoldable pub count : (What → Fate → Bool) → Trace → ℕ
count p over = 0
count p (missed q) = 0
count p (node t) = count p t
count p (visit w f s t) = one-if (p w f) + (count p s + count p t)

-- the four numbers of entry x, in document 02's order
abbrev pub entry_visits : ℕ → Trace → ℕ
entry_visits x = count (λ w f. is_entry x w)

abbrev pub successes : ℕ → Trace → ℕ
successes x = count (λ w f. is_entry x w && succeeded f)

abbrev pub failures : ℕ → Trace → ℕ
failures x = count (λ w f. is_entry x w && has_failed f)

abbrev pub in_flight : ℕ → Trace → ℕ
in_flight x = count (λ w f. is_entry x w && flies f)

-- the two numbers of the run
abbrev pub pattern_visits : Trace → ℕ
pattern_visits = count (λ w f. any_pattern w)

abbrev pub pair_visits : Trace → ℕ
pair_visits = count (λ w f. is_pair w)

-- the visits of all entries below n
unfoldable pub entries_below : ℕ → Trace → ℕ
entries_below zero t = 0
entries_below (suc n) t = entries_below n t + entry_visits n t

-- every entry that is visited is below n
unfoldable pub Inside : ℕ → Trace → Type 0
Inside n over = Unit {0}
Inside n (missed q) = Unit {0}
Inside n (node t) = Inside n t
Inside n (visit (entry x) f s t) = (x < n) × Inside n s × Inside n t
Inside n (visit (pattern p) f s t) = Inside n s × Inside n t
Inside n (visit pair f s t) = Inside n s × Inside n t

-- Entry, pattern and pair visits together make the units.
abbrev pub VisitsMakeUnits : Type 0
VisitsMakeUnits = (n : ℕ) (t : Trace) → Inside n t → entries_below n t + pattern_visits t + pair_visits t ≡ visits t

-- Successes, failures and visits in flight make an entry's visits.
abbrev pub FatesMakeVisits : Type 0
FatesMakeVisits = (x : ℕ) (t : Trace) → successes x t + failures x t + in_flight x t ≡ entry_visits x t

-- ---- the same over what is noted

-- the events that pass a test
unfoldable pub counted : (Event → Bool) → List Event → ℕ
counted p [] = 0
counted p (e ∷ es) = one-if (p e) + counted p es

-- a visit of this begins, or ends so
unfoldable pub begins : (What → Bool) → Event → Bool
begins p (began w) = p w
begins p (ended w t) = false

unfoldable pub wins : (What → Bool) → Event → Bool
wins p (began w) = false
wins p (ended w true) = p w
wins p (ended w false) = false

unfoldable pub loses : (What → Bool) → Event → Bool
loses p (began w) = false
loses p (ended w true) = false
loses p (ended w false) = p w

-- What was noted counts as the trace does.
abbrev pub HistoryCounts : Type 0
HistoryCounts =
    (p : What → Bool) (t : Trace) (n : ℕ × List Event)
    → (counted (begins p) (noted history t n).1 ≡ count (λ w f. p w) t + counted (begins p) n.1)
    × (counted (wins p) (noted history t n).1 ≡ count (λ w f. p w && succeeded f) t + counted (wins p) n.1)
    × (counted (loses p) (noted history t n).1 ≡ count (λ w f. p w && has_failed f) t + counted (loses p) n.1)

-- every entry whose visit begins is below n
unfoldable pub Entered : ℕ → List Event → Type 0
Entered n [] = Unit {0}
Entered n (began (entry x) ∷ es) = (x < n) × Entered n es
Entered n (began (pattern p) ∷ es) = Entered n es
Entered n (began pair ∷ es) = Entered n es
Entered n (ended w t ∷ es) = Entered n es

-- the visits of all entries below n that began
unfoldable pub entries_in : ℕ → List Event → ℕ
entries_in zero log = 0
entries_in (suc n) log = entries_in n log + counted (begins (is_entry n)) log

-- Entry, pattern and pair visits together are all that began.
abbrev pub EventsAddUp : Type 0
EventsAddUp =
    (n : ℕ) (log : List Event) → Entered n log
    → entries_in n log + counted (begins any_pattern) log + counted (begins is_pair) log ≡ counted (begins (λ w. true)) log

-- The visits of all entries are what was noted of them.
abbrev pub EntriesNoted : Type 0
EntriesNoted = (n p : ℕ) (t : Trace) → entries_below n t ≡ entries_in n (noted history t (p, [])).1

-- The visits that pass the test that all pass are all visits.
abbrev pub CountAll : Type 0
CountAll = (t : Trace) → count (λ w f. true) t ≡ visits t
