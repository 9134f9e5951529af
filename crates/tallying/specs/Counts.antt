-- The words of the counts.
use Rattle.std.specs.Prelude.{◌≡◌, ℕ, zero, suc, ◌+◌, ◌*◌, ◌%◌, ◌<◌, ◌≤◌, Bool, List, [], ◌∷◌, length, ◌==◌, nat_eq, nat_lt, slice_index, slice_set, if◌then◌else◌}
use Rattle.meaning.specs.Derivation.{What, entry, pattern, pair, Event}
use Rattle.meaning.specs.Tallies.{one-if, is_entry, counted, begins, wins, loses}
use Rattle.machine.specs.declared.Machine.{Machine}

-- the highest count that may be lent: with the 4,294,967,295 visits that a run can make it is just a word of 64 bits
abbrev pub highest : ℕ
highest = 18446744069414584320

-- 1 more in count c of entry e, where there is such a word
unfoldable pub bumped : List ℕ → (e c : ℕ) → List ℕ
bumped cs e c = if nat_lt (4 * e + c) (length cs) then slice_set cs (4 * e + c) ((slice_index cs (4 * e + c) + 1) % 18446744073709551616) else cs

-- the word that stands for what is visited
unfoldable pub code_of : What → ℕ
code_of (entry x) = x
code_of (pattern p) = 4294967295
code_of pair = 4294967295

-- that of the visit that the machine is asked for
abbrev pub visited_code : Machine → ℕ
visited_code m = if m.mode == 0 then m.x else 4294967295

-- count 3 of the entries at the first n levels is 1 more for each level
unfoldable pub flown : (kept cs : List ℕ) → ℕ → List ℕ
flown kept cs zero = cs
flown kept cs (suc n) = bumped (flown kept cs n) (slice_index kept n) 3

-- what is counted where the machine has stopped: a visit that is asked for is cut off, and those before it are in flight; the root has
-- ended; or the last visit is cut off and in flight too
abbrev pub rest_counted : (kept cs : List ℕ) → Machine → List ℕ
rest_counted kept cs m =
    if nat_lt m.mode 4 then flown kept cs m.level
    else if nat_lt m.mode 6 then bumped cs (slice_index kept m.level) (if nat_eq m.mode 4 then 1 else 2)
    else flown kept cs (m.level + 1)

-- ---- what the counts say of what happened to visits

-- how many of these are visits of this
unfoldable pub occurs : (What → Bool) → List What → ℕ
occurs p [] = 0
occurs p (e ∷ es) = one-if (p e) + occurs p es

-- the visits in flight, the last to begin first, are kept level by level
unfoldable pub Kept : List What → List ℕ → Type 0
Kept [] kept = Unit {0}
Kept (e ∷ es) kept = (slice_index kept (length es) ≡ code_of e) × Kept es kept

-- every visit that has begun has ended or is in flight
abbrev pub Balanced : List Event → List What → Type 0
Balanced log es = (p : What → Bool) → counted (begins p) log ≡ counted (wins p) log + counted (loses p) log + occurs p es

-- the counts cs are those given and what happened since; es: the visits that are counted as in flight
pub record Counts (given cs : List ℕ) (log : List Event) (es : List What) : Type 0 where
  pub long : length cs ≡ length given
  pub visits : (x : ℕ) → 4 * x + 3 < length given → slice_index cs (4 * x) ≡ slice_index given (4 * x) + counted (begins (is_entry x)) log
  pub won : (x : ℕ) → 4 * x + 3 < length given → slice_index cs (4 * x + 1) ≡ slice_index given (4 * x + 1) + counted (wins (is_entry x)) log
  pub lost : (x : ℕ) → 4 * x + 3 < length given → slice_index cs (4 * x + 2) ≡ slice_index given (4 * x + 2) + counted (loses (is_entry x)) log
  pub flying : (x : ℕ) → 4 * x + 3 < length given → slice_index cs (4 * x + 3) ≡ slice_index given (4 * x + 3) + occurs (is_entry x) es

-- a count list of a table of at most 4,096 entries, with room for as many visits as a run can make
pub record Room (given : List ℕ) : Type 0 where
  pub few : length given ≤ 16384
  pub small : (j : ℕ) → slice_index given j ≤ highest
