-- What a counted run promises: it is the machine's, and its counts are of what happened to visits.
use Rattle.std.specs.Prelude.{◌≡◌, ℕ, suc, ◌+◌, ◌-◌, ◌%◌, ◌<◌, ◌≤◌, Bool, ◌⊎◌, List, [], length, ◌==◌, nat_eq, slice_index, slice_set, if◌then◌else◌}
use Rattle.meaning.specs.Table.{table}
use Rattle.meaning.specs.Rules.{does}
use Rattle.meaning.specs.Derivation.{What, Event, history}
use Rattle.meaning.specs.Tallies.{any_pattern, is_pair, counted, begins}
use Rattle.meaning.specs.Steps.{steps}
use Rattle.meaning.specs.Shared.{store_by}
use Rattle.machine.specs.declared.Machine.{Machine}
use Rattle.machine.specs.Stack.{Run, Stands, Fair}
use Rattle.machine.specs.Machine.{Lent, OwnStay}
use Rattle.tallying.specs.declared.Seen.{Seen}
use Rattle.tallying.specs.Counts.{bumped, visited_code, Kept, Balanced, Counts}

-- a visit of this mode more: of a pattern, or of a pair
abbrev pub seen_at : Seen → ℕ → Seen
seen_at s m = record {
  patterns = if m == 0 then s.patterns else if m == 3 then s.patterns else (s.patterns + 1) % 4294967296;
  pairs = if m == 3 then (s.pairs + 1) % 4294967296 else s.pairs;
}

-- the machine stopped at m; es: the visits in flight then, the last to begin first; log: what happened to visits, the latest first
pub record CountedOn (sh : Bool) (t w₀ k₀ given : List ℕ) (a m : Machine) (s : Seen) (w k kept cs : List ℕ) : Type 0 where
  pub lent : Lent w k
  pub store : length w ≡ length w₀
  pub work : length k ≡ length k₀
  pub own : OwnStay k₀ k
  pub fuel : m.fuel ≤ a.fuel
  pub es : List What
  pub log : List Event
  pub goes : (X : Run) → Stands sh t a w₀ k₀ [] [] X → ((i : ℕ) → Fair t (steps (store_by sh history) (does (table t)) i X))
      → Stands sh t m w k es log (steps (store_by sh history) (does (table t)) (a.fuel - m.fuel) X)
  pub counts : Counts given cs log []
  pub balanced : Balanced log es
  pub few : (p : What → Bool) → counted (begins p) log ≤ a.fuel - m.fuel
  pub levels : Kept es kept
  pub long : length kept ≡ 4096
  pub asked : m.mode < 4 → length es ≡ m.level
  pub told : 3 < m.mode → length es ≡ suc m.level
  pub level : m.level ≤ 4096
  pub low : 3 < m.mode → m.level < 4096
  pub patterns : s.patterns ≡ counted (begins any_pattern) log
  pub pairs : s.pairs ≡ counted (begins is_pair) log

-- it stopped where a visit is asked for and no units are left or it would be too deep, where the root has ended, or where it is cut off
pub record Stopped (m : Machine) : Type 0 where
  pub asking : m.mode < 4 → (m.fuel ≡ 0) ⊎ (4096 ≤ m.level)
  pub ended : 3 < m.mode → m.mode < 6 → m.level ≡ 0

-- it has a turn to take: a visit that no limit cuts off, or an end to tell to a frame
pub record Going (m : Machine) : Type 0 where
  pub asking : m.mode < 4 → (0 < m.fuel) × (m.level < 4096)
  pub ended : 3 < m.mode → (m.mode < 6) × (0 < m.level)

-- how a turn comes: a visit begins, or an end is told; and what is counted
pub data Comes (m : Machine) (s : Seen) (kept cs : List ℕ) : Seen → List ℕ → List ℕ → Type 0 where
  visit : {kept' cs' : List ℕ} → m.mode < 4 → 0 < m.fuel → m.level < 4096 → kept' ≡ slice_set kept m.level (visited_code m)
      → cs' ≡ bumped cs (visited_code m) 0 → Comes m s kept cs (seen_at s m.mode) kept' cs'
  end : {cs' : List ℕ} → 3 < m.mode → m.mode < 6 → 0 < m.level
      → cs' ≡ bumped cs (slice_index kept m.level) (if nat_eq m.mode 4 then 1 else 2) → Comes m s kept cs s kept cs'
