-- What the functions inside the two calls promise.
use Rattle.std.specs.Prelude.{◌≡◌, ℕ, ◌+◌, ◌*◌, ◌/◌, ◌%◌, ◌<◌, ◌≤◌, ◌⊎◌, List, [], ◌∷◌, length, ◌≢◌, slice_index, if◌then◌else◌}
use Rattle.words.specs.Words.{word_at, cleared_from}
use Rattle.meaning.specs.Bindings.{has}
use Rattle.meaning.specs.Store.{bindings}
use Rattle.calls.specs.Outcome.{Outcome}
use Rattle.turns.specs.Ways.{record_from, held_at}
use Rattle.machine.specs.Stack.{row_at}
use Rattle.machine.specs.Machine.{own_from}
use Rattle.machine.specs.declared.Machine.{Machine}
use Rattle.stepping.specs.declared.own.Given.{Given}
use Rattle.stepping.specs.Stepping.{numbers, own_row}

-- the machine m and what was given stand in the run's own words; no other word changes
pub record Saved (k : List ℕ) (m : Machine) (u s g : ℕ) (k' : List ℕ) : Type 0 where
  pub long : length k' ≡ length k
  pub own : row_at k' own_row ≡ (m.mode + 1) ∷ m.x ∷ m.y ∷ m.level ∷ m.mark ∷ m.place ∷ m.fuel ∷ (m.mask % 4294967296) ∷ []
  pub given : row_at k' (own_row + 1) ≡ (m.mask / 4294967296) ∷ u ∷ s ∷ g ∷ 0 ∷ 0 ∷ 0 ∷ 0 ∷ []
  pub other : (j : ℕ) → (j < own_from) ⊎ (record_from ≤ j) → slice_index k' j ≡ slice_index k j

-- what was given, as the list has it
abbrev pub given_in : List ℕ → Given
given_in k = record { units = word_at k (own_row + 1) 1; subject = word_at k (own_row + 1) 2; mark = word_at k (own_row + 1) 3 }

-- the bindings of the words b stand in the list with the mask m
pub record Loaded (k b : List ℕ) (m : ℕ) (k' : List ℕ) : Type 0 where
  pub long : length k' ≡ length k
  pub held : held_at k' record_from m ≡ bindings b

-- the present bindings as words, a node's number plus one read as a word
pub record PutBack (k : List ℕ) (m : ℕ) (b' : List ℕ) : Type 0 where
  pub long : length b' ≡ 64
  pub word : (v : ℕ) → v < 64 → slice_index b' v ≡ (if has m v then (slice_index k (record_from + v) + 1) % 4294967296 else 0)

-- the units used, as a word: those given less those left
abbrev pub Used : (given left used : ℕ) → Type 0
Used given left used = (used + left) % 4294967296 ≡ given

-- a run has ended and is not done
pub record Ended (w k : List ℕ) (answer place left : ℕ) (r : Outcome) (w' k' : List ℕ) : Type 0 where
  pub used : ℕ
  pub units : Used (word_at k (own_row + 1) 1) left used
  pub few : used < 4294967296
  pub numbers : r ≡ numbers answer place (word_at k (own_row + 1) 2) (word_at k (own_row + 1) 3) used
  pub store : w' ≡ cleared_from w (8 * word_at k (own_row + 1) 3)
  pub work : k' ≡ cleared_from k 0

-- a run is done
pub record Finished (w k : List ℕ) (m : Machine) (r : Outcome) (w' b' k' : List ℕ) : Type 0 where
  pub used : ℕ
  pub units : Used (word_at k (own_row + 1) 1) m.fuel used
  pub few : used < 4294967296
  pub numbers : r ≡ numbers 0 0 m.y m.mark used
  pub store : w' ≡ cleared_from w (8 * m.mark)
  pub bindings : PutBack k m.mask b'
  pub work : k' ≡ cleared_from k 0

-- a run is unfinished
pub record Paused (w b k : List ℕ) (m : Machine) (r : Outcome) (w' b' k' : List ℕ) : Type 0 where
  pub used : ℕ
  pub units : Used (word_at k (own_row + 1) 1) m.fuel used
  pub few : used < 4294967296
  pub numbers : r ≡ numbers 25 0 (word_at k (own_row + 1) 2) (word_at k (own_row + 1) 3) used
  pub store : w' ≡ w
  pub bindings : b' ≡ b
  pub work : Saved k m (word_at k (own_row + 1) 1) (word_at k (own_row + 1) 2) (word_at k (own_row + 1) 3) k'

-- the machine m has stopped, which had `had` units and was to leave `stop` of them, of a step of v visits
pub data Went (w b k : List ℕ) (had v stop : ℕ) (m : Machine) (r : Outcome) (w' b' k' : List ℕ) : Type 0 where
  deepest : m.mode < 4 → (m.fuel ≢ stop) → b' ≡ b → Ended w k 8 0 m.fuel r w' k' → Went w b k had v stop m r w' b' k'
  used-up : m.mode < 4 → m.fuel ≡ stop → had < v → b' ≡ b → Ended w k 6 0 m.fuel r w' k' → Went w b k had v stop m r w' b' k'
  paused : m.mode < 4 → m.fuel ≡ stop → v ≤ had → Paused w b k m r w' b' k' → Went w b k had v stop m r w' b' k'
  done : m.mode ≡ 4 → Finished w k m r w' b' k' → Went w b k had v stop m r w' b' k'
  failed : m.mode ≡ 5 → b' ≡ b → Ended w k 1 m.place m.fuel r w' k' → Went w b k had v stop m r w' b' k'
  full : m.mode ≡ 6 → b' ≡ b → Ended w k 7 0 m.fuel r w' k' → Went w b k had v stop m r w' b' k'
  stuck : 6 < m.mode → b' ≡ b → Ended w k 12 m.x m.fuel r w' k' → Went w b k had v stop m r w' b' k'
