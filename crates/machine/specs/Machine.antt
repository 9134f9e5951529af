-- What the machine's functions promise. Frame i is at row 10 i.
use Rattle.std.specs.Prelude.{◌≡◌, Bool, true, false, ◌⊎◌, List, [], ◌∷◌, ℕ, suc, ◌+◌, ◌-◌, ◌*◌, ◌/◌, ◌<◌, ◌≤◌, ◌%◌, eqb, ltb, length, get_or, set, if◌then◌else◌}
use Rattle.std.proofs.Math.Option.{Option, none, some}
use Rattle.words.specs.Words.{word_at, rows, put_row}
use Rattle.meaning.specs.Bindings.{Bindings, has}
use Rattle.meaning.specs.Table.{table}
use Rattle.meaning.specs.Rules.{Do, does}
use Rattle.meaning.specs.Derivation.{What, what, Event, began, ended, history}
use Rattle.meaning.specs.Steps.{advance, settle, one, steps}
use Rattle.meaning.specs.Store.{on, row}
use Rattle.meaning.specs.Shared.{standing, store_by}
use Rattle.turns.specs.Ways.{record_from, held_at, kids, Frame, way_of, visit_of, asked_of, opened, plan_of, looked, saves, Ready}
use Rattle.turns.specs.Turns.{Begins, Resumes, Recovers, Walks}
use Rattle.turns.specs.declared.turn.Turn.{Turn}
use Rattle.machine.specs.declared.Machine.{Machine}
use Rattle.machine.specs.declared.frames.Kept.{Kept}
use Rattle.machine.specs.Stack.{row_at, frame_at, kept_at, present, Open, Run, whats_of, first_of, others_of, Stack, Asks}
use Rattle.machine.specs.Stack.{Stands, Fair}

-- where the run's own words begin
abbrev pub own_from : ℕ
own_from = 327600

-- the lengths of what is lent
pub record Lent (w k : List ℕ) : Type 0 where
  pub nodes : length w % 8 ≡ 0
  pub small : length w ≤ 1048576
  pub frames : 327680 ≤ length k

-- the words of the variables of the mask m, from place a on, stand from place b on too; no other word changes
pub record Copied (k : List ℕ) (a b m : ℕ) (k' : List ℕ) : Type 0 where
  pub long : length k' ≡ length k
  pub word : (v : ℕ) → v < 64 → get_or k' (b + v) 0 ≡ (if has m v then get_or k (a + v) 0 else get_or k (b + v) 0)
  pub other : (j : ℕ) → (j < b) ⊎ (b + 64 ≤ j) → get_or k' j 0 ≡ get_or k j 0

-- the head of a frame
abbrev pub head_of : (what x y i mark m : ℕ) → List ℕ
head_of what x y i mark m = what ∷ x ∷ y ∷ i ∷ mark ∷ m % 4294967296 ∷ m / 4294967296 ∷ 0 ∷ []

-- the frame from row r on, which waits as `what` says, keeps the bindings of the mask m, or nothing changes
pub record Keeps (k : List ℕ) (r what m : ℕ) (k' : List ℕ) : Type 0 where
  pub long : length k' ≡ length k
  pub other : (j : ℕ) → (j < 8 * (r + 2)) ⊎ (8 * r + 80 ≤ j) → get_or k' j 0 ≡ get_or k j 0
  pub kept : saves what ≡ true → held_at k' (8 * (r + 2)) m ≡ held_at k record_from m
  pub none : saves what ≡ false → k' ≡ k

-- the bindings that the frame from row r on keeps are the present ones, with its mark
pub record GivenBack (k : List ℕ) (r : ℕ) (b : Kept) (k' : List ℕ) : Type 0 where
  pub long : length k' ≡ length k
  pub other : (j : ℕ) → j < record_from → get_or k' j 0 ≡ get_or k j 0
  pub mark : b.mark ≡ word_at k r 4
  pub held : held_at k' record_from b.mask ≡ kept_at k r

-- the row of the frame from row r on has the node y for the child that it is at
pub record Fills (k : List ℕ) (r y : ℕ) (k' : List ℕ) : Type 0 where
  pub long : length k' ≡ length k
  pub other : (j : ℕ) → (j < 8 * r + 8) ⊎ (8 * r + 16 ≤ j) → get_or k' j 0 ≡ get_or k j 0
  pub row : row_at k' (r + 1) ≡ set (row_at k (r + 1)) (2 + word_at k r 3 % 8) y

-- the frame from row r on is written: its way on is that of the frame g that keeps b
pub record Opened (k : List ℕ) (r : ℕ) (g : Frame) (b : Bindings ℕ) (n : ℕ) (k' : List ℕ) : Type 0 where
  pub long : length k' ≡ length k
  pub other : (j : ℕ) → (j < 8 * r) ⊎ (8 * r + 80 ≤ j) → get_or k' j 0 ≡ get_or k j 0
  pub way : (t : List ℕ) → way_of t (frame_at k' r) (kept_at k' r) ≡ way_of t g b
  pub mark : word_at k' r 4 ≡ n

-- the run's own words stay
abbrev pub OwnStay : List ℕ → List ℕ → Type 0
OwnStay k k' = (j : ℕ) → own_from ≤ j → j < record_from → get_or k' j 0 ≡ get_or k j 0

-- child j of a row that has n of them, or 0
abbrev pub child_or0 : List ℕ → ℕ → ℕ → ℕ
child_or0 r n j = if ltb j n then get_or r (2 + j) 0 else 0

-- the node that stands for that of a row
abbrev pub standing_for : Bool → List ℕ → Machine → List ℕ → Option ℕ
standing_for sh w m r = standing sh w (row (get_or r 0 0) (kids r)) m.mark

-- the node of a row is one that stands; or it is made, where there is room
pub record Node (sh : Bool) (w : List ℕ) (i : ℕ) (m : Machine) (r : List ℕ) (m' : Machine) (w' : List ℕ) : Type 0 where
  pub long : length w' ≡ length w
  pub stands : (k : ℕ) → standing_for sh w m r ≡ some k
      → (m' ≡ record { x = 0; mode = 4; y = k; level = i; mark = m.mark; place = m.place; fuel = m.fuel; mask = m.mask }) × (w' ≡ w)
  pub full : standing_for sh w m r ≡ none → rows w ≤ m.mark
      → (m' ≡ record { x = 0; mode = 6; y = 0; level = i; mark = m.mark; place = m.place; fuel = m.fuel; mask = m.mask }) × (w' ≡ w)
  pub fits : standing_for sh w m r ≡ none → m.mark < rows w
      → (m' ≡ record { x = 0; mode = 4; y = m.mark; level = i; mark = m.mark + 1; place = m.place; fuel = m.fuel; mask = m.mask })
      × (w' ≡ put_row w m.mark (row (get_or r 0 0) (kids r)))

-- where the machine stands after a turn of the visit after i others: a visit asked for is one deeper, an end is told to the frame below
pub record Moved (i : ℕ) (m m' : Machine) : Type 0 where
  pub fuel : m'.fuel ≡ m.fuel
  pub deeper : m'.mode < 4 → m'.level ≡ i + 1
  pub ended : 3 < m'.mode → m'.level ≡ i

-- the bindings that the frame of the visit after i others keeps; the deepest has no frame
abbrev pub kept_by : List ℕ → Machine → ℕ → Bindings ℕ
kept_by k m i = if ltb i 4095 then kept_at k (10 * i) else present k m

-- a turn of the visit after i others is done: whatever plan it is of; sh: nodes are shared
pub record Carried (sh : Bool) (t w k : List ℕ) (i : ℕ) (m : Machine) (r : Turn) (m' : Machine) (w' k' : List ℕ) : Type 0 where
  pub lent : Lent w' k'
  pub store : length w' ≡ length w
  pub work : length k' ≡ length k
  pub moved : Moved i m m'
  pub own : OwnStay k k'
  pub is : (es : List What) (log : List Event) (X : Run) (fs : List Open) (n : ℕ) (p : Do ℕ) → whats_of fs ≡ es → Stack t k (suc i) fs
      → n + suc i ≡ 4096
      → X ≡ advance (store_by sh history) (does (table t)) (settle (store_by sh history) (does (table t)) fs) n fs p
      (on w m.mark (m.place, log)) m.fuel
      → plan_of t r (frame_at k (10 * i)) (opened t w m.x m.y (asked_of r)) (kept_by k m i) (present k m) ≡ looked w p
      → Stands sh t m' w' k' es log X

-- what the frame from row r on gets back before it goes on: after a failure its mark, and the bindings where it keeps them; so does TEST
-- after a success; and a row has the node that its child gave
pub record Restored (k : List ℕ) (r : ℕ) (m : Machine) (b : Kept) (k' : List ℕ) : Type 0 where
  pub long : length k' ≡ length k
  pub other : (j : ℕ) → (j < 8 * r + 8) ⊎ ((8 * r + 16 ≤ j) × (j < record_from)) → get_or k' j 0 ≡ get_or k j 0
  pub asked : m.mode < 4 → (b ≡ record { mark = m.mark; mask = m.mask }) × (k' ≡ k)
  pub row : (m.mode ≡ 4 → word_at k r 0 < 8) → row_at k' (r + 1) ≡ row_at k (r + 1)
  pub filled : m.mode ≡ 4 → 7 < word_at k r 0 → row_at k' (r + 1) ≡ set (row_at k (r + 1)) (2 + word_at k r 3 % 8) m.y
  pub yes : m.mode ≡ 4
      → (b.mark ≡ (if eqb (word_at k r 0) 4 then word_at k r 4 else m.mark))
      × (held_at k' record_from b.mask ≡ (if eqb (word_at k r 0) 4 then kept_at k r else present k m))
  pub no : m.mode ≡ 5
      → (b.mark ≡ word_at k r 4)
      × (held_at k' record_from b.mask ≡ (if saves (word_at k r 0) then kept_at k r else present k m))

-- the turn that comes next
pub record Taken (t w k : List ℕ) (r : ℕ) (m : Machine) (a : Turn) : Type 0 where
  pub asked : m.mode < 4 → Ready t m.mode m.x
      → Begins t w m.x m.y (visit_of m.mode m.x m.y (present k m)) (present k m) a
  pub yes : m.mode ≡ 4 → word_at k r 0 < 8 → Resumes t (frame_at k r) m.y a
  pub walked : m.mode ≡ 4 → 7 < word_at k r 0 → (hs : List ℕ) → length hs ≡ 8
      → row_at k (r + 1) ≡ set hs (2 + word_at k r 3 % 8) m.y
      → Walks t (record {
        what = word_at k r 0;
        x = word_at k r 1;
        y = word_at k r 2;
        at = word_at k r 3 % 8;
        row = hs;
        other = row_at k (r + 2);
      }) m.y a
  pub no : m.mode ≡ 5 → Recovers t (frame_at k r) a

-- what the visit that is asked for visits
abbrev pub visited : List ℕ → Machine → What
visited k m = what (visit_of m.mode m.x m.y (present k m))

-- a visit is begun, which is a step of the run; or an end is told, and the run stands where it stood
pub record Turned (sh : Bool) (t w k : List ℕ) (i : ℕ) (m m' : Machine) (w' k' : List ℕ) : Type 0 where
  pub lent : Lent w' k'
  pub store : length w' ≡ length w
  pub work : length k' ≡ length k
  pub moved : Moved i m m'
  pub own : OwnStay k k'
  pub begins : m.mode < 4 → m.level ≡ i → (es : List What) (log : List Event) (X : Run)
      → Asks t k m.level es (visit_of m.mode m.x m.y (present k m)) (on w m.mark (m.place, log)) (suc m.fuel) X
      → Fair t X → Stands sh t m' w' k' (visited k m ∷ es) (began (visited k m) ∷ log) (one (store_by sh history) (does (table t)) X)
  pub tells : 3 < m.mode → m.mode < 6 → m.level ≡ suc i → (es : List What) (log : List Event) (X : Run) → Stands sh t m w k es log X
      → Stands sh t m' w' k' (others_of es) (ended (first_of es) (eqb m.mode 4) ∷ log) X

-- visits are made until `stop` units are left: then, or where a limit or the end comes first, the machine stops
pub record Went (sh : Bool) (t w k : List ℕ) (m : Machine) (stop : ℕ) (m' : Machine) (w' k' : List ℕ) : Type 0 where
  pub lent : Lent w' k'
  pub store : length w' ≡ length w
  pub work : length k' ≡ length k
  pub own : OwnStay k k'
  pub fuel : m'.fuel ≤ m.fuel
  pub rest : stop ≤ m'.fuel
  pub goes : (es : List What) (log : List Event) (X : Run) → Stands sh t m w k es log X
      → ((i : ℕ) → Fair t (steps (store_by sh history) (does (table t)) i X))
      → (es' : List What) × (log' : List Event)
      × Stands sh t m' w' k' es' log' (steps (store_by sh history) (does (table t)) (m.fuel - m'.fuel) X)
  pub asking : m'.mode < 4 → (m'.fuel ≡ stop) ⊎ (4096 ≤ m'.level)
  pub ended : 3 < m'.mode → m'.mode < 6 → m'.level ≡ 0

-- a unit less
abbrev pub spent : Machine → Machine
spent m = record {
  x = m.x;
  mode = m.mode;
  y = m.y;
  level = m.level;
  mark = m.mark;
  place = m.place;
  fuel = m.fuel - 1;
  mask = m.mask;
}

-- a visit is counted, or an end is told; the machine and the visit then
pub data Comes (m : Machine) (stop : ℕ) : Machine → ℕ → Type 0 where
  counted : m.mode < 4 → (m.fuel ≡ stop → ⊥) → m.level < 4096 → Comes m stop (spent m) m.level
  told : 3 < m.mode → m.mode < 6 → (m.level ≡ 0 → ⊥) → Comes m stop m (m.level - 1)

-- a limit or the end comes first
pub record Halts (m : Machine) (stop : ℕ) : Type 0 where
  pub asking : m.mode < 4 → (m.fuel ≡ stop) ⊎ (4096 ≤ m.level)
  pub ended : 3 < m.mode → m.mode < 6 → m.level ≡ 0

-- one turn alone: a visit that no limit cuts off begins, or an end is told to a frame
pub record Once (sh : Bool) (t w k : List ℕ) (m : Machine) (stop : ℕ) (m' : Machine) (w' k' : List ℕ) : Type 0 where
  pub begun : m.mode < 4 → (m.fuel ≡ stop → ⊥) → m.level < 4096 → Turned sh t w k m.level (spent m) m' w' k'
  pub told : 3 < m.mode → m.mode < 6 → (m.level ≡ 0 → ⊥) → Turned sh t w k (m.level - 1) m m' w' k'

-- on to where it stops, or one turn alone
pub record Gone (once sh : Bool) (t w k : List ℕ) (m : Machine) (stop : ℕ) (m' : Machine) (w' k' : List ℕ) : Type 0 where
  pub on : once ≡ false → Went sh t w k m stop m' w' k'
  pub alone : once ≡ true → Once sh t w k m stop m' w' k'
