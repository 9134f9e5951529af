-- What the list of frames means. A frame has ten rows of eight words, at the place of its nesting. Row 0: what, x, y, at, mark, and the
-- mask of the bindings that it keeps, in two words; row 1: its node's row; from row 2 on the words of the bindings that it keeps, or, of a
-- pair, the other row.
use Rattle.std.specs.Prelude.{◌≡◌, Bool, List, [], ◌∷◌, map, ℕ, zero, suc, ◌+◌, ◌*◌, ◌<◌, ◌%◌}
use Rattle.words.specs.Words.{word_at}
use Rattle.meaning.specs.Bindings.{Bindings}
use Rattle.meaning.specs.Table.{table}
use Rattle.meaning.specs.Rules.{Visit, does}
use Rattle.meaning.specs.Derivation.{What, pair, what, Event, history}
use Rattle.meaning.specs.Limits.{Res, ended, lost, cut, room, unbound}
use Rattle.meaning.specs.Steps.{Frame as Level, Next, over, next, settle}
use Rattle.meaning.specs.Store.{State as Store, on, Left, rest}
use Rattle.meaning.specs.Shared.{store_by}
use Rattle.turns.specs.Ways.{record_from, held_at, Frame, Way, way, last, way_of, visit_of, FairVisit}
use Rattle.machine.specs.declared.Machine.{Machine}

-- the eight words of row r
abbrev pub row_at : List ℕ → ℕ → List ℕ
row_at k r = word_at k r 0 ∷ word_at k r 1 ∷ word_at k r 2 ∷ word_at k r 3 ∷ word_at k r 4 ∷ word_at k r 5 ∷ word_at k r 6 ∷ word_at k r 7 ∷ []

-- the frame from row r on, the mask and the bindings that it keeps, and the mark before the visit that it waits for
abbrev pub frame_at : List ℕ → ℕ → Frame
frame_at k r = record {
  what = word_at k r 0;
  x = word_at k r 1;
  y = word_at k r 2;
  at = word_at k r 3 % 8;
  row = row_at k (r + 1);
  other = row_at k (r + 2);
}

abbrev pub mask_at : List ℕ → ℕ → ℕ
mask_at k r = word_at k r 5 + 4294967296 * word_at k r 6

abbrev pub kept_at : List ℕ → ℕ → Bindings ℕ
kept_at k r = held_at k (8 * (r + 2)) (mask_at k r)

-- the present bindings
abbrev pub present : List ℕ → Machine → Bindings ℕ
present k m = held_at k record_from m.mask

-- the way on that the visit after n others has, and the mark before it
unfoldable pub way_at : List ℕ → List ℕ → ℕ → Way
way_at t k zero = last
way_at t k (suc i) = way_of t (frame_at k (10 * i)) (kept_at k (10 * i))

unfoldable pub mark_at : List ℕ → ℕ → ℕ
mark_at k zero = 0
mark_at k (suc i) = word_at k (10 * i) 4

-- what is noted: the place of the last match that gave up, and what happened to visits
abbrev pub Noted : Type 0
Noted = ℕ × List Event

abbrev pub Open : Type 0
Open = Level ℕ (Bindings ℕ) (Visit ℕ) (Store Noted)

abbrev pub Run : Type 0
Run = Next ℕ (Bindings ℕ) (Visit ℕ) (Store Noted) (Left Noted)

-- what the frames visit, the innermost first; the first of them, and the others
abbrev pub whats_of : List Open → List What
whats_of = map (λ (f : Open). what f.visit)

unfoldable pub first_of : List What → What
first_of [] = pair
first_of (e ∷ es) = e

unfoldable pub others_of : List What → List What
others_of [] = []
others_of (e ∷ es) = es

-- the frame f of the visit after n others: its ways on are those that the words have, but for the visit at which nesting is cut off
pub record Pending (t k : List ℕ) (n : ℕ) (f : Open) : Type 0 where
  pub left : f.left + n ≡ 4096
  pub ways : n < 4096 → way f.keeps f.yes f.no ≡ way_at t k n
  pub mark : n < 4096 → 0 < n → f.before.mark ≡ mark_at k n

-- n frames
abbrev pub Stack : List ℕ → List ℕ → ℕ → List Open → Type 0
Stack t k zero [] = Unit {0}
Stack t k zero (f ∷ fs) = ⊥
Stack t k (suc n) [] = ⊥
Stack t k (suc n) (f ∷ fs) = Pending t k n f × Stack t k n fs

-- a visit of the first frame, and the others
pub record Asks (t k : List ℕ) (n : ℕ) (es : List What) (v : Visit ℕ) (s : Store Noted) (u : ℕ) (X : Run) : Type 0 where
  pub top : Open
  pub others : List Open
  pub is : X ≡ next s u top others
  pub visit : top.visit ≡ v
  pub pending : Pending t k n top
  pub stack : Stack t k n others
  pub whats : whats_of others ≡ es

-- the first frame's visit has ended; sh: nodes are shared
pub record Ends (sh : Bool) (t k : List ℕ) (n : ℕ) (es : List What) (r : Res ℕ (Bindings ℕ) (Store Noted) (Left Noted)) (X : Run)
    : Type 0 where
  pub frames : List Open
  pub is : X ≡ settle (store_by sh history) (does (table t)) frames r
  pub stack : Stack t k n frames
  pub whats : whats_of frames ≡ es

-- what comes next, as the machine's words, the store and the list have it; sh: nodes are shared; es: what the visits in flight visit, the
-- last to begin first; log: what happened to visits so far, the latest first. Modes: below 4 a visit is asked for; 4 one has succeeded,
-- 5 failed; 6 there is no room; 7 a variable to be built has no binding
pub record Stands (sh : Bool) (t : List ℕ) (m : Machine) (w k : List ℕ) (es : List What) (log : List Event) (X : Run) : Type 0 where
  pub known : m.mode < 8
  pub asked : m.mode < 4 → Asks t k m.level es (visit_of m.mode m.x m.y (present k m)) (on w m.mark (m.place, log))
      m.fuel X
  pub succeeded : m.mode ≡ 4 → Ends sh t k (suc m.level) es (ended m.y (present k m) (on w m.mark (m.place, log)) m.fuel) X
  pub failed : m.mode ≡ 5 → Ends sh t k (suc m.level) es (lost (rest w (m.place, log)) m.fuel) X
  pub full : m.mode ≡ 6 → X ≡ over (cut room (rest w (m.place, log)) m.fuel)
  pub stuck : m.mode ≡ 7 → X ≡ over (cut (unbound m.x) (rest w (m.place, log)) m.fuel)

-- what the next visit needs of the table
abbrev pub Fair : List ℕ → Run → Type 0
Fair t (over r) = Unit {0}
Fair t (next s u f fs) = FairVisit t f.visit
