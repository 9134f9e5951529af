-- What the functions of this crate promise: a turn's plan is that of its visit's rule, or of the frame's way on.
use Rattle.std.specs.Prelude.{◌≡◌, ◌⊎◌, List, ℕ, ◌+◌, min, length, get_or}
use Rattle.checks.specs.Good.{constructor_of, child_count}
use Rattle.meaning.specs.Bindings.{Bindings}
use Rattle.meaning.specs.Table.{table}
use Rattle.meaning.specs.Rules.{Visit, does}
use Rattle.turns.specs.declared.turn.Asked.{Asked}
use Rattle.turns.specs.declared.turn.Turn.{Turn}
use Rattle.turns.specs.declared.turn.Turn.TheVariants.{Done, Ask}
use Rattle.turns.specs.declared.resume.Head.{Head}
use Rattle.turns.specs.declared.resume.Seen.{Seen}
use Rattle.turns.specs.Ways.{Frame, filled, way_of, asked_of, opened, plan_of, looked, current}

-- the turn r begins the visit v of x and y, c being the bindings, whatever frame is at hand
abbrev pub Begins : (t w : List ℕ) (x y : ℕ) (v : Visit ℕ) (c : Bindings ℕ) → Turn → Type 0
Begins t w x y v c r = (f : Frame) (b : Bindings ℕ) → plan_of t r f (opened t w x y (asked_of r)) b c ≡ looked w (does (table t) v)

-- the constructor a and the count n are compared with those of node y, and then the first child is asked for; else the visit is lost
pub record Beside (w : List ℕ) (y a n : ℕ) (lost : Turn) (first : Asked) (r : Turn) : Type 0 where
  pub differs : (a ≡ constructor_of w y → ⊥) ⊎ (min n 6 ≡ min (child_count w y) 6 → ⊥) → r ≡ lost
  pub empty : a ≡ constructor_of w y → min n 6 ≡ min (child_count w y) 6 → min n 6 ≡ 0 → r ≡ Done y
  pub walks : a ≡ constructor_of w y → min n 6 ≡ min (child_count w y) 6 → (min n 6 ≡ 0 → ⊥) → r ≡ Ask first

-- the head h and what is seen of the row are those of the frame f
pub record OfHead (f : Frame) (h : Head) : Type 0 where
  pub what : f.what ≡ h.what
  pub x : f.x ≡ h.x
  pub y : f.y ≡ h.y

pub record OfSeen (f : Frame) (s : Seen) : Type 0 where
  pub at : f.at ≡ s.at
  pub count : s.count ≡ min (get_or f.row 1 0) 6
  pub next : s.next ≡ get_or f.row (3 + f.at) 0
  pub mate : s.mate ≡ get_or f.other (3 + f.at) 0
  pub long : length f.row ≡ 8
  pub long-other : length f.other ≡ 8

-- the visit that the frame f waits for has succeeded with the node y: c the bindings then
abbrev pub Resumes : List ℕ → Frame → ℕ → Turn → Type 0
Resumes t f y r = (g : Frame) (b c : Bindings ℕ) → g.what ≡ (asked_of r).what → plan_of t r f g b (current f b c) ≡ (way_of t f b).yes y c

-- it has failed
abbrev pub Recovers : List ℕ → Frame → Turn → Type 0
Recovers t f r = (g : Frame) (b : Bindings ℕ) → g.what ≡ (asked_of r).what → plan_of t r f g b b ≡ (way_of t f b).no

-- the visit of a child has succeeded: its node stands in the row
abbrev pub Walks : List ℕ → Frame → ℕ → Turn → Type 0
Walks t f y r = (g : Frame) (b c : Bindings ℕ) → plan_of t r (filled f y) g b c ≡ (way_of t f b).yes y c
