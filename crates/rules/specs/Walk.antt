-- What the code tells of a line: its shape, and its conditions one after the other.
use Rattle.std.specs.Prelude.{◌≡◌, ◌≤◌, [], ◌∷◌, ltb, if◌then◌else◌, ℕ, ◌+◌, ◌-◌, length, true, false, Option, Some, None, Result, Ok, Err}
use Rattle.std.specs.Iterator.{Count, at_most}
use Rattle.rules.specs.Text.{Fields, bad, read}
use Rattle.rules.specs.Scan.{fields_from}
use Rattle.rules.specs.Condition.{found_of, ConditionAt}
use Rattle.rules.specs.Shape.{Shape}
use Rattle.rules.specs.declared.condition.Condition.{Condition}
use Rattle.rules.specs.declared.condition.Conditions.{Conditions}
use Rattle.rules.specs.declared.fields.Fields as walk
use Rattle.rules.specs.declared.rule_text.RuleText.{RuleText}

-- what the code tells of a line's shape
abbrev pub shape_told : Result RuleText ℕ → Shape
shape_told (Ok s) = record { good = true; field = s.field; size = s.size; right = s.right; conditions = s.conditions }
shape_told (Err n) = record { good = false; field = n; size = 0; right = 0; conditions = 0 }

-- nothing is left of the line, or its next fields are no condition
abbrev pub NoneLeft : Conditions → Type 0
NoneLeft s = s.at ≤ length s.line.now → (n : ℕ) × (read (fields_from s.line.now s.at) 0 ≡ bad n)

-- the condition that begins at the place, and the place after it
pub record NextCondition (s : Conditions) (c : Condition) (t : Conditions) : Type 0 where
  pub inside : s.at ≤ length s.line.now
  pub found : ConditionAt s.line.now s.at (found_of (Ok c))
  pub line : t.line ≡ s.line
  pub place : t.at ≡ c.next

abbrev pub GivesCondition : Conditions → Option Condition → Conditions → Type 0
GivesCondition s None t = NoneLeft s
GivesCondition s (Some c) t = NextCondition s c t

-- each condition has a byte
abbrev pub conditions_left : Conditions → Count
conditions_left s = at_most (length s.line.now + 1 - s.at)

-- of fields, the first of which begins at `at`, those that begin before `to`
unfoldable pub begun : Fields → (at to : ℕ) → Fields
begun [] at to = []
begun (f ∷ fs) at to = if ltb at to then f ∷ begun fs (at + length f + 1) to else []

-- the fields that are left
abbrev pub fields_left : walk.Fields → Fields
fields_left s = begun (fields_from s.line.now s.at) s.at s.to
