-- A condition of a line where it stands: the number of an entry, the starting term and the outcome's pattern.
use Rattle.std.specs.Prelude.{◌≡◌, true, false, List, [], ◌∷◌, ◌++◌, ℕ, ◌+◌, length}
use Rattle.text.specs.Text.{decimal}
use Rattle.rules.specs.Rule.{Condition}
use Rattle.rules.specs.Text.{pat_fields, conditions_fields, PlainConditions, bad, read}
use Rattle.rules.specs.Entries.{size}
use Rattle.rules.specs.Scan.{width, fields_from}
use Rattle.std.specs.Prelude.{Bool, Result, Ok, Err}
use Rattle.rules.specs.declared.condition.Condition as held

-- what was read: whether the fields are good; the entry's number; where the starting term, the outcome and the field after it begin; how
-- many fields were good; the entries of both terms
pub record Found : Type 0 where
  pub good : Bool
  pub callee : ℕ
  pub start : ℕ
  pub outcome : ℕ
  pub next : ℕ
  pub fields : ℕ
  pub size : ℕ

-- where its starting term, its outcome and the field after it begin
abbrev pub start_at : ℕ → Condition → ℕ
start_at i c = i + (length (decimal c.callee) + 1)

abbrev pub outcome_at : ℕ → Condition → ℕ
outcome_at i c = start_at i c + width (pat_fields c.start)

abbrev pub after_it : ℕ → Condition → ℕ
after_it i c = outcome_at i c + width (pat_fields c.outcome)

abbrev pub found_at : ℕ → Condition → Found
found_at i c = record {
  good = true;
  callee = c.callee;
  start = start_at i c;
  outcome = outcome_at i c;
  next = after_it i c;
  fields = 1 + length (pat_fields c.start) + length (pat_fields c.outcome);
  size = size c.start + size c.outcome;
}

-- no condition: n fields were good
abbrev pub lost_after : ℕ → Found
lost_after n = record { good = false; callee = 0; start = 0; outcome = 0; next = 0; fields = n; size = 0 }

-- what the code tells of it
abbrev pub found_of : Result held.Condition ℕ → Found
found_of (Ok c) = record { good = true; callee = c.callee; start = c.start; outcome = c.outcome; next = c.next; fields = c.fields; size = c.size }
found_of (Err n) = lost_after n

-- the fields from place i on begin with a condition, or they are read as none
pub data ConditionAt (l : List ℕ) (i : ℕ) (r : Found) : Type 0 where
  condition : (c : Condition) → PlainConditions (c ∷ []) → fields_from l i ≡ conditions_fields (c ∷ []) ++ fields_from l (after_it i c) → r ≡ found_at i c → ConditionAt l i r
  none : (n : ℕ) → read (fields_from l i) 0 ≡ bad n → r ≡ lost_after n → ConditionAt l i r
