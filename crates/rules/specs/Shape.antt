-- What a line's shape is: whether its fields are a rule's; the first bad field, one past the last where none is bad; the entries
-- that the rule takes; where its right term and its conditions begin.
use Rattle.std.specs.Prelude.{true, false, ℕ, suc, ◌+◌, length}
use Rattle.rules.specs.Rule.{Rule}
use Rattle.rules.specs.Text.{pat_fields, rule_fields, ReadRule, rule, bad_field}
use Rattle.rules.specs.Entries.{rule_code, code_size}
use Rattle.rules.specs.Scan.{width}
use Rattle.std.specs.Prelude.{Bool}

-- whether a line is a rule's; its first bad field from 1, one past the last where none is bad; the rule's entries; where its right term and
-- its conditions begin
pub record Shape : Type 0 where
  pub good : Bool
  pub field : ℕ
  pub size : ℕ
  pub right : ℕ
  pub conditions : ℕ

abbrev pub right_at : Rule → ℕ
right_at r = width (pat_fields r.left)

abbrev pub conditions_at : Rule → ℕ
conditions_at r = right_at r + width (pat_fields r.right)

abbrev pub rule_size : Rule → ℕ
rule_size r = code_size (rule_code r)

abbrev pub shape_of : ReadRule → Shape
shape_of (rule r) = record { good = true; field = suc (length (rule_fields r)); size = rule_size r; right = right_at r; conditions = conditions_at r }
shape_of (bad_field n) = record { good = false; field = n; size = 0; right = 0; conditions = 0 }
