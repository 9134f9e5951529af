-- What a line of the text gets: 18 for text outside the grammar, 19 and 20 for its variables, 22 for a condition's number, else 0.
use Rattle.std.specs.Prelude.{◌≡◌, Bool, true, ◌&&◌, List, [], ◌∷◌, ℕ, suc, ltb, eqb, length, get_or, if◌then◌else◌}
use Rattle.checks.specs.Good.{kind_of}
use Rattle.rules.specs.Rule.{Condition, Rule}
use Rattle.rules.specs.Text.{rule_fields, ReadRule, rule, bad_field}
use Rattle.rules.specs.Shape.{rule_size}
use Rattle.check_rules.specs.Bound.{variables_answer}
use Rattle.std.specs.Prelude.{Result, Ok, Err}
use Rattle.check_rules.specs.declared.line.LineFault.{LineFault}
use Rattle.check_rules.specs.declared.line.Measure.{Measure}
use Rattle.check_rules.specs.declared.line.Unfit.{Unfit}
use Rattle.check_rules.specs.declared.line.LineFault.TheVariants.{Shape, Unbound, Range, Callee, Room}

-- what a line comes to: its answer; its first bad field from 1, one past the last where none is bad; its rule's entries
pub record Line : Type 0 where
  pub answer : ℕ
  pub field : ℕ
  pub size : ℕ

-- the number of a line's fault
abbrev pub line_fault_number : LineFault → ℕ
line_fault_number (Shape n) = 18
line_fault_number Unbound = 19
line_fault_number Range = 20
line_fault_number Callee = 22
line_fault_number Room = 23

-- the number of what is wrong with a line's variables; 0 where nothing is
abbrev pub variables_told : Result Unit LineFault → ℕ
variables_told (Ok u) = 0
variables_told (Err f) = line_fault_number f

-- the field that it is about, or 0
abbrev pub fault_field : LineFault → ℕ
fault_field (Shape n) = n
fault_field Unbound = 0
fault_field Range = 0
fault_field Callee = 0
fault_field Room = 0

-- of what is returned for a line, its rule's entries or what is wrong with it
abbrev pub verdict_of : Result Measure Unfit → Result ℕ LineFault
verdict_of (Ok m) = Ok m.size
verdict_of (Err u) = Err u.fault

-- the line that it stands for
abbrev pub line_made : Result Measure Unfit → Line
line_made (Ok m) = record { answer = 0; field = m.field; size = m.size }
line_made (Err u) = record { answer = line_fault_number u.fault; field = u.measure.field; size = u.measure.size }

-- what the code tells of a line: the entries where nothing is wrong, else the fault, with its field where it has one
abbrev pub line_told : Line → Result ℕ LineFault → Type 0
line_told x (Ok n) = (x.answer ≡ 0) × (x.size ≡ n)
line_told x (Err f) = (x.answer ≡ line_fault_number f) × (x.answer ≡ 18 → x.field ≡ fault_field f)

-- entry x of those in use is a REC, and its mask is empty
unfoldable pub callable : (table masks : List ℕ) (used x : ℕ) → Bool
callable t ms u x = ltb x u && (eqb (kind_of t x) 7 && eqb (get_or ms x 0) 0)

-- every condition's number is such an entry's
unfoldable pub all_calls : (ℕ → Bool) → List Condition → Bool
all_calls f [] = true
all_calls f (c ∷ cs) = f c.callee && all_calls f cs

abbrev pub CallsIn : ReadRule → (ℕ → Bool) → Bool → Type 0
CallsIn (rule r) f answer = answer ≡ all_calls f r.conditions
CallsIn (bad_field n) f answer = Unit {0}

-- in this order: 19, 20, 22
unfoldable pub rule_answer : (ℕ → Bool) → Rule → ℕ
rule_answer f r = if eqb (variables_answer r) 0 then (if all_calls f r.conditions then 0 else 22) else variables_answer r

-- the answer, the first bad field, one past the last where none is bad, and the rule's entries
abbrev pub line_of : (ℕ → Bool) → ReadRule → Line
line_of f (rule r) = record { answer = rule_answer f r; field = suc (length (rule_fields r)); size = rule_size r }
line_of f (bad_field n) = record { answer = 18; field = n; size = 0 }
