-- Variables that a rule uses before they are bound, and variables out of range. Bits are those of a window of 64 variables:
-- bit j stands for variable base + j.
use Rattle.std.specs.Prelude.{◌≡◌, Bool, true, false, not, ◌&&◌, ◌||◌, List, [], ◌∷◌, ℕ, ◌+◌, ◌-◌, ◌^◌, ◌≤◌, ◌<◌, leb, ltb, length, if◌then◌else◌}
use Rattle.std.specs.Int.Bits.{bit_or}
use Rattle.checks.specs.Kinds.{variables as most}
use Rattle.rules.specs.Rule.{Pat, Condition, Rule, variables, member, rule_variables, bound}
use Rattle.rules.specs.Text.{Fields, Head, variable, constructor, neither, head_of, rule_fields, PlainRule, ReadRule, rule, bad_field}
use Rattle.rules.specs.Scan.{fields_from}
use Rattle.rules.specs.Shape.{right_at, conditions_at}

-- v is used where it is not bound yet, in the order of the run; seen: it is bound before
unfoldable pub late_from : ℕ → (seen : Bool) → List Condition → Pat → Bool
late_from v seen [] p = member v (variables p) && not seen
late_from v seen (c ∷ cs) p = (member v (variables c.start) && not seen) || late_from v (seen || member v (variables c.outcome)) cs p

unfoldable pub late : ℕ → Rule → Bool
late v r = late_from v (member v (variables r.left)) r.conditions r.right

-- all are below the number of variables
unfoldable pub all_below : List ℕ → Bool
all_below [] = true
all_below (v ∷ vs) = ltb v most && all_below vs

-- what 19 and 20 say of a rule; 0 where neither does
unfoldable pub variables_answer : Rule → ℕ
variables_answer r = if bound r then (if all_below (rule_variables r) then 0 else 20) else 19

-- ---- as the code goes

-- how many variables a mask of the code has: no fewer than there are
abbrev pub window : ℕ
window = 64

-- the bit of a field's variable, where it is in the window from base on
abbrev pub marked_by : ℕ → ℕ → Head → ℕ
marked_by base m (variable v) = if leb base v && ltb (v - base) window then bit_or m (2 ^ (v - base)) else m
marked_by base m (constructor c) = m
marked_by base m neither = m

-- the fields that begin before `to`
unfoldable pub marks_from : ℕ → Fields → (at to m : ℕ) → ℕ
marks_from base [] at to m = m
marks_from base (f ∷ fs) at to m = if ltb at to then marks_from base fs (at + length f + 1) to (marked_by base m (head_of f)) else m

-- the line's fields are a rule's, and these are the places of its right term and of its conditions
pub record RuleLine (l : List ℕ) (right conditions : ℕ) : Type 0 where
  pub its : Rule
  pub plain : PlainRule its
  pub text : fields_from l 0 ≡ rule_fields its
  pub right-at : right ≡ right_at its
  pub conditions-at : conditions ≡ conditions_at its

-- a variable of the window is used too early, or none is
pub data Late (base : ℕ) (r : Rule) (answer : Bool) : Type 0 where
  one : answer ≡ true → (v : ℕ) → late v r ≡ true → Late base r answer
  no : answer ≡ false → ((v : ℕ) → base ≤ v → v - base < window → late v r ≡ false) → Late base r answer

abbrev pub LateIn : ReadRule → ℕ → Bool → Type 0
LateIn (rule r) base answer = Late base r answer
LateIn (bad_field n) base answer = Unit {0}

abbrev pub answers_variables : ReadRule → ℕ → Type 0
answers_variables (rule r) answer = answer ≡ variables_answer r
answers_variables (bad_field n) answer = Unit {0}
