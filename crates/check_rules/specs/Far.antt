-- Variables out of range, of which a line may have as many as it has fields: whether one is used before it is bound, asked of those
-- from a number `low` on and below another.
use Rattle.std.specs.Prelude.{◌≡◌, ◌⊎◌, Bool, true, false, ◌||◌, List, [], ◌∷◌, ℕ, ◌+◌, ◌≤◌, ◌<◌, leb, ltb, eqb, length, if◌then◌else◌, Option, Some, None}
use Rattle.checks.specs.Kinds.{variables as most}
use Rattle.rules.specs.Rule.{Rule}
use Rattle.rules.specs.Text.{Fields, Head, variable, constructor, neither, head_of, ReadRule, rule, bad_field}
use Rattle.check_rules.specs.Bound.{late}
use Rattle.variable_tree.specs.Tree.{KeyOf}

-- one more than the greatest number of a variable that the grammar has
abbrev pub numbers : ℕ
numbers = 4294967296

-- a field is the variable v
abbrev pub is_variable : ℕ → Head → Bool
is_variable v (variable w) = eqb v w
is_variable v (constructor c) = false
is_variable v neither = false

-- v is one of the fields that begin before `to`
unfoldable pub occurs_from : ℕ → Fields → (at to : ℕ) → Bool
occurs_from v [] at to = false
occurs_from v (f ∷ fs) at to = if ltb at to then is_variable v (head_of f) || occurs_from v fs (at + length f + 1) to else false

-- a field's variable is out of range, and one of several fields'
abbrev pub outside_range : Head → Bool
outside_range (variable w) = leb most w
outside_range (constructor c) = false
outside_range neither = false

unfoldable pub any_outside : Fields → Bool
any_outside [] = false
any_outside (f ∷ fs) = outside_range (head_of f) || any_outside fs

-- of the variables for which `here` says so: one is used too early, or each is a key or is not
pub data Early (r : Rule) (low below : ℕ) (ks : List ℕ) (here : ℕ → Bool) (answer : Bool) : Type 0 where
  one : answer ≡ true → (v : ℕ) → late v r ≡ true → Early r low below ks here answer
  no : answer ≡ false → ((v : ℕ) → here v ≡ true → low ≤ v → v < below → KeyOf ks v ⊎ (late v r ≡ false)) → Early r low below ks here answer

abbrev pub EarlyIn : ReadRule → (low below : ℕ) → List ℕ → (ℕ → Bool) → Bool → Type 0
EarlyIn (rule r) low below ks here answer = Early r low below ks here answer
EarlyIn (bad_field n) low below ks here answer = Unit {0}

-- what a pass says: whether a variable is used too early, and below which number that was asked
pub record Settled : Type 0 where
  pub late : Bool
  pub below : ℕ

-- what the code tells of it: the number, where none is
abbrev pub settled_of : Option ℕ → Settled
settled_of None = record { late = true; below = 0 }
settled_of (Some b) = record { late = false; below = b }

-- a pass over the line: one is used too early, or none of those from `low` on and below the returned number
pub data Settles (r : Rule) (low : ℕ) (s : Settled) : Type 0 where
  one : s.late ≡ true → (v : ℕ) → late v r ≡ true → Settles r low s
  no : s.late ≡ false → ((v : ℕ) → low ≤ v → v < s.below → late v r ≡ false) → Settles r low s

abbrev pub SettlesIn : ReadRule → ℕ → Settled → Type 0
SettlesIn (rule r) low s = Settles r low s
SettlesIn (bad_field n) low s = Unit {0}

-- all passes
pub data Far (r : Rule) (answer : ℕ) : Type 0 where
  one : answer ≡ 19 → (v : ℕ) → late v r ≡ true → Far r answer
  no : answer ≡ 20 → ((v : ℕ) → most ≤ v → v < numbers → late v r ≡ false) → Far r answer

abbrev pub FarIn : ReadRule → ℕ → Type 0
FarIn (rule r) answer = Far r answer
FarIn (bad_field n) answer = Unit {0}
