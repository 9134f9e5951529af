-- How a line is found: entries of a rule give its fields, each with a tab after it. Of other entries nothing is said but where they
-- are left, so that the line is checked afterwards.
use Rattle.std.specs.Prelude.{◌≡◌, Bool, true, false, List, [], ◌∷◌, ◌++◌, ℕ, ◌+◌, ◌≤◌, ◌<◌, eqb, length, get_or, take, if◌then◌else◌}
use Rattle.words.specs.Words.{word_at}
use Rattle.checks.specs.Good.{kind_of, operand_count}
use Rattle.text.specs.Text.{decimal}
use Rattle.rules.specs.Rule.{Pat, Condition, Rule}
use Rattle.rules.specs.Text.{Fields, pat_fields, conditions_fields, rule_fields, Plain, PlainConditions, rule, rule_of}
use Rattle.rules.specs.Entries.{pat_entries, size, conditions_code, code_size, code_entries, Rows}
use Rattle.rules.specs.Scan.{width}
use Rattle.write_rules.specs.declared.term.Passed.{Passed}
use Rattle.write_rules.specs.Written.{RuleAt}
use Rattle.std.specs.Prelude.{Result, Ok, Err, Option, Some, None}
use Rattle.check_rules.specs.declared.line.Measure.{Measure}
use Rattle.check_rules.specs.declared.line.Unfit.{Unfit}

-- how many entries a line takes, where it may be taken
abbrev pub taken_of : Result Measure Unfit → Option ℕ
taken_of (Ok m) = Some m.size
taken_of (Err u) = None

-- each field with a tab after it
unfoldable pub ended : Fields → List ℕ
ended [] = []
ended (f ∷ fs) = f ++ (9 ∷ ended fs)

-- a text was written at a place: what stood before it stands there
pub record Wrote (b : List ℕ) (at : ℕ) (s : List ℕ) (b' : List ℕ) (r : ℕ) : Type 0 where
  pub place : r ≡ at + length s
  pub text : take r b' ≡ take at b ++ s

-- the fields of a pattern's entry, whatever it is
unfoldable pub entry_text : List ℕ → ℕ → List ℕ
entry_text t e = if eqb (kind_of t e) 18 then 118 ∷ (decimal (word_at t e 1) ++ (9 ∷ [])) else decimal (word_at t e 1) ++ (9 ∷ (decimal (operand_count t e) ++ (9 ∷ [])))

-- the entries from e on are a term's, all in use
pub record TermAt (t : List ℕ) (u e : ℕ) (p : Pat) : Type 0 where
  pub plain : Plain p
  pub inside : e + size p ≤ u
  pub rows : Rows t e (pat_entries e p)

-- what is so of every table: the entry lies between bounds, and the line is not left
pub record Leaves (low high : ℕ) (b' : List ℕ) (r : Passed) : Type 0 where
  pub from : low ≤ r.entry
  pub most : r.entry ≤ high
  pub within : r.at ≤ length b'

-- a term's entries were passed and its fields written, where there is room for them
abbrev pub WritesTerm : (t : List ℕ) (u e : ℕ) (b : List ℕ) (at : ℕ) (b' : List ℕ) → Passed → Type 0
WritesTerm t u e b at b' r = (p : Pat) → TermAt t u e p → at + width (pat_fields p) + 24 ≤ length b → (r.entry ≡ e + size p) × Wrote b at (ended (pat_fields p)) b' r.at

-- the entries from e on are a condition's
pub record ConditionHere (t : List ℕ) (u e : ℕ) (c : Condition) : Type 0 where
  pub start : TermAt t u (e + 4) c.start
  pub called : word_at t (e + 4 + size c.start + 1) 2 ≡ c.callee
  pub outcome : TermAt t u (e + 4 + size c.start + 3) c.outcome

-- how many entries a condition has, and conditions
abbrev pub condition_size : Condition → ℕ
condition_size c = 7 + size c.start + size c.outcome

unfoldable pub conditions_size : List Condition → ℕ
conditions_size [] = 0
conditions_size (c ∷ cs) = condition_size c + conditions_size cs

abbrev pub WritesCondition : (t : List ℕ) (u e : ℕ) (b : List ℕ) (at : ℕ) (b' : List ℕ) → Passed → Type 0
WritesCondition t u e b at b' r =
    (c : Condition) → ConditionHere t u e c → at + width (conditions_fields (c ∷ [])) + 24 ≤ length b
    → (r.entry ≡ e + condition_size c) × Wrote b at (ended (conditions_fields (c ∷ []))) b' r.at

-- the entries from e on are those of conditions and of the build after them
pub record ConditionsAt (t : List ℕ) (u e : ℕ) (cs : List Condition) (p : Pat) : Type 0 where
  pub plain : PlainConditions cs
  pub inside : e + code_size (conditions_code cs p) ≤ u
  pub rows : Rows t e (code_entries e (conditions_code cs p))

abbrev pub WritesConditions : (t : List ℕ) (u e : ℕ) (b : List ℕ) (at : ℕ) (b' : List ℕ) → Passed → Type 0
WritesConditions t u e b at b' r =
    (cs : List Condition) (p : Pat) → ConditionsAt t u e cs p → at + width (conditions_fields cs) + 24 ≤ length b
    → (r.entry ≡ e + conditions_size cs) × Wrote b at (ended (conditions_fields cs)) b' r.at

-- the fields of the rule whose entries begin at e stand in the line, each with a tab after it
abbrev pub HasLine : (t : List ℕ) (u e : ℕ) (b' : List ℕ) → ℕ → Type 0
HasLine t u e b' n = (q : Rule) → RuleAt t u e q → take n b' ≡ ended (rule_fields q)

-- the words from one place to another are the same in both, or one is not
pub data SameWords (a b : List ℕ) (from to : ℕ) (answer : Bool) : Type 0 where
  same : answer ≡ true → ((i : ℕ) → from ≤ i → i < to → get_or a i 0 ≡ get_or b i 0) → SameWords a b from to answer
  differ : answer ≡ false → (i : ℕ) → from ≤ i → i < to → (get_or a i 0 ≡ get_or b i 0 → ⊥) → SameWords a b from to answer

-- the line is that of the rule whose entries begin at e, or of none
pub data IsRule (t : List ℕ) (u e : ℕ) (l : List ℕ) (answer : Bool) : Type 0 where
  yes : answer ≡ true → (q : Rule) → RuleAt t u e q → rule_of l ≡ rule q → IsRule t u e l answer
  no : answer ≡ false → ((q : Rule) → RuleAt t u e q → rule_of l ≡ rule q → ⊥) → IsRule t u e l answer
