-- What is promised of the check of a text of rules.
use Rattle.std.specs.Prelude.{◌≡◌, true, ◌↔◌, List, [], ◌∷◌, ℕ, ◌+◌, ◌≤◌}
use Rattle.words.specs.Words.{rows}
use Rattle.rules.specs.Rule.{Condition, Rule, rule_variables, bound}
use Rattle.rules.specs.Text.{rules_text, PlainRules}
use Rattle.rules.specs.Shape.{rule_size}
use Rattle.rules.specs.Promises.{Among}
use Rattle.check_rules.specs.Bound.{all_below}
use Rattle.check_rules.specs.Check.{told}
use Rattle.check_rules.specs.Answer.{used_checked, ClosedRec, RulesChecked}
use Rattle.check_rules.specs.Check.{Translated}

-- what 19, 20 and 22 ask of a rule, over a table t with u entries in use
pub record Allowed (t : List ℕ) (u : ℕ) (r : Rule) : Type 0 where
  pub bound-before : bound r ≡ true
  pub in-range : all_below (rule_variables r) ≡ true
  pub called : (c : Condition) → Among c r.conditions → ClosedRec t u c.callee

pub data AllAllowed (t : List ℕ) (u : ℕ) : List Rule → Type 0 where
  none_left : AllAllowed t u []
  and-more : {r : Rule} {rs : List Rule} → Allowed t u r → AllAllowed t u rs → AllAllowed t u (r ∷ rs)

-- the entries of rules
unfoldable pub entries_of : List Rule → ℕ
entries_of [] = 0
entries_of (r ∷ rs) = rule_size r + entries_of rs

-- the text is that of rules which may all be added
pub record Accepted (t : List ℕ) (u : ℕ) (s : List ℕ) : Type 0 where
  pub its : List Rule
  pub text : s ≡ rules_text its
  pub plain : PlainRules its
  pub allowed : AllAllowed t u its
  pub room : u + entries_of its ≤ rows t

-- answer 0 is given exactly where the entries in use are good and the text is that of rules which may all be added
abbrev pub Accepts : Type 0
Accepts = (t : List ℕ) (u : ℕ) (s : List ℕ) (r : Translated) → RulesChecked t u s r → r.answer ≡ 0 ↔ ((used_checked t u).answer ≡ 0) × Accepted t u s

-- and then the entries of the rules come to those in use
abbrev pub AcceptsNumbers : Type 0
AcceptsNumbers =
    (t : List ℕ) (u : ℕ) (s : List ℕ) (r : Translated) → RulesChecked t u s r → (used_checked t u).answer ≡ 0 → (a : Accepted t u s)
    → r ≡ told (u + entries_of a.its) 0 0 0

-- two outcomes for one table and one text agree in all numbers
abbrev pub Agree : Type 0
Agree = (t : List ℕ) (u : ℕ) (s : List ℕ) (r r' : Translated) → RulesChecked t u s r → RulesChecked t u s r' → r ≡ r'
