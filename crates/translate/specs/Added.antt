-- The table with rules added: the entries of each rule after those of the one before, and every other word as it was.
use Rattle.std.specs.Prelude.{◌≡◌, ◌≢◌, true, List, [], ◌∷◌, ◌++◌, ℕ, suc, ◌+◌, ◌≤◌, length}
use Rattle.words.specs.Words.{put_row}
use Rattle.rules.specs.Rule.{Rule, rule_variables}
use Rattle.rules.specs.Text.{ReadRule, rule, bad_field, Meant, rules, bad_at, meant}
use Rattle.rules.specs.Entries.{Entry, row_of, rule_entries}
use Rattle.rules.specs.Shape.{rule_size}
use Rattle.check_rules.specs.Bound.{all_below}
use Rattle.check_rules.specs.Answer.{RulesChecked}
use Rattle.check_rules.specs.Check.{Translated}

-- the table with entries from e on
unfoldable pub put_entries : List ℕ → ℕ → List Entry → List ℕ
put_entries t e [] = t
put_entries t e (x ∷ xs) = put_entries (put_row t e (row_of x)) (suc e) xs

-- the entries of rules, the first at e
unfoldable pub rules_entries : ℕ → List Rule → List Entry
rules_entries e [] = []
rules_entries e (r ∷ rs) = rule_entries e r ++ rules_entries (e + rule_size r) rs

-- the table with what a text means after the u entries in use
abbrev pub with_rules : Meant → List ℕ → ℕ → List ℕ
with_rules (rules rs) t u = put_entries t u (rules_entries u rs)
with_rules (bad_at l i) t u = t

-- the outcome of a translation: its numbers, and the table at return
pub record Translating (t : List ℕ) (u : ℕ) (s : List ℕ) (r : Translated) (t' : List ℕ) : Type 0 where
  pub numbers : RulesChecked t u s r
  pub refused : r.answer ≢ 0 → t' ≡ t
  pub added : r.answer ≡ 0 → t' ≡ with_rules (meant s) t u

-- ---- as the code goes

-- entries were put from e on, and the entry after them is told
pub record Placed (t : List ℕ) (e : ℕ) (xs : List Entry) (t' : List ℕ) (e' : ℕ) : Type 0 where
  pub entries : t' ≡ put_entries t e xs
  pub place : e' ≡ e + length xs

-- a line is a rule's whose variables are in range and whose entries fit
pub record LineFits (first room : ℕ) (x : ReadRule) : Type 0 where
  pub its : Rule
  pub is : x ≡ rule its
  pub below : all_below (rule_variables its) ≡ true
  pub fits : first + rule_size its ≤ room

-- its entries were put
abbrev pub LineIn : ReadRule → List ℕ → ℕ → List ℕ → ℕ → Type 0
LineIn (rule r) t e t' e' = Placed t e (rule_entries e r) t' e'
LineIn (bad_field n) t e t' e' = Unit {0}
