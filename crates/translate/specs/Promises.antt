-- What is promised of a translation.
use Rattle.std.specs.Prelude.{◌≡◌, ◌↔◌, List, ◌∷◌, ℕ, ◌+◌, ◌*◌, ◌≤◌, ◌<◌, length, get_or}
use Rattle.meaning.specs.Term.{Term}
use Rattle.meaning.specs.Table.{Table, table}
use Rattle.meaning.specs.System.{Env, ◌⊢◌⇒◌}
use Rattle.meaning.specs.Rules.{apply, does}
use Rattle.meaning.specs.Derivation.{Out, done, terms, Der}
use Rattle.meaning.specs.Beginning.{Begun, at-unbound}
use Rattle.rules.specs.Rule.{Rule}
use Rattle.rules.specs.Meaning.{rule_do}
use Rattle.rules.specs.Text.{rules, meant}
use Rattle.rules.specs.Shape.{rule_size}
use Rattle.check_rules.specs.Answer.{in_use, used_checked}
use Rattle.rules.specs.Promises.{Inside}
use Rattle.check_rules.specs.Check.{Translated}
use Rattle.translate.specs.Added.{Translating}

-- two outcomes for one table and one text agree in all numbers and in every word of the table
abbrev pub Agree : Type 0
Agree = (t : List ℕ) (u : ℕ) (s : List ℕ) (r r' : Translated) (w w' : List ℕ) → Translating t u s r w → Translating t u s r' w' → (r ≡ r') × (w ≡ w')

-- the table stays as long; its words stay but for those of the new entries
pub record Kept (t : List ℕ) (u u' : ℕ) (t' : List ℕ) : Type 0 where
  pub long : length t' ≡ length t
  pub words : (i : ℕ) → (8 * u ≤ i → i < 8 * u' → ⊥) → get_or t' i 0 ≡ get_or t i 0

abbrev pub Keeps : Type 0
Keeps = (t : List ℕ) (u : ℕ) (s : List ℕ) (r : Translated) (t' : List ℕ) → Translating t u s r t' → Kept t u r.used t'

-- the entries in use have no fault with the new ones among them
abbrev pub Faultless : Type 0
Faultless = (t : List ℕ) (u : ℕ) (s : List ℕ) (r : Translated) (t' : List ℕ) → Translating t u s r t' → r.answer ≡ 0 → (used_checked t' r.used).answer ≡ 0

-- where each rule's entries begin: the first rule's at u, each further one's after those of the one before
pub data Begins : ℕ → List Rule → ℕ → Rule → Type 0 where
  first : {u : ℕ} {r : Rule} {rs : List Rule} → Begins u (r ∷ rs) u r
  later : {u e : ℕ} {q r : Rule} {rs : List Rule} → Begins (u + rule_size q) rs e r → Begins u (q ∷ rs) e r

-- applying entry e derives just what the rule does, and meets a variable without a binding just where the rule does; the bindings
-- come back as at the start; and 12 comes only from inside a REC that a condition calls
pub record Behaves (T : Table) (e : ℕ) (r : Rule) : Type 0 where
  pub derives : (t : Term) (b : Env) (o : Out Term Env) → (T ⊢ apply e t b ⇒ o) ↔ Der terms (does T) (rule_do r t b) o
  pub unbound : (t : Term) (b : Env) (v : ℕ) → Begun T (does T (apply e t b)) (at-unbound v) ↔ Begun T (rule_do r t b) (at-unbound v)
  pub keeps : (t t' : Term) (b b' : Env) → T ⊢ apply e t b ⇒ done t' b' → b' ≡ b
  pub inside : (t : Term) (b : Env) (v : ℕ) → Begun T (rule_do r t b) (at-unbound v) → Inside T r.conditions v

-- every accepted rule's entries behave as the rule's own definition
abbrev pub RulesBehave : Type 0
RulesBehave =
    (t : List ℕ) (u : ℕ) (s : List ℕ) (r : Translated) (t' : List ℕ) → Translating t u s r t' → r.answer ≡ 0
    → (rs : List Rule) → meant s ≡ rules rs → (e : ℕ) (q : Rule) → Begins u rs e q → Behaves (table (in_use t' r.used)) e q
