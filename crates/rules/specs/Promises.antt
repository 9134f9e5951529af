-- What is promised of a rule's entries, and of the text of rules.
use Rattle.std.specs.Prelude.{◌≡◌, true, ◌↔◌, List, ◌∷◌, ◌++◌, ℕ, suc, ◌≤◌, ◌<◌, length, take}
use Rattle.meaning.specs.Term.{Term}
use Rattle.meaning.specs.Table.{Table, table, MATCH, BUILD, SCOPE, PCON}
use Rattle.meaning.specs.System.{Env, ◌∶◌is◌, ◌∶◌reads◌, ◌⊢◌⇒◌}
use Rattle.meaning.specs.Rules.{apply, does}
use Rattle.meaning.specs.Derivation.{Out, done, terms, Der}
use Rattle.meaning.specs.Beginning.{Begun, at-unbound}
use Rattle.meaning.specs.Free.{In, operands_of, Closed}
use Rattle.rules.specs.Rule.{Condition, Rule, bound}
use Rattle.rules.specs.Meaning.{rule_do}
use Rattle.rules.specs.Entries.{rule_entries, Has, Rows}
use Rattle.rules.specs.Text.{Fields, rule_fields, rules_text, PlainRule, PlainRules, read, bad_field, rule_from, rules, meant}

-- c is one of the conditions
pub data Among (c : Condition) : List Condition → Type 0 where
  here : {cs : List Condition} → Among c (c ∷ cs)
  there : {d : Condition} {cs : List Condition} → Among c cs → Among c (d ∷ cs)

-- the entries that its conditions call have no free variables
abbrev pub ClosedCalls : Table → Rule → Type 0
ClosedCalls T r = (c : Condition) → Among c r.conditions → Closed T c.callee

-- where the table has a rule's entries at e, applying e derives just what the rule does
abbrev pub RuleDerives : Type 0
RuleDerives =
    (T : Table) (e : ℕ) (r : Rule) → Has T e (rule_entries e r) → ClosedCalls T r → (t : Term) (b : Env) (o : Out Term Env)
    → (T ⊢ apply e t b ⇒ o) ↔ Der terms (does T) (rule_do r t b) o

-- and meets a variable without a binding just where the rule does
abbrev pub RuleUnbound : Type 0
RuleUnbound =
    (T : Table) (e : ℕ) (r : Rule) → Has T e (rule_entries e r) → ClosedCalls T r → (t : Term) (b : Env) (v : ℕ)
    → Begun T (does T (apply e t b)) (at-unbound v) ↔ Begun T (rule_do r t b) (at-unbound v)

-- all bindings come back as at the start
abbrev pub RuleKeeps : Type 0
RuleKeeps =
    (T : Table) (e : ℕ) (r : Rule) → Has T e (rule_entries e r) → ClosedCalls T r → (t t' : Term) (b b' : Env)
    → T ⊢ apply e t b ⇒ done t' b' → b' ≡ b

-- a REC that a condition calls meets a variable without a binding
pub record Inside (T : Table) (cs : List Condition) (v : ℕ) : Type 0 where
  pub condition : Condition
  pub among : Among condition cs
  pub term : Term
  pub bindings : Env
  pub met : Begun T (does T (apply condition.callee term bindings)) (at-unbound v)

-- the builds of an accepted rule have all their variables bound: 12 comes only from inside a REC that a condition calls
abbrev pub RuleBound : Type 0
RuleBound = (T : Table) (r : Rule) → bound r ≡ true → (t : Term) (b : Env) (v : ℕ) → Begun T (rule_do r t b) (at-unbound v) → Inside T r.conditions v

-- a text means rules exactly where it is their text, their numbers being in the grammar's ranges
abbrev pub TextIsRules : Type 0
TextIsRules = (s : List ℕ) (rs : List Rule) → meant s ≡ rules rs ↔ (s ≡ rules_text rs) × PlainRules rs

-- a text is read in one way
abbrev pub OneReading : Type 0
OneReading = (rs qs : List Rule) → PlainRules rs → PlainRules qs → rules_text rs ≡ rules_text qs → rs ≡ qs

-- words that are a rule's entries are a table that has them
abbrev pub RowsHas : Type 0
RowsHas = (w : List ℕ) (e : ℕ) (r : Rule) → PlainRule r → Rows w e (rule_entries e r) → Has (table w) e (rule_entries e r)

-- entries are those of one rule
abbrev pub OneRule : Type 0
OneRule = (e : ℕ) (r r' : Rule) → rule_entries e r ≡ rule_entries e r' → r ≡ r'

-- field n, counted from 1, is the first bad one: those before it begin a rule's fields, and with it they begin none; past the
-- last field they begin a rule's, and are no rule's
pub record FirstBad (fs : Fields) (n : ℕ) : Type 0 where
  pub before : ℕ
  pub number : n ≡ suc before
  pub within : before ≤ length fs
  pub rule : Rule
  pub plain : PlainRule rule
  pub rest : Fields
  pub begins : rule_fields rule ≡ take before fs ++ rest
  pub bad : (r : Rule) (gs : Fields) → PlainRule r → rule_fields r ≡ take (suc before) fs ++ gs → before < length fs → ⊥
  pub short : (r : Rule) → PlainRule r → rule_fields r ≡ fs → ⊥

abbrev pub BadField : Type 0
BadField = (fs : Fields) (n : ℕ) → rule_from (read fs 2) ≡ bad_field n → FirstBad fs n

-- the first u entries of T' are those of T, and have all their operands among themselves
pub record Extends (T T' : Table) (u : ℕ) : Type 0 where
  pub strategies : (x : ℕ) → x < u → T'.strategies x ≡ T.strategies x
  pub patterns : (p : ℕ) → p < u → T'.patterns p ≡ T.patterns p
  pub operands : (x y : ℕ) → x < u → In y (operands_of (T.strategies x)) → y < u
  pub matched : (x p : ℕ) → x < u → T ∶ x is MATCH p → p < u
  pub built : (x p : ℕ) → x < u → T ∶ x is BUILD p → p < u
  pub scoped : (x m y : ℕ) → x < u → T ∶ x is SCOPE m y → y < u
  pub parts : (p c q : ℕ) (ps : List ℕ) → p < u → T ∶ p reads PCON c ps → In q ps → q < u

-- what has no free variables among the entries in use has none when entries are added
abbrev pub ClosedStays : Type 0
ClosedStays = (T T' : Table) (u : ℕ) → Extends T T' u → (x : ℕ) → x < u → Closed T x → Closed T' x
