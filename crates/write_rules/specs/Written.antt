-- A rule written back: the entries that start a rule which the translator would take, and what the writer answers, whatever the
-- table and the entry are.
use Rattle.std.specs.Prelude.{◌≡◌, ◌≢◌, List, ◌++◌, ℕ, ◌+◌, ◌≤◌, ◌<◌, length, drop}
use Rattle.rules.specs.Rule.{Rule}
use Rattle.rules.specs.Text.{rule_text, PlainRule}
use Rattle.rules.specs.Entries.{rule_entries, Rows}
use Rattle.rules.specs.Shape.{rule_size}
use Rattle.check_rules.specs.Answer.{used_checked}
use Rattle.check_rules.specs.Promises.{Allowed}
use Rattle.std.specs.Prelude.{Result, Ok, Err, [], ◌∷◌}
use Rattle.checks.specs.Numbers.{answer_of, place_of}
use Rattle.write_rules.specs.declared.rule.WriteRefusal.{WriteRefusal}
use Rattle.write_rules.specs.declared.rule.WriteRefusal.TheVariants.{Table, NoRule, Short}

-- the answer, the entry that it is about, and how many bytes were written
pub record Written : Type 0 where
  pub answer : ℕ
  pub place : ℕ
  pub length : ℕ

-- the entries from e on are those of a rule that the translator would take, all in use
pub record RuleAt (t : List ℕ) (u e : ℕ) (q : Rule) : Type 0 where
  pub plain : PlainRule q
  pub allowed : Allowed t u q
  pub inside : e + rule_size q ≤ u
  pub rows : Rows t e (rule_entries e q)

abbrev pub wrote : (answer place length : ℕ) → Written
wrote a p n = record { answer = a; place = p; length = n }

-- the three numbers of what `write_rule` returns
abbrev pub written_of : Result ℕ WriteRefusal → Written
written_of (Ok n) = wrote 0 0 n
written_of (Err (Table e)) = wrote (answer_of e) (place_of e) 0
written_of (Err NoRule) = wrote 5 0 0
written_of (Err Short) = wrote 26 0 0

-- as a list
abbrev pub three_of : Written → List ℕ
three_of r = r.answer ∷ r.place ∷ r.length ∷ []

-- the numbers and the buffer for a table with u entries in use, an entry and a buffer
pub data RuleWritten (t : List ℕ) (u e : ℕ) (b : List ℕ) (r : Written) (b' : List ℕ) : Type 0 where
  entries : (used_checked t u).answer ≢ 0 → r ≡ wrote (used_checked t u).answer (used_checked t u).place 0 → b' ≡ b → RuleWritten t u e b r b'
  none : (used_checked t u).answer ≡ 0 → ((q : Rule) → RuleAt t u e q → ⊥) → r ≡ wrote 5 0 0 → b' ≡ b → RuleWritten t u e b r b'
  short : (used_checked t u).answer ≡ 0 → (q : Rule) → RuleAt t u e q → length b < length (rule_text q) → r ≡ wrote 26 0 0 → b' ≡ b → RuleWritten t u e b r b'
  line : (used_checked t u).answer ≡ 0 → (q : Rule) → RuleAt t u e q → length (rule_text q) ≤ length b → r ≡ wrote 0 0 (length (rule_text q))
      → b' ≡ rule_text q ++ drop (length (rule_text q)) b → RuleWritten t u e b r b'
