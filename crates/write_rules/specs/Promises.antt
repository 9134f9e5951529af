-- What is promised of the writer, and of the writer and the translator together.
use Rattle.std.specs.Prelude.{◌≡◌, List, [], ◌∷◌, ℕ, ◌≤◌, length, take}
use Rattle.rules.specs.Rule.{Rule}
use Rattle.rules.specs.Text.{rule_text, rules, meant}
use Rattle.check_rules.specs.Check.{Translated}
use Rattle.translate.specs.Added.{with_rules, Translating}
use Rattle.translate.specs.Promises.{Begins}
use Rattle.write_rules.specs.Written.{RuleAt, RuleWritten}
use Rattle.write_rules.specs.Written.{Written}

-- two outcomes for one table, one entry and one buffer agree in all numbers and in every byte
abbrev pub Agree : Type 0
Agree =
    (t : List ℕ) (u e : ℕ) (b : List ℕ) (r r' : Written) (b' b'' : List ℕ) → RuleWritten t u e b r b' → RuleWritten t u e b r' b'' → (r ≡ r') × (b' ≡ b'')

-- entries start one rule
abbrev pub OneRuleThere : Type 0
OneRuleThere = (t : List ℕ) (u e : ℕ) (q q' : Rule) → RuleAt t u e q → RuleAt t u e q' → q ≡ q'

-- a rule that was translated is written back to the same bytes, where the buffer has room for them
pub record SameBytes (q : Rule) (r : Written) (b' : List ℕ) : Type 0 where
  pub answer : r.answer ≡ 0
  pub long : r.length ≡ length (rule_text q)
  pub bytes : take r.length b' ≡ rule_text q

abbrev pub TranslatedThenWritten : Type 0
TranslatedThenWritten =
    (t : List ℕ) (u : ℕ) (s : List ℕ) (r : Translated) (t' : List ℕ) → Translating t u s r t' → r.answer ≡ 0
    → (rs : List Rule) → meant s ≡ rules rs → (e : ℕ) (q : Rule) → Begins u rs e q
    → (b : List ℕ) → length (rule_text q) ≤ length b → (w : Written) (b' : List ℕ) → RuleWritten t' r.used e b w b' → SameBytes q w b'

-- a line that was written is that of one rule, and its entries, put where it was read, are those that stand there
pub record SameEntries (t : List ℕ) (e : ℕ) (l : List ℕ) : Type 0 where
  pub rule : Rule
  pub means : meant l ≡ rules (rule ∷ [])
  pub entries : with_rules (meant l) t e ≡ t

abbrev pub WrittenThenTranslated : Type 0
WrittenThenTranslated =
    (t : List ℕ) (u e : ℕ) (b : List ℕ) (r : Written) (b' : List ℕ) → RuleWritten t u e b r b' → r.answer ≡ 0 → SameEntries t e (take r.length b')
