-- What a text gets before anything is written: the entries in use once all its rules are added, or its first bad line. Within a
-- line 18 comes first, then 19, 20 and 22, then 23 where the table would be too long.
use Rattle.std.specs.Prelude.{Bool, List, [], ◌∷◌, ℕ, ◌+◌, ltb, eqb, if◌then◌else◌}
use Rattle.rules.specs.Text.{rule_of}
use Rattle.check_rules.specs.Line.{line_of}
use Rattle.check_rules.specs.Line.{Line}
use Rattle.std.specs.Prelude.{Result, Ok, Err}
use Rattle.checks.specs.Numbers.{answer_of, place_of}
use Rattle.check_rules.specs.Line.{line_fault_number, fault_field}
use Rattle.check_rules.specs.declared.check.RulesRefusal.{RulesRefusal}
use Rattle.check_rules.specs.declared.check.RulesRefusal.TheVariants as refused

-- the entries in use, the answer, and the line and the field that it is about
pub record Translated : Type 0 where
  pub used : ℕ
  pub answer : ℕ
  pub line : ℕ
  pub field : ℕ

abbrev pub told : (used answer line field : ℕ) → Translated
told u a l f = record { used = u; answer = a; line = l; field = f }

-- the four numbers of a translation over a table with u entries in use
abbrev pub told_of : Result ℕ RulesRefusal → ℕ → Translated
told_of (Ok n) u = told n 0 0 0
told_of (Err (refused.Table e)) u = told u (answer_of e) (place_of e) 0
told_of (Err (refused.Line n f)) u = told u (line_fault_number f) n (fault_field f)

-- in the order in which a caller gets them
abbrev pub refusal_numbers : Translated → List ℕ
refusal_numbers r = r.answer ∷ r.line ∷ r.field ∷ r.used ∷ []

-- what a line is refused with: its field with 18 alone
unfoldable pub refusal : (used n : ℕ) → Line → Translated
refusal u n x = told u x.answer n (if eqb x.answer 18 then x.field else 0)

module _ (f : ℕ → Bool) (room used : ℕ) where
  -- line n, when e entries are in use
  abbrev pub by_line : (n e : ℕ) → Line → (ℕ → Translated) → Translated
  by_line n e x k = if eqb x.answer 0 then (if ltb room (e + x.size) then told used 23 n 0 else k (e + x.size)) else refusal used n x

  -- what stands after the last line feed
  abbrev pub last_line : (n e : ℕ) → List ℕ → Translated
  last_line n e [] = told e 0 0 0
  last_line n e (b ∷ l) = told used 18 n (line_of f (rule_of (b ∷ l))).field

  unfoldable pub text_checked : (n e : ℕ) → List (List ℕ) → Translated
  text_checked n e [] = told e 0 0 0
  text_checked n e (l ∷ []) = last_line n e l
  text_checked n e (l ∷ m ∷ ls) = by_line n e (line_of f (rule_of l)) (λ e'. text_checked (n + 1) e' (m ∷ ls))
