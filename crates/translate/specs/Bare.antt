-- Entries before their operands are known: those of a line's terms in preorder, and those inside a rule's scope.
use Rattle.std.specs.Prelude.{List, [], ◌∷◌, ◌++◌, ℕ, zero, suc, ◌+◌, ◌≤◌, length, replicate}
use Rattle.std.proofs.Math.Option.{Option, none, some}
use Rattle.meaning.specs.Table.{SEQ, CALL, MATCH, BUILD, SCOPE, WHERE, PVAR, PCON}
use Rattle.text.specs.Text.{one_word, number_of}
use Rattle.rules.specs.Rule.{Pat, Pats, var, con, none as no-pats, more as more-pats, Condition, Rule, count}
use Rattle.rules.specs.Text.{Fields, Head, variable, constructor, neither, head_of, up_to_six, ReadRule, rule, bad_field}
use Rattle.rules.specs.Entries.{Entry, strategy, pattern}
use Rattle.rules.specs.Scan.{fields_from}
use Rattle.check_rules.specs.Bound.{RuleLine}
use Rattle.rules.specs.Condition.{Found}
use Rattle.translate.specs.Added.{Placed}

unfoldable mutual
  -- the bare entries of a pattern
  pub bare_pat : Pat → List Entry
  bare_pat (var v) = pattern (PVAR v) ∷ []
  bare_pat (con c ps) = pattern (PCON c (replicate (count ps) 0)) ∷ bare_pats ps

  pub bare_pats : Pats → List Entry
  bare_pats no-pats = []
  bare_pats (more-pats p ps) = bare_pat p ++ bare_pats ps

abbrev pub on_head : Head → (ℕ → List Entry) → (ℕ → List Entry) → List Entry
on_head (variable v) i j = i v
on_head (constructor c) i j = j c
on_head neither i j = []

abbrev pub on_count : Option ℕ → (ℕ → List Entry) → List Entry
on_count none k = []
on_count (some n) k = k n

unfoldable mutual
  -- those of w terms, as their fields say
  pub bare_of : Fields → ℕ → List Entry
  bare_of [] w = []
  bare_of (f ∷ fs) zero = []
  bare_of (f ∷ fs) (suc w) = on_head (head_of f) (λ v. pattern (PVAR v) ∷ bare_of fs w) (λ c. bare_count fs c w)

  pub bare_count : Fields → (c w : ℕ) → List Entry
  bare_count [] c w = []
  bare_count (f ∷ fs) c w = on_count (up_to_six (number_of one_word f)) (λ n. pattern (PCON c (replicate n 0)) ∷ bare_of fs (w + n))

-- the SCOPE, at entry e, with its operand
abbrev pub scope_put : (e mask : ℕ) → List Entry
scope_put e m = strategy (SCOPE m (suc e)) ∷ []

-- the bare entries inside it: those before the left term, before a condition's starting term and outcome, and before the right term
abbrev pub body_opened : List Entry
body_opened = strategy (SEQ 0 0) ∷ strategy (MATCH 0) ∷ []

abbrev pub condition_opened : List Entry
condition_opened = strategy (SEQ 0 0) ∷ strategy (WHERE 0) ∷ strategy (SEQ 0 0) ∷ strategy (BUILD 0) ∷ []

abbrev pub call_put : ℕ → List Entry
call_put x = strategy (SEQ 0 0) ∷ strategy (CALL x) ∷ strategy (MATCH 0) ∷ []

abbrev pub build_put : List Entry
build_put = strategy (BUILD 0) ∷ []

unfoldable pub bare_condition : Condition → List Entry
bare_condition c = condition_opened ++ (bare_pat c.start ++ (call_put c.callee ++ bare_pat c.outcome))

unfoldable pub bare_conditions : List Condition → List Entry
bare_conditions [] = []
bare_conditions (c ∷ cs) = bare_condition c ++ bare_conditions cs

unfoldable pub bare_body : Rule → List Entry
bare_body r = body_opened ++ (bare_pat r.left ++ (bare_conditions r.conditions ++ (build_put ++ bare_pat r.right)))

-- the same of a condition that was found in a line
unfoldable pub bare_found : List ℕ → Found → List Entry
bare_found l c = condition_opened ++ (bare_of (fields_from l c.start) 1 ++ (call_put c.callee ++ bare_of (fields_from l c.outcome) 1))

-- the line is that of a rule, and these entries of it fit: f says which
pub record Fits (f : Rule → List Entry) (l : List ℕ) (right conditions first room : ℕ) : Type 0 where
  pub line : RuleLine l right conditions
  pub fits : first + length (f line.its) ≤ room

-- these entries of a line's rule were put
abbrev pub PlacedIn : ReadRule → (Rule → List Entry) → List ℕ → ℕ → List ℕ → ℕ → Type 0
PlacedIn (rule r) f t e t' e' = Placed t e (f r) t' e'
PlacedIn (bad_field n) f t e t' e' = Unit {0}

abbrev pub its_conditions : Rule → List Entry
its_conditions r = bare_conditions r.conditions
