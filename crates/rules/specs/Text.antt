-- The text of rules: a line each, ended by a line feed, its fields between tabs: the left term, the right term, and for each
-- condition the number of an entry, the starting term and the outcome's pattern. A term is in prefix form: `v` and a number,
-- or a constructor and a child count, and then the children.
use Rattle.std.specs.Prelude.{List, [], ◌∷◌, ◌++◌, ℕ, zero, suc, ◌+◌, ◌≤◌, eqb, leb, length, if◌then◌else◌}
use Rattle.std.proofs.Math.Option.{Option, none, some}
use Rattle.text.specs.Text.{parts, one_word, number_of, decimal}
use Rattle.rules.specs.Rule.{Pat, Pats, var, con, none as no-pats, more as more-pats, Condition, Rule, count}

abbrev pub Fields : Type 0
Fields = List (List ℕ)

-- ---- writing

unfoldable mutual
  -- the fields of a term
  pub pat_fields : Pat → Fields
  pat_fields (var v) = (118 ∷ decimal v) ∷ []
  pat_fields (con c ps) = decimal c ∷ decimal (count ps) ∷ pats_fields ps

  pub pats_fields : Pats → Fields
  pats_fields no-pats = []
  pats_fields (more-pats p ps) = pat_fields p ++ pats_fields ps

unfoldable pub conditions_fields : List Condition → Fields
conditions_fields [] = []
conditions_fields (c ∷ cs) = decimal c.callee ∷ (pat_fields c.start ++ (pat_fields c.outcome ++ conditions_fields cs))

unfoldable pub rule_fields : Rule → Fields
rule_fields r = pat_fields r.left ++ (pat_fields r.right ++ conditions_fields r.conditions)

-- each after a tab
unfoldable pub tabbed : Fields → List ℕ
tabbed [] = []
tabbed (f ∷ fs) = 9 ∷ (f ++ tabbed fs)

-- the bytes of fields, with the line feed
unfoldable pub fields_text : Fields → List ℕ
fields_text [] = 10 ∷ []
fields_text (f ∷ fs) = f ++ (tabbed fs ++ (10 ∷ []))

unfoldable pub rule_text : Rule → List ℕ
rule_text r = fields_text (rule_fields r)

unfoldable pub rules_text : List Rule → List ℕ
rules_text [] = []
rules_text (r ∷ rs) = rule_text r ++ rules_text rs

-- ---- what may be written: numbers in the ranges of the grammar

mutual
  pub data Plain : Pat → Type 0 where
    plain-var : {v : ℕ} → v ≤ 4294967295 → Plain (var v)
    plain-con : {c : ℕ} {ps : Pats} → c ≤ 65535 → count ps ≤ 6 → Plains ps → Plain (con c ps)

  pub data Plains : Pats → Type 0 where
    plain-none : Plains no-pats
    plain_more : {p : Pat} {ps : Pats} → Plain p → Plains ps → Plains (more-pats p ps)

pub data PlainConditions : List Condition → Type 0 where
  plain_end : PlainConditions []
  plain-next : {c : Condition} {cs : List Condition} → c.callee ≤ 4294967295 → Plain c.start → Plain c.outcome → PlainConditions cs → PlainConditions (c ∷ cs)

pub record PlainRule (r : Rule) : Type 0 where
  pub left : Plain r.left
  pub right : Plain r.right
  pub conditions : PlainConditions r.conditions

pub data PlainRules : List Rule → Type 0 where
  no-rules : PlainRules []
  next-rule : {r : Rule} {rs : List Rule} → PlainRule r → PlainRules rs → PlainRules (r ∷ rs)

-- ---- reading

-- what a term's first field is
pub data Head : Type 0 where
  variable : ℕ → Head
  constructor : ℕ → Head
  neither : Head

abbrev pub variable_head : Option ℕ → Head
variable_head none = neither
variable_head (some v) = variable v

abbrev pub constructor_head : Option ℕ → Head
constructor_head none = neither
constructor_head (some c) = if leb c 65535 then constructor c else neither

unfoldable pub head_of : List ℕ → Head
head_of [] = neither
head_of (b ∷ f) = if eqb b 118 then variable_head (number_of one_word f) else constructor_head (number_of one_word (b ∷ f))

abbrev pub up_to_six : Option ℕ → Option ℕ
up_to_six none = none
up_to_six (some n) = if leb n 6 then some n else none

-- terms and then conditions, or how many fields are good before the first bad one; past the last a field is missing
pub data Read : Type 0 where
  got : Pats → List Condition → Read
  bad : ℕ → Read

unfoldable pub later : Read → Read
later (got ps cs) = got ps cs
later (bad i) = bad (suc i)

-- the first n of terms, and the others
unfoldable pub first_of : ℕ → Pats → Pats
first_of zero ps = no-pats
first_of (suc n) no-pats = no-pats
first_of (suc n) (more-pats p ps) = more-pats p (first_of n ps)

unfoldable pub others_of : ℕ → Pats → Pats
others_of zero ps = ps
others_of (suc n) no-pats = no-pats
others_of (suc n) (more-pats p ps) = others_of n ps

unfoldable pub in_front : Pat → Read → Read
in_front p (got ps cs) = got (more-pats p ps) cs
in_front p (bad i) = bad i

-- of the terms that follow a constructor the first n are its children
unfoldable pub parent : ℕ → ℕ → Read → Read
parent c n (got ps cs) = got (more-pats (con c (first_of n ps)) (others_of n ps)) cs
parent c n (bad i) = bad i

-- a condition's two terms
unfoldable pub condition_of : ℕ → Read → Read
condition_of x (got (more-pats s (more-pats o ps)) cs) = got no-pats (record { callee = x; start = s; outcome = o } ∷ cs)
condition_of x (got no-pats cs) = bad 0
condition_of x (got (more-pats s no-pats) cs) = bad 0
condition_of x (bad i) = bad i

abbrev pub or_bad : Option ℕ → (ℕ → Read) → Read
or_bad none k = bad 0
or_bad (some n) k = later (k n)

abbrev pub on_head : Head → (ℕ → Read) → (ℕ → Read) → Read
on_head (variable v) i j = later (i v)
on_head (constructor c) i j = later (j c)
on_head neither i j = bad 0

unfoldable mutual
  -- k terms, and then conditions up to the last field
  pub read : Fields → ℕ → Read
  read [] zero = got no-pats []
  read [] (suc k) = bad 0
  read (f ∷ fs) zero = or_bad (number_of one_word f) (λ x. condition_of x (read fs 2))
  read (f ∷ fs) (suc k) = on_head (head_of f) (λ v. in_front (var v) (read fs k)) (λ c. counted fs c k)

  -- the field after a constructor is its child count
  pub counted : Fields → (c k : ℕ) → Read
  counted [] c k = bad 0
  counted (f ∷ fs) c k = or_bad (up_to_six (number_of one_word f)) (λ n. parent c n (read fs (n + k)))

-- a rule, or the number of its first bad field
pub data ReadRule : Type 0 where
  rule : Rule → ReadRule
  bad_field : ℕ → ReadRule

abbrev pub rule_from : Read → ReadRule
rule_from (got (more-pats l (more-pats r ps)) cs) = rule (record { left = l; right = r; conditions = cs })
rule_from (got (more-pats l no-pats) cs) = bad_field 0
rule_from (got no-pats cs) = bad_field 0
rule_from (bad i) = bad_field (suc i)

-- the rule of a line's bytes, without the line feed
unfoldable pub rule_of : List ℕ → ReadRule
rule_of l = rule_from (read (parts 9 l) 2)

-- what a text means: rules, or the line and the field that are bad
pub data Meant : Type 0 where
  rules : List Rule → Meant
  bad_at : (line field : ℕ) → Meant

abbrev pub before : Rule → Meant → Meant
before r (rules rs) = rules (r ∷ rs)
before r (bad_at l i) = bad_at l i

abbrev pub or_bad_at : ℕ → ReadRule → (Rule → Meant) → Meant
or_bad_at n (bad_field i) k = bad_at n i
or_bad_at n (rule r) k = k r

-- a line that no line feed ends is cut short
abbrev pub unended : ℕ → List ℕ → ReadRule → Meant
unended n l (bad_field i) = bad_at n i
unended n l (rule r) = bad_at n (suc (length (parts 9 l)))

abbrev pub last_part : ℕ → List ℕ → Meant
last_part n [] = rules []
last_part n (b ∷ l) = unended n (b ∷ l) (rule_of (b ∷ l))

-- what lines mean from line n on; the last part is what stands after the last line feed
unfoldable pub read_lines : ℕ → List (List ℕ) → Meant
read_lines n [] = rules []
read_lines n (l ∷ []) = last_part n l
read_lines n (l ∷ m ∷ ls) = or_bad_at n (rule_of l) (λ r. before r (read_lines (suc n) (m ∷ ls)))

unfoldable pub meant : List ℕ → Meant
meant s = read_lines 1 (parts 10 s)
