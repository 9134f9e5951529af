-- The entries of a rule: a tree of strategies, numbered in preorder. An operand is the number at which its entries begin.
use Rattle.std.specs.Prelude.{◌≡◌, List, [], ◌∷◌, ◌++◌, ℕ, suc, ◌+◌, ◌-◌, ◌*◌, ◌/◌, ◌%◌, ◌^◌, ◌<◌, length, get_or, replicate}
use Rattle.std.specs.Int.Bits.{bit_or}
use Rattle.meaning.specs.Table.{Strategy, ID, FAIL, TEST, NOT, SEQ, CHOICE, LEFT, REC, CALL, PATH, CONG, ALL, ONE, SOME, MATCH, BUILD, SCOPE, WHERE, Pattern, PVAR, PCON, Table}
use Rattle.meaning.specs.System.{◌∶◌is◌, ◌∶◌reads◌}
use Rattle.words.specs.Words.{word_at}
use Rattle.rules.specs.Rule.{Pat, Pats, var, con, none, more, Condition, Rule, rule_variables}

-- the strategies that rules are made of
pub data Code : Type 0 where
  scope : ℕ → Code → Code
  seq : Code → Code → Code
  where-of : Code → Code
  match build : Pat → Code
  call : ℕ → Code

-- one bit for each variable
unfoldable pub mask_of : List ℕ → ℕ
mask_of [] = 0
mask_of (v ∷ vs) = bit_or (2 ^ v) (mask_of vs)

-- each condition is a WHERE of build, CALL, match; SEQs are nested to the right
unfoldable pub condition_code : Condition → Code
condition_code c = where-of (seq (build c.start) (seq (call c.callee) (match c.outcome)))

unfoldable pub conditions_code : List Condition → Pat → Code
conditions_code [] p = build p
conditions_code (c ∷ cs) p = seq (condition_code c) (conditions_code cs p)

unfoldable pub rule_code : Rule → Code
rule_code r = scope (mask_of (rule_variables r)) (seq (match r.left) (conditions_code r.conditions r.right))

-- ---- preorder

-- an entry is met as a strategy or as a pattern
pub data Entry : Type 0 where
  strategy : Strategy → Entry
  pattern : Pattern → Entry

unfoldable mutual
  -- how many entries
  pub size : Pat → ℕ
  size (var v) = 1
  size (con c ps) = suc (sizes ps)

  pub sizes : Pats → ℕ
  sizes none = 0
  sizes (more p ps) = size p + sizes ps

-- where children begin, the first at e
unfoldable pub places : ℕ → Pats → List ℕ
places e none = []
places e (more p ps) = e ∷ places (e + size p) ps

unfoldable mutual
  -- the entries of a pattern that begins at e
  pub pat_entries : ℕ → Pat → List Entry
  pat_entries e (var v) = pattern (PVAR v) ∷ []
  pat_entries e (con c ps) = pattern (PCON c (places (suc e) ps)) ∷ pats_entries (suc e) ps

  pub pats_entries : ℕ → Pats → List Entry
  pats_entries e none = []
  pats_entries e (more p ps) = pat_entries e p ++ pats_entries (e + size p) ps

unfoldable pub code_size : Code → ℕ
code_size (scope m a) = suc (code_size a)
code_size (seq a c) = suc (code_size a + code_size c)
code_size (where-of a) = suc (code_size a)
code_size (match p) = suc (size p)
code_size (build p) = suc (size p)
code_size (call x) = 1

-- the entries of a tree that begins at e
unfoldable pub code_entries : ℕ → Code → List Entry
code_entries e (scope m a) = strategy (SCOPE m (suc e)) ∷ code_entries (suc e) a
code_entries e (seq a c) = strategy (SEQ (suc e) (suc e + code_size a)) ∷ (code_entries (suc e) a ++ code_entries (suc e + code_size a) c)
code_entries e (where-of a) = strategy (WHERE (suc e)) ∷ code_entries (suc e) a
code_entries e (match p) = strategy (MATCH (suc e)) ∷ pat_entries (suc e) p
code_entries e (build p) = strategy (BUILD (suc e)) ∷ pat_entries (suc e) p
code_entries e (call x) = strategy (CALL x) ∷ []

unfoldable pub rule_entries : ℕ → Rule → List Entry
rule_entries e r = code_entries e (rule_code r)

-- ---- a table that has them

abbrev pub Is : Table → ℕ → Entry → Type 0
Is T e (strategy s) = T ∶ e is s
Is T e (pattern p) = T ∶ e reads p

-- from e on the table has these entries
unfoldable pub Has : Table → ℕ → List Entry → Type 0
Has T e [] = Unit {0}
Has T e (x ∷ xs) = Is T e x × Has T (suc e) xs

-- ---- the words that have them

-- 16 × kind + operand count, the argument, the operands, and zeros
abbrev pub eight : (kind argument : ℕ) → List ℕ → List ℕ
eight k a xs = (16 * k + length xs) ∷ a ∷ (xs ++ replicate (6 - length xs) 0)

-- the eight words of an entry; a SCOPE's mask has two, the low one first
unfoldable pub row_of : Entry → List ℕ
row_of (strategy ID) = eight 0 0 []
row_of (strategy FAIL) = eight 1 0 []
row_of (strategy (TEST x)) = eight 2 0 (x ∷ [])
row_of (strategy (NOT x)) = eight 3 0 (x ∷ [])
row_of (strategy (SEQ x y)) = eight 4 0 (x ∷ y ∷ [])
row_of (strategy (CHOICE x y)) = eight 5 0 (x ∷ y ∷ [])
row_of (strategy (LEFT x y)) = eight 6 0 (x ∷ y ∷ [])
row_of (strategy (REC x)) = eight 7 0 (x ∷ [])
row_of (strategy (CALL x)) = eight 8 0 (x ∷ [])
row_of (strategy (PATH i x)) = eight 9 i (x ∷ [])
row_of (strategy (CONG c xs)) = eight 10 c xs
row_of (strategy (ALL x)) = eight 11 0 (x ∷ [])
row_of (strategy (ONE x)) = eight 12 0 (x ∷ [])
row_of (strategy (SOME x)) = eight 13 0 (x ∷ [])
row_of (strategy (MATCH x)) = eight 14 0 (x ∷ [])
row_of (strategy (BUILD x)) = eight 15 0 (x ∷ [])
row_of (strategy (SCOPE m x)) = 257 ∷ m % 4294967296 ∷ m / 4294967296 ∷ x ∷ 0 ∷ 0 ∷ 0 ∷ 0 ∷ []
row_of (strategy (WHERE x)) = eight 17 0 (x ∷ [])
row_of (pattern (PVAR v)) = eight 18 v []
row_of (pattern (PCON c xs)) = eight 19 c xs

-- row e of the words is the entry's
abbrev pub Row : List ℕ → ℕ → Entry → Type 0
Row w e x = (j : ℕ) → j < 8 → word_at w e j ≡ get_or (row_of x) j 0

-- from row e on the words are these entries
unfoldable pub Rows : List ℕ → ℕ → List Entry → Type 0
Rows w e [] = Unit {0}
Rows w e (x ∷ xs) = Row w e x × Rows w (suc e) xs
