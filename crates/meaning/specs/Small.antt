-- The small runs of document 01, S1 to S12, as one table: what is run, and what comes back, every number and every word. A scope's
-- mask has W words, and so there are 32 · W variables.
use Rattle.std.specs.Prelude.{◌≡◌, List, [], ◌∷◌, ◌++◌, map, ℕ, zero, suc, ◌+◌, ◌-◌, ◌*◌, ◌/◌, ◌%◌, length, replicate, set}
use Rattle.checks.specs.Kinds.{variables_by, argument_words_by}
use Rattle.checks.specs.Checked.{table_checked_by, store_checked}
use Rattle.checks.specs.Checked.{Checked}
use Rattle.meaning.specs.Derivation.{places, nowhere}
use Rattle.meaning.specs.Store.{Input, row, ran_by}
use Rattle.meaning.specs.Answer.{Returned, returned_by}

-- the lowest n words of a number, the lowest first
unfoldable pub words_of : ℕ → ℕ → List ℕ
words_of zero a = []
words_of (suc n) a = a % 4294967296 ∷ words_of n (a / 4294967296)

-- a store of these nodes with room for n nodes
unfoldable pub roomy : List ℕ → ℕ → List ℕ
roomy w n = w ++ replicate (8 * n - length w) 0

-- the store above: 1, 2 and 5(1, 2); and with another node more
unfoldable pub three : List ℕ
three = row 1 [] ++ row 2 [] ++ row 5 (0 ∷ 1 ∷ [])

unfoldable pub four : List ℕ → List ℕ
four r = three ++ r

-- one run: its name, what is handed over, and what comes back
pub record Case : Type 0 where
  pub run : ℕ
  pub given : Input
  pub gives : Returned

abbrev pub case : ℕ → Input → Returned → Case
case s i r = record { run = s; given = i; gives = r }

-- what comes back: the answer, the subject, the mark, the units used, the nodes with room for n, the bindings
unfoldable pub gives : (answer subject mark units : ℕ) → List ℕ → ℕ → List ℕ → Returned
gives a x m u w n b = record { answer = a; place = 0; subject = x; mark = m; units = u; store = roomy w n; bindings = b }

-- what the checks say of a run, and what it returns
pub record Seen : Type 0 where
  pub table : Checked
  pub store : Checked
  pub returns : Returned

unfoldable pub expected : Case → Seen
expected c = record { table = record { answer = 0; place = 0 }; store = record { answer = 0; place = 0 }; returns = c.gives }

module _ (W : ℕ) where
  -- the words of an entry: its kind, its argument, its operands
  unfoldable pub entry : ℕ → ℕ → List ℕ → List ℕ
  entry k a xs = (16 * k + length xs) ∷ words_of (argument_words_by W k) a ++ xs ++ replicate (7 - argument_words_by W k - length xs) 0

  -- nothing bound; and v bound to node k
  abbrev pub free : List ℕ
  free = replicate (variables_by W) 0

  unfoldable pub bound : ℕ → ℕ → List ℕ
  bound v k = set free v (k + 1)

  -- a run of the table t on the store w with room for n nodes, of which 3 are in use
  unfoldable pub given : List ℕ → List ℕ → (n subject units : ℕ) → Input
  given t w n x u = record { table = t; store = roomy w n; bindings = free; mark = 3; start = 0; subject = x; units = u }

  -- what comes back of a failed run: the pattern at which the last match gave up, the subject, the units used, nodes and room
  unfoldable pub fails-at : (place subject units : ℕ) → List ℕ → ℕ → Returned
  fails-at p x u w n = record { answer = 1; place = p; subject = x; mark = 3; units = u; store = roomy w n; bindings = free }

  -- S1's table: the pair swapped
  unfoldable pub swap : List ℕ
  swap =
      entry 16 3 (1 ∷ []) ++ entry 4 0 (2 ∷ 3 ∷ []) ++ entry 14 0 (4 ∷ []) ++ entry 15 0 (5 ∷ [])
      ++ entry 19 5 (6 ∷ 7 ∷ []) ++ entry 19 5 (7 ∷ 6 ∷ []) ++ entry 18 0 [] ++ entry 18 1 []

  -- MATCH of 5(x, x); x and MATCH x as entries e + 1 and e of a table
  unfoldable pub twice : List ℕ
  twice = entry 14 0 (1 ∷ []) ++ entry 19 5 (2 ∷ 2 ∷ []) ++ entry 18 0 []

  unfoldable pub match_x : ℕ → List ℕ
  match_x e = entry 14 0 ((e + 1) ∷ []) ++ entry 18 0 []

  unfoldable pub cases : List Case
  cases =
      case 1 (given swap three 4 2 10) (gives 0 3 4 10 (four (row 5 (1 ∷ 0 ∷ []))) 4 free)
      ∷ case 2 (given swap three 4 2 9) (gives 6 2 3 9 three 4 free)
      ∷ case 3 (given swap three 3 2 10) (gives 7 2 3 10 three 3 free)
      ∷ case 4 (given twice three 8 2 99) (fails-at 2 2 5 three 8)
      ∷ case 5 (given twice (row 1 [] ++ row 2 [] ++ row 5 (0 ∷ 0 ∷ [])) 8 2 99) (gives 0 2 3 5 (row 1 [] ++ row 2 [] ++ row 5 (0 ∷ 0 ∷ [])) 8 (bound 0 0))
      ∷ case 6 (given (entry 6 0 (1 ∷ 5 ∷ []) ++ entry 4 0 (2 ∷ 4 ∷ []) ++ match_x 2 ++ entry 1 0 [] ++ entry 0 0 []) three 8 2 99) (gives 0 2 3 6 three 8 free)
      ∷ case 7 (given (entry 11 0 (1 ∷ []) ++ entry 1 0 []) three 8 0 99) (gives 0 0 3 1 three 8 free)
      ∷ case 7 (given (entry 12 0 (1 ∷ []) ++ entry 0 0 []) three 8 0 99) (fails-at nowhere 0 1 three 8)
      ∷ case 8 (given (entry 13 0 (1 ∷ []) ++ entry 14 0 (2 ∷ []) ++ entry 19 1 []) three 8 2 99) (gives 0 3 4 5 (four (row 5 (0 ∷ 1 ∷ []))) 8 free)
      ∷ case 9 (given (entry 9 3 (1 ∷ []) ++ entry 0 0 []) three 8 2 99) (fails-at nowhere 2 1 three 8)
      ∷ case 9 (given (entry 9 2 (1 ∷ []) ++ entry 0 0 []) three 8 2 99) (gives 0 3 4 2 (four (row 5 (0 ∷ 1 ∷ []))) 8 free)
      ∷ case 10 (given (entry 2 0 (1 ∷ []) ++ match_x 1) three 8 2 99) (gives 0 2 3 3 three 8 free)
      ∷ case 10 (given (entry 17 0 (1 ∷ []) ++ match_x 1) three 8 2 99) (gives 0 2 3 3 three 8 (bound 0 2))
      ∷ case 11 (given (entry 7 0 (1 ∷ []) ++ entry 8 0 (0 ∷ [])) three 8 2 7) (gives 6 2 3 7 three 8 free)
      ∷ case 11 (given (entry 7 0 (1 ∷ []) ++ entry 8 0 (0 ∷ [])) three 8 2 5000) (gives 8 2 3 4096 three 8 free)
      ∷ case 12 (given (entry 15 0 (1 ∷ []) ++ entry 18 0 []) three 8 2 99) (gives 12 2 3 2 three 8 free)
      ∷ []

  unfoldable pub seen : Case → Seen
  seen c = record {
    table = table_checked_by W c.given.table;
    store = store_checked c.given.store c.given.mark;
    returns = returned_by W c.given (ran_by W places nowhere c.given);
  }

  -- every small run passes both checks and gives what its line says
  abbrev pub SmallRunsBy : Type 0
  SmallRunsBy = map seen cases ≡ map expected cases

-- the small runs with 32 variables, and with 64
pub record SmallRuns : Type 0 where
  pub with-32 : SmallRunsBy 1
  pub with-64 : SmallRunsBy 2
