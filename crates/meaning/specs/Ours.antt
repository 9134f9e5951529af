-- Small runs of our own beside document 01's, for the kinds and the rules that S1 to S12 leave out: one table, one statement.
use Rattle.std.specs.Prelude.{◌≡◌, List, [], ◌∷◌, ◌++◌, map, ℕ, ◌+◌, set}
use Rattle.meaning.specs.Store.{row}
use Rattle.meaning.specs.Derivation.{nowhere}
use Rattle.meaning.specs.Answer.{Returned}
use Rattle.meaning.specs.Small.{entry, free, roomy, bound, three, four, given, gives, Case, case, match_x, fails-at, seen, expected}

-- the store above, but node 2 is 5(0, 0)
unfoldable pub paired : List ℕ
paired = row 1 [] ++ row 2 [] ++ row 5 (0 ∷ 0 ∷ [])

module _ (W : ℕ) where
  -- BUILD of the constant 7, whose pattern is entry e
  unfoldable pub build7 : ℕ → List ℕ
  build7 e = entry W 15 0 (e ∷ []) ++ entry W 19 7 []

  -- MATCH of the constant 7 as entry e, with its pattern after it
  unfoldable pub match7 : ℕ → List ℕ
  match7 e = entry W 14 0 ((e + 1) ∷ []) ++ entry W 19 7 []

  -- BUILD of variable 3, whose pattern is entry e; what comes back where it has no binding, with these units used
  unfoldable pub build-v3 : ℕ → List ℕ
  build-v3 e = entry W 15 0 (e ∷ []) ++ entry W 18 3 []

  unfoldable pub no-v3 : ℕ → Returned
  no-v3 u = record { answer = 12; place = 3; subject = 2; mark = 3; units = u; store = roomy three 8; bindings = free W }

  -- BUILD of 9(7, v3): a node is made before the variable is met
  unfoldable pub build-pair : List ℕ
  build-pair = entry W 15 0 (1 ∷ []) ++ entry W 19 9 (2 ∷ 3 ∷ []) ++ entry W 19 7 [] ++ entry W 18 3 []

  -- MATCH x, MATCH y and their patterns as entries 1 to 4
  unfoldable pub two : List ℕ
  two = entry W 14 0 (3 ∷ []) ++ entry W 14 0 (4 ∷ []) ++ entry W 18 0 [] ++ entry W 18 1 []

  -- two scopes of x, one in the other: the outer x is the subject, the inner one its first child
  unfoldable pub scopes : List ℕ
  scopes =
      entry W 16 1 (1 ∷ []) ++ entry W 4 0 (2 ∷ 3 ∷ []) ++ entry W 14 0 (8 ∷ []) ++ entry W 4 0 (4 ∷ 5 ∷ []) ++ entry W 16 1 (6 ∷ [])
      ++ entry W 15 0 (8 ∷ []) ++ entry W 9 1 (7 ∷ []) ++ entry W 14 0 (8 ∷ []) ++ entry W 18 0 []

  -- each with the kind that it is about
  unfoldable pub our-cases : List Case
  our-cases =
      -- TEST: a term that it made is given back, and so is the room; where its operand fails, it fails
      case 2 (given W (entry W 2 0 (1 ∷ []) ++ build7 2) three 8 2 99) (gives 0 2 3 3 three 8 (free W))
      ∷ case 2 (given W (entry W 2 0 (1 ∷ []) ++ entry W 1 0 []) three 8 2 99) (fails-at W nowhere 2 2 three 8)
      -- NOT: FAIL; a success, whose binding is lost; a failure after a binding and a node
      ∷ case 3 (given W (entry W 3 0 (1 ∷ []) ++ entry W 1 0 []) three 8 2 99) (gives 0 2 3 2 three 8 (free W))
      ∷ case 3 (given W (entry W 3 0 (1 ∷ []) ++ match_x W 1) three 8 2 99) (fails-at W nowhere 2 3 three 8)
      ∷ case 3 (given W (entry W 3 0 (1 ∷ []) ++ entry W 4 0 (2 ∷ 4 ∷ []) ++ match_x W 2 ++ entry W 1 0 []) three 8 2 99) (gives 0 2 3 5 three 8 (free W))
      -- CHOICE: the first; the second from the beginning state
      ∷ case 5 (given W (entry W 5 0 (1 ∷ 3 ∷ []) ++ match_x W 1 ++ entry W 1 0 []) three 8 2 99) (gives 0 2 3 3 three 8 (bound W 0 2))
      ∷ case 5 (given W (entry W 5 0 (1 ∷ 5 ∷ []) ++ entry W 4 0 (2 ∷ 4 ∷ []) ++ match_x W 2 ++ entry W 1 0 [] ++ entry W 0 0 []) three 8 2 99) (gives 0 2 3 6 three 8 (free W))
      -- REC and CALL: down to the leaves, one new node
      ∷ case 8 (given W (entry W 7 0 (1 ∷ []) ++ entry W 11 0 (2 ∷ []) ++ entry W 8 0 (0 ∷ [])) three 8 2 99) (gives 0 3 4 8 (four (row 5 (0 ∷ 1 ∷ []))) 8 (free W))
      -- PATH: a child built anew; a child's binding stays
      ∷ case 9 (given W (entry W 9 1 (1 ∷ []) ++ build7 2) three 8 2 99) (gives 0 4 5 3 (four (row 7 []) ++ row 5 (3 ∷ 1 ∷ [])) 8 (free W))
      ∷ case 9 (given W (entry W 9 2 (1 ∷ []) ++ match_x W 1) three 8 2 99) (gives 0 3 4 3 (four (row 5 (0 ∷ 1 ∷ []))) 8 (bound W 0 1))
      -- CONG: no children, and another constructor; another count; operand j on child j; the bindings of the child before
      ∷ case 10 (given W (entry W 10 1 []) three 8 0 99) (gives 0 0 3 1 three 8 (free W))
      ∷ case 10 (given W (entry W 10 2 []) three 8 0 99) (fails-at W nowhere 0 1 three 8)
      ∷ case 10 (given W (entry W 10 5 (1 ∷ []) ++ entry W 0 0 []) three 8 2 99) (fails-at W nowhere 2 1 three 8)
      ∷ case 10 (given W (entry W 10 5 (1 ∷ 2 ∷ []) ++ two) three 8 2 99) (gives 0 3 4 5 (four (row 5 (0 ∷ 1 ∷ []))) 8 (set (bound W 0 0) 1 2))
      ∷ case 10 (given W (entry W 10 5 (1 ∷ 1 ∷ []) ++ match_x W 1) three 8 2 99) (fails-at W 2 2 6 three 8)
      ∷ case 10 (given W (entry W 10 5 (1 ∷ 1 ∷ []) ++ match_x W 1) paired 8 2 99) (gives 0 3 4 6 (paired ++ row 5 (0 ∷ 0 ∷ [])) 8 (bound W 0 0))
      -- ONE: the leftmost child that succeeds, and no other
      ∷ case 12 (given W (entry W 12 0 (1 ∷ []) ++ entry W 14 0 (2 ∷ []) ++ entry W 19 2 []) three 8 2 99) (gives 0 3 4 5 (four (row 5 (0 ∷ 1 ∷ []))) 8 (free W))
      ∷ case 12 (given W (entry W 12 0 (1 ∷ []) ++ build7 2) three 8 2 99) (gives 0 4 5 3 (four (row 7 []) ++ row 5 (3 ∷ 1 ∷ [])) 8 (free W))
      -- MATCH: the place of a failed run is the pattern at which the last match gave up, however deep; a caught failure keeps it;
      -- a done run and a cut-off one have none
      ∷ case 14 (given W (entry W 14 0 (1 ∷ []) ++ entry W 19 5 (2 ∷ 3 ∷ []) ++ entry W 19 1 [] ++ entry W 19 7 []) three 8 2 99) (fails-at W 3 2 4 three 8)
      ∷ case 14 (given W (entry W 6 0 (1 ∷ 3 ∷ []) ++ match7 1 ++ entry W 1 0 []) three 8 2 99) (fails-at W 2 2 4 three 8)
      ∷ case 14 (given W (entry W 6 0 (1 ∷ 3 ∷ []) ++ match7 1 ++ match7 3) three 8 2 99) (fails-at W 4 2 5 three 8)
      ∷ case 14 (given W (entry W 4 0 (1 ∷ 4 ∷ []) ++ entry W 3 0 (2 ∷ []) ++ match7 2 ++ entry W 1 0 []) three 8 2 99) (fails-at W 3 2 5 three 8)
      ∷ case 14 (given W (entry W 6 0 (1 ∷ 3 ∷ []) ++ match7 1 ++ entry W 0 0 []) three 8 2 99) (gives 0 2 3 4 three 8 (free W))
      ∷ case 14 (given W (entry W 6 0 (1 ∷ 3 ∷ []) ++ match7 1 ++ entry W 0 0 []) three 8 2 3) (gives 6 2 3 3 three 8 (free W))
      -- BUILD of a variable without its binding ends the run: its place is the variable; neither NOT nor LEFT catches it; its own
      -- visit's units are tested first; a node made before it is given back, and may find no room before it is met
      ∷ case 15 (given W (build-v3 1) three 8 2 99) (no-v3 2)
      ∷ case 15 (given W (entry W 3 0 (1 ∷ []) ++ build-v3 2) three 8 2 99) (no-v3 3)
      ∷ case 15 (given W (entry W 6 0 (1 ∷ 3 ∷ []) ++ build-v3 2 ++ entry W 0 0 []) three 8 2 99) (no-v3 3)
      ∷ case 15 (given W (build-v3 1) three 8 2 1) (gives 6 2 3 1 three 8 (free W))
      ∷ case 15 (given W build-pair three 8 2 99) (no-v3 4)
      ∷ case 15 (given W build-pair three 3 2 99) (gives 7 2 3 3 three 3 (free W))
      -- SCOPE: the other new bindings stay; one in the other
      ∷ case 16 (given W (entry W 16 2 (1 ∷ []) ++ match_x W 1) three 8 2 99) (gives 0 2 3 3 three 8 (bound W 0 2))
      ∷ case 16 (given W scopes three 8 2 99) (gives 0 2 4 11 (four (row 5 (0 ∷ 1 ∷ []))) 8 (free W))
      -- WHERE in a LEFT: its node and its binding stay; after a failure neither does
      ∷ case 17 (given W (entry W 6 0 (1 ∷ 7 ∷ []) ++ entry W 17 0 (2 ∷ []) ++ entry W 4 0 (3 ∷ 5 ∷ []) ++ build7 4 ++ match_x W 5 ++ entry W 0 0 []) three 8 2 99)
      (gives 0 2 4 7 (four (row 7 [])) 8 (bound W 0 3))
      ∷ case 17 (given W (entry W 6 0 (1 ∷ 6 ∷ []) ++ entry W 4 0 (2 ∷ 5 ∷ []) ++ entry W 17 0 (3 ∷ []) ++ build7 4 ++ entry W 1 0 [] ++ entry W 0 0 []) three 8 2 99) (gives 0 2 3 7 three 8 (free W))
      ∷ []

  -- every run of ours passes both checks and gives what its line says
  abbrev pub OurRunsBy : Type 0
  OurRunsBy = map (seen W) our-cases ≡ map expected our-cases

-- our runs with 32 variables, and with 64
pub record OurRuns : Type 0 where
  pub with-32 : OurRunsBy 1
  pub with-64 : OurRunsBy 2
