-- Runs of our own with 64 variables that tell the upper 32 from the lower: one table, one statement. And what the table check says of
-- a scope's row.
use Rattle.std.specs.Prelude.{◌≡◌, List, [], ◌∷◌, ◌++◌, map, set, ℕ, ◌^◌}
use Rattle.checks.specs.Checked.{checked, table_checked_by}
use Rattle.meaning.specs.Store.{Input, row}
use Rattle.meaning.specs.Small.{entry, roomy, bound, three, four, given, gives, fails-at, Case, case, seen, expected}

-- a run with variable v bound to node k
unfoldable pub given-bound : (v k : ℕ) → List ℕ → Input
given-bound v k t = record { table = t; store = roomy three 8; bindings = bound 2 v k; mark = 3; start = 0; subject = 2; units = 99 }

-- MATCH of variable v, whose pattern is entry e
unfoldable pub match-of : (v e : ℕ) → List ℕ
match-of v e = entry 2 14 0 (e ∷ []) ++ entry 2 18 v []

-- BUILD of variable v, whose pattern is entry e
unfoldable pub build-of : (v e : ℕ) → List ℕ
build-of v e = entry 2 15 0 (e ∷ []) ++ entry 2 18 v []

-- MATCH of the subject as variable v, then of its first child as variable w
unfoldable pub two-of : (v w : ℕ) → List ℕ
two-of v w = entry 2 4 0 (1 ∷ 2 ∷ []) ++ entry 2 14 0 (4 ∷ []) ++ entry 2 9 1 (3 ∷ []) ++ entry 2 14 0 (5 ∷ []) ++ entry 2 18 v [] ++ entry 2 18 w []

-- each with the kind that it is about
unfoldable pub upper-cases : List Case
upper-cases =
    -- SCOPE hides a variable of the upper half, and puts its outer binding back
    case 16 (given-bound 32 0 (entry 2 16 (2 ^ 32) (1 ∷ []) ++ match-of 32 2)) (gives 0 2 3 3 three 8 (bound 2 32 0))
    ∷ case 16 (given-bound 63 0 (entry 2 16 (2 ^ 63) (1 ∷ []) ++ match-of 63 2)) (gives 0 2 3 3 three 8 (bound 2 63 0))
    -- and no other: the low half of its mask hides none of the upper half, nor the other way round
    ∷ case 16 (given-bound 32 0 (entry 2 16 1 (1 ∷ []) ++ match-of 32 2)) (record { answer = 1; place = 2; subject = 2; mark = 3; units = 4; store = roomy three 8; bindings = bound 2 32 0 })
    ∷ case 16 (given-bound 0 0 (entry 2 16 (2 ^ 32) (1 ∷ []) ++ match-of 0 2)) (record { answer = 1; place = 2; subject = 2; mark = 3; units = 4; store = roomy three 8; bindings = bound 2 0 0 })
    -- PVAR: variable 32 is not variable 0, nor is 63 variable 31
    ∷ case 18 (given 2 (two-of 0 32) three 8 2 99) (gives 0 3 4 6 (four (row 5 (0 ∷ 1 ∷ []))) 8 (set (bound 2 0 2) 32 1))
    ∷ case 18 (given 2 (two-of 63 31) three 8 2 99) (gives 0 3 4 6 (four (row 5 (0 ∷ 1 ∷ []))) 8 (set (bound 2 63 2) 31 1))
    ∷ case 18 (given 2 (two-of 32 32) three 8 2 99) (fails-at 2 5 2 7 three 8)
    -- BUILD of a variable of the upper half, bound and unbound
    ∷ case 15 (given-bound 40 1 (build-of 40 1)) (gives 0 1 3 2 three 8 (bound 2 40 1))
    ∷ case 15 (given-bound 8 1 (build-of 40 1)) (record { answer = 12; place = 40; subject = 2; mark = 3; units = 2; store = roomy three 8; bindings = bound 2 8 1 })
    ∷ []

-- every one passes both checks and gives what its line says
abbrev pub UpperRuns : Type 0
UpperRuns = map (seen 2) upper-cases ≡ map expected upper-cases

-- a scope of ID in its eight words, the last six given
unfoldable pub scope-of-id : (a b c d : ℕ) → List ℕ
scope-of-id a b c d = 257 ∷ a ∷ b ∷ c ∷ d ∷ 0 ∷ 0 ∷ 0 ∷ entry 2 0 0 []

-- any mask is one; the operand is word 3, and at word 2, where it stood with 32 variables, it is none; word 4 is not used. Of the
-- variables 63 is the last
unfoldable pub upper-tables : List (List ℕ)
upper-tables =
    scope-of-id 4294967295 4294967295 1 0
    ∷ scope-of-id 3 1 0 0
    ∷ scope-of-id 3 0 1 1
    ∷ entry 2 18 63 []
    ∷ entry 2 18 64 []
    ∷ []

abbrev pub UpperChecks : Type 0
UpperChecks = map (table_checked_by 2) upper-tables ≡ checked 0 0 ∷ checked 15 0 ∷ checked 17 0 ∷ checked 0 0 ∷ checked 14 0 ∷ []
