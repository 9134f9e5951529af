-- What the question of free variables promises, as types. Each is proved in proofs/Promises.antt under its name.
use Rattle.std.specs.Prelude.{◌≡◌, ◌≢◌, ◌↔◌, List, ℕ, ◌<◌, length}
use Rattle.words.specs.Words.{rows}
use Rattle.checks.specs.declared.kinds.Sort.TheVariants.{Strategy}
use Rattle.checks.specs.Kinds.{variables_by, sort_of}
use Rattle.checks.specs.Good.{kind_of, good_entry_by}
use Rattle.checks.specs.Plain.{TableLength, FaultyBy}
use Rattle.checks.specs.Promises.{AllGood, Lowest}
use Rattle.meaning.specs.Table.{table_by}
use Rattle.meaning.specs.Free.{Free}
use Rattle.free.specs.Answered.{FreeVariables}
use Rattle.free.specs.Answered.{AnsweredBy}

-- two outcomes that satisfy the contract agree
abbrev pub agrees : Type 0
agrees = (W : ℕ) (t : List ℕ) (e : ℕ) (r r' : FreeVariables) → AnsweredBy W t e r → AnsweredBy W t e r' → r ≡ r'

-- a table that passes the check: its length fits, and every entry is good
abbrev pub GoodTableBy : ℕ → List ℕ → Type 0
GoodTableBy W t = TableLength (length t) × AllGood (good_entry_by W t) (rows t)

-- entry e is inside the table, and a strategy
abbrev pub StrategyOf : List ℕ → ℕ → Type 0
StrategyOf t e = (e < rows t) × (sort_of (kind_of t e) ≡ Strategy)

-- answer 2: the table's length does not fit
abbrev pub refuses_length : Type 0
refuses_length = (W : ℕ) (t : List ℕ) (e : ℕ) (r : FreeVariables) → AnsweredBy W t e r → r.answer ≡ 2 ↔ ¬ TableLength (length t)

-- an answer from 13 on with its place: the length fits, the place is the lowest bad entry, and the answer is its first fault
abbrev pub refuses_entry : Type 0
refuses_entry =
    (W : ℕ) (t : List ℕ) (e n p : ℕ) (r : FreeVariables) → 12 < n → AnsweredBy W t e r
    → (r.answer ≡ n) × (r.place ≡ p) ↔ TableLength (length t) × (Lowest (good_entry_by W t) (rows t) p × FaultyBy W t p n)

-- answer 3 is not given
abbrev pub never_three : Type 0
never_three = (W : ℕ) (t : List ℕ) (e : ℕ) (r : FreeVariables) → AnsweredBy W t e r → r.answer ≢ 3

-- answer 5: the table is good, and e is no strategy of it
abbrev pub refuses_start : Type 0
refuses_start = (W : ℕ) (t : List ℕ) (e : ℕ) (r : FreeVariables) → AnsweredBy W t e r → r.answer ≡ 5 ↔ GoodTableBy W t × ¬ StrategyOf t e

-- answer 0: the table is good, and e is a strategy of it
abbrev pub accepts : Type 0
accepts = (W : ℕ) (t : List ℕ) (e : ℕ) (r : FreeVariables) → AnsweredBy W t e r → r.answer ≡ 0 ↔ GoodTableBy W t × StrategyOf t e

-- no variable from their number on is free in a strategy of a good table
abbrev pub none_above : Type 0
none_above = (W : ℕ) (t : List ℕ) (e v : ℕ) → 0 < W → GoodTableBy W t → StrategyOf t e → Free (table_by W t) e v → v < variables_by W
