-- A length that fits, a good entry, what is wrong with a bad one, and a good node in plain facts, one line each.
use Rattle.std.specs.Prelude.{◌≡◌, ◌≢◌, List, ℕ, ◌+◌, ◌%◌, ◌≤◌, ◌<◌}
use Rattle.words.specs.Words.{word_at, rows}
use Rattle.checks.specs.Kinds.{ours, lowest, highest_by, operands_from_by, kind, sort_of, takes}
use Rattle.checks.specs.Good.{kind_of, operand_count, argument_by, operand_by, constructor_of, child_count, child}

-- a table's length
pub record TableLength (n : ℕ) : Type 0 where
  pub some : 0 < n
  pub whole : n % 8 ≡ 0
  pub most : n ≤ 32768

-- a store's length
pub record StoreLength (n : ℕ) : Type 0 where
  pub whole : n % 8 ≡ 0
  pub most : n ≤ 1048576

-- entry e of the table t has a known kind, and as many operands as its kind may have
pub record Counted (t : List ℕ) (e : ℕ) : Type 0 where
  pub known : kind_of t e ≤ 19
  pub least : (kind (kind_of t e)).least ≤ operand_count t e
  pub most : operand_count t e ≤ (kind (kind_of t e)).most

module _ (W : ℕ) (t : List ℕ) (e : ℕ) where
  -- its argument is in its range
  pub record ArguedBy : Type 0 where
    pub low : lowest (kind (kind_of t e)).argument ≤ argument_by W t e
    pub high : argument_by W t e ≤ highest_by W (kind (kind_of t e)).argument

  -- its operands are inside the table and above it; CALL's alone may be any entry
  pub record PlacedBy : Type 0 where
    pub inside : (i : ℕ) → i < operand_count t e → operand_by W t e i < rows t
    pub above : kind_of t e ≢ 8 → (i : ℕ) → i < operand_count t e → e < operand_by W t e i

  -- they have the sort that it takes, and CALL's is a REC
  pub record SortedBy : Type 0 where
    pub sorted : kind_of t e ≢ 8 → (i : ℕ) → i < operand_count t e → sort_of (kind_of t (operand_by W t e i)) ≡ takes (kind_of t e)
    pub called : kind_of t e ≡ 8 → (i : ℕ) → i < operand_count t e → kind_of t (operand_by W t e i) ≡ 7

  -- its unused words are zero: those after the last operand
  pub record UnusedBy : Type 0 where
    pub zero : (j : ℕ) → operands_from_by W (kind_of t e) + operand_count t e ≤ j → j < 8 → word_at t e j ≡ 0

  -- a good entry
  pub record EntryBy : Type 0 where
    pub counted : Counted t e
    pub argued : ArguedBy
    pub placed : PlacedBy
    pub sorted : SortedBy
    pub unused : UnusedBy

  -- what is wrong with a bad one: all before it is right
  pub data FaultyBy : ℕ → Type 0 where
    of-count : ¬ Counted t e → FaultyBy 13
    of-argument : Counted t e → ¬ ArguedBy → FaultyBy 14
    of-place : Counted t e → ArguedBy → ¬ PlacedBy → FaultyBy 15
    of-sort : Counted t e → ArguedBy → PlacedBy → ¬ SortedBy → FaultyBy 16
    of-unused : Counted t e → ArguedBy → PlacedBy → SortedBy → ¬ UnusedBy → FaultyBy 17

-- the same in the product
abbrev pub Entry : List ℕ → ℕ → Type 0
Entry = EntryBy ours

abbrev pub Faulty : List ℕ → ℕ → ℕ → Type 0
Faulty = FaultyBy ours

-- node k of the store s: constructor and count, children, unused words
pub record Node (s : List ℕ) (k : ℕ) : Type 0 where
  pub constructor : constructor_of s k ≤ 65535
  pub count : child_count s k ≤ 6
  pub below : (i : ℕ) → i < child_count s k → child s k i < k
  pub unused : (i : ℕ) → child_count s k ≤ i → i < 6 → child s k i ≡ 0
