-- What is wrong with an entry of the table, and a good node of the store, as documents 01 and 02 have them.
use Rattle.std.specs.Prelude.{Bool, ◌&&◌, ◌||◌, List, ℕ, zero, suc, ◌+◌, ◌-◌, ◌*◌, ◌/◌, ◌%◌, leb, ltb, eqb, if◌then◌else◌}
use Rattle.words.specs.Tests.{every}
use Rattle.words.specs.Words.{word_at, rows}
use Rattle.checks.specs.Kinds.{ours, lowest, highest_by, argument_words_by, operands_from_by, kind, sort_of, takes, same}

-- the kind k is known, and the count n lies within its bounds
abbrev pub count_of : (k n : ℕ) → Bool
count_of k n = leb k 19 && (leb (kind k).least n && leb n (kind k).most)

-- the argument a is in the range of the kind k, and zero where none is named
abbrev pub argument_in_by : (W k a : ℕ) → Bool
argument_in_by W k a = leb (lowest (kind k).argument) a && leb a (highest_by W (kind k).argument)

module _ (t : List ℕ) where
  -- word 0 is 16 × kind + operand count; then come the words of the argument, then the operands
  abbrev pub kind_of : ℕ → ℕ
  kind_of e = word_at t e 0 / 16

  abbrev pub operand_count : ℕ → ℕ
  operand_count e = word_at t e 0 % 16

  -- word 1: the argument of every kind but SCOPE
  abbrev pub argument_of : ℕ → ℕ
  argument_of e = word_at t e 1

  -- the n words of entry e from word j on as one number, the lowest word first
  unfoldable pub number : (e n j : ℕ) → ℕ
  number e zero j = 0
  number e (suc zero) j = word_at t e j
  number e (suc (suc n)) j = word_at t e j + 4294967296 * number e (suc n) (j + 1)

  -- the operand o of entry e, of the kind k, is inside the table and above its entry; CALL's alone may be any entry
  abbrev pub placed_for : (e k o : ℕ) → Bool
  placed_for e k o = ltb o (rows t) && (eqb k 8 || ltb e o)

  -- the operand o has the sort that the kind k takes, read from the operand's kind alone; CALL's must be a REC
  abbrev pub sorted_for : (k o : ℕ) → Bool
  sorted_for k o = if eqb k 8 then eqb (kind_of o) 7 else same (sort_of (kind_of o)) (takes k)

  -- the count of entry e fits its kind
  unfoldable pub count_fits : ℕ → Bool
  count_fits e = count_of (kind_of e) (operand_count e)

  -- the words of entry e from word j on are zero
  abbrev pub zeros_from : (e j : ℕ) → Bool
  zeros_from e j = every (λ i. eqb (word_at t e i) 0) j (8 - j)

module _ (W : ℕ) (t : List ℕ) where
  -- the mask of a SCOPE, and its argument or any other entry's
  abbrev pub mask_by : ℕ → ℕ
  mask_by e = number t e W 1

  abbrev pub argument_by : ℕ → ℕ
  argument_by e = number t e (argument_words_by W (kind_of t e)) 1

  -- operand i of entry e
  abbrev pub operand_by : ℕ → ℕ → ℕ
  operand_by e i = word_at t e (operands_from_by W (kind_of t e) + i)

  unfoldable pub argument_fits_by : ℕ → Bool
  argument_fits_by e = argument_in_by W (kind_of t e) (argument_by e)

  unfoldable pub operand_placed_by : ℕ → ℕ → Bool
  operand_placed_by e i = placed_for t e (kind_of t e) (operand_by e i)

  unfoldable pub operand_sorted_by : ℕ → ℕ → Bool
  operand_sorted_by e i = sorted_for t (kind_of t e) (operand_by e i)

  -- the operands' fault: 15 where one is not in its place, else 16 where one has not its sort, else 0
  unfoldable pub operands_fault_by : ℕ → ℕ
  operands_fault_by e = if every (operand_placed_by e) 0 (operand_count t e) then if every (operand_sorted_by e) 0 (operand_count t e) then 0 else 16 else 15

  -- the words that are not used are zero: those after the last operand
  unfoldable pub unused_zero_by : ℕ → Bool
  unused_zero_by e = zeros_from t e (operands_from_by W (kind_of t e) + operand_count t e)

  -- what is wrong with entry e, the first in this order: 13 kind or count, 14 argument, 15 an operand's place, 16 an operand's
  -- sort, 17 an unused word; 0 where nothing is. Each is asked of the whole entry before the next
  unfoldable pub fault_by : ℕ → ℕ
  fault_by e =
      if count_fits t e
      then if argument_fits_by e then if eqb (operands_fault_by e) 0 then if unused_zero_by e then 0 else 17 else operands_fault_by e else 14
      else 13

  -- a good entry has no fault
  unfoldable pub good_entry_by : ℕ → Bool
  good_entry_by e = eqb (fault_by e) 0

-- the same in the product
abbrev pub fault : List ℕ → ℕ → ℕ
fault = fault_by ours

abbrev pub good_entry : List ℕ → ℕ → Bool
good_entry = good_entry_by ours

-- the word w fits as word 2 + i of node k, which has n children: a child below it, or a zero after the last
unfoldable pub held_fits : (k n i w : ℕ) → Bool
held_fits k n i w = if ltb i n then ltb w k else eqb w 0

module _ (s : List ℕ) where
  -- word 0 is the constructor, word 1 the child count, words 2 to 7 the children
  abbrev pub constructor_of : ℕ → ℕ
  constructor_of k = word_at s k 0

  abbrev pub child_count : ℕ → ℕ
  child_count k = word_at s k 1

  abbrev pub child : ℕ → ℕ → ℕ
  child k i = word_at s k (2 + i)

  -- a good node: its children are below its own number, and the words after the last child are zero
  unfoldable pub good_node : ℕ → Bool
  good_node k =
      leb (constructor_of k) 65535
      && (leb (child_count k) 6
      && (every (λ i. ltb (child k i) k) 0 (child_count k)
      && every (λ i. eqb (child k i) 0) (child_count k) (6 - child_count k)))
