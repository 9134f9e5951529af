-- A line is a name and its numbers. The names are numbered in the order in which their lines stand in a job: 0 is `job`,
-- 1 is `e`, 2 is `n` and 3 is `b`.
use Rattle.std.specs.Prelude.{Bool, false, ◌&&◌, ◌||◌, List, [], ◌∷◌, ℕ, ◌+◌, ◌-◌, ◌*◌, ◌/◌, ◌%◌, leb, ltb, eqb, length, get_or, set, drop, replicate, if◌then◌else◌}
use Rattle.std.proofs.Math.Option.{Option, none, some}
use Rattle.checks.specs.Kinds.{variables}
use Rattle.text.specs.Text.{one_word, two_words, parts, up_to, number_of, in_front, numbers_of, eight}
use Rattle.text.specs.Lines.{line_end}

pub record Line : Type 0 where
  pub name : ℕ
  pub numbers : List ℕ

-- the name of one letter; 4 for none
unfoldable pub letter_of : ℕ → ℕ
letter_of b = if eqb b 101 then 1 else (if eqb b 110 then 2 else (if eqb b 98 then 3 else 4))

-- the name that a field is; 4 for none
unfoldable pub name_of : List ℕ → ℕ
unfolding letter_of
name_of f =
    if eqb (length f) 1
    then letter_of (get_or f 0 0)
    else (if eqb (length f) 3 && (eqb (get_or f 0 0) 106 && (eqb (get_or f 1 0) 111 && eqb (get_or f 2 0) 98)) then 0 else 4)

-- n numbers fit a name; a number past the last reads 0
module _ (n : ℕ) (vs : List ℕ) where
  -- units, start, subject and room, of which the room is at most 1,024
  unfoldable pub job_fits : Bool
  job_fits = eqb n 4 && leb (get_or vs 3 0) 1024

  -- kind, at most 255, argument and up to six operands; the argument of a scope may have two words, any other has one
  unfoldable pub entry_fits : Bool
  entry_fits = leb 2 n && (leb n 8 && (leb (get_or vs 0 0) 255 && (eqb (get_or vs 0 0) 16 || leb (get_or vs 1 0) one_word)))

  -- constructor and up to six children
  unfoldable pub node_fits : Bool
  node_fits = leb 1 n && leb n 7

  -- variable and node, which is below 131,072
  unfoldable pub binding_fits : Bool
  binding_fits = eqb n 2 && (ltb (get_or vs 0 0) variables && ltb (get_or vs 1 0) 131072)

-- n numbers fit the name
unfoldable pub fits : ℕ → ℕ → List ℕ → Bool
unfolding job_fits entry_fits node_fits binding_fits
fits k n vs =
    if eqb k 0
    then job_fits n vs
    else (if eqb k 1
    then entry_fits n vs
    else (if eqb k 2 then node_fits n vs else (if eqb k 3 then binding_fits n vs else false)))

-- the line of a name and of numbers that fit it
abbrev pub line_from : ℕ → Option (List ℕ) → Option Line
line_from k none = none
line_from k (some vs) = if fits k (length vs) vs then some (record { name = k; numbers = vs }) else none

-- the numbers of the fields of an `e` line, of which the second, the argument, is of one word or of two
unfoldable pub entry_numbers : List (List ℕ) → Option (List ℕ)
entry_numbers [] = none
entry_numbers (k ∷ []) = none
entry_numbers (k ∷ a ∷ fs) = in_front (number_of one_word k) (in_front (number_of two_words a) (numbers_of 8 fs))

-- the numbers of the fields after a name
abbrev pub field_numbers : ℕ → List (List ℕ) → Option (List ℕ)
field_numbers k fs = if eqb k 1 then entry_numbers fs else numbers_of 8 fs

-- the line of fields: a name, and then numbers
abbrev pub line_of_fields : List (List ℕ) → Option Line
line_of_fields [] = none
line_of_fields (f ∷ fs) = line_from (name_of f) (field_numbers (name_of f) fs)

-- the line of a line's bytes, without the line feed
unfoldable pub line_of : List ℕ → Option Line
line_of l = line_of_fields (parts 9 l)

-- the words of a line's numbers: of an `e` line's argument the lower word, and beside them its upper word
abbrev pub words : ℕ → List ℕ → List ℕ
words k vs = if eqb k 1 then set vs 1 (get_or vs 1 0 % 4294967296) else vs

abbrev pub upper : ℕ → List ℕ → ℕ
upper k vs = if eqb k 1 then get_or vs 1 0 / 4294967296 else 0

-- word 0 of an entry is 16 × kind + operand count, word 1 the argument, words 2 to 7 the operands, and zeros; of a scope words 1 and 2
-- are the argument, lower word first, and the operands come after them, of which the sixth would have no word: no such scope is good
unfoldable pub entry_row : ℕ → List ℕ → ℕ → List ℕ
entry_row n vs h =
    if eqb (get_or vs 0 0) 16
    then (16 * get_or vs 0 0 + (n - 2)) ∷ get_or vs 1 0 ∷ h ∷ get_or vs 2 0 ∷ get_or vs 3 0 ∷ get_or vs 4 0 ∷ get_or vs 5 0 ∷ get_or vs 6 0 ∷ []
    else (16 * get_or vs 0 0 + (n - 2)) ∷ get_or vs 1 0 ∷ get_or vs 2 0 ∷ get_or vs 3 0 ∷ get_or vs 4 0 ∷ get_or vs 5 0 ∷ get_or vs 6 0 ∷ get_or vs 7 0 ∷ []

-- word 0 of a node is the constructor, word 1 the child count, words 2 to 7 the children, and zeros
unfoldable pub node_row : ℕ → List ℕ → List ℕ
node_row n vs =
    get_or vs 0 0 ∷ (n - 1)
    ∷ get_or vs 1 0 ∷ get_or vs 2 0 ∷ get_or vs 3 0 ∷ get_or vs 4 0 ∷ get_or vs 5 0 ∷ get_or vs 6 0 ∷ []

-- a line as it is held, with the place after it; name 4 is a bad line
pub record Taken : Type 0 where
  pub name : ℕ
  pub count : ℕ
  pub at : List ℕ
  pub high : ℕ
  pub next : ℕ

abbrev pub no_line : ℕ → Taken
no_line next = record { name = 4; count = 0; at = replicate 8 0; high = 0; next = next }

abbrev pub line_held : Option Line → ℕ → Taken
line_held none next = no_line next
line_held (some x) next = record { name = x.name; count = length x.numbers; at = eight (words x.name x.numbers); high = upper x.name x.numbers; next = next }

-- the line that begins at a place of a text; one that no line feed ends is bad
unfoldable pub taken_at : List ℕ → ℕ → Taken
taken_at s at =
    if ltb (line_end s at) (length s)
    then line_held (line_of (up_to 10 (drop at s))) (line_end s at + 1)
    else no_line (length s)
