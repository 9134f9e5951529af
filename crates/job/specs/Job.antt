-- What a text means as a job: its lines in order, each taken in by what was read before it, and the words that they make.
-- The store array holds the rows of all `n` lines; the store of the run is its first 8 × room words, so that a mark above
-- the room is the run's own answer 2.
use Rattle.std.specs.Prelude.{◌≡◌, Bool, ◌&&◌, List, [], ◌∷◌, ℕ, ◌+◌, leb, ltb, eqb, length, get_or, set, replicate, if◌then◌else◌}
use Rattle.std.proofs.Math.Option.{Option, none, some}
use Rattle.checks.specs.Kinds.{variables}
use Rattle.words.specs.Words.{put_row}
use Rattle.text.specs.Text.{parts}
use Rattle.job.specs.Lines.{Line, line_of, words, upper, entry_row, node_row}

-- what the lines so far say: how far the order has come, the rows so far, the least variable that may come next, and the numbers of
-- line 1
pub record Heading : Type 0 where
  pub section : ℕ
  pub entries : ℕ
  pub nodes : ℕ
  pub variable : ℕ
  pub units : ℕ
  pub start : ℕ
  pub subject : ℕ
  pub room : ℕ

-- what is read so far: the numbers of the heading, and the words
pub record Reading : Type 0 where
  pub heading : Heading
  pub table : List ℕ
  pub store : List ℕ
  pub bindings : List ℕ

-- n zeros
unfoldable pub zeros : ℕ → List ℕ
zeros n = replicate n 0

-- nothing is read
abbrev pub blank : Heading
blank = record { section = 0; entries = 0; nodes = 0; variable = 0; units = 0; start = 0; subject = 0; room = 0 }

abbrev pub unread : Reading
unread =
    record { heading = blank; table = zeros 4096; store = zeros 8192; bindings = zeros variables }

-- a line may come next: `job` first and once; then `e` lines, at most 512, `n` lines, at most 1,024, and `b` lines, whose
-- variables rise
unfoldable pub admitted : Heading → ℕ → ℕ → Bool
admitted h k v =
    if eqb k 0
    then eqb h.section 0
    else leb 1 h.section
    && (if eqb k 1
    then leb h.section 1 && ltb h.entries 512
    else (if eqb k 2 then leb h.section 2 && ltb h.nodes 1024 else leb h.variable v))

-- the heading after a line
unfoldable pub headed : Heading → ℕ → List ℕ → Heading
headed h k vs =
    if eqb k 0
    then record { section = 1; entries = 0; nodes = 0; variable = 0; units = get_or vs 0 0; start = get_or vs 1 0; subject = get_or vs 2 0; room = get_or vs 3 0 }
    else (if eqb k 1
    then record { section = k; entries = h.entries + 1; nodes = h.nodes; variable = h.variable; units = h.units; start = h.start; subject = h.subject; room = h.room }
    else (if eqb k 2
    then record { section = k; entries = h.entries; nodes = h.nodes + 1; variable = h.variable; units = h.units; start = h.start; subject = h.subject; room = h.room }
    else record { section = k; entries = h.entries; nodes = h.nodes; variable = get_or vs 0 0 + 1; units = h.units; start = h.start; subject = h.subject; room = h.room }))

-- an `e` line is the next row of the table
unfoldable pub table_with : List ℕ → ℕ → ℕ → ℕ → List ℕ → ℕ → List ℕ
table_with w e k n vs h = if eqb k 1 then put_row w e (entry_row n vs h) else w

-- an `n` line is the next row of the store
unfoldable pub store_with : List ℕ → ℕ → ℕ → ℕ → List ℕ → List ℕ
store_with w m k n vs = if eqb k 2 then put_row w m (node_row n vs) else w

-- a `b` line binds its variable: the word is the node number plus one
unfoldable pub bindings_with : List ℕ → ℕ → List ℕ → List ℕ
bindings_with w k vs = if eqb k 3 then set w (get_or vs 0 0) (get_or vs 1 0 + 1) else w

-- what is read with one more line, of n numbers, whose words are vs and, of an argument's upper word, h
unfoldable pub with : Reading → ℕ → ℕ → List ℕ → ℕ → Reading
unfolding headed table_with store_with bindings_with
with g k n vs h =
    record {
      heading = headed g.heading k vs;
      table = table_with g.table g.heading.entries k n vs h;
      store = store_with g.store g.heading.nodes k n vs;
      bindings = bindings_with g.bindings k vs;
    }

abbrev pub taken : Reading → Line → Reading
taken g x = with g x.name (length x.numbers) (words x.name x.numbers) (upper x.name x.numbers)

-- a line taken in, where it is a line and may come next
abbrev pub accepted : Reading → Option Line → Option Reading
accepted g none = none
accepted g (some x) = if admitted g.heading x.name (get_or x.numbers 0 0) then some (taken g x) else none

-- a text is a job, or its first bad line has a number
pub data Meant : Type 0 where
  bad : ℕ → Meant
  good : Reading → Meant

-- the line numbered n is bad, or the rest decides
abbrev pub or_bad : ℕ → Option Reading → (Reading → Meant) → Meant
or_bad n none rest = bad n
or_bad n (some g) rest = rest g

-- what is left after the last line feed is empty, and line 1 was there
abbrev pub ended : Reading → ℕ → List ℕ → Meant
ended g n [] = if eqb g.heading.section 0 then bad n else good g
ended g n (b ∷ l) = bad n

-- what lines mean from line n on; the last part of a text is what stands after its last line feed
unfoldable pub read_lines : Reading → ℕ → List (List ℕ) → Meant
read_lines g n [] = bad n
read_lines g n (l ∷ []) = ended g n l
read_lines g n (l ∷ m ∷ ls) = or_bad n (accepted g (line_of l)) (λ g'. read_lines g' (n + 1) (m ∷ ls))

-- what a text means: more than 60,000 bytes are bad before all else, with line number 0
unfoldable pub meant : List ℕ → Meant
unfolding read_lines
meant s = if ltb 60000 (length s) then bad 0 else read_lines unread 1 (parts 10 s)

-- a job's heading, or the number of the first bad line
pub data Parsed : Type 0 where
  Bad : ℕ → Parsed
  Read : Heading → Parsed

-- what the code has read and the words of its arrays; a bad text leaves zeros
abbrev pub parsed_of : Meant → Parsed
parsed_of (bad n) = Bad n
parsed_of (good g) = Read g.heading

abbrev pub table_of : Meant → List ℕ
table_of (bad n) = zeros 4096
table_of (good g) = g.table

abbrev pub store_of : Meant → List ℕ
store_of (bad n) = zeros 8192
store_of (good g) = g.store

abbrev pub bindings_of : Meant → List ℕ
bindings_of (bad n) = zeros variables
bindings_of (good g) = g.bindings

-- what the code gives and leaves in its arrays; of a bad text, the line alone
abbrev pub Holds : Meant → Parsed → List ℕ → List ℕ → List ℕ → Type 0
Holds (bad n) o t s b = o ≡ Bad n
Holds (good g) o t s b = (o ≡ Read g.heading) × (t ≡ g.table) × (s ≡ g.store) × (b ≡ g.bindings)
