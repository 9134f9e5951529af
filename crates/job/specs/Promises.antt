-- What is promised of reading and writing: a text is a job exactly where it is the text of lines that may follow each
-- other, and those are its only lines; any other is refused at its first bad line; what is written of nodes and bindings is
-- read as it was; and an answer's text is never too long.
use Rattle.std.specs.Prelude.{◌≡◌, ◌↔◌, true, List, [], ◌∷◌, ◌++◌, ℕ, ◌+◌, ◌*◌, ◌≤◌, ◌<◌, length, get_or, take}
use Rattle.checks.specs.Kinds.{variables}
use Rattle.words.specs.Words.{word_at}
use Rattle.job.specs.Lines.{Line, fits}
use Rattle.job.specs.Job.{Reading, unread, zeros, admitted, bad, good, meant}
use Rattle.job.specs.Written.{line_text, written, Limited, Follow}
use Rattle.job.specs.Answer.{node_lines, binding_lines, answered}

-- s is the text of lines, and g what is read with them
pub record JobText (s : List ℕ) (g : Reading) : Type 0 where
  pub short : length s ≤ 60000
  pub lines : List Line
  pub text : s ≡ written lines
  pub follow : Follow unread lines g
  pub begun : g.heading.section ≡ 0 → ⊥

-- a text means a job exactly where it is the text of the job's lines
abbrev pub TextIsJob : Type 0
TextIsJob = (s : List ℕ) (g : Reading) → meant s ≡ good g ↔ JobText s g

-- line m is the first bad one of s, counted from n: the lines before it may follow each other, and what stands there begins
-- with no line that may come next, nor is it the end of a job
pub record FirstBad (g : Reading) (s : List ℕ) (n m : ℕ) : Type 0 where
  pub lines : List Line
  pub after : Reading
  pub rest : List ℕ
  pub text : s ≡ written lines ++ rest
  pub follow : Follow g lines after
  pub number : n + length lines ≡ m
  pub stuck : (x : Line) (r : List ℕ) → rest ≡ line_text x ++ (10 ∷ r) → fits x.name (length x.numbers) x.numbers ≡ true
      → Limited x.name x.numbers → admitted after.heading x.name (get_or x.numbers 0 0) ≡ true → ⊥
  pub unfinished : rest ≡ [] → after.heading.section ≡ 0

-- a text of at most 60,000 bytes that is no job is refused at its first bad line
abbrev pub BadLine : Type 0
BadLine = (s : List ℕ) (n : ℕ) → length s ≤ 60000 → meant s ≡ bad n → FirstBad unread s 1 n

-- a text is read in one way
abbrev pub OneReading : Type 0
OneReading = (xs ys : List Line) (g h : Reading) → Follow unread xs g → Follow unread ys h → written xs ≡ written ys → xs ≡ ys

-- node k has at most six children, zeros after them, and words within the limit of a number
pub record Plain (w : List ℕ) (k : ℕ) : Type 0 where
  pub count : word_at w k 1 ≤ 6
  pub unused : (j : ℕ) → word_at w k 1 ≤ j → j < 6 → word_at w k (2 + j) ≡ 0
  pub words : (j : ℕ) → word_at w k j ≤ 4294967295

-- a store of m such nodes and bindings to nodes below 131,072: what a run leaves of a job
pub record Left (w b : List ℕ) (m : ℕ) : Type 0 where
  pub inside : 8 * m ≤ length w
  pub most : m ≤ 1024
  pub nodes : (k : ℕ) → k < m → Plain w k
  pub variables : length b ≡ variables
  pub bound : (v : ℕ) → get_or b v 0 ≤ 131072

-- line 1 and perhaps `e` lines are read, and neither a node nor a binding
pub record BeforeNodes (g : Reading) : Type 0 where
  pub begun : 1 ≤ g.heading.section
  pub before : g.heading.section ≤ 2
  pub nodes : g.heading.nodes ≡ 0
  pub variable : g.heading.variable ≡ 0
  pub store : length g.store ≡ 8192
  pub bindings : g.bindings ≡ zeros variables

-- the lines written are lines that may follow, and what is read with them has the same nodes and bindings
pub record Back (g : Reading) (w b : List ℕ) (m : ℕ) : Type 0 where
  pub after : Reading
  pub follow : Follow g (node_lines w m ++ binding_lines b variables) after
  pub mark : after.heading.nodes ≡ m
  pub nodes : take (8 * m) after.store ≡ take (8 * m) w
  pub bindings : after.bindings ≡ b

-- what is written of nodes and bindings is read back as it was
abbrev pub ReadBack : Type 0
ReadBack = (g : Reading) (w b : List ℕ) (m : ℕ) → BeforeNodes g → Left w b m → Back g w b m

-- the text of an answer is at most 82,494 bytes where the mark is at most 1,024
abbrev pub AnswerFits : Type 0
AnswerFits = (a p s m u : ℕ) (w b : List ℕ) → m ≤ 1024 → length (answered a p s m u w b) ≤ 80958 + 24 * variables
