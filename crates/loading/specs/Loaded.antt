-- What a run copies once, and the hints that it writes into the copy of the table.
use Rattle.std.specs.Prelude.{◌≡◌, ◌⊎◌, List, ℕ, ◌+◌, ◌≤◌, ◌<◌, length}
use Rattle.words.specs.Words.{word_at}
use Rattle.checks.specs.Kinds.{ours}
use Rattle.checks.specs.Good.{kind_of}
use Rattle.meaning.specs.Store.{bindings}
use Rattle.meaning.specs.Limits.{at}
use Rattle.index.specs.Run.{lending}
use Rattle.state.specs.Record.{record_long, standing, held}

-- the head of entry q is a MATCH of the PCON p: q begins with it, and the nth visit is that of p
pub data HasHead (t : List ℕ) (p : ℕ) : ℕ → ℕ → Type 0 where
  MATCH : (q : ℕ) → kind_of t q ≡ 14 → p ≡ word_at t q 2 → kind_of t p ≡ 19 → HasHead t p q 2
  SEQ : (q n : ℕ) → kind_of t q ≡ 4 → HasHead t p (word_at t q 2) n → HasHead t p q (n + 1)
  SCOPE : (q n : ℕ) → kind_of t q ≡ 16 → HasHead t p (word_at t q (1 + ours)) n → HasHead t p q (n + 1)

-- entry q is a CALL of a REC whose operand is x: n visits, the CALL's and the REC's, come before that of x
pub record Calls (t : List ℕ) (x q n : ℕ) : Type 0 where
  pub call : kind_of t q ≡ 8
  pub called : kind_of t (word_at t q 2) ≡ 7
  pub body : x ≡ word_at t (word_at t q 2) 2
  pub visits : n ≡ 2

-- what may stand in words 4 and 5 of entry e in a run: the table's own words; at a CHOICE or a LEFT what its first operand begins
-- with; at an ALL, a ONE or a SOME where its operand leads
pub data Hints (t : List ℕ) (e x n : ℕ) : Type 0 where
  given : x ≡ word_at t e 4 → n ≡ word_at t e 5 → Hints t e x n
  choice : (kind_of t e ≡ 5) ⊎ (kind_of t e ≡ 6) → n ≤ 4 → HasHead t x (word_at t e 2) n → Hints t e x n
  all : (kind_of t e ≡ 11) ⊎ (kind_of t e ≡ 12) ⊎ (kind_of t e ≡ 13) → Calls t x (word_at t e 2) n → Hints t e x n

-- what a look for a head finds
pub record HeadFound (t : List ℕ) (q most x n : ℕ) : Type 0 where
  pub few : n ≤ most
  pub head : HasHead t x q n

-- c has the table's words, and zeros after them; words 4 and 5 of an entry may have a hint about its first operand
pub record Loaded (t c : List ℕ) : Type 0 where
  pub long : length c ≡ 32768
  pub same : (e j : ℕ) → j < 8 → (j < 4) ⊎ (5 < j) → word_at c e j ≡ word_at t e j
  pub hints : (e : ℕ) → Hints t e (word_at c e 4) (word_at c e 5)

-- the record holds the bindings of the words b, the mark, the room, the nodes that an index holds and the store's nodes
pub record Opened (b : List ℕ) (m room top nodes : ℕ) (st : List ℕ) : Type 0 where
  pub long : length st ≡ record_long
  pub stands : standing st ≡ at m (lending 0 room top nodes)
  pub holds : held st ≡ bindings b
