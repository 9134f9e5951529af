-- What the contracts of the leaves say: a visit, or what follows it, over the store's words, by the meaning's rules.
use Rattle.std.specs.Prelude.{◌≡◌, Bool, true, ◌&&◌, ◌⊎◌, List, [], ◌∷◌, ℕ, ◌+◌, ◌*◌, ◌%◌, ◌≤◌, ◌<◌, min, eqb, ltb, length, if◌then◌else◌}
use Rattle.std.proofs.Math.Option.{some}
use Rattle.words.specs.Words.{word_at}
use Rattle.checks.specs.Kinds.{ours, variables, operands_from_by}
use Rattle.checks.specs.Good.{kind_of, operand_count, argument_of, good_node}
use Rattle.meaning.specs.Bindings.{Bindings}
use Rattle.meaning.specs.Table.{table, operands}
use Rattle.meaning.specs.Plan.{ret}
use Rattle.meaning.specs.Rules.{Visit, build, compare, match, Do, does, strategy, walk, zip}
use Rattle.meaning.specs.Limits.{Limit, units, room, nesting, unbound, ended, lost, cut, at, run, run_plan, room_for}
use Rattle.meaning.specs.Store.{children}
use Rattle.meaning.specs.Shared.{node_with}
use Rattle.index.specs.Run.{Fits, full_by, number_by, state_by}
use Rattle.state.specs.Noted.{Standing, on, stored, Ran, left_of}
use Rattle.state.specs.declared.answers.Answer.{Answer}
use Rattle.state.specs.declared.answers.Answer.TheVariants.{Done, Failed, Cut}
use Rattle.state.specs.Answers.{answer_of, node_in, units_in, units_half, room_half}
use Rattle.state.specs.Record.{record_long, mark_of, room_of, nodes_of, notes_of, standing, lasting, held, Framed}

-- a node's child count, read as at most 6; its eight words
abbrev pub count_of : List ℕ → ℕ → ℕ
count_of w k = min (word_at w k 1) 6

abbrev pub row_at : List ℕ → ℕ → List ℕ
row_at w k = word_at w k 0 ∷ word_at w k 1 ∷ word_at w k 2 ∷ word_at w k 3 ∷ word_at w k 4 ∷ word_at w k 5 ∷ word_at w k 6 ∷ word_at w k 7 ∷ []

-- node k stands in the store: it lies inside the words, and it and all below it are good
pub record Stored (w : List ℕ) (k : ℕ) : Type 0 where
  pub inside : 8 * k + 8 ≤ length w
  pub good : (j : ℕ) → j ≤ k → good_node w j ≡ true

-- so does every node that is bound
abbrev pub Bound : List ℕ → Bindings ℕ → Type 0
Bound w b = (v j : ℕ) → b v ≡ some j → Stored w j

-- entry p's constructor and count are node k's
unfoldable pub agreeing : List ℕ → List ℕ → ℕ → ℕ → Bool
agreeing t w p k = eqb (argument_of t p) (word_at w k 0) && eqb (operand_count t p) (count_of w k)

-- a visit by the table t with nesting n; a plan whose visits have nesting n
unfoldable pub visit : List ℕ → ℕ → Visit ℕ → List ℕ → Standing → ℕ → Ran
visit t n q w m u = run stored (does (table t)) n q (on w m) u

unfoldable pub plan : List ℕ → ℕ → Do ℕ → List ℕ → Standing → ℕ → Ran
plan t n p w m u = run_plan stored (run stored (does (table t)) n) p (on w m) u

-- what follows the visit of entry e as a strategy
abbrev pub ruled : List ℕ → ℕ → ℕ → ℕ → Bindings ℕ → List ℕ → Standing → ℕ → Ran
ruled t n e k b w m u = plan t n (strategy ((table t).strategies e) k b) w m u

-- what a cut-off's word names: the variable that has no binding, or the limit
unfoldable pub limit_of : ℕ → Limit
limit_of c =
    if ltb (node_in c) units_half then unbound (node_in c % 64)
    else if eqb (node_in c) units_half then units
    else if eqb (node_in c) room_half then room
    else nesting

-- an answer with the record and the store at its return
unfoldable pub meaning : Answer → List ℕ → List ℕ → Ran
meaning (Done x u) st w = ended x (held st) (on w (standing st)) u
meaning (Failed u) st w = lost (left_of w (standing st)) u
meaning (Cut c) st w = cut (limit_of c) (left_of w (standing st)) (units_in c)

unfoldable pub out : ℕ → List ℕ → List ℕ → Ran
out r st w = meaning (answer_of r) st w

-- an answer of which only the units count: success gives the node k and the bindings b back, with nothing made
unfoldable pub giving : Answer → ℕ → Bindings ℕ → List ℕ → Standing → Ran
giving (Done x u) k b w m = ended k b (on w m) u
giving (Failed u) k b w m = lost (left_of w m) u
giving (Cut c) k b w m = cut (limit_of c) (left_of w m) (units_in c)

unfoldable pub kept : ℕ → ℕ → Bindings ℕ → List ℕ → Standing → Ran
kept r k b w m = giving (answer_of r) k b w m

-- r answers the comparison of nodes a and b: by every table, whatever the bindings, the mark and the notes, which it leaves
abbrev pub Compares : (w : List ℕ) (a b u d r : ℕ) → Type 0
Compares w a b u d r = (t : List ℕ) (β : Bindings ℕ) (m : Standing) → kept r b β w m ≡ visit t d (compare a b β) w m u

-- entry p is a pattern
abbrev pub Pattern : List ℕ → ℕ → Type 0
Pattern t p = (kind_of t p ≡ 18) ⊎ (kind_of t p ≡ 19)

-- what the engine needs of a checked table, held in 32,768 words with zeros after its last entry: from where its operands begin, every
-- word of an entry is an entry's number
pub record Entries (t : List ℕ) : Type 0 where
  pub long : length t ≡ 32768
  pub operand : (e j : ℕ) → e < 4096 → operands_from_by ours (kind_of t e) ≤ j → j < 8 → word_at t e j < 4096
  pub few : (e : ℕ) → e < 4096 → operand_count t e ≤ 6
  pub variable : (e : ℕ) → e < 4096 → kind_of t e ≡ 18 → argument_of t e < variables
  pub constructor : (e : ℕ) → e < 4096 → kind_of t e ≡ 19 → argument_of t e ≤ 65535
  pub matched : (e : ℕ) → e < 4096 → kind_of t e ≡ 14 → Pattern t (word_at t e 2)
  pub built : (e : ℕ) → e < 4096 → kind_of t e ≡ 15 → Pattern t (word_at t e 2)
  pub parts : (e i : ℕ) → e < 4096 → kind_of t e ≡ 19 → i < operand_count t e → Pattern t (word_at t e (2 + i))

-- what is lent fits the room; some nodes are in use, each of them good; the bindings lie below the mark
pub record Steady (w : List ℕ) (m : Standing) (b : Bindings ℕ) : Type 0 where
  pub fits : Fits w m.mark m.notes
  pub used : 0 < m.mark
  pub good : (j : ℕ) → j < m.mark → good_node w j ≡ true
  pub bound : (v j : ℕ) → b v ≡ some j → j < m.mark

-- what a MATCH of entry p requires: the node and the units are in the word g
pub record Matchable (t w st : List ℕ) (p g : ℕ) : Type 0 where
  pub entries : Entries t
  pub long : length st ≡ record_long
  pub inside : p < 4096
  pub steady : Steady w (standing st) (held st)
  pub subject : node_in g < mark_of st

-- the answer r, with the record and the store at return, is o; and the words of the variables bound before are as they were
pub record Gives (o : Ran) (st : List ℕ) (r : ℕ) (st' w' : List ℕ) : Type 0 where
  pub is : out r st' w' ≡ o
  pub frame : Framed st st'

-- what BUILD of entry p requires, and what it gives, whatever the subject
abbrev pub Buildable : (t w st : List ℕ) (p : ℕ) → Type 0
Buildable t w st p = Entries t × (p < 4096) × Pattern t p × Steady w (standing st) (held st) × (length st ≡ record_long)

abbrev pub Builds : (t w st : List ℕ) (p u d r : ℕ) → (st' w' : List ℕ) → Type 0
Builds t w st p u d r st' w' = (k : ℕ) → Gives (visit t d (build p k (held st)) w (standing st) u) st r st' w'

-- a variable's: record and store stay as they are, whatever the store
abbrev pub BuildsVariable : (t st : List ℕ) (p u d r : ℕ) → Type 0
BuildsVariable t st p u d r = (w : List ℕ) → Steady w (standing st) (held st) → Builds t w st p u d r st w

-- MATCH of entry p gives r with the record st'
abbrev pub Matches : (t w st : List ℕ) (p g d r : ℕ) (st' : List ℕ) → Type 0
Matches t w st p g d r st' = Gives (visit t d (match p (node_in g) (held st)) w (standing st) (units_in g)) st r st' w

-- entry p is a PCON whose constructor and count are the node's, which stands in the store, and nesting is left for its children
abbrev pub Agreed : (t w : List ℕ) (p g d : ℕ) → Type 0
Agreed t w p g d = Entries t × (p < 4096) × (kind_of t p ≡ 19) × (agreeing t w p (node_in g) ≡ true) × (0 < d) × Stored w (node_in g)

-- what follows a MATCH of entry p on node k, whose constructor and count agree, whatever the mark: the record is b before
-- and c after, its mark is as it was, and what it binds stands in the store
pub record MatchesChildren (t w : List ℕ) (n p g : ℕ) (b : List ℕ) (r : ℕ) (c : List ℕ) : Type 0 where
  pub is : (m : ℕ) → kept r (node_in g) (held c) w (at m (notes_of c)) ≡ plan t n
      (walk (zip match (operands t p) (children w (node_in g))) [] (held b) (λ gs b'. ret (node_in g) b')) w (at m (notes_of b)) (units_in g)
  pub frame : Framed b c
  pub lasts : lasting c ≡ lasting b
  pub binds : Bound w (held b) → Bound w (held c)

-- a new node of these eight words; with an index, the node that stands with them
unfoldable pub noded : List ℕ → List ℕ → List ℕ → ℕ → Ran
noded made st w u =
    let found = node_with w made (mark_of st) in
    room_for (full_by (room_of st) found (nodes_of st) (mark_of st)) (left_of w (standing st)) u
    (ended (number_by (room_of st) found (mark_of st)) (held st) (state_by (room_of st) found (on w (standing st)) made) u)
