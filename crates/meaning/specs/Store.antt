-- The same rules over the store's words, and what the words mean: the term that a node names, the bindings that the
-- bindings' words are.
use Rattle.std.specs.Prelude.{◌≡◌, true, false, List, [], ◌∷◌, ◌++◌, map, ℕ, zero, suc, ◌+◌, ◌-◌, ◌*◌, ◌≤◌, ◌<◌, leb, length, get_or, take, replicate}
use Rattle.std.proofs.Math.Option.{Option, none, some}
use Rattle.words.specs.Words.{rows, put_row}
use Rattle.checks.specs.Kinds.{ours, sort_of, variables_by}
use Rattle.checks.specs.Good.{kind_of, constructor_of, child_count, good_node}
use Rattle.checks.specs.Checked.{checked, table_checked_by, store_checked}
use Rattle.checks.specs.declared.kinds.Sort.TheVariants.{Strategy}
use Rattle.meaning.specs.Term.{Term, mk}
use Rattle.meaning.specs.Bindings.{Bindings}
use Rattle.meaning.specs.Table.{six, table_by}
use Rattle.meaning.specs.Rules.{Visit, apply, does}
use Rattle.meaning.specs.Limits.{Store, Res, ended, lost, cut, Counted, at, run}
use Rattle.meaning.specs.Derivation.{Notes, what}
use Rattle.meaning.specs.System.{Env}

-- the children of node k
abbrev pub children : List ℕ → ℕ → List ℕ
children w k = take (child_count w k) (six w k)

-- the eight words of a node
unfoldable pub row : ℕ → List ℕ → List ℕ
row c hs = c ∷ length hs ∷ hs ++ replicate (6 - length hs) 0

-- the store: its words, the mark, and what was noted
pub record State (N : Type 0) : Type 0 where
  pub words : List ℕ
  pub mark : ℕ
  pub notes : N

abbrev pub on : {N : Type 0} → List ℕ → ℕ → N → State N
on w m n = record { words = w; mark = m; notes = n }

-- what a failure or a cut-off leaves: the words, and what was noted
pub record Left (N : Type 0) : Type 0 where
  pub words : List ℕ
  pub notes : N

abbrev pub rest : {N : Type 0} → List ℕ → N → Left N
rest w n = record { words = w; notes = n }

-- a new node takes the number at the mark; the words above the mark are of no account, and stay when it returns
abbrev pub stored : {N : Type 0} → Notes N → Store ℕ (Visit ℕ) (State N) (Left N)
stored Λ = record {
  con = λ s k. constructor_of s.words k;
  kids = λ s k. children s.words k;
  full = λ s c hs. leb (rows s.words) s.mark;
  new = λ s c hs. s.mark;
  put = λ s c hs. on (put_row s.words s.mark (row c hs)) (s.mark + 1) s.notes;
  left = λ s. rest s.words s.notes;
  back = λ s l. on l.words s.mark l.notes;
  missed = λ p s. on s.words s.mark (Λ.missed p s.notes);
  begins = λ q s. on s.words s.mark (Λ.begins (what q) s.notes);
  ends = λ q s. on s.words s.mark (Λ.ends (what q) true s.notes);
  fails = λ q l. rest l.words (Λ.ends (what q) false l.notes);
}

-- the term of node k, down to the nesting n
unfoldable pub term_to : ℕ → List ℕ → ℕ → Term
term_to zero w k = mk 0 []
term_to (suc n) w k = mk (constructor_of w k) (map (term_to n w) (children w k))

-- the term that node k names: its children lie below it, so k + 1 levels are enough
unfoldable pub term : List ℕ → ℕ → Term
term w k = term_to (suc k) w k

-- a binding's word: zero is unbound, otherwise it is the node's number plus one
unfoldable pub named : ℕ → Option ℕ
named zero = none
named (suc k) = some k

-- the bindings that the words are
unfoldable pub bindings : List ℕ → Bindings ℕ
bindings b = λ v. named (get_or b v 0)

-- the terms that the bindings name
unfoldable pub term_of : List ℕ → Option ℕ → Option Term
term_of w none = none
term_of w (some k) = some (term w k)

unfoldable pub meant : List ℕ → Bindings ℕ → Env
meant w b = λ v. term_of w (b v)

abbrev pub Ran : Type 0 → Type 0
Ran N = Res ℕ (Bindings ℕ) (State N) (Left N)

-- how a run over the words ends, as values
unfoldable pub value : {N : Type 0} → Ran N → Res Term Env (Counted N) N
value (ended k b s u) = ended (term s.words k) (meant s.words b) (at s.mark s.notes) u
value (lost l u) = lost l.notes u
value (cut c l u) = cut c l.notes u

-- what is handed to a run: the table's, the store's and the bindings' words, the mark, the start, the subject, the units
pub record Input : Type 0 where
  pub table : List ℕ
  pub store : List ℕ
  pub bindings : List ℕ
  pub mark : ℕ
  pub start : ℕ
  pub subject : ℕ
  pub units : ℕ

-- the checks let it through, and the start is good: neither 2, 3, 4 nor 5 is answered
pub record AcceptedBy (W : ℕ) (i : Input) : Type 0 where
  pub table : table_checked_by W i.table ≡ checked 0 0
  pub store : store_checked i.store i.mark ≡ checked 0 0
  pub bindings : length i.bindings ≡ variables_by W
  pub inside : i.start < rows i.table
  pub strategy : sort_of (kind_of i.table i.start) ≡ Strategy
  pub subject : i.subject < i.mark
  pub bound : (v : ℕ) → get_or i.bindings v 0 ≤ i.mark

-- a run gets a nesting of 4,096 visits
abbrev pub deepest : ℕ
deepest = 4096

-- the run over the words
unfoldable pub ran_by : ℕ → {N : Type 0} → Notes N → N → Input → Ran N
ran_by W Λ n i = run (stored Λ) (does (table_by W i.table)) deepest (apply i.start i.subject (bindings i.bindings)) (on i.store i.mark n) i.units

-- the same in the product
abbrev pub Accepted : Input → Type 0
Accepted = AcceptedBy ours

abbrev pub ran : {N : Type 0} → Notes N → N → Input → Ran N
ran Λ n i = ran_by ours Λ n i

-- nodes below the mark and the store's length stay
pub record Kept (w : List ℕ) (m : ℕ) (w' : List ℕ) : Type 0 where
  pub long : length w' ≡ length w
  pub same : take (8 * m) w' ≡ take (8 * m) w

-- a good store with a good state in it: what was given back by a run passes the check again
pub record Sound (w : List ℕ) (m k : ℕ) (b : Bindings ℕ) : Type 0 where
  pub fits : m ≤ rows w
  pub good : (j : ℕ) → j < m → good_node w j ≡ true
  pub subject : k < m
  pub bound : (v j : ℕ) → b v ≡ some j → j < m

-- what a run over the words leaves, s being the store before it
abbrev pub Leaves : {N : Type 0} → List ℕ → ℕ → Ran N → Type 0
Leaves w m (ended k b s u) = (m ≤ s.mark) × Kept w m s.words × Sound s.words s.mark k b
Leaves w m (lost l u) = Kept w m l.words
Leaves w m (cut c l u) = Kept w m l.words
