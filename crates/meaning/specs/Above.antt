-- Words from the mark on are of no account: stores of one length that have the same nodes below the mark run alike. And what the
-- nodes below the mark and the patterns of the table obey, every node below the mark of a done run obeys. The proofs are
-- proofs/Above.antt.
use Rattle.std.specs.Prelude.{◌≡◌, List, ℕ}
use Rattle.words.specs.Words.{rows}
use Rattle.checks.specs.Signature.{entry_obeys, node_obeys}
use Rattle.checks.specs.Promises.{AllGood}
use Rattle.meaning.specs.Bindings.{Bindings}
use Rattle.meaning.specs.Derivation.{Notes}
use Rattle.meaning.specs.Limits.{Limit, ended, lost, cut}
use Rattle.meaning.specs.Store.{State, on, rest, Input, AcceptedBy, Ran, ran_by, Kept}

-- the same input with another store
abbrev pub in_store : Input → List ℕ → Input
in_store i w = record { table = i.table; store = w; bindings = i.bindings; mark = i.mark; start = i.start; subject = i.subject; units = i.units }

-- the same answer, numbers, bindings and notes; of the store, the nodes below the mark of a done run
pub data SameBelow {N : Type 0} : Ran N → Ran N → Type 0 where
  same_ended : {k m u : ℕ} {b : Bindings ℕ} {n : N} {w w' : List ℕ} → Kept w m w' → SameBelow (ended k b (on w m n) u) (ended k b (on w' m n) u)
  same-lost : {u : ℕ} {n : N} {w w' : List ℕ} → SameBelow (lost (rest w n) u) (lost (rest w' n) u)
  same-cut : {c : Limit} {u : ℕ} {n : N} {w w' : List ℕ} → SameBelow (cut c (rest w n) u) (cut c (rest w' n) u)

abbrev pub AboveMark : Type 1
AboveMark =
    (W : ℕ) (N : Type 0) (Λ : Notes N) (n : N) (i : Input) (w : List ℕ) → AcceptedBy W i → Kept i.store i.mark w
    → SameBelow (ran_by W Λ n i) (ran_by W Λ n (in_store i w))

-- With a signature g that every entry of the table and every node below the mark obeys, every node below the mark of a done run
-- obeys it, old and new, reachable or not.
abbrev pub Obeyed : Type 1
Obeyed =
    (W : ℕ) (N : Type 0) (Λ : Notes N) (n : N) (i : Input) (g : List ℕ) → AcceptedBy W i
    → AllGood (entry_obeys g i.table) (rows i.table) → AllGood (node_obeys g i.store) i.mark
    → (k u : ℕ) (b : Bindings ℕ) (s : State N) → ran_by W Λ n i ≡ ended k b s u → AllGood (node_obeys g s.words) s.mark
