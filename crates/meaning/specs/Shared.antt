-- Wish 12, one node for one term: the store variant in which a node that stands below the mark with the same words is not made again.
-- It is one more store for the same plans. What is promised of it stands below as named types; the proofs are proofs/Shared.antt, under
-- the same names in small letters.
use Rattle.std.specs.Prelude.{◌≡◌, ◌↔◌, ◌≢◌, Bool, true, false, ◌&&◌, List, [], ◌∷◌, ℕ, zero, suc, ◌≤◌, ◌<◌, eqb, if◌then◌else◌}
use Rattle.std.proofs.Math.Option.{Option, none, some}
use Rattle.words.specs.Tests.{rejected}
use Rattle.words.specs.Words.{word_at, rows}
use Rattle.checks.specs.Signature.{entry_obeys, node_obeys}
use Rattle.checks.specs.Promises.{AllGood}
use Rattle.meaning.specs.Term.{Term}
use Rattle.meaning.specs.Bindings.{Bindings}
use Rattle.meaning.specs.Table.{six, table_by}
use Rattle.meaning.specs.Rules.{Visit, apply, does}
use Rattle.meaning.specs.Derivation.{Notes}
use Rattle.meaning.specs.Limits.{Limit, units, room, nesting, unbound, Store, Res, ended, lost, cut, Counted, at, run}
use Rattle.meaning.specs.System.{Env}
use Rattle.meaning.specs.Beginning.{Given}
use Rattle.meaning.specs.Store.{State, on, Left, stored, row, Input, AcceptedBy, deepest, Ran, ran_by, value, term, meant, bindings, Kept, Leaves}
use Rattle.meaning.specs.Demands.{Says, start_visit, EitherOrder, Agreed, started}
use Rattle.meaning.specs.Above.{in_store, SameBelow}

-- the eight words of node k
abbrev pub eight : List ℕ → ℕ → List ℕ
eight w k = word_at w k 0 ∷ word_at w k 1 ∷ six w k

-- equal lists of words
unfoldable pub alike : List ℕ → List ℕ → Bool
alike [] [] = true
alike [] (y ∷ ys) = false
alike (x ∷ xs) [] = false
alike (x ∷ xs) (y ∷ ys) = eqb x y && alike xs ys

-- the node below m with the words r
unfoldable pub node_with : List ℕ → List ℕ → ℕ → Option ℕ
node_with w r zero = none
node_with w r (suc m) = if alike (eight w m) r then some m else node_with w r m

-- where a node stands it wants no room, its number is the node's, and nothing changes; else it is made as in the plain store
unfoldable pub full_for : Option ℕ → Bool → Bool
full_for none b = b
full_for (some k) b = false

unfoldable pub number_for : Option ℕ → ℕ → ℕ
number_for none m = m
number_for (some k) m = k

unfoldable pub state_for : {N : Type 0} → Option ℕ → State N → State N → State N
state_for none s s' = s'
state_for (some k) s s' = s

-- the store that finds its nodes so
abbrev pub finds : (List ℕ → List ℕ → ℕ → Option ℕ) → {N : Type 0} → Notes N → Store ℕ (Visit ℕ) (State N) (Left N)
finds node Λ = record {
  con = (stored Λ).con;
  kids = (stored Λ).kids;
  full = λ s c hs. full_for (node s.words (row c hs) s.mark) ((stored Λ).full s c hs);
  new = λ s c hs. number_for (node s.words (row c hs) s.mark) ((stored Λ).new s c hs);
  put = λ s c hs. state_for (node s.words (row c hs) s.mark) s ((stored Λ).put s c hs);
  left = (stored Λ).left;
  back = (stored Λ).back;
  missed = (stored Λ).missed;
  begins = (stored Λ).begins;
  ends = (stored Λ).ends;
  fails = (stored Λ).fails;
}

abbrev pub shared : {N : Type 0} → Notes N → Store ℕ (Visit ℕ) (State N) (Left N)
shared Λ = finds node_with Λ

-- the node that stands for another, where nodes are shared
unfoldable pub standing : Bool → List ℕ → List ℕ → ℕ → Option ℕ
standing true w r m = node_with w r m
standing false w r m = none

-- the variant where nodes are shared, and the plain store where they are not
abbrev pub store_by : {N : Type 0} → Bool → Notes N → Store ℕ (Visit ℕ) (State N) (Left N)
store_by sh Λ = finds (standing sh) Λ

-- the variant's run over the words
unfoldable pub shared_ran_by : ℕ → {N : Type 0} → Notes N → N → Input → Ran N
shared_ran_by W Λ n i = run (shared Λ) (does (table_by W i.table)) deepest (apply i.start i.subject (bindings i.bindings)) (on i.store i.mark n) i.units

-- the run over the words, by whether nodes are shared
unfoldable pub ran_sharing : Bool → ℕ → {N : Type 0} → Notes N → N → Input → Ran N
ran_sharing sh W Λ n i =
    run (store_by sh Λ) (does (table_by W i.table)) deepest (apply i.start i.subject (bindings i.bindings))
    (on i.store i.mark n) i.units

-- no two nodes below m have the same words; two terms below m are equal exactly when their numbers are
abbrev pub Distinct : List ℕ → ℕ → Type 0
Distinct w m = (j k : ℕ) → j < k → k < m → eight w j ≡ eight w k → ⊥

abbrev pub OneNode : List ℕ → ℕ → Type 0
OneNode w m = (j k : ℕ) → j < m → k < m → (term w j ≡ term w k) ↔ (j ≡ k)

-- no earlier node has node k's words; the lowest node below m with an earlier one's words
abbrev pub absent : Option ℕ → Bool
absent none = true
absent (some k) = false

unfoldable pub fresh : List ℕ → ℕ → Bool
fresh w k = absent (node_with w (eight w k) k)

abbrev pub twin : List ℕ → ℕ → Option ℕ
twin w m = rejected (fresh w) 0 m

-- Where nodes are not shared it is the plain store, and where they are it is the variant; so it is with the runs.
abbrev pub NotShared : Type 1
NotShared =
    ((N : Type 0) (Λ : Notes N) → store_by false Λ ≡ stored Λ)
    × ((W : ℕ) (N : Type 0) (Λ : Notes N) (n : N) (i : Input) → ran_sharing false W Λ n i ≡ ran_by W Λ n i)

abbrev pub AllShared : Type 1
AllShared =
    ((N : Type 0) (Λ : Notes N) → store_by true Λ ≡ shared Λ)
    × ((W : ℕ) (N : Type 0) (Λ : Notes N) (n : N) (i : Input) → ran_sharing true W Λ n i ≡ shared_ran_by W Λ n i)

-- Two terms are equal exactly when their numbers are: where the given nodes are distinct, those of a done run are.
abbrev pub OneNodeOnly : Type 1
OneNodeOnly =
    (W : ℕ) (N : Type 0) (Λ : Notes N) (n : N) (i : Input) → AcceptedBy W i → Distinct i.store i.mark
    → OneNode i.store i.mark
    × ((k u : ℕ) (b : Bindings ℕ) (s : State N) → shared_ran_by W Λ n i ≡ ended k b s u → Distinct s.words s.mark × OneNode s.words s.mark)

-- Nodes in use stay, new ones come after, and what is left is sound.
abbrev pub SharedLeaves : Type 1
SharedLeaves = (W : ℕ) (N : Type 0) (Λ : Notes N) (n : N) (i : Input) → AcceptedBy W i → Leaves i.store i.mark (shared_ran_by W Λ n i)

-- With a signature that every entry and every given node obeys, every node of a done run obeys it.
abbrev pub SharedObeyed : Type 1
SharedObeyed =
    (W : ℕ) (N : Type 0) (Λ : Notes N) (n : N) (i : Input) (g : List ℕ) → AcceptedBy W i
    → AllGood (entry_obeys g i.table) (rows i.table) → AllGood (node_obeys g i.store) i.mark
    → (k u : ℕ) (b : Bindings ℕ) (s : State N) → shared_ran_by W Λ n i ≡ ended k b s u → AllGood (node_obeys g s.words) s.mark

-- Room given back is forgotten: what stands from the mark on is of no account, and is not found.
abbrev pub SharedAbove : Type 1
SharedAbove =
    (W : ℕ) (N : Type 0) (Λ : Notes N) (n : N) (i : Input) (w : List ℕ) → AcceptedBy W i → Kept i.store i.mark w
    → SameBelow (shared_ran_by W Λ n i) (shared_ran_by W Λ n (in_store i w))

-- Where the plain store answers done or failed the variant does too, with equal terms, bindings, notes and units, and its mark is never
-- higher; so it is with every cut-off but by room, which alone may turn into something else.
abbrev pub Spares : {N : Type 0} → Res Term Env (Counted N) N → Res Term Env (Counted N) N → Type 0
Spares (ended t b s u) r = (m : ℕ) × (r ≡ ended t b (at m s.notes) u) × (m ≤ s.mark)
Spares (lost l u) r = r ≡ lost l u
Spares (cut units l u) r = r ≡ cut units l u
Spares (cut room l u) r = Unit {0}
Spares (cut nesting l u) r = r ≡ cut nesting l u
Spares (cut (unbound v) l u) r = r ≡ cut (unbound v) l u

abbrev pub SharedSpares : Type 1
SharedSpares =
    (W : ℕ) (N : Type 0) (Λ : Notes N) (n : N) (i : Input) → AcceptedBy W i → Spares (value (ran_by W Λ n i)) (value (shared_ran_by W Λ n i))

-- what an accepted input gives a run, with room for `size` nodes
abbrev pub sized : ℕ → Input → Given
sized size i = record { units = i.units; size = size; mark = i.mark; nesting = deepest }

-- the variant's answer is r, which is not cut off by room, but for a mark that is not higher; or its own room is met
pub data Shares {N : Type 0} : Res Term Env (Counted N) N → Res Term Env (Counted N) N → Type 0 where
  share-done : {t : Term} {b : Env} {m m' : ℕ} {n : N} {u : ℕ} → m' ≤ m → Shares (ended t b (at m n) u) (ended t b (at m' n) u)
  share-failed : {n : N} {u : ℕ} → Shares (lost n u) (lost n u)
  share-cut : {c : Limit} {n : N} {u : ℕ} → c ≢ room → Shares (cut c n u) (cut c n u)
  share-room : {r : Res Term Env (Counted N) N} {n : N} {u : ℕ} → Shares r (cut room n u)

-- Demand 2 for the variant: with room enough, which is so from some number of nodes on, what is so by demand 2 is what the variant
-- answers, or it answers 7. That 7 is given only where a node is to be made, none stands with its words and the mark equals the store's
-- nodes is the definition of `shared`; and by SharedSpares only where the plain store gives 7 too.
abbrev pub Demand2Shared : Type 1
Demand2Shared =
    (W : ℕ) (N : Type 0) (Λ : Notes N) (n : N) (i : Input) → AcceptedBy W i
    → (enough : ℕ) × ((size : ℕ) → enough ≤ size → (r : Res Term Env (Counted N) N) → Says Λ n (table_by W i.table) (sized size i) (start_visit i) r → Shares r (value (shared_ran_by W Λ n i)))

-- Demand 3 for the variant: two runs, one in each order, that both end in done or failed agree, whatever units each is given.
abbrev pub Demand3Shared : Type 1
Demand3Shared =
    (W : ℕ) (N : Type 0) (Λ : Notes N) (n : N) (i : Input) (s u : ℕ) → AcceptedBy W i → AcceptedBy W (started i s u)
    → EitherOrder (table_by W i.table) i.start s (term i.store i.subject) (meant i.store (bindings i.bindings))
    → Agreed (value (shared_ran_by W Λ n i)) (value (shared_ran_by W Λ n (started i s u)))
