-- What the contract of `run_many` promises, with a signature and without, in the reader's words. Each statement holds of everything that meets
-- the contract, and is proved in proofs/Subjects.antt under its name.
use Rattle.std.specs.Prelude.{◌≡◌, ◌↔◌, List, [], ◌∷◌, ℕ, zero, suc, ◌*◌, ◌≤◌, ◌<◌, length, get_or, take, drop}
use Rattle.std.proofs.Math.Option.{Option, none, some}
use Rattle.words.specs.Words.{rows}
use Rattle.checks.specs.Checked.{Checked}
use Rattle.checks.specs.declared.kinds.Sort.TheVariants.{Strategy}
use Rattle.checks.specs.Kinds.{sort_of}
use Rattle.checks.specs.Good.{kind_of, good_entry_by, good_node}
use Rattle.checks.specs.Plain.{FaultyBy}
use Rattle.checks.specs.Checked.{checked}
use Rattle.checks.specs.Signature.{Signature, entry_obeys, node_obeys}
use Rattle.checks.specs.Promises.{Lowest}
use Rattle.meaning.specs.Table.{table_by}
use Rattle.meaning.specs.Derivation.{quiet}
use Rattle.meaning.specs.Store.{Input, AcceptedBy}
use Rattle.meaning.specs.Demands.{Says, limits, start_visit, Agreed, started}
use Rattle.meaning.specs.Orderings.{Site, Every, Separate, Reordered, InOrder}
use Rattle.calls.specs.Run.{at_return, run_with_by, run_of_by}
use Rattle.calls.specs.Promises.{Runs, Ended, Told, Movable, SizesFit, EntriesGood, NodesGood}
use Rattle.calls.specs.Signed.{EntriesObey, NodesObey}
use Rattle.calls.specs.Outcome.{Outcome}
use Rattle.calls.specs.Many.{Module, single, five, many_refused_by, many_at_return, many_of_by}

-- with the signature g, where one is lent: the answer r, the results' words rs and the store's words s meet the contract
abbrev pub RunsMany : ℕ → Option (List ℕ) → Module → Checked → List ℕ → List ℕ → Type 0
RunsMany W g c r rs s = many_at_return r rs s ≡ many_of_by W g c

-- Two outcomes that meet the contract agree, in both numbers and every word.
abbrev pub Agreeing : ℕ → Type 0
Agreeing W =
    (g : Option (List ℕ)) (c : Module) (r r' : Checked) (rs rs' s s' : List ℕ) → RunsMany W g c r rs s → RunsMany W g c r' rs' s'
    → (r ≡ r') × (rs ≡ rs') × (s ≡ s')

-- A refusal writes nothing.
abbrev pub WritesNothing : ℕ → Type 0
WritesNothing W =
    (g : Option (List ℕ)) (c : Module) (r : Checked) (rs s : List ℕ) → RunsMany W g c r rs s → (r.answer ≡ 0 → ⊥)
    → (r ≡ many_refused_by W g c) × (rs ≡ c.results) × (s ≡ c.store)

-- Without subjects an accepted call writes nothing, not even zeros above the mark.
abbrev pub NoneToRun : ℕ → Type 0
NoneToRun W =
    (g : Option (List ℕ)) (c : Module) (r : Checked) (rs s : List ℕ) → RunsMany W g c r rs s → r.answer ≡ 0 → length c.subjects ≡ 0
    → (r.place ≡ 0) × (rs ≡ c.results) × (s ≡ c.store)

-- what the single call on subject j is handed: the store and the mark that the one before left
unfoldable pub handed_at : ℕ → Option (List ℕ) → Module → List ℕ → ℕ → List ℕ → ℕ → Input
handed_at W g c s m [] j = single c s m 0
handed_at W g c s m (k ∷ ks) zero = single c s m k
handed_at W g c s m (k ∷ ks) (suc j) = let r = run_with_by W g (single c s m k) in handed_at W g c r.store r.mark ks j

abbrev pub turn_input : ℕ → Option (List ℕ) → Module → ℕ → Input
turn_input W g c j = handed_at W g c c.store c.mark c.subjects j

-- subject j: its input is accepted, it has the call's table, bindings, start and units, and its five numbers stand at their place
pub record Turned (W : ℕ) (g : Option (List ℕ)) (c : Module) (rs : List ℕ) (j : ℕ) : Type 0 where
  pub accepted : AcceptedBy W (turn_input W g c j)
  pub subject : (turn_input W g c j).subject ≡ get_or c.subjects j 0
  pub table : (turn_input W g c j).table ≡ c.table
  pub bindings : (turn_input W g c j).bindings ≡ c.bindings
  pub start : (turn_input W g c j).start ≡ c.start
  pub units : (turn_input W g c j).units ≡ c.units
  pub mark : c.mark ≤ (turn_input W g c j).mark
  pub runs : run_with_by W g (turn_input W g c j) ≡ run_of_by W (turn_input W g c j)
  pub numbers : take 5 (drop (5 * j) rs) ≡ five (run_of_by W (turn_input W g c j))

-- Every subject is run, whatever came of those before it.
abbrev pub EachSubject : ℕ → Type 0
EachSubject W =
    (g : Option (List ℕ)) (c : Module) (r : Checked) (rs s : List ℕ) → RunsMany W g c r rs s → r.answer ≡ 0
    → (j : ℕ) → j < length c.subjects → Turned W g c rs j

-- Demand 2, of each subject: what comes back says x exactly when x is so.
abbrev pub Demand2 : ℕ → Type 0
Demand2 W =
    (g : Option (List ℕ)) (c : Module) (r : Checked) (rs s : List ℕ) → RunsMany W g c r rs s → r.answer ≡ 0
    → (j : ℕ) → j < length c.subjects → (x : Ended)
    → Told (turn_input W g c j) (run_of_by W (turn_input W g c j)) x
    ↔ Says quiet tt (table_by W c.table) (limits (turn_input W g c j)) (start_visit (turn_input W g c j)) x

-- Demand 3, of each subject, for any number of places: its run, and one of the same input in another order, that both end in done or
-- failed agree, whatever units each is given.
abbrev pub Demand3 : ℕ → Type 0
Demand3 W =
    (g : Option (List ℕ)) (c : Module) (r : Checked) (rs s : List ℕ) → RunsMany W g c r rs s → r.answer ≡ 0
    → (j : ℕ) → j < length c.subjects
    → (xs ys zs : List Site) (start units : ℕ) (o : Outcome) (s' b' : List ℕ)
    → Every (Movable W c.table) xs → Separate xs → Reordered xs ys → Reordered xs zs
    → InOrder (table_by W c.table) c.start ys → InOrder (table_by W c.table) start zs
    → AcceptedBy W (started (turn_input W g c j) start units) → Runs W (started (turn_input W g c j) start units) o s' b'
    → (x x' : Ended) → Told (turn_input W g c j) (run_of_by W (turn_input W g c j)) x → Told (started (turn_input W g c j) start units) (at_return o s' b') x'
    → Agreed x x'

-- ---- which refusal is given, both ways

-- the list has five words per subject
abbrev pub ListFits : Module → Type 0
ListFits c = length c.results ≡ 5 * length c.subjects

-- what a lent signature asks of itself, and of the entries and the nodes; nothing where none is lent
abbrev pub SignatureFits : Option (List ℕ) → Type 0
SignatureFits none = Unit {0}
SignatureFits (some g) = Signature g

abbrev pub Obeys : Option (List ℕ) → Input → Type 0
Obeys none i = Unit {0}
Obeys (some g) i = EntriesObey g i × NodesObey g i

-- what is asked of the start, of every subject and of the bindings
pub record StartsFit (c : Module) : Type 0 where
  pub inside : c.start < rows c.table
  pub strategy : sort_of (kind_of c.table c.start) ≡ Strategy
  pub subjects : (j : ℕ) → j < length c.subjects → get_or c.subjects j 0 < c.mark
  pub bound : (v : ℕ) → get_or c.bindings v 0 ≤ c.mark

-- what is handed over, as a run of the subject 0 has it: the sizes, the entries and the nodes are asked of it
abbrev pub whole : Module → Input
whole c = single c c.store c.mark 0

-- Answer 2: the sizes do not fit, a lent signature's or the list's included.
abbrev pub RefusesSizes : ℕ → Type 0
RefusesSizes W =
    (g : Option (List ℕ)) (c : Module) (r : Checked) (rs s : List ℕ) → RunsMany W g c r rs s
    → (r.answer ≡ 2) ↔ (ListFits c → SizesFit W (whole c) → SignatureFits g → ⊥)

-- An answer from 13 on with its place: the sizes fit, the place is the lowest bad entry, and the answer is its first fault.
abbrev pub RefusesEntry : ℕ → Type 0
RefusesEntry W =
    (g : Option (List ℕ)) (c : Module) (r : Checked) (rs s : List ℕ) (n p : ℕ) → 12 < n → RunsMany W g c r rs s
    → (r ≡ checked n p)
    ↔ (ListFits c × SizesFit W (whole c) × SignatureFits g × Lowest (good_entry_by W c.table) (rows c.table) p × FaultyBy W c.table p n)

-- Answer 4 with its place: the place is the lowest bad node below the first mark.
abbrev pub RefusesNode : ℕ → Type 0
RefusesNode W =
    (g : Option (List ℕ)) (c : Module) (r : Checked) (rs s : List ℕ) (p : ℕ) → RunsMany W g c r rs s
    → (r ≡ checked 4 p) ↔ (ListFits c × SizesFit W (whole c) × SignatureFits g × EntriesGood W (whole c) × Lowest (good_node c.store) c.mark p)

-- Answers 10 and 11 with their places: a signature is lent, and the place is the lowest entry, or node, that does not obey it.
abbrev pub RefusesDisobeyingEntry : ℕ → Type 0
RefusesDisobeyingEntry W =
    (g : List ℕ) (c : Module) (r : Checked) (rs s : List ℕ) (p : ℕ) → RunsMany W (some g) c r rs s
    → (r ≡ checked 10 p)
    ↔ (ListFits c × SizesFit W (whole c) × Signature g × EntriesGood W (whole c) × NodesGood (whole c) × Lowest (entry_obeys g c.table) (rows c.table) p)

abbrev pub RefusesDisobeyingNode : ℕ → Type 0
RefusesDisobeyingNode W =
    (g : List ℕ) (c : Module) (r : Checked) (rs s : List ℕ) (p : ℕ) → RunsMany W (some g) c r rs s
    → (r ≡ checked 11 p)
    ↔ (ListFits c × SizesFit W (whole c) × Signature g × EntriesGood W (whole c) × NodesGood (whole c) × EntriesObey g (whole c)
    × Lowest (node_obeys g c.store) c.mark p)

-- Answer 5: all before it is so, and the start, a subject or a binding does not fit; without subjects too.
abbrev pub RefusesStart : ℕ → Type 0
RefusesStart W =
    (g : Option (List ℕ)) (c : Module) (r : Checked) (rs s : List ℕ) → RunsMany W g c r rs s
    → (r.answer ≡ 5)
    ↔ (ListFits c × SizesFit W (whole c) × SignatureFits g × EntriesGood W (whole c) × NodesGood (whole c) × Obeys g (whole c) × (StartsFit c → ⊥))

-- Answer 0: all of it is so.
abbrev pub Accepts : ℕ → Type 0
Accepts W =
    (g : Option (List ℕ)) (c : Module) (r : Checked) (rs s : List ℕ) → RunsMany W g c r rs s
    → (r ≡ checked 0 0)
    ↔ (ListFits c × SizesFit W (whole c) × SignatureFits g × EntriesGood W (whole c) × NodesGood (whole c) × Obeys g (whole c) × StartsFit c)
