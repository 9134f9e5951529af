-- What the contracts of the calls with an index promise of their refusals, in the reader's words: of `run_indexed`
-- first, then of `run_many_indexed`, with a signature and without. Each statement holds of everything that meets the
-- contract, and is proved in proofs/Sharing.antt under its name. What a run with an index does is said in meaning/specs/Shared.
use Rattle.std.specs.Prelude.{◌≡◌, ◌≢◌, ◌↔◌, List, ℕ, ◌*◌, ◌≤◌, ◌<◌, length, replicate}
use Rattle.std.proofs.Math.Option.{Option, some}
use Rattle.words.specs.Words.{rows}
use Rattle.checks.specs.Checked.{Checked}
use Rattle.checks.specs.Good.{good_entry_by, good_node}
use Rattle.checks.specs.Plain.{FaultyBy}
use Rattle.checks.specs.Checked.{checked}
use Rattle.checks.specs.Signature.{entry_obeys, node_obeys}
use Rattle.checks.specs.Promises.{Lowest}
use Rattle.meaning.specs.Derivation.{places, nowhere}
use Rattle.meaning.specs.Store.{Input}
use Rattle.meaning.specs.Answer.{returned_by}
use Rattle.meaning.specs.Shared.{eight, Distinct, shared_ran_by}
use Rattle.calls.specs.Run.{at_return, run_with_by}
use Rattle.calls.specs.Promises.{AsGiven, SizesFit, EntriesGood, NodesGood, StartFits}
use Rattle.calls.specs.Signed.{EntriesObey}
use Rattle.calls.specs.Many.{Module}
use Rattle.calls.specs.Subjects.{RunsMany, ListFits, SignatureFits, Obeys, StartsFit, whole}
use Rattle.calls.specs.Indexed.{indexed_refused_by, indexed_at_return, indexed_of_by}
use Rattle.calls.specs.Indexed.{indexed_many_refused_by, indexed_many_at_return, indexed_many_of_by}
use Rattle.calls.specs.Outcome.{Outcome}

-- with the index x, and the signature g where one is lent: the outcome o, the store's words s, the bindings' words b and the index's
-- words y at return meet the contract
abbrev pub RunsIndexed : ℕ → Option (List ℕ) → Input → List ℕ → Outcome → (s b y : List ℕ) → Type 0
RunsIndexed W g i x o s b y = indexed_at_return o s b y ≡ indexed_of_by W g i x

-- Two outcomes that meet the contract agree, in every number and every word, the index's too.
abbrev pub Agreeing : ℕ → Type 0
Agreeing W =
    (g : Option (List ℕ)) (i : Input) (x : List ℕ) (o o' : Outcome) (s s' b b' y y' : List ℕ)
    → RunsIndexed W g i x o s b y → RunsIndexed W g i x o' s' b' y' → (o ≡ o') × (s ≡ s') × (b ≡ b') × (y ≡ y')

-- ---- which refusal is given, both ways

-- what is asked of the sizes: those of a run, those of a lent signature, and two words of the index for each node of the store
pub record AllSizesFit (W : ℕ) (g : Option (List ℕ)) (i : Input) (x : List ℕ) : Type 0 where
  pub run : SizesFit W i
  pub signature : SignatureFits g
  pub index : 2 * rows i.store ≤ length x

-- what is asked before nodes are compared: the sizes, every entry, every node below the mark, and that both obey a lent signature
pub record WordsGood (W : ℕ) (g : Option (List ℕ)) (i : Input) (x : List ℕ) : Type 0 where
  pub sizes : AllSizesFit W g i x
  pub entries : EntriesGood W i
  pub nodes : NodesGood i
  pub obeyed : Obeys g i

-- node k has an earlier one's words
abbrev pub Twin : List ℕ → ℕ → Type 0
Twin w k = (j : ℕ) × (j < k) × (eight w j ≡ eight w k)

-- p is the lowest node below m that has an earlier one's words
pub record LowestTwin (w : List ℕ) (m p : ℕ) : Type 0 where
  pub inside : p < m
  pub twin : Twin w p
  pub before : (k : ℕ) → k < p → Twin w k → ⊥

-- all that is asked
pub record IndexedFits (W : ℕ) (g : Option (List ℕ)) (i : Input) (x : List ℕ) : Type 0 where
  pub words : WordsGood W g i x
  pub distinct : Distinct i.store i.mark
  pub start : StartFits i

-- Answer 2: the sizes do not fit, a lent signature's or the index's included.
abbrev pub RefusesSizes : ℕ → Type 0
RefusesSizes W =
    (g : Option (List ℕ)) (i : Input) (x : List ℕ) (o : Outcome) (s b y : List ℕ) → RunsIndexed W g i x o s b y
    → (o.answer ≡ 2) ↔ (AllSizesFit W g i x → ⊥)

-- An answer from 13 to 17 with its place: the sizes fit, the place is the lowest bad entry, and the answer is its first fault.
abbrev pub RefusesEntry : ℕ → Type 0
RefusesEntry W =
    (g : Option (List ℕ)) (i : Input) (x : List ℕ) (o : Outcome) (s b y : List ℕ) (n p : ℕ) → 12 < n → n < 18 → RunsIndexed W g i x o s b y
    → ((o.answer ≡ n) × (o.place ≡ p))
    ↔ (AllSizesFit W g i x × Lowest (good_entry_by W i.table) (rows i.table) p × FaultyBy W i.table p n)

-- Answer 4 with its place: every entry is good, and the place is the lowest bad node below the mark.
abbrev pub RefusesNode : ℕ → Type 0
RefusesNode W =
    (g : Option (List ℕ)) (i : Input) (x : List ℕ) (o : Outcome) (s b y : List ℕ) (p : ℕ) → RunsIndexed W g i x o s b y
    → ((o.answer ≡ 4) × (o.place ≡ p)) ↔ (AllSizesFit W g i x × EntriesGood W i × Lowest (good_node i.store) i.mark p)

-- Answers 10 and 11 with their places: a signature is lent, and the place is the lowest entry, or node, that does not obey it.
abbrev pub RefusesDisobeyingEntry : ℕ → Type 0
RefusesDisobeyingEntry W =
    (g : List ℕ) (i : Input) (x : List ℕ) (o : Outcome) (s b y : List ℕ) (p : ℕ) → RunsIndexed W (some g) i x o s b y
    → ((o.answer ≡ 10) × (o.place ≡ p))
    ↔ (AllSizesFit W (some g) i x × EntriesGood W i × NodesGood i × Lowest (entry_obeys g i.table) (rows i.table) p)

abbrev pub RefusesDisobeyingNode : ℕ → Type 0
RefusesDisobeyingNode W =
    (g : List ℕ) (i : Input) (x : List ℕ) (o : Outcome) (s b y : List ℕ) (p : ℕ) → RunsIndexed W (some g) i x o s b y
    → ((o.answer ≡ 11) × (o.place ≡ p))
    ↔ (AllSizesFit W (some g) i x × EntriesGood W i × NodesGood i × EntriesObey g i × Lowest (node_obeys g i.store) i.mark p)

-- Answer 21 with its place: all of that is so, and the place is the lowest node below the mark that has an earlier one's words.
abbrev pub RefusesTwin : ℕ → Type 0
RefusesTwin W =
    (g : Option (List ℕ)) (i : Input) (x : List ℕ) (o : Outcome) (s b y : List ℕ) (p : ℕ) → RunsIndexed W g i x o s b y
    → ((o.answer ≡ 21) × (o.place ≡ p)) ↔ (WordsGood W g i x × LowestTwin i.store i.mark p)

-- Answer 5: no two nodes below the mark have the same words, and the start does not fit.
abbrev pub RefusesStart : ℕ → Type 0
RefusesStart W =
    (g : Option (List ℕ)) (i : Input) (x : List ℕ) (o : Outcome) (s b y : List ℕ) → RunsIndexed W g i x o s b y
    → (o.answer ≡ 5) ↔ (WordsGood W g i x × Distinct i.store i.mark × (StartFits i → ⊥))

-- No refusal: all of it is so. Then what comes back is the run of the variant in which nodes are shared, and the index is all zero.
abbrev pub Accepts : ℕ → Type 0
Accepts W = (g : Option (List ℕ)) (i : Input) (x : List ℕ) → (indexed_refused_by W g i x ≡ checked 0 0) ↔ IndexedFits W g i x

abbrev pub RunsShared : ℕ → Type 0
RunsShared W =
    (g : Option (List ℕ)) (i : Input) (x : List ℕ) (o : Outcome) (s b y : List ℕ) → RunsIndexed W g i x o s b y → IndexedFits W g i x
    → (at_return o s b ≡ returned_by W i (shared_ran_by W places nowhere i)) × (y ≡ replicate (length x) 0)

-- A refusal writes nothing, in the index too, and uses no units.
abbrev pub WritesNothing : ℕ → Type 0
WritesNothing W =
    (g : Option (List ℕ)) (i : Input) (x : List ℕ) (o : Outcome) (s b y : List ℕ) → RunsIndexed W g i x o s b y → (IndexedFits W g i x → ⊥)
    → AsGiven i o b × (s ≡ i.store) × (o.units ≡ 0) × (y ≡ x)

-- ---- many subjects

-- the answer r, the results' words rs, the store's words s and the index's words y meet the contract
abbrev pub RunsManyIndexed : ℕ → Option (List ℕ) → Module → List ℕ → Checked → (rs s y : List ℕ) → Type 0
RunsManyIndexed W g c x r rs s y = indexed_many_at_return r rs s y ≡ indexed_many_of_by W g c x

-- Two outcomes that meet the contract agree, in both numbers and every word.
abbrev pub AgreeingMany : ℕ → Type 0
AgreeingMany W =
    (g : Option (List ℕ)) (c : Module) (x : List ℕ) (r r' : Checked) (rs rs' s s' y y' : List ℕ)
    → RunsManyIndexed W g c x r rs s y → RunsManyIndexed W g c x r' rs' s' y' → (r ≡ r') × (rs ≡ rs') × (s ≡ s') × (y ≡ y')

-- Answer 2: the sizes do not fit, a lent signature's, the index's or the list's included.
abbrev pub RefusesSizesMany : ℕ → Type 0
RefusesSizesMany W =
    (g : Option (List ℕ)) (c : Module) (x : List ℕ) (r : Checked) (rs s y : List ℕ) → RunsManyIndexed W g c x r rs s y
    → (r.answer ≡ 2) ↔ (ListFits c → AllSizesFit W g (whole c) x → ⊥)

-- An answer from 13 to 17 with its place: the sizes fit, the place is the lowest bad entry, and the answer is its first fault.
abbrev pub RefusesEntryMany : ℕ → Type 0
RefusesEntryMany W =
    (g : Option (List ℕ)) (c : Module) (x : List ℕ) (r : Checked) (rs s y : List ℕ) (n p : ℕ) → 12 < n → n < 18
    → RunsManyIndexed W g c x r rs s y
    → (r ≡ checked n p)
    ↔ (ListFits c × AllSizesFit W g (whole c) x × Lowest (good_entry_by W c.table) (rows c.table) p × FaultyBy W c.table p n)

-- Answer 4 with its place: the place is the lowest bad node below the first mark.
abbrev pub RefusesNodeMany : ℕ → Type 0
RefusesNodeMany W =
    (g : Option (List ℕ)) (c : Module) (x : List ℕ) (r : Checked) (rs s y : List ℕ) (p : ℕ) → RunsManyIndexed W g c x r rs s y
    → (r ≡ checked 4 p)
    ↔ (ListFits c × AllSizesFit W g (whole c) x × EntriesGood W (whole c) × Lowest (good_node c.store) c.mark p)

-- Answers 10 and 11 with their places: a signature is lent, and the place is the lowest entry, or node, that does not obey it.
abbrev pub RefusesDisobeyingEntryMany : ℕ → Type 0
RefusesDisobeyingEntryMany W =
    (g : List ℕ) (c : Module) (x : List ℕ) (r : Checked) (rs s y : List ℕ) (p : ℕ) → RunsManyIndexed W (some g) c x r rs s y
    → (r ≡ checked 10 p)
    ↔ (ListFits c × AllSizesFit W (some g) (whole c) x × EntriesGood W (whole c) × NodesGood (whole c)
    × Lowest (entry_obeys g c.table) (rows c.table) p)

abbrev pub RefusesDisobeyingNodeMany : ℕ → Type 0
RefusesDisobeyingNodeMany W =
    (g : List ℕ) (c : Module) (x : List ℕ) (r : Checked) (rs s y : List ℕ) (p : ℕ) → RunsManyIndexed W (some g) c x r rs s y
    → (r ≡ checked 11 p)
    ↔ (ListFits c × AllSizesFit W (some g) (whole c) x × EntriesGood W (whole c) × NodesGood (whole c) × EntriesObey g (whole c)
    × Lowest (node_obeys g c.store) c.mark p)

-- Answer 21 with its place: all of that is so, and the place is the lowest node below the first mark that has an earlier one's words.
abbrev pub RefusesTwinMany : ℕ → Type 0
RefusesTwinMany W =
    (g : Option (List ℕ)) (c : Module) (x : List ℕ) (r : Checked) (rs s y : List ℕ) (p : ℕ) → RunsManyIndexed W g c x r rs s y
    → (r ≡ checked 21 p) ↔ (ListFits c × WordsGood W g (whole c) x × LowestTwin c.store c.mark p)

-- Answer 5: no two nodes below the first mark have the same words, and the start, a subject or a binding does not fit.
abbrev pub RefusesStartMany : ℕ → Type 0
RefusesStartMany W =
    (g : Option (List ℕ)) (c : Module) (x : List ℕ) (r : Checked) (rs s y : List ℕ) → RunsManyIndexed W g c x r rs s y
    → (r.answer ≡ 5) ↔ (ListFits c × WordsGood W g (whole c) x × Distinct c.store c.mark × (StartsFit c → ⊥))

-- Answer 0: all of it is so.
abbrev pub AcceptsMany : ℕ → Type 0
AcceptsMany W =
    (g : Option (List ℕ)) (c : Module) (x : List ℕ) (r : Checked) (rs s y : List ℕ) → RunsManyIndexed W g c x r rs s y
    → (r ≡ checked 0 0) ↔ (ListFits c × WordsGood W g (whole c) x × Distinct c.store c.mark × StartsFit c)

-- A refusal writes nothing, in the index too.
abbrev pub WritesNothingMany : ℕ → Type 0
WritesNothingMany W =
    (g : Option (List ℕ)) (c : Module) (x : List ℕ) (r : Checked) (rs s y : List ℕ) → RunsManyIndexed W g c x r rs s y
    → (r.answer ≡ 0 → ⊥) → (r ≡ indexed_many_refused_by W g c x) × (rs ≡ c.results) × (s ≡ c.store) × (y ≡ x)

-- ---- answer 21

-- It is given for nothing else: not where no two nodes below the mark have the same words, and not by a run or a call over many subjects
-- without an index.
pub record NoTwinNo21 (W : ℕ) : Type 0 where
  pub indexed : (g : Option (List ℕ)) (i : Input) (x : List ℕ) (o : Outcome) (s b y : List ℕ)
      → RunsIndexed W g i x o s b y → Distinct i.store i.mark → o.answer ≢ 21
  pub indexed-many : (g : Option (List ℕ)) (c : Module) (x : List ℕ) (r : Checked) (rs s y : List ℕ)
      → RunsManyIndexed W g c x r rs s y → Distinct c.store c.mark → r.answer ≢ 21
  pub run : (g : Option (List ℕ)) (i : Input) (o : Outcome) (s b : List ℕ) → at_return o s b ≡ run_with_by W g i → o.answer ≢ 21
  pub many : (g : Option (List ℕ)) (c : Module) (r : Checked) (rs s : List ℕ) → RunsMany W g c r rs s → r.answer ≢ 21
