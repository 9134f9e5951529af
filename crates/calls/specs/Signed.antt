-- What the contract of `run` promises of a run that is lent a signature, in the reader's words. Each statement holds of
-- everything that meets the contract, and is proved in proofs/Signed.antt under its name.
use Rattle.std.specs.Prelude.{◌≡◌, ◌≢◌, ◌↔◌, List, ℕ, ◌≤◌, ◌<◌}
use Rattle.std.proofs.Math.Option.{some}
use Rattle.words.specs.Words.{rows}
use Rattle.checks.specs.Good.{good_entry_by, good_node}
use Rattle.checks.specs.Plain.{FaultyBy}
use Rattle.checks.specs.Signature.{Signature, entry_obeys, node_obeys}
use Rattle.checks.specs.Promises.{AllGood, Lowest}
use Rattle.meaning.specs.Store.{Input, AcceptedBy}
use Rattle.calls.specs.Run.{at_return, run_with_by}
use Rattle.calls.specs.Promises.{Runs, Refusal, InList, AsGiven, SizesFit, EntriesGood, NodesGood, StartFits}
use Rattle.calls.specs.Outcome.{Outcome}

-- with the signature g the outcome o, the store's words s and the bindings' words b meet the contract
abbrev pub RunsSigned : ℕ → List ℕ → Input → Outcome → List ℕ → List ℕ → Type 0
RunsSigned W g i o s b = at_return o s b ≡ run_with_by W (some g) i

-- Two outcomes that meet the contract agree, in every number and every word.
abbrev pub Agreeing : ℕ → Type 0
Agreeing W = (g : List ℕ) (i : Input) (o o' : Outcome) (s s' b b' : List ℕ) → RunsSigned W g i o s b → RunsSigned W g i o' s' b' → (o ≡ o') × (s ≡ s') × (b ≡ b')

-- every entry obeys, used or not; every node below the mark obeys, reachable or not
abbrev pub EntriesObey : List ℕ → Input → Type 0
EntriesObey g i = AllGood (entry_obeys g i.table) (rows i.table)

abbrev pub NodesObey : List ℕ → Input → Type 0
NodesObey g i = AllGood (node_obeys g i.store) i.mark

-- what the signature asks
pub record Obeying (g : List ℕ) (i : Input) : Type 0 where
  pub signature : Signature g
  pub entries : EntriesObey g i
  pub nodes : NodesObey g i

-- Where the signature is obeyed, the outcome is that of the run without one: what is promised of that run is promised of this.
abbrev pub RunsAsWithout : ℕ → Type 0
RunsAsWithout W = (g : List ℕ) (i : Input) (o : Outcome) (s b : List ℕ) → Obeying g i → RunsSigned W g i o s b → Runs W i o s b

-- the answers of a refusal, and all answers
pub data SignedRefusal : ℕ → Type 0 where
  as-without : {n : ℕ} → Refusal n → SignedRefusal n
  of-disobeying-entry : SignedRefusal 10
  of-disobeying-node : SignedRefusal 11

pub data SignedInList : ℕ → Type 0 where
  listed-without : {n : ℕ} → InList n → SignedInList n
  when-refused : {n : ℕ} → SignedRefusal n → SignedInList n

abbrev pub Listed : ℕ → Type 0
Listed W = (g : List ℕ) (i : Input) (o : Outcome) (s b : List ℕ) → RunsSigned W g i o s b → SignedInList o.answer

-- What does not obey, or is malformed, and no other, is refused; then nothing is written and no units are used.
abbrev pub Refuses : ℕ → Type 0
Refuses W = (g : List ℕ) (i : Input) (o : Outcome) (s b : List ℕ) → RunsSigned W g i o s b → SignedRefusal o.answer ↔ (Obeying g i → AcceptedBy W i → ⊥)

abbrev pub WritesNothing : ℕ → Type 0
WritesNothing W =
    (g : List ℕ) (i : Input) (o : Outcome) (s b : List ℕ) → RunsSigned W g i o s b → SignedRefusal o.answer
    → AsGiven i o b × (s ≡ i.store) × (o.units ≡ 0)

-- ---- which refusal is given, both ways

-- Answer 2: the sizes or the signature do not fit.
abbrev pub RefusesSizes : ℕ → Type 0
RefusesSizes W = (g : List ℕ) (i : Input) (o : Outcome) (s b : List ℕ) → RunsSigned W g i o s b → (o.answer ≡ 2) ↔ (SizesFit W i × Signature g → ⊥)

-- An answer from 13 on with its place: the sizes fit, the place is the lowest bad entry, and the answer is its first fault.
abbrev pub RefusesEntry : ℕ → Type 0
RefusesEntry W =
    (g : List ℕ) (i : Input) (o : Outcome) (s b : List ℕ) (n p : ℕ) → 12 < n → RunsSigned W g i o s b
    → ((o.answer ≡ n) × (o.place ≡ p)) ↔ (SizesFit W i × Signature g × Lowest (good_entry_by W i.table) (rows i.table) p × FaultyBy W i.table p n)

-- Answer 4 with its place: every entry is good, and the place is the lowest bad node below the mark.
abbrev pub RefusesNode : ℕ → Type 0
RefusesNode W =
    (g : List ℕ) (i : Input) (o : Outcome) (s b : List ℕ) (p : ℕ) → RunsSigned W g i o s b
    → ((o.answer ≡ 4) × (o.place ≡ p)) ↔ (SizesFit W i × Signature g × EntriesGood W i × Lowest (good_node i.store) i.mark p)

-- Answer 10 with its place: every entry and every node is good, and the place is the lowest entry that does not obey.
abbrev pub RefusesDisobeyingEntry : ℕ → Type 0
RefusesDisobeyingEntry W =
    (g : List ℕ) (i : Input) (o : Outcome) (s b : List ℕ) (p : ℕ) → RunsSigned W g i o s b
    → ((o.answer ≡ 10) × (o.place ≡ p)) ↔ (SizesFit W i × Signature g × EntriesGood W i × NodesGood i × Lowest (entry_obeys g i.table) (rows i.table) p)

-- Answer 11 with its place: every entry obeys too, and the place is the lowest node below the mark that does not.
abbrev pub RefusesDisobeyingNode : ℕ → Type 0
RefusesDisobeyingNode W =
    (g : List ℕ) (i : Input) (o : Outcome) (s b : List ℕ) (p : ℕ) → RunsSigned W g i o s b
    → ((o.answer ≡ 11) × (o.place ≡ p))
    ↔ (SizesFit W i × Signature g × EntriesGood W i × NodesGood i × EntriesObey g i × Lowest (node_obeys g i.store) i.mark p)

-- Answer 5: all of that is so, and the start does not fit.
abbrev pub RefusesStart : ℕ → Type 0
RefusesStart W =
    (g : List ℕ) (i : Input) (o : Outcome) (s b : List ℕ) → RunsSigned W g i o s b
    → (o.answer ≡ 5) ↔ (SizesFit W i × Signature g × EntriesGood W i × NodesGood i × EntriesObey g i × NodesObey g i × (StartFits i → ⊥))

-- Every answer below 12 but 1, 4, 10 and 11 has place 0.
abbrev pub NoPlace : ℕ → Type 0
NoPlace W =
    (g : List ℕ) (i : Input) (o : Outcome) (s b : List ℕ) → RunsSigned W g i o s b
    → o.answer ≢ 1 → o.answer ≢ 4 → o.answer ≢ 10 → o.answer ≢ 11 → o.answer < 12 → o.place ≡ 0

-- ---- what a run leaves

-- Every node below the returned mark obeys, old and new, where the run was not refused.
abbrev pub LeavesObeying : ℕ → Type 0
LeavesObeying W =
    (g : List ℕ) (i : Input) (o : Outcome) (s b : List ℕ) → RunsSigned W g i o s b → (SignedRefusal o.answer → ⊥)
    → AllGood (node_obeys g s) o.mark
