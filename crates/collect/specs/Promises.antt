-- What the contract of `collect` promises, in the reader's words. Its contract is `Collects` of what it was handed and what came
-- back; each statement below holds of everything that meets it. Each is proved in proofs/Promises.antt, under its name in small
-- letters.
use Rattle.std.specs.Prelude.{◌≡◌, true, ◌↔◌, ◌⊎◌, List, ℕ, ◌*◌, ◌≤◌, ◌<◌, length, get_or}
use Rattle.words.specs.Words.{rows}
use Rattle.checks.specs.Kinds.{ours, variables_by}
use Rattle.checks.specs.Good.{constructor_of, child_count, child, good_node}
use Rattle.checks.specs.Plain.{StoreLength}
use Rattle.checks.specs.Promises.{AllGood, Lowest}
use Rattle.meaning.specs.Derivation.{Notes}
use Rattle.meaning.specs.Store.{Input, AcceptedBy, ran_by, value, term, meant, bindings}
use Rattle.meaning.specs.Lower.{Again}
use Rattle.collect.specs.Reachable.{Reachable}
use Rattle.collect.specs.Packed.{rank}
use Rattle.collect.specs.Refused.{Lent, CollectableBy}
use Rattle.collect.specs.Collected.{Afterwards, lent, keeps, collected_of_by}

-- r meets the contract
abbrev pub CollectsBy : ℕ → Lent → Afterwards → Type 0
CollectsBy W i r = r ≡ collected_of_by W i

abbrev pub Collects : Lent → Afterwards → Type 0
Collects = CollectsBy ours

-- Two outcomes that meet the contract agree, in every number and every word.
abbrev pub Agreeing : Type 0
Agreeing = (W : ℕ) (i : Lent) (r r' : Afterwards) → CollectsBy W i r → CollectsBy W i r' → r ≡ r'

-- The answer is 0, 2, 4 or 5.
abbrev pub Listed : Type 0
Listed = (W : ℕ) (i : Lent) (r : Afterwards) → CollectsBy W i r → (r.answer ≡ 0) ⊎ (r.answer ≡ 2) ⊎ (r.answer ≡ 4) ⊎ (r.answer ≡ 5)

-- ---- which refusal is given, both ways

-- what document 01 asks of the sizes, and wish 7 of the work list's
pub record SizesFitBy (W : ℕ) (i : Lent) : Type 0 where
  pub store : StoreLength (length i.store)
  pub bindings : length i.bindings ≡ variables_by W
  pub mark : i.mark ≤ rows i.store
  pub work : rows i.store ≤ length i.work

-- every node below the mark is good
abbrev pub NodesGood : Lent → Type 0
NodesGood i = AllGood (good_node i.store) i.mark

-- what document 01 asks of the start, without the table
pub record StartFits (i : Lent) : Type 0 where
  pub subject : i.subject < i.mark
  pub bound : (v : ℕ) → get_or i.bindings v 0 ≤ i.mark

-- Answer 2: the sizes do not fit.
abbrev pub RefusesSizes : Type 0
RefusesSizes = (W : ℕ) (i : Lent) (r : Afterwards) → CollectsBy W i r → (r.answer ≡ 2) ↔ (SizesFitBy W i → ⊥)

-- Answer 4 with its place: the sizes fit, and the place is the lowest bad node below the mark.
abbrev pub RefusesNode : Type 0
RefusesNode =
    (W : ℕ) (i : Lent) (r : Afterwards) (p : ℕ) → CollectsBy W i r
    → ((r.answer ≡ 4) × (r.place ≡ p)) ↔ (SizesFitBy W i × Lowest (good_node i.store) i.mark p)

-- Answer 5: the sizes fit, every node below the mark is good, and the start does not fit.
abbrev pub RefusesStart : Type 0
RefusesStart = (W : ℕ) (i : Lent) (r : Afterwards) → CollectsBy W i r → (r.answer ≡ 5) ↔ (SizesFitBy W i × NodesGood i × (StartFits i → ⊥))

-- Every other answer has place 0.
abbrev pub NoPlace : Type 0
NoPlace = (W : ℕ) (i : Lent) (r : Afterwards) → CollectsBy W i r → (r.answer ≡ 4 → ⊥) → r.place ≡ 0

-- Answer 0: it is collectable, which is all of the above.
abbrev pub CollectsRest : Type 0
CollectsRest = (W : ℕ) (i : Lent) (r : Afterwards) → CollectsBy W i r → (r.answer ≡ 0) ↔ CollectableBy W i

abbrev pub CollectablePlain : Type 0
CollectablePlain = (W : ℕ) (i : Lent) → CollectableBy W i ↔ (SizesFitBy W i × NodesGood i × StartFits i)

-- ---- what comes back

-- what a refusal gives back: subject and mark as given, and every word as lent
pub record AsGiven (i : Lent) (r : Afterwards) : Type 0 where
  pub subject : r.subject ≡ i.subject
  pub mark : r.mark ≡ i.mark
  pub store : r.store ≡ i.store
  pub bindings : r.bindings ≡ i.bindings
  pub work : r.work ≡ i.work

-- A refusal writes nothing.
abbrev pub WritesNothing : Type 0
WritesNothing = (W : ℕ) (i : Lent) (r : Afterwards) → CollectsBy W i r → (CollectableBy W i → ⊥) → AsGiven i r

-- the new number of node k
abbrev pub number : Lent → ℕ → ℕ
number i k = rank (keeps i) k

-- The nodes kept are just those reachable from the subject and the bound variables.
abbrev pub KeepsReachable : Type 0
KeepsReachable = (W : ℕ) (i : Lent) → CollectableBy W i → (k : ℕ) → keeps i k ≡ true ↔ Reachable i.store i.bindings i.subject k

-- what stands at the new number of node k: its constructor, its child count, and its children's new numbers
pub record Moves (i : Lent) (r : Afterwards) (k : ℕ) : Type 0 where
  pub below : number i k < r.mark
  pub constructor : constructor_of r.store (number i k) ≡ constructor_of i.store k
  pub count : child_count r.store (number i k) ≡ child_count i.store k
  pub child : (j : ℕ) → j < child_count i.store k → child r.store (number i k) j ≡ number i (child i.store k j)
  pub same : term r.store (number i k) ≡ term i.store k

-- Nothing reachable is lost: each such node stands at its new number, with an equal term.
abbrev pub LosesNone : Type 0
LosesNone =
    (W : ℕ) (i : Lent) (r : Afterwards) → CollectableBy W i → CollectsBy W i r
    → (k : ℕ) → Reachable i.store i.bindings i.subject k → Moves i r k

-- Nothing else is kept, and there are no gaps: each number below the new mark is that of a reachable node.
abbrev pub KeepsNoOther : Type 0
KeepsNoOther =
    (W : ℕ) (i : Lent) (r : Afterwards) → CollectableBy W i → CollectsBy W i r
    → (n : ℕ) → n < r.mark → (k : ℕ) × Reachable i.store i.bindings i.subject k × (number i k ≡ n)

-- The order is the old one.
abbrev pub KeepsOrder : Type 0
KeepsOrder =
    (W : ℕ) (i : Lent) → CollectableBy W i → (j k : ℕ) → Reachable i.store i.bindings i.subject j → j < k → number i j < number i k

-- The mark is never higher.
abbrev pub MarkFalls : Type 0
MarkFalls = (W : ℕ) (i : Lent) (r : Afterwards) → CollectsBy W i r → r.mark ≤ i.mark

-- The store is as long as it was, and zero from the new mark to its end; the work list is as long as it was, and zero.
abbrev pub Clears : Type 0
Clears =
    (W : ℕ) (i : Lent) (r : Afterwards) → CollectableBy W i → CollectsBy W i r
    → (length r.store ≡ length i.store) × ((j : ℕ) → 8 * r.mark ≤ j → get_or r.store j 0 ≡ 0)
    × (length r.work ≡ length i.work) × ((j : ℕ) → get_or r.work j 0 ≡ 0)

-- Subject and bindings name terms equal to those before.
abbrev pub SameTerms : Type 0
SameTerms =
    (W : ℕ) (i : Lent) (r : Afterwards) → CollectableBy W i → CollectsBy W i r
    → (term r.store r.subject ≡ term i.store i.subject)
    × (meant r.store (bindings r.bindings) ≡ meant i.store (bindings i.bindings))

-- What is left is not refused: the store passes the check with the new mark, and subject and bindings are below it.
abbrev pub CollectableAgain : Type 0
CollectableAgain =
    (W : ℕ) (i : Lent) (r : Afterwards) → CollectableBy W i → CollectsBy W i r
    → CollectableBy W (lent r.store r.bindings r.work r.mark r.subject)

-- what is handed to a run, of which a collection is lent the store, the bindings, the mark and the subject
abbrev pub lent_by : Input → List ℕ → Lent
lent_by i w = lent i.store i.bindings w i.mark i.subject

-- the same after the collection
abbrev pub after : Input → Afterwards → Input
after i r = record { table = i.table; store = r.store; bindings = r.bindings; mark = r.mark; start = i.start; subject = r.subject; units = i.units }

-- A run that is accepted before the collection is accepted after it. One that is done is done again with an equal term and equal
-- bindings, one that failed fails again, and both with the same units and the same notes.
abbrev pub RunsAgain : Type 1
RunsAgain =
    (W : ℕ) (N : Type 0) (Λ : Notes N) (n : N) (i : Input) (w : List ℕ) (r : Afterwards)
    → AcceptedBy W i → rows i.store ≤ length w → CollectsBy W (lent_by i w) r
    → AcceptedBy W (after i r) × Again (value (ran_by W Λ n i)) (value (ran_by W Λ n (after i r)))
