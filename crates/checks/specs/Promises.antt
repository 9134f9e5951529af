-- What the two checks promise, as types. Each is proved in proofs/Promises.antt under its name.
use Rattle.std.specs.Prelude.{◌≡◌, Bool, true, false, ◌≢◌, ◌↔◌, List, ℕ, ◌≤◌, ◌<◌, length, Result}
use Rattle.words.specs.Words.{rows}
use Rattle.checks.specs.declared.refusal.Refusal.{Refusal}
use Rattle.checks.specs.Checked.{Checked}
use Rattle.checks.specs.Good.{fault_by, good_entry_by, good_node}
use Rattle.checks.specs.Plain.{TableLength, StoreLength, EntryBy, FaultyBy, Node}
use Rattle.checks.specs.Checked.{checked, table_checked_by, store_checked}
use Rattle.checks.specs.Numbers.{checked_of}
use Rattle.checks.specs.Signature.{signature_fits, entry_obeys, node_obeys, entries_checked, nodes_checked, Signature, EntryObeys, NodeObeys}

-- every number below n is good
abbrev pub AllGood : (ℕ → Bool) → ℕ → Type 0
AllGood good n = (k : ℕ) → k < n → good k ≡ true

-- p is the lowest number below n that is not good
pub record Lowest (good : ℕ → Bool) (n p : ℕ) : Type 0 where
  pub inside : p < n
  pub bad : good p ≡ false
  pub before : AllGood good p

-- the answers of the table check
pub data TableAnswer : ℕ → Type 0 where
  passed : TableAnswer 0
  length-bad : TableAnswer 2
  entry-bad : (n : ℕ) → 12 < n → n < 18 → TableAnswer n

-- answer 0: the length fits, and every entry is good
abbrev pub table_passes : Type 0
table_passes = (W : ℕ) (t : List ℕ) → (table_checked_by W t).answer ≡ 0 ↔ TableLength (length t) × AllGood (good_entry_by W t) (rows t)

-- an answer from 13 on with its place: the length fits, the place is the lowest bad entry, and the answer is its first fault
abbrev pub table_rejects : Type 0
table_rejects =
    (W : ℕ) (t : List ℕ) (n p : ℕ) → 12 < n
    → table_checked_by W t ≡ checked n p ↔ TableLength (length t) × (Lowest (good_entry_by W t) (rows t) p × FaultyBy W t p n)

-- no other answer is given; 3 is not
abbrev pub table_answers : Type 0
table_answers = (W : ℕ) (t : List ℕ) → TableAnswer (table_checked_by W t).answer

abbrev pub never_three : Type 0
never_three = (W : ℕ) (t s : List ℕ) (mark : ℕ) → ((table_checked_by W t).answer ≢ 3) × ((store_checked s mark).answer ≢ 3)

-- answer 2: the length does not fit
abbrev pub table_refuses : Type 0
table_refuses = (W : ℕ) (t : List ℕ) → table_checked_by W t ≡ checked 2 0 ↔ ¬ TableLength (length t)

-- the length fits, and the mark is at most the store's nodes
abbrev pub StoreFits : List ℕ → ℕ → Type 0
StoreFits s mark = StoreLength (length s) × (mark ≤ rows s)

-- answer 0: the length and the mark fit, and every node below the mark is good
abbrev pub store_passes : Type 0
store_passes = (s : List ℕ) (mark : ℕ) → (store_checked s mark).answer ≡ 0 ↔ StoreFits s mark × AllGood (good_node s) mark

-- answer 4 with its place: the length and the mark fit, and the place is the lowest bad node below the mark
abbrev pub store_rejects : Type 0
store_rejects =
    (s : List ℕ) (mark p : ℕ) → store_checked s mark ≡ checked 4 p ↔ StoreFits s mark × Lowest (good_node s) mark p

-- answer 2: the length or the mark does not fit
abbrev pub store_refuses : Type 0
store_refuses = (s : List ℕ) (mark : ℕ) → store_checked s mark ≡ checked 2 0 ↔ ¬ StoreFits s mark

-- two outcomes of the table check that satisfy its contract agree
abbrev pub table_agrees : Type 0
table_agrees = (W : ℕ) (t : List ℕ) (r r' : Checked) → r ≡ table_checked_by W t → r' ≡ table_checked_by W t → r ≡ r'

-- two outcomes of the store check that satisfy its contract agree
abbrev pub store_agrees : Type 0
store_agrees =
    (s : List ℕ) (mark : ℕ) (r r' : Checked) → r ≡ store_checked s mark → r' ≡ store_checked s mark → r ≡ r'

-- the documents' numbers tell the results of a check apart: two with the same answer and place are the same
abbrev pub numbers_tell : Type 0
numbers_tell = (r r' : Result Unit Refusal) → checked_of r ≡ checked_of r' → r ≡ r'

-- a fault is the plain facts, and all before it is right
abbrev pub fault_plain : Type 0
fault_plain = (W : ℕ) (t : List ℕ) (e n : ℕ) → 0 < n → fault_by W t e ≡ n ↔ FaultyBy W t e n

-- a good entry is the plain facts
abbrev pub entry_plain : Type 0
entry_plain = (W : ℕ) (t : List ℕ) (e : ℕ) → good_entry_by W t e ≡ true ↔ EntryBy W t e

-- a good node is the plain facts
abbrev pub node_plain : Type 0
node_plain = (s : List ℕ) (k : ℕ) → good_node s k ≡ true ↔ Node s k

-- ---- a signature

-- a signature that fits, an entry and a node that obey it are the plain facts
abbrev pub signature_plain : Type 0
signature_plain = (g : List ℕ) → signature_fits g ≡ true ↔ Signature g

abbrev pub entry_obeys_plain : Type 0
entry_obeys_plain = (g t : List ℕ) (e : ℕ) → entry_obeys g t e ≡ true ↔ EntryObeys g t e

abbrev pub node_obeys_plain : Type 0
node_obeys_plain = (g s : List ℕ) (k : ℕ) → node_obeys g s k ≡ true ↔ NodeObeys g s k

-- answer 0: every entry obeys; 10 with its place: the lowest that does not
abbrev pub entries_pass : Type 0
entries_pass = (g t : List ℕ) → ((entries_checked g t).answer ≡ 0) ↔ AllGood (entry_obeys g t) (rows t)

abbrev pub entries_reject : Type 0
entries_reject = (g t : List ℕ) (p : ℕ) → (entries_checked g t ≡ checked 10 p) ↔ Lowest (entry_obeys g t) (rows t) p

-- answer 0: every node below the mark obeys; 11 with its place: the lowest that does not
abbrev pub nodes_pass : Type 0
nodes_pass = (g s : List ℕ) (mark : ℕ) → ((nodes_checked g s mark).answer ≡ 0) ↔ AllGood (node_obeys g s) mark

abbrev pub nodes_reject : Type 0
nodes_reject = (g s : List ℕ) (mark p : ℕ) → (nodes_checked g s mark ≡ checked 11 p) ↔ Lowest (node_obeys g s) mark p
