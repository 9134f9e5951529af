-- The promises of specs/Promises.antt, each under its name. Both checks are one search behind one test; the table check's
-- answer is the fault of the entry found.
-- Assumes nothing.
use mathlib.Core.Path.{◌≡◌, refl, ap, sym, ◌∙◌}
use mathlib.Core.Bool.{Bool, true, false, ◌&&◌, true≢false, false≢true}
use mathlib.Core.Logic.{◌≢◌, ◌↔◌}
use mathlib.Core.List.{List}
use mathlib.Core.Option.{Option, none, some}
use Prim.Native.Nat.{ℕ, ◌<◌}
use native.Mathlib.Omega.{arith}
use lib.Dec.{leb}
use lib.ListN.{length}
use borrow.Author.Tests.{leb-true, le-leb}
use Rattle.std.specs.Prelude.{if◌then◌else◌}
use Rattle.words.specs.Tests.{rejected}
use Rattle.words.specs.Words.{rows}
use Rattle.words.proofs.Tests.{First, and-true, rejected-none, rejected-some}
use Rattle.checks.specs.Checked.{Checked}
use Rattle.checks.specs.Good.{fault_by, good_entry_by, good_node}
use Rattle.checks.specs.Plain.{FaultyBy}
use Rattle.checks.specs.Checked.{checked, found, faulted_by, table_length_fits, store_length_fits, table_checked_by, store_checked}
use Rattle.checks.specs.Promises as promises
use Rattle.checks.specs.Promises.{AllGood, Lowest, StoreFits, TableAnswer, passed, length-bad, entry-bad}
use Rattle.checks.proofs.Numbering.{results-apart}
use Rattle.checks.proofs.Good.{not-fact, faulty-within, fault-plain, good_entry-plain, bad-fault, good_node-plain, table_length_fits-plain, store_length_fits-plain}

module _ (good : ℕ → Bool) (n : ℕ) where
  -- The search finds nothing where all are good.
  pub none-good : rejected good 0 n ≡ none ↔ AllGood good n
  none-good = (
    λ e k l. (rejected-none good 0 n).0 e k (omega arith) (omega arith),
    λ h. (rejected-none good 0 n).1 (λ k l m. h k (omega arith)),
  )

  -- The search finds the lowest that is not good.
  pub some-lowest : (p : ℕ) → rejected good 0 n ≡ some p ↔ Lowest good n p
  some-lowest p = (
    λ e.
        let f : First good 0 n p = (rejected-some good 0 n p).0 e in
        record { inside = omega arith; bad = f.rejects; before = λ k l. f.before k (omega arith) l },
    λ l.
        (rejected-some good 0 n p).1
        record { from = omega arith; below = omega (arith, l.inside); rejects = l.bad; before = λ k m o. l.before k o },
  )

-- One search behind one test b, with the answer a where a bad number is found.
outcome : Bool → ℕ → Option ℕ → Checked
outcome b a o = if b then found a o else checked 2 0

module _ (a : ℕ) (above : 2 < a) where
  -- Answer 0: the test holds, and nothing is found.
  passes : (b : Bool) (o : Option ℕ) → (outcome b a o).answer ≡ 0 ↔ (b ≡ true) × (o ≡ none)
  unfolding outcome
  passes true none = (λ e. (refl, refl), λ e. refl)
  passes true (some k) = (λ e. absurd (omega arith), λ e. let q : ◌≡◌ {A = ℕ} 0 1 = cc e.1 in absurd (omega arith))
  passes false o = (λ e. absurd (omega arith), λ e. absurd (false≢true e.0))

  -- Answer a with its place: the test holds, and the place is found.
  rejects : (b : Bool) (o : Option ℕ) (p : ℕ) → outcome b a o ≡ checked a p ↔ (b ≡ true) × (o ≡ some p)
  unfolding outcome
  rejects true none p = (
    λ e. absurd (omega (arith, ap (λ (r : Checked). r.answer) e)),
    λ e. let q : ◌≡◌ {A = ℕ} 0 1 = cc e.1 in absurd (omega arith),
  )
  rejects true (some k) p =
      (λ e. (refl, ap some (ap (λ (r : Checked). r.place) e)), λ e. ap (checked a) (let q : k ≡ p = cc e.1 in q))
  rejects false o p = (λ e. absurd (omega (arith, ap (λ (r : Checked). r.answer) e)), λ e. absurd (false≢true e.0))

  -- Answer 2: the test fails.
  refuses : (b : Bool) (o : Option ℕ) → outcome b a o ≡ checked 2 0 ↔ b ≡ false
  unfolding outcome
  refuses true none = (
    λ e. let q : ◌≡◌ {A = ℕ} 0 2 = ap (λ (r : Checked). r.answer) e in absurd (omega arith),
    λ e. absurd (true≢false e),
  )
  refuses true (some k) = (λ e. absurd (omega (arith, ap (λ (r : Checked). r.answer) e)), λ e. absurd (true≢false e))
  refuses false o = (λ e. refl, λ e. refl)

-- A pair of facts in other words.
in_words : {A B C B' C' : Type 0} → A ↔ B × C → B ↔ B' → C ↔ C' → A ↔ B' × C'
in_words f g h = (λ x. (g.0 (f.0 x).0, h.0 (f.0 x).1), λ y. f.1 (g.1 y.0, h.1 y.1))

-- Two facts in other words, side by side.
both : {A B A' B' : Type 0} → A ↔ A' → B ↔ B' → A × B ↔ A' × B'
both f g = (λ p. (f.0 p.0, g.0 p.1), λ p. (f.1 p.0, g.1 p.1))

-- What a check of n numbers promises, where its test b stands for the fact Fits.
module _ (good : ℕ → Bool) (n a : ℕ) (above : 2 < a) (b : Bool) (Fits : Type 0) (fits : b ≡ true ↔ Fits) where
  check-passes : (outcome b a (rejected good 0 n)).answer ≡ 0 ↔ Fits × AllGood good n
  check-passes = in_words (passes a above b (rejected good 0 n)) fits (none-good good n)

  check-rejects : (p : ℕ) → outcome b a (rejected good 0 n) ≡ checked a p ↔ Fits × Lowest good n p
  check-rejects p = in_words (rejects a above b (rejected good 0 n) p) fits (some-lowest good n p)

  check-refuses : outcome b a (rejected good 0 n) ≡ checked 2 0 ↔ ¬ Fits
  check-refuses = (
    λ e. (not-fact b fits).0 ((refuses a above b (rejected good 0 n)).0 e),
    λ h. (refuses a above b (rejected good 0 n)).1 ((not-fact b fits).1 h),
  )

-- ---- the table check: the answer is the fault of the entry found

-- what the table check answers
pub data Known : Checked → Type 0 where
  passes-all : Known (checked 0 0)
  refuses-length : Known (checked 2 0)
  rejects-at : (n p : ℕ) → 12 < n → n < 18 → Known (checked n p)

-- The search's outcome decides, behind the test of the length.
table-outcome : ℕ → Bool → List ℕ → Option ℕ → Checked
table-outcome W b t o = if b then faulted_by W t o else checked 2 0

module _ (W : ℕ) (t : List ℕ) where
  -- what the search says of the table t
  abbrev Search : Option ℕ → Type 0
  Search o = rejected (good_entry_by W t) 0 (rows t) ≡ o

  -- the fault of an entry that was found is one of 13 to 17
  found-fault : (e : ℕ) → Search (some e) → FaultyBy W t e (fault_by W t e)
  found-fault e q = bad-fault W t e ((some-lowest (good_entry_by W t) (rows t) e).0 q).bad

  found-above : (e : ℕ) → Search (some e) → 12 < fault_by W t e
  found-above e q = (faulty-within W t e (fault_by W t e) (found-fault e q)).0

  table-passes : (b : Bool) (o : Option ℕ) → Search o → (table-outcome W b t o).answer ≡ 0 ↔ (b ≡ true) × (o ≡ none)
  unfolding table-outcome
  table-passes true none q = (λ e. (refl, refl), λ e. refl)
  table-passes true (some k) q = (λ e. absurd (omega (arith, found-above k q)), λ e. let q : ◌≡◌ {A = ℕ} 0 1 = cc e.1 in absurd (omega arith))
  table-passes false o q = (λ e. absurd (omega arith), λ e. absurd (false≢true e.0))

  table-rejects : (n p : ℕ) → 12 < n → (b : Bool) (o : Option ℕ) → Search o
      → table-outcome W b t o ≡ checked n p ↔ (b ≡ true) × ((o ≡ some p) × (fault_by W t p ≡ n))
  unfolding table-outcome
  table-rejects n p l true none q = (
    λ e. absurd (omega (arith, ap (λ (r : Checked). r.answer) e)),
    λ e. let q : ◌≡◌ {A = ℕ} 0 1 = cc e.1.0 in absurd (omega arith),
  )
  table-rejects n p l true (some k) q = (
    λ e.
        let z : k ≡ p = ap (λ (r : Checked). r.place) e in
        (refl, (ap some z, ap (fault_by W t) (sym z) ∙ ap (λ (r : Checked). r.answer) e)),
    λ e. let z : k ≡ p = cc e.1.0 in ap (λ (m : ℕ). checked (fault_by W t m) m) z ∙ ap (λ (m : ℕ). checked m p) e.1.1,
  )
  table-rejects n p l false o q = (λ e. absurd (omega (arith, ap (λ (r : Checked). r.answer) e)), λ e. absurd (false≢true e.0))

  table-refuses : (b : Bool) (o : Option ℕ) → Search o → table-outcome W b t o ≡ checked 2 0 ↔ b ≡ false
  unfolding table-outcome
  table-refuses true none q = (
    λ e. let q : ◌≡◌ {A = ℕ} 0 2 = ap (λ (r : Checked). r.answer) e in absurd (omega arith),
    λ e. absurd (true≢false e),
  )
  table-refuses true (some k) q = (λ e. absurd (omega (arith, found-above k q, ap (λ (r : Checked). r.answer) e)), λ e. absurd (true≢false e))
  table-refuses false o q = (λ e. refl, λ e. refl)

  known-outcome : (b : Bool) (o : Option ℕ) → Search o → Known (table-outcome W b t o)
  unfolding table-outcome
  known-outcome true none q = passes-all
  known-outcome true (some k) q = let w = faulty-within W t k (fault_by W t k) (found-fault k q) in rejects-at (fault_by W t k) k w.0 w.1
  known-outcome false o q = refuses-length

pub table_passes : promises.table_passes
unfolding table_checked_by table-outcome
table_passes W t = in_words (table-passes W t _ _ refl) (table_length_fits-plain (length t)) (none-good (good_entry_by W t) (rows t))

pub table_rejects : promises.table_rejects
unfolding table_checked_by table-outcome
table_rejects W t n p l =
    in_words (table-rejects W t n p l _ _ refl) (table_length_fits-plain (length t))
    (both (some-lowest (good_entry_by W t) (rows t) p) (fault-plain W t p n (omega arith)))

pub table_refuses : promises.table_refuses
unfolding table_checked_by table-outcome
table_refuses W t =
    let f = table-refuses W t (table_length_fits (length t)) _ refl in
    let g = not-fact _ (table_length_fits-plain (length t)) in
    (λ e. g.0 (f.0 e), λ h. f.1 (g.1 h))

pub known : (W : ℕ) (t : List ℕ) → Known (table_checked_by W t)
unfolding table_checked_by table-outcome
known W t = known-outcome W t (table_length_fits (length t)) _ refl

pub table_answers : promises.table_answers
table_answers W t = go (known W t)
  where
    go : {c : Checked} → Known c → TableAnswer c.answer
    go passes-all = passed
    go refuses-length = length-bad
    go (rejects-at n p l m) = entry-bad n l m

-- The store's test stands for its fact.
store-fits : (s : List ℕ) (mark : ℕ) → store_length_fits (length s) && leb mark (rows s) ≡ true ↔ StoreFits s mark
store-fits s mark = (
  λ h.
      let a : (store_length_fits (length s) ≡ true) × _ = and-true _ _ h in
      ((store_length_fits-plain (length s)).0 a.0, leb-true _ _ a.1),
  λ p. rw ((store_length_fits-plain (length s)).1 p.0, le-leb _ _ p.1),
)

pub store_passes : promises.store_passes
unfolding store_checked outcome
store_passes s mark = check-passes (good_node s) mark 4 (omega arith) _ _ (store-fits s mark)

pub store_rejects : promises.store_rejects
unfolding store_checked outcome
store_rejects s mark = check-rejects (good_node s) mark 4 (omega arith) _ _ (store-fits s mark)

pub store_refuses : promises.store_refuses
unfolding store_checked outcome
store_refuses s mark = check-refuses (good_node s) mark 4 (omega arith) _ _ (store-fits s mark)

-- no answer of the table check is 3, and none of the store check
table-not-three : (n : ℕ) → TableAnswer n → n ≢ 3
table-not-three n passed q = omega arith
table-not-three n length-bad q = omega arith
table-not-three n (entry-bad m l h) q = omega arith

store-not-three : (b : Bool) (o : Option ℕ) → (outcome b 4 o).answer ≢ 3
unfolding outcome
store-not-three true none q = omega arith
store-not-three true (some k) q = omega arith
store-not-three false o q = omega arith

pub never_three : promises.never_three
unfolding store_checked outcome
never_three W t s mark = (table-not-three _ (table_answers W t), store-not-three (store_length_fits (length s) && leb mark (rows s)) (rejected (good_node s) 0 mark))

pub table_agrees : promises.table_agrees
table_agrees W t r r' e f = e ∙ sym f

pub store_agrees : promises.store_agrees
store_agrees s mark r r' e f = e ∙ sym f

pub numbers_tell : promises.numbers_tell
numbers_tell = results-apart

pub fault_plain : promises.fault_plain
fault_plain = fault-plain

pub entry_plain : promises.entry_plain
entry_plain = good_entry-plain

pub node_plain : promises.node_plain
node_plain = good_node-plain
