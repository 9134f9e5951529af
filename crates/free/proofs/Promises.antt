-- The promises of specs/Promises.antt, each under its name.
-- Assumes nothing.
use mathlib.Core.Path.{◌≡◌, refl, ap, sym, ◌∙◌, subst}
use mathlib.Core.Bool.{Bool, true, false, true≢false, false≢true}
use mathlib.Core.Logic.{◌≢◌, ◌↔◌}
use mathlib.Core.List.{List}
use Prim.Native.Nat.{ℕ, ◌≤◌, ◌<◌}
use native.Mathlib.Omega.{arith}
use lib.Dec.{eqb}
use lib.ListN.{length}
use borrow.Author.Tests.{ne_eqb, eqb-true, eqb-false}
use Rattle.std.specs.Prelude.{if◌then◌else◌}
use Rattle.checks.specs.Kinds.{variables_by}
use Rattle.checks.specs.Checked.{Checked}
use Rattle.checks.specs.Checked.{checked, table_checked_by}
use Rattle.checks.proofs.Promises.{Known, passes-all, refuses-length, rejects-at, known}
use Rattle.checks.proofs.Promises as checks
use Rattle.meaning.specs.Bindings.{has}
use Rattle.meaning.proofs.Tests.{decided}
use Rattle.free.specs.Answered.{FreeVariables}
use Rattle.free.specs.Answered.{is_strategy, asked_by, MaskOfBy, AnsweredBy}
use Rattle.free.specs.Promises as promises
use Rattle.meaning.proofs.Bits.{same-mask}
use Rattle.free.proofs.Smallest.{free-below, strategy-plain}

-- two tests that hold together are one
same_test : (a b : Bool) → (a ≡ true → b ≡ true) → (b ≡ true → a ≡ true) → a ≡ b
same_test true b f g = sym (f refl)
same_test false true f g = absurd (false≢true (g refl))
same_test false false f g = refl

-- two masks of the free variables of e are one
masks-agree : (W : ℕ) (t : List ℕ) (e m n : ℕ) → MaskOfBy W t e m → MaskOfBy W t e n → m ≡ n
masks-agree W t e m n a b =
    same-mask (variables_by W) m n a.fits b.fits
    (λ v. same_test (has m v) (has n v) (λ h. (b.free v).1 ((a.free v).0 h)) (λ h. (a.free v).1 ((b.free v).0 h)))

pub agrees : promises.agrees
agrees W t e r r' a b =
    let q : checked r.answer r.place ≡ checked r'.answer r'.place = a.outcome ∙ sym b.outcome in
    let x : r.answer ≡ r'.answer = ap (λ (c : Checked). c.answer) q in
    let y : r.place ≡ r'.place = ap (λ (c : Checked). c.place) q in
    let z : r.mask ≡ r'.mask =
    decided (eqb r.answer 0)
    (λ h.
    let k : r.answer ≡ 0 = eqb-true _ _ h in
    masks-agree W t e r.mask r'.mask (a.mask k) (b.mask (sym x ∙ k)))
    (λ h.
    let k : r.answer ≢ 0 = eqb-false _ _ h in
    a.refused k ∙ sym (b.refused (λ w. k (x ∙ w)))) in
    λ i. record { answer = x i; place = y i; mask = z i }

-- ---- the answers

-- the question's answer and place, of the table check's c and the test s of the entry
outcome : Checked → Bool → Checked
outcome c s = if eqb c.answer 0 then if s then checked 0 0 else checked 5 0 else c

-- a false equation of an answer
answers : {A : Type 0} {c d : Checked} → c ≡ d → (c.answer ≡ d.answer → ⊥) → A
answers e n = absurd (n (ap (λ (c : Checked). c.answer) e))

module _ (s : Bool) where
  -- a refusal of the table is not looked past
  stays : (n p : ℕ) → 12 < n → outcome (checked n p) s ≡ checked n p
  unfolding outcome
  stays n p l = rw (ne_eqb n 0 (λ e. omega (arith, e, l)))

  not-below : {A : Type 0} (n p k : ℕ) → 12 < n → k ≤ 12 → (outcome (checked n p) s).answer ≡ k → A
  not-below n p k l m h = let e : n ≡ k = sym (ap (λ (c : Checked). c.answer) (stays n p l)) ∙ h in absurd (omega arith)

  answer-0 : {c : Checked} → Known c → (outcome c s).answer ≡ 0 ↔ (c.answer ≡ 0) × (s ≡ true)
  unfolding outcome
  answer-0 passes-all = (λ h. (refl, go s h), λ p. rw p.1)
    where
      go : (s : Bool) → (if s then checked 0 0 else checked 5 0).answer ≡ 0 → s ≡ true
      go true h = refl
      go false h = absurd (omega arith)
  answer-0 refuses-length = (λ h. absurd (omega arith), λ p. absurd (omega (arith, p.0)))
  answer-0 (rejects-at n p l m) = (λ h. not-below n p 0 l (omega arith) h, λ q. absurd (omega (arith, q.0)))

  answer-5 : {c : Checked} → Known c → (outcome c s).answer ≡ 5 ↔ (c.answer ≡ 0) × (s ≡ false)
  unfolding outcome
  answer-5 passes-all = (λ h. (refl, go s h), λ p. rw p.1)
    where
      go : (s : Bool) → (if s then checked 0 0 else checked 5 0).answer ≡ 5 → s ≡ false
      go true h = absurd (omega arith)
      go false h = refl
  answer-5 refuses-length = (λ h. absurd (omega arith), λ p. absurd (omega (arith, p.0)))
  answer-5 (rejects-at n p l m) = (λ h. not-below n p 5 l (omega arith) h, λ q. absurd (omega (arith, q.0)))

  answer-2 : {c : Checked} → Known c → (outcome c s).answer ≡ 2 ↔ c ≡ checked 2 0
  unfolding outcome
  answer-2 passes-all = (λ h. absurd (go s h), λ e. answers e (λ z. absurd (omega arith)))
    where
      go : (s : Bool) → (if s then checked 0 0 else checked 5 0).answer ≡ 2 → ⊥
      go true h = omega arith
      go false h = omega arith
  answer-2 refuses-length = (λ h. refl, λ e. refl)
  answer-2 (rejects-at n p l m) = (λ h. not-below n p 2 l (omega arith) h, λ e. answers e (λ z. omega arith))

  answer-3 : {c : Checked} → Known c → (outcome c s).answer ≢ 3
  unfolding outcome
  answer-3 passes-all h = go s h
    where
      go : (s : Bool) → (if s then checked 0 0 else checked 5 0).answer ≡ 3 → ⊥
      go true h = omega arith
      go false h = omega arith
  answer-3 refuses-length h = omega arith
  answer-3 (rejects-at n p l m) h = not-below n p 3 l (omega arith) h

  answer-entry : {c : Checked} (n p : ℕ) → 12 < n → Known c → ((outcome c s).answer ≡ n) × ((outcome c s).place ≡ p) ↔ c ≡ checked n p
  unfolding outcome
  answer-entry n p l passes-all = (λ h. absurd (go s h.0), λ e. answers e (λ z. absurd (omega arith)))
    where
      go : (s : Bool) → (if s then checked 0 0 else checked 5 0).answer ≡ n → ⊥
      go true h = omega arith
      go false h = omega arith
  answer-entry n p l refuses-length = (λ h. absurd (omega (arith, h.0)), λ e. answers e (λ z. absurd (omega arith)))
  answer-entry n p l (rejects-at k q m w) =
      subst (λ (c : Checked). (c.answer ≡ n) × (c.place ≡ p) ↔ checked k q ≡ checked n p) (sym (stays k q m))
      (λ h j. record { answer = h.0 j; place = h.1 j }, λ e. (ap (λ (c : Checked). c.answer) e, ap (λ (c : Checked). c.place) e))

-- a fact in other words, and a pair of facts
in-turn : {A B C : Type 0} → A ↔ B → B ↔ C → A ↔ C
in-turn f g = (λ x. g.0 (f.0 x), λ y. f.1 (g.1 y))

both : {A B C D : Type 0} → A ↔ C → B ↔ D → A × B ↔ C × D
both f g = (λ p. (f.0 p.0, g.0 p.1), λ p. (f.1 p.0, g.1 p.1))

-- a test that stands for a fact fails where the fact does
not-fact : {A : Type 0} (b : Bool) → b ≡ true ↔ A → b ≡ false ↔ ¬ A
not-fact true f = (λ e. absurd (true≢false e), λ n. absurd (n (f.0 refl)))
not-fact false f = (λ e x. false≢true (f.1 x), λ n. refl)

module _ (W : ℕ) (t : List ℕ) (e : ℕ) (r : FreeVariables) (a : AnsweredBy W t e r) where
  is-outcome : checked r.answer r.place ≡ outcome (table_checked_by W t) (is_strategy t e)
  unfolding outcome asked_by
  is-outcome = a.outcome

  is-answer : r.answer ≡ (outcome (table_checked_by W t) (is_strategy t e)).answer
  is-answer = ap (λ (c : Checked). c.answer) is-outcome

  is-place : r.place ≡ (outcome (table_checked_by W t) (is_strategy t e)).place
  is-place = ap (λ (c : Checked). c.place) is-outcome

  same_answer : (n : ℕ) → r.answer ≡ n ↔ (outcome (table_checked_by W t) (is_strategy t e)).answer ≡ n
  same_answer n = (λ h. sym is-answer ∙ h, λ h. is-answer ∙ h)

  same_place : (n : ℕ) → r.place ≡ n ↔ (outcome (table_checked_by W t) (is_strategy t e)).place ≡ n
  same_place n = (λ h. sym is-place ∙ h, λ h. is-place ∙ h)

pub refuses_length : promises.refuses_length
refuses_length W t e r a = in-turn (same_answer W t e r a 2) (in-turn (answer-2 (is_strategy t e) (known W t)) (checks.table_refuses W t))

pub refuses_entry : promises.refuses_entry
refuses_entry W t e n p r l a =
    in-turn (both (same_answer W t e r a n) (same_place W t e r a p)) (in-turn (answer-entry (is_strategy t e) n p l (known W t)) (checks.table_rejects W t n p l))

pub never_three : promises.never_three
never_three W t e r a h = answer-3 (is_strategy t e) (known W t) ((same_answer W t e r a 3).0 h)

pub refuses_start : promises.refuses_start
refuses_start W t e r a =
    in-turn (same_answer W t e r a 5)
    (in-turn (answer-5 (is_strategy t e) (known W t)) (both (checks.table_passes W t) (not-fact (is_strategy t e) (strategy-plain t e))))

pub accepts : promises.accepts
accepts W t e r a =
    in-turn (same_answer W t e r a 0)
    (in-turn (answer-0 (is_strategy t e) (known W t)) (both (checks.table_passes W t) (strategy-plain t e)))

pub none_above : promises.none_above
none_above W t e v some g s f = free-below W some t g e v s f
