-- Visits that only lead on: a CALL and its REC before the first work of an operand.
use mathlib.Core.Path.{◌≡◌, refl, sym, ◌∙◌}
use mathlib.Core.Bool.{Bool, true, false}
use mathlib.Core.List.{List}
use mathlib.Core.Logic.{◌⊎◌, inl, inr, ⊎_elim}
use Prim.Native.Nat.{ℕ, ◌+◌, ◌-◌, ◌<◌, ◌≤◌}
use native.Mathlib.Omega.{arith}
use lib.Dec.{eqb}
use borrow.Author.Tests.{eqb-true, eqb-false}
use Rattle.words.specs.Words.{word_at}
use Rattle.words.proofs.Tests.{below-or-from}
use Rattle.std.specs.Prelude.{if◌then◌else◌}
use Rattle.checks.specs.Good.{kind_of}
use Rattle.state.specs.Visits.{Entries}
use Rattle.leaves.proofs.Patterns.{operand_below}
use Rattle.cycle.specs.Cycle.{Hinted, Leads, VisitsAhead, entry_ahead, operand_for}

-- no visit leads nowhere else
stays : (t : List ℕ) (x : ℕ) → Leads t x x 0
stays t x = record {
  is = λ k b w m d u i j.
      let p : d - 0 ≡ d = omega arith in
      let q : u - 0 ≡ u = omega arith in
      rw (p, q);
  short = λ k b w m d u i j. absurd (omega arith);
}

-- a number of three
pub one-of-three : (k r : ℕ) → r ≡ k → 11 ≤ r → r < 14 → (k ≡ 11) ⊎ (k ≡ 12) ⊎ (k ≡ 13)
one-of-three k r e h l =
    ⊎_elim (λ z. inl (omega arith)) (λ z. inr (⊎_elim (λ y. inl (omega arith)) (λ y. inr (omega arith)) (below-or-from r 13)))
    (below-or-from r 12)

module _ {t : List ℕ} {e : ℕ} where
  pub ahead_none : {d : ℕ} → VisitsAhead t e d 0
  ahead_none = record { few = omega arith; one = λ h. refl; leads = λ z. absurd (z refl) }

  pub ahead-hint : {d n : ℕ} → Hinted t → e < 4096 → (kind_of t e ≡ 11) ⊎ (kind_of t e ≡ 12) ⊎ (kind_of t e ≡ 13) → 2 ≤ d → n ≡ word_at t e 5 → VisitsAhead t e d n
  ahead-hint {d} {n} h l k two q = go (eqb n 0) refl
    where
      go : (z : Bool) → eqb n 0 ≡ z → VisitsAhead t e d n
      go true z = rw (eqb-true n 0 z) ahead_none
      go false z =
          let a = h.ahead e l k (λ f. eqb-false n 0 z (q ∙ f)) in
          record {
            few = omega (arith, a.0);
            one = λ f. absurd (⊎_elim (λ g. omega arith) (⊎_elim (λ g. omega arith) (λ g. omega arith)) k);
            leads = λ f. rw q a.1;
          }

  -- where the operand for child i leads
  pub leads-on : {d x first : ℕ} (n κ i : ℕ) → VisitsAhead t e d n → κ ≡ kind_of t e → first ≡ entry_ahead t e n → x ≡ (if eqb κ 10 then word_at t e (2 + i) else first)
      → Leads t (operand_for t e κ i) x n
  leads-on {d} {x} {first} n κ i l κe fe xe = rw xe (go (eqb κ 10) (eqb n 0) refl refl)
    where
      go : (y z : Bool) → eqb κ 10 ≡ y → eqb n 0 ≡ z → Leads t (if y then word_at t e (2 + i) else word_at t e 2) (if y then word_at t e (2 + i) else first) n
      go true z p q = rw (l.one (sym κe ∙ eqb-true κ 10 p)) (stays t _)
      go false true p q = rw (fe, eqb-true n 0 q) (stays t _)
      go false false p q = rw (fe, q) (l.leads (eqb-false n 0 q))

  -- such an entry is one of the table
  pub leads-inside : {x first : ℕ} (n κ i : ℕ) → Entries t → e < 4096 → (kind_of t e ≡ 16 → ⊥) → i < 6 → first ≡ entry_ahead t e n → x ≡ (if eqb κ 10 then word_at t e (2 + i) else first) → x < 4096
  leads-inside {x} {first} n κ i en l other j fe xe = rw (xe, fe) (go (eqb κ 10) (eqb n 0))
    where
      go : (y z : Bool) → (if y then word_at t e (2 + i) else if z then word_at t e 2 else word_at t e 4) < 4096
      go true z = operand_below t en e i l other j
      go false true = operand_below t en e 0 l other (omega arith)
      go false false = operand_below t en e 2 l other (omega arith)

  -- so is where the one operand of a ONE leads
  module _ (h : kind_of t e ≡ 12) {first : ℕ} (n : ℕ) (fe : first ≡ entry_ahead t e n) where
    pub leads_one : {d : ℕ} → VisitsAhead t e d n → Leads t (word_at t e 2) first n
    leads_one l = leads-on n 12 0 l (sym h) fe refl

    pub leads-one-inside : Entries t → e < 4096 → first < 4096
    leads-one-inside en l = leads-inside n 12 0 en l (λ z. omega (arith, h, z)) (omega arith) fe refl
