-- The start call: refused, or a list that holds a fresh run. Assumes nothing.
use Rattle.std.proofs.Common.{◌≡◌, ℕ, ◌+◌, ◌<◌, ◌≤◌, Bool, true, false, eqb, List, [], length, get_or, sym, refl, ap, ◌∙◌, subst, inr, arith, eq-eqb, ne_eqb, le-leb}
use mathlib.Core.Option.{Option}
use borrow.Author.Tests.{lt-leb}
use Rattle.checks.specs.Kinds.{ours}
use Rattle.checks.specs.Checked.{Checked}
use Rattle.checks.proofs.Promises.{store_passes}
use Rattle.meaning.specs.Derivation.{nowhere}
use Rattle.meaning.specs.Rules.{apply}
use Rattle.meaning.specs.Plan.{keep, ret, fail}
use Rattle.meaning.specs.Steps.{steps, start}
use Rattle.meaning.specs.Store.{Input, Accepted, bindings, on}
use Rattle.calls.specs.Refused.{refused_with}
use Rattle.calls.specs.Promises.{Refusal, of-sizes, of_entry, of_node, of-start}
use Rattle.calls.specs.Signed.{SignedRefusal, as-without, of-disobeying-entry, of-disobeying-node}
use Rattle.calls.proofs.Accepting.{accepted-with, refusal-with}
use Rattle.turns.specs.Ways.{record_from, held_at, visit_of}
use Rattle.machine.specs.Stack.{way_at, Stands}
use Rattle.machine.specs.declared.Machine.{Machine}
use Rattle.machine.proofs.Holding.{held_same}
use Rattle.machine.proofs.Stacked.{stands-asked}
use Rattle.stepping.specs.Stepping.{numbers, start_refused, start_numbers, lists, run_after_by, run_after, machine_in, Holds, Starts}
use Rattle.stepping.specs.Ended.{Saved, Loaded}
use Rattle.stepping.proofs.Concluding.{machine-saved, given-saved}

-- a fresh run stands in a list that holds its bindings
pub first-visit : (sh : Bool) (i : Input) (k : List ℕ) (mask : ℕ) → held_at k record_from mask ≡ bindings i.bindings
    → Stands sh i.table (record {
      x = i.start;
      mode = 0;
      y = i.subject;
      level = 0;
      mark = i.mark;
      place = 4096;
      fuel = i.units;
      mask =
          mask;
    }) i.store k [] [] (run_after_by sh i 0)
unfolding run_after_by steps start visit_of way_at
first-visit sh i k mask e = stands-asked (omega arith) (record {
  top = record {
    visit = apply i.start i.subject (bindings i.bindings);
    left = 4096;
    keeps = keep;
    before = on i.store i.mark (nowhere, []);
    yes = ret;
    no = fail;
  };
  others = [];
  is = refl;
  visit = ap (apply i.start i.subject) (sym e);
  pending = record { left = omega arith; ways = λ _. refl; mark = λ _ z. absurd (omega arith) };
  stack = tt;
  whats = refl;
})

-- the bindings that were loaded are held in the list that was saved
pub fresh-held : {k k₁ k₂ : List ℕ} {m : Machine} {u s g : ℕ} (b : List ℕ) (mask : ℕ) → Loaded k b mask k₁ → Saved k₁ m u s g k₂
    → held_at k₂ record_from mask ≡ bindings b
fresh-held {k₁} {k₂} b mask o d =
    held_same k₁ k₂ record_from record_from mask (λ v l _. d.other (record_from + v) (inr (omega arith))) ∙ o.held

module _ (g : Option (List ℕ)) (i : Input) (k : List ℕ) where
  abbrev pub verdict : Checked
  verdict = refused_with g i.table i.store i.bindings i.mark i.start i.subject

  -- the list is too short
  pub too_short : length k < 327680 → Starts g i k (numbers 2 0 i.subject i.mark 0) k
  unfolding start_refused start_numbers
  too_short l = record {
    numbers = sym (rw (lt-leb 327680 (length k) l) refl);
    refused = λ _. refl;
    begun = λ e. absurd (omega arith);
  }

  pub long-enough : 327680 ≤ length k → start_refused g i k ≡ verdict
  unfolding start_refused
  long-enough l = rw (le-leb 327680 (length k) l) refl

  -- a refusal is never 25
  pub not-25 : (n : ℕ) → SignedRefusal n → n ≡ 25 → ⊥
  not-25 n (as-without r) e = go n r e
    where
      go : (n : ℕ) → Refusal n → n ≡ 25 → ⊥
      go n of-sizes e = omega arith
      go n (of_entry m l h) e = omega arith
      go n of_node e = omega arith
      go n of-start e = omega arith
  not-25 n of-disobeying-entry e = omega arith
  not-25 n of-disobeying-node e = omega arith

  pub refused-by : (c : Checked) → 327680 ≤ length k → c ≡ verdict → (c.answer ≡ 0 → ⊥) → Starts g i k (numbers c.answer c.place i.subject i.mark 0) k
  unfolding start_numbers
  refused-by c l e n =
      let v : eqb verdict.answer 0 ≡ false = ne_eqb verdict.answer 0 (λ z. n (ap (λ (c : Checked). c.answer) e ∙ z)) in
      record {
        numbers = (λ z. numbers (e z).answer (e z).place i.subject i.mark 0) ∙ sym (rw (long-enough l, v) refl);
        refused = λ _. refl;
        begun = λ z. absurd (not-25 verdict.answer (refusal-with ours g i v) (sym (ap (λ (c : Checked). c.answer) e) ∙ z));
      }

  pub passes : (c : Checked) → c ≡ verdict → c.answer ≡ 0 → Accepted i
  passes c e z = (accepted-with ours g i (eq-eqb verdict.answer 0 (sym (ap (λ (c : Checked). c.answer) e) ∙ z))).1

  -- the list holds a fresh run
  pub begun-with : (c : Checked) → 327680 ≤ length k → c ≡ verdict → c.answer ≡ 0 → (mask : ℕ) (k₁ k₂ : List ℕ) → Loaded k i.bindings
      mask k₁
      → Saved k₁ (record { x = i.start; mode = 0; y = i.subject; level = 0; mark = i.mark; place = 4096; fuel = i.units; mask = mask })
      i.units i.subject i.mark k₂
      → Starts g i k (numbers 25 0 i.subject i.mark 0) k₂
  unfolding start_numbers
  begun-with c l e z mask k₁ k₂ o d =
      let v : eqb verdict.answer 0 ≡ true = eq-eqb verdict.answer 0 (sym (ap (λ (c : Checked). c.answer) e) ∙ z) in
      let a = passes c e z in
      record {
        numbers = sym (rw (long-enough l, v) refl);
        refused = λ n. absurd (n refl);
        begun = λ _. (a, holds a);
      }
    where
      fresh : Machine
      fresh = record { x = i.start; mode = 0; y = i.subject; level = 0; mark = i.mark; place = 4096; fuel = i.units; mask = mask }

      same : machine_in k₂ ≡ fresh
      same = machine-saved k₁ k₂ fresh _ _ _ d (omega arith) (omega arith)

      holds : Accepted i → Holds i 0 (lists i.store i.bindings k₂)
      holds a =
          let f = (store_passes i.store i.mark).0 (ap (λ (c : Checked). c.answer) a.store) in
          record {
            lent = record { nodes = f.0.0.whole; small = f.0.0.most; frames = omega (arith, d.long, o.long) };
            begun = omega (arith, ap (λ r. get_or r 0 0) d.own);
            asked = subst (λ m. m.mode < 4) (sym same) (omega arith);
            flight = [];
            log = [];
            stands = subst (λ m. Stands false i.table m i.store k₂ [] [] (run_after i 0)) (sym same) (first-visit false i k₂ mask (fresh-held i.bindings mask o d));
            fuel = subst (λ m. m.fuel + 0 ≡ i.units) (sym same) (omega arith);
            given = given-saved i k₁ k₂ fresh _ _ _ d refl refl refl;
            bindings = refl;
          }
