-- What a counted run refuses, and what it then has of its counts. Assumes nothing.
use mathlib.Core.Path.{◌≡◌, refl, ap, sym, ◌∙◌, subst}
use mathlib.Core.Bool.{true, false}
use mathlib.Core.Logic.{⊎_elim}
use mathlib.Core.Option.{Option, none, some}
use mathlib.Core.List.{List}
use Prim.Native.Nat.{ℕ, ◌+◌, ◌*◌, ◌/◌, ◌%◌, ◌<◌, ◌≤◌}
use native.Mathlib.Omega.{arith}
use borrow.Author.Tests.{eq-eqb, ne_eqb, leb-true}
use lib.Dec.{leb}
use lib.ListN.{length, get_or, replicate, get_or-eq_default}
use Rattle.words.specs.Words.{rows}
use Rattle.words.proofs.Tests.{below-or-from, every_true, rejected-none, Holds}
use Rattle.checks.specs.Kinds.{ours}
use Rattle.checks.specs.Checked.{checked, found}
use Rattle.checks.specs.Checked.{Checked}
use Rattle.checks.proofs.Promises.{table_passes}
use Rattle.meaning.specs.Store.{Input, Accepted}
use Rattle.calls.specs.Refused.{refused_with}
use Rattle.calls.specs.Indexed.{indexed_refused}
use Rattle.calls.proofs.Accepting.{accepted-with}
use Rattle.tallying.specs.Counts.{Room}
use Rattle.tallying.specs.Counts.{highest}
use Rattle.counting.specs.Counted.{counts_fit, has_room, counts_checked, refused_counting, refusing_counting}
use Rattle.tallying.specs.Added.{counted_end, ran_if}
use Rattle.counting.specs.Counted.{counted_of, indexed_counted_of}

-- ---- which refusal

module _ (c : Checked) (t cs : List ℕ) where
  pub refused-length : (length cs ≡ 4 * rows t → ⊥) → refused_counting c t cs ≡ checked 2 0
  unfolding refused_counting counts_fit
  refused-length n = rw (ne_eqb (length cs) (4 * rows t) n) refl

  pub refused-before : length cs ≡ 4 * rows t → (c.answer ≡ 0 → ⊥) → refused_counting c t cs ≡ c
  unfolding refused_counting counts_fit
  refused-before e n = rw (eq-eqb (length cs) (4 * rows t) e, ne_eqb c.answer 0 n) refl

  pub refused-counts : length cs ≡ 4 * rows t → c.answer ≡ 0 → refused_counting c t cs ≡ counts_checked cs (rows t)
  unfolding refused_counting counts_fit
  refused-counts e z = rw (eq-eqb (length cs) (4 * rows t) e, eq-eqb c.answer 0 z) refl

-- the same by the refusals of the code: one that is found before the counts, and what the counts come to
module _ {V : Checked} (t cs : List ℕ) (l : length cs ≡ 4 * rows t) where
  pub before-counts : {c : Checked} → c ≡ V → (c.answer ≡ 0 → ⊥) → refused_counting V t cs ≡ c
  before-counts is n = refused-before V t cs l (λ z. n (ap (λ (c : Checked). c.answer) is ∙ z)) ∙ sym is

  pub by-counts : {d : Checked} → checked 0 0 ≡ V → d ≡ counts_checked cs (rows t) → refused_counting V t cs ≡ d
  by-counts is e = refused-counts V t cs l (sym (ap (λ (c : Checked). c.answer) is)) ∙ sym e

  pub not-refused : checked 0 0 ≡ V → checked 0 0 ≡ counts_checked cs (rows t) → (refused_counting V t cs).answer ≡ 0
  not-refused is e = ap (λ (c : Checked). c.answer) (by-counts {d = checked 0 0} is e)

-- ---- what comes back

module _ (g : Option (List ℕ)) (i : Input) (cs : List ℕ) where
  abbrev pub verdict : Checked
  verdict = refused_with g i.table i.store i.bindings i.mark i.start i.subject

  pub counted-refused : (d : Checked) → refused_counting verdict i.table cs ≡ d → (d.answer ≡ 0 → ⊥)
      → refusing_counting i d cs ≡ counted_of g i cs
  unfolding counted_of
  counted-refused d e n = sym (rw (e, ne_eqb d.answer 0 n) refl)

  pub counted-run : (refused_counting verdict i.table cs).answer ≡ 0 → counted_end i (ran_if false i) cs ≡ counted_of g i cs
  unfolding counted_of
  counted-run z = sym (rw (eq-eqb (refused_counting verdict i.table cs).answer 0 z) refl)

  pub counted-accepted : (c : Checked) → c ≡ verdict → c.answer ≡ 0 → Accepted i
  counted-accepted c e z = (accepted-with ours g i (eq-eqb verdict.answer 0 (sym (ap (λ (c : Checked). c.answer) e) ∙ z))).1

module _ (g : Option (List ℕ)) (i : Input) (x cs : List ℕ) where
  pub indexed-counted-refused : (d : Checked) → refused_counting (indexed_refused g i x) i.table cs ≡ d → (d.answer ≡ 0 → ⊥)
      → record { run = refusing_counting i d cs; index = x } ≡ indexed_counted_of g i x cs
  unfolding indexed_counted_of
  indexed-counted-refused d e n = sym (rw (e, ne_eqb d.answer 0 n) refl)

  pub indexed-counted-run : (refused_counting (indexed_refused g i x) i.table cs).answer ≡ 0
      → record { run = counted_end i (ran_if true i) cs; index = replicate (length x) 0 } ≡ indexed_counted_of g i x cs
  unfolding indexed_counted_of
  indexed-counted-run z = sym (rw (eq-eqb (refused_counting (indexed_refused g i x) i.table cs).answer 0 z) refl)

-- ---- counts that are not refused have room

-- nothing is found where 0 is answered
none_found : (a : ℕ) (o : Option ℕ) → (a ≡ 0 → ⊥) → (found a o).answer ≡ 0 → o ≡ none
none_found a none n e = refl
none_found a (some k) n e = absurd (n e)

pub counts-room : (i : Input) (cs : List ℕ) → Accepted i → length cs ≡ 4 * rows i.table → (counts_checked cs (rows i.table)).answer ≡ 0
    → Room cs
unfolding counts_checked has_room
counts-room i cs a e z = record {
  few = let p = (table_passes ours i.table).0 (ap (λ (c : Checked). c.answer) a.table) in omega (arith, p.0.most, e);
  small = λ j. ⊎_elim (inside j) (λ l. omega (arith, get_or-eq_default cs 0 {n = j} l)) (below-or-from j (length cs));
}
  where
    all : Holds (has_room cs) 0 (rows i.table)
    all = (rejected-none (has_room cs) 0 (rows i.table)).0 (none_found 24 _ (λ e. omega arith) z)

    inside : (j : ℕ) → j < length cs → get_or cs j 0 ≤ highest
    inside j l =
        let h = (every_true (λ d. leb (get_or cs (4 * (j / 4) + d) 0) highest) 0 4).0 (all (j / 4) (omega arith) (omega arith)) in
        let n : 4 * (j / 4) + j % 4 ≡ j = omega arith in
        subst (λ (j : ℕ). get_or cs j 0 ≤ highest) n (leb-true _ _ (h (j % 4) (omega arith) (omega arith)))

-- the entries of an accepted table are at most 4,096
pub entries-few : (i : Input) → Accepted i → length i.table ≤ 32768
entries-few i a = ((table_passes ours i.table).0 (ap (λ (c : Checked). c.answer) a.table)).0.most
