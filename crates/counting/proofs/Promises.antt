-- What the contracts of the counted calls promise, proved under the names of specs/Promises.antt. Assumes nothing.
use mathlib.Core.Path.{◌≡◌, refl, ap, sym, ◌∙◌, subst}
use mathlib.Core.Bool.{Bool, true, false, true≢false}
use mathlib.Core.Logic.{◌≢◌, ◌↔◌, ◌⊎◌, inl, inr, ⊎_elim}
use mathlib.Core.Option.{Option, none, some}
use mathlib.Core.List.{List, [], ◌∷◌}
use Prim.Native.Nat.{ℕ, zero, suc, ◌+◌, ◌-◌, ◌*◌, ◌/◌, ◌%◌, ◌<◌, ◌≤◌}
use native.Mathlib.Omega.{arith}
use borrow.Author.Tests.{eq-eqb, ne_eqb, eqb-true, eqb-false, leb-true, le-leb}
use lib.Dec.{eqb, leb}
use lib.ListN.{length, get_or, get_or-eq_default}
use Rattle.std.specs.Prelude.{if◌then◌else◌}
use Rattle.words.specs.Tests.{rejected}
use Rattle.words.specs.Words.{rows}
use Rattle.words.proofs.Tests.{below-or-from, every_true, First, rejected-none, rejected-some}
use Rattle.checks.specs.Kinds.{ours, sort_of}
use Rattle.checks.specs.Good.{kind_of}
use Rattle.checks.specs.declared.kinds.Sort.TheVariants.{Strategy, Pattern}
use Rattle.checks.specs.Checked.{checked, found}
use Rattle.checks.specs.Checked.{Checked}
use Rattle.meaning.specs.Derivation.{What, entry, pattern, pair, Event, began, ended as told, history, places, nowhere}
use Rattle.meaning.specs.Tallies.{one-if, is_entry, any_pattern, is_pair, counted, begins, wins, loses, Entered, entries_in}
use Rattle.meaning.specs.Limits.{ended, lost, cut, units, nesting, room, unbound}
use Rattle.meaning.specs.Mapped.{renoted, NotesLess}
use Rattle.meaning.specs.Store.{Input, Accepted, Ran}
use Rattle.meaning.specs.Shared.{ran_sharing, twin}
use Rattle.meaning.specs.Answer.{number, returned, returned_by}
use Rattle.meaning.proofs.Mapped.{renotes-sharing}
use Rattle.meaning.proofs.Falling.{units_left}
use Rattle.meaning.proofs.Tallies.{events-add-up}
use Rattle.machine.specs.Stack.{Noted}
use Rattle.machine.proofs.Noting.{all, Visited, Within, NotesSo, run-notes}
use Rattle.meaning.proofs.Shared.{not-shared, all-shared}
use Rattle.calls.specs.Refused.{or_else, start_fits, words_refused, refused_with_by}
use Rattle.calls.specs.Run.{refusing, run_with_by}
use Rattle.calls.specs.Indexed.{index_fits, indexed_words_refused_by, indexed_refused, indexed_refused_by, IndexedReturned, indexed_of}
use Rattle.calls.specs.Promises.{Refusal, of-sizes, of_entry, of_node, of-start}
use Rattle.calls.specs.Signed.{SignedRefusal, as-without, of-disobeying-entry, of-disobeying-node}
use Rattle.calls.proofs.Accepting.{refusal-with}
use Rattle.indexed.proofs.Whole.{indexed-refused, indexed-ran, accepted}
use Rattle.tallying.specs.Added.{Counted}
use Rattle.tallying.specs.Counts.{highest}
use Rattle.tallying.specs.Added.{CountedReturned, counted_at_return}
use Rattle.counting.specs.Counted.{has_room, counts_checked}
use Rattle.tallying.specs.Added.{counted_end, ran_if}
use Rattle.counting.specs.Counted.{refusing_counting, counted_of, IndexedCountedReturned, indexed_counted_of}
use Rattle.tallying.specs.Added.{log_of, added, tallied}
use Rattle.tallying.specs.Counts.{Room}
use Rattle.counting.specs.Promises.{Call, plain, indexed, Meets, refusal_of, without_counts, shares, verdict_of, FourEach}
use Rattle.counting.specs.Promises.{Agreeing, AgreeingIndex, AsRun, AsIndexed, RefusesLength, RefusesFirst, LowestFull}
use Rattle.counting.specs.Promises.{RefusesFull, AddsNothing, LeavesIndex, KeepsLength, visits_in, UnitsAddUp}
use Rattle.counting.specs.Promises.{FatesAddUp, NeverOverflows, EndedNoneInFlight, PatternsStay}
use Rattle.counting.proofs.Refusing.{refused-length, refused-before, refused-counts, indexed-counted-refused}
use Rattle.counting.proofs.Refusing.{indexed-counted-run, counted-accepted, counts-room}
use Rattle.tallying.proofs.Ending.{length-tallied, get_or-tallied}

-- ---- the run

-- what comes back decides the numbers and the words
same_numbers : {r r' : Counted} {s s' b b' cs cs' : List ℕ} → counted_at_return r s b cs ≡ counted_at_return r' s' b' cs'
    → (r ≡ r') × (s ≡ s') × (b ≡ b') × (cs ≡ cs')
same_numbers e = (
  (λ j. record {
    ended = record {
      answer = (e j).run.answer;
      place = (e j).run.place;
      subject = (e j).run.subject;
      mark = (e j).run.mark;
      units = (e j).run.units;
    };
    seen = record { patterns = (e j).patterns; pairs = (e j).pairs };
  }),
  ap (λ (z : CountedReturned). z.run.store) e,
  ap (λ (z : CountedReturned). z.run.bindings) e,
  ap (λ (z : CountedReturned). z.counts) e,
)

pub agreeing : Agreeing
agreeing (plain g) i given r r' s s' b b' cs cs' p q = same_numbers (p ∙ sym q)
agreeing (indexed g x) i given r r' s s' b b' cs cs' (x', p) (x'', q) =
    same_numbers (ap (λ (z : IndexedCountedReturned). z.run) (p ∙ sym q))

pub agreeing-index : AgreeingIndex
agreeing-index g i x given r r' s s' b b' cs cs' x' x'' p q = ap (λ (z : IndexedCountedReturned). z.index) (p ∙ sym q)

-- ---- refused, or run

module _ (c : Call) (i : Input) (given : List ℕ) (r : Counted) (s b cs : List ℕ) (m : Meets c i given r s b cs) where
  pub met-refused : (verdict_of c i given).answer ≢ 0 → counted_at_return r s b cs ≡ refusing_counting i (verdict_of c i given) given
  unfolding counted_of indexed_counted_of
  met-refused n = go c m n
    where
      go : (c : Call) → Meets c i given r s b cs → (verdict_of c i given).answer ≢ 0
          → counted_at_return r s b cs ≡ refusing_counting i (verdict_of c i given) given
      go (plain g) m n = m ∙ rw (ne_eqb (verdict_of (plain g) i given).answer 0 n) refl
      go (indexed g x) (x', m) n =
          ap (λ (z : IndexedCountedReturned). z.run) m ∙ rw (ne_eqb (verdict_of (indexed g x) i given).answer 0 n) refl

  pub met-run : (verdict_of c i given).answer ≡ 0 → counted_at_return r s b cs ≡ counted_end i (ran_if (shares c) i) given
  unfolding counted_of indexed_counted_of
  met-run n = go c m n
    where
      go : (c : Call) → Meets c i given r s b cs → (verdict_of c i given).answer ≡ 0
          → counted_at_return r s b cs ≡ counted_end i (ran_if (shares c) i) given
      go (plain g) m n = m ∙ rw (eq-eqb (verdict_of (plain g) i given).answer 0 n) refl
      go (indexed g x) (x', m) n =
          ap (λ (z : IndexedCountedReturned). z.run) m ∙ rw (eq-eqb (verdict_of (indexed g x) i given).answer 0 n) refl

-- ---- the counts as they are checked

-- an entry has room where none of its four words is too high
room-words : (given : List ℕ) (x : ℕ) → has_room given x ≡ true → (j : ℕ) → j < 4 → get_or given (4 * x + j) 0 ≤ highest
unfolding has_room
room-words given x e j l = leb-true _ _ ((every_true (λ j. leb (get_or given (4 * x + j) 0) highest) 0 4).0 e j (omega arith) (omega arith))

words-room : (given : List ℕ) (x : ℕ) → ((j : ℕ) → j < 4 → get_or given (4 * x + j) 0 ≤ highest) → has_room given x ≡ true
unfolding has_room
words-room given x f = (every_true (λ j. leb (get_or given (4 * x + j) 0) highest) 0 4).1 (λ j l h. le-leb _ _ (f j (omega arith)))

-- where it has none, one of them is
no_room : (given : List ℕ) (x : ℕ) → has_room given x ≡ false → (j : ℕ) × (j < 4) × (highest < get_or given (4 * x + j) 0)
no_room given x e =
    ⊎_elim (λ h. (0, omega arith, h))
    (λ a. ⊎_elim (λ h. (1, omega arith, h))
    (λ b. ⊎_elim (λ h. (2, omega arith, h))
    (λ c. ⊎_elim (λ h. (3, omega arith, h))
    (λ d. absurd (true≢false (sym (words-room given x (all a b c d)) ∙ e)))
    (at 3)) (at 2)) (at 1)) (at 0)
  where
    at : (j : ℕ) → (highest < get_or given (4 * x + j) 0) ⊎ (get_or given (4 * x + j) 0 ≤ highest)
    at j = below-or-from highest (get_or given (4 * x + j) 0)

    all : get_or given (4 * x + 0) 0 ≤ highest → get_or given (4 * x + 1) 0 ≤ highest → get_or given (4 * x + 2) 0 ≤ highest
        → get_or given (4 * x + 3) 0 ≤ highest → (j : ℕ) → j < 4 → get_or given (4 * x + j) 0 ≤ highest
    all a b c d zero l = a
    all a b c d (suc zero) l = b
    all a b c d (suc (suc zero)) l = c
    all a b c d (suc (suc (suc zero))) l = d
    all a b c d (suc (suc (suc (suc j)))) l = absurd (omega arith)

checked-none : (given : List ℕ) (n : ℕ) → ((j : ℕ) → get_or given j 0 ≤ highest) → counts_checked given n ≡ checked 0 0
unfolding counts_checked
checked-none given n f =
    ap (found 24) ((rejected-none (has_room given) 0 n).1 (λ x l h. words-room given x (λ j _. f (4 * x + j))))

-- ---- the same run without counts

first-note : NotesLess history places (λ n. n.0)
first-note = record { missed = λ p n. refl; begins = λ w n. refl; ends = λ w t n. refl }

-- the place alone is left of what is noted
place-left : (sh : Bool) (i : Input) → renoted (λ n. n.0) (ran_if sh i) ≡ ran_sharing sh ours places nowhere i
place-left sh i = renotes-sharing sh ours _ _ history places (λ n. n.0) first-note (nowhere, []) i

run_of : (c : Call) (i : Input) → (refusal_of c i).answer ≡ 0 → returned i (renoted (λ n. n.0) (ran_if (shares c) i)) ≡ without_counts c i
unfolding run_with_by
run_of (plain g) i z =
    ap (returned i) (place-left false i ∙ not-shared.1 ours ℕ places nowhere i)
    ∙ sym (rw (eq-eqb (refusal_of (plain g) i).answer 0 z) refl)
run_of (indexed g x) i z =
    ap (returned i) (place-left true i ∙ all-shared.1 ours ℕ places nowhere i)
    ∙ ap (λ (r : IndexedReturned). r.run) (indexed-ran g i x (indexed_refused g i x) refl z)

pub run-refused : (c : Call) (i : Input) → (refusal_of c i).answer ≢ 0 → refusing i (refusal_of c i) ≡ without_counts c i
unfolding run_with_by
run-refused (plain g) i n = sym (rw (ne_eqb (refusal_of (plain g) i).answer 0 n) refl)
run-refused (indexed g x) i n = ap (λ (r : IndexedReturned). r.run) (indexed-refused g i x (indexed_refused g i x) refl n)

-- a number is 0, or not
pub zero_or_not : (n : ℕ) → (n ≡ 0) ⊎ (n ≢ 0)
zero_or_not zero = inl refl
zero_or_not (suc n) = inr (λ e. omega arith)

pub answer-of : {c d : Checked} → c ≡ d → c.answer ≡ d.answer
answer-of e = ap (λ (c : Checked). c.answer) e

module _ (c : Call) (i : Input) (given : List ℕ) (fits : FourEach i given) (small : (j : ℕ) → get_or given j 0 ≤ highest) where
  not-refused : (refusal_of c i).answer ≡ 0 → (verdict_of c i given).answer ≡ 0
  not-refused z =
      answer-of (refused-counts (refusal_of c i) i.table given fits z ∙ checked-none given (rows i.table) small)

  refused-so : (refusal_of c i).answer ≢ 0 → verdict_of c i given ≡ refusal_of c i
  refused-so n = refused-before (refusal_of c i) i.table given fits n

pub as-run : AsRun
as-run c i given r s b cs fits small m = ⊎_elim
    (λ z. ap (λ (z : CountedReturned). z.run) (met-run c i given r s b cs m (not-refused c i given fits small z)) ∙ run_of c i z)
    (λ n. let e = refused-so c i given fits small n in
    ap (λ (z : CountedReturned). z.run) (met-refused c i given r s b cs m (λ z. n (sym (answer-of e) ∙ z)))
    ∙ ap (refusing i) e ∙ run-refused c i n)
    (zero_or_not (refusal_of c i).answer)

pub as-indexed : AsIndexed
as-indexed g i x given r s b cs x' fits small m =
    λ j. record { run = as-run (indexed g x) i given r s b cs fits small (x', m) j; index = same j }
  where
    same : x' ≡ (indexed_of g i x).index
    same = ⊎_elim
        (λ z. ap (λ (r : IndexedCountedReturned). r.index)
        (m ∙ sym (indexed-counted-run g i x given (not-refused (indexed g x) i given fits small z)))
        ∙ ap (λ (r : IndexedReturned). r.index) (indexed-ran g i x (indexed_refused g i x) refl z))
        (λ n. let e = refused-so (indexed g x) i given fits small n in
        ap (λ (r : IndexedCountedReturned). r.index) (m ∙ sym (indexed-counted-refused g i x given (indexed_refused g i x) e n))
        ∙ ap (λ (r : IndexedReturned). r.index) (indexed-refused g i x (indexed_refused g i x) refl n))
        (zero_or_not (indexed_refused g i x).answer)

-- ---- which refusal

-- a refusal of the run without counts is never 24, nor is an answer of its own
signed-not-24 : (n : ℕ) → SignedRefusal n → n ≡ 24 → ⊥
signed-not-24 n (as-without r) e = go n r e
  where
    go : (n : ℕ) → Refusal n → n ≡ 24 → ⊥
    go n of-sizes e = omega arith
    go n (of_entry m l h) e = omega arith
    go n of_node e = omega arith
    go n of-start e = omega arith
signed-not-24 n of-disobeying-entry e = omega arith
signed-not-24 n of-disobeying-node e = omega arith

plain-not-24 : (g : Option (List ℕ)) (i : Input) → (refusal_of (plain g) i).answer ≡ 24 → ⊥
plain-not-24 g i e = signed-not-24 _ (refusal-with ours g i (ne_eqb (refusal_of (plain g) i).answer 0 (λ z. omega arith))) e

-- w: what is refused before the start is looked at; f: the index is long enough; o: a node with an earlier one's words; d: the start fits
index-not-24 : (w : Checked) (f : Bool) (o : Option ℕ) (d : Bool)
    → ((or_else w (if d then checked 0 0 else checked 5 0)).answer ≡ 24 → ⊥)
    → (or_else (if f then or_else w (found 21 o) else checked 2 0) (if d then checked 0 0 else checked 5 0)).answer ≡ 24 → ⊥
index-not-24 w false o d n e = omega arith
index-not-24 w true o d n e = go (eqb w.answer 0) refl o d n e
  where
    go : (z : Bool) → eqb w.answer 0 ≡ z → (o : Option ℕ) (d : Bool)
        → ((or_else w (if d then checked 0 0 else checked 5 0)).answer ≡ 24 → ⊥)
        → (or_else (if z then found 21 o else w) (if d then checked 0 0 else checked 5 0)).answer ≡ 24 → ⊥
    go true q none true n e = omega arith
    go true q none false n e = omega arith
    go true q (some k) d n e = omega arith
    go false q o d n e = n e

not-24 : (c : Call) (i : Input) → (refusal_of c i).answer ≡ 24 → ⊥
unfolding indexed_refused_by indexed_words_refused_by refused_with_by
not-24 (plain g) i e = plain-not-24 g i e
not-24 (indexed g x) i e =
    index-not-24 (words_refused g i.table i.store i.bindings i.mark) (index_fits i.store x) (twin i.store i.mark)
    (start_fits i.table i.bindings i.mark i.start i.subject) (plain-not-24 g i) e

ran-not-24 : (i : Input) (e : Ran ℕ) → (returned i e).answer ≡ 24 → ⊥
unfolding returned_by number
ran-not-24 i (ended k b s u) z = omega arith
ran-not-24 i (lost l u) z = omega arith
ran-not-24 i (cut units l u) z = omega arith
ran-not-24 i (cut room l u) z = omega arith
ran-not-24 i (cut nesting l u) z = omega arith
ran-not-24 i (cut (unbound v) l u) z = omega arith

-- the first entry that the check rejects is the lowest that has a count too high
first-full : (given : List ℕ) (n p : ℕ) → First (has_room given) 0 n p ↔ LowestFull given n p
first-full given n p = (
  λ f. let h = no_room given p f.rejects in record {
    inside = omega (arith, f.below);
    word = h.0;
    one = h.1;
    high = h.2;
    before = λ x l j m. room-words given x (f.before x (omega arith) l) j m;
  },
  λ f. record {
    from = omega arith;
    below = omega (arith, f.inside);
    rejects = full f (has_room given p) refl;
    before = λ x l m. words-room given x (f.before x m);
  },
)
  where
    full : LowestFull given n p → (z : Bool) → has_room given p ≡ z → z ≡ false
    full f true e = absurd (omega (arith, f.high, room-words given p e f.word f.one))
    full f false e = refl

module _ (c : Call) (i : Input) (given : List ℕ) (r : Counted) (s b cs : List ℕ) (m : Meets c i given r s b cs) where
  -- the numbers of a refusal
  pub refused-numbers : (d : Checked) → verdict_of c i given ≡ d → d.answer ≢ 0 → (r.ended.answer ≡ d.answer) × (r.ended.place ≡ d.place)
  refused-numbers d e n =
      let z = met-refused c i given r s b cs m (λ z. n (sym (answer-of e) ∙ z)) in (
        ap (λ (z : CountedReturned). z.run.answer) z ∙ answer-of e,
        ap (λ (z : CountedReturned). z.run.place) z ∙ ap (λ (c : Checked). c.place) e,
      )

  wrong-length : (FourEach i given → ⊥) → (r.ended.answer ≡ 2) × (r.ended.place ≡ 0)
  wrong-length n = refused-numbers (checked 2 0) (refused-length (refusal_of c i) i.table given n) (λ e. omega arith)

  run-first : FourEach i given → (refusal_of c i).answer ≢ 0
      → (r.ended.answer ≡ (refusal_of c i).answer) × (r.ended.place ≡ (refusal_of c i).place)
  run-first f n = refused-numbers (refusal_of c i) (refused-before (refusal_of c i) i.table given f n) n

  -- what the check of the counts finds
  pub full-found : FourEach i given → (refusal_of c i).answer ≡ 0 → (o : Option ℕ) → rejected (has_room given) 0 (rows i.table) ≡ o
      → verdict_of c i given ≡ found 24 o
  unfolding counts_checked
  full-found f z o e = refused-counts (refusal_of c i) i.table given f z ∙ ap (found 24) e

  full_is : (p : ℕ) → r.ended.answer ≡ 24 → r.ended.place ≡ p
      → FourEach i given × ((refusal_of c i).answer ≡ 0) × LowestFull given (rows i.table) p
  full_is p a q = go (eqb (length given) (4 * rows i.table)) refl
    where
      found-one : FourEach i given → (refusal_of c i).answer ≡ 0 → (o : Option ℕ) → rejected (has_room given) 0 (rows i.table) ≡ o
          → LowestFull given (rows i.table) p
      found-one f z none e =
          absurd (ran-not-24 i _ (sym (ap (λ (z : CountedReturned). z.run.answer)
          (met-run c i given r s b cs m (answer-of (full-found f z none e)))) ∙ a))
      found-one f z (some k) e =
          let k-is : k ≡ p = sym (refused-numbers (checked 24 k) (full-found f z (some k) e) (λ e. omega arith)).1 ∙ q in
          subst (LowestFull given (rows i.table)) k-is
          ((first-full given _ k).0 ((rejected-some (has_room given) 0 (rows i.table) k).0 e))

      go : (b : Bool) → eqb (length given) (4 * rows i.table) ≡ b
          → FourEach i given × ((refusal_of c i).answer ≡ 0) × LowestFull given (rows i.table) p
      go true e = let f = eqb-true _ _ e in ⊎_elim
          (λ z. (f, z, found-one f z (rejected (has_room given) 0 (rows i.table)) refl))
          (λ n. absurd (not-24 c i (sym (run-first f n).0 ∙ a)))
          (zero_or_not (refusal_of c i).answer)
      go false e = absurd (omega (arith, (wrong-length (eqb-false _ _ e)).0, a))

  full-so : (p : ℕ) → FourEach i given → (refusal_of c i).answer ≡ 0 → LowestFull given (rows i.table) p
      → (r.ended.answer ≡ 24) × (r.ended.place ≡ p)
  full-so p f z l =
      refused-numbers (checked 24 p)
      (full-found f z (some p) ((rejected-some (has_room given) 0 (rows i.table) p).1 ((first-full given _ p).1 l))) (λ e. omega arith)

pub refuses-length : RefusesLength
refuses-length c i given r s b cs n m = wrong-length c i given r s b cs m n

pub refuses-first : RefusesFirst
refuses-first c i given r s b cs f n m = run-first c i given r s b cs m f n

pub refuses-full : RefusesFull
refuses-full c i given r s b cs p m =
    (λ h. full_is c i given r s b cs m p h.0 h.1, λ h. full-so c i given r s b cs m p h.0 h.1 h.2)

pub adds-nothing : AddsNothing
adds-nothing c i given r s b cs n m =
    let e = met-refused c i given r s b cs m n in
    record {
      counts = ap (λ (z : CountedReturned). z.counts) e;
      patterns = ap (λ (z : CountedReturned). z.patterns) e;
      pairs = ap (λ (z : CountedReturned). z.pairs) e;
      units = ap (λ (z : CountedReturned). z.run.units) e;
      subject = ap (λ (z : CountedReturned). z.run.subject) e;
      mark = ap (λ (z : CountedReturned). z.run.mark) e;
      store = ap (λ (z : CountedReturned). z.run.store) e;
      bindings = ap (λ (z : CountedReturned). z.run.bindings) e;
    }

pub leaves-index : LeavesIndex
leaves-index g i x given r s b cs x' m = (
  λ n. ap (λ (r : IndexedCountedReturned). r.index)
      (m ∙ sym (indexed-counted-refused g i x given (verdict_of (indexed g x) i given) refl n)),
  λ z. ap (λ (r : IndexedCountedReturned). r.index) (m ∙ sym (indexed-counted-run g i x given z)),
)

-- ---- what is not refused

module _ (c : Call) (i : Input) (given : List ℕ) (z : (verdict_of c i given).answer ≡ 0) where
  pub long-enough : FourEach i given
  long-enough = go (eqb (length given) (4 * rows i.table)) refl
    where
      go : (b : Bool) → eqb (length given) (4 * rows i.table) ≡ b → FourEach i given
      go true e = eqb-true _ _ e
      go false e = absurd (omega (arith, answer-of (refused-length (refusal_of c i) i.table given (eqb-false _ _ e)), z))

  pub run-passes : (refusal_of c i).answer ≡ 0
  run-passes = ⊎_elim (λ e. e)
      (λ n. absurd (n (sym (answer-of (refused-before (refusal_of c i) i.table given long-enough n)) ∙ z)))
      (zero_or_not (refusal_of c i).answer)

  pub run-accepted : Accepted i
  run-accepted = go c run-passes
    where
      go : (c : Call) → (refusal_of c i).answer ≡ 0 → Accepted i
      go (plain g) e = counted-accepted g i given (refusal_of (plain g) i) refl e
      go (indexed g x) e = accepted g i x (indexed_refused g i x) refl e

  pub room-given : Room given
  room-given =
      counts-room i given run-accepted long-enough
      (sym (answer-of (refused-counts (refusal_of c i) i.table given long-enough run-passes)) ∙ z)

-- ---- what was noted, at a run's end

every-visit : (p : What → Bool) (log : List Event) → counted (begins p) log ≤ counted (begins all) log
unfolding counted begins
every-visit p [] = omega arith
every-visit p (began w ∷ log) = go (p w) (every-visit p log)
  where
    go : (b : Bool) → counted (begins p) log ≤ counted (begins all) log → one-if b + counted (begins p) log ≤ 1 + counted (begins all) log
    go true l = omega arith
    go false l = omega arith
every-visit p (told w t ∷ log) = omega (arith, every-visit p log)

entered-within : (t : List ℕ) (log : List Event) → Visited (Within t) log → Entered (rows t) log
unfolding Visited Entered
entered-within t [] v = tt
entered-within t (began (entry x) ∷ log) v = (v.0.0, entered-within t log v.1)
entered-within t (began (pattern p) ∷ log) v = entered-within t log v.1
entered-within t (began pair ∷ log) v = entered-within t log v.1
entered-within t (told w b ∷ log) v = entered-within t log v

not-pattern : Strategy ≡ Pattern → ⊥
not-pattern e = let z : ◌≡◌ {A = ℕ} 0 1 = cc in omega arith

none-begun : (t : List ℕ) (x : ℕ) → sort_of (kind_of t x) ≡ Pattern → (log : List Event) → Visited (Within t) log
    → counted (begins (is_entry x)) log ≡ 0
unfolding Visited counted begins is_entry
none-begun t x e [] v = refl
none-begun t x e (began (entry y) ∷ log) v = go (none-begun t x e log v.1) (eqb x y) refl
  where
    go : counted (begins (is_entry x)) log ≡ 0 → (b : Bool) → eqb x y ≡ b → one-if b + counted (begins (is_entry x)) log ≡ 0
    go n true q = absurd (not-pattern (sym v.0.1 ∙ ap (λ (x : ℕ). sort_of (kind_of t x)) (sym (eqb-true x y q)) ∙ e))
    go n false q = omega arith
none-begun t x e (began (pattern p) ∷ log) v = omega (arith, none-begun t x e log v.1)
none-begun t x e (began pair ∷ log) v = omega (arith, none-begun t x e log v.1)
none-begun t x e (told w b ∷ log) v = omega (arith, none-begun t x e log v)

module _ (i : Input) where
  log-units : (e : Ran Noted) → NotesSo (Within i.table) [] i.units e → counted (begins all) (log_of e) + units_left e ≡ i.units
  unfolding NotesSo log_of units_left counted
  log-units (ended k b s u) (n, d) = omega (arith, n.units)
  log-units (lost l u) (n, d) = omega (arith, n.units)
  log-units (cut c l u) (n, d) = omega (arith, n.units)

  log-visited : (e : Ran Noted) → NotesSo (Within i.table) [] i.units e → Visited (Within i.table) (log_of e)
  unfolding NotesSo log_of Visited
  log-visited (ended k b s u) (n, d) = n.visited tt
  log-visited (lost l u) (n, d) = n.visited tt
  log-visited (cut c l u) (n, d) = n.visited tt

  log-behind : (e : Ran Noted) → NotesSo (Within i.table) [] i.units e → (p : What → Bool)
      → counted (wins p) (log_of e) + counted (loses p) (log_of e) ≤ counted (begins p) (log_of e)
  unfolding NotesSo log_of counted
  log-behind (ended k b s u) (n, d) p = omega (arith, d p)
  log-behind (lost l u) (n, d) p = omega (arith, d p)
  log-behind (cut c l u) (n, d) p = omega (arith, d p)

  log-ended : (e : Ran Noted) → NotesSo (Within i.table) [] i.units e → (returned i (renoted (λ n. n.0) e)).answer ≤ 1
      → (p : What → Bool) → counted (begins p) (log_of e) ≡ counted (wins p) (log_of e) + counted (loses p) (log_of e)
  unfolding NotesSo log_of counted returned_by renoted number
  log-ended (ended k b s u) (n, d) l p = omega (arith, d p)
  log-ended (lost l u) (n, d) h p = omega (arith, d p)
  log-ended (cut units l u) (n, d) h p = absurd (omega arith)
  log-ended (cut room l u) (n, d) h p = absurd (omega arith)
  log-ended (cut nesting l u) (n, d) h p = absurd (omega arith)
  log-ended (cut (unbound v) l u) (n, d) h p = absurd (omega arith)

  units-used : (e : Ran Noted) → (returned i (renoted (λ n. n.0) e)).units ≡ i.units - units_left e
  unfolding returned_by renoted units_left
  units-used (ended k b s u) = refl
  units-used (lost l u) = refl
  units-used (cut c l u) = refl

-- ---- the words

-- the word d of entry x
word-tallied : (log : List Event) (given : List ℕ) (x d : ℕ) → d < 4 → 4 * x + 3 < length given
    → get_or (tallied log 0 given) (4 * x + d) 0 ≡ get_or given (4 * x + d) 0 + added log x d
word-tallied log given x d l h =
    let a : (0 + (4 * x + d)) / 4 ≡ x = omega arith in
    let b : (0 + (4 * x + d)) % 4 ≡ d = omega arith in
    get_or-tallied log 0 given (4 * x + d) (omega arith) ∙ (λ z. get_or given (4 * x + d) 0 + added log (a z) (b z))

first_word : (log : List Event) (given : List ℕ) (x : ℕ) → 4 * x + 3 < length given
    → get_or (tallied log 0 given) (4 * x) 0 ≡ get_or given (4 * x) 0 + counted (begins (is_entry x)) log
unfolding added
first_word log given x h =
    let e : 4 * x + 0 ≡ 4 * x = omega arith in
    subst (λ (k : ℕ). get_or (tallied log 0 given) k 0 ≡ get_or given k 0 + counted (begins (is_entry x)) log) e
    (word-tallied log given x 0 (omega arith) h)

visits-tallied : (log : List Event) (given : List ℕ) (n : ℕ) → 4 * n ≤ length given
    → visits_in n (tallied log 0 given) ≡ visits_in n given + entries_in n log
unfolding visits_in entries_in
visits-tallied log given zero l = refl
visits-tallied log given (suc n) l = omega (arith, visits-tallied log given n (omega arith), first_word log given n (omega arith))

-- no more is added to a word than visits began
added-few : (log : List Event) (x d : ℕ) → ((p : What → Bool) → counted (wins p) log + counted (loses p) log ≤ counted (begins p) log)
    → added log x d ≤ counted (begins all) log
unfolding added
added-few log x zero b = every-visit (is_entry x) log
added-few log x (suc zero) b = omega (arith, b (is_entry x), every-visit (is_entry x) log)
added-few log x (suc (suc zero)) b = omega (arith, b (is_entry x), every-visit (is_entry x) log)
added-few log x (suc (suc (suc d))) b = omega (arith, b (is_entry x), every-visit (is_entry x) log)

-- where none began nothing is added
added-nothing : (log : List Event) (x d : ℕ) → counted (begins (is_entry x)) log ≡ 0
    → counted (wins (is_entry x)) log + counted (loses (is_entry x)) log ≤ counted (begins (is_entry x)) log → added log x d ≡ 0
unfolding added
added-nothing log x zero z b = z
added-nothing log x (suc zero) z b = omega arith
added-nothing log x (suc (suc zero)) z b = omega arith
added-nothing log x (suc (suc (suc d))) z b = omega arith

-- ---- what comes back of a run that is not refused

module _ (c : Call) (i : Input) (given : List ℕ) (r : Counted) (s b cs : List ℕ) (m : Meets c i given r s b cs)
    (z : (verdict_of c i given).answer ≡ 0) where
  abbrev e : Ran Noted
  e = ran_if (shares c) i

  abbrev log : List Event
  log = log_of e

  came : counted_at_return r s b cs ≡ counted_end i e given
  came = met-run c i given r s b cs m z

  noted-so : NotesSo (Within i.table) [] i.units e
  noted-so = run-notes (shares c) i (run-accepted c i given z)

  counts-are : cs ≡ tallied log 0 given
  counts-are = ap (λ (z : CountedReturned). z.counts) came

  pub patterns-are : r.seen.patterns ≡ counted (begins any_pattern) log
  patterns-are = ap (λ (z : CountedReturned). z.patterns) came

  pub pairs-are : r.seen.pairs ≡ counted (begins is_pair) log
  pairs-are = ap (λ (z : CountedReturned). z.pairs) came

  pub units-are : r.ended.units ≡ counted (begins all) log
  units-are = ap (λ (z : CountedReturned). z.run.units) came ∙ units-used i e ∙ omega (arith, log-units i e noted-so)

  pub word-is : (x d : ℕ) → d < 4 → 4 * x + 3 < length given → get_or cs (4 * x + d) 0 ≡ get_or given (4 * x + d) 0 + added log x d
  word-is x d l h = ap (λ cs. get_or cs (4 * x + d) 0) counts-are ∙ word-tallied log given x d l h

  pub first-is : (x : ℕ) → 4 * x + 3 < length given → get_or cs (4 * x) 0 ≡ get_or given (4 * x) 0 + counted (begins (is_entry x)) log
  first-is x h = ap (λ cs. get_or cs (4 * x) 0) counts-are ∙ first_word log given x h

  units-up : visits_in (rows i.table) cs + r.seen.patterns + r.seen.pairs ≡ visits_in (rows i.table) given + r.ended.units
  units-up = omega (
    arith,
    ap (visits_in (rows i.table)) counts-are,
    visits-tallied log given (rows i.table) (omega (arith, long-enough c i given z)),
    events-add-up (rows i.table) log (entered-within i.table log (log-visited i e noted-so)),
    patterns-are,
    pairs-are,
    units-are,
  )

  fates-up : (x : ℕ) → 4 * x + 3 < length given
      → get_or cs (4 * x + 1) 0 + get_or cs (4 * x + 2) 0 + get_or cs (4 * x + 3) 0 + get_or given (4 * x) 0
      ≡ get_or cs (4 * x) 0 + get_or given (4 * x + 1) 0 + get_or given (4 * x + 2) 0 + get_or given (4 * x + 3) 0
  unfolding added
  fates-up x h = omega (
    arith,
    first-is x h,
    word-is x 1 (omega arith) h,
    word-is x 2 (omega arith) h,
    word-is x 3 (omega arith) h,
    log-behind i e noted-so (is_entry x),
  )

  no_overflow : i.units < 4294967296 → (j : ℕ) → get_or cs j 0 < 18446744073709551616
  no_overflow l j = ⊎_elim inside (λ h. omega (arith, get_or-eq_default cs 0 {n = j} h)) (below-or-from j (length cs))
    where
      inside : j < length cs → get_or cs j 0 < 18446744073709551616
      inside h =
          let n : length cs ≡ length given = ap length counts-are ∙ length-tallied log 0 given in
          omega (
            arith,
            ap (λ cs. get_or cs j 0) counts-are,
            get_or-tallied log 0 given j (omega arith),
            added-few log ((0 + j) / 4) ((0 + j) % 4) (log-behind i e noted-so),
            (room-given c i given z).small j,
            log-units i e noted-so,
          )

  none-flies : r.ended.answer ≤ 1 → (x : ℕ) → 4 * x + 3 < length given → get_or cs (4 * x + 3) 0 ≡ get_or given (4 * x + 3) 0
  unfolding added
  none-flies l x h =
      let a = ap (λ (z : CountedReturned). z.run.answer) came in
      omega (arith, word-is x 3 (omega arith) h, log-ended i e noted-so (omega (arith, a)) (is_entry x))

  pattern-stays : (x : ℕ) → sort_of (kind_of i.table x) ≡ Pattern → 4 * x + 3 < length given
      → (j : ℕ) → j < 4 → get_or cs (4 * x + j) 0 ≡ get_or given (4 * x + j) 0
  pattern-stays x q h j l = word-is x j l h ∙ omega (arith, nothing j)
    where
      nothing : (j : ℕ) → added log x j ≡ 0
      nothing j = added-nothing log x j (none-begun i.table x q log (log-visited i e noted-so)) (log-behind i e noted-so (is_entry x))

-- either refused, with the counts as given, or run
module _ (c : Call) (i : Input) (given : List ℕ) (r : Counted) (s b cs : List ℕ) (m : Meets c i given r s b cs) where
  as-given : (verdict_of c i given).answer ≢ 0 → (cs ≡ given)
  as-given n = (adds-nothing c i given r s b cs n m).counts

  refused-or-run : {A : Type 0} → ((verdict_of c i given).answer ≢ 0 → A) → ((verdict_of c i given).answer ≡ 0 → A) → A
  refused-or-run f g = ⊎_elim g f (zero_or_not (verdict_of c i given).answer)

pub keeps-length : KeepsLength
keeps-length c i given r s b cs m = refused-or-run c i given r s b cs m
    (λ n. ap length (as-given c i given r s b cs m n))
    (λ z. ap length (counts-are c i given r s b cs m z) ∙ length-tallied (log_of (ran_if (shares c) i)) 0 given)

pub units-add-up : UnitsAddUp
units-add-up c i given r s b cs m = refused-or-run c i given r s b cs m
    (λ n. let u = adds-nothing c i given r s b cs n m in omega (arith, ap (visits_in (rows i.table)) u.counts))
    (units-up c i given r s b cs m)

pub fates-add-up : FatesAddUp
fates-add-up c i given r s b cs m x h = refused-or-run c i given r s b cs m
    (λ n. rw (as-given c i given r s b cs m n) (omega arith))
    (λ z. fates-up c i given r s b cs m z x h)

pub never-overflows : NeverOverflows
never-overflows c i given r s b cs z l m = no_overflow c i given r s b cs m z l

pub ended-none-in-flight : EndedNoneInFlight
ended-none-in-flight c i given r s b cs l m x h = refused-or-run c i given r s b cs m
    (λ n. ap (λ cs. get_or cs (4 * x + 3) 0) (as-given c i given r s b cs m n))
    (λ z. none-flies c i given r s b cs m z l x h)

pub patterns-stay : PatternsStay
patterns-stay c i given r s b cs m x q h j l = refused-or-run c i given r s b cs m
    (λ n. ap (λ cs. get_or cs (4 * x + j) 0) (as-given c i given r s b cs m n))
    (λ z. pattern-stays c i given r s b cs m z x q h j l)
