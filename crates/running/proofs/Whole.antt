-- A run that was not refused: what the engine needs is there, and its answer is the run over the words.
use mathlib.Core.Path.{◌≡◌, refl, ap, sym, ◌∙◌, subst}
use mathlib.Core.Bool.{Bool, true, false}
use mathlib.Core.Option.{Option, some}
use mathlib.Core.List.{List}
use Prim.Native.Nat.{ℕ, zero, suc, ◌-◌, ◌*◌, ◌%◌, ◌≤◌, ◌<◌}
use native.Mathlib.Omega.{arith}
use lib.Dec.{eqb}
use lib.ListN.{length, get_or, take}
use borrow.Author.Tests.{eq-eqb, ne_eqb, lt-ltb, le-ltb}
use Rattle.checks.specs.Kinds.{ours, variables}
use Rattle.words.specs.Words.{word_at, rows, cleared_from}
use Rattle.std.specs.Prelude.{if◌then◌else◌, Err}
use Rattle.checks.specs.Checked.{Checked, checked, table_checked}
use Rattle.checks.specs.declared.refusal.Refusal.{Refusal}
use Rattle.checks.specs.Numbers.{answer_of as refusal_number, checked_of}
use Rattle.checks.proofs.Numbers.{answer_ne0}
use Rattle.checks.specs.Good.{good_node}
use Rattle.checks.specs.Promises.{AllGood, StoreFits}
use Rattle.checks.proofs.Promises.{table_passes, store_passes}
use Rattle.meaning.specs.Bindings.{Bindings}
use Rattle.meaning.specs.Table.{table}
use Rattle.meaning.specs.Rules.{apply, does}
use Rattle.meaning.specs.Limits.{Limit, units, room, nesting, unbound, ended, lost, cut, at, run}
use Rattle.meaning.specs.Derivation.{places, nowhere}
use Rattle.meaning.specs.Store.{State, Ran, Input, Accepted, named, bindings, ran, ran_by, rest, on as onWords, stored as plain}
use Rattle.meaning.specs.Shared.{shared, shared_ran_by}
use Rattle.meaning.proofs.Shared.{shared-leaves}
use Rattle.meaning.proofs.Checked.{Node, good-of-node, store-filled}
use Rattle.meaning.proofs.Words.{same-node}
use Rattle.index.specs.Run.{lending, FitsRoom, Fitting, SameRoom, own_words, own_ran}
use Rattle.index.proofs.Running.{own-word, lent-is-plain, lent-is-shared}
use Rattle.meaning.specs.Answer.{number, place_of, binding_words, returned, returned_by}
use Rattle.meaning.specs.Demands.{Leaves}
use Rattle.meaning.proofs.Tests.{impossible}
use Rattle.meaning.proofs.Falling.{units_left, units-fall}
use Rattle.meaning.proofs.Demands.{over-the-words}
use Rattle.state.specs.declared.answers.Answer.{Answer}
use Rattle.state.specs.declared.answers.Answer.TheVariants.{Done, Failed, Cut}
use Rattle.state.specs.Answers.{packed, node_in, units_in, units_half, room_half, answer_of}
use Rattle.state.specs.Noted.{Standing, missed_at, on, left_of, stored, Ran as LentRan}
use Rattle.state.specs.Record.{mark_of, miss_of, room_of, top_of, nodes_of, standing, missing, held}
use Rattle.state.specs.Visits.{visit, limit_of, meaning, Entries, Steady, Gives}
use Rattle.cycle.specs.Cycle.{Ready}
use Rattle.state.proofs.Holding.{further, mark-missing, notes-missing, held-missing, framed-missing}
use Rattle.leaves.proofs.Keeping.{makeable, apply-leaves, apply-rooms, steady-missing}
use Rattle.state.proofs.AnswerWords.{node-packed, units-packed, out-answer}
use Rattle.loading.specs.Loaded.{Loaded, Opened}
use Rattle.loading.proofs.Fetching.{table-loaded, entries-loaded}
use Rattle.loading.proofs.Hinting.{hints-loaded}
use Rattle.calls.specs.Refused.{refused_with}
use Rattle.calls.specs.Run.{input, at_return, run_with, run_with_by, numbers, words_of}
use Rattle.calls.specs.declared.End.{End}
use Rattle.calls.specs.declared.End.TheVariants as end
use Rattle.calls.specs.Outcome.{end_number, outcome_of}
use Rattle.calls.proofs.Accepting.{accepted-with}
use Rattle.running.specs.Ends.{cut_number, cut_place, Ends, own_run, RanAccepted}
use Rattle.calls.specs.Outcome.{Outcome}

-- a binding's word that is not above the mark names a node below it
below : (n j m : ℕ) → n ≤ m → named n ≡ some j → j < m
unfolding named
below zero j m h e = let z : ◌≡◌ {A = ℕ} 0 1 = cc in absurd (omega arith)
below (suc k) j m h e = let z : k ≡ j = cc in omega arith

-- a table that passed the check has at most 4,096 entries
table-short : (t : List ℕ) → table_checked t ≡ checked 0 0 → rows t ≤ 4096
table-short t e = omega (arith, ((table_passes ours t).0 (ap (λ (c : Checked). c.answer) e)).0.most)

-- the run over the store's own words, by the room: the plain store's, or the variant's where there is an index
abbrev pub ran_for : ℕ → Input → Ran ℕ
ran_for zero i = shared_ran_by ours places nowhere i
ran_for (suc r) i = ran places nowhere i

pub ran-plain : (room : ℕ) (i : Input) → 0 < room → ran_for room i ≡ ran places nowhere i
ran-plain zero i l = absurd (omega arith)
ran-plain (suc r) i l = refl

pub leaves-for : (room : ℕ) (i : Input) → Accepted i → Leaves i.store i.mark (ran_for room i)
leaves-for zero i a = shared-leaves ours ℕ places nowhere i a
leaves-for (suc r) i a = (over-the-words ours ℕ places nowhere i a).1

-- a store without an index fits its room
pub fits-store : (i : Input) → Accepted i → (t n : ℕ) → FitsRoom (rows i.store) i.store i.mark t n
fits-store i a t n = go (rows i.store) refl ((store_passes i.store i.mark).0 (ap (λ (c : Checked). c.answer) a.store)).0
  where
    go : (r : ℕ) → rows i.store ≡ r → StoreFits i.store i.mark → FitsRoom r i.store i.mark t n
    go zero e p = absurd (omega (arith, a.subject, p.1))
    go (suc r) e p = (e, omega (arith, p.1), omega (arith, p.0.most))

pub own-store : (room n : ℕ) (w : List ℕ) → 0 < room → own_words room n w ≡ w
own-store zero n w l = absurd (omega arith)
own-store (suc r) n w l = refl

-- a run on accepted input begins: the table is loaded into c, the bindings and the mark are in st; the store's words are those of w, which is
-- lent
pub record Begun (i : Input) (c w st : List ℕ) (room top n : ℕ) : Type 0 where
  pub accepted : Accepted i
  pub loaded : Loaded i.table c
  pub opened : Opened i.bindings i.mark room top n st
  pub fits : FitsRoom room w i.mark top n
  pub own : own_words room n w ≡ i.store
  pub few : i.units < 4294967296

module _ {i : Input} {c w st : List ℕ} {room top n : ℕ} (B : Begun i c w st room top n) where
  entries : Entries c
  entries = entries-loaded B.accepted.table B.loaded

  subject-is : node_in (packed i.subject i.units) ≡ i.subject
  subject-is = node-packed i.subject i.units B.few

  good : (j : ℕ) → j < i.mark → Node w j
  good j h =
      same-node i.store w j (λ x l. sym (ap (λ s. word_at s j x) (sym B.own) ∙ own-word room w i.mark top n B.fits j x h l))
      ((store-filled i.store i.mark B.accepted.store).node j h)

  bounded : (v j : ℕ) → bindings i.bindings v ≡ some j → j < i.mark
  unfolding bindings
  bounded v j e = below (get_or i.bindings v 0) j i.mark (B.accepted.bound v) e

  steady : Steady w (at i.mark (lending 0 room top n)) (bindings i.bindings)
  steady = record { fits = B.fits; used = omega (arith, B.accepted.subject); good = λ j h. good-of-node w j (good j h); bound = bounded }

  mark-is : mark_of st ≡ i.mark
  mark-is = ap (λ m. m.mark) B.opened.stands

  pub ready : Ready c w st i.start (packed i.subject i.units)
  ready = record {
    entries = entries;
    hints = hints-loaded B.accepted.table B.loaded;
    long = B.opened.long;
    inside = omega (arith, B.accepted.inside, table-short i.table B.accepted.table);
    steady = subst (λ m. Steady w m (held st)) (sym B.opened.stands) (subst (Steady w (at i.mark (lending 0 room top n))) (sym B.opened.holds) steady);
    subject = rw (subject-is, mark-is) B.accepted.subject;
  }

  -- over the lent words it is the run over the store's own
  beneath : (r : ℕ) → room ≡ r → own_ran room n (visit c 4096 (apply i.start i.subject (bindings i.bindings)) w (at i.mark (lending nowhere room top n)) i.units) ≡ ran_for r i
  unfolding visit ran_by shared_ran_by
  beneath zero e =
      (λ z. own_ran (e z) n (run stored (does (table c)) 4096 (apply i.start i.subject (bindings i.bindings)) (on w (at i.mark (lending nowhere (e z) top n))) i.units))
      ∙ lent-is-shared places (table c) (makeable c entries) (bindings i.bindings) i.subject i.start 4096 i.units nowhere n w
      i.mark top (subst (λ r. FitsRoom r w i.mark top n) e B.fits) good bounded B.accepted.subject
      ∙ (λ z. run (shared places) (does (table-loaded B.loaded z)) 4096 (apply i.start i.subject (bindings i.bindings)) (onWords (own_is z) i.mark nowhere) i.units)
    where
      own_is : take (8 * n) w ≡ i.store
      own_is = subst (λ r. own_words r n w ≡ i.store) e B.own
  beneath (suc r) e =
      (λ z. own_ran (e z) n (run stored (does (table c)) 4096 (apply i.start i.subject (bindings i.bindings)) (on w (at i.mark (lending nowhere (e z) top n))) i.units))
      ∙ lent-is-plain places (table c) (makeable c entries) (bindings i.bindings) i.subject i.start 4096 i.units nowhere r n w
      i.mark top (subst (λ r. FitsRoom r w i.mark top n) e B.fits) good bounded B.accepted.subject
      ∙ (λ z. run (plain places) (does (table-loaded B.loaded z)) 4096 (apply i.start i.subject (bindings i.bindings)) (onWords (own_is z) i.mark nowhere) i.units)
    where
      own_is : w ≡ i.store
      own_is = subst (λ r. own_words r n w ≡ i.store) e B.own

  -- the run that the engine makes is the run over the words
  pub is-ran : own_run c w st i.start i.subject i.units ≡ ran_for room i
  is-ran =
      (λ z. own_ran (B.opened.stands z).notes.room (B.opened.stands z).notes.nodes (visit c 4096 (apply i.start i.subject (B.opened.holds z)) w (missed_at nowhere (B.opened.stands z)) i.units))
      ∙ beneath room refl

  -- so its end is that of the run over the words, and what is lent fits still
  module _ {r : Outcome} {st' w' : List ℕ} (e : RanAccepted c w st i.start i.subject i.units r st' w') where
    pub ended-as : Ends (ran_for room i) i.subject i.mark i.units r st' (own_words room n w')
    ended-as =
        subst (λ (m : Standing). Ends (ran_for room i) i.subject m.mark i.units r st' (own_words m.notes.room m.notes.nodes w')) B.opened.stands
        (subst (λ x. Ends x i.subject (mark_of st) i.units r st' (own_words (room_of st) (nodes_of st) w')) is-ran e.ends)

    pub fits_after : FitsRoom room w' r.mark (top_of st') n
    fits_after = subst (λ (m : Standing). FitsRoom m.notes.room w' r.mark (top_of st') m.notes.nodes) B.opened.stands e.fits

-- a store without an index: its room is its nodes
pub store-small : (i : Input) → Accepted i → rows i.store < 4294967296
store-small i a = omega (arith, ((store_passes i.store i.mark).0 (ap (λ (c : Checked). c.answer) a.store)).0.0.most)

some-nodes : (i : Input) → Accepted i → 0 < rows i.store
some-nodes i a = omega (arith, a.subject, ((store_passes i.store i.mark).0 (ap (λ (c : Checked). c.answer) a.store)).0.1)

begun-plain : {i : Input} {c st : List ℕ} {n : ℕ} → Accepted i → Loaded i.table c → n ≡ rows i.store → Opened i.bindings i.mark n 0 0 st → i.units < 4294967296
    → Begun i c i.store st n 0 0
begun-plain {i} {c} {st} {n} a l e o few = record {
  accepted = a;
  loaded = l;
  opened = o;
  fits = subst (λ n. FitsRoom n i.store i.mark 0 0) (sym e) (fits-store i a 0 0);
  own = own-store n 0 i.store (rw e (some-nodes i a));
  few = few;
}

pub ready-plain : {i : Input} {c st : List ℕ} {n : ℕ} → Accepted i → Loaded i.table c → n ≡ rows i.store → Opened i.bindings i.mark n 0 0 st → i.units < 4294967296
    → Ready c i.store st i.start (packed i.subject i.units)
ready-plain a l e o few = ready (begun-plain a l e o few)

pub ended-plain : {i : Input} {c st : List ℕ} {n : ℕ} {r : Outcome} {st' w' : List ℕ} → Accepted i → Loaded i.table c → n ≡ rows i.store → Opened i.bindings i.mark n 0 0 st
    → i.units < 4294967296 → RanAccepted c i.store st i.start i.subject i.units r st' w' → Ends (ran places nowhere i) i.subject i.mark i.units r st' w'
ended-plain {i} {n = n} {r} {st'} {w'} a l e o few h =
    let some : 0 < n = rw e (some-nodes i a) in
    subst (λ x. Ends x i.subject i.mark i.units r st' w') (ran-plain n i some)
    (subst (Ends (ran_for n i) i.subject i.mark i.units r st') (own-store n 0 w' some) (ended-as (begun-plain a l e o few) h))

-- where a match gave up is of no account for what a visit requires
pub ready-missing : {c w : List ℕ} {e g : ℕ} (st : List ℕ) (p : ℕ) → Ready c w st e g → Ready c w (missing st p) e g
ready-missing st p r = record {
  entries = r.entries;
  hints = r.hints;
  long = (framed-missing further st p).long ∙ r.long;
  inside = r.inside;
  steady = rw (held-missing further st p) (steady-missing st p r.steady);
  subject = rw (mark-missing further st p) r.subject;
}

-- What the engine answers, read, as a run's end: the numbers are those of the end, and the units left are at most those given. No
-- match has given up when it begins.
module _ (c w st : List ℕ) (e k u : ℕ) (few : u < 4294967296) (got : ℕ) (g : ℕ) (ge : g ≡ packed k u) (ready : Ready c w st e (packed k u)) (st' w' : List ℕ)
    (gives : Gives (visit c 4096 (apply e (node_in g) (held (missing st nowhere))) w (standing (missing st nowhere)) (units_in g))
    (missing st nowhere) got st' w') (a : Answer) (read : a ≡ answer_of got) where
  abbrev lent_run : LentRan
  lent_run = visit c 4096 (apply e k (held st)) w (missed_at nowhere (standing st)) u

  stands-as : standing (missing st nowhere) ≡ missed_at nowhere (standing st)
  stands-as = λ z. at (mark-missing further st nowhere z) (notes-missing further st nowhere ready.long z)

  ends-answer : lent_run ≡ meaning a st' w'
  ends-answer =
      (λ z. visit c 4096 (apply e (sym (ap node_in ge ∙ node-packed k u few) z) (sym (held-missing further st nowhere) z)) w (sym stands-as z) (sym (ap units_in ge ∙ units-packed k u few) z))
      ∙ sym gives.is ∙ out-answer st' w' got a read

  few-left : units_left lent_run ≤ u
  unfolding visit
  few-left = units-fall stored (does (table c)) 4096 (apply e k (held st)) (on w (missed_at nowhere (standing st))) u

  begins : Steady w (missed_at nowhere (standing st)) (held st)
  begins = subst (λ m. Steady w m (held st)) stands-as (steady-missing st nowhere ready.steady)

  subject-below : k < mark_of st
  subject-below = subst (λ k. k < mark_of st) (node-packed k u few) ready.subject

  left-fits : Fitting (mark_of st) lent_run × SameRoom (room_of st) (nodes_of st) lent_run
  left-fits = ((apply-leaves begins c ready.entries 4096 e k u subject-below).1, apply-rooms begins c ready.entries 4096 e k u subject-below)

  module _ (x v : ℕ) (q : a ≡ Done x v) where
    is-done : lent_run ≡ ended x (held st') (on w' (standing st')) v
    unfolding meaning
    is-done = ends-answer ∙ rw q

    pub done-left : v ≤ u
    unfolding units_left
    done-left = subst (λ r. units_left r ≤ u) is-done few-left

    own-done : own_run c w st e k u ≡ ended x (held st') (onWords (own_words (room_of st) (nodes_of st) w') (mark_of st') (miss_of st')) v
    unfolding own_ran
    own-done = ap (own_ran (room_of st) (nodes_of st)) is-done

    pub done-ends : RanAccepted c w st e k u (record { answer = 0; place = 0; subject = x; mark = mark_of st'; units = u - v }) st' w'
    unfolding numbers words_of
    done-ends =
        let f = subst (λ r. Fitting (mark_of st) r × SameRoom (room_of st) (nodes_of st) r) is-done left-fits in
        record {
          ends = record { numbers = rw own-done; words = rw own-done; bound = λ y z b s f. let h = sym own-done ∙ f in cc };
          fits = rw (← f.1.0, ← f.1.1) f.0;
        }

  module _ (v : ℕ) (q : a ≡ Failed v) where
    is-failed : lent_run ≡ lost (left_of w' (standing st')) v
    unfolding meaning
    is-failed = ends-answer ∙ rw q

    pub failed-left : v ≤ u
    unfolding units_left
    failed-left = subst (λ r. units_left r ≤ u) is-failed few-left

    own-failed : own_run c w st e k u ≡ lost (rest (own_words (room_of st) (nodes_of st) w') (miss_of st')) v
    unfolding own_ran
    own-failed = ap (own_ran (room_of st) (nodes_of st)) is-failed

    pub failed_ends : RanAccepted c w st e k u (record { answer = 1; place = miss_of st'; subject = k; mark = mark_of st; units = u - v }) st' w'
    unfolding numbers words_of
    failed_ends =
        let f = subst (λ r. Fitting (mark_of st) r × SameRoom (room_of st) (nodes_of st) r) is-failed left-fits in
        record {
          ends = record { numbers = rw own-failed; words = rw own-failed; bound = λ y z b s f. impossible (let h = sym own-failed ∙ f in cc) };
          fits = rw (← f.1.0, ← f.1.1) f.0;
        }

  module _ (d : ℕ) (q : a ≡ Cut d) where
    is_cut : lent_run ≡ cut (limit_of d) (left_of w' (standing st')) (units_in d)
    unfolding meaning
    is_cut = ends-answer ∙ rw q

    pub cut_left : units_in d ≤ u
    unfolding units_left
    cut_left = subst (λ r. units_left r ≤ u) is_cut few-left

    own-cut : own_run c w st e k u ≡ cut (limit_of d) (rest (own_words (room_of st) (nodes_of st) w') (miss_of st')) (units_in d)
    unfolding own_ran
    own-cut = ap (own_ran (room_of st) (nodes_of st)) is_cut

    pub cut-ends : {n p : ℕ} → n ≡ cut_number d → p ≡ cut_place d → RanAccepted c w st e k u (record { answer = n; place = p; subject = k; mark = mark_of st; units = u - units_in d }) st' w'
    unfolding numbers words_of
    cut-ends z y =
        let f = subst (λ r. Fitting (mark_of st) r × SameRoom (room_of st) (nodes_of st) r) is_cut left-fits in
        record {
          ends = record { numbers = rw (z, y, own-cut); words = rw own-cut; bound = λ y z b s f. impossible (let h = sym own-cut ∙ f in cc) };
          fits = rw (← f.1.0, ← f.1.1) f.0;
        }

-- no limit's answer is 0
limit-answer : (c : Limit) → 0 < number c
unfolding number
limit-answer units = omega arith
limit-answer room = omega arith
limit-answer nesting = omega arith
limit-answer (unbound v) = omega arith

-- a run whose answer is 0 is done
is-ended : (k m u : ℕ) (o : Ran ℕ) → (numbers k m u o).answer ≡ 0 → (x v : ℕ) × (b : Bindings ℕ) × (s : State ℕ) × (o ≡ ended x b s v)
unfolding numbers number
is-ended k m u (ended x b s v) e = (x, v, b, s, refl)
is-ended k m u (lost l v) e = absurd (omega arith)
is-ended k m u (cut units l v) e = absurd (omega arith)
is-ended k m u (cut room l v) e = absurd (omega arith)
is-ended k m u (cut nesting l v) e = absurd (omega arith)
is-ended k m u (cut (unbound y) l v) e = absurd (omega arith)

-- the end of an accepted run: r are its numbers, st is the record and w the store's words
module _ (room : ℕ) {i : Input} (a : Accepted i) {r : Outcome} {st w : List ℕ} (ends : Ends (ran_for room i) i.subject i.mark i.units r st w) where
  passes : StoreFits i.store i.mark × AllGood (good_node i.store) i.mark
  passes = (store_passes i.store i.mark).0 (ap (λ (c : Checked). c.answer) a.store)

  -- the mark is at most that of a full store
  pub mark-left : r.mark ≤ 131072
  unfolding numbers
  mark-left = subst (λ (r : Outcome). r.mark ≤ 131072) (sym ends.numbers) (go (ran_for room i) (leaves-for room i a))
    where
      go : (o : Ran ℕ) → Leaves i.store i.mark o → (numbers i.subject i.mark i.units o).mark ≤ 131072
      go (ended x b s v) l = omega (arith, l.2.fits, l.1.long, passes.0.0.most)
      go (lost l v) k = omega (arith, passes.0.0.most, passes.0.1)
      go (cut c l v) k = omega (arith, passes.0.0.most, passes.0.1)

  done_end : r.answer ≡ 0 → (x v : ℕ) × (b : Bindings ℕ) × (s : State ℕ) × (ran_for room i ≡ ended x b s v)
  done_end z = is-ended i.subject i.mark i.units (ran_for room i) (sym (ap (λ (r : Outcome). r.answer) ends.numbers) ∙ z)

  -- where it is done the bound nodes are in the store
  pub bound-left : r.answer ≡ 0 → (v j : ℕ) → held st v ≡ some j → j < 131072
  bound-left z v j f =
      let (x, u, b, s, e) = done_end z in
      let l = subst (Leaves i.store i.mark) e (leaves-for room i a) in
      omega (arith, l.2.bound v j (ap (λ (g : Bindings ℕ). g v) (sym (ends.bound x u b s e)) ∙ f), l.2.fits, l.1.long, passes.0.0.most)

  -- what comes back: the store is cleared from the mark on; the bindings are the record's where it is done, else as given
  come : (o : Ran ℕ) → ran_for room i ≡ o → (b' : List ℕ) → (r.answer ≡ 0 → b' ≡ binding_words variables (held st)) → ((r.answer ≡ 0 → ⊥) → b' ≡ i.bindings)
      → at_return r (cleared_from w (8 * r.mark)) b' ≡ returned i o
  unfolding numbers words_of returned_by number place_of
  come (ended x b s v) e b' y n =
      let p : r ≡ numbers i.subject i.mark i.units (ended x b s v) = ends.numbers ∙ ap (numbers i.subject i.mark i.units) e in
      let q : w ≡ s.words = ends.words ∙ ap words_of e in
      let h : b' ≡ binding_words variables b = y (ap (λ (r : Outcome). r.answer) p) ∙ ap (binding_words variables) (ends.bound x v b s e) in
      λ z. at_return (p z) (cleared_from (q z) (8 * (p z).mark)) (h z)
  come (lost l v) e b' y n =
      let p : r ≡ numbers i.subject i.mark i.units (lost l v) = ends.numbers ∙ ap (numbers i.subject i.mark i.units) e in
      let q : w ≡ l.words = ends.words ∙ ap words_of e in
      let h : b' ≡ i.bindings = n (λ z. omega (arith, ap (λ (r : Outcome). r.answer) p)) in
      λ z. at_return (p z) (cleared_from (q z) (8 * (p z).mark)) (h z)
  come (cut c l v) e b' y n =
      let p : r ≡ numbers i.subject i.mark i.units (cut c l v) = ends.numbers ∙ ap (numbers i.subject i.mark i.units) e in
      let q : w ≡ l.words = ends.words ∙ ap words_of e in
      let h : b' ≡ i.bindings = n (λ z. omega (arith, ap (λ (r : Outcome). r.answer) p, limit-answer c)) in
      λ z. at_return (p z) (cleared_from (q z) (8 * (p z).mark)) (h z)

  pub comes_back : (b' : List ℕ) → (r.answer ≡ 0 → b' ≡ binding_words variables (held st)) → ((r.answer ≡ 0 → ⊥) → b' ≡ i.bindings)
      → at_return r (cleared_from w (8 * r.mark)) b' ≡ returned i (ran_for room i)
  comes_back b' y n = come (ran_for room i) refl b' y n

-- ---- a refusal, and none

-- the end with the number 0
pub is-done-end : (e : End) → end_number e ≡ 0 → e ≡ end.Done
is-done-end end.Done z = refl
is-done-end (end.Failed p) z = absurd (omega arith)
is-done-end end.Units z = absurd (omega arith)
is-done-end end.Room z = absurd (omega arith)
is-done-end end.Nesting z = absurd (omega arith)
is-done-end (end.Unbound v) z = absurd (omega arith)
is-done-end end.Unfinished z = absurd (omega arith)

module _ (g : Option (List ℕ)) (t s b : List ℕ) (m e k u : ℕ) where
  pub run-refused : (r : Refusal) → checked_of (Err r) ≡ refused_with g t s b m e k → at_return (outcome_of (Err r) k m) s b ≡ run_with g (input t s b m e k u)
  unfolding run_with_by
  run-refused r is = rw (← is, ne_eqb (refusal_number r) 0 (answer_ne0 r))

  module _ (is : checked 0 0 ≡ refused_with g t s b m e k) where
    none-refused : eqb (refused_with g t s b m e k).answer 0 ≡ true
    none-refused = eq-eqb (refused_with g t s b m e k).answer 0 (ap (λ (c : Checked). c.answer) (sym is))

    -- what is not refused is accepted
    pub accepted : Accepted (input t s b m e k u)
    accepted = (accepted-with ours g (input t s b m e k u) none-refused).1

    pub run_ran : returned (input t s b m e k u) (ran places nowhere (input t s b m e k u)) ≡ run_with g (input t s b m e k u)
    unfolding run_with_by
    run_ran = sym (rw none-refused)

-- the lengths that a run's copies need
pub table_fits : (i : Input) → Accepted i → length i.table ≤ 32768
table_fits i a = ((table_passes ours i.table).0 (ap (λ (c : Checked). c.answer) a.table)).0.most

-- the answer of a cut-off's word and its place, by its upper half
module _ (c : ℕ) where
  pub cut-twelve : node_in c < units_half → 12 ≡ cut_number c
  unfolding limit_of number
  cut-twelve l = sym (rw (lt-ltb (node_in c) units_half l))

  pub cut-six : node_in c ≡ units_half → 6 ≡ cut_number c
  unfolding limit_of number
  cut-six e = sym (rw e)

  pub cut_seven : node_in c ≡ room_half → 7 ≡ cut_number c
  unfolding limit_of number
  cut_seven e = sym (rw e)

  pub cut-eight : units_half ≤ node_in c → (node_in c ≡ units_half → ⊥) → (node_in c ≡ room_half → ⊥) → 8 ≡ cut_number c
  unfolding limit_of number
  cut-eight l n m = sym (rw (le-ltb (node_in c) units_half l, ne_eqb (node_in c) units_half n, ne_eqb (node_in c) room_half m))

  pub place-unbound : node_in c < units_half → node_in c % 64 ≡ cut_place c
  unfolding limit_of place_of
  place-unbound l = sym (rw (lt-ltb (node_in c) units_half l))

  pub place-limit : units_half ≤ node_in c → 0 ≡ cut_place c
  unfolding limit_of place_of
  place-limit l = sym (rw (le-ltb (node_in c) units_half l) (go (eqb (node_in c) units_half) (eqb (node_in c) room_half)))
    where
      go : (t s : Bool) → place_of (if t then units else if s then room else nesting) ≡ 0
      go true s = refl
      go false true = refl
      go false false = refl
