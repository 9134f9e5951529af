-- Each number is a count over the trace of a derivation or of its counted beginning, proved under the names of specs/Promises.antt.
-- Assumes nothing.
use mathlib.Core.Path.{◌≡◌, refl, ap, sym, ◌∙◌, subst}
use mathlib.Core.Bool.{Bool, true, false, ◌&&◌}
use mathlib.Core.Logic.{◌≢◌}
use mathlib.Core.List.{List, []}
use Prim.Native.Nat.{ℕ, max}
use native.Mathlib.Omega.{arith}
use Rattle.checks.specs.Kinds.{ours}
use Rattle.meaning.specs.Term.{Term}
use Rattle.meaning.specs.Table.{table}
use Rattle.meaning.specs.Rules.{does}
use Rattle.meaning.specs.Derivation.{What, Event, history, nowhere, Trace, noted, terms, stays, fails}
use Rattle.meaning.specs.Tallies.{is_entry, any_pattern, is_pair, counted, begins, wins, loses, succeeded, has_failed, count}
use Rattle.meaning.specs.System.{Env, trace}
use Rattle.meaning.specs.Beginning.{Given, trace as traceBegun}
use Rattle.meaning.specs.Limits.{Res, ended, lost, cut, Counted as Marked, at, counting, run}
use Rattle.meaning.specs.Mapped.{renoted}
use Rattle.meaning.specs.Store.{Input, Accepted, deepest, Ran, value}
use Rattle.meaning.specs.Demands.{Says, whole, limits, start_visit}
use Rattle.meaning.specs.Shared.{sized, Shares, share-done, share-failed, share-cut, share-room}
use Rattle.meaning.specs.Answer.{number, returned, returned_by}
use Rattle.meaning.proofs.Tallies.{fates-make-visits, history-counts, count-all}
use Rattle.meaning.proofs.Demands.{demand-2, demand-2-values}
use Rattle.meaning.proofs.Shared.{not-shared, all-shared, demand-2-shared}
use Rattle.machine.specs.Stack.{Noted}
use Rattle.machine.proofs.Noting.{all}
use Rattle.tallying.specs.Added.{Counted}
use Rattle.tallying.specs.Added.{CountedReturned, ran_if, log_of, added}
use Rattle.counting.specs.Promises.{Call, plain, indexed, Meets, shares, verdict_of, Does, is-done, has-failed, is_cut, CountOf}
use Rattle.counting.specs.Promises.{EachACount, EachACountIndexed}
use Rattle.counting.proofs.Promises.{met-run, run-accepted, first-is, word-is, patterns-are, pairs-are, units-are}

-- ---- how a run ends, terms as values

abbrev Value : Type 0
Value = Res Term Env (Marked Noted) Noted

-- its answer, and what happened to visits until then
answer_of : Value → ℕ
answer_of (ended t b s u) = 0
answer_of (lost l u) = 1
answer_of (cut c l u) = number c

events : Value → List Event
events (ended t b s u) = s.notes.1
events (lost l u) = l.1
events (cut c l u) = l.1

answer-is : (i : Input) (e : Ran Noted) → answer_of (value e) ≡ (returned i (renoted (λ n. n.0) e)).answer
unfolding value answer_of returned_by renoted
answer-is i (ended k b s u) = refl
answer-is i (lost l u) = refl
answer-is i (cut c l u) = refl

log_is : (e : Ran Noted) → log_of e ≡ events (value e)
unfolding value events log_of
log_is (ended k b s u) = refl
log_is (lost l u) = refl
log_is (cut c l u) = refl

-- ---- what was done

module _ (i : Input) where
  abbrev SaysOf : Given → Value → Type 0
  SaysOf g v = Says history (nowhere, []) (table i.table) g (start_visit i) v

  -- what is so was done, and noted of it
  did : (g : Given) (v : Value) → SaysOf g v → (t : Trace) × Does g i (answer_of v) t × (events v ≡ (noted history t (nowhere, [])).1)
  unfolding answer_of events
  did g (ended k b s u) (d, f, m, n) = (whole (start_visit i) stays (trace d), is-done d f, ap (λ (n : Noted). n.1) n)
  did g (lost l u) (d, f, n) = (whole (start_visit i) fails (trace d), has-failed d f, ap (λ (n : Noted). n.1) n)
  did g (cut c l u) (d, f, m, n) = (traceBegun d, is_cut c d f m, ap (λ (n : Noted). n.1) n)

  ran-did : Accepted i → SaysOf (limits i) (value (ran_if false i))
  ran-did a =
      (demand-2 ours Noted history (nowhere, []) i a (value (ran_if false i))).0
      (ap value (sym (not-shared.1 ours Noted history (nowhere, []) i)))

  -- with an index: what is so with room enough, or its own room is met
  shared-did : Accepted i → (size : ℕ) × (v : Value) × SaysOf (sized size i) v × Shares v (value (ran_if true i))
  shared-did a =
      let (enough, f) = demand-2-shared ours Noted history (nowhere, []) i a in
      let size = max enough i.mark in
      let v = run (counting terms history size) (does (table i.table)) deepest (start_visit i) (at i.mark (nowhere, [])) i.units in
      let says = (demand-2-values Noted history (nowhere, []) (table i.table) (sized size i) (start_visit i) v (omega arith)).0 refl in (
        size,
        v,
        says,
        subst (λ e. Shares v (value e)) (sym (all-shared.1 ours Noted history (nowhere, []) i)) (f size (omega arith) v says),
      )

shares-same : {v v' : Value} → Shares v v' → answer_of v' ≢ 7 → (answer_of v ≡ answer_of v') × (events v ≡ events v')
unfolding answer_of events number
shares-same (share-done l) n = (refl, refl)
shares-same share-failed n = (refl, refl)
shares-same (share-cut c) n = (refl, refl)
shares-same share-room n = absurd (n refl)

-- ---- what was noted of the trace counts as the trace does

module _ (log : List Event) (t : Trace) (l : log ≡ (noted history t (nowhere, [])).1) (p : What → Bool) where
  log-began : counted (begins p) log ≡ count (λ w f. p w) t
  unfolding counted
  log-began = ap (counted (begins p)) l ∙ (history-counts p t (nowhere, [])).0 ∙ omega arith

  log-won : counted (wins p) log ≡ count (λ w f. p w && succeeded f) t
  unfolding counted
  log-won = ap (counted (wins p)) l ∙ (history-counts p t (nowhere, [])).1 ∙ omega arith

  log-lost : counted (loses p) log ≡ count (λ w f. p w && has_failed f) t
  unfolding counted
  log-lost = ap (counted (loses p)) l ∙ (history-counts p t (nowhere, [])).2 ∙ omega arith

module _ (c : Call) (i : Input) (given : List ℕ) (r : Counted) (s b cs : List ℕ) (m : Meets c i given r s b cs)
    (z : (verdict_of c i given).answer ≡ 0) where
  count_of : (t : Trace) → log_of (ran_if (shares c) i) ≡ (noted history t (nowhere, [])).1 → CountOf given r cs t
  unfolding added
  count_of t l = record {
    visited = λ x h. omega (arith, first-is c i given r s b cs m z x h, log-began _ t l (is_entry x));
    succeeded = λ x h. omega (arith, word-is c i given r s b cs m z x 1 (omega arith) h, log-won _ t l (is_entry x));
    failed = λ x h. omega (arith, word-is c i given r s b cs m z x 2 (omega arith) h, log-lost _ t l (is_entry x));
    flying = λ x h. omega (
      arith,
      word-is c i given r s b cs m z x 3 (omega arith) h,
      log-began _ t l (is_entry x),
      log-won _ t l (is_entry x),
      log-lost _ t l (is_entry x),
      fates-make-visits x t,
    );
    patterns = patterns-are c i given r s b cs m z ∙ log-began _ t l any_pattern;
    pairs = pairs-are c i given r s b cs m z ∙ log-began _ t l is_pair;
    units = units-are c i given r s b cs m z ∙ log-began _ t l all ∙ count-all t;
  }

  answer-came : r.ended.answer ≡ answer_of (value (ran_if (shares c) i))
  answer-came =
      ap (λ (r : CountedReturned). r.run.answer) (met-run c i given r s b cs m z) ∙ sym (answer-is i (ran_if (shares c) i))

  -- v is so, and the run has its answer and its notes
  told : (g : Given) (v : Value) → SaysOf i g v → answer_of v ≡ r.ended.answer → events v ≡ log_of (ran_if (shares c) i)
      → (t : Trace) × Does g i r.ended.answer t × CountOf given r cs t
  told g v says a l =
      let (t, d, n) = did i g v says in
      (t, subst (λ (n : ℕ). Does g i n t) a d, count_of t (sym l ∙ n))

pub each-a-count : EachACount
each-a-count g i given r s b cs z m =
    told (plain g) i given r s b cs m z (limits i) (value (ran_if false i)) (ran-did i (run-accepted (plain g) i given z))
    (sym (answer-came (plain g) i given r s b cs m z)) (sym (log_is (ran_if false i)))

pub each-a-count-indexed : EachACountIndexed
each-a-count-indexed g i x given r s b cs x' z n m =
    let (size, v, says, h) = shared-did i (run-accepted (indexed g x) i given z) in
    let a = answer-came (indexed g x) i given r s b cs (x', m) z in
    let (e, l) = shares-same h (λ q. n (a ∙ q)) in
    let (t, d, count) =
    told (indexed g x) i given r s b cs (x', m) z (sized size i) v says (e ∙ sym a) (l ∙ sym (log_is (ran_if true i))) in
    (size, t, d, count)
