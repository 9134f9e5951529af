-- `run_indexed` meets its contract: refused, or the end of an accepted run over the lent words with the index built, both cleared.
use mathlib.Core.Path.{◌≡◌, refl, ap, ◌∙◌}
use mathlib.Core.List.{List}
use mathlib.Core.Option.{Option}
use Prim.Native.Nat.{ℕ, ◌/◌}
use native.Mathlib.Omega.{arith}
use lib.ListN.{length, take, drop, replicate}
use Rattle.checks.proofs.Numbers.{answer_ne0}
use Rattle.checks.specs.Checked.{checked}
use Rattle.words.specs.Words.{cleared_from}
use Rattle.meaning.specs.Store.{Input}
use Rattle.index.specs.Lent.{built}
use Rattle.loading.specs.Loaded.{Opened}
use Rattle.calls.specs.Outcome.{end_number, ran_of}
use Rattle.calls.specs.Refused.{lent_signature}
use Rattle.calls.specs.Run.{input}
use Rattle.calls.specs.Indexed.{indexed_at_return, indexed_refused}
use Rattle.std.proofs.lemmas.Result.{err_from_is_err_and}
use Rattle.running.proofs.Whole.{Begun, ready, ended-as, fits_after, table_fits, is-done-end, bound-left, comes_back}
use Rattle.indexed.proofs.Whole.{refused-is, drop-size, indexed-refused, indexed-ran, index-long, accepted}
use Rattle.indexed.proofs.Whole.{Split, nodes-few, mark-inside, held-empty, fits-begun, own-begun, store-end, index-end}
use Rattle.indexed.proofs.run.run_indexed.Goals as goal
use Rattle.indexed.proofs.run.run_indexed.Goals.{In_ok-check_indexed_run, After-load}

-- ---- what is handed over, the signature and the index: not refused

abbrev given : In_ok-check_indexed_run → Input
given c = let a = c.args in input a.table.now (take a.words a.lent.now) a.bindings.now a.mark a.start a.subject a.units

abbrev signed : In_ok-check_indexed_run → Option (List ℕ)
signed c = lent_signature c.args.signature

abbrev spare : In_ok-check_indexed_run → List ℕ
spare c = drop c.args.words c.args.lent.now

passed : (c : In_ok-check_indexed_run) → checked 0 0 ≡ indexed_refused (signed c) (given c) (spare c)
passed c =
    let a = c.args in
    let cut = c.store_words-own.ensures in
    refused-is (signed c) a.table.now a.lent.now a.bindings.now a.mark a.start a.subject a.units a.words c.store_words-own.result (checked 0 0) cut
    (c.in_ok-check_indexed_run.ensures (spare c) a.units (drop-size a.words c.store_words-own.result a.lent.now cut))

-- of the words that are lent the first are the store's
split : (c : In_ok-check_indexed_run) → Split (given c) c.args.lent.now c.args.words c.store_words-own.result (c.store_words-own.result / 8)
split c = record {
  accepted = accepted (signed c) (given c) (spare c) (checked 0 0) (passed c) refl;
  store = refl;
  cut = c.store_words-own.ensures;
  nodes = refl;
  long = index-long (signed c) (given c) (spare c) (checked 0 0) (passed c) refl;
}

-- the words hold the index of the store's nodes
are : (c : After-load) → c.build.new.lent ≡ built (c.store_words-own.result / 8) 0 c.args.mark (cleared_from c.args.lent.now c.store_words-own.result)
are c = c.build.ensures.0 ∙ ap (built (c.store_words-own.result / 8) 0 c.args.mark) c.clear_from.ensures

begun : (c : After-load) {st : List ℕ} → Opened c.args.bindings.now c.args.mark 0 c.args.mark (c.store_words-own.result / 8) st
    → Begun (given (goal.at.opened-st-requires c).In_ok-check_indexed_run) c.load.new.code c.build.new.lent st 0 c.args.mark (c.store_words-own.result / 8)
begun c o =
    let S = split (goal.at.opened-st-requires c).In_ok-check_indexed_run in
    record {
      accepted = S.accepted;
      loaded = c.load.ensures;
      opened = o;
      fits = fits-begun S c.build.new.lent (are c);
      own = own-begun S c.build.new.lent (are c);
      few = c.ranges.units.fits;
    }

-- ---- the needs

pub returns-in_err-check_indexed_run : goal.returns-in_err-check_indexed_run
returns-in_err-check_indexed_run c =
    let a = c.args in
    let p = err_from_is_err_and c.from_residual.result c.from_residual.ensures.1 in
    let cut = c.store_words-own.ensures in
    rw (p.1, p.2)
    (indexed-refused _ _ _ _
    (refused-is (lent_signature a.signature) a.table.now a.lent.now a.bindings.now a.mark a.start a.subject a.units a.words c.store_words-own.result _ cut
    (c.in_err-check_indexed_run.ensures (drop a.words a.lent.now) a.units (drop-size a.words c.store_words-own.result a.lent.now cut)))
    (answer_ne0 _))

pub overflow_cast-nodes : goal.overflow_cast-nodes
overflow_cast-nodes c = omega (arith, nodes-few (split c))

pub build-requires : goal.build-requires
build-requires c =
    let S = split (goal.at.build-requires c).In_ok-check_indexed_run in
    (rw c.clear_from.ensures (held-empty S), mark-inside S)

pub load-requires : goal.load-requires
load-requires c = let S = split (goal.at.load-requires c).In_ok-check_indexed_run in (table_fits _ S.accepted, refl)

pub opened-st-requires : goal.opened-st-requires
opened-st-requires c = let S = split (goal.at.opened-st-requires c).In_ok-check_indexed_run in S.accepted.bindings

pub run_accepted-r-requires : goal.run_accepted-r-requires
run_accepted-r-requires c = ready (begun (goal.at.run_accepted-r-requires c).After-load c.opened-st.ensures)

pub closed-requires : goal.closed-requires
closed-requires c =
    let B = begun (goal.at.closed-requires c).After-load c.opened-st.ensures in
    (B.accepted.bindings, bound-left 0 B.accepted (ended-as B c.run_accepted-r.ensures) (ap end_number c.in-Done.is))

-- at return the store's words are cleared from the mark on, and the index is all zero
pub returns-in-Done : goal.returns-in-Done
returns-in-Done c =
    let p = goal.at.returns-in-Done c in
    let k = p.In_ok-check_indexed_run in
    let B = begun p.After-load c.opened-st.ensures in
    let same : length c.run_accepted-r.new.store ≡ length c.build.new.lent = omega (arith, c.run_accepted-r.auto) in
    let left = fits_after B c.run_accepted-r.ensures in
    let store = ap (take c.args.words) c.clear_from-2.ensures ∙ store-end (split k) c.build.new.lent (are p.After-load) _ _ _ same left in
    let index = ap (drop c.args.words) c.clear_from-2.ensures ∙ index-end (split k) c.build.new.lent (are p.After-load) _ _ _ same left in
    (λ z. indexed_at_return (ran_of c.run_accepted-r.result) (store z) c.closed.new.bindings (index z))
    ∙ (λ z. record {
      run = comes_back 0 B.accepted (ended-as B c.run_accepted-r.ensures) c.closed.new.bindings (λ y. c.closed.ensures) (λ n. absurd (n (ap end_number c.in-Done.is))) z;
      index = replicate (length (spare k)) 0;
    })
    ∙ indexed-ran (signed k) (given k) (spare k) (checked 0 0) (passed k) refl

pub returns-in_default : goal.returns-in_default
returns-in_default c =
    let p = goal.at.returns-in_default c in
    let k = p.In_ok-check_indexed_run in
    let B = begun p.After-load c.opened-st.ensures in
    let same : length c.run_accepted-r.new.store ≡ length c.build.new.lent = omega (arith, c.run_accepted-r.auto) in
    let left = fits_after B c.run_accepted-r.ensures in
    let store = ap (take c.args.words) c.clear_from-2.ensures ∙ store-end (split k) c.build.new.lent (are p.After-load) _ _ _ same left in
    let index = ap (drop c.args.words) c.clear_from-2.ensures ∙ index-end (split k) c.build.new.lent (are p.After-load) _ _ _ same left in
    (λ z. indexed_at_return (ran_of c.run_accepted-r.result) (store z) c.args.bindings.now (index z))
    ∙ (λ z. record {
      run = comes_back 0 B.accepted (ended-as B c.run_accepted-r.ensures) c.args.bindings.now (λ y. absurd (c.in_default.not-Done (is-done-end _ y))) (λ n. refl) z;
      index = replicate (length (spare k)) 0;
    })
    ∙ indexed-ran (signed k) (given k) (spare k) (checked 0 0) (passed k) refl
