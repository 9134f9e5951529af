use mathlib.Core.Path.{◌≡◌, refl, ap, sym, ◌∙◌, subst}
use mathlib.Core.List.{List}
use mathlib.Core.Option.{Option}
use Prim.Native.Nat.{ℕ, ◌*◌, ◌/◌, ◌≤◌}
use native.Mathlib.Omega.{arith}
use borrow.Author.Tests.{eqb-true, eqb-false}
use lib.ListN.{length, take, drop}
use Rattle.words.specs.Words.{rows, cleared_from}
use Rattle.checks.proofs.Numbers.{answer_ne0}
use Rattle.checks.specs.Kinds.{ours}
use Rattle.checks.specs.Checked.{checked}
use Rattle.index.specs.Lent.{built}
use Rattle.calls.specs.Refused.{lent_signature}
use Rattle.calls.specs.Many.{Module, handed}
use Rattle.calls.specs.Indexed.{indexed_many_at_return, indexed_many_refused}
use Rattle.calls.proofs.Turns.{Given, Stands}
use Rattle.calls.proofs.IndexedTurns.{indexed-going-last, indexed-many-refused, indexed-many-ran, indexed-many-size, indexed-many-given, indexed-many-twin, indexed-many-none}
use Rattle.std.proofs.lemmas.Result.{err_from_is_err_and}
use Rattle.running.proofs.Whole.{table_fits}
use Rattle.indexed.proofs.Whole.{drop-size, Split, nodes-few, mark-inside, held-empty, fits-begun, own-begun, store-begun, index-begun, store-end, index-end}
use Rattle.indexed.proofs.Turning.{Turning, many-refused-is, at_store, from-store, turning-first, first_call, first-accepted, turn-ready, turning-next}
use Rattle.indexed.proofs.subjects.run_many_indexed.Goals as goal
use Rattle.indexed.proofs.subjects.run_many_indexed.Goals.{In_ok-check_indexed_many, Else-is_empty, After-load}

-- ---- what is handed to the call, the signature and the index: not refused, so each subject may be run on

abbrev given : In_ok-check_indexed_many → Module
given c =
    let a = c.args in
    handed a.table.now (take a.words a.lent.now) a.bindings.now a.mark a.start a.subjects.now a.units a.results.now

abbrev signed : In_ok-check_indexed_many → Option (List ℕ)
signed c = lent_signature c.args.signature

abbrev spare : In_ok-check_indexed_many → List ℕ
spare c = drop c.args.words c.args.lent.now

passed : (c : In_ok-check_indexed_many) → checked 0 0 ≡ indexed_many_refused (signed c) (given c) (spare c)
passed c =
    let a = c.args in
    let cut = c.store_words-own.ensures in
    many-refused-is (signed c) a.table.now a.lent.now a.bindings.now a.mark a.start a.subjects.now a.units a.results.now a.words c.store_words-own.result (checked 0 0) cut
    (c.in_ok-check_indexed_many.ensures a.results.now (spare c) a.units refl (drop-size a.words c.store_words-own.result a.lent.now cut))

both : (c : In_ok-check_indexed_many) → Given ours (signed c) (given c) × Stands ours (signed c) (given c) (given c).store c.args.mark
both c = indexed-many-given ours (signed c) (given c) (spare c) (checked 0 0) (passed c) refl

size : (c : In_ok-check_indexed_many) → 2 * rows (given c).store ≤ length (spare c)
size c = indexed-many-size ours (signed c) (given c) (spare c) (checked 0 0) (passed c) refl

-- there is a subject, so the first one's run is accepted; of the words that are lent the first are the store's
split : (c : Else-is_empty)
    → Split (first_call (given (goal.at.overflow_cast-nodes c).In_ok-check_indexed_many)) c.args.lent.now c.args.words c.store_words-own.result (c.store_words-own.result / 8)
split c =
    let k = (goal.at.overflow_cast-nodes c).In_ok-check_indexed_many in
    record {
      accepted = first-accepted (both k).0 (both k).1 (eqb-false (length c.args.subjects.now) 0 (sym c.if-is_empty.ensures));
      store = refl;
      cut = c.store_words-own.ensures;
      nodes = refl;
      long = size k;
    }

-- the words hold the index of the store's nodes
are : (c : After-load) → c.build.new.lent ≡ built (c.store_words-own.result / 8) 0 c.args.mark (cleared_from c.args.lent.now c.store_words-own.result)
are c = c.build.ensures.0 ∙ ap (built (c.store_words-own.result / 8) 0 c.args.mark) c.clear_from.ensures

-- before each subject, those before it are run, over any words behind the store's
turning : (c : After-load) (w rs : List ℕ) (m t j : ℕ)
    → ((x : List ℕ) → length x ≡ length (drop c.args.words c.build.new.lent)
    → Turning (lent_signature c.args.signature)
    (handed c.args.table.now (take c.args.words c.build.new.lent) c.args.bindings.now c.args.mark c.args.start c.args.subjects.now c.args.units c.args.results.now) x
    (length c.build.new.lent) (c.store_words-own.result / 8) w rs m t j)
    → (x : List ℕ) → length x ≡ length (drop c.args.words c.args.lent.now)
    → Turning (lent_signature c.args.signature) (given (goal.at.loop-j-init c).In_ok-check_indexed_many) x (length c.build.new.lent) (c.store_words-own.result / 8) w rs m t j
turning c w rs m t j G x e =
    let a = c.args in
    let S = split (goal.at.loop-j-init c).Else-is_empty in
    at_store (lent_signature a.signature) a.table.now a.bindings.now a.mark a.start a.subjects.now a.units a.results.now x (store-begun S c.build.new.lent (are c))
    (G x (e ∙ index-begun S c.build.new.lent (are c)))

-- ---- the needs

pub returns-in_err-check_indexed_many : goal.returns-in_err-check_indexed_many
returns-in_err-check_indexed_many c =
    let a = c.args in
    let p = err_from_is_err_and c.from_residual.result c.from_residual.ensures.1 in
    let cut = c.store_words-own.ensures in
    rw (p.1, p.2)
    (indexed-many-refused ours _ _ _ _
    (many-refused-is (lent_signature a.signature) a.table.now a.lent.now a.bindings.now a.mark a.start a.subjects.now a.units a.results.now a.words c.store_words-own.result _ cut
    (c.in_err-check_indexed_many.ensures a.results.now (drop a.words a.lent.now) a.units refl (drop-size a.words c.store_words-own.result a.lent.now cut)))
    (answer_ne0 _))

pub returns-then-is_empty : goal.returns-then-is_empty
returns-then-is_empty c =
    let k = (goal.at.returns-then-is_empty c).In_ok-check_indexed_many in
    indexed-many-none ours (signed k) (given k) (spare k) (checked 0 0) (passed k) refl (eqb-true (length c.args.subjects.now) 0 (sym c.if-is_empty.ensures))

pub overflow_cast-nodes : goal.overflow_cast-nodes
overflow_cast-nodes c = omega (arith, nodes-few (split c))

pub build-requires : goal.build-requires
build-requires c =
    let S = split (goal.at.build-requires c).Else-is_empty in
    (rw c.clear_from.ensures (held-empty S), mark-inside S)

pub load-requires : goal.load-requires
load-requires c = let S = split (goal.at.load-requires c).Else-is_empty in (table_fits _ S.accepted, refl)

pub loop-j-init : goal.loop-j-init
loop-j-init c =
    let p = goal.at.loop-j-init c in
    let k = p.In_ok-check_indexed_many in
    let a = c.args in
    let S = split p.Else-is_empty in
    λ y e.
    from-store (signed k) a.table.now a.bindings.now a.mark a.start a.subjects.now a.units a.results.now y (store-begun S c.build.new.lent (are c))
    (turning-first (signed k) (given k) y _ (c.store_words-own.result / 8) _ (both k).1 (indexed-many-twin ours (signed k) (given k) (spare k) (checked 0 0) (passed k) refl)
    (fits-begun S c.build.new.lent (are c)) (own-begun S c.build.new.lent (are c)) refl)

pub opened-st-requires : goal.opened-st-requires
opened-st-requires c = (both (goal.at.opened-st-requires c).In_ok-check_indexed_many).0.bindings

pub run_accepted-r-requires : goal.run_accepted-r-requires
run_accepted-r-requires c =
    let p = goal.at.run_accepted-r-requires c in
    let k = p.In_ok-check_indexed_many in
    turn-ready (both k).0 (spare k) (size k) (turning p.After-load _ _ _ _ _ c.loop-j.invariant (spare k) refl) c.loop-j-test.true c.load.ensures c.opened-st.ensures c.ranges.units.fits

pub put_five-requires : goal.put_five-requires
put_five-requires c =
    let p = goal.at.put_five-requires c in
    let k = p.In_ok-check_indexed_many in
    let G = turning p.After-load _ _ _ _ _ c.loop-j.invariant (spare k) refl in
    omega (arith, c.loop-j-test.true, G.going.long, (both k).0.results)

pub loop-j-preserved : goal.loop-j-preserved
loop-j-preserved c =
    let p = goal.at.loop-j-preserved c in
    let k = p.In_ok-check_indexed_many in
    let a = c.args in
    let S = split p.Else-is_empty in
    λ y e.
    let even = e ∙ sym (index-begun S c.build.new.lent (are p.After-load)) in
    rw (c.put_five.ensures, c.numbers.ensures)
    (from-store (signed k) a.table.now a.bindings.now a.mark a.start a.subjects.now a.units a.results.now y (store-begun S c.build.new.lent (are p.After-load))
    (turning-next (both k).0 y (subst (λ (n : ℕ). 2 * rows (given k).store ≤ n) (sym even) (size k)) (turning p.After-load _ _ _ _ _ c.loop-j.invariant y even) c.loop-j-test.true c.load.ensures
    c.opened-st.ensures c.ranges.units.fits (omega (arith, c.run_accepted-r.auto)) c.run_accepted-r.ensures))

pub returns : goal.returns
returns c =
    let p = goal.at.returns c in
    let k = p.In_ok-check_indexed_many in
    let l = p.After-load in
    let S = split p.Else-is_empty in
    let G = turning l _ _ _ _ _ c.loop-j.invariant (spare k) refl in
    let store = ap (take c.args.words) c.clear_from-2.ensures ∙ store-end S c.build.new.lent (are l) _ _ _ G.wide G.fits in
    let index = ap (drop c.args.words) c.clear_from-2.ensures ∙ index-end S c.build.new.lent (are l) _ _ _ G.wide G.fits in
    let some = eqb-false (length c.args.subjects.now) 0 (sym c.if-is_empty.ensures) in
    let last =
    indexed-going-last ours (both k).0 (spare k) (size k) _ _ _ _ G.going (omega (arith, G.going.few, c.loop-j-test.false))
    (omega (arith, some, G.going.few, c.loop-j-test.false)) in
    (λ z. indexed_many_at_return (checked 0 0) c.loop-j.results (store z) (index z))
    ∙ (λ z. let u = sym last z in indexed_many_at_return (checked 0 0) u.results u.store u.index)
    ∙ indexed-many-ran ours (signed k) (given k) (spare k) (checked 0 0) (passed k) refl
