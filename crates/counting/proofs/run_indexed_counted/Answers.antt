-- `run_indexed_counted` meets its contract. Assumes nothing.
use mathlib.Core.Path.{◌≡◌, refl, ap, sym, ◌∙◌, subst}
use mathlib.Core.Bool.{true}
use mathlib.Core.List.{List}
use mathlib.Core.Option.{Option}
use Prim.Native.Nat.{ℕ, min}
use native.Mathlib.Omega.{arith}
use lib.ListN.{length, take, drop}
use lib.Seq.{length-take-le}
use Rattle.std.proofs.lemmas.Result.{err_from_is_err_and}
use Rattle.words.specs.Words.{cleared_from}
use Rattle.checks.specs.Checked.{Checked, checked}
use Rattle.checks.proofs.Numbers.{answer_ne0}
use Rattle.meaning.specs.Store.{Input, Accepted}
use Rattle.calls.specs.Refused.{lent_signature}
use Rattle.calls.specs.Run.{input}
use Rattle.calls.specs.Indexed.{indexed_refused}
use Rattle.indexed.proofs.Whole.{refused-is, drop-size, accepted as accepted-by}
use Rattle.tallying.specs.Added.{counted_end, ran_if}
use Rattle.counting.proofs.Refusing.{refused-length, before-counts, by-counts, not-refused, indexed-counted-refused, indexed-counted-run}
use Rattle.counting.proofs.Refusing.{counts-room, entries-few}
use Rattle.counting.proofs.Sharing.{own-before, own-long, ended-with}
use Rattle.counting.proofs.run_indexed_counted.Goals as goal
use Rattle.counting.proofs.run_indexed_counted.Goals.{In_ok-check_indexed_run}

-- ---- what is handed over, the signature and the index: not refused

abbrev given : In_ok-check_indexed_run → Input
given c = let a = c.args in input a.table.now (take a.words a.lent.now) a.bindings.now a.mark a.start a.subject a.units

abbrev signed : In_ok-check_indexed_run → Option (List ℕ)
signed c = lent_signature c.args.signature

abbrev spare : In_ok-check_indexed_run → List ℕ
spare c = drop c.args.words c.args.lent.now

passed : (c : In_ok-check_indexed_run) → checked 0 0 ≡ indexed_refused (signed c) (given c) (spare c)
passed c =
    let a = c.args in
    let cut = c.store_words-own.ensures in
    refused-is (signed c) a.table.now a.lent.now a.bindings.now a.mark a.start a.subject a.units a.words c.store_words-own.result (checked 0 0) cut
    (c.in_ok-check_indexed_run.ensures (spare c) a.units (drop-size a.words c.store_words-own.result a.lent.now cut))

good : (c : In_ok-check_indexed_run) → Accepted (given c)
good c = accepted-by (signed c) (given c) (spare c) (checked 0 0) (passed c) refl

-- what is behind the store's words is cleared
module _ (w v : List ℕ) (words own : ℕ) (own_is : own ≡ min words (length w)) (is : v ≡ cleared_from w own) where
  own-words : take own v ≡ take words w
  own-words = ap (take own) is ∙ own-before w words own own_is

  own-length : length (take own v) ≡ own
  own-length = ap (λ v. length (take own v)) is ∙ own-long w words own own_is

-- ---- the needs
pub returns-then-counts-n : goal.returns-then-counts-n
returns-then-counts-n c =
    indexed-counted-refused _ _ _ _ (checked 2 0) (refused-length _ _ _ c.if-counts-n.true) (λ e. omega arith)

pub slice_bounds-check_indexed_run-end-2 : goal.slice_bounds-check_indexed_run-end-2
slice_bounds-check_indexed_run-end-2 c =
    sym (length-take-le c.store_words-own.result c.args.lent.now (omega (arith, c.store_words-own.ensures)))

pub returns-in_err-check_indexed_run : goal.returns-in_err-check_indexed_run
returns-in_err-check_indexed_run c =
    let a = c.args in
    let cut = c.store_words-own.ensures in
    let spare = drop a.words a.lent.now in
    let is = refused-is (lent_signature a.signature) a.table.now a.lent.now a.bindings.now a.mark a.start a.subject a.units a.words
    c.store_words-own.result _ cut
    (c.in_err-check_indexed_run.ensures spare a.units (drop-size a.words c.store_words-own.result a.lent.now cut)) in
    let p = err_from_is_err_and c.from_residual.result c.from_residual.ensures.1 in
    rw (p.1, p.2) (indexed-counted-refused _ _ _ _ _ (before-counts _ _ c.if-counts-n.false is (answer_ne0 _)) (answer_ne0 _))

pub overflow_cast-n : goal.overflow_cast-n
overflow_cast-n c = let k = (goal.at.overflow_cast-n c).In_ok-check_indexed_run in omega (arith, entries-few (given k) (good k))

pub returns-in_err-check_counts : goal.returns-in_err-check_counts
returns-in_err-check_counts c =
    let k = (goal.at.returns-in_err-check_counts c).In_ok-check_indexed_run in
    let p = err_from_is_err_and c.from_residual-in_err-check_counts.result c.from_residual-in_err-check_counts.ensures.1 in
    rw (p.1, p.2)
    (indexed-counted-refused _ _ _ _ _ (by-counts _ _ c.if-counts-n.false (passed k) c.in_err-check_counts.ensures) (answer_ne0 _))

pub slice_bounds-run_on-end-2 : goal.slice_bounds-run_on-end-2
slice_bounds-run_on-end-2 c =
    sym (own-length c.args.lent.now c.clear_from.new.words c.args.words c.store_words-own.result c.store_words-own.ensures c.clear_from.ensures)

pub run_on-requires : goal.run_on-requires
run_on-requires c =
    let k = (goal.at.run_on-requires c).In_ok-check_indexed_run in
    let a = c.args in
    let here = own-words a.lent.now c.clear_from.new.words a.words c.store_words-own.result c.store_words-own.ensures c.clear_from.ensures in
    let fits = sym (ap (λ (c : Checked). c.answer) c.in_ok-check_counts.ensures) in (
      subst (λ w. Accepted (input a.table.now w a.bindings.now a.mark a.start a.subject a.units)) (sym here) (good k),
      c.if-counts-n.false,
      counts-room (given k) a.counts.now (good k) c.if-counts-n.false fits,
    )

pub returns : goal.returns
returns c =
    let k = (goal.at.returns c).In_ok-check_indexed_run in
    let a = c.args in
    let w = a.lent.now in
    let v = c.clear_from.new.words in
    let own = c.store_words-own.result in
    let own_is = c.store_words-own.ensures in
    let here = own-words w v a.words own own_is c.clear_from.ensures in
    let over = λ (s : List ℕ). input a.table.now s a.bindings.now a.mark a.start a.subject a.units in
    ended-with w a.words own own_is c.run_on.new.store
    (c.run_on.auto.store ∙ own-length w v a.words own own_is c.clear_from.ensures) _ _ _ _ _
    c.clear_from.ensures (c.run_on.ensures ∙ ap (λ w. counted_end (over w) (ran_if true (over w)) a.counts.now) here)
    ∙ indexed-counted-run _ _ _ _ (not-refused _ _ c.if-counts-n.false (passed k) c.in_ok-check_counts.ensures)
