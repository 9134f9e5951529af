-- Which answers the counted calls give, proved under the names of specs/Promises.antt. Assumes nothing.
use mathlib.Core.Path.{◌≡◌, refl, ap, sym, ◌∙◌, subst}
use mathlib.Core.Bool.{Bool, true, false}
use mathlib.Core.Logic.{◌≢◌, ◌⊎◌, inl, inr, ⊎_elim}
use mathlib.Core.Option.{Option, none, some}
use mathlib.Core.List.{List}
use Prim.Native.Nat.{ℕ, ◌*◌}
use native.Mathlib.Omega.{arith}
use borrow.Author.Tests.{eqb-true, eqb-false}
use lib.Dec.{eqb}
use lib.ListN.{length}
use Rattle.std.specs.Prelude.{if◌then◌else◌}
use Rattle.words.specs.Tests.{rejected}
use Rattle.words.specs.Words.{rows}
use Rattle.checks.specs.Kinds.{ours}
use Rattle.checks.specs.Checked.{checked, found}
use Rattle.checks.specs.Checked.{Checked}
use Rattle.meaning.specs.Limits.{ended, lost, cut, units, nesting, room, unbound}
use Rattle.meaning.specs.Mapped.{renoted}
use Rattle.meaning.specs.Store.{Input, Ran}
use Rattle.meaning.specs.Shared.{twin}
use Rattle.meaning.specs.Answer.{Returned, number, returned, returned_by}
use Rattle.calls.specs.Refused.{or_else, start_fits, words_refused, refused_with_by}
use Rattle.calls.specs.Run.{run_with}
use Rattle.calls.specs.Indexed.{index_fits, indexed_words_refused_by, indexed_refused_by}
use Rattle.calls.specs.Outcome.{Outcome}
use Rattle.calls.specs.Promises.{InList, when-done, when-failed, when-refused, when-cut-off, when-unbound, of-sizes}
use Rattle.calls.specs.Signed.{listed-without}
use Rattle.calls.proofs.Promises.{listed_answer}
use Rattle.calls.proofs.Signed.{listed as listed-signed}
use Rattle.tallying.specs.Added.{Counted}
use Rattle.tallying.specs.Added.{CountedReturned, ran_if}
use Rattle.counting.specs.Counted.{has_room}
use Rattle.counting.specs.Promises.{Call, plain, indexed, Meets, refusal_of, shares, FourEach, RefusesTwo}
use Rattle.counting.specs.Promises.{RunInList, CountedInList, without-index, with-index, of-twin, of-full-count, Listed}
use Rattle.counting.proofs.Promises.{answer-of, zero_or_not, run-refused, met-run, refused-numbers, full-found}
use Rattle.counting.proofs.Promises.{refuses-length, refuses-first}

-- ---- four ways to answer

four-or-not : (i : Input) (given : List ℕ) → FourEach i given ⊎ (FourEach i given → ⊥)
four-or-not i given = go (eqb (length given) (4 * rows i.table)) refl
  where
    go : (b : Bool) → eqb (length given) (4 * rows i.table) ≡ b → FourEach i given ⊎ (FourEach i given → ⊥)
    go true e = inl (eqb-true _ _ e)
    go false e = inr (eqb-false _ _ e)

-- the list has another length; the run without counts is refused; a count is too high; or it is run
data Way (c : Call) (i : Input) (given : List ℕ) (a : ℕ) : Type 0 where
  another-length : (FourEach i given → ⊥) → a ≡ 2 → Way c i given a
  refused-before : (refusal_of c i).answer ≢ 0 → a ≡ (refusal_of c i).answer → Way c i given a
  too-high : (refusal_of c i).answer ≡ 0 → a ≡ 24 → Way c i given a
  is-run : (refusal_of c i).answer ≡ 0 → a ≡ (returned i (renoted (λ n. n.0) (ran_if (shares c) i))).answer → Way c i given a

way_of : (c : Call) (i : Input) (given : List ℕ) (r : Counted) (s b cs : List ℕ) → Meets c i given r s b cs
    → Way c i given r.ended.answer
way_of c i given r s b cs m =
    ⊎_elim (λ f. ⊎_elim (λ z. checks f z _ refl) (λ n. refused-before n (refuses-first c i given r s b cs f n m).0)
    (zero_or_not (refusal_of c i).answer))
    (λ n. another-length n (refuses-length c i given r s b cs n m).0)
    (four-or-not i given)
  where
    checks : FourEach i given → (refusal_of c i).answer ≡ 0 → (o : Option ℕ) → rejected (has_room given) 0 (rows i.table) ≡ o
        → Way c i given r.ended.answer
    checks f z none e =
        is-run z (ap (λ (z : CountedReturned). z.run.answer)
        (met-run c i given r s b cs m (answer-of (full-found c i given r s b cs m f z none e))))
    checks f z (some k) e =
        too-high z (refused-numbers c i given r s b cs m (checked 24 k) (full-found c i given r s b cs m f z (some k) e) (λ e. omega arith)).0

-- ---- 2

ran-not-2 : (i : Input) (e : Ran ℕ) → (returned i e).answer ≡ 2 → ⊥
unfolding returned_by number
ran-not-2 i (ended k b s u) z = omega arith
ran-not-2 i (lost l u) z = omega arith
ran-not-2 i (cut units l u) z = omega arith
ran-not-2 i (cut room l u) z = omega arith
ran-not-2 i (cut nesting l u) z = omega arith
ran-not-2 i (cut (unbound v) l u) z = omega arith

pub refuses-two : RefusesTwo
refuses-two c i given r s b cs m = (λ e. whence e (way_of c i given r s b cs m), ⊎_elim (λ n. (refuses-length c i given r s b cs n m).0) so)
  where
    whence : r.ended.answer ≡ 2 → Way c i given r.ended.answer → (FourEach i given → ⊥) ⊎ ((refusal_of c i).answer ≡ 2)
    whence e (another-length n a) = inl n
    whence e (refused-before n a) = inr (sym a ∙ e)
    whence e (too-high z a) = absurd (omega arith)
    whence e (is-run z a) = absurd (ran-not-2 i _ (sym a ∙ e))

    so : (refusal_of c i).answer ≡ 2 → r.ended.answer ≡ 2
    so e = go (way_of c i given r s b cs m)
      where
        go : Way c i given r.ended.answer → r.ended.answer ≡ 2
        go (another-length n a) = a
        go (refused-before n a) = a ∙ e
        go (too-high z a) = absurd (omega arith)
        go (is-run z a) = absurd (omega arith)

-- ---- the list

-- what is in the list of the run is in that with a signature
run-lists : (g : Option (List ℕ)) (n : ℕ) → InList n → RunInList g n
run-lists none n l = l
run-lists (some g) n l = listed-without l

-- and so it is in that of the call
call-lists : (c : Call) (n : ℕ) → InList n → CountedInList c n
call-lists (plain g) n l = without-index (run-lists g n l)
call-lists (indexed g x) n l = with-index (run-lists g n l)

ran-listed : (i : Input) (e : Ran ℕ) → InList (returned i e).answer
unfolding returned_by number
ran-listed i (ended k b s u) = when-done
ran-listed i (lost l u) = when-failed
ran-listed i (cut units l u) = when-cut-off 6 (omega arith) (omega arith)
ran-listed i (cut room l u) = when-cut-off 7 (omega arith) (omega arith)
ran-listed i (cut nesting l u) = when-cut-off 8 (omega arith) (omega arith)
ran-listed i (cut (unbound v) l u) = when-unbound

-- the numbers of what comes back
abbrev numbers_of : Returned → Outcome
numbers_of r = record { answer = r.answer; place = r.place; subject = r.subject; mark = r.mark; units = r.units }

run-listed : (g : Option (List ℕ)) (i : Input) → RunInList g (run_with g i).answer
run-listed none i = let r = run_with none i in listed_answer ours i (numbers_of r) r.store r.bindings refl
run-listed (some g) i = let r = run_with (some g) i in listed-signed ours g i (numbers_of r) r.store r.bindings refl

plain-refused : (g : Option (List ℕ)) (i : Input) → (refusal_of (plain g) i).answer ≢ 0 → RunInList g (refusal_of (plain g) i).answer
plain-refused g i n = subst (RunInList g) (sym (ap (λ (r : Returned). r.answer) (run-refused (plain g) i n))) (run-listed g i)

-- w: what is refused before the start is looked at; f: the index is long enough; o: a node with an earlier one's words; d: the start fits
module _ (g : Option (List ℕ)) (x : List ℕ) (w : Checked) (d : Bool) where
  abbrev begins : Checked
  begins = if d then checked 0 0 else checked 5 0

  index-refused : (f : Bool) (o : Option ℕ) → ((or_else w begins).answer ≢ 0 → RunInList g (or_else w begins).answer)
      → (or_else (if f then or_else w (found 21 o) else checked 2 0) begins).answer ≢ 0
      → CountedInList (indexed g x) (or_else (if f then or_else w (found 21 o) else checked 2 0) begins).answer
  index-refused false o l n = call-lists (indexed g x) 2 (when-refused 2 of-sizes)
  index-refused true o l n = go (eqb w.answer 0) refl o l n
    where
      go : (z : Bool) → eqb w.answer 0 ≡ z → (o : Option ℕ)
          → ((if z then begins else w).answer ≢ 0 → RunInList g (if z then begins else w).answer)
          → (or_else (if z then found 21 o else w) begins).answer ≢ 0
          → CountedInList (indexed g x) (or_else (if z then found 21 o else w) begins).answer
      go true q none l n = with-index (l n)
      go true q (some k) l n = of-twin
      go false q o l n = rw q (with-index (l (eqb-false _ _ q)))

refusal-listed : (c : Call) (i : Input) → (refusal_of c i).answer ≢ 0 → CountedInList c (refusal_of c i).answer
unfolding indexed_refused_by indexed_words_refused_by refused_with_by
refusal-listed (plain g) i n = without-index (plain-refused g i n)
refusal-listed (indexed g x) i n =
    index-refused g x (words_refused g i.table i.store i.bindings i.mark)
    (start_fits i.table i.bindings i.mark i.start i.subject) (index_fits i.store x) (twin i.store i.mark)
    (plain-refused g i) n

pub listed : Listed
listed c i given r s b cs m = go (way_of c i given r s b cs m)
  where
    go : Way c i given r.ended.answer → CountedInList c r.ended.answer
    go (another-length n a) = subst (CountedInList c) (sym a) (call-lists c 2 (when-refused 2 of-sizes))
    go (refused-before n a) = subst (CountedInList c) (sym a) (refusal-listed c i n)
    go (too-high z a) = subst (CountedInList c) (sym a) of-full-count
    go (is-run z a) = subst (CountedInList c) (sym a) (call-lists c _ (ran-listed i _))
