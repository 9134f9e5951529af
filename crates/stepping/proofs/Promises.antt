-- What the contracts of start and step promise together, proved under the names of specs/Promises.antt. Assumes nothing.
use Rattle.std.proofs.Common.{◌≡◌, ℕ, ◌+◌, ◌*◌, Bool, true, false, eqb, leb, List, length, sym, refl, ap, ◌∙◌, subst, arith}
use mathlib.Core.Option.{Option}
use Rattle.checks.specs.Kinds.{ours}
use Rattle.meaning.specs.Derivation.{places, nowhere}
use Rattle.meaning.specs.Mapped.{renoted}
use Rattle.meaning.specs.Limits.{units, room, nesting, unbound, ended, lost, cut}
use Rattle.meaning.specs.Steps.{over, next}
use Rattle.meaning.specs.Store.{Input, Accepted, Ran, ran}
use Rattle.meaning.specs.Answer.{Returned, number, returned, returned_by}
use Rattle.calls.specs.Run.{at_return, run_with, run_with_by}
use Rattle.calls.specs.Outcome.{Outcome}
use Rattle.calls.proofs.Accepting.{refusal-with}
use Rattle.machine.specs.Stack.{Run}
use Rattle.stepping.specs.Stepping.{numbers, start_refused, start_numbers, Lists, lists, run_after, Holds, Zero, AnswersAt}
use Rattle.stepping.specs.Stepping.{Answers, own_row}
use Rattle.stepping.specs.Promises.{sum, Calls, last, more, SteppedBy, AnySteps, ExactVisits, EndsInTime, Agreeing, ZeroRefused}
use Rattle.stepping.proofs.Concluding.{end-is-run}
use Rattle.stepping.proofs.Starting.{verdict, not-25}

-- no run's end answers 25
not-unfinished : (i : Input) (e : Ran ℕ) → (returned i e).answer ≡ 25 → ⊥
unfolding returned_by number
not-unfinished i (ended k b s u) z = omega arith
not-unfinished i (lost l u) z = omega arith
not-unfinished i (cut units l u) z = omega arith
not-unfinished i (cut room l u) z = omega arith
not-unfinished i (cut nesting l u) z = omega arith
not-unfinished i (cut (unbound v) l u) z = omega arith

-- where 25 is answered the lists hold the run
unfinished-holds : (i : Input) (n : ℕ) (X : Run) (r : Outcome) (M : Lists) → AnswersAt i n X r M → r.answer ≡ 25 → (r ≡ numbers 25 0 i.subject i.mark n) × Holds i n M
unfinished-holds i n (over e) r M a z =
    absurd (not-unfinished i (renoted (λ n. n.0) e) (sym (ap (λ (x : Returned). x.answer) a.0) ∙ z))
unfinished-holds i n (next s u f fs) r M a z = a

-- calls in turn come to as many visits as they have together
together : (i : Input) → Accepted i → (n : ℕ) (vs : List ℕ) (M : Lists) (r : Outcome) (M' : Lists) → Holds i n M → Calls i.table vs M r
    M' → Answers i (n + sum vs) r M'
unfolding sum
together i a n _ M r M' h (last {v} d) = let e : n + v ≡ n + (v + 0) = omega arith in subst (λ (x : ℕ). Answers i x r M') e (d.goes i n a
    refl h)
together i a n _ M r M' h (more {v} {vs} {M'' = N} d z c) =
    let e : (n + v) + sum vs ≡ n + (v + sum vs) = omega arith in
    subst (λ (x : ℕ). Answers i x r M') e (together i a (n + v) vs _ r M' (unfinished-holds i (n + v) (run_after i (n + v)) _ _ (d.goes i n
    a refl h) z).1 c)

module _ (g : Option (List ℕ)) (i : Input) (vs : List ℕ) (r : Outcome) (M : Lists) (s : SteppedBy g i vs r M) where
  started : Accepted i × Holds i 0 (lists i.store i.bindings s.work)
  started = s.started.begun s.begun

  answers : Answers i (sum vs) r M
  answers = let e : 0 + sum vs ≡ sum vs = omega arith in subst (λ (x : ℕ). Answers i x r M) e (together i started.0 0 vs _ r M started.1 s.calls)

  -- what was started was not refused
  not-refused : eqb (verdict g i s.before).answer 0 ≡ true
  unfolding start_numbers start_refused
  not-refused = go (leb 327680 (length s.before)) (eqb (verdict g i s.before).answer 0) refl refl
    where
      first : (start_numbers g i s.before).answer ≡ 25
      first = sym (ap (λ (r : Outcome). r.answer) s.started.numbers) ∙ s.begun

      go : (c d : Bool) → leb 327680 (length s.before) ≡ c → eqb (verdict g i s.before).answer 0 ≡ d → d ≡ true
      go true true e f = refl
      go true false e f = absurd (not-25 g i s.before (verdict g i s.before).answer (refusal-with ours g i f) (rw (e, f) at first))
      go false d e f = absurd (let z : 2 ≡ 25 = (rw e at first) in omega arith)

  run_is : returned i (ran places nowhere i) ≡ run_with g i
  unfolding run_with_by
  run_is = sym (rw not-refused refl)

  ends : (X : Run) → run_after i (sum vs) ≡ X → AnswersAt i (sum vs) X r M → (r.answer ≡ 25 → ⊥) → (at_return r M.store M.bindings ≡
      run_with g i) × Zero M.work
  ends (over e) x a n = (a.0 ∙ ap (returned i) (end-is-run i (sum vs) e x) ∙ run_is, a.1)
  ends (next t u f fs) x a n = absurd (n (ap (λ (r : Outcome). r.answer) a.0))

  exact : r.answer ≡ 25 → (r ≡ numbers 25 0 i.subject i.mark (sum vs)) × Holds i (sum vs) M
  exact z = unfinished-holds i (sum vs) (run_after i (sum vs)) r M answers z

pub any-steps : AnySteps
any-steps g i vs r M s n = ends g i vs r M s (run_after i (sum vs)) refl (answers g i vs r M s) n

pub exact-visits : ExactVisits
exact-visits g i vs r M s z = (exact g i vs r M s z).0

pub ends-in-time : EndsInTime
ends-in-time g i vs r M s l z = omega (arith, (exact g i vs r M s z).1.fuel)

pub zero-refused : ZeroRefused
zero-refused t M M' v r l z d = d.zero l (z (8 * own_row + 0))

pub agreeing : Agreeing
agreeing t i n v M M' M'' r r' a e h d d' = go (run_after i (n + v)) (d.goes i n a e h) (d'.goes i n a e h)
  where
    go : (X : Run) → AnswersAt i (n + v) X r M' → AnswersAt i (n + v) X r' M'' → (r ≡ r') × ((r.answer ≡ 25 → ⊥) → (M'.store ≡ M''.store)
        × (M'.bindings ≡ M''.bindings))
    go (over x) p q =
        let z : at_return r M'.store M'.bindings ≡ at_return r' M''.store M''.bindings = p.0 ∙ sym q.0 in (
          (λ j. record { answer = (z j).answer; place = (z j).place; subject = (z j).subject; mark = (z j).mark; units = (z j).units }),
          λ _. (ap (λ (y : Returned). y.store) z, ap (λ (y : Returned). y.bindings) z),
        )
    go (next s u f fs) p q = (p.0 ∙ sym q.0, λ n. absurd (n (ap (λ (y : Outcome). y.answer) p.0)))
