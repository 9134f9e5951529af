-- The rules in the paper's form and the rules as plans derive the same, and do the same on the way. From the paper's form
-- to the plans the recursion is on the derivation by rules. Back it is on the derivation by plans, through what a plan
-- needs so that a statement holds at its end.
use mathlib.Core.Path.{◌≡◌, refl, sym, ◌∙◌, subst}
use mathlib.Core.Bool.{Bool, true, false}
use mathlib.Core.Option.{Option, none, some}
use mathlib.Core.List.{List, [], ◌∷◌, ◌++◌, map, append_assoc, append-nil}
use Prim.Native.Nat.{ℕ, zero, suc, ◌<◌}
use native.Mathlib.Omega.{arith}
use Rattle.meaning.specs.Term.{Term, con, kids, mk}
use Rattle.meaning.specs.Table.{Strategy, ID, FAIL, TEST, NOT, SEQ, CHOICE, LEFT, REC, CALL, PATH, CONG, ALL, ONE, SOME, MATCH, BUILD, SCOPE, WHERE, Pattern, PVAR, PCON, Table}
use Rattle.meaning.specs.Plan.{keep, ret, fail, miss, stuck, look, make, ask}
use Rattle.meaning.specs.Rules.{Visit, apply, match, build, compare, Do, nth, put, zip, agree, when, given, again, walk, one_of}
use Rattle.meaning.specs.Rules.{some_of, strategy, variable, when_at, matching, needed, building, comparing, does}
use Rattle.meaning.specs.Derivation.{Out, done, failed, What, entry, pair, what, Fate, stays, fails, fate, Trace}
use Rattle.meaning.specs.Derivation.{over, missed, node, visit, terms, Der, d-ret, d-fail, d-miss, d-look, d-make, d-yes, d-no}
use Rattle.meaning.specs.Derivation.{trace as traceDer}
use Rattle.meaning.specs.System
use Rattle.meaning.specs.System.{Env, Task, Agree, renewed, ◌∶◌is◌, ◌∶◌reads◌, ◌⊢◌⇒◌, Each, Stopped, First, AllFail, Tried, ending, last, renewing, trace, each, stopped, first, all_fail, tried}
use Rattle.meaning.specs.Demands.{RulesAgree}
use Rattle.meaning.proofs.Tests.{impossible, agree-true, agree-yes, agree-false, agree-no}
use Rattle.meaning.proofs.Compare.{compare-keeps}
use Rattle.meaning.proofs.Inversion.{Ends, ret-ends, fail-ends, miss-ends, look-ends, make-ends, ask-yes, ask-no}

-- a list that has a first element
abbrev Nonempty : List Term → Type 0
Nonempty ts = (t : Term) × (us : List Term) × (ts ≡ t ∷ us)

-- a list with an element in it is not empty
append-nonempty : (gs : List Term) (t : Term) (ts : List Term) → Nonempty (gs ++ (t ∷ ts))
append-nonempty [] t ts = (t, ts, refl)
append-nonempty (g ∷ gs) t ts = (g, gs ++ (t ∷ ts), refl)

-- a list in which child i is replaced is not empty
put-nonempty : (ts : List Term) (i : ℕ) (g g' : Term) → nth ts i ≡ some g → Nonempty (put ts i g')
unfolding nth put
put-nonempty [] i g g' e = impossible (cc)
put-nonempty (t ∷ ts) zero g g' e = impossible (cc)
put-nonempty (t ∷ ts) (suc zero) g g' e = (g', ts, refl)
put-nonempty (t ∷ ts) (suc (suc i)) g g' e = (t, put ts (suc i) g', refl)

-- what SOME has behind it and before it: one child has succeeded already, or one is still to succeed
abbrev Enough : Bool → List Term → ℕ → Type 0
Enough true gs n = Nonempty gs
Enough false gs n = 0 < n

-- it stays so past a child that fails
enough-later : (s : Bool) (gs : List Term) (t : Term) (n : ℕ) → Enough s gs n → Enough s (gs ++ (t ∷ [])) n
enough-later true gs t n h = append-nonempty gs t []
enough-later false gs t n h = h

-- what is said of an end and of what is done on the way
abbrev Claim : Type 1
Claim = Out Term Env → Trace → Type 0

-- P of a trace that begins with a visit
abbrev Then : What → Fate → Trace → Claim → Claim
Then w f m P = λ o n. P o (visit w f m n)

module _ (T : Table) where
  -- by the plans of T, p ends in o and does n
  abbrev Runs : Do Term → Claim
  Runs = Ends terms (does T)

  -- a term with these children is made anew, or returned itself where there are none
  again-runs : (t : Term) (ts : List Term) (b : Env) → Runs (again t (con t) ts b) (done (renewed t ts) b) (renewing ts)
  unfolding again renewed renewing
  again-runs t [] b = ret-ends
  again-runs t (g ∷ gs) b = make-ends ret-ends

  -- a term with some children is made anew
  again-makes : (t : Term) (ts : List Term) (b : Env) → Nonempty ts → Runs (again t (con t) ts b) (done (mk (con t) ts) b) (node over)
  unfolding again
  again-makes t ts b n = rw n.2 (make-ends ret-ends)

  -- a plan that ends with a visit ends as the visit does
  last_runs : {q : Visit Term} {n : Trace} (o : Out Term Env) → Runs (does T q) o n → Runs (ask keep q ret fail) o (last (what q) o n)
  unfolding last ending fate
  last_runs (done t b) z = ask-yes z ret-ends
  last_runs failed z = ask-no z fail-ends

  -- what ends in a term or bindings ends in what equals them
  ends-as : {p : Do Term} {t t' : Term} {b b' : Env} {n : Trace} → t' ≡ t → b' ≡ b → Runs p (done t b) n → Runs p (done t' b') n
  ends-as {p = p} {t' = t'} {b = b} {n = n} e e' r = subst (λ c. Runs p (done t' c) n) (sym e') (subst (λ s. Runs p (done s b) n) (sym e) r)

  mutual
    unfolding trace each stopped first all_fail tried strategy matching building comparing does walk one_of some_of when given needed variable when_at what fate

    -- a derivation by rules is one by plans
    pub planned : {q : Visit Term} {o : Out Term Env} (r : T ⊢ q ⇒ o) → Runs (does T q) o (trace r)
    planned (System.id-done e) = rw e ret-ends
    planned (System.fail-failed e) = rw e fail-ends
    planned (System.test-done e r) = rw e (ask-yes (planned r) ret-ends)
    planned (System.test-failed e r) = rw e (ask-no (planned r) fail-ends)
    planned (System.not_done e r) = rw e (ask-no (planned r) ret-ends)
    planned (System.not-failed e r) = rw e (ask-yes (planned r) fail-ends)
    planned (System.seq-then {o = o} e r r') = rw e (ask-yes (planned r) (last_runs o (planned r')))
    planned (System.seq-failed e r) = rw e (ask-no (planned r) fail-ends)
    planned (System.choice-first e r) = rw e (ask-yes (planned r) ret-ends)
    planned (System.choice-second {o = o} e r r') = rw e (ask-no (planned r) (last_runs o (planned r')))
    planned (System.left-first e r) = rw e (ask-yes (planned r) ret-ends)
    planned (System.left-second {o = o} e r r') = rw e (ask-no (planned r) (last_runs o (planned r')))
    planned (System.rec-body {o = o} e r) = rw e (last_runs o (planned r))
    planned (System.call-rec {o = o} e r) = rw e (last_runs o (planned r))
    planned (System.path-done {i = i} {t = t} {g = g} {g' = g'} {b' = b'} e n r q) =
        rw e (look-ends (rw n (ask-yes (planned r) (ends-as q refl (again-makes t (put (kids t) i g') b' (put-nonempty (kids t) i g g' n))))))
    planned (System.path-failed e n r) = rw e (look-ends (rw n (ask-no (planned r) fail-ends)))
    planned (System.path-none e n) = rw e (look-ends (rw n fail-ends))
    planned (System.cong-done {t = t} {ts = ts} {b' = b'} e a rs q) =
        rw e (look-ends (rw agree-yes (ends-as q refl (each-planned rs [] (again t (con t)) (again-runs t ts b')))))
    planned (System.cong-failed {t = t} e a rs) = rw e (look-ends (rw agree-yes (stopped-planned rs [] (again t (con t)))))
    planned (System.cong-other e n) = rw e (look-ends (rw agree-no fail-ends))
    planned (System.all_done {t = t} {ts = ts} {b' = b'} e rs q) = rw e (look-ends (ends-as q refl (each-planned rs [] (again t (con t)) (again-runs t ts b'))))
    planned (System.all-failed {t = t} e rs) = rw e (look-ends (stopped-planned rs [] (again t (con t))))
    planned (System.one-done {t = t} e rs q) = rw e (look-ends (ends-as q refl (first-planned rs [] t)))
    planned (System.one-failed {t = t} e rs) = rw e (look-ends (one-failed-planned rs [] (again t (con t))))
    planned (System.some-done {t = t} e rs q) = rw e (look-ends (ends-as q refl (tried-planned rs false [] t (omega arith))))
    planned (System.some-failed {t = t} e rs) = rw e (look-ends (some-failed-planned rs [] (again t (con t))))
    planned (System.match-root {o = o} e r) = rw e (last_runs o (planned r))
    planned (System.build-root {o = o} e r) = rw e (last_runs o (planned r))
    planned (System.scope-done e r q) = rw e (ends-as refl q (ask-yes (planned r) ret-ends))
    planned (System.scope-failed e r) = rw e (ask-no (planned r) fail-ends)
    planned (System.where-done e r) = rw e (ask-yes (planned r) ret-ends)
    planned (System.where-failed e r) = rw e (ask-no (planned r) fail-ends)
    planned (System.match-new e n q) = rw e (rw n (ends-as refl q ret-ends))
    planned (System.match-same e n r) = rw e (rw n (ask-yes (planned r) ret-ends))
    planned (System.match-differs e n r) = rw e (rw n (ask-no (planned r) miss-ends))
    planned (System.match-con {t = t} e a rs) = rw e (look-ends (rw agree-yes (each-planned rs [] (λ gs b. ret t b) ret-ends)))
    planned (System.match-failed {t = t} e a rs) = rw e (look-ends (rw agree-yes (stopped-planned rs [] (λ gs b. ret t b))))
    planned (System.match-other e n) = rw e (look-ends (rw agree-no miss-ends))
    planned (System.build-bound e n) = rw e (rw n ret-ends)
    planned (System.build-con {c = c} e rs q) = rw e (ends-as q refl (each-planned rs [] (λ gs b. make c gs (λ n. ret n b)) (make-ends ret-ends)))
    planned (System.compare_same {t = t} a rs) = look-ends (look-ends (rw agree-yes (each-planned rs [] (λ gs b. ret t b) ret-ends)))
    planned (System.compare-failed {t = t} a rs) = look-ends (look-ends (rw agree-yes (stopped-planned rs [] (λ gs b. ret t b))))
    planned (System.compare-other n) = look-ends (look-ends (rw agree-no fail-ends))

    -- where the visits all succeed the walk goes on to what follows them
    each-planned : {qs : List Task} {b b' : Env} {ts : List Term} {o : Out Term Env} {n : Trace} (rs : Each T qs b ts b') (gs : List Term)
        (k : List Term → Env → Do Term) → Runs (k (gs ++ ts) b') o n → Runs (walk qs gs b k) o (each rs n)
    each-planned System.each_none gs k z = rw append-nil at z
    each-planned (System.each_more r rs) gs k z = ask-yes (planned r) (each-planned rs _ k (rw append_assoc z))

    -- where a visit fails the walk fails
    stopped-planned : {qs : List Task} {b : Env} (rs : Stopped T qs b) (gs : List Term) (k : List Term → Env → Do Term) → Runs (walk qs gs b k) failed (stopped rs)
    stopped-planned (System.stopped-here r) gs k = ask-no (planned r) fail-ends
    stopped-planned (System.stopped-later r rs) gs k = ask-yes (planned r) (stopped-planned rs _ k)

    -- ONE makes the term anew with the leftmost child that succeeds
    first-planned : {y : ℕ} {ts ts' : List Term} {b b' : Env} (rs : First T y ts b ts' b') (gs : List Term) (t : Term)
        → Runs (one_of y gs ts b (again t (con t))) (done (mk (con t) (gs ++ ts')) b') (first rs)
    first-planned (System.first-here {t' = t'} {ts = ts} r) gs t = ask-yes (planned r) (again-makes t _ _ (append-nonempty gs t' ts))
    first-planned (System.first-later {t = g} {ts' = ts'} r rs) gs t = ask-no (planned r) (rw append_assoc at (first-planned rs (gs ++ (g ∷ [])) t))

    -- ONE fails where every child does
    one-failed-planned : {y : ℕ} {ts : List Term} {b : Env} (rs : AllFail T y ts b) (gs : List Term) (k : List Term → Env → Do Term) → Runs (one_of y gs ts b k) failed (all_fail rs)
    one-failed-planned System.fail-none gs k = fail-ends
    one-failed-planned (System.fail-more r rs) gs k = ask-no (planned r) (one-failed-planned rs _ k)

    -- SOME fails where every child does
    some-failed-planned : {y : ℕ} {ts : List Term} {b : Env} (rs : AllFail T y ts b) (gs : List Term) (k : List Term → Env → Do Term) → Runs (some_of y false gs ts b k) failed (all_fail rs)
    some-failed-planned System.fail-none gs k = fail-ends
    some-failed-planned (System.fail-more r rs) gs k = ask-no (planned r) (some-failed-planned rs _ k)

    -- SOME makes the term anew where a child succeeds
    tried-planned : {y n : ℕ} {ts ts' : List Term} {b b' : Env} (rs : Tried T y ts b ts' b' n) (s : Bool) (gs : List Term) (t : Term)
        → Enough s gs n → Runs (some_of y s gs ts b (again t (con t))) (done (mk (con t) (gs ++ ts')) b') (tried rs)
    tried-planned System.tried-none true gs t h = rw append-nil (again-makes t gs _ h)
    tried-planned System.tried-none false gs t h = absurd (omega arith)
    tried-planned (System.tried-new {t' = t'} r rs) s gs t h = ask-yes (planned r) (rw append_assoc at (tried-planned rs true (gs ++ (t' ∷ [])) t (append-nonempty gs t' [])))
    tried-planned (System.tried-kept {t = g} {n = n} r rs) s gs t h = ask-no (planned r) (rw append_assoc at (tried-planned rs s (gs ++ (g ∷ [])) t (enough-later s gs g n h)))

  -- by the rules of T, q ends in o and does n
  abbrev Derived : Visit Term → Claim
  Derived q o n = (r : T ⊢ q ⇒ o) × (trace r ≡ n)

  -- what p needs so that P holds of its end and of what it does, where its visits are derived by the rules
  abbrev Tells : Claim → Do Term → Type 0
  Tells P (ret t b) = P (done t b) over
  Tells P fail = P failed over
  Tells P (stuck v) = Unit {0}
  Tells P (miss p) = P failed (missed p)
  Tells P (look t k) = Tells P (k (con t) (kids t))
  Tells P (make c ts k) = Tells (λ o n. P o (node n)) (k (mk c ts))
  Tells P (ask s q k p) =
      ((t : Term) (b : Env) (r : T ⊢ q ⇒ done t b) → Tells (Then (what q) (fate s) (trace r) P) (k t b))
      × ((r : T ⊢ q ⇒ failed) → Tells (Then (what q) fails (trace r) P) p)

  -- a plan that has what P needs ends so that P holds
  told : ((q : Visit Term) → Tells (Derived q) (does T q)) → (P : Claim) {p : Do Term} {o : Out Term Env} (d : Der terms (does T) p o) → Tells P p → P o (traceDer d)
  unfolding traceDer
  told f P d-ret z = z
  told f P d-fail z = z
  told f P d-miss z = z
  told f P (d-look d) z = told f P d z
  told f P (d-make d) z = told f (λ o n. P o (node n)) d z
  told f P (d-yes {t = s} {q = q} {h = t} {b = b} {o = o} d e) z =
      let (r, x) = told f (Derived q) d (f q) in
      subst (λ (m : Trace). P o (visit (what q) (fate s) m (traceDer e))) x (told f (Then (what q) (fate s) (trace r) P) e (z.0 t b r))
  told f P (d-no {q = q} {o = o} d e) z =
      let (r, x) = told f (Derived q) d (f q) in
      subst (λ (m : Trace). P o (visit (what q) fails m (traceDer e))) x (told f (Then (what q) fails (trace r) P) e (z.1 r))

  module _ (P : Claim) where
    -- a plan that ends with a visit needs P of the visit's end
    last-tells : (q : Visit Term) → ((o : Out Term Env) (r : T ⊢ q ⇒ o) → P o (last (what q) o (trace r))) → Tells P (ask keep q ret fail)
    unfolding last ending fate
    last-tells q f = (λ t b r. f (done t b) r, λ r. f failed r)

    -- making a term anew needs P of it, or of the term itself where there are no children
    again-tells : (t : Term) (ts : List Term) (b : Env) → P (done (renewed t ts) b) (renewing ts) → Tells P (again t (con t) ts b)
    unfolding again renewed renewing
    again-tells t [] b z = z
    again-tells t (g ∷ gs) b z = z

    -- making a term anew with some children needs P of it
    again-tells-made : (t : Term) (ts : List Term) (b : Env) → Nonempty ts → P (done (mk (con t) ts) b) (node over) → Tells P (again t (con t) ts b)
    unfolding again
    again-tells-made t ts b n z = rw n.2 (rw n.2 at z)

    -- after a test a plan needs what it needs where the test holds, and P of failure where it does not
    when-tells : (x : Bool) (p : Do Term) → (x ≡ true → Tells P p) → (x ≡ false → P failed over) → Tells P (when x p)
    unfolding when
    when-tells true p y n = y refl
    when-tells false p y n = n refl

    -- the same by whether constructor and count agree
    agree-tells : {A : Type 0} (c : ℕ) (xs : List A) (t : Term) (p : Do Term) → (Agree c xs t → Tells P p) → ((Agree c xs t → ⊥) → P failed over) → Tells P (when (agree c xs (con t) (kids t)) p)
    agree-tells c xs t p y n = when-tells _ p (λ e. y (agree-true c xs t e)) (λ e. n (agree-false c xs t e))

    when-tells-at : (q : ℕ) (x : Bool) (p : Do Term) → (x ≡ true → Tells P p) → (x ≡ false → P failed (missed q)) → Tells P (when_at q x p)
    unfolding when_at
    when-tells-at q true p y n = y refl
    when-tells-at q false p y n = n refl

    agree-tells-at : {A : Type 0} (q c : ℕ) (xs : List A) (t : Term) (p : Do Term) → (Agree c xs t → Tells P p)
        → ((Agree c xs t → ⊥) → P failed (missed q)) → Tells P (when_at q (agree c xs (con t) (kids t)) p)
    agree-tells-at q c xs t p y n = when-tells-at q _ p (λ e. y (agree-true c xs t e)) (λ e. n (agree-false c xs t e))

    -- the same by whether there is a term
    given-tells : (x : Option Term) (k : Term → Do Term) → ((g : Term) → x ≡ some g → Tells P (k g)) → (x ≡ none → P failed over) → Tells P (given x k)
    unfolding given
    given-tells none k y n = n refl
    given-tells (some g) k y n = y g refl

  -- a walk needs what follows it to need after each way to succeed, and P of each way to fail
  walk-tells : (P : Claim) (qs : List Task) (gs : List Term) (b : Env) (k : List Term → Env → Do Term)
      → ((ts : List Term) (b' : Env) (rs : Each T qs b ts b') → Tells (λ o n. P o (each rs n)) (k (gs ++ ts) b'))
      → ((rs : Stopped T qs b) → P failed (stopped rs))
      → Tells P (walk qs gs b k)
  unfolding walk each stopped fate
  walk-tells P [] gs b k y n = rw append-nil at (y [] b System.each_none)
  walk-tells P (q ∷ qs) gs b k y n = (
    λ t b' r. walk-tells (Then (what (q b)) stays (trace r) P) qs (gs ++ (t ∷ [])) b' k (λ ts b'' rs. rw append_assoc (y (t ∷ ts) b'' (System.each_more r rs))) (λ rs. n (System.stopped-later r rs)),
    λ r. n (System.stopped-here r),
  )

  -- ONE needs P of the term with the leftmost child that succeeds, and of failure where none does
  one-tells : (P : Claim) (x : ℕ) (gs hs : List Term) (b : Env) (t : Term)
      → ((ts : List Term) (b' : Env) (rs : First T x hs b ts b') → P (done (mk (con t) (gs ++ ts)) b') (first rs))
      → ((rs : AllFail T x hs b) → P failed (all_fail rs))
      → Tells P (one_of x gs hs b (again t (con t)))
  unfolding one_of first all_fail what fate
  one-tells P x gs [] b t y n = n System.fail-none
  one-tells P x gs (h ∷ hs) b t y n = (
    λ h' b' r. again-tells-made (Then (entry x) stays (trace r) P) t (gs ++ (h' ∷ hs)) b' (append-nonempty gs h' hs) (y (h' ∷ hs) b' (System.first-here r)),
    λ r. one-tells (Then (entry x) fails (trace r) P) x (gs ++ (h ∷ [])) hs b t (λ ts b' rs. rw append_assoc (y (h ∷ ts) b' (System.first-later r rs))) (λ rs. n (System.fail-more r rs)),
  )

  -- SOME, where a child has succeeded already, needs P of the term with the children tried
  some-tells-more : (P : Claim) (x : ℕ) (gs hs : List Term) (b : Env) (t : Term) → Nonempty gs
      → ((ts : List Term) (b' : Env) (n : ℕ) (rs : Tried T x hs b ts b' n) → P (done (mk (con t) (gs ++ ts)) b') (tried rs))
      → Tells P (some_of x true gs hs b (again t (con t)))
  unfolding some_of when what fate tried
  some-tells-more P x gs [] b t h y = again-tells-made P t gs b h (rw append-nil at (y [] b 0 System.tried-none))
  some-tells-more P x gs (g ∷ hs) b t h y = (
    λ g' b' r. some-tells-more (Then (entry x) stays (trace r) P) x (gs ++ (g' ∷ [])) hs b' t (append-nonempty gs g' [])
        (λ ts b'' n rs. rw append_assoc (y (g' ∷ ts) b'' (suc n) (System.tried-new r rs))),
    λ r. some-tells-more (Then (entry x) fails (trace r) P) x (gs ++ (g ∷ [])) hs b t (append-nonempty gs g []) (λ ts b' n rs. rw append_assoc (y (g ∷ ts) b' n (System.tried-kept r rs))),
  )

  -- SOME needs P of the term with the children tried where one succeeds, and of failure where none does
  some-tells : (P : Claim) (x : ℕ) (gs hs : List Term) (b : Env) (t : Term)
      → ((ts : List Term) (b' : Env) (n : ℕ) (rs : Tried T x hs b ts b' (suc n)) → P (done (mk (con t) (gs ++ ts)) b') (tried rs))
      → ((rs : AllFail T x hs b) → P failed (all_fail rs))
      → Tells P (some_of x false gs hs b (again t (con t)))
  unfolding some_of when what fate tried all_fail
  some-tells P x gs [] b t y n = n System.fail-none
  some-tells P x gs (g ∷ hs) b t y n = (
    λ g' b' r. some-tells-more (Then (entry x) stays (trace r) P) x (gs ++ (g' ∷ [])) hs b' t (append-nonempty gs g' []) (λ ts b'' n rs. rw append_assoc (y (g' ∷ ts) b'' n (System.tried-new r rs))),
    λ r. some-tells (Then (entry x) fails (trace r) P) x (gs ++ (g ∷ [])) hs b t (λ ts b' n rs. rw append_assoc (y (g ∷ ts) b' n (System.tried-kept r rs))) (λ rs. n (System.fail-more r rs)),
  )

  module _ (x : ℕ) (t : Term) (b : Env) where
    -- how entry x ends on this state, and what it does
    abbrev Applied : Claim
    Applied = Derived (apply x t b)

    -- each kind's plan tells what its rules derive
    strategy-tells : (s : Strategy) → T ∶ x is s → Tells Applied (strategy s t b)
    unfolding strategy trace what fate
    strategy-tells ID e = (System.id-done e, refl)
    strategy-tells FAIL e = (System.fail-failed e, refl)
    strategy-tells (TEST y) e = (λ t' b' r. (System.test-done e r, refl), λ r. (System.test-failed e r, refl))
    strategy-tells (NOT y) e = (λ t' b' r. (System.not-failed e r, refl), λ r. (System.not_done e r, refl))
    strategy-tells (SEQ y z) e = (λ t' b' r. last-tells (Then (entry y) stays (trace r) Applied) (apply z t' b') (λ o r'. (System.seq-then e r r', refl)), λ r. (System.seq-failed e r, refl))
    strategy-tells (CHOICE y z) e = (λ t' b' r. (System.choice-first e r, refl), λ r. last-tells (Then (entry y) fails (trace r) Applied) (apply z t b) (λ o r'. (System.choice-second e r r', refl)))
    strategy-tells (LEFT y z) e = (λ t' b' r. (System.left-first e r, refl), λ r. last-tells (Then (entry y) fails (trace r) Applied) (apply z t b) (λ o r'. (System.left-second e r r', refl)))
    strategy-tells (REC y) e = last-tells Applied (apply y t b) (λ o r. (System.rec-body e r, refl))
    strategy-tells (CALL y) e = last-tells Applied (apply y t b) (λ o r. (System.call-rec e r, refl))
    strategy-tells (PATH i y) e =
        given-tells Applied (nth (kids t) i) _
        (λ g n. (
          λ g' b' r. again-tells-made (Then (entry y) stays (trace r) Applied) t (put (kids t) i g') b'
              (put-nonempty (kids t) i g g' n) (System.path-done e n r refl, refl),
          λ r. (System.path-failed e n r, refl),
        ))
        (λ n. (System.path-none e n, refl))
    strategy-tells (CONG c ys) e =
        agree-tells Applied c ys t _
        (λ a. walk-tells Applied (zip apply ys (kids t)) [] b (again t (con t))
        (λ ts b' rs. again-tells (λ o n. Applied o (each rs n)) t ts b' (System.cong-done e a rs refl, refl))
        (λ rs. (System.cong-failed e a rs, refl)))
        (λ n. (System.cong-other e n, refl))
    strategy-tells (ALL y) e =
        walk-tells Applied (map (apply y) (kids t)) [] b (again t (con t))
        (λ ts b' rs. again-tells (λ o n. Applied o (each rs n)) t ts b' (System.all_done e rs refl, refl))
        (λ rs. (System.all-failed e rs, refl))
    strategy-tells (ONE y) e = one-tells Applied y [] (kids t) b t (λ ts b' rs. (System.one-done e rs refl, refl)) (λ rs. (System.one-failed e rs, refl))
    strategy-tells (SOME y) e = some-tells Applied y [] (kids t) b t (λ ts b' n rs. (System.some-done e rs refl, refl)) (λ rs. (System.some-failed e rs, refl))
    strategy-tells (MATCH p) e = last-tells Applied (match p t b) (λ o r. (System.match-root e r, refl))
    strategy-tells (BUILD p) e = last-tells Applied (build p t b) (λ o r. (System.build-root e r, refl))
    strategy-tells (SCOPE m y) e = (λ t' b' r. (System.scope-done e r refl, refl), λ r. (System.scope-failed e r, refl))
    strategy-tells (WHERE y) e = (λ t' b' r. (System.where-done e r, refl), λ r. (System.where-failed e r, refl))

  -- a bound variable met by MATCH ends as its comparison does
  compared-tells : (p v : ℕ) (g t : Term) (b : Env) → T ∶ p reads PVAR v → b v ≡ some g → (o : Out Term Env) → o ≡ done t b
      → (r : T ⊢ compare g t b ⇒ o) → Derived (match p t b) o (visit pair stays (trace r) over)
  unfolding trace
  compared-tells p v g t b e n o c =
      subst (λ (o : Out Term Env). (r : T ⊢ compare g t b ⇒ o) → Derived (match p t b) o (visit pair stays (trace r) over)) (sym c)
      (λ r. (System.match-same e n r, refl))

  -- the plan of a variable met by MATCH tells what its rules derive
  variable-tells : (p v : ℕ) (x : Option Term) (t : Term) (b : Env) → T ∶ p reads PVAR v → b v ≡ x → Tells (Derived (match p t b)) (variable p x v t b)
  unfolding variable trace what fate
  variable-tells p v none t b e n = (System.match-new e n refl, refl)
  variable-tells p v (some g) t b e n = (λ t' b' r. compared-tells p v g t b e n (done t' b') (compare-keeps T r) r, λ r. (System.match-differs e n r, refl))

  -- the plan of a position met by MATCH tells what its rules derive
  matching-tells : (p : ℕ) (s : Pattern) (t : Term) (b : Env) → T ∶ p reads s → Tells (Derived (match p t b)) (matching p s t b)
  unfolding matching trace what fate
  matching-tells p (PVAR v) t b e = variable-tells p v (b v) t b e refl
  matching-tells p (PCON c ps) t b e =
      agree-tells-at (Derived (match p t b)) p c ps t _
      (λ a. walk-tells (Derived (match p t b)) (zip match ps (kids t)) [] b (λ gs b'. ret t b') (λ ts b' rs. (System.match-con e a rs, refl)) (λ rs. (System.match-failed e a rs, refl)))
      (λ n. (System.match-other e n, refl))

  -- BUILD does not fail
  builds : {p : ℕ} {t : Term} {b : Env} → T ⊢ build p t b ⇒ failed → ⊥
  builds = elim [ ]

  all_build : (t : Term) (ps : List ℕ) {b : Env} → Stopped T (map (λ q. build q t) ps) b → ⊥
  all_build t [] x' = elim x' [ ]
  all_build t (p ∷ ps) (System.stopped-here r) = builds r
  all_build t (p ∷ ps) (System.stopped-later r rs) = all_build t ps rs

  needed-tells : (P : Claim) (v : ℕ) (x : Option Term) (k : Term → Do Term) → ((g : Term) → x ≡ some g → Tells P (k g)) → Tells P (needed v x k)
  unfolding needed
  needed-tells P v none k y = tt
  needed-tells P v (some g) k y = y g refl

  -- the plan of a position met by BUILD tells what its rules derive
  building-tells : (p : ℕ) (s : Pattern) (t : Term) (b : Env) → T ∶ p reads s → Tells (Derived (build p t b)) (building s t b)
  unfolding building trace what fate
  building-tells p (PVAR v) t b e = needed-tells (Derived (build p t b)) v (b v) _ (λ g n. (System.build-bound e n, refl))
  building-tells p (PCON c ps) t b e = walk-tells (Derived (build p t b)) (map (λ q. build q t) ps) [] b _ (λ ts b' rs. (System.build-con e rs refl, refl)) (λ rs. absurd (all_build t ps rs))

  -- the plan of a pair compared tells what its rules derive
  comparing-tells : (g t : Term) (b : Env) → Tells (Derived (compare g t b)) (comparing g t b)
  unfolding comparing trace what fate
  comparing-tells g t b =
      agree-tells (Derived (compare g t b)) (con g) (kids g) t _
      (λ a. walk-tells (Derived (compare g t b)) (zip compare (kids g) (kids t)) [] b (λ gs b'. ret t b') (λ ts b' rs. (System.compare_same a rs, refl)) (λ rs. (System.compare-failed a rs, refl)))
      (λ n. (System.compare-other n, refl))

  -- every visit's plan tells what its rules derive
  does-tells : (q : Visit Term) → Tells (Derived q) (does T q)
  unfolding does
  does-tells (apply x t b) = strategy-tells x t b (T.strategies x) refl
  does-tells (match p t b) = matching-tells p (T.patterns p) t b refl
  does-tells (build p t b) = building-tells p (T.patterns p) t b refl
  does-tells (compare g t b) = comparing-tells g t b

  -- a derivation by plans is one by rules
  pub derived : {q : Visit Term} {o : Out Term Env} (d : Der terms (does T) (does T q) o) → (r : T ⊢ q ⇒ o) × (trace r ≡ traceDer d)
  derived {q} d = told does-tells (Derived q) d (does-tells q)

-- the plans' rules and the paper's rules derive the same, and do the same on the way
pub rules-agree : RulesAgree
rules-agree T q o n = (λ (r, e). let (d, x) = planned T r in (d, x ∙ e), λ (d, e). let (r, x) = derived T d in (r, x ∙ e))
