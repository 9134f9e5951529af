-- The run with limits over terms as values answers exactly what derivations and counted beginnings say. First for any
-- plans and any values, by `Goes`, which is a derivation or a beginning; then for System S, by the agreement of its rules
-- with the plans.
use mathlib.Core.Path.{◌≡◌, refl, ap, sym, ◌∙◌, subst, subst₂}
use mathlib.Core.Bool.{Bool, true, false}
use mathlib.Core.List.{List}
use Prim.Native.Nat.{ℕ, zero, suc, ◌+◌, ◌≤◌, ◌<◌}
use native.Mathlib.Omega.{arith}
use lib.Dec.{leb}
use borrow.Author.Tests.{leb-true, leb-false, le-leb, lt-leb}
use Rattle.meaning.specs.Term.{Term}
use Rattle.meaning.specs.Table.{Table}
use Rattle.meaning.specs.Plan.{Keep, keep, drop, Plan, ret, fail, miss, stuck, look, make, ask}
use Rattle.meaning.specs.Rules.{Visit, Do, does}
use Rattle.meaning.specs.Derivation.{Out, done, failed, What, what, Fate, stays, goes, fails, in-flight, fate, Trace, over, missed}
use Rattle.meaning.specs.Derivation.{node, visit, staying, visits, depth, left, most, Notes, shut, noted, Values, terms, Der, d-ret}
use Rattle.meaning.specs.Derivation.{d-fail, d-miss, d-look, d-make, d-yes, d-no, trace as traceDer}
use Rattle.meaning.specs.Limits.{Limit, units, room, nesting as nested, unbound, Res, ended, lost, cut, Counted, at, counting, room_for, settled, after, closed, run_plan, run}
use Rattle.meaning.specs.System.{Env, ◌⊢◌⇒◌, trace as traceOf}
use Rattle.meaning.specs.Beginning.{Stop, before-visit, before-node, at-unbound, Begun, b-visit, b-node, b-unbound, b-look, b-make}
use Rattle.meaning.specs.Beginning.{b-in, b-yes, b-no, trace as traceBegun, level as levelBegun, Given, Fits, stop, Met}
use Rattle.meaning.specs.Demands.{RulesAgree, whole as whole_of, Says, Demand2Values}

-- ---- what a trace counts

-- no more nodes are left than there were at one time
left-most : (t : Trace) → left t ≤ most t
unfolding left most
left-most over = omega arith
left-most (missed p) = omega arith
left-most (node t) = omega (arith, left-most t)
left-most (visit w k s t) = omega (arith, left-most t)

-- a run with room for `size` nodes, the nesting n, the mark m and u units
abbrev given : (size n m u : ℕ) → Given
given size n m u = record { units = u; size = size; mark = m; nesting = n }

staying-le : (k : Fate) (x : ℕ) → staying k x ≤ x
unfolding staying
staying-le stays x = omega arith
staying-le goes x = omega arith
staying-le fails x = omega arith
staying-le in-flight x = omega arith

-- a visit by itself
abbrev whole : What → Fate → Trace → Trace
whole w f t = visit w f t over

-- what fits, step by step
module _ (size : ℕ) where
  fits-over : (n m u : ℕ) → m ≤ size → Fits (given size n m u) over u
  unfolding visits depth most
  fits-over n m u i = omega arith

  fits-missed : (n m u p : ℕ) → m ≤ size → Fits (given size n m u) (missed p) u
  unfolding visits depth most
  fits-missed n m u p i = omega arith

  fits-node : (n m u u' : ℕ) (t : Trace) → Fits (given size n (suc m) u) t u' → Fits (given size n m u) (node t) u'
  unfolding visits depth most
  fits-node n m u u' t f = omega arith

  -- a visit, and then what follows it
  fits-then : (n m m' u u' u'' : ℕ) (w : What) (k f : Fate) (s t : Trace) → m' ≡ m + staying k (left s) → Fits (given size n m u) (whole w f s) u' → Fits (given size n m' u') t u''
      → Fits (given size n m u) (visit w k s t) u''
  unfolding visits depth most staying
  fits-then n m m' u u' u'' w k f₀ s t e f g = omega (arith, staying-le k (left s))

  -- a visit, from what it does itself
  fits_in : (n m u u' : ℕ) (w : What) (k : Fate) (s : Trace) → Fits (given size n m u) s u' → Fits (given size (suc n) m (suc u)) (whole w k s) u'
  unfolding visits depth most staying
  fits_in n m u u' w k s f = omega (arith, left-most s, staying-le k (left s))

-- ---- a plan gone through: to its end, or to where a limit stops it

-- where it ends
data End (H B : Type 0) : Type 0 where
  out : Out H B → End H B
  stops : Stop → End H B

module _ {H B Q : Type 0} (W : Values H Q) (R : Q → Plan H B Q) where
  -- one definition for derivations and beginnings, so that each step is proved once
  data Goes : Plan H B Q → End H B → Type 0 where
    g-ret : {h : H} {b : B} → Goes (ret h b) (out (done h b))
    g-fail : Goes fail (out failed)
    g-miss : {p : ℕ} → Goes (miss p) (out failed)
    g-visit : {t : Keep} {q : Q} {k : H → B → Plan H B Q} {p : Plan H B Q} → Goes (ask t q k p) (stops before-visit)
    g-node : {c : ℕ} {hs : List H} {k : H → Plan H B Q} → Goes (make c hs k) (stops before-node)
    g-unbound : {v : ℕ} → Goes (stuck v) (stops (at-unbound v))
    g-look : {h : H} {k : ℕ → List H → Plan H B Q} {e : End H B} → Goes (k (W.con h) (W.kids h)) e → Goes (look h k) e
    g-make : {c : ℕ} {hs : List H} {k : H → Plan H B Q} {e : End H B} → Goes (k (W.mk c hs)) e → Goes (make c hs k) e
    g-in : {t : Keep} {q : Q} {k : H → B → Plan H B Q} {p : Plan H B Q} {w : Stop} → Goes (R q) (stops w) → Goes (ask t q k p) (stops w)
    g-yes : {t : Keep} {q : Q} {k : H → B → Plan H B Q} {p : Plan H B Q} {h : H} {b : B} {e : End H B} → Goes (R q) (out (done h b)) → Goes (k h b) e → Goes (ask t q k p) e
    g-no : {t : Keep} {q : Q} {k : H → B → Plan H B Q} {p : Plan H B Q} {e : End H B} → Goes (R q) (out failed) → Goes p e → Goes (ask t q k p) e

module _ {H B Q : Type 0} {W : Values H Q} {R : Q → Plan H B Q} where
  -- what it does, and the nesting of the visit before which it stops
  trace : {p : Plan H B Q} {e : End H B} → Goes W R p e → Trace
  trace g-ret = over
  trace g-fail = over
  trace (g-miss {p = p}) = missed p
  trace g-visit = over
  trace g-node = over
  trace g-unbound = over
  trace (g-look s) = trace s
  trace (g-make s) = node (trace s)
  trace (g-in {q = q} s) = visit (W.name q) in-flight (trace s) over
  trace (g-yes {t = t} {q = q} d s) = visit (W.name q) (fate t) (trace d) (trace s)
  trace (g-no {q = q} d s) = visit (W.name q) fails (trace d) (trace s)

  level : {p : Plan H B Q} {e : End H B} → Goes W R p e → ℕ
  level g-ret = 0
  level g-fail = 0
  level g-miss = 0
  level g-visit = 1
  level g-node = 0
  level g-unbound = 0
  level (g-look s) = level s
  level (g-make s) = level s
  level (g-in s) = suc (level s)
  level (g-yes d s) = level s
  level (g-no d s) = level s

-- ---- answers

abbrev pub Answer : Type 0 → Type 0 → Type 0 → Type 0
Answer N H B = Res H B (Counted N) N

-- a cut-off inside a visit, seen one visit further out
meets-out : (size n m u u' l x x' : ℕ) (c : Limit) (v : ℕ) → x ≡ x' → Met (given size n m u) c l x v → Met (given size (suc n) m u') c (suc l) x' v
meets-out size n m u u' l x x' units v e f = f
meets-out size n m u u' l x x' room v e f = omega arith
meets-out size n m u u' l x x' nested v e f = (f.0, ap suc f.1)
meets-out size n m u u' l x x' (unbound y) v e f = tt

module _ {N H B : Type 0} where
  -- the end that an answer says, and the units that it leaves
  abbrev end_of : Answer N H B → End H B
  end_of (ended h b s u) = out (done h b)
  end_of (lost l u) = out failed
  end_of (cut c l u) = stops (stop c)

  abbrev rest : Answer N H B → ℕ
  rest (ended h b m u) = u
  rest (lost l u) = u
  rest (cut c l u) = u

  -- the notes that it leaves
  abbrev notes_of : Answer N H B → N
  notes_of (ended h b s u) = s.notes
  notes_of (lost l u) = l
  notes_of (cut c l u) = l

  -- the mark that it says, or the limit that it meets
  abbrev Meets : Given → Answer N H B → (level left : ℕ) → Type 0
  Meets g (ended h b s u) l n = s.mark ≡ g.mark + n
  Meets g (lost _ u) l n = Unit {0}
  Meets g (cut c _ u) l n = Met g c l n u

  -- the answers of an end
  data Of : Answer N H B → End H B → Type 0 where
    of-ended : {h : H} {b : B} {s : Counted N} {u : ℕ} → Of (ended h b s u) (out (done h b))
    of-lost : {l : N} {u : ℕ} → Of (lost l u) (out failed)
    of-units : {l : N} {u : ℕ} → Of (cut units l u) (stops before-visit)
    of_room : {l : N} {u : ℕ} → Of (cut room l u) (stops before-node)
    of-nesting : {l : N} {u : ℕ} → Of (cut nested l u) (stops before-visit)
    of-unbound : {v : ℕ} {l : N} {u : ℕ} → Of (cut (unbound v) l u) (stops (at-unbound v))

  of_end : (r : Answer N H B) → Of r (end_of r)
  of_end (ended h b m u) = of-ended
  of_end (lost l u) = of-lost
  of_end (cut units l u) = of-units
  of_end (cut room l u) = of_room
  of_end (cut nested l u) = of-nesting
  of_end (cut (unbound v) l u) = of-unbound

  -- nodes counted into the mark, or besides it
  meets-shift : (size n m m' u u' l x x' : ℕ) (r : Answer N H B) → m + x ≡ m' + x' → Meets (given size n m u) r l x → Meets (given size n m' u') r l x'
  meets-shift size n m m' u u' l x x' (ended h b s v) e f = omega arith
  meets-shift size n m m' u u' l x x' (lost _ v) e f = tt
  meets-shift size n m m' u u' l x x' (cut units _ v) e f = f
  meets-shift size n m m' u u' l x x' (cut room _ v) e f = omega arith
  meets-shift size n m m' u u' l x x' (cut nested _ v) e f = f
  meets-shift size n m m' u u' l x x' (cut (unbound y) _ v) e f = tt

  -- and back
  meets-in : (size n m u u' l x x' : ℕ) (r : Answer N H B) {w : Stop} → Of r (stops w) → x' ≡ x → Meets (given size (suc n) m u') r (suc l) x' → Meets (given size n m u) r l x
  meets-in size n m u u' l x x' _ of-units e f = f
  meets-in size n m u u' l x x' _ of_room e f = omega arith
  meets-in size n m u u' l x x' _ of-nesting e f = (f.0, omega arith)
  meets-in size n m u u' l x x' _ of-unbound e f = tt

-- ---- every answer says what is so

module _ {H B Q : Type 0} (W : Values H Q) (R : Q → Plan H B Q) {N : Type 0} (Λ : Notes N) (size : ℕ) where
  -- of a plan, with the nesting n left, at the mark m, with u units
  record Right (n : ℕ) (p : Plan H B Q) (m : ℕ) (ν : N) (u : ℕ) (r : Answer N H B) : Type 0 where
    way : Goes W R p (end_of r)
    fits : Fits (given size n m u) (trace way) (rest r)
    meets : Meets (given size n m u) r (level way) (left (trace way))
    notes : notes_of r ≡ noted Λ (trace way) ν

  -- of a visit
  abbrev RightVisit : ℕ → Q → ℕ → N → ℕ → Answer N H B → Type 0
  RightVisit n q m ν u (ended h b s u') =
      (d : Goes W R (R q) (out (done h b))) × Fits (given size n m u) (whole (W.name q) stays (trace d)) u'
      × (s.mark ≡ m + left (trace d)) × (s.notes ≡ noted Λ (whole (W.name q) stays (trace d)) ν)
  RightVisit n q m ν u (lost l u') = (d : Goes W R (R q) (out failed)) × Fits (given size n m u) (whole (W.name q) fails (trace d)) u' × (l ≡ noted Λ (whole (W.name q) fails (trace d)) ν)
  RightVisit n q m ν u (cut c l u') = (t : Keep) (k : H → B → Plan H B Q) (p : Plan H B Q) → Right n (ask t q k p) m ν u (cut c l u')

  -- each step of a plan
  right-look : (n m : ℕ) (ν : N) (u : ℕ) (h : H) (k : ℕ → List H → Plan H B Q) (r : Answer N H B) → Right n (k (W.con h) (W.kids h)) m ν u r → Right n (look h k) m ν u r
  unfolding trace level
  right-look n m ν u h k r s = record { way = g-look s.way; fits = s.fits; meets = s.meets; notes = s.notes }

  right-make : (n m : ℕ) (ν : N) (u c : ℕ) (hs : List H) (k : H → Plan H B Q) (r : Answer N H B) → Right n (k (W.mk c hs)) (suc m) ν u r → Right n (make c hs k) m ν u r
  unfolding trace level left noted
  right-make n m ν u c hs k r s = record {
    way = g-make s.way;
    fits = fits-node size n m u (rest r) (trace s.way) s.fits;
    meets = meets-shift size n (suc m) m u u (level s.way) (left (trace s.way)) (suc (left (trace s.way))) r (omega arith) s.meets;
    notes = s.notes;
  }

  right-room : (n m : ℕ) (ν : N) (u c : ℕ) (hs : List H) (k : H → Plan H B Q) (t : Bool) → leb size m ≡ t → (r : Answer N H B) → m ≤ size → (suc m ≤ size → Right n (k (W.mk c hs)) (suc m) ν u r)
      → Right n (make c hs k) m ν u (room_for t ν u r)
  unfolding room_for trace level left noted
  right-room n m ν u c hs k true e r i f = record { way = g-node; fits = fits-over size n m u i; meets = omega (arith, leb-true size m e); notes = refl }
  right-room n m ν u c hs k false e r i f = right-make n m ν u c hs k r (f (leb-false size m e))

  -- what a visit that succeeded notes does not depend on whether its nodes stay
  noted-fate : (t : Keep) (w : What) (s : Trace) (ν : N) → noted Λ (whole w stays s) ν ≡ noted Λ (whole w (fate t) s) ν
  unfolding noted shut fate
  noted-fate keep w s ν = refl
  noted-fate drop w s ν = refl

  -- a visit, and then what follows it
  noted-then : (w : What) (f : Fate) (s t : Trace) (ν : N) → noted Λ (visit w f s t) ν ≡ noted Λ t (noted Λ (whole w f s) ν)
  unfolding noted
  noted-then w f s t ν = refl

  right-yes : (n m m' : ℕ) (ν ν' : N) (u u' : ℕ) (t : Keep) (q : Q) (k : H → B → Plan H B Q) (p : Plan H B Q) (h : H) (b : B)
      (d : Goes W R (R q) (out (done h b))) (r : Answer N H B) → m' ≡ m + staying (fate t) (left (trace d))
      → ν' ≡ noted Λ (whole (W.name q) stays (trace d)) ν → Fits (given size n m u) (whole (W.name q) stays (trace d)) u' → Right n (k h b) m' ν' u' r → Right n (ask t q k p) m ν u r
  unfolding trace level left
  right-yes n m m' ν ν' u u' t q k p h b d r e z f s = record {
    way = g-yes d s.way;
    fits = fits-then size n m m' u u' (rest r) (W.name q) (fate t) stays (trace d) (trace s.way) e f s.fits;
    meets = meets-shift size n m' m u' u (level s.way) (left (trace s.way)) (staying (fate t) (left (trace d)) + left (trace s.way)) r (omega arith) s.meets;
    notes = s.notes ∙ ap (noted Λ (trace s.way)) (z ∙ noted-fate t (W.name q) (trace d) ν) ∙ sym (noted-then (W.name q) (fate t) (trace d) (trace s.way) ν);
  }

  right-no : (n m : ℕ) (ν ν' : N) (u u' : ℕ) (t : Keep) (q : Q) (k : H → B → Plan H B Q) (p : Plan H B Q) (d : Goes W R (R q) (out failed)) (r : Answer N H B)
      → ν' ≡ noted Λ (whole (W.name q) fails (trace d)) ν → Fits (given size n m u) (whole (W.name q) fails (trace d)) u' → Right n p m ν' u' r → Right n (ask t q k p) m ν u r
  unfolding trace level left staying
  right-no n m ν ν' u u' t q k p d r z f s = record {
    way = g-no d s.way;
    fits = fits-then size n m m u u' (rest r) (W.name q) fails fails (trace d) (trace s.way) (omega arith) f s.fits;
    meets = meets-shift size n m m u' u (level s.way) (left (trace s.way)) (0 + left (trace s.way)) r (omega arith) s.meets;
    notes = s.notes ∙ ap (noted Λ (trace s.way)) z ∙ sym (noted-then (W.name q) fails (trace d) (trace s.way) ν);
  }

  right-in : (n m : ℕ) (ν : N) (u : ℕ) (q : Q) (c : Limit) (l : N) (u' : ℕ) → Right n (R q) m (Λ.begins (W.name q) ν) u (cut c l u')
      → (t : Keep) (k : H → B → Plan H B Q) (p : Plan H B Q) → Right (suc n) (ask t q k p) m ν (suc u) (cut c l u')
  unfolding trace level left staying noted shut
  right-in n m ν u q c l u' s t k p = record {
    way = g-in s.way;
    fits = fits_in size n m u u' (W.name q) in-flight (trace s.way) s.fits;
    meets = meets-out size n m u (suc u) (level s.way) (left (trace s.way)) (left (trace s.way) + 0) c u' (omega arith) s.meets;
    notes = s.notes;
  }

  right-out : (n m : ℕ) (ν : N) (u : ℕ) (q : Q) (r : Answer N H B) → Right n (R q) m (Λ.begins (W.name q) ν) u r → RightVisit (suc n) q m ν (suc u) (closed (counting W Λ size) q r)
  unfolding closed noted shut
  right-out n m ν u q (ended h b c u') s = (s.way, fits_in size n m u u' (W.name q) stays (trace s.way) s.fits, s.meets, ap (Λ.ends (W.name q) true) s.notes)
  right-out n m ν u q (lost _ u') s = (s.way, fits_in size n m u u' (W.name q) fails (trace s.way) s.fits, ap (Λ.ends (W.name q) false) s.notes)
  right-out n m ν u q (cut c l u') s = right-in n m ν u q c l u' s

  -- the mark after a visit that succeeded
  settled_at : (t : Keep) (s s' : Counted N) (x : ℕ) → s'.mark ≡ s.mark + x → (settled (counting W Λ size) t s s').mark ≡ s.mark + staying (fate t) x
  unfolding settled staying fate
  settled_at keep s s' x e = e
  settled_at drop s s' x e = omega arith

  settled-notes : (t : Keep) (s s' : Counted N) → (settled (counting W Λ size) t s s').notes ≡ s'.notes
  unfolding settled
  settled-notes keep s s' = refl
  settled-notes drop s s' = refl

  right-ask : (n m : ℕ) (ν : N) (u : ℕ) (t : Keep) (q : Q) (k : H → B → Plan H B Q) (p : Plan H B Q) (r : Answer N H B) → m ≤ size → RightVisit n q m ν u r
      → (f : H → B → Counted N → ℕ → Answer N H B) → ((h : H) (b : B) (s' : Counted N) (u' : ℕ) → s'.mark ≤ size → Right n (k h b) s'.mark s'.notes u' (f h b s' u'))
      → (g : Counted N → ℕ → Answer N H B) → ((ν' : N) (u' : ℕ) → Right n p m ν' u' (g (at m ν') u'))
      → Right n (ask t q k p) m ν u (after (counting W Λ size) t (at m ν) r f g)
  unfolding after most
  right-ask n m ν u t q k p (ended h b s' u') i (d, z, e, y) f f' g g' =
      let s'' = settled (counting W Λ size) t (at m ν) s' in
      let x : s''.mark ≡ m + staying (fate t) (left (trace d)) = settled_at t (at m ν) s' (left (trace d)) e in
      let v : s''.mark ≤ size = omega (arith, z.room, left-most (trace d), staying-le (fate t) (left (trace d))) in
      right-yes n m s''.mark ν s''.notes u u' t q k p h b d (f h b s'' u') x (settled-notes t (at m ν) s' ∙ y) z (f' h b s'' u' v)
  right-ask n m ν u t q k p (lost l u') i (d, z, y) f f' g g' = right-no n m ν l u u' t q k p d (g (at m l) u') y z (g' l u')
  right-ask n m ν u t q k p (cut c l u') i z f f' g g' = z t k p

  right-plan : (n : ℕ) (ev : Q → Counted N → ℕ → Answer N H B) → ((q : Q) (m : ℕ) (ν : N) (u : ℕ) → m ≤ size → RightVisit n q m ν u (ev q (at m ν) u))
      → (p : Plan H B Q) (m : ℕ) (ν : N) (u : ℕ) → m ≤ size → Right n p m ν u (run_plan (counting W Λ size) ev p (at m ν) u)
  unfolding run_plan trace level left noted
  right-plan n ev ih (ret h b) m ν u i = record { way = g-ret; fits = fits-over size n m u i; meets = omega arith; notes = refl }
  right-plan n ev ih fail m ν u i = record { way = g-fail; fits = fits-over size n m u i; meets = tt; notes = refl }
  right-plan n ev ih (miss p) m ν u i = record { way = g-miss; fits = fits-missed size n m u p i; meets = tt; notes = refl }
  right-plan n ev ih (stuck v) m ν u i = record { way = g-unbound; fits = fits-over size n m u i; meets = tt; notes = refl }
  right-plan n ev ih (look h k) m ν u i = right-look n m ν u h k (run_plan (counting W Λ size) ev (k (W.con h) (W.kids h)) (at m ν) u) (right-plan n ev ih (k (W.con h) (W.kids h)) m ν u i)
  right-plan n ev ih (make c hs k) m ν u i =
      right-room n m ν u c hs k (leb size m) refl (run_plan (counting W Λ size) ev (k (W.mk c hs)) (at (suc m) ν) u) i
      (λ j. right-plan n ev ih (k (W.mk c hs)) (suc m) ν u j)
  right-plan n ev ih (ask t q k p) m ν u i =
      right-ask n m ν u t q k p (ev q (at m ν) u) i (ih q m ν u i)
      (λ h b s' u'. run_plan (counting W Λ size) ev (k h b) s' u') (λ h b s' u' j. right-plan n ev ih (k h b) s'.mark s'.notes u' j)
      (λ s' u'. run_plan (counting W Λ size) ev p s' u') (λ ν' u'. right-plan n ev ih p m ν' u' i)

  -- every answer of a visit is right
  right-run : (n : ℕ) (q : Q) (m : ℕ) (ν : N) (u : ℕ) → m ≤ size → RightVisit n q m ν u (run (counting W Λ size) R n q (at m ν) u)
  unfolding run trace level left noted
  right-run zero q m ν zero i = λ t k p. record { way = g-visit; fits = fits-over size zero m zero i; meets = refl; notes = refl }
  right-run zero q m ν (suc u) i = λ t k p. record { way = g-visit; fits = fits-over size zero m (suc u) i; meets = (omega arith, refl); notes = refl }
  right-run (suc n) q m ν zero i = λ t k p. record { way = g-visit; fits = fits-over size (suc n) m zero i; meets = refl; notes = refl }
  right-run (suc n) q m ν (suc u) i =
      right-out n m ν u q (run_plan (counting W Λ size) (run (counting W Λ size) R n) (R q) (at m (Λ.begins (W.name q) ν)) u)
      (right-plan n (run (counting W Λ size) R n) (right-run n) (R q) m (Λ.begins (W.name q) ν) u i)

  -- ---- what is so is answered

  run-counted : (n : ℕ) (q : Q) (m : ℕ) (ν : N) (u v : ℕ) → u ≡ suc v
      → run (counting W Λ size) R (suc n) q (at m ν) u ≡ closed (counting W Λ size) q (run_plan (counting W Λ size) (run (counting W Λ size) R n) (R q) (at m (Λ.begins (W.name q) ν)) v)
  unfolding run
  run-counted n q m ν zero v e = absurd (omega arith)
  run-counted n q m ν (suc u) v e = let e' : u ≡ v = omega arith in rw e'

  run-no-units : (n : ℕ) (q : Q) (m : ℕ) (ν : N) (u : ℕ) → u ≡ 0 → run (counting W Λ size) R n q (at m ν) u ≡ cut units ν 0
  unfolding run
  run-no-units zero q m ν zero e = refl
  run-no-units zero q m ν (suc u) e = absurd (omega arith)
  run-no-units (suc n) q m ν zero e = refl
  run-no-units (suc n) q m ν (suc u) e = absurd (omega arith)

  run-too-deep : (n : ℕ) (q : Q) (m : ℕ) (ν : N) (u : ℕ) → 0 < u → n ≡ 0 → run (counting W Λ size) R n q (at m ν) u ≡ cut nested ν u
  unfolding run
  run-too-deep zero q m ν zero i e = absurd (omega arith)
  run-too-deep zero q m ν (suc u) i e = refl
  run-too-deep (suc n) q m ν u i e = absurd (omega arith)

  room-left : (m : ℕ) (ν : N) (u : ℕ) (r : Answer N H B) → m < size → room_for (leb size m) ν u r ≡ r
  unfolding room_for
  room-left m ν u r i = rw (lt-leb size m i, room_for)

  no_room : (m : ℕ) (ν : N) (u : ℕ) (r : Answer N H B) → size ≤ m → room_for (leb size m) ν u r ≡ cut room ν u
  unfolding room_for
  no_room m ν u r i = rw (le-leb size m i, room_for)

  settled_is : (t : Keep) (m : ℕ) (ν ν' : N) (x : ℕ) → settled (counting W Λ size) t (at m ν) (at (m + x) ν') ≡ at (m + staying (fate t) x) ν'
  unfolding settled staying fate
  settled_is keep m ν ν' x = refl
  settled_is drop m ν ν' x = let e : m ≡ m + 0 = omega arith in λ i. at (e i) ν'

  after-yes : (t : Keep) (m : ℕ) (ν ν' : N) (v x : ℕ) (r : Answer N H B) (h : H) (b : B) (f : H → B → Counted N → ℕ → Answer N H B) (g : Counted N → ℕ → Answer N H B) → r ≡ ended h b (at (m + x) ν') v
      → after (counting W Λ size) t (at m ν) r f g ≡ f h b (at (m + staying (fate t) x) ν') v
  unfolding after
  after-yes t m ν ν' v x r h b f g e = rw (e, after) (ap (λ y. f h b y v) (settled_is t m ν ν' x))

  after-no : (t : Keep) (m : ℕ) (ν ν' : N) (v : ℕ) (r : Answer N H B) (f : H → B → Counted N → ℕ → Answer N H B)
      (g : Counted N → ℕ → Answer N H B) → r ≡ lost ν' v → after (counting W Λ size) t (at m ν) r f g ≡ g (at m ν') v
  unfolding after
  after-no t m ν ν' v r f g e = rw (e, after)

  -- nothing catches a cut-off
  after-cut : (t : Keep) (m : ℕ) (ν : N) (r r' : Answer N H B) (f : H → B → Counted N → ℕ → Answer N H B) (g : Counted N → ℕ → Answer N H B)
      {w : Stop} → Of r' (stops w) → r ≡ r' → after (counting W Λ size) t (at m ν) r f g ≡ r'
  unfolding after
  after-cut t m ν r _ f g of-units e = rw (e, after)
  after-cut t m ν r _ f g of_room e = rw (e, after)
  after-cut t m ν r _ f g of-nesting e = rw (e, after)
  after-cut t m ν r _ f g of-unbound e = rw (e, after)

  -- nor is it noted
  closed-cut : (q : Q) (r : Answer N H B) {w : Stop} → Of r (stops w) → closed (counting W Λ size) q r ≡ r
  unfolding closed
  closed-cut q _ of-units = refl
  closed-cut q _ of_room = refl
  closed-cut q _ of-nesting = refl
  closed-cut q _ of-unbound = refl

  -- what goes so, fits and meets what the answer says, is answered so
  answered : (n : ℕ) {p : Plan H B Q} {e : End H B} (s : Goes W R p e) (r : Answer N H B) → Of r e → (m : ℕ) (ν : N) (u : ℕ) → Fits (given size n m u) (trace s) (rest r)
      → Meets (given size n m u) r (level s) (left (trace s)) → notes_of r ≡ noted Λ (trace s) ν → run_plan (counting W Λ size) (run (counting W Λ size) R n) p (at m ν) u ≡ r
  unfolding run_plan trace level visits depth left most staying noted shut closed fate
  answered n (g-ret {h = h} {b = b}) (ended _ _ s' u') of-ended m ν u f x o =
      let y : m ≡ s'.mark = omega arith in let z : u ≡ u' = omega (arith, f.units) in λ i. ended h b (at (y i) (sym o i)) (z i)
  answered n g-ret (lost l u') a m ν u f x o = elim a [ ]
  answered n g-ret (cut _ l u') a m ν u f x o = elim a [ ]
  answered n g-fail (ended _ _ s' u') a m ν u f x o = elim a [ ]
  answered n g-fail (cut _ l u') a m ν u f x o = elim a [ ]
  answered n g-miss (ended _ _ s' u') a m ν u f x o = elim a [ ]
  answered n g-miss (cut _ l u') a m ν u f x o = elim a [ ]
  answered n (g-visit {t = t} {q = q} {k = k} {p = p}) (ended _ _ s' u') a m ν u f x o = elim a [ ]
  answered n (g-visit {t = t} {q = q} {k = k} {p = p}) (lost l u') a m ν u f x o = elim a [ ]
  answered n g-node (ended _ _ s' u') a m ν u f x o = elim a [ ]
  answered n g-node (lost l u') a m ν u f x o = elim a [ ]
  answered n (g-unbound {v = v}) (ended _ _ s' u') a m ν u f x o = elim a [ ]
  answered n (g-unbound {v = v}) (lost l u') a m ν u f x o = elim a [ ]
  answered n g-fail (lost l u') of-lost m ν u f x o = let z : u ≡ u' = omega (arith, f.units) in λ i. lost (sym o i) (z i)
  answered n g-miss (lost l u') of-lost m ν u f x o = let z : u ≡ u' = omega (arith, f.units) in λ i. lost (sym o i) (z i)
  answered n (g-visit {t = t} {q = q}) (cut _ l u') of-units m ν u f x o =
      after-cut t m ν _ (cut units l u') _ _ of-units (run-no-units n q m ν u (omega (arith, f.units))
      ∙ (let z : 0 ≡ u' = omega arith in λ i. cut units (sym o i) (z i)))
  answered n (g-visit {t = t} {q = q}) (cut _ l u') of-nesting m ν u f x o =
      after-cut t m ν _ (cut nested l u') _ _ of-nesting
      (run-too-deep n q m ν u (omega (arith, f.units)) (omega arith)
      ∙ (let z : u ≡ u' = omega (arith, f.units) in λ i. cut nested (sym o i) (z i)))
  answered n g-node (cut _ l u') of_room m ν u f x o = no_room m ν u _ (omega arith) ∙ (let z : u ≡ u' = omega (arith, f.units) in λ i. cut room (sym o i) (z i))
  answered n (g-unbound {v = v}) (cut _ l u') of-unbound m ν u f x o = let z : u ≡ u' = omega (arith, f.units) in λ i. cut (unbound v) (sym o i) (z i)
  answered n (g-look s) r a m ν u f x o = answered n s r a m ν u f x o
  answered n (g-make s) r a m ν u f x o =
      room-left m ν u _ (omega (arith, f.room))
      ∙ answered n s r a (suc m) ν u (record { units = f.units; room = omega (arith, f.room); nesting = f.nesting })
      (meets-shift size n m (suc m) u u (level s) (suc (left (trace s))) (left (trace s)) r (omega arith) x) o
  answered zero (g-in s) r a m ν u f x o = absurd (omega (arith, f.nesting))
  answered (suc n) (g-in {t = t} {q = q} s) r a m ν u f x o =
      after-cut t m ν _ r _ _ a (run-counted n q m ν u (visits (trace s) + rest r) (omega (arith, f.units))
      ∙ ap (closed (counting W Λ size) q) (answered n s r a m (Λ.begins (W.name q) ν) (visits (trace s) + rest r)
      (record { units = refl; room = omega (arith, f.room); nesting = omega (arith, f.nesting) })
      (meets-in size n m (visits (trace s) + rest r) u (level s) (left (trace s)) (left (trace s) + 0) r a (omega arith) x) o)
      ∙ closed-cut q r a)
  answered zero (g-yes d s) r a m ν u f x o = absurd (omega (arith, f.nesting))
  answered (suc n) (g-yes {t = t} {q = q} {h = h} {b = b} d s) r a m ν u f x o =
      let v : ℕ = visits (trace s) + rest r in
      let ν₁ : N = noted Λ (trace d) (Λ.begins (W.name q) ν) in
      let ν₂ : N = Λ.ends (W.name q) true ν₁ in
      after-yes t m ν ν₂ v (left (trace d)) _ h b _ _ (run-counted n q m ν u (visits (trace d) + v) (omega (arith, f.units))
      ∙ ap (closed (counting W Λ size) q) (answered n d (ended h b (at (m + left (trace d)) ν₁) v) of-ended m (Λ.begins (W.name q) ν)
      (visits (trace d) + v) (record { units = refl; room = omega (arith, f.room); nesting = omega (arith, f.nesting) }) refl refl))
      ∙ answered (suc n) s r a (m + staying (fate t) (left (trace d))) ν₂ v (record { units = refl; room = omega (arith, f.room); nesting = omega (arith, f.nesting) })
      (meets-shift size (suc n) m (m + staying (fate t) (left (trace d))) u v (level s) (staying (fate t) (left (trace d)) + left (trace s)) (left (trace s)) r (omega arith) x)
      (o ∙ ap (noted Λ (trace s)) (sym (noted-fate t (W.name q) (trace d) ν)))
  answered zero (g-no d s) r a m ν u f x o = absurd (omega (arith, f.nesting))
  answered (suc n) (g-no {t = t} {q = q} d s) r a m ν u f x o =
      let v : ℕ = visits (trace s) + rest r in
      let ν₁ : N = noted Λ (trace d) (Λ.begins (W.name q) ν) in
      after-no t m ν (Λ.ends (W.name q) false ν₁) v _ _ _ (run-counted n q m ν u (visits (trace d) + v) (omega (arith, f.units))
      ∙ ap (closed (counting W Λ size) q) (answered n d (lost ν₁ v) of-lost m (Λ.begins (W.name q) ν) (visits (trace d) + v)
      (record { units = refl; room = omega (arith, f.room); nesting = omega (arith, f.nesting) }) tt refl))
      ∙ answered (suc n) s r a m (Λ.ends (W.name q) false ν₁) v (record { units = refl; room = omega (arith, f.room); nesting = omega (arith, f.nesting) })
      (meets-shift size (suc n) m m u v (level s) (0 + left (trace s)) (left (trace s)) r (omega arith) x) o

  -- the run of one visit is the run of the plan that asks for it alone
  asked-alone : (n : ℕ) (q : Q) (m : ℕ) (ν : N) (u : ℕ) → run_plan (counting W Λ size) (run (counting W Λ size) R n) (ask keep q ret fail) (at m ν) u ≡ run (counting W Λ size) R n q (at m ν) u
  unfolding run_plan after settled
  asked-alone n q m ν u = same (run (counting W Λ size) R n q (at m ν) u)
    where
      same : (r : Answer N H B) → after (counting W Λ size) keep (at m ν) r (λ h b s' v. ended h b s' v) (λ s' v. lost s'.notes v) ≡ r
      same (ended h b s' v) = refl
      same (lost l v) = refl
      same (cut c l v) = refl

  answered-visit : (n : ℕ) (q : Q) (m : ℕ) (ν : N) (u : ℕ) (r : Answer N H B) (s : Goes W R (ask keep q ret fail) (end_of r))
      → Fits (given size n m u) (trace s) (rest r) → Meets (given size n m u) r (level s) (left (trace s))
      → notes_of r ≡ noted Λ (trace s) ν → run (counting W Λ size) R n q (at m ν) u ≡ r
  answered-visit n q m ν u r s f x o = sym (asked-alone n q m ν u) ∙ answered n s r (of_end r) m ν u f x o

-- ---- derivations by plans are what goes to its end

module _ {H B Q : Type 0} {W : Values H Q} {R : Q → Plan H B Q} where
  goes-of-der : {p : Plan H B Q} {o : Out H B} (d : Der W R p o) → (s : Goes W R p (out o)) × (trace s ≡ traceDer d)
  unfolding trace traceDer
  goes-of-der d-ret = (g-ret, refl)
  goes-of-der d-fail = (g-fail, refl)
  goes-of-der d-miss = (g-miss, refl)
  goes-of-der (d-look d) = let s = goes-of-der d in (g-look s.0, s.1)
  goes-of-der (d-make d) = let s = goes-of-der d in (g-make s.0, ap node s.1)
  goes-of-der (d-yes {t = t} {q = q} d e) = let r = goes-of-der d in let s = goes-of-der e in (g-yes r.0 s.0, λ i. visit (W.name q) (fate t) (r.1 i) (s.1 i))
  goes-of-der (d-no {q = q} d e) = let r = goes-of-der d in let s = goes-of-der e in (g-no r.0 s.0, λ i. visit (W.name q) fails (r.1 i) (s.1 i))

  der-of-goes : {p : Plan H B Q} {o : Out H B} (s : Goes W R p (out o)) → (d : Der W R p o) × (traceDer d ≡ trace s)
  unfolding trace traceDer
  der-of-goes g-ret = (d-ret, refl)
  der-of-goes g-fail = (d-fail, refl)
  der-of-goes g-miss = (d-miss, refl)
  der-of-goes (g-look s) = let d = der-of-goes s in (d-look d.0, d.1)
  der-of-goes (g-make s) = let d = der-of-goes s in (d-make d.0, ap node d.1)
  der-of-goes (g-yes {t = t} {q = q} r s) = let d = der-of-goes r in let e = der-of-goes s in (d-yes d.0 e.0, λ i. visit (W.name q) (fate t) (d.1 i) (e.1 i))
  der-of-goes (g-no {q = q} r s) = let d = der-of-goes r in let e = der-of-goes s in (d-no d.0 e.0, λ i. visit (W.name q) fails (d.1 i) (e.1 i))

-- ---- System S

module _ (agree : RulesAgree) (T : Table) where
  goes-of-rule : (q : Visit Term) (o : Out Term Env) (r : T ⊢ q ⇒ o) → (s : Goes terms (does T) (does T q) (out o)) × (trace s ≡ traceOf r)
  goes-of-rule q o r = let d = (agree T q o (traceOf r)).0 (r, refl) in let s = goes-of-der d.0 in (s.0, s.1 ∙ d.1)

  rule-of-goes : (q : Visit Term) (o : Out Term Env) (s : Goes terms (does T) (does T q) (out o)) → (r : T ⊢ q ⇒ o) × (traceOf r ≡ trace s)
  rule-of-goes q o s = let d = der-of-goes s in let r = (agree T q o (traceDer d.0)).1 (d.0, refl) in (r.0, r.1 ∙ d.1)

  goes-of-begun : {p : Do Term} {w : Stop} (b : Begun T p w) → (s : Goes terms (does T) p (stops w)) × (trace s ≡ traceBegun b) × (level s ≡ levelBegun b)
  unfolding trace level traceBegun levelBegun
  goes-of-begun b-visit = (g-visit, refl, refl)
  goes-of-begun b-node = (g-node, refl, refl)
  goes-of-begun b-unbound = (g-unbound, refl, refl)
  goes-of-begun (b-look b) = let s = goes-of-begun b in (g-look s.0, s.1, s.2)
  goes-of-begun (b-make b) = let s = goes-of-begun b in (g-make s.0, ap node s.1, s.2)
  goes-of-begun (b-in {q = q} b) = let s = goes-of-begun b in (g-in s.0, (λ i. visit (what q) in-flight (s.1 i) over), ap suc s.2)
  goes-of-begun (b-yes {t = t} {q = q} {h = h} {b = c} r b) =
      let d = goes-of-rule q (done h c) r in let s = goes-of-begun b in
      (g-yes d.0 s.0, (λ i. visit (what q) (fate t) (d.1 i) (s.1 i)), s.2)
  goes-of-begun (b-no {q = q} r b) = let d = goes-of-rule q failed r in let s = goes-of-begun b in (g-no d.0 s.0, (λ i. visit (what q) fails (d.1 i) (s.1 i)), s.2)

  begun-of-goes : {p : Do Term} {w : Stop} (s : Goes terms (does T) p (stops w)) → (b : Begun T p w) × (traceBegun b ≡ trace s) × (levelBegun b ≡ level s)
  unfolding trace level traceBegun levelBegun
  begun-of-goes g-visit = (b-visit, refl, refl)
  begun-of-goes g-node = (b-node, refl, refl)
  begun-of-goes g-unbound = (b-unbound, refl, refl)
  begun-of-goes (g-look s) = let b = begun-of-goes s in (b-look b.0, b.1, b.2)
  begun-of-goes (g-make s) = let b = begun-of-goes s in (b-make b.0, ap node b.1, b.2)
  begun-of-goes (g-in {q = q} s) = let b = begun-of-goes s in (b-in b.0, (λ i. visit (what q) in-flight (b.1 i) over), ap suc b.2)
  begun-of-goes (g-yes {t = t} {q = q} {h = h} {b = c} d s) =
      let r = rule-of-goes q (done h c) d in let b = begun-of-goes s in
      (b-yes r.0 b.0, (λ i. visit (what q) (fate t) (r.1 i) (b.1 i)), b.2)
  begun-of-goes (g-no {q = q} d s) = let r = rule-of-goes q failed d in let b = begun-of-goes s in (b-no r.0 b.0, (λ i. visit (what q) fails (r.1 i) (b.1 i)), b.2)

  module _ {N : Type 0} (Λ : Notes N) (ν : N) (g : Given) (q : Visit Term) where
    says : (r : Answer N Term Env) → RightVisit terms (does T) Λ g.size g.nesting q g.mark ν g.units r → Says Λ ν T g q r
    unfolding left staying
    says (ended t b m u) (d, f, e, o) =
        let r = rule-of-goes q (done t b) d in (
          r.0,
          subst (λ x. Fits g (whole_of q stays x) u) (sym r.1) f,
          subst (λ x. m.mark ≡ g.mark + (left x + 0)) (sym r.1)
              (omega arith),
          subst (λ x. m.notes ≡ noted Λ (whole_of q stays x) ν) (sym r.1) o,
        )
    says (lost l u) (d, f, o) = let r = rule-of-goes q failed d in (r.0, subst (λ x. Fits g (whole_of q fails x) u) (sym r.1) f, subst (λ x. l ≡ noted Λ (whole_of q fails x) ν) (sym r.1) o)
    says (cut c l u) s =
        let z = s keep ret fail in
        let b = begun-of-goes z.way in
        (b.0, subst (λ x. Fits g x u) (sym b.1) z.fits, subst₂ (λ x y. Met g c x (left y) u) (sym b.2) (sym b.1) z.meets, subst (λ x. l ≡ noted Λ x ν) (sym b.1) z.notes)

    said : (r : Answer N Term Env) → Says Λ ν T g q r → run (counting terms Λ g.size) (does T) g.nesting q (at g.mark ν) g.units ≡ r
    unfolding trace level left visits depth most staying fate noted
    said (ended t b m u) (r, f, e, o) =
        let d = goes-of-rule q (done t b) r in
        answered-visit terms (does T) Λ g.size g.nesting q g.mark ν g.units (ended t b m u) (g-yes d.0 g-ret)
        (subst (λ x. Fits g (whole_of q stays x) u) (sym d.1) f) (subst (λ x. m.mark ≡ g.mark + (left x + 0)) (sym d.1) e) (subst (λ x. m.notes ≡ noted Λ (whole_of q stays x) ν) (sym d.1) o)
    said (lost l u) (r, f, o) =
        let d = goes-of-rule q failed r in
        answered-visit terms (does T) Λ g.size g.nesting q g.mark ν g.units (lost l u) (g-no d.0 g-fail)
        (subst (λ x. Fits g (whole_of q fails x) u) (sym d.1) f) tt (subst (λ x. l ≡ noted Λ (whole_of q fails x) ν) (sym d.1) o)
    said (cut c l u) (b, f, x, o) =
        let s = goes-of-begun b in
        answered-visit terms (does T) Λ g.size g.nesting q g.mark ν g.units (cut c l u) s.0
        (subst (λ x. Fits g x u) (sym s.1) f) (subst₂ (λ x y. Met g c x (left y) u) (sym s.2) (sym s.1) x) (subst (λ x. l ≡ noted Λ x ν) (sym s.1) o)

-- Demand 2, terms as values.
pub demand-2-values : RulesAgree → Demand2Values
demand-2-values agree N Λ ν T g q r i = (
  (λ e. says agree T Λ ν g q r (subst (λ r. RightVisit terms (does T) Λ g.size g.nesting q g.mark ν g.units r) e
      (right-run terms (does T) Λ g.size g.nesting q g.mark ν g.units i))),
  said agree T Λ ν g q r,
)
