-- The run in steps answers as the run: what comes next has a meaning, which a step does not change.
use mathlib.Core.Path.{◌≡◌, refl, ap, sym, ◌∙◌}
use mathlib.Core.Bool.{Bool, true, false}
use mathlib.Core.List.{List, [], ◌∷◌}
use Prim.Native.Nat.{ℕ, zero, suc, ◌+◌, ◌≤◌}
use native.Mathlib.Omega.{arith}
use Rattle.meaning.specs.Plan.{keep, Plan, ret, fail, miss, stuck, look, make, ask}
use Rattle.meaning.specs.Limits.{Limit, units, room, nesting, Res, ended, lost, cut, Store, room_for, settled, after, closed, run_plan, run}
use Rattle.meaning.specs.Steps.{Frame, Next, over, next, roomy, advance, onto, settle, enter, one, steps, start, Stepped, StepsInParts, OneEnd}

module _ {H B Q S L : Type 0} (M : Store H Q S L) (R : Q → Plan H B Q) where
  -- what the frames make of an end of the innermost visit
  ends : List (Frame H B Q S) → Res H B S L → Res H B S L
  ends [] r = r
  ends (f ∷ fs) r =
      ends fs (after M f.keeps f.before (closed M f.visit r)
      (λ h b s u. run_plan M (run M R f.left) (f.yes h b) s u) (λ s u. run_plan M (run M R f.left) f.no s u))

  -- a visit, before its end is noted
  body : ℕ → Q → S → ℕ → Res H B S L
  body n q s zero = cut units (M.left s) 0
  body zero q s (suc u) = cut nesting (M.left s) (suc u)
  body (suc n) q s (suc u) = run_plan M (run M R n) (R q) (M.begins q s) u

  run-body : (n : ℕ) (q : Q) (s : S) (u : ℕ) → closed M q (body n q s u) ≡ run M R n q s u
  unfolding body run closed
  run-body zero q s zero = refl
  run-body (suc n) q s zero = refl
  run-body zero q s (suc u) = refl
  run-body (suc n) q s (suc u) = refl

  -- what comes next, as the answer that it leads to
  mean : Next H B Q S L → Res H B S L
  mean (over r) = r
  mean (next s u f fs) = ends (f ∷ fs) (body f.left f.visit s u)

  ends-cut : (fs : List (Frame H B Q S)) (c : Limit) (l : L) (u : ℕ) → ends fs (cut c l u) ≡ cut c l u
  unfolding ends closed after
  ends-cut [] c l u = refl
  ends-cut (f ∷ fs) c l u = ends-cut fs c l u

  room-mean : (t : Bool) (fs : List (Frame H B Q S)) (l : L) (u : ℕ) (x : Next H B Q S L) (r : Res H B S L) → mean x ≡ ends fs r → mean (roomy t (over (cut room l u)) x) ≡ ends fs (room_for t l u r)
  unfolding roomy room_for mean
  room-mean true fs l u x r e = sym (ends-cut fs room l u)
  room-mean false fs l u x r e = e

  -- a plan gone on with means what it is run to
  advance-mean : (fs : List (Frame H B Q S)) → ((r : Res H B S L) → mean (settle M R fs r) ≡ ends fs r) → (n : ℕ) (p : Plan H B Q) (s : S) (u : ℕ)
      → mean (advance M R (settle M R fs) n fs p s u) ≡ ends fs (run_plan M (run M R n) p s u)
  unfolding advance run_plan mean body after closed ends
  advance-mean fs z n (ret h b) s u = z _
  advance-mean fs z n fail s u = z _
  advance-mean fs z n (miss p) s u = z _
  advance-mean fs z n (stuck v) s u = sym (ends-cut fs _ _ u)
  advance-mean fs z n (look h k) s u = advance-mean fs z n (k (M.con s h) (M.kids s h)) s u
  advance-mean fs z n (make c hs k) s u = room-mean (M.full s c hs) fs _ u _ _ (advance-mean fs z n (k (M.new s c hs)) (M.put s c hs) u)
  advance-mean fs z n (ask t q k p) s u =
      ap (λ r. ends fs (after M t s r (λ h b s' u'. run_plan M (run M R n) (k h b) s' u') (λ s' u'. run_plan M (run M R n) p s' u'))) (run-body n q s u)

  settle-mean : (fs : List (Frame H B Q S)) (r : Res H B S L) → mean (settle M R fs r) ≡ ends fs r
  unfolding settle mean ends onto after
  settle-mean [] r = refl
  settle-mean (f ∷ fs) r = go (settle-mean fs) (closed M f.visit r)
    where
      go : ((r : Res H B S L) → mean (settle M R fs r) ≡ ends fs r) → (r : Res H B S L) → mean (onto M R f (advance M R (settle M R fs) f.left fs) r)
          ≡ ends fs (after M f.keeps f.before r (λ h b s u. run_plan M (run M R f.left) (f.yes h b) s u) (λ s u. run_plan M (run M R f.left) f.no s u))
      go z (ended h b s u) = advance-mean fs z f.left (f.yes h b) _ u
      go z (lost l u) = advance-mean fs z f.left f.no _ u
      go z (cut c l u) = sym (ends-cut fs c l u)

  -- a step does not change what it means
  enter-mean : (n : ℕ) (s : S) (u : ℕ) (f : Frame H B Q S) (fs : List (Frame H B Q S)) → mean (enter M R n s u f fs) ≡ ends (f ∷ fs) (body n f.visit s u)
  unfolding enter mean body
  enter-mean zero s zero f fs = sym (ends-cut (f ∷ fs) units _ 0)
  enter-mean (suc n) s zero f fs = sym (ends-cut (f ∷ fs) units _ 0)
  enter-mean zero s (suc u) f fs = sym (ends-cut (f ∷ fs) nesting _ (suc u))
  enter-mean (suc n) s (suc u) f fs = advance-mean (f ∷ fs) (settle-mean (f ∷ fs)) n (R f.visit) _ u

  one-mean : (x : Next H B Q S L) → mean (one M R x) ≡ mean x
  unfolding one mean
  one-mean (over r) = refl
  one-mean (next s u f fs) = enter-mean f.left s u f fs

  -- at most n units are left
  abbrev Few : ℕ → Next H B Q S L → Type 0
  Few n (over r) = Unit {0}
  Few n (next s u f fs) = u ≤ n

  abbrev units_of : Res H B S L → ℕ
  units_of (ended h b s u) = u
  units_of (lost l u) = u
  units_of (cut c l u) = u

  room-few : (t : Bool) (n : ℕ) (r : Res H B S L) (x : Next H B Q S L) → Few n x → Few n (roomy t (over r) x)
  unfolding roomy
  room-few true n r x z = tt
  room-few false n r x z = z

  advance-few : (m : ℕ) (fs : List (Frame H B Q S)) → ((r : Res H B S L) → units_of r ≤ m → Few m (settle M R fs r))
      → (n : ℕ) (p : Plan H B Q) (s : S) (u : ℕ) → u ≤ m → Few m (advance M R (settle M R fs) n fs p s u)
  unfolding advance
  advance-few m fs z n (ret h b) s u i = z _ i
  advance-few m fs z n fail s u i = z _ i
  advance-few m fs z n (miss p) s u i = z _ i
  advance-few m fs z n (stuck v) s u i = tt
  advance-few m fs z n (look h k) s u i = advance-few m fs z n (k (M.con s h) (M.kids s h)) s u i
  advance-few m fs z n (make c hs k) s u i = room-few (M.full s c hs) m _ _ (advance-few m fs z n (k (M.new s c hs)) (M.put s c hs) u i)
  advance-few m fs z n (ask t q k p) s u i = i

  closed-few : (q : Q) (r : Res H B S L) → units_of (closed M q r) ≡ units_of r
  unfolding closed
  closed-few q (ended h b s u) = refl
  closed-few q (lost l u) = refl
  closed-few q (cut c l u) = refl

  settle-few : (m : ℕ) (fs : List (Frame H B Q S)) (r : Res H B S L) → units_of r ≤ m → Few m (settle M R fs r)
  unfolding settle onto
  settle-few m [] r i = tt
  settle-few m (f ∷ fs) r i = go (settle-few m fs) (closed M f.visit r) (omega (arith, closed-few f.visit r))
    where
      go : ((r : Res H B S L) → units_of r ≤ m → Few m (settle M R fs r)) → (r : Res H B S L) → units_of r ≤ m → Few m (onto M R f (advance M R (settle M R fs) f.left fs) r)
      go z (ended h b s u) i = advance-few m fs z f.left (f.yes h b) _ u i
      go z (lost l u) i = advance-few m fs z f.left f.no _ u i
      go z (cut c l u) i = tt

  enter-few : (n k : ℕ) (s : S) (u : ℕ) (f : Frame H B Q S) (fs : List (Frame H B Q S)) → u ≤ suc n → Few n (enter M R k s u f fs)
  unfolding enter
  enter-few n k s zero f fs i = tt
  enter-few n zero s (suc u) f fs i = tt
  enter-few n (suc k) s (suc u) f fs i = advance-few n (f ∷ fs) (settle-few n (f ∷ fs)) k (R f.visit) _ u (omega arith)

  one-few : (n : ℕ) (x : Next H B Q S L) → Few (suc n) x → Few n (one M R x)
  unfolding one
  one-few n (over r) i = tt
  one-few n (next s u f fs) i = enter-few n f.left s u f fs i

  -- without units it ends
  enter-over : (k : ℕ) (s : S) (u : ℕ) (f : Frame H B Q S) (fs : List (Frame H B Q S)) → u ≤ 0 → enter M R k s u f fs ≡ over (mean (enter M R k s u f fs))
  unfolding enter mean
  enter-over k s zero f fs i = refl
  enter-over k s (suc u) f fs i = absurd (omega arith)

  one-over : (x : Next H B Q S L) → Few 0 x → one M R x ≡ over (mean (one M R x))
  unfolding one mean
  one-over (over r) i = refl
  one-over (next s u f fs) i = enter-over f.left s u f fs i

  -- with more steps than units it ends
  ending : (n : ℕ) (x : Next H B Q S L) → Few n x → steps M R (suc n) x ≡ over (mean x)
  unfolding steps
  ending zero x i = one-over x i ∙ ap over (one-mean x)
  ending (suc n) x i = ending n (one M R x) (one-few n x i) ∙ ap over (one-mean x)

  -- the root's frame gives its visit's end back
  root : ((s : S) (l : L) → M.left (M.back s l) ≡ l) → (n : ℕ) (q : Q) (s : S) (u : ℕ) → mean (start M R n q s u) ≡ run M R n q s u
  unfolding start mean ends run_plan after settled
  root back n q s u = ap (λ r. after M keep s r (λ h b s' v. ended h b s' v) (λ s' v. lost (M.left s') v)) (run-body n q s u) ∙ same (run M R n q s u)
    where
      same : (r : Res H B S L) → after M keep s r (λ h b s' v. ended h b s' v) (λ s' v. lost (M.left s') v) ≡ r
      same (ended h b s' v) = refl
      same (lost l v) = λ i. lost (back s l i) v
      same (cut c l v) = refl

pub stepped : Stepped
unfolding start
stepped H B Q S L M R back n q s u = ending M R u (start M R n q s u) (omega arith) ∙ ap over (root M R back n q s u)

-- ---- however the steps are cut into parts

module _ {H B Q S L : Type 0} (M : Store H Q S L) (R : Q → Plan H B Q) where
  add-steps : (m n : ℕ) (X : Next H B Q S L) → steps M R (m + n) X ≡ steps M R n (steps M R m X)
  unfolding steps
  add-steps zero n X = let e : zero + n ≡ n = omega arith in ap (λ (k : ℕ). steps M R k X) e
  add-steps (suc m) n X = let e : suc m + n ≡ suc (m + n) = omega arith in ap (λ (k : ℕ). steps M R k X) e ∙ add-steps m n (one M R X)

  -- one step more is one of what the others led to
  pub steps-suc : (n : ℕ) (X : Next H B Q S L) → steps M R (suc n) X ≡ one M R (steps M R n X)
  unfolding steps
  steps-suc zero X = refl
  steps-suc (suc n) X = steps-suc n (one M R X)

  pub over-stays : (n : ℕ) (r : Res H B S L) → steps M R n (over r) ≡ over r
  unfolding steps one
  over-stays zero r = refl
  over-stays (suc n) r = over-stays n r

  same_end : (m n : ℕ) (X : Next H B Q S L) (r q : Res H B S L) → steps M R m X ≡ over r → steps M R n X ≡ over q → r ≡ q
  same_end m n X r q e f =
      let c : m + n ≡ n + m = omega arith in
      let a : steps M R (m + n) X ≡ over r = add-steps m n X ∙ ap (steps M R n) e ∙ over-stays n r in
      let b : steps M R (m + n) X ≡ over q = ap (λ (k : ℕ). steps M R k X) c ∙ add-steps n m X ∙ ap (steps M R m) f ∙ over-stays m q in
      let z : ◌≡◌ {A = Next H B Q S L} (over r) (over q) = sym a ∙ b in
      cc

pub steps-in-parts : StepsInParts
steps-in-parts H B Q S L M R m n X = add-steps M R m n X

pub one_end : OneEnd
one_end H B Q S L M R back n q s u m r e = same_end M R m (suc u) (start M R n q s u) r _ e (stepped H B Q S L M R back n q s u)
