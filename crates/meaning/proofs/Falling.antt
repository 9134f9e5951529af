-- The units left never rise: of any store, by any rules, a run has at most those left that it was given.
use mathlib.Core.Bool.{Bool, true, false}
use Prim.Native.Nat.{ℕ, zero, suc, ◌≤◌}
use native.Mathlib.Omega.{arith}
use Rattle.meaning.specs.Plan.{Keep, Plan, ret, fail, miss, stuck, look, make, ask}
use Rattle.meaning.specs.Limits.{Store, Res, ended, lost, cut, room_for, settled, after, closed, run_plan, run}

unfoldable pub units_left : {H B S L : Type 0} → Res H B S L → ℕ
units_left (ended h b s u) = u
units_left (lost l u) = u
units_left (cut c l u) = u

room_falls : {H B S L : Type 0} (t : Bool) (l : L) (u : ℕ) (r : Res H B S L) → units_left r ≤ u → units_left (room_for t l u r) ≤ u
unfolding room_for units_left
room_falls true l u r h = omega arith
room_falls false l u r h = h

module _ {H B Q S L : Type 0} (M : Store H Q S L) where
  after-falls : (t : Keep) (s : S) (u : ℕ) (r : Res H B S L) (f : H → B → S → ℕ → Res H B S L) (g : S → ℕ → Res H B S L) → units_left r ≤ u
      → ((h : H) (b : B) (s : S) (v : ℕ) → units_left (f h b s v) ≤ v) → ((s : S) (v : ℕ) → units_left (g s v) ≤ v)
      → units_left (after M t s r f g) ≤ u
  unfolding after units_left
  after-falls t s u (ended h b s' v) f g e y n = omega (arith, y h b (settled M t s s') v)
  after-falls t s u (lost l v) f g e y n = omega (arith, n (M.back s l) v)
  after-falls t s u (cut c l v) f g e y n = e

module _ {H B Q S L : Type 0} (M : Store H Q S L) where
  plan-falls : (ev : Q → S → ℕ → Res H B S L) → ((q : Q) (s : S) (u : ℕ) → units_left (ev q s u) ≤ u) → (p : Plan H B Q) (s : S) (u : ℕ) → units_left (run_plan M ev p s u) ≤ u
  unfolding run_plan units_left
  plan-falls ev z (ret h b) s u = omega arith
  plan-falls ev z fail s u = omega arith
  plan-falls ev z (miss p) s u = omega arith
  plan-falls ev z (stuck v) s u = omega arith
  plan-falls ev z (look h k) s u = plan-falls ev z (k (M.con s h) (M.kids s h)) s u
  plan-falls ev z (make c hs k) s u = room_falls _ _ u _ (plan-falls ev z (k (M.new s c hs)) (M.put s c hs) u)
  plan-falls ev z (ask t q k p) s u = after-falls M t s u (ev q s u) _ _ (z q s u) (λ h b s' v. plan-falls ev z (k h b) s' v) (λ s' v. plan-falls ev z p s' v)

  closed-falls : (q : Q) (u : ℕ) (r : Res H B S L) → units_left r ≤ u → units_left (closed M q r) ≤ u
  unfolding closed units_left
  closed-falls q u (ended h b s v) e = e
  closed-falls q u (lost l v) e = e
  closed-falls q u (cut c l v) e = e

  pub units-fall : (R : Q → Plan H B Q) (n : ℕ) (q : Q) (s : S) (u : ℕ) → units_left (run M R n q s u) ≤ u
  unfolding run units_left
  units-fall R zero q s zero = omega arith
  units-fall R zero q s (suc u) = omega arith
  units-fall R (suc n) q s zero = omega arith
  units-fall R (suc n) q s (suc u) = omega (arith, closed-falls q u (run_plan M (run M R n) (R q) (M.begins q s) u) (plan-falls (run M R n) (units-fall R n) (R q) (M.begins q s) u))
