-- A lower mark leaves more room, so what fits still fits: by demand 2 the run says the same.
use mathlib.Core.Path.{◌≡◌, refl, sym, ◌∙◌, subst}
use Prim.Native.Nat.{ℕ, ◌+◌, ◌≤◌}
use native.Mathlib.Omega.{arith}
use Rattle.meaning.specs.Term.{Term}
use Rattle.meaning.specs.Table.{Table, table_by}
use Rattle.meaning.specs.Rules.{Visit}
use Rattle.meaning.specs.Derivation.{stays, Trace, left, Notes}
use Rattle.meaning.specs.Limits.{Res, ended, lost, cut, Counted, at}
use Rattle.meaning.specs.System.{Env, trace}
use Rattle.meaning.specs.Beginning.{Given, Fits}
use Rattle.meaning.specs.Store.{ran_by, value}
use Rattle.meaning.specs.Demands.{whole, Says, limits, start_visit}
use Rattle.meaning.specs.Lower.{Again, LowerMark}
use Rattle.meaning.proofs.Demands.{demand-2}

-- a visit q with the limits g, and with the limits h, which have the lower mark
module _ {N : Type 0} (Λ : Notes N) (n : N) (T : Table) (q : Visit Term) (g h : Given)
    (units : h.units ≡ g.units) (size : h.size ≡ g.size) (deep : h.nesting ≡ g.nesting) (low : h.mark ≤ g.mark) where
  -- what fits still fits
  fits-still : {t : Trace} {u : ℕ} → Fits g t u → Fits h t u
  fits-still f = record { units = units ∙ f.units; room = omega (arith, f.room); nesting = omega (arith, f.nesting) }

  -- an answer that is whatever is so under h is, again, what is so under g
  again : (answer : Res Term Env (Counted N) N) → ((r : Res Term Env (Counted N) N) → Says Λ n T h q r → answer ≡ r)
      → (r : Res Term Env (Counted N) N) → Says Λ n T g q r → Again r answer
  again answer f (ended t b s u) (r, x, m, o) =
      let m' : ℕ = h.mark + left (whole q stays (trace r)) in
      (m', f (ended t b (at m' s.notes) u) (r, fits-still x, refl, o))
  again answer f (lost l u) (r, x, o) = f (lost l u) (r, fits-still x, o)
  again answer f (cut c l u) s = tt

pub lower-mark : LowerMark
lower-mark W N Λ n i j a b t u s m e =
    again Λ n (table_by W i.table) (start_visit i) (limits i) (limits j) u s refl m (value (ran_by W Λ n j))
    (λ r x. (demand-2 W N Λ n j b r).1
    (subst (λ T. Says Λ n (table_by W T) (limits j) (start_visit j) r) (sym t) (subst (λ q. Says Λ n (table_by W i.table) (limits j) q r) (sym e) x)))
    (value (ran_by W Λ n i)) ((demand-2 W N Λ n i a _).0 refl)
