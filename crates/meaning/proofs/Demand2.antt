-- Demand 2 over the words: on an accepted input the run over the words answers what the run over the terms that they name
-- answers, and leaves a good store.
use mathlib.Core.Path.{◌≡◌, refl, ap, sym, ◌∙◌, fun_ext}
use mathlib.Core.Option.{Option, some}
use Prim.Native.Nat.{ℕ, zero, suc, ◌≤◌, ◌<◌}
use native.Mathlib.Omega.{arith}
use lib.ListN.{get_or}
use Rattle.words.specs.Words.{rows}
use Rattle.meaning.specs.Term.{Term}
use Rattle.meaning.specs.Table.{table_by}
use Rattle.meaning.specs.Limits.{ended, at}
use Rattle.meaning.specs.Derivation.{Notes}
use Rattle.meaning.specs.System.{Env}
use Rattle.meaning.specs.Store.{named, bindings, term_of, meant, Ran, value, deepest, ran_by, Leaves}
use Rattle.meaning.specs.Demands.{RulesAgree, limits, start_visit, OverTheWords, Demand2}
use Rattle.meaning.proofs.Limits.{Answer, demand-2-values}
use Rattle.meaning.proofs.Alike.{ORel, o-none, o-some, BRel, q-apply}
use Rattle.meaning.proofs.Checked.{good-of-node, store-filled, table-makeable}
use Rattle.meaning.proofs.Together.{Stored, in_use, stores, EndAlike, a-ended, a-lost, a-cut, together}

-- a binding of the store v, as a term and as a node in use
module _ {size : ℕ} (v : Stored size) where
  alike-term : {o : Option ℕ} {o' : Option Term} → ORel (stores size) v o o' → term_of v.words o ≡ o'
  unfolding term_of
  alike-term o-none = refl
  alike-term (o-some n) = ap some n.is

  alike-below : {o : Option ℕ} {o' : Option Term} → ORel (stores size) v o o' → (j : ℕ) → o ≡ some j → j < v.mark
  alike-below o-none j e = let z : ◌≡◌ {A = ℕ} 0 1 = cc in absurd (omega arith)
  alike-below (o-some {h = k} n) j e = let z : k ≡ j = cc in omega (arith, n.below)

module _ {size : ℕ} (v : Stored size) where
  -- a binding's word, and the term that it names
  named-alike : (n : ℕ) → n ≤ v.mark → ORel (stores size) v (named n) (term_of v.words (named n))
  unfolding named term_of
  named-alike zero h = o-none
  named-alike (suc k) h = o-some (in_use size v k (omega arith))

  -- two runs that end alike have one value, and leave a good store
  pub alike-value : {N : Type 0} {Λ : Notes N} {r : Ran N} {r' : Answer N Term Env} → EndAlike size Λ v r r' → (value r ≡ r') × Leaves v.words v.mark r
  unfolding value meant
  alike-value (a-ended {v' = v'} {k = k} {u = u} {b = b} {ν = ν} e n s) = (
    (λ i. ended (n.is i) (fun_ext (λ x. alike-term v' (s x)) i) (at v'.mark ν) u),
    (e.more, e.kept, record { fits = v'.filled.fits; good = λ j h. good-of-node v'.words j (v'.filled.node j h); subject = n.below; bound = λ x j q. alike-below v' (s x) j q }),
  )
  alike-value (a-lost p) = (refl, p)
  alike-value (a-cut p) = (refl, p)

-- Over the words and over values a run ends alike.
pub over-the-words : OverTheWords
unfolding ran_by bindings meant
over-the-words W N Λ ν i a =
    alike-value start
    (together (rows i.store) Λ (table_by W i.table) (table-makeable W i.table a.table) deepest start _ _ ν i.units (q-apply (record { below = a.subject; is = refl }) bound))
  where
    start : Stored (rows i.store)
    start = record { words = i.store; mark = i.mark; filled = store-filled i.store i.mark a.store; long = refl }

    bound : BRel (stores (rows i.store)) start (bindings i.bindings) (meant i.store (bindings i.bindings))
    bound x = named-alike start (get_or i.bindings x 0) (a.bound x)

-- Demand 2 over the words.
pub demand-2 : RulesAgree → Demand2
demand-2 agree W N Λ ν i a r =
    let o = (over-the-words W N Λ ν i a).0 in
    let d = demand-2-values agree N Λ ν (table_by W i.table) (limits i) (start_visit i) r (store-filled i.store i.mark a.store).fits in
    ((λ e. d.0 (sym o ∙ e)), (λ s. o ∙ d.1 s))
