-- Where the table has a tree's entries, a visit of it ends as the tree does on values.
use mathlib.Core.Path.{subst}
use mathlib.Core.Option.{Option, none, some}
use Prim.Native.Nat.{ℕ, suc, ◌+◌}
use Rattle.meaning.specs.Term.{Term}
use Rattle.meaning.specs.Bindings.{unbound, masked}
use Rattle.meaning.specs.Table.{Table, Strategy, SEQ, CALL, MATCH, BUILD, SCOPE, WHERE}
use Rattle.meaning.specs.Plan.{keep, ask}
use Rattle.meaning.specs.Rules.{apply, match, build, Do, strategy, does}
use Rattle.meaning.specs.System.{Env, ◌∶◌is◌, ◌⊢◌⇒◌}
use Rattle.rules.specs.Meaning.{matched, Built, built, on_match, on_built}
use Rattle.rules.specs.Entries
use Rattle.rules.specs.Entries.{Code, scope, seq, where-of, call, pat_entries, code_size, code_entries, Has}
use Rattle.rules.proofs.Plans.{then, Alike, alike_refl, alike-trans, alike-ask, ask-done, ask-failed, ask-lacks, inline, to-plan}
use Rattle.rules.proofs.Sizes.{length-code}
use Rattle.rules.proofs.Matching.{told, has-append, match-ends, Builds, builds, wants, build_ends}

-- what a tree does, with what follows it
unfoldable pub code_do : Code → Term → Env → (Term → Env → Do Term) → Do Term → Do Term
code_do (scope m a) t b k f = code_do a t (masked m unbound b) (λ t' b'. k t' (masked m b b')) f
code_do (seq a c) t b k f = code_do a t b (λ t' b'. code_do c t' b' k f) f
code_do (where-of a) t b k f = code_do a t b (λ t' b'. k t b') f
code_do (Entries.match p) t b k f = on_match (matched p t b) (λ b'. k t b') f
code_do (Entries.build p) t b k f = on_built (built p b) (λ t'. k t' b)
code_do (call x) t b k f = ask keep (apply x t b) k f

module _ (T : Table) where
  -- a visit of an entry is its strategy's plan
  stepped : (e : ℕ) (s : Strategy) (t : Term) (b : Env) (k : Term → Env → Do Term) (f : Do Term) → T ∶ e is s → Alike T (ask keep (apply e t b) k f) (then (strategy s t b) k f)
  unfolding does
  stepped e s t b k f i = subst (λ (s : Strategy). Alike T (ask keep (apply e t b) k f) (then (strategy s t b) k f)) i (inline T k f keep (apply e t b))

  matching : (p : ℕ) (t : Term) (b : Env) (k : Term → Env → Do Term) (f : Do Term) (m : Option Env) → T ⊢ match p t b ⇒ told t m → Alike T (ask keep (match p t b) k f) (on_match m (λ b'. k t b') f)
  unfolding told on_match
  matching p t b k f none r = ask-failed T keep (match p t b) (to-plan T r)
  matching p t b k f (some b') r = ask-done T keep (match p t b) (to-plan T r)

  building : (p : ℕ) (t : Term) (b : Env) (k : Term → Env → Do Term) (f : Do Term) {m : Built Term} → Builds T p t b m → Alike T (ask keep (build p t b) k f) (on_built m (λ t'. k t' b))
  unfolding on_built
  building p t b k f (builds r) = ask-done T keep (build p t b) (to-plan T r)
  building p t b k f (wants c) = ask-lacks T keep (build p t b) c

  -- a visit of a tree's first entry is what the tree does
  pub code_alike : (a : Code) (e : ℕ) → Has T e (code_entries e a) → (t : Term) (b : Env) (k : Term → Env → Do Term) (f : Do Term) → Alike T (ask keep (apply e t b) k f) (code_do a t b k f)
  unfolding code_do code_entries Has then strategy
  code_alike (scope m a) e h t b k f = alike-trans (stepped e (SCOPE m (suc e)) t b k f h.0) (code_alike a (suc e) h.1 t (masked m unbound b) (λ t' b'. k t' (masked m b b')) f)
  code_alike (seq a c) e h t b k f =
      let (i, j) = has-append T (suc e) (code_entries (suc e) a) (code_entries (suc e + code_size a) c) h.1 in
      alike-trans (stepped e (SEQ (suc e) (suc e + code_size a)) t b k f h.0)
      (alike-trans
      (alike-ask T keep (apply (suc e) t b) (λ t' b' d. code_alike c (suc e + code_size a) (rw (length-code (suc e) a) at j) t' b' k f) alike_refl)
      (code_alike a (suc e) i t b (λ t' b'. code_do c t' b' k f) f))
  code_alike (where-of a) e h t b k f = alike-trans (stepped e (WHERE (suc e)) t b k f h.0) (code_alike a (suc e) h.1 t b (λ t' b'. k t b') f)
  code_alike (Entries.match p) e h t b k f = alike-trans (stepped e (MATCH (suc e)) t b k f h.0) (matching (suc e) t b k f (matched p t b) (match-ends T p (suc e) h.1 t b))
  code_alike (Entries.build p) e h t b k f = alike-trans (stepped e (BUILD (suc e)) t b k f h.0) (building (suc e) t b k f (build_ends T p (suc e) h.1 t b))
  code_alike (call x) e h t b k f = stepped e (CALL x) t b k f h.0
