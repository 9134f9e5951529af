-- A store without twins has no two nodes with the same words, and then two nodes are equal terms only where they are one node.
-- Assumes nothing.
use Rattle.std.proofs.Common.{◌≡◌, ℕ, zero, suc, ◌+◌, ◌<◌, ◌≤◌, Bool, true, false, not, Option, Some, None, List, replicate, sym, refl, ap, ◌∙◌, subst, true≢false, arith, if◌then◌else◌}
use mathlib.Core.Option.{none, some}
use Rattle.std.specs.Prelude.{is_some}
use native.Mathlib.Decide.{ℕ_discrete}
use lib.ListN.{length-replicate, get_or-replicate}
use Rattle.words.proofs.Tests.{rejected-none}
use Rattle.checks.specs.Checked.{place_of}
use Rattle.meaning.specs.Shared.{eight, alike, node_with, Distinct, absent, fresh, twin}
use Rattle.index.specs.Chains.{Indexed}
use Rattle.index.proofs.Chaining.{indexed-none}
use Rattle.index.proofs.Keying.{alike_refl, impossible}

-- what has the words stands
pub stands : (w r : List ℕ) (m j : ℕ) → j < m → eight w j ≡ r → absent (node_with w r m) ≡ false
unfolding node_with
stands w r zero j h e = absurd (omega arith)
stands w r (suc m) j h e = go (λ l. stands w r m j l e) (alike (eight w m) r) refl (ℕ_discrete j m)
  where
    go : (j < m → absent (node_with w r m) ≡ false) → (t : Bool) → alike (eight w m) r ≡ t → Dec (j ≡ m) → absent (if t then some m else node_with w r m) ≡ false
    go f true z d = refl
    go f false z (no n) = f (omega arith)
    go f false z (yes q) = impossible (let a : alike (eight w m) r ≡ true = subst (λ s. alike (eight w m) s ≡ true) (ap (eight w) (sym q) ∙ e) (alike_refl (eight w m)) in cc)

pub distinct : (w : List ℕ) (m : ℕ) → twin w m ≡ none → Distinct w m
unfolding fresh
distinct w m e j k h l s =
    let a : fresh w k ≡ true = (rejected-none (fresh w) 0 m).0 e k (omega arith) (omega arith) in
    let b : fresh w k ≡ false = stands w (eight w k) k j h s in
    absurd (true≢false (sym a ∙ b))

-- what was searched for is absent where nothing was found
pub absent-some : (f : Option ℕ) → absent (place_of f) ≡ not (is_some f)
absent-some (Some k) = refl
absent-some None = refl

pub fresh-by : (w r : List ℕ) (k : ℕ) (f : Option ℕ) (t : Bool) → place_of f ≡ node_with w r k → r ≡ eight w k → absent (place_of f) ≡ t → fresh w k ≡ t
unfolding fresh
fresh-by w r k f t a b h = ap absent (ap (λ s. node_with w s k) (sym b) ∙ sym a) ∙ h

-- an array of zeros is an index with nothing in it
pub zeros : (w : List ℕ) (n c : ℕ) → n + n ≤ c → 0 < n → Indexed w (replicate c 0) 0 n 0
zeros w n c e h = indexed-none (simp length-replicate (omega arith)) h (λ p l. get_or-replicate c (0 + p) 0 0 (omega arith))
