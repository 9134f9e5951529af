-- The bindings' words renumbered one after the other, and the nodes that they then name.
-- Assumes nothing.
use mathlib.Core.Path.{◌≡◌, refl, sym, ◌∙◌}
use mathlib.Core.Logic.{◌≢◌, ⊎_elim}
use mathlib.Core.List.{List, map}
use Prim.Native.Nat.{ℕ, suc, ◌+◌, ◌≤◌, ◌<◌}
use native.Mathlib.Omega.{arith}
use lib.ListN.{length, get_or, set, length-set, length-map, get_or-map}
use lib.Seq.{ext_get_or, get_or-set_same, get_or-set_other}
use Rattle.words.proofs.Tests.{below-or-from}
use Rattle.collect.specs.Packed.{rebound}

-- Of the words b₀ the first v are renumbered by f, and the others are as they were.
pub record Rebinds (f : ℕ → ℕ) (b₀ : List ℕ) (v : ℕ) (b : List ℕ) : Type 0 where
  pub long : length b ≡ length b₀
  pub moved : (j : ℕ) → j < v → get_or b j 0 ≡ rebound f (get_or b₀ j 0)
  pub left : (j : ℕ) → v ≤ j → get_or b j 0 ≡ get_or b₀ j 0

module _ (f : ℕ → ℕ) (b₀ : List ℕ) where
  pub rebinds-none : Rebinds f b₀ 0 b₀
  rebinds-none = record { long = refl; moved = λ j l. absurd (omega arith); left = λ j l. refl }

  module _ (v : ℕ) (b : List ℕ) (r : Rebinds f b₀ v b) where
    -- The word at v is x in b', and the others are those of b.
    turn : (b' : List ℕ) → length b' ≡ length b → get_or b' v 0 ≡ rebound f (get_or b₀ v 0) → ((j : ℕ) → j ≢ v → get_or b' j 0 ≡ get_or b j 0) → Rebinds f b₀ (v + 1) b'
    turn b' e x y = record {
      long = e ∙ r.long;
      moved = λ j l. ⊎_elim (λ h. y j (λ z. omega arith) ∙ r.moved j h) (λ h. let z : j ≡ v = omega arith in rw z x) (below-or-from j v);
      left = λ j l. y j (λ z. omega arith) ∙ r.left j (omega arith);
    }

    pub rebinds-set : (k x : ℕ) → get_or b₀ v 0 ≡ suc k → x ≡ suc (f k) → v < length b → Rebinds f b₀ (v + 1) (set b v x)
    unfolding rebound
    rebinds-set k x e d l = turn (set b v x) (length-set b v x) (get_or-set_same b v x 0 l ∙ rw e d) (λ j n. get_or-set_other b v j x 0 n)

    pub rebinds-zero : get_or b₀ v 0 ≡ 0 → Rebinds f b₀ (v + 1) b
    unfolding rebound
    rebinds-zero e = turn b refl (r.left v (omega arith) ∙ rw e) (λ j n. refl)

  pub rebinds-all : (v : ℕ) (b : List ℕ) → length b₀ ≤ v → Rebinds f b₀ v b → b ≡ map (rebound f) b₀
  unfolding rebound
  rebinds-all v b l r =
      ext_get_or 0 b (map (rebound f) b₀) (r.long ∙ sym (length-map b₀ (rebound f)))
      (λ j h. r.moved j (omega (arith, r.long)) ∙ sym (get_or-map (rebound f) b₀ j 0))
