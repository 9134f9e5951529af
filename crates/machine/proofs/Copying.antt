-- Words copied inside one list, one variable after the other: the bits that are left are those of the variables from v on. Assumes nothing.
use mathlib.Core.Path.{◌≡◌, refl, ap, sym, ◌∙◌}
use mathlib.Core.Bool.{Bool, true, false}
use mathlib.Core.Logic.{◌⊎◌, inl, inr, ⊎_elim}
use mathlib.Core.List.{List}
use Prim.Native.Nat.{ℕ, zero, suc, ◌+◌, ◌-◌, ◌/◌, ◌%◌, ◌^◌, ◌<◌, ◌≤◌}
use native.Mathlib.Omega.{arith}
use lib.Dec.{eqb}
use lib.ListN.{length, get_or, set, length-set}
use lib.Seq.{get_or-set_same, get_or-set_other}
use Rattle.std.specs.Prelude.{if◌then◌else◌}
use Rattle.words.proofs.Tests.{below-or-from}
use Rattle.meaning.specs.Bindings.{has}
use Rattle.meaning.proofs.Bits.{has-zero, has-suc, has-nothing}
use Rattle.machine.specs.Machine.{Copied}

-- the words of the variables below v are copied, and no others
pub record SoFar (k₀ : List ℕ) (a b m v rest : ℕ) (k : List ℕ) : Type 0 where
  pub few : v ≤ 64
  pub left : rest < 2 ^ (64 - v)
  pub long : length k ≡ length k₀
  pub bits : (u : ℕ) → has m (v + u) ≡ has rest u
  pub done : (u : ℕ) → u < v → get_or k (b + u) 0 ≡ (if has m u then get_or k₀ (a + u) 0 else get_or k₀ (b + u) 0)
  pub todo : (u : ℕ) → v ≤ u → u < 64 → get_or k (b + u) 0 ≡ get_or k₀ (b + u) 0
  pub other : (j : ℕ) → (j < b) ⊎ (b + 64 ≤ j) → get_or k j 0 ≡ get_or k₀ j 0

pub none_yet : (k : List ℕ) (a b m : ℕ) → m < 2 ^ 64 → SoFar k a b m 0 m k
none_yet k a b m l = record {
  few = omega arith;
  left = l;
  long = refl;
  bits = λ u. let e : 0 + u ≡ u = omega arith in ap (λ (x : ℕ). has m x) e;
  done = λ u h. absurd (omega arith);
  todo = λ u h i. refl;
  other = λ j h. refl;
}

-- a bit is left: so is a variable, and half of what is left fits the variables after it
pub left_below : (v rest : ℕ) → v ≤ 64 → rest < 2 ^ (64 - v) → (rest ≡ 0 → ⊥) → (v < 64) × (rest / 2 < 2 ^ (64 - (v + 1)))
left_below v rest l h n = go (64 - v) refl h
  where
    go : (k : ℕ) → 64 - v ≡ k → rest < 2 ^ k → (v < 64) × (rest / 2 < 2 ^ (64 - (v + 1)))
    go zero e h = absurd (n (omega arith))
    go (suc k) e h =
        let m : 64 - (v + 1) ≡ k = omega arith in
        (omega arith, rw m (omega arith))

-- one turn
module _ {k₀ : List ℕ} {a b m v rest : ℕ} {k : List ℕ} (s : SoFar k₀ a b m v rest k) (more : (rest ≡ 0 → ⊥))
    (from : a + 64 ≤ length k₀) (to : b + 64 ≤ length k₀) (apart : (b + 64 ≤ a) ⊎ (a + 64 ≤ b)) where
  inside : v < 64
  inside = (left_below v rest s.few s.left more).0

  -- the word that is read is as it was
  read : get_or k (a + v) 0 ≡ get_or k₀ (a + v) 0
  read = s.other (a + v) (⊎_elim (λ l. inr (let z = inside in omega arith)) (λ l. inl (let z = inside in omega arith)) apart)

  bit : (c : Bool) → eqb (rest % 2) 1 ≡ c → has m v ≡ c
  bit c e = let z : v + 0 ≡ v = omega arith in ap (λ (x : ℕ). has m x) (sym z) ∙ s.bits 0 ∙ has-zero rest ∙ e

  pub turn : {k' : List ℕ} → k' ≡ (if eqb (rest % 2) 1 then set k (b + v) (get_or k (a + v) 0) else k) → SoFar k₀ a b m (v + 1) (rest / 2) k'
  turn {k'} e = record {
    few = let z = inside in omega arith;
    left = (left_below v rest s.few s.left more).1;
    long = ap length e ∙ longer (eqb (rest % 2) 1) ∙ s.long;
    bits = λ u. let z : v + 1 + u ≡ v + suc u = omega arith in ap (λ (x : ℕ). has m x) z ∙ s.bits (suc u) ∙ has-suc rest u;
    done = λ u h. ap (λ l. get_or l (b + u) 0) e ∙ ⊎_elim (λ l. before (eqb (rest % 2) 1) u l) (λ l. let z : u ≡ v = omega arith in rw z (at
        (eqb (rest % 2) 1) refl)) (below-or-from u v);
    todo = λ u h i. ap (λ l. get_or l (b + u) 0) e ∙ after (eqb (rest % 2) 1) u h i;
    other = λ j h. ap (λ l. get_or l j 0) e ∙ elsewhere (eqb (rest % 2) 1) j h;
  }
    where
      longer : (c : Bool) → length (if c then set k (b + v) (get_or k (a + v) 0) else k) ≡ length k
      longer true = length-set k (b + v) (get_or k (a + v) 0)
      longer false = refl

      before : (c : Bool) (u : ℕ) → u < v → get_or (if c then set k (b + v) (get_or k (a + v) 0) else k) (b + u) 0 ≡ (if has m u then get_or k₀
          (a + u) 0 else get_or k₀ (b + u) 0)
      before true u l = get_or-set_other k (b + v) (b + u) (get_or k (a + v) 0) 0 (λ (z : b + u ≡ b + v). omega arith) ∙ s.done u l
      before false u l = s.done u l

      at : (c : Bool) → eqb (rest % 2) 1 ≡ c → get_or (if c then set k (b + v) (get_or k (a + v) 0) else k) (b + v) 0 ≡ (if has m v then get_or
          k₀ (a + v) 0 else get_or k₀ (b + v) 0)
      at true z = let i = inside in rw (bit true z) (get_or-set_same k (b + v) (get_or k (a + v) 0) 0 (omega (arith, s.long)) ∙ read)
      at false z = rw (bit false z) (s.todo v (omega arith) inside)

      after : (c : Bool) (u : ℕ) → v + 1 ≤ u → u < 64 → get_or (if c then set k (b + v) (get_or k (a + v) 0) else k) (b + u) 0 ≡ get_or k₀ (b +
          u) 0
      after true u h i = get_or-set_other k (b + v) (b + u) (get_or k (a + v) 0) 0 (λ (z : b + u ≡ b + v). omega arith) ∙ s.todo u (omega
          arith) i
      after false u h i = s.todo u (omega arith) i

      elsewhere : (c : Bool) (j : ℕ) → (j < b) ⊎ (b + 64 ≤ j) → get_or (if c then set k (b + v) (get_or k (a + v) 0) else k) j 0 ≡ get_or k₀ j 0
      elsewhere true j h = get_or-set_other k (b + v) j (get_or k (a + v) 0) 0 (λ (z : j ≡ b + v). let i = inside in ⊎_elim (λ l. omega arith)
          (λ l. omega arith) h) ∙ s.other j h
      elsewhere false j h = s.other j h

-- no bit is left
pub all-copied : {k₀ : List ℕ} {a b m v rest : ℕ} {k : List ℕ} → SoFar k₀ a b m v rest k → rest ≡ 0 → Copied k₀ a b m k
all-copied {k₀} {a} {b} {m} {v} {rest} {k} s e = record {
  long = s.long;
  word = λ u l. ⊎_elim (λ h. s.done u h) (λ h.
      let z : v + (u - v) ≡ u = omega arith in
      let n : has m u ≡ false = ap (λ (x : ℕ). has m x) (sym z) ∙ s.bits (u - v) ∙ ap (λ (x : ℕ). has x (u - v)) e ∙ has-nothing (u - v) in
      rw n (s.todo u h l)) (below-or-from u v);
  other = s.other;
}
