-- Bindings as a mask and words: what they are after words are copied, a variable is bound, variables are hidden and a scope ends.
-- Assumes nothing.
use mathlib.Core.Path.{◌≡◌, refl, ap, sym, ◌∙◌, fun_ext}
use mathlib.Core.Bool.{Bool, true, false, not, ◌&&◌, ◌||◌}
use mathlib.Core.Option.{Option, none, some}
use mathlib.Core.Logic.{⊎_elim}
use mathlib.Core.List.{List}
use Prim.Native.Nat.{ℕ, ◌+◌, ◌-◌, ◌*◌, ◌%◌, ◌^◌, ◌<◌, ◌≤◌}
use native.Mathlib.Omega.{arith}
use lib.Dec.{eqb}
use lib.ListN.{length, get_or, set}
use lib.Seq.{get_or-set_same, get_or-set_other}
use lib.Bits.{bit_and, bit_or}
use borrow.Author.Tests.{lt-ltb, le-ltb, eqb-true, eqb-false}
use Rattle.std.specs.Prelude.{if◌then◌else◌}
use Rattle.words.proofs.Tests.{below-or-from}
use Rattle.meaning.specs.Bindings.{Bindings, bind, has, masked, unbound}
use Rattle.meaning.proofs.Bits.{has-nothing, has-and, has-or, has_one, has-not, bit-shift}
use Rattle.turns.specs.Ways.{held_at, hiding}
use Rattle.machine.specs.Machine.{Copied}

-- the word of a variable, where it is bound
abbrev if-bound : Bool → ℕ → Option ℕ
if-bound b x = if b then some x else none

-- a word in the mask c without a; one in c without a, or in b and a
dimmed : (a c : Bool) (y : ℕ) → if-bound (c && not a) y ≡ (if a then none else if-bound c y)
dimmed true true y = refl
dimmed true false y = refl
dimmed false true y = refl
dimmed false false y = refl

mixed : (a b c : Bool) (x y : ℕ) → if-bound ((c && not a) || (b && a)) (if b && a then x else y) ≡ (if a then if-bound b x else if-bound c
    y)
mixed true true true x y = refl
mixed true true false x y = refl
mixed true false true x y = refl
mixed true false false x y = refl
mixed false true true x y = refl
mixed false true false x y = refl
mixed false false true x y = refl
mixed false false false x y = refl

-- a choice between like things
alike : (b : Bool) (o : Option ℕ) → o ≡ (if b then o else o)
alike true o = refl
alike false o = refl

-- at each variable
module _ (k : List ℕ) (a m : ℕ) where
  held_below : (v : ℕ) → v < 64 → held_at k a m v ≡ if-bound (has m v) (get_or k (a + v) 0)
  unfolding held_at
  held_below v l = rw (lt-ltb v 64 l) refl

  held-above : (v : ℕ) → 64 ≤ v → held_at k a m v ≡ none
  unfolding held_at
  held-above v l = rw (le-ltb v 64 l) refl

  held-is : (b : Bindings ℕ) → ((v : ℕ) → v < 64 → if-bound (has m v) (get_or k (a + v) 0) ≡ b v) → ((v : ℕ) → 64 ≤ v → none ≡ b v) → held_at
      k a m ≡ b
  held-is b f g = fun_ext (λ v. ⊎_elim (λ l. held_below v l ∙ f v l) (λ l. held-above v l ∙ g v l) (below-or-from v 64))

-- the same mask and the same words of its variables
pub held_same : (k k' : List ℕ) (a a' m : ℕ) → ((v : ℕ) → v < 64 → has m v ≡ true → get_or k' (a' + v) 0 ≡ get_or k (a + v) 0) → held_at k' a' m
    ≡ held_at k a m
held_same k k' a a' m f = held-is k' a' m (held_at k a m) (λ v l. at v l (has m v) refl ∙ sym (held_below k a m v l)) (λ v l. sym
    (held-above k a m v l))
  where
    at : (v : ℕ) → v < 64 → (b : Bool) → has m v ≡ b → if-bound (has m v) (get_or k' (a' + v) 0) ≡ if-bound (has m v) (get_or k (a + v) 0)
    at v l true e = ap (λ (x : ℕ). if-bound (has m v) x) (f v l e)
    at v l false e = rw e refl

pub held-copied : (k k' : List ℕ) (a b m : ℕ) → Copied k a b m k' → held_at k' b m ≡ held_at k a m
held-copied k k' a b m c = held_same k k' a b m (λ v l h. c.word v l ∙ rw h refl)

-- a variable bound
pub held-bind : (k : List ℕ) (a m v y : ℕ) → v < 64 → a + 64 ≤ length k → held_at (set k (a + v) y) a (bit_or m (1 * 2 ^ v % 2 ^ 64)) ≡ bind
    v y (held_at k a m)
unfolding bind
held-bind k a m v y l h = rw (bit-shift 64 v l) (held-is (set k (a + v) y) a (bit_or m (2 ^ v)) (bind v y (held_at k a m)) (λ w i. at w i
    (eqb w v) refl) (λ w i. above w i (eqb w v) refl))
  where
    has-bound : (w : ℕ) → has (bit_or m (2 ^ v)) w ≡ has m w || eqb w v
    has-bound w = has-or m (2 ^ v) w ∙ ap (λ (b : Bool). has m w || b) (has_one v w)

    or-true : (b : Bool) → b || true ≡ true
    or-true true = refl
    or-true false = refl

    or-false : (b : Bool) → b || false ≡ b
    or-false true = refl
    or-false false = refl

    at : (w : ℕ) → w < 64 → (b : Bool) → eqb w v ≡ b → if-bound (has (bit_or m (2 ^ v)) w) (get_or (set k (a + v) y) (a + w) 0) ≡ (if b then
        some y else held_at k a m w)
    at w i true e = let z : w ≡ v = eqb-true w v e in rw (has-bound w, e, or-true (has m w), z, get_or-set_same k (a + v) y 0 (omega arith))
        refl
    at w i false e = rw (
      has-bound w,
      e,
      or-false (has m w),
      get_or-set_other k (a + v) (a + w) y 0 (λ (z : a + w ≡ a + v). eqb-false w v e
          (omega arith)),
    ) (sym (held_below k a m w i))

    above : (w : ℕ) → 64 ≤ w → (b : Bool) → eqb w v ≡ b → none ≡ (if b then some y else held_at k a m w)
    above w i true e = let z : w ≡ v = eqb-true w v e in absurd (omega arith)
    above w i false e = sym (held-above k a m w i)

-- variables hidden
module _ (m h : ℕ) (small : h < 2 ^ 64) where
  abbrev rest : ℕ
  rest = bit_and m (18446744073709551615 - h)

  has_rest : (v : ℕ) → v < 64 → has rest v ≡ has m v && not (has h v)
  has_rest v l = has-and m (18446744073709551615 - h) v ∙ ap (λ (b : Bool). has m v && b) (has-not 64 h v small l)

  hidden-is : (k : List ℕ) (a : ℕ) → held_at k a rest ≡ masked h unbound (held_at k a m)
  unfolding masked
  hidden-is k a =
      held-is k a rest (masked h unbound (held_at k a m))
      (λ v l. rw (has_rest v l, held_below k a m v l) (dimmed (has h v) (has m v) (get_or k (a + v) 0)))
      (λ v l. rw (held-above k a m v l) (alike (has h v) none))

  pub held-hidden : (k : List ℕ) (a : ℕ) → held_at k a rest ≡ hiding h (held_at k a m)
  unfolding masked
  held-hidden k a = hidden-is k a ∙ go (eqb h 0) refl
    where
      nothing : (b : Bindings ℕ) → masked 0 unbound b ≡ b
      nothing b = fun_ext (λ v. ap (λ (c : Bool). if c then none else b v) (has-nothing v))

      go : (c : Bool) → eqb h 0 ≡ c → masked h unbound (held_at k a m) ≡ (if c then held_at k a m else masked h unbound (held_at k a m))
      go true e = let z : h ≡ 0 = eqb-true h 0 e in rw z (nothing (held_at k a m))
      go false e = refl

  -- a scope ends: the words of the hidden variables that were bound are put back
  pub held-unscoped : (k k' : List ℕ) (a b n : ℕ) → Copied k a b (bit_and n h) k' → held_at k' b (bit_or rest (bit_and n h)) ≡ masked h (held_at
      k a n) (held_at k b m)
  unfolding masked
  held-unscoped k k' a b n c =
      held-is k' b (bit_or rest (bit_and n h)) (masked h (held_at k a n) (held_at k b m))
      (λ v l. rw (has-or rest (bit_and n h) v, has_rest v l, c.word v l, has-and n h v, held_below k a n v l, held_below k b m v l) (mixed
      (has h v) (has n v) (has m v) (get_or k (a + v) 0) (get_or k (b + v) 0)))
      (λ v l. rw (held-above k a n v l, held-above k b m v l) (alike (has h v) none))
