-- A place lies among the n; equal lists of words. Assumes nothing.
use Rattle.std.proofs.Common.{◌≡◌, ℕ, zero, suc, ◌+◌, ◌*◌, ◌%◌, ◌<◌, ◌≤◌, Bool, true, false, eqb, List, [], ◌∷◌, length, get_or, set, sym, refl, ap, ◌∙◌, ◌↔◌, subst, div-lt_iff_lt-mul, mul-le-mul, mul-lt-mul_of_pos_right, arith, get_or-set_other, ext_get_or, eq-eqb, eqb-true}
use Rattle.words.specs.Words.{word_at}
use Rattle.words.proofs.Tests.{and-true}
use Rattle.meaning.specs.Shared.{eight, alike}
use Rattle.index.specs.Key.{mixed, home}

pub home_below : (n : ℕ) (r : List ℕ) → 0 < n → home n r < n
unfolding home
home_below n r h =
    let small : mixed r % 4294967296 < 4294967296 = omega arith in
    (div-lt_iff_lt-mul {k = 4294967296} {x = mixed r % 4294967296 * n} {y = n} (omega arith)).1 (omega (arith, mul-lt-mul_of_pos_right {k = n} small h))

pub place-below : (n : ℕ) (r : List ℕ) {p : ℕ} → p ≡ home n r → 0 < n → p < n
place-below n r e h = omega (arith, home_below n r h)

pub above_zero : {x : ℕ} → (x ≡ 0 → ⊥) → 0 < x
above_zero {x = zero} n = absurd (n refl)
above_zero {x = suc x} n = omega arith

-- the product of two 32-bit words fits 64 bits
pub product-fits : (x y : ℕ) → x < 4294967296 → y < 4294967296 → x * y < 18446744073709551616
product-fits x y a b =
    let h : x * y ≤ 4294967295 * 4294967295 = mul-le-mul {n₁ = x} {m₁ = y} {n₂ = 4294967295} {m₂ = 4294967295} (omega arith) (omega arith) in
    omega arith

-- lists are alike exactly when they are equal
pub impossible : {A : Type 0} → ◌≡◌ {A = ℕ} 0 1 → A
impossible e = absurd (omega arith)

pub alike-equal : (xs ys : List ℕ) → alike xs ys ≡ true → xs ≡ ys
unfolding alike
alike-equal [] [] e = refl
alike-equal [] (y ∷ ys) e = impossible (cc)
alike-equal (x ∷ xs) [] e = impossible (cc)
alike-equal (x ∷ xs) (y ∷ ys) e = let (p, q) = and-true (eqb x y) (alike xs ys) e in λ i. eqb-true x y p i ∷ alike-equal xs ys q i

pub alike_refl : (xs : List ℕ) → alike xs xs ≡ true
unfolding alike
alike_refl [] = refl
alike_refl (x ∷ xs) = rw (eq-eqb x x refl, alike_refl xs)

pub differ : (xs ys : List ℕ) → (xs ≡ ys → ⊥) → alike xs ys ≡ false
differ xs ys n = go (alike xs ys) refl
  where
    go : (t : Bool) → alike xs ys ≡ t → alike xs ys ≡ false
    go true e = absurd (n (alike-equal xs ys e))
    go false e = e

-- what holds at each of eight numbers
pub each_of : (P : ℕ → Type 0) → P 0 → P 1 → P 2 → P 3 → P 4 → P 5 → P 6 → P 7 → (i : ℕ) → i < 8 → P i
each_of P a b c d e f g h zero l = a
each_of P a b c d e f g h (suc zero) l = b
each_of P a b c d e f g h (suc (suc zero)) l = c
each_of P a b c d e f g h (suc (suc (suc zero))) l = d
each_of P a b c d e f g h (suc (suc (suc (suc zero)))) l = e
each_of P a b c d e f g h (suc (suc (suc (suc (suc zero))))) l = f
each_of P a b c d e f g h (suc (suc (suc (suc (suc (suc zero)))))) l = g
each_of P a b c d e f g h (suc (suc (suc (suc (suc (suc (suc zero))))))) l = h
each_of P a b c d e f g h (suc (suc (suc (suc (suc (suc (suc (suc i)))))))) l = absurd (omega arith)

-- a Bool that is true just where each of the eight words is the one of r
pub words-alike : (w r : List ℕ) (k : ℕ) → length r ≡ 8 → (b : Bool) → b ≡ true ↔ ((j : ℕ) → j < 8 → word_at w k j ≡ get_or r j 0) → b ≡ alike (eight w k) r
words-alike w r k l b h = go b refl
  where
    word : (j : ℕ) → j < 8 → get_or (eight w k) j 0 ≡ word_at w k j
    word = each_of (λ j. get_or (eight w k) j 0 ≡ word_at w k j) refl refl refl refl refl refl refl refl

    go : (t : Bool) → b ≡ t → b ≡ alike (eight w k) r
    go true e =
        let same : eight w k ≡ r = ext_get_or 0 (eight w k) r (sym l) (λ j m. word j m ∙ h.0 e j m) in
        e ∙ sym (subst (λ s. alike (eight w k) s ≡ true) same (alike_refl (eight w k)))
    go false e = e ∙ sym (differ (eight w k) r (λ s. impossible (let t : b ≡ true = h.1 (λ j m. sym (word j m) ∙ ap (λ l. get_or l j 0) s) in cc)))

-- words from place i on do not touch the rows below
pub eight-set : (w : List ℕ) (i v k : ℕ) → 8 * k + 8 ≤ i → eight (set w i v) k ≡ eight w k
eight-set w i v k h =
    λ z. o 0 (omega arith) z ∷ o 1 (omega arith) z ∷ o 2 (omega arith) z ∷ o 3 (omega arith) z ∷ o 4 (omega arith) z ∷ o 5 (omega arith) z
    ∷ o 6 (omega arith) z ∷ o 7 (omega arith) z ∷ []
  where
    o : (j : ℕ) → j < 8 → word_at (set w i v) k j ≡ word_at w k j
    o j l = get_or-set_other w i (8 * k + j) v 0 (λ e. absurd (omega arith))
