-- The text of numbers, read: a field is a number exactly where it is the number's digits. Assumes nothing.
use mathlib.Core.Path.{◌≡◌, refl, ap, sym, ◌∙◌, subst}
use mathlib.Core.Logic.{⊎_elim}
use mathlib.Core.Bool.{Bool, true, false}
use mathlib.Core.List.{List, [], ◌∷◌, ◌++◌, append_assoc, append-nil, map}
use mathlib.Core.Option.{Option, none, some}
use Prim.Native.Nat.{ℕ, zero, suc, ◌+◌, ◌-◌, ◌*◌, ◌/◌, ◌%◌, ◌≤◌, ◌<◌}
use native.Mathlib.Nat.{eq-or-lt_of_le}
use native.Mathlib.Omega.{arith}
use lib.Dec.{ltb, eqb}
use lib.ListN.{length, get_or, length-append, get_or-append}
use borrow.Author.Tests.{le-ltb, ltb-true, ltb-false, eqb-true, eqb-false}
use Rattle.std.specs.Prelude.{if◌then◌else◌}
use Rattle.text.specs.Text.{one_word, two_words, parts, joined_after, valued, zero_alone, number_of, in_front, numbers_of, digits, decimal}
use Rattle.text.specs.Written.{numbers_text, Within, empty, limited}
use Rattle.text.specs.Promises.{NumberIsText}
use Rattle.text.proofs.Separators.{Clear, nil, one, clear-append, parts-clear, parts_cut}
use Rattle.text.proofs.Fields.{number_digits}
use Rattle.text.proofs.Put.{Below, least, tenth, Enough, for-one, for-two, digits-one, digits_last}

-- Digits are no separators.
pub digits-clear : (c k n : ℕ) → c < 48 → Clear c (digits k n)
unfolding digits
digits-clear c zero n l = nil
digits-clear c (suc k) n l = go (ltb n 10) (digits-clear c k (n / 10) l)
  where
    go : (q : Bool) → Clear c (digits k (n / 10)) → Clear c (if q then (48 + n) ∷ [] else digits k (n / 10) ++ ((48 + n % 10) ∷ []))
    go true p = one (48 + n) (λ e. omega arith) nil
    go false p = clear-append ((48 + n % 10) ∷ []) p (one (48 + n % 10) (λ e. omega arith) nil)

-- Nor are numbers line feeds.
pub numbers-clear : (vs : List ℕ) → Clear 10 (numbers_text vs)
unfolding numbers_text
numbers-clear [] = nil
numbers-clear (v ∷ vs) = one 9 (λ e. omega arith) (clear-append (numbers_text vs) (digits-clear 10 10 v (omega arith)) (numbers-clear vs))

-- A digit more.
valued-digit : (m v d : ℕ) (f : List ℕ) → d ≤ 9 → v * 10 + d ≤ m → valued m v ((48 + d) ∷ f) ≡ valued m (v * 10 + d) f
unfolding valued
valued-digit m v d f l h =
    let e : 48 + d - 48 ≡ d = omega arith in
    rw (le-ltb (48 + d) 48 (omega arith), le-ltb 57 (48 + d) (omega arith), e, le-ltb m (v * 10 + d) h)

-- The digits of n, read, are n.
valued-digits : (m k n : ℕ) (f : List ℕ) → Below k n → n ≤ m → valued m 0 (digits k n ++ f) ≡ valued m n f
unfolding digits
valued-digits m zero n f (least j l) h =
    let e : 0 ≡ n = omega arith in
    ap (λ (v : ℕ). valued m v f) e
valued-digits m (suc k) n f (tenth i j b) most = go (ltb n 10) refl (valued-digits m k (n / 10) ((48 + n % 10) ∷ f) b (omega arith))
  where
    go : (q : Bool) → ltb n 10 ≡ q
        → valued m 0 (digits k (n / 10) ++ ((48 + n % 10) ∷ f)) ≡ valued m (n / 10) ((48 + n % 10) ∷ f)
        → valued m 0 ((if q then (48 + n) ∷ [] else digits k (n / 10) ++ ((48 + n % 10) ∷ [])) ++ f) ≡ valued m n f
    go true e h =
        let z : 0 * 10 + n ≡ n = omega arith in
        valued-digit m 0 n f (omega (arith, ltb-true n 10 e)) (omega arith) ∙ ap (λ (v : ℕ). valued m v f) z
    go false e h =
        let z : n / 10 * 10 + n % 10 ≡ n = omega arith in
        ap (valued m 0) (append_assoc (digits k (n / 10)) ((48 + n % 10) ∷ []) f)
        ∙ h
        ∙ valued-digit m (n / 10) (n % 10) f (omega arith) (omega arith)
        ∙ ap (λ (v : ℕ). valued m v f) z

-- A number's first digit is there, and it is no zero unless the number is.
pub digits-first : (k n : ℕ) → 0 < n → Below k n → (0 < length (digits k n)) × (48 < get_or (digits k n) 0 0)
unfolding digits
digits-first zero n p (least j l) = absurd (omega arith)
digits-first (suc k) n p (tenth i j b) = go (ltb n 10) refl (digits-first k (n / 10))
  where
    go : (q : Bool) → ltb n 10 ≡ q
        → (0 < n / 10 → Below k (n / 10) → (0 < length (digits k (n / 10))) × (48 < get_or (digits k (n / 10)) 0 0))
        → (0 < length (if q then (48 + n) ∷ [] else digits k (n / 10) ++ ((48 + n % 10) ∷ [])))
        × (48 < get_or (if q then (48 + n) ∷ [] else digits k (n / 10) ++ ((48 + n % 10) ∷ [])) 0 0)
    go true e h = (omega arith, omega arith)
    go false e h =
        let w : _ = h (omega (arith, ltb-false n 10 e)) b in (
          omega (arith, w.0, length-append (digits k (n / 10)) ((48 + n % 10) ∷ [])),
          rw (get_or-append (digits k (n / 10)) ((48 + n % 10) ∷ []) 0 0 w.0) w.1,
        )

nothing-more : (m v : ℕ) → valued m v [] ≡ some v
unfolding valued
nothing-more m v = refl

zero_number : (k m : ℕ) → number_of m (digits (suc k) 0) ≡ some 0
unfolding number_of digits
zero_number k m = refl

-- The text of a number is read as the number.
pub number-decimal : {k m : ℕ} → Enough k m → (v : ℕ) → v ≤ m → number_of m (digits (suc k) v) ≡ some v
number-decimal {k} {m} enough v l = go (ltb 0 v) refl
  where
    below : Below (suc k) v
    below = tenth k v (enough v l)

    go : (q : Bool) → ltb 0 v ≡ q → number_of m (digits (suc k) v) ≡ some v
    go true e =
        let w : _ = digits-first (suc k) v (ltb-true 0 v e) below in
        number_digits m (digits (suc k) v) (λ z. omega (arith, w.0)) (λ z. omega (arith, w.1))
        ∙ ap (valued m 0) (sym (append-nil (digits (suc k) v)))
        ∙ valued-digits m (suc k) v [] below l
        ∙ nothing-more m v
    go false e =
        let z : 0 ≡ v = omega (arith, ltb-false 0 v e) in
        subst (λ (n : ℕ). number_of m (digits (suc k) n) ≡ some n) z (zero_number k m)

-- So are the texts of numbers.
pub numbers-decimal : (k : ℕ) (vs : List ℕ) → length vs ≤ k → Within vs → numbers_of k (map decimal vs) ≡ some vs
unfolding numbers_of
numbers-decimal k [] l w = refl
numbers-decimal zero (v ∷ vs) l w = absurd (omega arith)
numbers-decimal (suc k) (v ∷ vs) l (limited h w) = rw (number-decimal for-one v h, numbers-decimal k vs (omega arith) w)

pub parts-fields : {f : List ℕ} (vs : List ℕ) → Clear 9 f → parts 9 (f ++ numbers_text vs) ≡ f ∷ map decimal vs
unfolding numbers_text
parts-fields {f} [] p = rw (append-nil f) (parts-clear p)
parts-fields {f} (v ∷ vs) p = parts_cut (decimal v ++ numbers_text vs) p ∙ ap (λ (r : List (List ℕ)). f ∷ r) (parts-fields {f = decimal v} vs (digits-clear 9 10 v (omega arith)))

-- Nothing is something.
pub never : {A : Type 0} {B : Type 0} {x : A} → none ≡ some x → B
never {A} {B} {x} e = let z : ◌≡◌ {A = ℕ} 0 1 = cc in absurd (omega arith)

pub same : {A : Type 0} {x y : A} → some x ≡ some y → x ≡ y
same e = cc

-- At least a number, and not that one, is more.
more : {m n : ℕ} → m ≤ n → (n ≡ m → ⊥) → m < n
more l n = ⊎_elim (λ e. absurd (n (sym e))) (λ h. h) (eq-or-lt_of_le l)

-- Digits after a number that is not zero are the digits of what they make.
valued-text : {d most : ℕ} → Enough d most → (f : List ℕ) (w v : ℕ) → 0 < w → w ≤ most → valued most w f ≡ some v → (digits (suc d) w ++ f ≡ digits (suc d) v) × (v ≤ most)
unfolding valued
valued-text {d} {most} s [] w v p l e =
    let z : w ≡ v = same e in
    (append-nil (digits (suc d) w) ∙ ap (digits (suc d)) z, subst (λ (n : ℕ). n ≤ most) z l)
valued-text {d} {most} s (b ∷ f) w v p l e = go (ltb b 48) refl (ltb 57 b) refl (ltb most (w * 10 + (b - 48))) refl (valued-text s f (w * 10 + (b - 48)) v) e
  where
    go : (x : Bool) → ltb b 48 ≡ x → (y : Bool) → ltb 57 b ≡ y → (z : Bool) → ltb most (w * 10 + (b - 48)) ≡ z
        → (0 < w * 10 + (b - 48) → w * 10 + (b - 48) ≤ most → valued most (w * 10 + (b - 48)) f ≡ some v
        → (digits (suc d) (w * 10 + (b - 48)) ++ f ≡ digits (suc d) v) × (v ≤ most))
        → (if x then none else (if y then none else (if z then none else valued most (w * 10 + (b - 48)) f))) ≡ some v
        → (digits (suc d) w ++ (b ∷ f) ≡ digits (suc d) v) × (v ≤ most)
    go true i y j z k h e = never e
    go false i true j z k h e = never e
    go false i false j true k h e = never e
    go false i false j false k h e =
        let n : ℕ = w * 10 + (b - 48) in
        let lo : 48 ≤ b = ltb-false b 48 i in
        let hi : b ≤ 57 = ltb-false 57 b j in
        let m : n ≤ most = ltb-false most n k in
        let q : n / 10 ≡ w = omega arith in
        let r : 48 + n % 10 ≡ b = omega arith in
        let t : _ = h (omega arith) m e in
        let last : digits (suc d) n ≡ digits (suc d) w ++ (b ∷ []) =
        digits_last s n (omega arith) m
        ∙ ap (λ (a : ℕ). digits (suc d) a ++ ((48 + n % 10) ∷ [])) q
        ∙ ap (λ (a : ℕ). digits (suc d) w ++ (a ∷ [])) r in
        (sym (append_assoc (digits (suc d) w) (b ∷ []) f) ∙ ap (λ (a : List ℕ). a ++ f) (sym last) ∙ t.0, t.1)

-- A field that is a number is its digits.
pub number-text : {d most : ℕ} → Enough d most → (f : List ℕ) (v : ℕ) → number_of most f ≡ some v → (f ≡ digits (suc d) v) × (v ≤ most)
unfolding number_of valued digits
number-text {d} {most} s [] v e = never e
number-text {d} {most} s (b ∷ f) v e = go (eqb b 48) refl e
  where
    lone : (f : List ℕ) → b ≡ 48 → zero_alone f ≡ some v → (b ∷ f ≡ digits (suc d) v) × (v ≤ most)
    lone [] z e =
        let y : 0 ≡ v = same e in
        (ap (λ (a : ℕ). a ∷ []) z ∙ ap (digits (suc d)) y, omega arith)
    lone (c ∷ f) z e = never e

    first : (x : Bool) → ltb b 48 ≡ x → (y : Bool) → ltb 57 b ≡ y → (z : Bool) → ltb most (0 * 10 + (b - 48)) ≡ z → (b ≡ 48 → ⊥)
        → (if x then none else (if y then none else (if z then none else valued most (0 * 10 + (b - 48)) f))) ≡ some v
        → (b ∷ f ≡ digits (suc d) v) × (v ≤ most)
    first true i y j z k n e = never e
    first false i true j z k n e = never e
    first false i false j true k n e = never e
    first false i false j false k n e =
        let lo : 48 ≤ b = ltb-false b 48 i in
        let hi : b ≤ 57 = ltb-false 57 b j in
        let g : 48 < b = more lo n in
        let m : 0 * 10 + (b - 48) ≤ most = ltb-false most (0 * 10 + (b - 48)) k in
        let t : _ = valued-text s f (0 * 10 + (b - 48)) v (omega arith) m e in
        let q : 48 + (0 * 10 + (b - 48)) ≡ b = omega arith in
        (ap (λ (a : ℕ). a ∷ f) (sym q) ∙ ap (λ (a : List ℕ). a ++ f) (sym (digits-one d (0 * 10 + (b - 48)) (omega arith))) ∙ t.0, t.1)

    go : (q : Bool) → eqb b 48 ≡ q → (if q then zero_alone f else valued most 0 (b ∷ f)) ≡ some v → (b ∷ f ≡ digits (suc d) v) × (v ≤ most)
    go true z e = lone f (eqb-true b 48 z) e
    go false z e = first (ltb b 48) refl (ltb 57 b) refl (ltb most (0 * 10 + (b - 48))) refl (eqb-false b 48 z) e

-- Fields that are numbers are their digits.
pub numbers-text : (k : ℕ) (fs : List (List ℕ)) (vs : List ℕ) → numbers_of k fs ≡ some vs → (fs ≡ map decimal vs) × Within vs
unfolding numbers_of
numbers-text k [] vs e = subst (λ (ws : List ℕ). ([] ≡ map decimal ws) × Within ws) (same e) (refl, empty)
numbers-text zero (f ∷ fs) vs e = never e
numbers-text (suc k) (f ∷ fs) vs e = go (number_of one_word f) refl (numbers_of k fs) refl (numbers-text k fs) e
  where
    go : (o : Option ℕ) → number_of one_word f ≡ o → (p : Option (List ℕ)) → numbers_of k fs ≡ p
        → ((ws : List ℕ) → numbers_of k fs ≡ some ws → (fs ≡ map decimal ws) × Within ws)
        → in_front o p ≡ some vs
        → (f ∷ fs ≡ map decimal vs) × Within vs
    go none i p j h e = never e
    go (some v) i none j h e = never e
    go (some v) i (some ws) j h e =
        let t : _ = number-text for-one f v i in
        let u : _ = h ws j in
        subst (λ (r : List ℕ). (f ∷ fs ≡ map decimal r) × Within r) (same e)
        (ap (λ (a : List ℕ). a ∷ fs) t.0 ∙ ap (λ (a : List (List ℕ)). decimal v ∷ a) u.0, limited t.1 u.1)

-- The digits of numbers with tabs are their text.
pub joined_after-numbers : (vs : List ℕ) → joined_after 9 (map decimal vs) ≡ numbers_text vs
unfolding numbers_text
joined_after-numbers [] = refl
joined_after-numbers (v ∷ vs) = ap (λ (r : List ℕ). 9 ∷ (decimal v ++ r)) (joined_after-numbers vs)

pub number_is_text : NumberIsText
number_is_text = record {
  one = λ f v. (number-text for-one f v, λ w. ap (number_of one_word) w.0 ∙ number-decimal for-one v w.1);
  two = λ f v. (number-text for-two f v, λ w. ap (number_of two_words) w.0 ∙ number-decimal for-two v w.1);
}
