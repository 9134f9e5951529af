-- A text put into a buffer, and another after it; the digits of a number. Assumes nothing.
use mathlib.Core.Path.{◌≡◌, refl, ap, sym, ◌∙◌, subst}
use mathlib.Core.Bool.{Bool, true, false}
use mathlib.Core.List.{List, [], ◌∷◌, ◌++◌, append_assoc, append-nil}
use Prim.Native.Nat.{ℕ, zero, suc, ◌+◌, ◌*◌, ◌/◌, ◌%◌, ◌≤◌, ◌<◌}
use native.Mathlib.Nat.{add-zero}
use native.Mathlib.Numerals.{add-one}
use native.Mathlib.Omega.{arith}
use lib.Dec.{ltb}
use lib.ListN.{length, get_or, set, take, drop, length-append, length-take, length-drop, take-append-drop}
use lib.Seq.{set_split, take_at, drop-append-add, drop-drop, length-take-le, take-suc}
use borrow.Author.Tests.{lt-ltb, le-ltb, ltb-false}
use Rattle.std.specs.Prelude.{if◌then◌else◌}
use Rattle.text.specs.Text.{one_word, two_words, digits, decimal}
use Rattle.text.specs.Written.{numbers_text, put_text, Put}

-- Nothing put leaves the buffer.
pub put-none : (b : List ℕ) (at : ℕ) → Put b at [] b at
unfolding put_text
put-none b at = record { place = sym (add-zero at); text = sym (rw add-zero (take-append-drop at b)) }

-- A byte put is a byte set.
pub put_one : (b : List ℕ) (at x : ℕ) → at < length b → Put b at (x ∷ []) (set b at x) (at + 1)
unfolding put_text
put_one b at x l = record { place = refl; text = rw add-one (set_split b at x l) }

-- The buffer stays as long.
pub length-put_text : (b : List ℕ) (at : ℕ) (t : List ℕ) → at + length t ≤ length b → length (put_text b at t) ≡ length b
unfolding put_text
length-put_text b at t l = simp (length-append, length-take, length-drop) (omega arith)

-- A text after a text is both in one.
put_text-more : (b : List ℕ) (at : ℕ) (t u : List ℕ) → at + length t ≤ length b → put_text (put_text b at t) (at + length t) u ≡ put_text b at (t ++ u)
unfolding put_text
put_text-more b at t u l =
    let k : length (take at b ++ t) ≡ at + length t = length-append (take at b) t ∙ omega (arith, length-take-le at b (omega arith)) in
    let j : at + length t + length u ≡ at + length (t ++ u) = omega (arith, length-append t u) in
    let e : take at b ++ (t ++ drop (at + length t) b) ≡ (take at b ++ t) ++ drop (at + length t) b = sym (append_assoc (take at b) t (drop (at + length t) b)) in
    let p : take (at + length t) (take at b ++ (t ++ drop (at + length t) b)) ≡ take at b ++ t = ap (take (at + length t)) e ∙ take_at (take at b ++ t) (drop (at + length t) b) (at + length t) k in
    let q : drop (at + length t + length u) (take at b ++ (t ++ drop (at + length t) b)) ≡ drop (at + length (t ++ u)) b =
    ap (drop (at + length t + length u)) e
    ∙ ap (λ (n : ℕ). drop (n + length u) ((take at b ++ t) ++ drop (at + length t) b)) (sym k)
    ∙ drop-append-add (take at b ++ t) (drop (at + length t) b) (length u)
    ∙ drop-drop (length u) (at + length t) b
    ∙ ap (λ (n : ℕ). drop n b) j in
    rw (p, q) (append_assoc (take at b) t (u ++ drop (at + length (t ++ u)) b) ∙ ap (λ (r : List ℕ). take at b ++ r) (sym (append_assoc t u (drop (at + length (t ++ u)) b))))

pub put-more : {b b' b'' t u : List ℕ} {at r r' : ℕ} → at + length t ≤ length b → Put b at t b' r → Put b' r u b'' r' → Put b at (t ++ u) b'' r'
put-more {b} {b'} {b''} {t} {u} {at} {r} {r'} l p q = record {
  place = omega (arith, p.place, q.place, length-append t u);
  text = q.text ∙ ap (λ (c : List ℕ). put_text c r u) p.text ∙ ap (λ (n : ℕ). put_text (put_text b at t) n u) p.place ∙ put_text-more b at t u l;
}

-- As many digits as are asked for are enough.
pub length_digits : (k n : ℕ) → length (digits k n) ≤ k
unfolding digits
length_digits zero n = omega arith
length_digits (suc k) n = go (ltb n 10) (length_digits k (n / 10))
  where
    go : (q : Bool) → length (digits k (n / 10)) ≤ k → length (if q then (48 + n) ∷ [] else digits k (n / 10) ++ ((48 + n % 10) ∷ [])) ≤ suc k
    go true h = omega arith
    go false h = omega (arith, length-append (digits k (n / 10)) ((48 + n % 10) ∷ []))

-- One digit.
pub digits-one : (k n : ℕ) → n < 10 → digits (suc k) n ≡ (48 + n) ∷ []
unfolding digits
digits-one k n l = rw (lt-ltb n 10 l)

pub decimal-one : (n : ℕ) → n < 10 → decimal n ≡ (48 + n) ∷ []
decimal-one n l = digits-one 9 n l

-- n is below the k-th power of ten.
pub data Below : ℕ → ℕ → Type 0 where
  least : (n : ℕ) → n < 1 → Below zero n
  tenth : (k n : ℕ) → Below k (n / 10) → Below (suc k) n

-- One more digit may be asked for.
pub digits_more : (k n : ℕ) → 0 < n → Below k n → digits k n ≡ digits (suc k) n
unfolding digits
digits_more zero n p (least m l) = absurd (omega arith)
digits_more (suc k) n p (tenth j m b) = go (ltb n 10) refl (digits_more k (n / 10))
  where
    go : (q : Bool) → ltb n 10 ≡ q → (0 < n / 10 → Below k (n / 10) → digits k (n / 10) ≡ digits (suc k) (n / 10))
        → (if q then (48 + n) ∷ [] else digits k (n / 10) ++ ((48 + n % 10) ∷ []))
        ≡ (if q then (48 + n) ∷ [] else digits (suc k) (n / 10) ++ ((48 + n % 10) ∷ []))
    go true e h = refl
    go false e h = ap (λ (d : List ℕ). d ++ ((48 + n % 10) ∷ [])) (h (omega (arith, ltb-false n 10 e)) b)

-- One power of ten more.
step : (k b : ℕ) → ((m : ℕ) → m < b → Below k m) → (n : ℕ) → n < 10 * b → Below (suc k) n
step k b f n l = tenth k n (f (n / 10) (omega arith))

-- A number of one word has at most ten digits, and a tenth of it nine; of two words twenty, and nineteen.
nine : (n : ℕ) → n < 1000000000 → Below 9 n
nine = step 8 100000000 (step 7 10000000 (step 6 1000000 (step 5 100000 (step 4 10000 (step 3 1000 (step 2 100 (step 1 10 (step 0 1 least))))))))

nineteen : (n : ℕ) → n < 10000000000000000000 → Below 19 n
nineteen =
    step 18 1000000000000000000 (step 17 100000000000000000 (step 16 10000000000000000 (step 15 1000000000000000 (step 14 100000000000000
    (step 13 10000000000000 (step 12 1000000000000 (step 11 100000000000 (step 10 10000000000 (step 9 1000000000 nine)))))))))

-- k digits are enough for a tenth of a number that is at most m
abbrev pub Enough : ℕ → ℕ → Type 0
Enough k m = (n : ℕ) → n ≤ m → Below k (n / 10)

pub for-one : Enough 9 one_word
for-one n l = nine (n / 10) (omega arith)

pub for-two : Enough 19 two_words
for-two n l = nineteen (n / 10) (omega arith)

pub digits_last : {k m : ℕ} → Enough k m → (n : ℕ) → 10 ≤ n → n ≤ m → digits (suc k) n ≡ digits (suc k) (n / 10) ++ ((48 + n % 10) ∷ [])
unfolding digits
digits_last {k} b n l h = rw (le-ltb n 10 l) (ap (λ (d : List ℕ). d ++ ((48 + n % 10) ∷ [])) (digits_more k (n / 10) (omega arith) (b n h)))

pub decimal-more : (n : ℕ) → 10 ≤ n → n ≤ 4294967295 → decimal n ≡ decimal (n / 10) ++ ((48 + n % 10) ∷ [])
decimal-more n l m = digits_last for-one n l m

-- So the last digit is one byte more.
pub length-one : (n : ℕ) → n < 10 → length (decimal n) ≡ 1
length-one n l = ap length (decimal-one n l)

pub length_more : (n : ℕ) → 10 ≤ n → n ≤ 4294967295 → length (decimal n) ≡ length (decimal (n / 10)) + 1
length_more n l m = ap length (decimal-more n l m) ∙ length-append (decimal (n / 10)) ((48 + n % 10) ∷ [])

-- The numbers' text, and one number more.
pub numbers_text-more : (vs : List ℕ) (v : ℕ) → numbers_text vs ++ (9 ∷ decimal v) ≡ numbers_text (vs ++ (v ∷ []))
unfolding numbers_text
numbers_text-more [] v = ap (λ (r : List ℕ). 9 ∷ r) (sym (append-nil (decimal v)))
numbers_text-more (w ∷ vs) v = ap (λ (r : List ℕ). 9 ∷ r) (append_assoc (decimal w) (numbers_text vs) (9 ∷ decimal v) ∙ ap (λ (r : List ℕ). decimal w ++ r) (numbers_text-more vs v))

-- It is at most eleven bytes a number.
pub length-numbers_text : (vs : List ℕ) → length (numbers_text vs) ≤ 11 * length vs
unfolding numbers_text
length-numbers_text [] = omega arith
length-numbers_text (v ∷ vs) = omega (arith, length-numbers_text vs, length-append (decimal v) (numbers_text vs), length_digits 10 v)

-- One number more of a list.
pub fields-more : {b b' b'' : List ℕ} {at r r' : ℕ} (vs : List ℕ) (i : ℕ) → i < length vs → at + length (numbers_text (take i vs)) ≤ length b
    → Put b at (numbers_text (take i vs)) b' r → Put b' r (9 ∷ decimal (get_or vs i 0)) b'' r' → Put b at (numbers_text (take (i + 1) vs)) b'' r'
fields-more {b} {b'} {b''} {at} {r} {r'} vs i l f p q =
    let e : take (i + 1) vs ≡ take i vs ++ (get_or vs i 0 ∷ []) = rw add-one (take-suc vs i 0 l) in
    rw e (subst (λ (t : List ℕ). Put b at t b'' r') (numbers_text-more (take i vs) (get_or vs i 0)) (put-more f p q))

pub length_fields : (vs : List ℕ) (i : ℕ) → length (numbers_text (take i vs)) ≤ 11 * i
length_fields vs i = omega (arith, length-numbers_text (take i vs), length-take i vs)

-- A text put at the start is what stands there.
pub put-taken : {b t b' : List ℕ} {r : ℕ} → length t ≤ length b → Put b 0 t b' r → take r b' ≡ t
unfolding put_text
put-taken {b} {t} {b'} {r} l p = ap (take r) p.text ∙ take_at t (drop (0 + length t) b) r (omega (arith, p.place))
