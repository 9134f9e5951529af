-- Entries put into a table: what is written, what stays, and that rows apart may be written in either order. Assumes nothing.
use mathlib.Core.Path.{◌≡◌, refl, ap, sym, ◌∙◌, subst}
use mathlib.Core.Logic.{◌≢◌}
use mathlib.Core.List.{List, [], ◌∷◌, ◌++◌}
use Prim.Native.Nat.{ℕ, suc, ◌+◌, ◌*◌, ◌/◌, ◌%◌, ◌≤◌, ◌<◌}
use native.Mathlib.Omega.{arith}
use lib.Dec.{eqb}
use lib.ListN.{length, get_or, take}
use lib.Seq.{ext_get_or, take-take}
use borrow.Author.Tests.{eqb-true, eqb-false}
use Rattle.words.specs.Words.{word_at, rows, put_row}
use Rattle.words.proofs.Rows.{length-put_row, take-put_row, word_at-put_row-same, word_at-put_row-other}
use Rattle.meaning.proofs.Tests.{decided}
use Rattle.rules.specs.Entries.{Entry, row_of, Rows}
use Rattle.translate.specs.Added.{put_entries}

-- every entry has a row of eight words
pub data Eights : List Entry → Type 0 where
  no-entry : Eights []
  next-entry : {x : Entry} {xs : List Entry} → length (row_of x) ≡ 8 → Eights xs → Eights (x ∷ xs)

pub eights-append : {xs ys : List Entry} → Eights xs → Eights ys → Eights (xs ++ ys)
eights-append no-entry h = h
eights-append (next-entry i g) h = next-entry i (eights-append g h)

-- ---- words

pub same-words : (a b : List ℕ) → length a ≡ length b → ((i j : ℕ) → j < 8 → word_at a i j ≡ word_at b i j) → a ≡ b
same-words a b l h = ext_get_or 0 a b l (λ i k. let z : 8 * (i / 8) + i % 8 ≡ i = omega arith in subst (λ (n : ℕ). get_or a n 0 ≡ get_or b n 0) z (h (i / 8) (i % 8) (omega arith)))

module _ (t : List ℕ) (a b : ℕ) (r s : List ℕ) (at_a : 8 * a + 8 ≤ length t) (at_b : 8 * b + 8 ≤ length t) (eight-r : length r ≡ 8) (eight-s : length s ≡ 8) (apart : a ≢ b) where
  long-a : length (put_row t a r) ≡ length t
  long-a = length-put_row t a r at_a eight-r

  long-b : length (put_row t b s) ≡ length t
  long-b = length-put_row t b s at_b eight-s

  inside-a : 8 * a + 8 ≤ length (put_row t b s)
  inside-a = omega (arith, long-b)

  inside-b : 8 * b + 8 ≤ length (put_row t a r)
  inside-b = omega (arith, long-a)

  -- Two rows may be put in either order.
  pub put_row-swap : put_row (put_row t a r) b s ≡ put_row (put_row t b s) a r
  put_row-swap =
      same-words _ _ (length-put_row (put_row t a r) b s inside-b eight-s ∙ long-a ∙ sym (length-put_row (put_row t b s) a r inside-a eight-r ∙ long-b))
      (λ i j k. decided (eqb i b) (λ e. at_second i j k (eqb-true i b e)) (λ e. decided (eqb i a) (λ f. at_first i j k (eqb-true i a f)) (λ f. elsewhere i j k (eqb-false i b e) (eqb-false i a f))))
    where
      at_second : (i j : ℕ) → j < 8 → i ≡ b → word_at (put_row (put_row t a r) b s) i j ≡ word_at (put_row (put_row t b s) a r) i j
      at_second i j k e =
          subst (λ (n : ℕ). word_at (put_row (put_row t a r) b s) n j ≡ word_at (put_row (put_row t b s) a r) n j) (sym e)
          (word_at-put_row-same (put_row t a r) b s inside-b eight-s j k
          ∙ sym (word_at-put_row-other (put_row t b s) a r inside-a eight-r b j k (λ z. apart (sym z)) ∙ word_at-put_row-same t b s at_b eight-s j k))

      at_first : (i j : ℕ) → j < 8 → i ≡ a → word_at (put_row (put_row t a r) b s) i j ≡ word_at (put_row (put_row t b s) a r) i j
      at_first i j k e =
          subst (λ (n : ℕ). word_at (put_row (put_row t a r) b s) n j ≡ word_at (put_row (put_row t b s) a r) n j) (sym e)
          (word_at-put_row-other (put_row t a r) b s inside-b eight-s a j k apart ∙ word_at-put_row-same t a r at_a eight-r j k ∙ sym (word_at-put_row-same (put_row t b s) a r inside-a eight-r j k))

      elsewhere : (i j : ℕ) → j < 8 → i ≢ b → i ≢ a → word_at (put_row (put_row t a r) b s) i j ≡ word_at (put_row (put_row t b s) a r) i j
      elsewhere i j k f g =
          word_at-put_row-other (put_row t a r) b s inside-b eight-s i j k f
          ∙ word_at-put_row-other t a r at_a eight-r i j k g
          ∙ sym (word_at-put_row-other (put_row t b s) a r inside-a eight-r i j k g ∙ word_at-put_row-other t b s at_b eight-s i j k f)

-- A row put twice is the second.
put_row-over : (t : List ℕ) (e : ℕ) (r s : List ℕ) → 8 * e + 8 ≤ length t → length r ≡ 8 → length s ≡ 8 → put_row (put_row t e r) e s ≡ put_row t e s
put_row-over t e r s inside i k =
    let long = length-put_row t e r inside i in
    let within : 8 * e + 8 ≤ length (put_row t e r) = omega (arith, long) in
    same-words _ _ (length-put_row (put_row t e r) e s within k ∙ long ∙ sym (length-put_row t e s inside k))
    (λ a j l. decided (eqb a e)
    (λ z.
    subst (λ (n : ℕ). word_at (put_row (put_row t e r) e s) n j ≡ word_at (put_row t e s) n j) (sym (eqb-true a e z))
    (word_at-put_row-same (put_row t e r) e s within k j l ∙ sym (word_at-put_row-same t e s inside k j l)))
    (λ z. word_at-put_row-other (put_row t e r) e s within k a j l (eqb-false a e z) ∙ word_at-put_row-other t e r inside i a j l (eqb-false a e z)
    ∙ sym (word_at-put_row-other t e s inside k a j l (eqb-false a e z))))

-- ---- entries

module _ (x : Entry) (xs : List Entry) (t : List ℕ) (e : ℕ) (h : length (row_of x) ≡ 8) (fits : e + suc (length xs) ≤ rows t) where
  first-inside : 8 * e + 8 ≤ length t
  first-inside = omega arith

  first-long : length (put_row t e (row_of x)) ≡ length t
  first-long = length-put_row t e (row_of x) first-inside h

  rest-fits : suc e + length xs ≤ rows (put_row t e (row_of x))
  rest-fits = omega (arith, first-long)

pub length-put : {xs : List Entry} → Eights xs → (t : List ℕ) (e : ℕ) → e + length xs ≤ rows t → length (put_entries t e xs) ≡ length t
unfolding put_entries
length-put no-entry t e l = refl
length-put (next-entry {x = x} {xs = xs} h g) t e l =
    length-put g (put_row t e (row_of x)) (suc e) (rest-fits x xs t e h l) ∙ first-long x xs t e h l

-- Every other row reads as before.
pub put_other : {xs : List Entry} → Eights xs → (t : List ℕ) (e : ℕ) → e + length xs ≤ rows t → (i j : ℕ) → j < 8 → (e ≤ i → i < e + length xs → ⊥) → word_at (put_entries t e xs) i j ≡ word_at t i j
unfolding put_entries
put_other no-entry t e l i j k o = refl
put_other (next-entry {x = x} {xs = xs} h g) t e l i j k o =
    put_other g (put_row t e (row_of x)) (suc e) (rest-fits x xs t e h l) i j k (λ a b. o (omega arith) (omega arith))
    ∙ word_at-put_row-other t e (row_of x) (first-inside x xs t e h l) h i j k (λ z. o (omega arith) (omega arith))

-- The rows read as they were put.
pub put-rows : {xs : List Entry} → Eights xs → (t : List ℕ) (e : ℕ) → e + length xs ≤ rows t → Rows (put_entries t e xs) e xs
unfolding put_entries Rows
put-rows no-entry t e l = tt
put-rows (next-entry {x = x} {xs = xs} h g) t e l = (
  λ j k. put_other g (put_row t e (row_of x)) (suc e) (rest-fits x xs t e h l) e j k (λ a b. omega arith) ∙ word_at-put_row-same t e (row_of x) (first-inside x xs t e h l) h j k,
  put-rows g (put_row t e (row_of x)) (suc e) (rest-fits x xs t e h l),
)

-- The words before them are kept, all at once.
pub take_put : {xs : List Entry} → Eights xs → (t : List ℕ) (e : ℕ) → e + length xs ≤ rows t → (n : ℕ) → n ≤ 8 * e → take n (put_entries t e xs) ≡ take n t
unfolding put_entries
take_put no-entry t e l n m = refl
take_put (next-entry {x = x} {xs = xs} h g) t e l n m =
    take_put g (put_row t e (row_of x)) (suc e) (rest-fits x xs t e h l) n (omega arith)
    ∙ sym (take-take n (8 * e) (put_row t e (row_of x)) m)
    ∙ ap (take n) (take-put_row t e (row_of x) (first-inside x xs t e h l) h)
    ∙ take-take n (8 * e) t m

-- A row may be put before entries that stand after it, or after them.
pub row-swap : {ys : List Entry} → Eights ys → (t : List ℕ) (f e : ℕ) (r : List ℕ) → length r ≡ 8 → f + length ys ≤ rows t → e < f → put_row (put_entries t f ys) e r ≡ put_entries (put_row t e r) f ys
unfolding put_entries
row-swap no-entry t f e r i l m = refl
row-swap (next-entry {x = y} {xs = ys} h g) t f e r i l m =
    row-swap g (put_row t f (row_of y)) (suc f) e r i (rest-fits y ys t f h l) (omega arith)
    ∙ ap (λ (w : List ℕ). put_entries w (suc f) ys) (put_row-swap t f e (row_of y) r (omega arith) (omega arith) h i (λ z. omega arith))

-- And so entries.
pub put-swap : {xs ys : List Entry} → Eights xs → Eights ys → (t : List ℕ) (e f : ℕ) → e + length xs ≤ f → f + length ys ≤ rows t
    → put_entries (put_entries t f ys) e xs ≡ put_entries (put_entries t e xs) f ys
unfolding put_entries
put-swap no-entry k t e f l m = refl
put-swap {ys = ys} (next-entry {x = x} {xs = xs} h g) k t e f l m =
    ap (λ (w : List ℕ). put_entries w (suc e) xs) (row-swap k t f e (row_of x) h m (omega arith))
    ∙ put-swap g k (put_row t e (row_of x)) (suc e) f (omega arith) (omega (arith, length-put_row t e (row_of x) (omega arith) h))

-- Entries put over as many are the second ones.
pub put-over : {xs ys : List Entry} → Eights xs → Eights ys → length xs ≡ length ys → (t : List ℕ) (e : ℕ) → e + length xs ≤ rows t → put_entries (put_entries t e ys) e xs ≡ put_entries t e xs
unfolding put_entries
put-over no-entry no-entry n t e l = refl
put-over no-entry (next-entry i k) n t e l = absurd (omega arith)
put-over (next-entry h g) no-entry n t e l = absurd (omega arith)
put-over (next-entry {x = x} {xs = xs} h g) (next-entry {x = y} {xs = ys} i k) n t e l =
    let inside : 8 * e + 8 ≤ length t = omega arith in
    let long = length-put_row t e (row_of y) inside i in
    let long' = length-put_row t e (row_of x) inside h in
    ap (λ (w : List ℕ). put_entries w (suc e) xs) (row-swap k (put_row t e (row_of y)) (suc e) e (row_of x) h (omega (arith, long)) (omega arith)
    ∙ ap (λ (w : List ℕ). put_entries w (suc e) ys) (put_row-over t e (row_of y) (row_of x) inside i h))
    ∙ put-over g k (omega arith) (put_row t e (row_of x)) (suc e) (omega (arith, long'))
