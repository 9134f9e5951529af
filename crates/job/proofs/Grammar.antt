-- The text of lines, read: it means what its lines say. Assumes nothing.
use mathlib.Core.Path.{◌≡◌, refl, ap, sym, ◌∙◌, subst}
use mathlib.Core.Bool.{Bool, true, false, true≢false}
use mathlib.Core.List.{List, [], ◌∷◌, ◌++◌, map}
use mathlib.Core.Option.{some}
use Prim.Native.Nat.{ℕ, zero, suc, ◌+◌, ◌≤◌, ◌<◌}
use native.Mathlib.Omega.{arith}
use lib.Dec.{leb, eqb}
use lib.ListN.{length, get_or}
use borrow.Author.Tests.{ltb-false, leb-true, eqb-true, ne_eqb}
use Rattle.std.specs.Prelude.{if◌then◌else◌}
use Rattle.words.proofs.Tests.{and-true}
use Rattle.text.specs.Text.{one_word, two_words, parts, decimal, decimal_wide}
use Rattle.text.specs.Written.{numbers_text, Within}
use Rattle.job.specs.Lines.{Line, name_of, letter_of, job_fits, entry_fits, node_fits, binding_fits, fits, entry_numbers, line_of}
use Rattle.job.specs.Job.{Reading, admitted, taken, good, read_lines}
use Rattle.job.specs.Written.{name_text, entry_text, fields_text, line_text, written, Limited, entry, other, Follow, end, next}
use Rattle.text.proofs.Parts.{parts_first}
use Rattle.text.proofs.Separators.{Clear, nil, one, clear-append, parts_cut}
use Rattle.text.proofs.Put.{for-one, for-two}
use Rattle.text.proofs.Decimal.{digits-clear, numbers-clear, number-decimal, numbers-decimal, parts-fields}
use Rattle.job.proofs.Readings.{fits-name}

name-clear : (c k : ℕ) → c < 11 → Clear c (name_text k)
unfolding name_text
name-clear c k l = go (eqb k 0) (eqb k 1) (eqb k 2)
  where
    go : (x y z : Bool) → Clear c (if x then 106 ∷ 111 ∷ 98 ∷ [] else (if y then 101 ∷ [] else (if z then 110 ∷ [] else 98 ∷ [])))
    go true y z = one 106 (λ e. omega arith) (one 111 (λ e. omega arith) (one 98 (λ e. omega arith) nil))
    go false true z = one 101 (λ e. omega arith) nil
    go false false true = one 110 (λ e. omega arith) nil
    go false false false = one 98 (λ e. omega arith) nil

-- A name's text is read as the name.
name-name : (k : ℕ) → k ≤ 3 → name_of (name_text k) ≡ k
unfolding name_of name_text letter_of
name-name zero l = refl
name-name (suc zero) l = refl
name-name (suc (suc zero)) l = refl
name-name (suc (suc (suc zero))) l = refl
name-name (suc (suc (suc (suc k)))) l = absurd (omega arith)

-- At most eight numbers fit a name.
fits-most : (k n : ℕ) (vs : List ℕ) → fits k n vs ≡ true → n ≤ 8
unfolding fits job_fits entry_fits node_fits binding_fits
fits-most k n vs e = go (eqb k 0) (eqb k 1) (eqb k 2) (eqb k 3) e
  where
    go : (a b c d : Bool)
        → (if a then job_fits n vs else (if b then entry_fits n vs else (if c then node_fits n vs else (if d then binding_fits n vs else false)))) ≡ true
        → n ≤ 8
    go true b c d e = omega (arith, eqb-true n 4 (and-true (eqb n 4) _ e).0)
    go false true c d e = leb-true n 8 (and-true (leb n 8) _ (and-true (leb 2 n) _ e).1).0
    go false false true d e = omega (arith, leb-true n 7 (and-true (leb 1 n) _ e).1)
    go false false false true e = omega (arith, eqb-true n 2 (and-true (eqb n 2) _ e).0)
    go false false false false e = absurd (true≢false (sym e))

-- The fields of an `e` line's text.
parts-entry : {f : List ℕ} (k a : ℕ) (vs : List ℕ) → Clear 9 f → parts 9 (f ++ entry_text (k ∷ a ∷ vs)) ≡ f ∷ decimal k ∷ decimal_wide a ∷ map decimal vs
unfolding entry_text
parts-entry {f} k a vs p =
    parts_cut (decimal k ++ (9 ∷ (decimal_wide a ++ numbers_text vs))) p
    ∙ ap (λ (r : List (List ℕ)). f ∷ r)
    (parts_cut (decimal_wide a ++ numbers_text vs) (digits-clear 9 10 k (omega arith))
    ∙ ap (λ (r : List (List ℕ)). decimal k ∷ r) (parts-fields vs (digits-clear 9 20 a (omega arith))))

-- They are read as the numbers.
entry-numbers : {k a : ℕ} {vs : List ℕ} → length vs ≤ 8 → k ≤ one_word → a ≤ two_words → Within vs → entry_numbers (decimal k ∷ decimal_wide a ∷ map decimal vs) ≡ some (k ∷ a ∷ vs)
unfolding entry_numbers
entry-numbers {k} {a} {vs} l p q w = rw (number-decimal for-one k p, number-decimal for-two a q, numbers-decimal 8 vs l w)

-- A line's text is read as the line.
line-read-as : {k : ℕ} {vs : List ℕ} → fits k (length vs) vs ≡ true → Limited k vs → line_of (line_text (record { name = k; numbers = vs })) ≡ some (record { name = k; numbers = vs })
unfolding line_of line_text
line-read-as f (entry {k} {a} {vs} p q w) =
    rw (
      parts-entry k a vs (name-clear 9 1 (omega arith)),
      name-name 1 (omega arith),
      entry-numbers (omega (arith, fits-most 1 (length (k ∷ a ∷ vs)) (k ∷ a ∷ vs) f)) p q w,
      f,
    )
line-read-as f (other {k} {vs} e w) =
    rw (
      e,
      parts-fields vs (name-clear 9 k (omega arith)),
      name-name k (ltb-false 3 k (fits-name k (length vs) vs f)),
      e,
      numbers-decimal 8 vs (fits-most k (length vs) vs f) w,
      f,
    )

module _ (x : Line) (f : fits x.name (length x.numbers) x.numbers ≡ true) (w : Limited x.name x.numbers) where
  pub line_read : line_of (line_text x) ≡ some x
  line_read = line-read-as f w

-- It has no line feed in it.
entry-clear : (vs : List ℕ) → Clear 10 (entry_text vs)
unfolding entry_text
entry-clear [] = nil
entry-clear (k ∷ []) = numbers-clear (k ∷ [])
entry-clear (k ∷ a ∷ vs) =
    one 9 (λ e. omega arith) (clear-append (9 ∷ (decimal_wide a ++ numbers_text vs)) (digits-clear 10 10 k (omega arith))
    (one 9 (λ e. omega arith) (clear-append (numbers_text vs) (digits-clear 10 20 a (omega arith)) (numbers-clear vs))))

fields-clear : (k : ℕ) (vs : List ℕ) → Clear 10 (fields_text k vs)
fields-clear k vs = go (eqb k 1)
  where
    go : (b : Bool) → Clear 10 (if b then entry_text vs else numbers_text vs)
    go true = entry-clear vs
    go false = numbers-clear vs

pub line_clear : (x : Line) → Clear 10 (line_text x)
unfolding line_text
line_clear x = clear-append (fields_text x.name x.numbers) (name-clear 10 x.name (omega arith)) (fields-clear x.name x.numbers)

-- A line that may come next is taken in.
line_step : (g : Reading) (n : ℕ) (l m : List ℕ) (ls : List (List ℕ)) (x : Line) → line_of l ≡ some x → admitted g.heading x.name (get_or x.numbers 0 0) ≡ true
    → read_lines g n (l ∷ m ∷ ls) ≡ read_lines (taken g x) (n + 1) (m ∷ ls)
unfolding read_lines
line_step g n l m ls x e a = rw (e, a)

line_taken : (g : Reading) (n : ℕ) (l r : List ℕ) (x : Line) → line_of l ≡ some x → admitted g.heading x.name (get_or x.numbers 0 0) ≡ true
    → read_lines g n (l ∷ parts 10 r) ≡ read_lines (taken g x) (n + 1) (parts 10 r)
line_taken g n l r x e a =
    subst (λ (ps : List (List ℕ)). read_lines g n (l ∷ ps) ≡ read_lines (taken g x) (n + 1) ps) (sym (parts_first 10 r))
    (line_step g n l _ _ x e a)

nothing_left : (g : Reading) (n : ℕ) → (g.heading.section ≡ 0 → ⊥) → read_lines g n (parts 10 []) ≡ good g
unfolding read_lines parts
nothing_left g n s = rw (ne_eqb _ _ s)

-- The text of lines that may follow means what is read with them.
pub written_read : {g g' : Reading} {xs : List Line} (n : ℕ) → Follow g xs g' → (g'.heading.section ≡ 0 → ⊥) → read_lines g n (parts 10 (written xs)) ≡ good g'
unfolding written
written_read {g} n end s = nothing_left g n s
written_read {g} {g'} n (next {x = x} {xs = xs} f w a r) s =
    ap (read_lines g n) (parts_cut (written xs) (line_clear x))
    ∙ line_taken g n (line_text x) (written xs) x (line_read x f w) a
    ∙ written_read (n + 1) r s
