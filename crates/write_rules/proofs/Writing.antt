-- Texts written one after the other, and the fields of a term's entries. Assumes nothing.
use mathlib.Core.Path.{◌≡◌, ap, sym, ◌∙◌, subst}
use mathlib.Core.Bool.{Bool, true, false}
use mathlib.Core.List.{List, [], ◌∷◌, ◌++◌, append_assoc, append-nil}
use Prim.Native.Nat.{ℕ, ◌+◌, ◌≤◌}
use native.Mathlib.Omega.{arith}
use lib.Dec.{eqb}
use lib.ListN.{length, take, drop, length-append}
use lib.Seq.{take_at, take-take, length-take-le}
use borrow.Author.Tests.{eq-eqb, ne_eqb}
use Rattle.std.specs.Prelude.{if◌then◌else◌}
use Rattle.words.specs.Words.{word_at}
use Rattle.checks.specs.Good.{kind_of, operand_count}
use Rattle.text.specs.Text.{decimal}
use Rattle.text.specs.Written.{put_text, Put}
use Rattle.text.proofs.Put.{length_digits}
use Rattle.write_rules.specs.Lines.{Wrote, entry_text}

pub wrote-put : {b s b' : List ℕ} {at r : ℕ} → at + length s ≤ length b → Put b at s b' r → Wrote b at s b' r
unfolding put_text
wrote-put {b} {s} {b'} {at} {r} l p = record {
  place = p.place;
  text =
      ap (take r) (p.text ∙ sym (append_assoc (take at b) s (drop (at + length s) b)))
      ∙ take_at (take at b ++ s) (drop (at + length s) b) r (omega (arith, p.place, length-append (take at b) s, length-take-le at b (omega arith)));
}

pub wrote-more : {b b' b'' s u : List ℕ} {at r r' : ℕ} → Wrote b at s b' r → Wrote b' r u b'' r' → Wrote b at (s ++ u) b'' r'
wrote-more {b} {b'} {b''} {s} {u} {at} {r} {r'} p q = record {
  place = omega (arith, p.place, q.place, length-append s u);
  text = q.text ∙ ap (λ (c : List ℕ). c ++ u) p.text ∙ append_assoc (take at b) s u;
}

-- Nothing written.
pub wrote_none : (b : List ℕ) (at : ℕ) → Wrote b at [] b at
wrote_none b at = record { place = omega arith; text = sym (append-nil (take at b)) }

-- What stood before a place stands there after something was written from it on.
pub wrote-before : {b b' s : List ℕ} {at r : ℕ} → Wrote b at s b' r → (n : ℕ) → n ≤ at → at ≤ length b → take n b' ≡ take n b
wrote-before {b} {b'} {s} {at} {r} p n l m =
    sym (take-take n r b' (omega (arith, p.place)))
    ∙ ap (take n) p.text
    ∙ sym (take-take n at (take at b ++ s) l)
    ∙ ap (take n) (take_at (take at b) s at (length-take-le at b m))
    ∙ take-take n at b l

pub wrote_as : {b b' s u : List ℕ} {at r : ℕ} → s ≡ u → Wrote b at s b' r → Wrote b at u b' r
wrote_as {b} {b'} {s} {u} {at} {r} e p = subst (λ (x : List ℕ). Wrote b at x b' r) e p

-- ---- one entry

pub field-long : (n : ℕ) → length (decimal n ++ (9 ∷ [])) ≤ 11
field-long n = omega (arith, length-append (decimal n) (9 ∷ []), length_digits 10 n)

pub number-long : (n : ℕ) → length (decimal n) ≤ 10
number-long n = length_digits 10 n

module _ (t : List ℕ) (e : ℕ) where
  pub entry-variable : kind_of t e ≡ 18 → entry_text t e ≡ (118 ∷ []) ++ (decimal (word_at t e 1) ++ (9 ∷ []))
  unfolding entry_text
  entry-variable k = rw (eq-eqb (kind_of t e) 18 k)

  pub entry-constructor : (kind_of t e ≡ 18 → ⊥) → entry_text t e ≡ (decimal (word_at t e 1) ++ (9 ∷ [])) ++ (decimal (operand_count t e) ++ (9 ∷ []))
  unfolding entry_text
  entry-constructor k = rw (ne_eqb (kind_of t e) 18 k) (sym (append_assoc (decimal (word_at t e 1)) (9 ∷ []) (decimal (operand_count t e) ++ (9 ∷ []))))

  pub variable-text : {a k : ℕ} → a ≡ word_at t e 1 → k ≡ kind_of t e → k ≡ 18 → (118 ∷ []) ++ (decimal a ++ (9 ∷ [])) ≡ entry_text t e
  variable-text z y k = ap (λ (x : ℕ). (118 ∷ []) ++ (decimal x ++ (9 ∷ []))) z ∙ sym (entry-variable (sym y ∙ k))

  pub constructor-text : {a k n : ℕ} → a ≡ word_at t e 1 → k ≡ kind_of t e → (k ≡ 18 → ⊥) → n ≡ operand_count t e → (decimal a ++ (9 ∷ [])) ++ (decimal n ++ (9 ∷ [])) ≡ entry_text t e
  constructor-text {a} {k} {n} z y o x =
      ap (λ (i : ℕ). (decimal i ++ (9 ∷ [])) ++ (decimal n ++ (9 ∷ []))) z
      ∙ ap (λ (i : ℕ). (decimal (word_at t e 1) ++ (9 ∷ [])) ++ (decimal i ++ (9 ∷ []))) x
      ∙ sym (entry-constructor (λ q. o (y ∙ q)))

  pub entry-long : length (entry_text t e) ≤ 24
  unfolding entry_text
  entry-long = go (eqb (kind_of t e) 18)
    where
      one : length (decimal (word_at t e 1) ++ (9 ∷ [])) ≤ 11
      one = omega (arith, length-append (decimal (word_at t e 1)) (9 ∷ []), number-long (word_at t e 1))

      two : length (decimal (word_at t e 1) ++ (9 ∷ (decimal (operand_count t e) ++ (9 ∷ [])))) ≤ 24
      two =
          omega (
            arith,
            length-append (decimal (word_at t e 1)) (9 ∷ (decimal (operand_count t e) ++ (9 ∷ []))),
            length-append (decimal (operand_count t e)) (9 ∷ []),
            number-long
                (word_at t e 1),
            number-long (operand_count t e),
          )

      go : (q : Bool) → length (if q then 118 ∷ (decimal (word_at t e 1) ++ (9 ∷ [])) else decimal (word_at t e 1) ++ (9 ∷ (decimal (operand_count t e) ++ (9 ∷ [])))) ≤ 24
      go true = omega (arith, one)
      go false = two
