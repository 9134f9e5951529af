-- The lines of an answer, one after the other, and how long they are. Assumes nothing.
use mathlib.Core.Path.{◌≡◌, refl, ap, sym, ◌∙◌, subst}
use mathlib.Core.Bool.{Bool, true, false}
use mathlib.Core.List.{List, [], ◌∷◌, ◌++◌, append_assoc, append-nil}
use Prim.Native.Nat.{ℕ, zero, suc, ◌+◌, ◌-◌, ◌*◌, min, ◌≤◌}
use native.Mathlib.Numerals.{add-one}
use native.Mathlib.Omega.{arith}
use lib.Dec.{eqb}
use lib.ListN.{length, get_or, take, length-append, length-take}
use borrow.Author.Tests.{eq-eqb, ne_eqb}
use Rattle.checks.specs.Kinds.{variables}
use Rattle.std.specs.Prelude.{if◌then◌else◌}
use Rattle.words.specs.Words.{word_at}
use Rattle.job.specs.Lines.{Line}
use Rattle.text.specs.Written.{numbers_text, Put}
use Rattle.job.specs.Written.{name_text, line_text, written}
use Rattle.job.specs.Answer.{node_shown, node_numbers, node_line, node_lines, binding_line, binding_lines, shown, answer_line, answered}
use Rattle.job.specs.Promises.{AnswerFits}
use Rattle.text.proofs.Put.{put-none, put-more, length-numbers_text}

-- The text of lines and more lines.
pub written-more : (xs ys : List Line) → written (xs ++ ys) ≡ written xs ++ written ys
unfolding written
written-more [] ys = refl
written-more (x ∷ xs) ys = ap (λ (r : List ℕ). line_text x ++ (10 ∷ r)) (written-more xs ys) ∙ sym (append_assoc (line_text x) (10 ∷ written xs) (written ys))

-- A line's text is its letter and the rest.
pub written-node : (w : List ℕ) (k : ℕ) → written (node_line w k ∷ []) ≡ (110 ∷ []) ++ (numbers_text (node_numbers w k) ++ (10 ∷ []))
unfolding written line_text name_text
written-node w k = refl

pub written-unbound : (b : List ℕ) (v : ℕ) → get_or b v 0 ≡ 0 → written (binding_line b v) ≡ []
unfolding written binding_line
written-unbound b v e = rw (eq-eqb _ _ e)

pub written-bound : (b : List ℕ) (v : ℕ) → (get_or b v 0 ≡ 0 → ⊥)
    → written (binding_line b v) ≡ (98 ∷ []) ++ (numbers_text (v ∷ (get_or b v 0 - 1) ∷ []) ++ (10 ∷ []))
unfolding written line_text name_text binding_line
written-bound b v n = rw (ne_eqb _ _ n)

-- How long a letter, numbers and a line feed are.
length-line : (c : ℕ) (vs : List ℕ) → length ((c ∷ []) ++ (numbers_text vs ++ (10 ∷ []))) ≤ 11 * length vs + 2
length-line c vs = omega (arith, length-append (numbers_text vs) (10 ∷ []), length-numbers_text vs)

pub length-node : (w : List ℕ) (k : ℕ) → length (written (node_line w k ∷ [])) ≤ 79
unfolding node_numbers
length-node w k = rw (written-node w k) (omega (arith, length-line 110 (node_numbers w k), length-take (min 7 (word_at w k 1 + 1)) (node_shown w k)))

pub length-binding : (b : List ℕ) (v : ℕ) → length (written (binding_line b v)) ≤ 24
unfolding binding_line written line_text name_text
length-binding b v = go (eqb (get_or b v 0) 0)
  where
    go : (q : Bool) → length (written (if q then [] else record { name = 3; numbers = v ∷ (get_or b v 0 - 1) ∷ [] } ∷ [])) ≤ 24
    go true = omega arith
    go false = length-line 98 (v ∷ (get_or b v 0 - 1) ∷ [])

length-written-none : length (written []) ≡ 0
unfolding written
length-written-none = refl

pub length-nodes : (w : List ℕ) (n : ℕ) → length (written (node_lines w n)) ≤ 79 * n
unfolding node_lines
length-nodes w zero = omega (arith, length-written-none)
length-nodes w (suc n) =
    rw (written-more (node_lines w n) (node_line w n ∷ []))
    (omega (arith, length-append (written (node_lines w n)) (written (node_line w n ∷ [])), length-nodes w n, length-node w n))

pub length-bindings : (b : List ℕ) (n : ℕ) → length (written (binding_lines b n)) ≤ 24 * n
unfolding binding_lines
length-bindings b zero = omega (arith, length-written-none)
length-bindings b (suc n) =
    rw (written-more (binding_lines b n) (binding_line b n))
    (omega (arith, length-append (written (binding_lines b n)) (written (binding_line b n)), length-bindings b n, length-binding b n))

module _ {b b' b'' : List ℕ} {at r r' : ℕ} where
  -- One node more.
  pub nodes-more : (w : List ℕ) (k : ℕ) → at + 79 * k ≤ length b
      → Put b at (written (node_lines w k)) b' r → Put b' r (written (node_line w k ∷ [])) b'' r' → Put b at (written (node_lines w (k + 1))) b'' r'
  unfolding node_lines
  nodes-more w k l p q =
      rw (add-one, written-more (node_lines w k) (node_line w k ∷ [])) (put-more (omega (arith, length-nodes w k)) p q)

  -- One variable more.
  pub bindings-more : (w : List ℕ) (v : ℕ) → at + 24 * v ≤ length b
      → Put b at (written (binding_lines w v)) b' r → Put b' r (written (binding_line w v)) b'' r' → Put b at (written (binding_lines w (v + 1))) b'' r'
  unfolding binding_lines
  bindings-more w v l p q =
      rw (add-one, written-more (binding_lines w v) (binding_line w v)) (put-more (omega (arith, length-bindings w v)) p q)

  -- A node's line, by its letter and the rest.
  pub node-put : (w : List ℕ) (k c : ℕ) (row : List ℕ) → at + 1 ≤ length b → row ≡ node_shown w k → c ≡ min 7 (word_at w k 1 + 1)
      → Put b at (110 ∷ []) b' r → Put b' r (numbers_text (take c row) ++ (10 ∷ [])) b'' r' → Put b at (written (node_line w k ∷ [])) b'' r'
  unfolding node_numbers
  node-put w k c row l e f p q = rw (written-node w k, ← e, ← f) (put-more l p q)

-- No node and no variable yet.
pub nodes-none : (b w : List ℕ) (at : ℕ) → Put b at (written (node_lines w 0)) b at
unfolding node_lines written
nodes-none b w at = put-none b at

pub bindings-none : (b w : List ℕ) (at : ℕ) → Put b at (written (binding_lines w 0)) b at
unfolding binding_lines written
bindings-none b w at = put-none b at

-- The answer's own line is at most 62 bytes.
pub length-answer_line : (a p s m u : ℕ) → length (answer_line (a ∷ p ∷ s ∷ m ∷ u ∷ [])) ≤ 62
unfolding answer_line
length-answer_line a p s m u = omega (arith, length-append (numbers_text (a ∷ p ∷ s ∷ m ∷ u ∷ [])) (10 ∷ []), length-numbers_text (a ∷ p ∷ s ∷ m ∷ u ∷ []))

-- An array of five is its five numbers.
pub five-listed : (f : List ℕ) → length f ≡ 5 → get_or f 0 0 ∷ get_or f 1 0 ∷ get_or f 2 0 ∷ get_or f 3 0 ∷ get_or f 4 0 ∷ [] ≡ f
five-listed [] e = absurd (omega arith)
five-listed (a ∷ []) e = absurd (omega arith)
five-listed (a ∷ b ∷ []) e = absurd (omega arith)
five-listed (a ∷ b ∷ c ∷ []) e = absurd (omega arith)
five-listed (a ∷ b ∷ c ∷ d ∷ []) e = absurd (omega arith)
five-listed (a ∷ b ∷ c ∷ d ∷ u ∷ []) e = refl
five-listed (a ∷ b ∷ c ∷ d ∷ u ∷ v ∷ f) e = absurd (omega arith)

pub length-line_five : (f : List ℕ) → length f ≡ 5 → length (answer_line f) ≤ 62
length-line_five f e =
    subst (λ (g : List ℕ). length (answer_line g) ≤ 62) (five-listed f e)
    (length-answer_line (get_or f 0 0) (get_or f 1 0) (get_or f 2 0) (get_or f 3 0) (get_or f 4 0))

-- The whole text, without and with what is left.
module _ (a p s m u : ℕ) (w b : List ℕ) where
  pub answered-alone : shown a ≡ false → answered a p s m u w b ≡ answer_line (a ∷ p ∷ s ∷ m ∷ u ∷ [])
  unfolding answered
  answered-alone e = rw e (append-nil _)

  pub answered-shown : shown a ≡ true
      → answered a p s m u w b ≡ (answer_line (a ∷ p ∷ s ∷ m ∷ u ∷ []) ++ written (node_lines w m)) ++ written (binding_lines b variables)
  unfolding answered
  answered-shown e = rw e (sym (append_assoc (answer_line (a ∷ p ∷ s ∷ m ∷ u ∷ [])) (written (node_lines w m)) (written (binding_lines b variables))))

-- The whole text is at most 81,726 bytes, so that a buffer of 81,920 is never too short.
pub answer_fits : AnswerFits
unfolding answered
answer_fits a p s m u w b l = go (shown a)
  where
    go : (q : Bool) → length (answer_line (a ∷ p ∷ s ∷ m ∷ u ∷ []) ++ (if q then written (node_lines w m) ++ written (binding_lines b variables) else [])) ≤ 80958 + 24 * variables
    go true =
        omega (
          arith,
          length-append (answer_line (a ∷ p ∷ s ∷ m ∷ u ∷ [])) (written (node_lines w m) ++ written (binding_lines b variables)),
          length-append (written (node_lines w m)) (written (binding_lines b variables)),
          length-answer_line a p s m u,
          length-nodes w m,
          length-bindings b variables,
        )
    go false = omega (arith, length-append (answer_line (a ∷ p ∷ s ∷ m ∷ u ∷ [])) [], length-answer_line a p s m u)
