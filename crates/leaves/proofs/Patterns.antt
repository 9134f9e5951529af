-- The patterns of a checked table: a pattern that is no variable is a PCON, its operands are patterns of the table, and
-- constructor and count agree where the engine finds that they do.
use mathlib.Core.Path.{◌≡◌, refl}
use mathlib.Core.Bool.{Bool, true, false, ◌&&◌}
use mathlib.Core.List.{List}
use mathlib.Core.Logic.{⊎_elim}
use Prim.Native.Nat.{ℕ, ◌+◌, ◌<◌, min}
use native.Mathlib.Omega.{arith}
use lib.Dec.{eqb}
use borrow.Author.Tests.{eqb-true, eq-eqb, ne_eqb}
use Rattle.words.specs.Words.{word_at}
use Rattle.checks.specs.Kinds.{ours}
use Rattle.checks.specs.Good.{kind_of, operand_count, argument_of}
use Rattle.meaning.specs.Table.{operands}
use Rattle.meaning.specs.Rules.{agree}
use Rattle.meaning.specs.Store.{children}
use Rattle.state.specs.Visits.{count_of, agreeing, Pattern, Entries}
use Rattle.leaves.proofs.Children.{part_length}

pub no-variable : (t : List ℕ) (p k : ℕ) → Pattern t p → k ≡ kind_of t p → (k ≡ 18 → ⊥) → kind_of t p ≡ 19
no-variable t p k h e n = ⊎_elim (λ z. absurd (n (omega arith))) (λ z. z) h

module _ (t : List ℕ) (n : Entries t) where
  -- a word from 2 on, where the entry is no SCOPE, and a SCOPE's operand are entries
  pub operand_below : (e i : ℕ) → e < 4096 → (kind_of t e ≡ 16 → ⊥) → i < 6 → word_at t e (2 + i) < 4096
  operand_below e i h other l = n.operand e (2 + i) h (rw (ne_eqb (kind_of t e) 16 other) (omega arith)) (omega arith)

  pub scope-operand-below : (e : ℕ) → e < 4096 → kind_of t e ≡ 16 → word_at t e (1 + ours) < 4096
  scope-operand-below e h k = n.operand e (1 + ours) h (rw (eq-eqb (kind_of t e) 16 k) (omega arith)) (omega arith)

  pub operand-pattern : (p i q : ℕ) → p < 4096 → kind_of t p ≡ 19 → i < operand_count t p → q ≡ word_at t p (2 + i) → (q < 4096) × Pattern t q
  operand-pattern p i q h k l e = rw e (operand_below p i h (λ z. omega (arith, k, z)) (omega (arith, n.few p h)), n.parts p i h k l)

  -- the rules' test is the engine's
  pub agree-is : (w : List ℕ) (e k : ℕ) → e < 4096 → agree (argument_of t e) (operands t e) (word_at w k 0) (children w k) ≡ agreeing t w e k
  unfolding agree agreeing
  agree-is w e k h =
      let c : min (operand_count t e) 6 ≡ operand_count t e = omega (arith, n.few e h) in
      rw (part_length t e (operand_count t e), c, part_length w k (word_at w k 1))

-- where they agree, the counts are the same
pub agreed-count : (t w : List ℕ) (e k : ℕ) → agreeing t w e k ≡ true → operand_count t e ≡ count_of w k
unfolding agreeing
agreed-count t w e k h = go (eqb (argument_of t e) (word_at w k 0)) (eqb (operand_count t e) (count_of w k)) refl h
  where
    go : (a b : Bool) → eqb (operand_count t e) (count_of w k) ≡ b → a && b ≡ true → operand_count t e ≡ count_of w k
    go true true f h = eqb-true (operand_count t e) (count_of w k) f
    go true false f h = absurd (let z : ◌≡◌ {A = Bool} false true = h in let y : ◌≡◌ {A = ℕ} 0 1 = cc in omega arith)
    go false b f h = absurd (let y : ◌≡◌ {A = ℕ} 0 1 = cc in omega arith)
