use mathlib.Core.Path.{◌≡◌, ap, sym, ◌∙◌, subst}
use mathlib.Core.Bool.{Bool, true, false}
use mathlib.Core.List.{List}
use mathlib.Core.Logic.{inr, ⊎_elim}
use Prim.Native.Nat.{ℕ, ◌+◌, ◌≤◌, ◌<◌}
use Rattle.std.specs.Prelude.{if◌then◌else◌}
use Rattle.words.proofs.Tests.{every-turn, every-stop, every-end}
use Rattle.checks.specs.Kinds.{ours}
use Rattle.checks.specs.Good.{kind_of, operand_by, placed_for, sorted_for, operand_placed_by, operand_sorted_by, operands_fault_by}
use Rattle.checks.specs.Numbers.{fault_of}
use Rattle.checks.proofs.entries.check_operands.Goals as goal
use Rattle.checks.proofs.entries.check_operands.Goals.{else-not-operand_sorted, then-not-operand_sorted}
use Rattle.checks.proofs.entries.check_operands.Invariants.{Kept}

module _ (p : ℕ → Bool) (n i : ℕ) (whole : Bool) where
  -- it fails at i
  kept-wrong : (f g : ℕ) → g ≡ 16 → Kept p n f i whole → i < n → p i ≡ false → Kept p n g (i + 1) whole
  kept-wrong f g h k l e =
      (inr h, rw h (⊎_elim (λ z. every-stop p i n whole (rw z at k.1) l e) (λ z. rw z at k.1) k.0))

  -- it holds at i
  kept-right : (f g : ℕ) → g ≡ f → Kept p n f i whole → i < n → p i ≡ true → Kept p n g (i + 1) whole
  kept-right f g h k l e =
      subst (λ (g : ℕ). Kept p n g (i + 1) whole) (sym h)
      (k.0, ⊎_elim (λ z. rw z (every-turn p i n whole (rw z at k.1) l e)) (λ z. rw z (rw z at k.1)) k.0)

  -- nothing is left
  kept-end : (f : ℕ) → Kept p n f i whole → n ≤ i → f ≡ (if whole then 0 else 16)
  kept-end f k l =
      ⊎_elim (λ z. z ∙ go (every-end p i n whole (rw z at k.1) l)) (λ z. z ∙ stop (rw z at k.1)) k.0
    where
      go : true ≡ whole → ◌≡◌ {A = ℕ} 0 (if whole then 0 else 16)
      go e = rw (← e)

      stop : false ≡ whole → ◌≡◌ {A = ℕ} 16 (if whole then 0 else 16)
      stop e = rw (← e)

-- the tests of an operand, by what was read before
placed-is : (t : List ℕ) (e k o i : ℕ) → k ≡ kind_of t e → o ≡ operand_by ours t e i → placed_for t e k o ≡ operand_placed_by ours t e i
unfolding operand_placed_by
placed-is t e k o i p q = rw (p, q)

sorted-is : (t : List ℕ) (e k o i : ℕ) → k ≡ kind_of t e → o ≡ operand_by ours t e i → sorted_for t k o ≡ operand_sorted_by ours t e i
unfolding operand_sorted_by
sorted-is t e k o i p q = rw (p, q)

pub returns-then-not-operand_placed : goal.returns-then-not-operand_placed
unfolding operands_fault_by
returns-then-not-operand_placed c =
    let pre = c.requires in
    rw (← every-stop _ _ _ _
    c.loop-i.invariant.0
    c.loop-i-test.true
    (sym (placed-is _ _ _ _ _ pre.0 c.operand-o.ensures) ∙ sym c.operand_placed.ensures ∙ c.if-not-operand_placed.true))

pub loop-i-preserved : goal.loop-i-preserved
loop-i-preserved c =
    let pre = c.requires in
    let sorted = sym (sorted-is _ _ _ _ _ pre.0 c.operand-o.ensures) ∙ sym c.operand_sorted.ensures in (
      every-turn _ _ _ _
          c.loop-i.invariant.0
          c.loop-i-test.true
          (sym (placed-is _ _ _ _ _ pre.0 c.operand-o.ensures) ∙ sym c.operand_placed.ensures ∙ c.if-not-operand_placed.false),
      elim c.if-not-operand_sorted.branch [ then-not-operand_sorted x ↦ kept-wrong _ _ _ _ _ _ (ap fault_of x.sorted-is) c.loop-i.invariant.1 c.loop-i-test.true (sorted ∙ x.if-not-operand_sorted.true) | else-not-operand_sorted x ↦ kept-right _ _ _ _ _ _ (ap fault_of x.sorted-is) c.loop-i.invariant.1 c.loop-i-test.true (sorted ∙ x.if-not-operand_sorted.false) ],
    )

pub returns : goal.returns
unfolding operands_fault_by
returns c =
    rw (← every-end _ _ _ _ c.loop-i.invariant.0 c.loop-i-test.false)
    (kept-end _ _ _ _ _ c.loop-i.invariant.1 c.loop-i-test.false)
