-- `text::field::next_at` meets its contract: the place that `position` finds is the length of what stands before it. Assumes nothing.
use Rattle.std.proofs.Common.{arith, tests, rules, ◌≡◌, ℕ, ◌≤◌, Bool, true, false, List, drop, length, cond, Some, None, refl, sym, ◌∙◌, length-drop}
use lib.Dec.{eqb, ltb}
use borrow.Author.Tests.{ltb-false}
use Rattle.std.specs.List.{position_or_len}
use Rattle.std.proofs.lemmas.Grind.{common_steps}
use Rattle.std.proofs.lemmas.Iterator.{YieldsList-from_slice}
use Rattle.std.proofs.lemmas.Iterator.Search.{position_from_yields_List}
use Rattle.text.proofs.Parts.{length-up_to, length-up_to-position}
use Rattle.text.proofs.field.next_at.Goals as goal

-- A place below a length, or none: which of the two it is.
some-below : (n m k : ℕ) → Some k ≡ cond (ltb n m) (Some n) None → k ≡ n
some-below n m k = go (ltb n m)
  where
    go : (q : Bool) → Some k ≡ cond q (Some n) None → k ≡ n
    go true e = cc
    go false e = cc

none-below : (n m : ℕ) → None ≡ cond (ltb n m) (Some n) None → m ≤ n
none-below n m e = go (ltb n m) refl e
  where
    go : (q : Bool) → ltb n m ≡ q → None ≡ cond q (Some n) None → m ≤ n
    go true z e = cc
    go false z e = ltb-false n m z

pub returns-in-Some : goal.returns-in-Some
returns-in-Some c =
    let t : List ℕ = drop c.args.from c.args.s.now in
    let h = position_from_yields_List (λ (b : ℕ). eqb b c.args.c) _ _ c.position.result c.position.ensures.ran
    (YieldsList-from_slice (drop c.args.from c.args.s.now) (grind (arith, common_steps))) (λ x b q e. search (rules, tests)) in
    omega (arith, some-below (position_or_len (λ (b : ℕ). eqb b c.args.c) t) (length t) c.in-Some.k (sym c.in-Some.is ∙ h), length-up_to-position c.args.c t)

pub returns-in-None : goal.returns-in-None
returns-in-None c =
    let t : List ℕ = drop c.args.from c.args.s.now in
    let h = position_from_yields_List (λ (b : ℕ). eqb b c.args.c) _ _ c.position.result c.position.ensures.ran
    (YieldsList-from_slice (drop c.args.from c.args.s.now) (grind (arith, common_steps))) (λ x b q e. search (rules, tests)) in
    omega (
      arith,
      none-below (position_or_len (λ (b : ℕ). eqb b c.args.c) t) (length t) (sym c.in-None.is ∙ h),
      length-up_to-position c.args.c t,
      length-up_to c.args.c t,
      length-drop c.args.from c.args.s.now,
    )
