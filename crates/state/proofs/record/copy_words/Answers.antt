use mathlib.Core.Path.{◌≡◌, refl, ap, sym, ◌∙◌, subst}
use mathlib.Core.List.{List}
use Prim.Native.Nat.{ℕ, zero, suc, ◌+◌, ◌-◌, ◌/◌, ◌%◌, ◌^◌, ◌≤◌, ◌<◌}
use borrow.Author.Tests.{eq-eqb, ne_eqb}
use native.Mathlib.Omega.{arith}
use lib.Dec.{eqb}
use lib.ListN.{length, get_or, set}
use Rattle.std.specs.Prelude.{if◌then◌else◌}
use Rattle.checks.specs.Kinds.{variables}
use Rattle.state.specs.Record.{copied_from, copied}
use Rattle.state.proofs.Holding.{length-put, copied-nothing}
use Rattle.state.proofs.record.copy_words.Goals as goal
use Rattle.state.proofs.record.copy_words.Goals.{Joined-rest-eq1, Then-rest-eq1}
use Rattle.state.proofs.record.copy_words.Goals.{else-rest-eq1, then-rest-eq1}

-- a bit is left: so is a variable, and half of what is left fits the variables after it
left_below : (v rest : ℕ) → v ≤ variables → rest < 2 ^ (variables - v) → (rest ≡ 0 → ⊥) →
    (v < variables) × (rest / 2 < 2 ^ (variables - (v + 1)))
left_below v rest l h n = go (variables - v) refl h
  where
    go : (k : ℕ) → variables - v ≡ k → rest < 2 ^ k → (v < variables) × (rest / 2 < 2 ^ (variables - (v + 1)))
    go zero e h = absurd (n (omega arith))
    go (suc k) e h =
        let m : variables - (v + 1) ≡ k = omega arith in
        (omega arith, rw m (omega arith))

-- one turn
turn : (v rest : ℕ) (xs : List ℕ) (a : ℕ) (ys ys' : List ℕ) (b : ℕ) → v < variables →
    ys' ≡ (if eqb (rest % 2) 1 then set ys (b + v) (get_or xs (a + v) 0) else ys)
    → copied_from (variables - (v + 1)) (v + 1) (rest / 2) xs a ys' b ≡ copied_from (variables - v) v rest xs a ys b
unfolding copied_from
turn v rest xs a ys ys' b l e =
    let n : variables - v ≡ suc (variables - (v + 1)) = omega arith in
    rw (e, n)

pub loop-rest-init : goal.loop-rest-init
loop-rest-init c = (omega arith, omega arith, refl, refl)

pub overflow_add-to : goal.overflow_add-to
overflow_add-to c =
    let inside : c.loop-rest.v < variables =
    let i = c.loop-rest.invariant in (left_below _ _ i.0 i.1 c.loop-rest-test.true).0 in
    let l = inside in omega (arith, c.requires.1)

pub offset_bounds-from-start : goal.offset_bounds-from-start
offset_bounds-from-start c =
    let inside : c.loop-rest.v < variables =
    let i = c.loop-rest.invariant in (left_below _ _ i.0 i.1 c.loop-rest-test.true).0 in
    let l = inside in omega (arith, c.requires.1)

pub bounds-from-start : goal.bounds-from-start
bounds-from-start c =
    let inside : c.loop-rest.v < variables =
    let i = c.loop-rest.invariant in (left_below _ _ i.0 i.1 c.loop-rest-test.true).0 in
    let l = inside in omega (arith, c.requires.1)

pub overflow_add-to-then-rest-eq1 : goal.overflow_add-to-then-rest-eq1
overflow_add-to-then-rest-eq1 c =
    let inside : c.loop-rest.v < variables =
    let i = c.loop-rest.invariant in (left_below _ _ i.0 i.1 c.loop-rest-test.true).0 in
    let l = inside in omega (arith, c.requires.0)

pub offset_bounds-to-at : goal.offset_bounds-to-at
offset_bounds-to-at c =
    let inside : c.loop-rest.v < variables =
    let i = c.loop-rest.invariant in (left_below _ _ i.0 i.1 c.loop-rest-test.true).0 in
    let l = inside in omega (arith, c.requires.0)

pub bounds-to-at : goal.bounds-to-at
bounds-to-at c =
    let inside : c.loop-rest.v < variables =
    let i = c.loop-rest.invariant in (left_below _ _ i.0 i.1 c.loop-rest-test.true).0 in
    let l = inside in omega (
      arith,
      c.requires.0,
      c.loop-rest.invariant.2,
    )

pub overflow_add-v : goal.overflow_add-v
overflow_add-v c = let l = c.loop-rest.invariant.0 in omega arith

pub loop-rest-smaller : goal.loop-rest-smaller
loop-rest-smaller c = omega arith

-- what a turn leaves
left : (c : Joined-rest-eq1) → let l = c.loop-rest in let a = c.args in c.if-rest-eq1.to
    ≡ (if eqb (l.rest % 2) 1 then set l.to (a.at + l.v) (get_or a.from.now (a.start + l.v) 0) else l.to)
left c = elim c.if-rest-eq1.branch [ then-rest-eq1 w ↦ rw (eq-eqb _ _ w.if-rest-eq1.true) w.to-is | else-rest-eq1 w ↦ rw (ne_eqb _ _ w.if-rest-eq1.false) w.to-is ]

pub loop-rest-preserved : goal.loop-rest-preserved
loop-rest-preserved c =
    let i = c.loop-rest.invariant in
    let a = c.args in
    let l = left_below _ _ i.0 i.1 c.loop-rest-test.true in (
      omega (arith, l.0),
      l.1,
      ap (λ (ys : List ℕ). length ys) (left c) ∙ length-put a.from.now a.start a.at
          (eqb (c.loop-rest.rest % 2) 1) c.loop-rest.to c.loop-rest.v ∙ i.2,
      turn c.loop-rest.v c.loop-rest.rest a.from.now a.start c.loop-rest.to
          c.if-rest-eq1.to a.at l.0 (left c) ∙ i.3,
    )

pub shape_of-to : goal.shape_of-to
shape_of-to c = c.loop-rest.invariant.2

pub returns : goal.returns
returns c =
    let l = c.loop-rest in
    let a = c.args in
    let e : l.rest ≡ 0 = omega arith in
    sym (copied-nothing a.from.now a.start a.at (variables - l.v) l.v l.to)
    ∙ subst (λ (x : ℕ). copied_from (variables - l.v) l.v x a.from.now a.start l.to a.at ≡ copied variables
    a.mask a.from.now a.start a.to.now a.at) e l.invariant.3
