-- `resume::skipped` meets its contract. Assumes nothing.
use mathlib.Core.Path.{refl, ap}
use native.Mathlib.Omega.{arith}
use Rattle.turns.specs.declared.turn.Turn.TheVariants.{Next}
use Rattle.turns.proofs.Resumed.{lost-above, next-tried, none_left, some-kept}
use Rattle.turns.proofs.resume.skipped.Goals as goal
use Rattle.turns.proofs.resume.skipped.Goals.{then-h-gt-ONE_HAS-via-then-h-gt-ONE_HAS, then-h-gt-ONE_HAS-via-else-h-gt-ONE_HAS+then-s}

pub returns-then-h-gt-ONE_HAS : goal.returns-then-h-gt-ONE_HAS
returns-then-h-gt-ONE_HAS c f o n g b w =
    elim c.then-h-gt-ONE_HAS.branch [
      | then-h-gt-ONE_HAS-via-then-h-gt-ONE_HAS v ↦ lost-above _ f _ _ o n g b _ _ v.if-h-gt-ONE_HAS.true refl refl
      | then-h-gt-ONE_HAS-via-else-h-gt-ONE_HAS+then-s v ↦
          let few = v.if-h-gt-ONE_HAS.false in
          let beyond = v.if-s.true in
          none_left _ f _ _ o n g b _ c.requires.0 (omega (arith, few)) refl (omega (arith, beyond)) (λ e. beyond)
    ]

pub returns-then-s-2 : goal.returns-then-s-2
returns-then-s-2 c f o n g b w =
    let few = c.if-h-gt-ONE_HAS.false in
    next-tried _ f _ _ o n g b _ c.requires.0 (omega (arith, few)) (ap Next c.visit.ensures) c.if-s-2.true c.word.ensures

pub returns-then-h-eq-ONE_HAS : goal.returns-then-h-eq-ONE_HAS
returns-then-h-eq-ONE_HAS c f o n g b w =
    let inside = c.if-s.false in
    let over = c.if-s-2.false in
    some-kept _ f _ _ o n g b _ c.if-h-eq-ONE_HAS.true refl (omega (arith, inside)) (omega (arith, over))

pub returns : goal.returns
returns c f o n g b w =
    let few = c.if-h-gt-ONE_HAS.false in
    let over = c.if-s-2.false in
    none_left _ f _ _ o n g b _ c.requires.0 (omega (arith, few)) refl (omega (arith, over)) (λ e. absurd (c.if-h-eq-ONE_HAS.false e))
