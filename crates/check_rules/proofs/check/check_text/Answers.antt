use mathlib.Core.Bool.{Bool}
use mathlib.Core.List.{List}
use mathlib.Core.Path.{refl, sym, ◌∙◌, ap}
use Prim.Native.Nat.{ℕ, ◌-◌}
use native.Mathlib.Omega.{arith}
use lib.ListN.{take, drop}
use Rattle.rules.specs.Text.{rule_of}
use Rattle.check_rules.specs.Line.{Line, callable, line_of}
use Rattle.check_rules.specs.Check.{told}
use Rattle.check_rules.proofs.Checking.{checks-begin, bounds-within, checks-unfed, checks-refused, checks-full, checks-on, checks-further, checks-end}
use Rattle.check_rules.proofs.Checking.{shape-field, refused-told, refused-some}
use Rattle.check_rules.proofs.check.check_text.Goals as goal

pub loop-at-init : goal.loop-at-init
loop-at-init c = (checks-begin _ _ _ _ c.requires.1, refl)

pub slice_bounds-line-count : goal.slice_bounds-line-count
slice_bounds-line-count c =
    let w = bounds-within c.args.text.now c.loop-at.at c.loop-at-test.true c.line_from-b.result c.line_from-b.ensures in
    omega (arith, w.0)

pub slice_bounds-line-start : goal.slice_bounds-line-start
slice_bounds-line-start c =
    let w = bounds-within c.args.text.now c.loop-at.at c.loop-at-test.true c.line_from-b.result c.line_from-b.ensures in
    omega (arith, w.0, w.1)

pub slice_bounds-line-end : goal.slice_bounds-line-end
slice_bounds-line-end c =
    let w = bounds-within c.args.text.now c.loop-at.at c.loop-at-test.true c.line_from-b.result c.line_from-b.ensures in
    omega (arith, w.0, w.1)

pub returns-then-b : goal.returns-then-b
returns-then-b c =
    let f : ℕ → Bool = callable c.args.table.now c.args.masks.now c.args.used in
    let l : List ℕ = take (c.line_from-b.result.end - c.loop-at.at) (drop c.loop-at.at c.args.text.now) in
    ap (λ (x : ℕ). told c.args.used 18 c.loop-at.n x) (c.first_bad_field.ensures ∙ shape-field f (rule_of l))
    ∙ checks-unfed c.loop-at.invariant.0 c.loop-at-test.true c.line_from-b.result c.line_from-b.ensures (line_of f (rule_of l)) refl c.if-b.true

pub returns-in-Err : goal.returns-in-Err
returns-in-Err c =
    let f : ℕ → Bool = callable c.args.table.now c.args.masks.now c.args.used in
    let l : List ℕ = take (c.line_from-b.result.end - c.loop-at.at) (drop c.loop-at.at c.args.text.now) in
    let x : Line = line_of f (rule_of l) in
    refused-told c.args.used c.loop-at.n x c.in-Err.unfit.fault c.in-Err.ensures.told
    ∙ checks-refused c.loop-at.invariant.0 c.loop-at-test.true c.line_from-b.result c.line_from-b.ensures x refl c.if-b.false
    (refused-some x c.in-Err.unfit.fault c.in-Err.ensures.told)

pub returns-then-room-e : goal.returns-then-room-e
returns-then-room-e c =
    let f : ℕ → Bool = callable c.args.table.now c.args.masks.now c.args.used in
    let l : List ℕ = take (c.line_from-b.result.end - c.loop-at.at) (drop c.loop-at.at c.args.text.now) in
    checks-full c.loop-at.invariant.0 c.loop-at-test.true c.line_from-b.result c.line_from-b.ensures (line_of f (rule_of l)) refl c.if-b.false
    c.in-Ok.ensures.told.0 (omega (arith, c.if-room-e.true, c.loop-at.invariant.1, c.in-Ok.ensures.told.1))

pub loop-at-smaller : goal.loop-at-smaller
loop-at-smaller c =
    let f : ℕ → Bool = callable c.args.table.now c.args.masks.now c.args.used in
    let l : List ℕ = take (c.line_from-b.result.end - c.loop-at.at) (drop c.loop-at.at c.args.text.now) in
    let x : Line = line_of f (rule_of l) in
    omega (
      arith,
      checks-further c.loop-at.invariant.0 c.loop-at-test.true c.line_from-b.result c.line_from-b.ensures x refl c.if-b.false,
      (checks-on c.loop-at.invariant.0 c.loop-at-test.true c.line_from-b.result c.line_from-b.ensures x refl c.if-b.false c.in-Ok.ensures.told.0
          (omega (arith, c.if-room-e.false, c.loop-at.invariant.0.most, c.loop-at.invariant.1, c.in-Ok.ensures.told.1))).inside,
    )

pub loop-at-preserved : goal.loop-at-preserved
loop-at-preserved c =
    let f : ℕ → Bool = callable c.args.table.now c.args.masks.now c.args.used in
    let l : List ℕ = take (c.line_from-b.result.end - c.loop-at.at) (drop c.loop-at.at c.args.text.now) in
    let x : Line = line_of f (rule_of l) in (
      rw (sym c.in-Ok.ensures.told.1)
          (checks-on c.loop-at.invariant.0 c.loop-at-test.true c.line_from-b.result c.line_from-b.ensures x refl c.if-b.false c.in-Ok.ensures.told.0
          (omega (arith, c.if-room-e.false, c.loop-at.invariant.0.most, c.loop-at.invariant.1, c.in-Ok.ensures.told.1))),
      c.loop-at.invariant.1,
    )

pub returns : goal.returns
returns c = checks-end c.loop-at.invariant.0 c.loop-at-test.false
