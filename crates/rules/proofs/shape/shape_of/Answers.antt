use Rattle.rules.proofs.Shaping.{left-bad, right-bad, shaping-begins, shaping-lost, shaping-on, shaping-end, condition-inside}
use Rattle.rules.proofs.Terms.{ok-found, err-found, ok-goodly, ok-inside, err-inside}
use Rattle.rules.specs.Shape.{Shape, shape_of}
use Rattle.rules.specs.Scan.{finished, stopped}
use Rattle.rules.specs.Condition.{found_of}
use Rattle.std.specs.Prelude.{Ok, Err}
use native.Mathlib.Omega.{arith}
use mathlib.Core.Path.{refl, sym, ap}
use Rattle.rules.proofs.shape.shape_of.Goals as goal

pub overflow_add-result : goal.overflow_add-result
overflow_add-result c = omega (arith, err-inside c.args.line.now 0 (omega arith) c.in-Err.good c.in-Err.ensures)

pub returns-in-Err-clause-told : goal.returns-in-Err-clause-told
returns-in-Err-clause-told c =
    let (a, z, k) = err-found c.args.line.now 0 c.in-Err.good c.in-Err.ensures in
    ap shape_of (sym (left-bad c.args.line.now (stopped a c.in-Err.good z) k refl))

pub overflow_add-result-in-Err-term_at : goal.overflow_add-result-in-Err-term_at
overflow_add-result-in-Err-term_at c =
    let g = ok-goodly c.args.line.now 0 (omega arith) c.in-Ok.term c.in-Ok.ensures in
    let b = err-inside c.args.line.now c.in-Ok.term.at g.inside c.in-Err-term_at.good c.in-Err-term_at.ensures in
    omega (arith, g.on, b)

pub overflow_add-result-in-Err-term_at-2 : goal.overflow_add-result-in-Err-term_at-2
overflow_add-result-in-Err-term_at-2 c =
    let g = ok-goodly c.args.line.now 0 (omega arith) c.in-Ok.term c.in-Ok.ensures in
    let b = err-inside c.args.line.now c.in-Ok.term.at g.inside c.in-Err-term_at.good c.in-Err-term_at.ensures in
    omega (arith, g.on, b)

pub returns-in-Err-term_at-clause-told : goal.returns-in-Err-term_at-clause-told
returns-in-Err-term_at-clause-told c =
    let t = c.in-Ok.term in
    let (a, z, k) = err-found c.args.line.now t.at c.in-Err-term_at.good c.in-Err-term_at.ensures in
    ap shape_of (sym (right-bad c.args.line.now (finished t.at t.fields t.size) (ok-found c.args.line.now 0 t c.in-Ok.ensures) refl
    (stopped a c.in-Err-term_at.good z) k refl))

pub overflow_add-fields : goal.overflow_add-fields
overflow_add-fields c =
    let g = ok-goodly c.args.line.now 0 (omega arith) c.in-Ok.term c.in-Ok.ensures in
    let b = ok-inside c.args.line.now c.in-Ok.term.at g.inside c.in-Ok-term_at.term c.in-Ok-term_at.ensures in
    omega (arith, g.on, b)

pub overflow_add-size : goal.overflow_add-size
overflow_add-size c =
    let g = ok-goodly c.args.line.now 0 (omega arith) c.in-Ok.term c.in-Ok.ensures in
    omega (arith, g.on, g.entries, g.inside)

pub overflow_add-size-2 : goal.overflow_add-size-2
overflow_add-size-2 c =
    let g = ok-goodly c.args.line.now 0 (omega arith) c.in-Ok.term c.in-Ok.ensures in
    let k = ok-goodly c.args.line.now c.in-Ok.term.at g.inside c.in-Ok-term_at.term c.in-Ok-term_at.ensures in
    omega (arith, g.on, g.entries, k.on, k.entries, k.inside)

pub loop-at-init : goal.loop-at-init
loop-at-init c =
    let t = c.in-Ok.term in
    let u = c.in-Ok-term_at.term in
    shaping-begins c.args.line.now (finished t.at t.fields t.size) (ok-found c.args.line.now 0 t c.in-Ok.ensures) refl
    (finished u.at u.fields u.size) (ok-found c.args.line.now t.at u c.in-Ok-term_at.ensures) refl

pub overflow_add-fields-in-Ok-condition_at : goal.overflow_add-fields-in-Ok-condition_at
overflow_add-fields-in-Ok-condition_at c =
    let b = condition-inside c.args.line.now c.loop-at.at c.loop-at-test.true _ c.in-Ok-condition_at.ensures in
    omega (arith, c.loop-at.invariant.few, b)

pub overflow_add-size-in-Ok-condition_at : goal.overflow_add-size-in-Ok-condition_at
overflow_add-size-in-Ok-condition_at c =
    let n = shaping-on c.loop-at.invariant (found_of (Ok c.in-Ok-condition_at.c)) c.in-Ok-condition_at.ensures refl in
    omega (arith, n.0.small, n.0.inside)

pub overflow_add-size-in-Ok-condition_at-2 : goal.overflow_add-size-in-Ok-condition_at-2
overflow_add-size-in-Ok-condition_at-2 c =
    let n = shaping-on c.loop-at.invariant (found_of (Ok c.in-Ok-condition_at.c)) c.in-Ok-condition_at.ensures refl in
    omega (arith, n.0.small, n.0.inside)

pub loop-at-smaller : goal.loop-at-smaller
loop-at-smaller c =
    let n = shaping-on c.loop-at.invariant (found_of (Ok c.in-Ok-condition_at.c)) c.in-Ok-condition_at.ensures refl in
    omega (arith, n.1, n.0.inside)

pub loop-at-preserved : goal.loop-at-preserved
loop-at-preserved c =
    (shaping-on c.loop-at.invariant (found_of (Ok c.in-Ok-condition_at.c)) c.in-Ok-condition_at.ensures refl).0

pub overflow_add-result-in-Err-condition_at : goal.overflow_add-result-in-Err-condition_at
overflow_add-result-in-Err-condition_at c =
    let b = condition-inside c.args.line.now c.loop-at.at c.loop-at-test.true _ c.in-Err-condition_at.ensures in
    omega (arith, c.loop-at.invariant.few, b)

pub overflow_add-result-in-Err-condition_at-2 : goal.overflow_add-result-in-Err-condition_at-2
overflow_add-result-in-Err-condition_at-2 c =
    let b = condition-inside c.args.line.now c.loop-at.at c.loop-at-test.true _ c.in-Err-condition_at.ensures in
    omega (arith, c.loop-at.invariant.few, b)

pub returns-in-Err-condition_at-clause-told : goal.returns-in-Err-condition_at-clause-told
returns-in-Err-condition_at-clause-told c =
    ap shape_of (sym (shaping-lost c.loop-at.invariant (found_of (Err c.in-Err-condition_at.good)) c.in-Err-condition_at.ensures refl))

pub invariant_of-result : goal.invariant_of-result
invariant_of-result c =
    let e = shaping-end c.loop-at.invariant c.loop-at-test.false in
    record {
      good = sym (ap (λ (s : Shape). s.good) e);
      right_there = ap (λ (s : Shape). s.right) e;
      conditions_there = ap (λ (s : Shape). s.conditions) e;
    }

pub returns-clause-told : goal.returns-clause-told
returns-clause-told c = shaping-end c.loop-at.invariant c.loop-at-test.false
