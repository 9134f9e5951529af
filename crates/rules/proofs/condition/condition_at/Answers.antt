-- `rules::condition::condition_at` meets its contract, by its number and its two terms. Assumes nothing.
use Rattle.rules.proofs.Conditions.{condition-none, condition-start, condition-outcome, condition-found}
use Rattle.rules.proofs.Terms.{ok-found, err-found, ok-goodly, ok-inside, err-inside}
use Rattle.rules.proofs.Scanning.{end-within}
use Rattle.rules.specs.Scan.{finished, stopped}
use native.Mathlib.Omega.{arith}
use Prim.Native.Nat.{◌+◌}
use mathlib.Core.Path.{refl}
use Rattle.rules.proofs.condition.condition_at.Goals as goal

pub slice_bounds-number-end : goal.slice_bounds-number-end
slice_bounds-number-end c =
    let w = end-within c.args.line.now c.args.from c.next_at-end.result c.requires c.next_at-end.ensures in
    omega (arith, w.0, w.1)

pub returns-in_default : goal.returns-in_default
returns-in_default c =
    condition-none c.args.line.now c.args.from c.next_at-end.result c.requires c.next_at-end.ensures _ refl c.in_default.ensures

pub overflow_add-end : goal.overflow_add-end
overflow_add-end c =
    let w = end-within c.args.line.now c.args.from c.next_at-end.result c.requires c.next_at-end.ensures in
    omega (arith, w.1)

pub overflow_add-result : goal.overflow_add-result
overflow_add-result c =
    let w = end-within c.args.line.now c.args.from c.next_at-end.result c.requires c.next_at-end.ensures in
    let s = err-inside c.args.line.now (c.next_at-end.result + 1) (omega (arith, w.1)) c.in-Err.good c.in-Err.ensures in
    omega (arith, s, w.1)

pub returns-in-Err : goal.returns-in-Err
returns-in-Err c =
    let (a, z, k) = err-found c.args.line.now (c.next_at-end.result + 1) c.in-Err.good c.in-Err.ensures in
    condition-start c.args.line.now c.args.from c.next_at-end.result c.requires c.next_at-end.ensures
    c.in-Some.callee c.in-Some.ensures (stopped a c.in-Err.good z) k _ refl refl

pub overflow_add-result-in-Err-term_at : goal.overflow_add-result-in-Err-term_at
overflow_add-result-in-Err-term_at c =
    let w = end-within c.args.line.now c.args.from c.next_at-end.result c.requires c.next_at-end.ensures in
    let s = ok-inside c.args.line.now (c.next_at-end.result + 1) (omega (arith, w.1)) c.in-Ok.term c.in-Ok.ensures in
    omega (arith, s, w.1)

pub overflow_add-result-in-Err-term_at-2 : goal.overflow_add-result-in-Err-term_at-2
overflow_add-result-in-Err-term_at-2 c =
    let w = end-within c.args.line.now c.args.from c.next_at-end.result c.requires c.next_at-end.ensures in
    let g = ok-goodly c.args.line.now (c.next_at-end.result + 1) (omega (arith, w.1)) c.in-Ok.term c.in-Ok.ensures in
    let o = err-inside c.args.line.now c.in-Ok.term.at g.inside c.in-Err-term_at.good c.in-Err-term_at.ensures in
    omega (arith, g.on, o, w.1)

pub returns-in-Err-term_at : goal.returns-in-Err-term_at
returns-in-Err-term_at c =
    let t = c.in-Ok.term in
    let (a, z, k) = err-found c.args.line.now t.at c.in-Err-term_at.good c.in-Err-term_at.ensures in
    condition-outcome c.args.line.now c.args.from c.next_at-end.result c.requires c.next_at-end.ensures
    c.in-Some.callee c.in-Some.ensures (finished t.at t.fields t.size)
    (ok-found c.args.line.now (c.next_at-end.result + 1) t c.in-Ok.ensures) refl
    (stopped a c.in-Err-term_at.good z) k _ refl refl

pub overflow_add-result-3 : goal.overflow_add-result-3
overflow_add-result-3 c =
    let w = end-within c.args.line.now c.args.from c.next_at-end.result c.requires c.next_at-end.ensures in
    let s = ok-inside c.args.line.now (c.next_at-end.result + 1) (omega (arith, w.1)) c.in-Ok.term c.in-Ok.ensures in
    omega (arith, s, w.1)

pub overflow_add-result-4 : goal.overflow_add-result-4
overflow_add-result-4 c =
    let w = end-within c.args.line.now c.args.from c.next_at-end.result c.requires c.next_at-end.ensures in
    let g = ok-goodly c.args.line.now (c.next_at-end.result + 1) (omega (arith, w.1)) c.in-Ok.term c.in-Ok.ensures in
    let o = ok-inside c.args.line.now c.in-Ok.term.at g.inside c.in-Ok-term_at.term c.in-Ok-term_at.ensures in
    omega (arith, g.on, o, w.1)

pub overflow_add-result-5 : goal.overflow_add-result-5
overflow_add-result-5 c =
    let w = end-within c.args.line.now c.args.from c.next_at-end.result c.requires c.next_at-end.ensures in
    let g = ok-goodly c.args.line.now (c.next_at-end.result + 1) (omega (arith, w.1)) c.in-Ok.term c.in-Ok.ensures in
    let h = ok-goodly c.args.line.now c.in-Ok.term.at g.inside c.in-Ok-term_at.term c.in-Ok-term_at.ensures in
    omega (arith, g.on, g.entries, h.on, h.entries, h.inside, w.1)

pub returns : goal.returns
returns c =
    let t = c.in-Ok.term in
    let u = c.in-Ok-term_at.term in
    condition-found c.args.line.now c.args.from c.next_at-end.result c.requires c.next_at-end.ensures
    c.in-Some.callee c.in-Some.ensures (finished t.at t.fields t.size)
    (ok-found c.args.line.now (c.next_at-end.result + 1) t c.in-Ok.ensures) refl
    (finished u.at u.fields u.size) (ok-found c.args.line.now t.at u c.in-Ok-term_at.ensures) _ refl refl
