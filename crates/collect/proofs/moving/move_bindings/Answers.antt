use Prim.Native.Nat.{ℕ, ◌+◌, ◌-◌}
use native.Mathlib.Omega.{arith}
use lib.ListN.{get_or}
use Rattle.collect.proofs.Rebinding.{rebinds-set, rebinds-zero, rebinds-all}
use Rattle.collect.proofs.moving.move_bindings.Goals as goal
use Rattle.collect.proofs.moving.move_bindings.Goals.{else-bindings-v-ne0, then-bindings-v-ne0}

pub bounds-work-bindings : goal.bounds-work-bindings
bounds-work-bindings c =
    let v : ℕ = c.loop-v.v in
    let w : ℕ = get_or c.loop-v.bindings v 0 in
    omega (arith, (c.requires v (w - 1) (omega (arith, c.loop-v.invariant.left v (omega arith), c.if-bindings-v-ne0.true))).0)

pub overflow_add-bindings : goal.overflow_add-bindings
overflow_add-bindings c =
    let v : ℕ = c.loop-v.v in
    let w : ℕ = get_or c.loop-v.bindings v 0 in
    omega (arith, (c.requires v (w - 1) (omega (arith, c.loop-v.invariant.left v (omega arith), c.if-bindings-v-ne0.true))).1)

pub loop-v-preserved : goal.loop-v-preserved
loop-v-preserved c =
    let a = c.args in
    let v : ℕ = c.loop-v.v in
    let b = c.loop-v.bindings in
    let r = c.loop-v.invariant in
    let f : ℕ → ℕ = λ k. get_or a.work.now k 0 in
    elim c.if-bindings-v-ne0.branch [
      | then-bindings-v-ne0 w ↦
          let k : ℕ = get_or b v 0 - 1 in
          rw w.bindings-is (rebinds-set f a.bindings.now v b r k (f k + 1) (omega (arith, r.left v (omega arith), w.if-bindings-v-ne0.true)) (omega arith) (omega (arith, r.long)))
      | else-bindings-v-ne0 w ↦
          rw w.bindings-is (rebinds-zero f a.bindings.now v b r (omega (arith, r.left v (omega arith), w.if-bindings-v-ne0.false)))
    ]

pub returns : goal.returns
returns c =
    let a = c.args in
    rebinds-all (λ (k : ℕ). get_or a.work.now k 0) a.bindings.now c.loop-v.v c.loop-v.bindings (omega arith) c.loop-v.invariant
