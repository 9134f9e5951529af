use mathlib.Core.Path.{◌∙◌}
use Prim.Native.Nat.{◌-◌}
use native.Mathlib.Omega.{arith}
use Rattle.collect.proofs.Progress.{packs-none, packs-moved, packs-passed, packs-all, length-store, count_at, child-at, room_at, number_at}
use Rattle.collect.proofs.moving.move_kept.Goals as goal
use Rattle.collect.proofs.moving.move_kept.Goals.{else-work-k-ne0, then-work-k-ne0}

pub loop-k-init : goal.loop-k-init
loop-k-init c = let a = c.args in packs-none a.store.now a.work.now a.mark

pub bounds-work-k : goal.bounds-work-k
bounds-work-k c =
    omega (arith, c.requires.long, c.loop-k.invariant.long)

pub renumbered_row-row-requires : goal.renumbered_row-row-requires
renumbered_row-row-requires c =
    let a = c.args in
    let q = c.loop-k.invariant in (
      count_at a.store.now a.work.now a.mark c.requires _ _ _ _ q (omega arith),
      child-at a.store.now a.work.now a.mark c.requires _ _ _ _ q (omega arith),
    )

pub put_row-requires : goal.put_row-requires
put_row-requires c =
    let a = c.args in
    room_at a.store.now a.work.now a.mark c.requires _ _ _ _ c.loop-k.invariant (omega arith)

pub bounds-work-k-then-work-k-ne0 : goal.bounds-work-k-then-work-k-ne0
bounds-work-k-then-work-k-ne0 c =
    omega (arith, c.requires.long, c.loop-k.invariant.long)

pub overflow_add-n : goal.overflow_add-n
overflow_add-n c =
    let a = c.args in
    omega (arith, number_at a.store.now a.work.now a.mark c.requires _ _ _ _ c.loop-k.invariant (omega arith), c.loop-k.invariant.until)

pub loop-k-preserved : goal.loop-k-preserved
loop-k-preserved c =
    let a = c.args in
    let q = c.loop-k.invariant in
    elim c.if-work-k-ne0.branch [
      | then-work-k-ne0 w ↦ rw (w.work-is, w.n-is)
          (packs-moved a.store.now a.work.now a.mark c.requires _ _ _ _ q (omega arith) c.if-work-k-ne0.store w.renumbered_row-row.result w.if-work-k-ne0.true w.renumbered_row-row.ensures (w.store-is ∙ w.put_row.ensures))
      | else-work-k-ne0 w ↦ rw (w.store-is, w.work-is, w.n-is) (packs-passed a.store.now a.work.now a.mark c.requires _ _ _ _ q (omega arith) w.if-work-k-ne0.false)
    ]

pub shape_of-store : goal.shape_of-store
shape_of-store c =
    let a = c.args in
    omega (arith, length-store a.store.now a.work.now a.mark c.requires _ _ _ _ c.loop-k.invariant)

pub shape_of-work : goal.shape_of-work
shape_of-work c = omega (arith, c.loop-k.invariant.long)

pub returns : goal.returns
returns c =
    let a = c.args in
    packs-all a.store.now a.work.now a.mark c.requires _ _ _ _ c.loop-k.invariant c.loop-k-test.false
