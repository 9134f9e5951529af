use mathlib.Core.Path.{ap}
use Prim.Native.Nat.{ℕ}
use native.Mathlib.Omega.{arith}
use lib.ListN.{get_or}
use Rattle.collect.proofs.Renumbering.{row-begun, row_more, row-whole}
use Rattle.collect.proofs.moving.renumbered_row.Goals as goal

pub loop-i-init : goal.loop-i-init
loop-i-init c =
    let a = c.args in row-begun a.store.now (λ (c : ℕ). get_or a.work.now c 0) a.k _ _ c.word.ensures c.word-n.ensures

pub bounds-work-held : goal.bounds-work-held
bounds-work-held c = omega (arith, c.requires.1 c.loop-i.i (omega arith))

pub loop-i-preserved : goal.loop-i-preserved
loop-i-preserved c =
    let a = c.args in
    let f : ℕ → ℕ = λ c. get_or a.work.now c 0 in
    row_more a.store.now f a.k c.loop-i.i _ c.loop-i.row c.loop-i.invariant (omega arith) (ap f c.held.ensures)

pub returns : goal.returns
returns c =
    let a = c.args in
    row-whole a.store.now (λ (c : ℕ). get_or a.work.now c 0) a.k c.requires.0 c.loop-i.i c.loop-i.row c.loop-i.invariant (omega arith)
