-- `translate::link::link` meets its contract, entry by entry. Assumes nothing.
use mathlib.Core.Path.{◌≡◌, refl, ap, ◌∙◌}
use Prim.Native.Nat.{ℕ, ◌+◌, ◌-◌, ◌*◌, ◌≤◌}
use native.Mathlib.Omega.{arith}
use lib.ListN.{length}
use Rattle.words.proofs.Rows.{length-put_row}
use Rattle.translate.specs.Links.{steps_table, steps_ends}
use Rattle.translate.specs.declared.link.Linked.{Linked}
use Rattle.translate.proofs.Links.{link-step, steps-none, row-eight}
use Rattle.translate.proofs.link.link.Goals as goal

pub loop-e-init : goal.loop-e-init
loop-e-init c =
    let h = steps-none c.args.table.now c.args.ends.now c.args.stop (c.args.stop - c.args.stop) (omega arith) in
    (omega arith, refl, h.0, h.1)

pub put_row-requires : goal.put_row-requires
put_row-requires c =
    let h : 8 * (c.loop-e.e - 1) + 8 ≤ length c.loop-e.table = omega arith in
    h

pub loop-e-preserved : goal.loop-e-preserved
loop-e-preserved c =
    let e = c.loop-e.e in
    let inv = c.loop-e.invariant in
    let h = link-step c.args.table.now c.args.ends.now c.args.stop e (omega arith) (omega arith) inv.2 inv.3 c.row_linked-got.ensures
    c.put_row.ensures
    in
    let i : 8 * (e - 1) + 8 ≤ length c.loop-e.table = omega arith in
    let n : length c.row_linked-got.result.row ≡ 8 = ap (λ (r : Linked). length r.row) c.row_linked-got.ensures ∙ row-eight c.loop-e.table c.loop-e.ends (e - 1) in
    (omega arith, ap length c.put_row.ensures ∙ length-put_row c.loop-e.table (e - 1) c.row_linked-got.result.row i n ∙ inv.1, h.0, h.1)

pub returns : goal.returns
returns c =
    let z : c.loop-e.e ≡ c.args.first = omega arith in (
      c.loop-e.invariant.2 ∙ ap (λ (x : ℕ). steps_table c.args.table.now c.args.ends.now c.args.stop (c.args.stop - x)) z,
      c.loop-e.invariant.3 ∙ ap (λ (x : ℕ). steps_ends c.args.table.now c.args.ends.now c.args.stop (c.args.stop - x)) z,
    )
