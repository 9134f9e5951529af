use Rattle.std.proofs.Common.{sym, ◌∙◌, arith}
use Rattle.free.proofs.Masks.{joined-turn, joined_end}
use Rattle.free.proofs.passes.joined.Goals as goal

pub loop-i-preserved : goal.loop-i-preserved
loop-i-preserved c =
    let a = c.args in
    let l = c.loop-i in
    rw (c.mask_at-all.ensures, c.held.ensures) (sym (joined-turn a.table.now a.masks.now a.e c.requires l.all l.i (omega arith)) ∙ l.invariant)

pub returns : goal.returns
returns c =
    let a = c.args in
    let l = c.loop-i in
    sym (joined_end a.table.now a.masks.now a.e c.requires l.all l.i (omega arith)) ∙ l.invariant
