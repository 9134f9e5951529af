-- `check_rules::answer::fill_masks` meets its contract: settled masks have just the free variables. Assumes nothing.
use Rattle.check_rules.proofs.Answering.{used-sizes, used-good, used-words, masks-of}
use Rattle.free.proofs.Smallest.{zeros-sound}
use lib.ListN.{length}
use native.Mathlib.Omega.{arith}
use mathlib.Core.Path.{ap}
use Rattle.check_rules.proofs.answer.fill_masks.Goals as goal

pub slice_bounds-settle-end : goal.slice_bounds-settle-end
slice_bounds-settle-end c =
    used-words c.args.table.now c.args.used (used-sizes c.args.table.now c.args.used c.requires.0).1

pub settle-requires : goal.settle-requires
settle-requires c =
    let g = used-good c.args.table.now c.args.used c.requires.0 c.if-used-ne0.true in
    (g, (omega (arith, g.0.most, ap length c.requires.1), rw c.requires.1 (zeros-sound _ _ 4096)))

pub returns-then-used-ne0 : goal.returns-then-used-ne0
returns-then-used-ne0 c =
    masks-of c.args.table.now c.args.used c.requires.0 c.settle.new.masks (λ i. (c.type_inv.masks i).fits) c.settle.ensures.0
    c.settle.ensures.1 c.if-used-ne0.true
