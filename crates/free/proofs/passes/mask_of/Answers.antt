-- `free::passes::mask_of` meets its contract: empty masks stand for nothing else, and settled ones have every variable.
-- Assumes nothing.
use native.Mathlib.Omega.{arith}
use Rattle.checks.specs.Kinds.{ours}
use Rattle.free.proofs.Smallest.{mask_is, zeros-sound}
use borrow.Author.Rules.{rules}
use Rattle.free.proofs.passes.mask_of.Goals as goal

pub settle-requires : goal.settle-requires
settle-requires c =
    let p = c.requires in
    (p.0, (omega (arith, p.0.0.most), zeros-sound ours _ 4096))

pub returns : goal.returns
returns c =
    let p = c.requires in
    let s = c.settle in
    mask_is ours (omega arith) _ s.new.masks _ p.0 p.1 s.ensures.0 s.ensures.1 c.mask_at.result c.mask_at.ensures (omega arith)
