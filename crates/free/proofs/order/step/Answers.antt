-- `free::order::step` meets its contract: an entry's turn, or nothing. Assumes nothing.
use native.Mathlib.Omega.{arith}
use Rattle.checks.specs.Kinds.{ours}
use Rattle.free.proofs.Entries.{entry_of}
use Rattle.free.proofs.Masks.{spread-turn}
use borrow.Author.Rules.{rules}
use Rattle.free.proofs.order.step.Goals as goal

pub grow-requires : goal.grow-requires
grow-requires c =
    (entry_of ours _ c.requires.0 _ c.if-entries-e.false, omega (arith, c.requires.1, c.if-entries-e.false))

pub returns : goal.returns
returns c =
    spread-turn ours (omega arith) c.args.table.now c.args.masks.now c.requires.0 (record {
      long = c.requires.1;
      fits = λ i. (c.slice_known-1.given i).fits;
      sound = c.requires.2;
    }) _ c.if-entries-e.false _ c.grow.ensures.1
