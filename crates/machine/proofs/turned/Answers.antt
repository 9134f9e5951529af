-- `turned` meets its contract. Assumes nothing.
use native.Mathlib.Omega.{arith}
use Rattle.machine.proofs.Turning.{turned-is}
use Rattle.machine.proofs.turned.Goals as goal

pub restore-k-requires : goal.restore-k-requires
restore-k-requires c =
    ((λ h. let z = c.requires.1 h in omega arith), c.requires.2.frames)

pub returns : goal.returns
returns c =
    turned-is c.args.shares c.args.table.now c.args.store.now c.args.work.now _ c.args.i
    c.args.m _ c.requires.0 c.requires.1 c.restore-k.ensures _ c.take_turn-t.ensures _ _ _ c.act.ensures
