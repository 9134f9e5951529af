-- `frames::next_of` meets its contract. Assumes nothing.
use mathlib.Core.Path.{sym, ◌∙◌}
use Prim.Native.Nat.{◌+◌}
use native.Mathlib.Omega.{arith}
use lib.ListN.{get_or-eq_default}
use Rattle.machine.specs.Stack.{row_at}
use Rattle.machine.proofs.Rowing.{row_word}
use Rattle.machine.proofs.frames.next_of.Goals as goal

pub returns-then-at-lt5 : goal.returns-then-at-lt5
returns-then-at-lt5 c =
    c.word.ensures ∙ sym (row_word c.args.work.now c.args.r (3 + c.args.at) (omega (arith, c.if-at-lt5.true)))

pub returns-else-at-lt5 : goal.returns-else-at-lt5
returns-else-at-lt5 c =
    sym (get_or-eq_default (row_at c.args.work.now c.args.r) 0 {n = 3 + c.args.at} (omega (arith, c.if-at-lt5.false)))
