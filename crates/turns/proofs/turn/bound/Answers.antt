-- `turn::bound` meets its contract. Assumes nothing.
use mathlib.Core.Path.{sym}
use Rattle.turns.proofs.Begun.{bound-to, bound-to-none}
use Rattle.turns.proofs.turn.bound.Goals as goal

pub returns-then-mask-v-eq1 : goal.returns-then-mask-v-eq1
returns-then-mask-v-eq1 c = sym (bound-to c.args.work.now c.args.mask c.args.v c.requires.0 c.if-mask-v-eq1.true)

pub returns-else-mask-v-eq1 : goal.returns-else-mask-v-eq1
returns-else-mask-v-eq1 c = sym (bound-to-none c.args.work.now c.args.mask c.args.v c.requires.0 c.if-mask-v-eq1.false)
