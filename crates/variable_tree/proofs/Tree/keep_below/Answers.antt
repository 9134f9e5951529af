use mathlib.Core.Path.{refl}
use Rattle.variable_tree.proofs.Keys.{keeps-again}
use Rattle.variable_tree.proofs.Tree.keep_below.Goals as goal

pub loop-i-preserved : goal.loop-i-preserved
loop-i-preserved c = keeps-again c.loop-i.invariant (record { place = c.loop-i.i; is = refl }) c.put_below.ensures
