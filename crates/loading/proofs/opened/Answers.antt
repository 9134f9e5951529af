use Rattle.loading.proofs.Copying.{filled_none, filled-skip, filled-bind, filled-all}
use native.Mathlib.Omega.{arith}
use mathlib.Core.Path.{refl, ◌∙◌}
use Rattle.loading.proofs.opened.Goals as goal
use Rattle.loading.proofs.opened.Goals.{else-w-ne0, then-w-ne0}

pub loop-v-init : goal.loop-v-init
loop-v-init c = filled_none c.args.bindings.now c.args.mark c.args.room c.args.top c.args.nodes

pub loop-v-preserved : goal.loop-v-preserved
loop-v-preserved c = elim c.if-w-ne0.branch [
  | then-w-ne0 w ↦ rw (w.words-is ∙ w.put_variable.ensures)
      (filled-bind _ _ _ _ c.loop-v.invariant _ refl w.if-w-ne0.true (omega arith))
  | else-w-ne0 w ↦ rw w.words-is (filled-skip _ _ _ _ c.loop-v.invariant w.if-w-ne0.false)
]

pub returns : goal.returns
returns c = filled-all _ _ _ _ _ _ _ c.loop-v.invariant c.requires (omega arith)
