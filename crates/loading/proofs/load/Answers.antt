use Rattle.loading.proofs.Copying.{copied_none, copied_more, copied_all, loaded-hints}
use native.Mathlib.Omega.{arith}
use Rattle.loading.proofs.load.Goals as goal
use Rattle.loading.proofs.load.Goals.{in-Some, in_default}

pub loop-i-init : goal.loop-i-init
loop-i-init c = rw c.requires.1 (copied_none c.args.table.now 32768)

pub loop-i-preserved : goal.loop-i-preserved
loop-i-preserved c = copied_more _ 32768 _ _ c.loop-i.invariant (omega (arith, c.requires))

pub loop-e-init : goal.loop-e-init
loop-e-init c = copied_all _ _ _ c.loop-i.invariant (omega arith)

pub loop-e-preserved : goal.loop-e-preserved
loop-e-preserved c =
    let l = c.loop-e.invariant in
    elim c.match-hint_for.branch [
      | in-Some w ↦ rw w.code-is (loaded-hints _ _ _ _ _ l (omega (arith, c.requires)) w.in-Some.ensures)
      | in_default w ↦ rw w.code-is l
    ]
