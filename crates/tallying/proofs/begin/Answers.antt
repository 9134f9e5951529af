-- `begin` meets its contract. Assumes nothing.
use Rattle.std.proofs.Common.{◌≡◌, ℕ, set, ap, ◌∙◌}
use Rattle.tallying.specs.Counts.{bumped, visited_code}
use Rattle.tallying.proofs.Counting.{code-applied, code_other}
use Rattle.tallying.proofs.begin.Goals as goal
use Rattle.tallying.proofs.begin.Goals.{else-m-eq-APPLY, then-m-eq-APPLY}

pub returns : goal.returns
returns c =
    let e : c.if-m-eq-APPLY.e ≡ visited_code c.args.m =
    elim c.if-m-eq-APPLY.branch [ then-m-eq-APPLY z ↦ z.e-is ∙ code-applied c.args.m z.if-m-eq-APPLY.true | else-m-eq-APPLY z ↦ z.e-is ∙ code_other c.args.m z.if-m-eq-APPLY.false ] in (
      ap (set c.args.kept.now c.args.m.level) e,
      c.add.ensures
          ∙ ap (λ (e : ℕ). bumped c.args.counts.now e 0) e,
    )
