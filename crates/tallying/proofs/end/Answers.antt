-- `end` meets its contract. Assumes nothing.
use Rattle.std.proofs.Common.{◌≡◌, ℕ, eqb, ap, ◌∙◌, eq-eqb, ne_eqb, get_or, if◌then◌else◌}
use Rattle.tallying.specs.Counts.{bumped}
use Rattle.tallying.proofs.end.Goals as goal
use Rattle.tallying.proofs.end.Goals.{then-m-eq-SUCCEEDED, else-m-eq-SUCCEEDED}

pub returns : goal.returns
returns c =
    let e : c.if-m-eq-SUCCEEDED.c ≡ (if eqb c.args.m.mode 4 then 1 else 2) =
    elim c.if-m-eq-SUCCEEDED.branch [
      | then-m-eq-SUCCEEDED w ↦ rw (eq-eqb c.args.m.mode 4 w.if-m-eq-SUCCEEDED.true) w.c-is
      | else-m-eq-SUCCEEDED w ↦ rw (ne_eqb c.args.m.mode 4 w.if-m-eq-SUCCEEDED.false) w.c-is
    ] in
    c.add.ensures ∙ ap (λ (i : ℕ). bumped c.args.counts.now (get_or c.args.kept.now c.args.m.level 0) i) e
