-- `resume::walked` meets its contract. Assumes nothing.
use mathlib.Core.Path.{refl}
use mathlib.Core.Logic.{inl, inr, ⊎_elim}
use native.Mathlib.Omega.{arith}
use lib.ListN.{drop}
use Rattle.meaning.specs.Table.{six}
use Rattle.meaning.specs.Rules.{match, compare}
use Rattle.turns.specs.Ways.{ways}
use Rattle.turns.proofs.Resumed.{beyond-lost, walker-done, last_made}
use Rattle.turns.proofs.resume.walked.Goals as goal

pub returns-then-s-2 : goal.returns-then-s-2
returns-then-s-2 c f y o n g b d =
    beyond-lost _ f _ _ o n y g b d _ _ c.requires.0 refl refl c.if-s-2.true

pub returns-in-14 : goal.returns-in-14
unfolding ways
returns-in-14 c f y o n g b d =
    let inside = c.if-s-2.false in
    let over = c.if-s.false in
    ⊎_elim
    (λ e. walker-done _ f _ _ o n y g b d _ (omega (arith, inside)) (omega (arith, over)) 14 match (six c.args.table.now f.x) e refl refl)
    (λ e. walker-done _ f _ _ o n y g b d _ (omega (arith, inside)) (omega (arith, over)) 16 compare (drop 2 f.other) e refl refl)
    c.in-14.is

pub returns-in_default : goal.returns-in_default
returns-in_default c f y o n g b d =
    let inside = c.if-s-2.false in
    let over = c.if-s.false in
    let none = c.in_default.in_default-own.rest in
    last_made _ f _ _ o n y g b d _ (omega (arith, inside)) (omega (arith, over)) _ c.requires.0 (λ e. none.1 (inl e)) (λ e. none.1 (inr e)) refl refl
