-- `translate::heads::put_conditions` meets its contract, condition by condition. Assumes nothing.
use mathlib.Core.Path.{◌∙◌, ap}
use native.Mathlib.Omega.{arith}
use Rattle.std.specs.Prelude.{Ok}
use Rattle.rules.specs.Condition.{found_of}
use Rattle.rules.specs.declared.condition.Conditions.{Conditions}
use Rattle.check_rules.proofs.Lines.{next-of, walk-ended}
use Rattle.translate.proofs.Heading.{heading-begin, room-condition, heading-on, heading-end}
use Rattle.translate.proofs.heads.put_conditions.Goals as goal

pub loop-c-init : goal.loop-c-init
loop-c-init c =
    let e = c.into_iter-c-iterator.ensures.into_iter_gives in (
      ap (λ (s : Conditions). s.line) e ∙ c.conditions-c-items.ensures.0,
      rw (ap (λ (s : Conditions). s.at) e ∙ c.conditions-c-items.ensures.1) (heading-begin c.args.table.now c.requires.0),
    )

pub put_condition-e-requires : goal.put_condition-e-requires
put_condition-e-requires c =
    let n = next-of c.loop-c.invariant.0 c.in-Some.ensures.steps in
    (room-condition c.loop-c.invariant.1 n.inside (found_of (Ok c.in-Some.c)) n.found, omega (arith, c.requires.1, c.loop-c.invariant.1.same))

pub loop-c-preserved : goal.loop-c-preserved
loop-c-preserved c =
    let n = next-of c.loop-c.invariant.0 c.in-Some.ensures.steps in (
      n.line,
      rw n.place (heading-on c.loop-c.invariant.1 n.inside (found_of (Ok c.in-Some.c)) n.found c.put_condition-e.ensures
          c.put_condition-e.auto.table),
    )

pub shape_of-table : goal.shape_of-table
shape_of-table c = c.loop-c.invariant.1.same

pub returns : goal.returns
returns c =
    let k = c.loop-c.invariant.1 in
    heading-end k (walk-ended c.loop-c.invariant.0 c.in-None.ensures.steps k.rest k.plain k.text)
