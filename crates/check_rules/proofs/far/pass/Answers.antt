use mathlib.Core.Path.{◌∙◌, ap}
use Rattle.std.specs.Prelude.{Ok}
use Rattle.rules.specs.Condition.{found_of}
use Rattle.rules.specs.declared.condition.Conditions.{Conditions}
use Rattle.check_rules.proofs.Lines.{known, next-of, walk-ended}
use Rattle.check_rules.proofs.Passing.{passing-begin, passing-early, passing-on, passing-end}
use Rattle.check_rules.proofs.far.pass.Goals as goal

pub loop-c-init : goal.loop-c-init
loop-c-init c =
    let e = c.into_iter-c-iterator.ensures.into_iter_gives in (
      ap (λ (s : Conditions). s.line) e ∙ c.conditions-c-items.ensures.0,
      rw (ap (λ (s : Conditions). s.at) e ∙ c.conditions-c-items.ensures.1)
          (passing-begin (known c.args.rule.now) _ c.requires 16384 _ _ c.bind_all-below.ensures.1),
    )

pub returns-then-any_early : goal.returns-then-any_early
returns-then-any_early c = passing-early c.loop-c.invariant.1 _ c.any_early.result c.any_early.ensures c.if-any_early.true

pub loop-c-preserved : goal.loop-c-preserved
loop-c-preserved c =
    let n = next-of c.loop-c.invariant.0 c.in-Some.ensures.steps in (
      n.line,
      rw n.place (passing-on c.loop-c.invariant.1 n.inside (found_of (Ok c.in-Some.c)) n.found c.any_early.result c.any_early.ensures c.if-any_early.false
          c.bind_all-below-in-loop-c.result c.bind_all-below-in-loop-c.ensures.0 _ c.bind_all-below-in-loop-c.ensures.1),
    )

pub returns-then-any_early-2 : goal.returns-then-any_early-2
returns-then-any_early-2 c = passing-early c.loop-c.invariant.1 _ c.any_early-2.result c.any_early-2.ensures c.if-any_early-2.true

pub returns : goal.returns
returns c =
    let b = c.loop-c.invariant.1 in
    passing-end b (walk-ended c.loop-c.invariant.0 c.in-None.ensures.steps b.rest b.plain b.text) c.any_early-2.result c.any_early-2.ensures c.if-any_early-2.false
