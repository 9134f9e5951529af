use Rattle.check_rules.proofs.Lines.{known, next-of, walk-ended}
use Rattle.check_rules.proofs.Early.{binds-begin, binds-early, binds-on, binds-end}
use native.Mathlib.Omega.{arith}
use mathlib.Core.Path.{refl, ◌∙◌, ap}
use Rattle.std.specs.Prelude.{Ok}
use Rattle.rules.specs.Condition.{found_of}
use Rattle.rules.specs.declared.condition.Conditions.{Conditions}
use Rattle.check_rules.proofs.bound.unbound.Goals as goal

pub loop-c-init : goal.loop-c-init
loop-c-init c =
    let r = c.args.rule.now in
    let e = c.into_iter-c-iterator.ensures.into_iter_gives in (
      ap (λ (s : Conditions). s.line) e ∙ c.conditions-c-items.ensures.0,
      rw (ap (λ (s : Conditions). s.at) e ∙ c.conditions-c-items.ensures.1) (binds-begin (known r) c.args.base c.marks-bound.result c.marks-bound.ensures),
    )

pub returns-then-needed-bound : goal.returns-then-needed-bound
returns-then-needed-bound c =
    let n = next-of c.loop-c.invariant.0 c.in-Some.ensures.steps in
    binds-early c.loop-c.invariant.1 n.inside (found_of (Ok c.in-Some.c)) n.found c.marks-needed.result
    c.marks-needed.ensures (omega arith) c.if-needed-bound.true

pub loop-c-preserved : goal.loop-c-preserved
loop-c-preserved c =
    let n = next-of c.loop-c.invariant.0 c.in-Some.ensures.steps in (
      n.line,
      rw n.place (binds-on c.loop-c.invariant.1 n.inside (found_of (Ok c.in-Some.c)) n.found c.marks-needed.result
          c.marks-needed.ensures c.if-needed-bound.false c.marks-bound-in-loop-c.result c.marks-bound-in-loop-c.ensures),
    )

pub returns : goal.returns
returns c =
    let b = c.loop-c.invariant.1 in
    binds-end b (walk-ended c.loop-c.invariant.0 c.in-None.ensures.steps b.rest b.plain b.text) c.marks-last.result c.marks-last.ensures (omega arith) _ refl
