use Rattle.check_rules.proofs.Lines.{known, next-of, walk-ended}
use Rattle.check_rules.proofs.Calling.{calls-begin, calls-not, calls-on, calls-end}
use mathlib.Core.Path.{◌∙◌, ap}
use Rattle.std.specs.Prelude.{Ok}
use Rattle.rules.specs.Condition.{found_of}
use Rattle.rules.specs.declared.condition.Conditions.{Conditions}
use Rattle.check_rules.proofs.line.calls.Goals as goal

pub loop-c-init : goal.loop-c-init
loop-c-init c =
    let e = c.into_iter-c-iterator.ensures.into_iter_gives in (
      ap (λ (s : Conditions). s.line) e ∙ c.conditions-c-items.ensures.0,
      rw (ap (λ (s : Conditions). s.at) e ∙ c.conditions-c-items.ensures.1) (calls-begin _ (known c.args.rule.now)),
    )

pub returns-then-not-callable : goal.returns-then-not-callable
returns-then-not-callable c =
    let n = next-of c.loop-c.invariant.0 c.in-Some.ensures.steps in
    calls-not c.loop-c.invariant.1 n.inside (found_of (Ok c.in-Some.c)) n.found c.callable.result c.callable.ensures c.if-not-callable.true

pub loop-c-preserved : goal.loop-c-preserved
loop-c-preserved c =
    let n = next-of c.loop-c.invariant.0 c.in-Some.ensures.steps in (
      n.line,
      rw n.place (calls-on c.loop-c.invariant.1 n.inside (found_of (Ok c.in-Some.c)) n.found c.callable.result c.callable.ensures c.if-not-callable.false),
    )

pub returns : goal.returns
returns c =
    let k = c.loop-c.invariant.1 in
    calls-end k (walk-ended c.loop-c.invariant.0 c.in-None.ensures.steps k.rest k.plain k.text)
