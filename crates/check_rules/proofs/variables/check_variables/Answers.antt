-- The variables one way, and then the other. Assumes nothing.
use Rattle.check_rules.proofs.Lines.{known}
use Rattle.check_rules.proofs.Judging.{answered-early}
use Rattle.check_rules.proofs.Ranging.{answer-far, answer-near}
use Rattle.check_rules.proofs.variables.check_variables.Goals as goal

pub returns-then-unbound : goal.returns-then-unbound
returns-then-unbound c = answered-early (known c.args.rule.now) 0 c.unbound.result c.unbound.ensures c.if-unbound.true

pub returns-then-any_outside : goal.returns-then-any_outside
returns-then-any_outside c =
    answer-far (known c.args.rule.now) c.unbound.result c.unbound.ensures c.if-unbound.false
    c.any_outside.result c.any_outside.ensures c.if-any_outside.true _ c.far_fault.ensures

pub returns : goal.returns
returns c =
    answer-near (known c.args.rule.now) c.unbound.result c.unbound.ensures c.if-unbound.false
    c.any_outside.result c.any_outside.ensures c.if-any_outside.false
