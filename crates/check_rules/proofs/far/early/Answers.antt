-- A variable that is not in the tree. Assumes nothing.
use Rattle.rules.specs.Text.{head_of}
use Rattle.check_rules.proofs.Lines.{known}
use Rattle.check_rules.proofs.Passing.{early-asked}
use Rattle.check_rules.proofs.far.early.Goals as goal

pub returns-then-not-holds : goal.returns-then-not-holds
returns-then-not-holds c =
    early-asked (known c.args.rule.now) c.args.low c.args.below c.args.tree.now.keys (head_of c.args.field.now)
    c.in-Some-Variable.v (rw c.in-Some-Variable.field-0-is at c.in-Some-Variable.ensures) c.unbound.result c.unbound.ensures
