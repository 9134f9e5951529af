-- `checks::signature::check_nodes` meets its contract: the lowest node that does not obey, or none. Assumes nothing.
use Rattle.std.proofs.Common.{ap, rules}
use Rattle.checks.specs.Checked.{found}
use Rattle.checks.specs.Signature.{node_obeys, nodes_checked}
use Rattle.checks.proofs.signature.check_nodes.Goals as goal

pub returns-in-Some : goal.returns-in-Some
unfolding nodes_checked
returns-in-Some c = ap (found 11) (c.in-Some.ensures (node_obeys c.args.signature.now c.args.store.now) (λ k b l h. search rules))

pub returns-in-None : goal.returns-in-None
unfolding nodes_checked
returns-in-None c = ap (found 11) (c.in-None.ensures (node_obeys c.args.signature.now c.args.store.now) (λ k b l h. search rules))
