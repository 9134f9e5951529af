-- `checks::nodes::node_fits` meets its contract: a good node is one whose words fit, each by itself. Assumes nothing.
use mathlib.Core.Path.{◌≡◌}
use Prim.Native.Nat.{◌+◌, ◌*◌}
use native.Mathlib.Omega.{arith}
use Rattle.checks.proofs.Good.{good_node-words}
use Rattle.checks.proofs.nodes.node_fits.Goals as goal

pub returns : goal.returns
returns c =
    let k = c.args.k in
    let e : 8 * k + 0 ≡ 8 * k = omega arith in
    rw (c.all_held_fit.ensures, good_node-words, e)
