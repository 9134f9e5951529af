-- `nodes::put_made` meets its contract: the node stands, or is made. Assumes nothing.
use mathlib.Core.Path.{◌≡◌}
use mathlib.Core.Option.{none}
use Rattle.machine.specs.Stack.{row_at}
use Rattle.machine.specs.Machine.{standing_for}
use Rattle.machine.proofs.Standing.{none-shared, found-shared, node-found, node-none}
use Rattle.machine.proofs.nodes.put_made.Goals as goal
use Rattle.machine.proofs.nodes.put_made.Goals.{else-shares, then-shares+in_default}

pub returns-in-Some : goal.returns-in-Some
returns-in-Some c =
    let a = c.args in
    let r = row_at a.work.now a.r in
    node-found _ _ _ a.m r _ (found-shared a.shares a.store.now a.i a.m r c.if-shares.true c.in-Some.ensures) c.state.ensures

pub returns : goal.returns
returns c =
    let a = c.args in
    let r = row_at a.work.now a.r in
    let none-stands : standing_for a.shares a.store.now a.m r ≡ none = elim c.if-shares.branch [
      | then-shares+in_default w ↦ found-shared a.shares a.store.now a.i a.m r w.if-shares.true w.in_default.ensures
      | else-shares w ↦ none-shared a.shares a.store.now a.i a.m r w.if-shares.false
    ] in
    node-none _ _ _ _ _ none-stands (rw c.row_inside.ensures at c.put_node.ensures)
