-- `nodes::padded` meets its contract. Assumes nothing.
use Rattle.machine.proofs.Padding.{padded-row}
use borrow.Author.Rules.{rules}
use Rattle.machine.proofs.nodes.padded.Goals as goal
use Rattle.machine.proofs.nodes.padded.Goals.{Start}

pub returns : goal.returns
returns c =
    rw (
      c.child-6.ensures,
      c.child-5.ensures,
      c.child-4.ensures,
      c.child-3.ensures,
      c.child-2.ensures,
      c.child.ensures,
    )
    (padded-row c.args.row _ (search rules) c.few-n.ensures)
