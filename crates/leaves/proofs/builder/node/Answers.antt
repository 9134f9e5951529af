use Rattle.leaves.proofs.Building.{row_inside, plain-small, node_made}
use native.Mathlib.Omega.{arith}
use Rattle.leaves.proofs.builder.node.Goals as goal

pub put_row-requires : goal.put_row-requires
put_row-requires c = row_inside c.args.made
    c.args.st.now c.args.store.now 0 0
    c.requires.0 (omega arith) c.if-st-k.false

pub overflow_add-st : goal.overflow_add-st
overflow_add-st c = omega (
  arith,
  row_inside c.args.made
      c.args.st.now
      c.args.store.now 0 0
      c.requires.0 (omega arith)
      c.if-st-k.false,
  plain-small
      c.args.made
      c.args.st.now
      c.args.store.now 0 0
      c.requires.0 (omega arith)
      c.if-st-k.false,
)

pub returns : goal.returns
returns c = rw c.put_row.ensures
    (node_made c.args.made
    c.args.st.now
    c.args.store.now
    c.args.left _
    c.requires.0 (omega arith)
    c.if-st-k.false
    c.requires.1 c.done.ensures)
