-- `free::order::operand_of` meets its contract: it reads inside the entry's words. Assumes nothing.
use native.Mathlib.Omega.{arith}
use Rattle.free.proofs.Masks.{from-small}
use borrow.Author.Rules.{rules}
use Rattle.free.proofs.order.operand_of.Goals as goal

pub overflow_add-j : goal.overflow_add-j
overflow_add-j c =
    omega (
      arith,
      c.operand_count-n.ensures,
      c.from_either_end-k.ensures,
      c.operands_from.ensures,
      from-small c.kind_of.result,
    )
