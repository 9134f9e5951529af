-- `free::passes::joined` meets its contract. The loop's invariant: the operands from i on, joined to what there is, are all
-- operands joined. Assumes nothing.
use Rattle.std.proofs.Common.{◌≡◌, drop}
use Rattle.meaning.specs.Table.{operands}
use Rattle.free.specs.Passes.{joined, joined_operands}
use Rattle.free.proofs.passes.joined.Given as goal

abbrev pub invariant-loop-i : goal.invariant-loop-i
invariant-loop-i l = joined l.masks l.all (drop l.i (operands l.table l.e)) ≡ joined_operands l.table l.masks l.e
