-- `free::passes::pass` meets its contract. The loop's invariant: the turns that are left lead from here to where the pass
-- leads from its beginning. Assumes nothing.
use Rattle.std.proofs.Common.{◌≡◌, ◌||◌, length}
use Rattle.words.specs.Words.{rows}
use Rattle.checks.specs.Kinds.{ours}
use Rattle.free.specs.Passes.{passed, changed}
use Rattle.free.proofs.passes.pass.Given as goal

abbrev pub invariant-loop-e : goal.invariant-loop-e
invariant-loop-e l = record {
  long : length l.masks ≡ length l.initial.masks;
  changed : l.any || changed ours l.table l.e l.masks ≡ changed ours l.table (rows l.table) l.initial.masks;
  passed : passed ours l.table l.e l.masks ≡ passed ours l.table (rows l.table) l.initial.masks;
}
