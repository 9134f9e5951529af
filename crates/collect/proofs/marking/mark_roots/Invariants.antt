-- `collect::marking::mark_roots` meets its contract. The loop's invariant: the subject and the nodes of the variables so far are marked.
-- Assumes nothing.
use mathlib.Core.Bool.{◌||◌}
use Prim.Native.Nat.{suc}
use lib.Dec.{eqb}
use lib.ListN.{length, get_or}
use Rattle.collect.specs.Reachable.{among}
use Rattle.collect.specs.Passes.{Flags}
use Rattle.collect.proofs.marking.mark_roots.Given as goal

abbrev pub invariant-loop-bound : goal.invariant-loop-bound
invariant-loop-bound l =
    Flags (length l.initial.work) (λ j. eqb j l.subject || among (λ u. eqb (get_or l.bindings u 0) (suc j)) l.bound-index) l.work
