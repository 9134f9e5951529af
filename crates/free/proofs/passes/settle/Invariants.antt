-- `free::passes::settle` meets its contract. The loop's invariant: every bit stands for a variable, and where the last pass
-- added nothing, no rule gives more. A pass that adds something leaves less room, and masks that are spread leave no more. Assumes nothing.
use mathlib.Core.Path.{◌≡◌, refl, sym, ◌∙◌}
use mathlib.Core.Bool.{false, true≢false}
use native.Mathlib.Omega.{arith}
use lib.ListN.{length}
use Rattle.checks.specs.Kinds.{ours}
use Rattle.free.specs.Passes.{Settled}
use Rattle.free.proofs.Masks.{State, turns, turn-state, turn-less, turn-settled, spread-less}
use Rattle.free.proofs.passes.settle.Given as goal

abbrev pub invariant-loop-more : goal.invariant-loop-more
invariant-loop-more l =
    (length l.masks ≡ length l.initial.masks) × (State ours l.table l.masks × (l.more ≡ false → Settled ours l.table l.masks))

abbrev pub decreases-loop-more : goal.decreases-loop-more
decreases-loop-more l =
    turns ours l.more l.masks
