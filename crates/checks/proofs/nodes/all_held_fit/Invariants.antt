-- `checks::nodes::all_held_fit` meets its contract. The loop's invariant: the tests made so far and those from i on decide.
-- Assumes nothing.
use mathlib.Core.Path.{◌≡◌}
use mathlib.Core.Bool.{◌&&◌}
use Prim.Native.Nat.{◌-◌}
use Rattle.words.specs.Tests.{every}
use Rattle.checks.specs.Good.{child, held_fits}
use Rattle.checks.proofs.nodes.all_held_fit.Given as goal

abbrev pub invariant-loop-i : goal.invariant-loop-i
invariant-loop-i l =
    l.good && every (λ j. held_fits l.k l.n j (child l.store l.k j)) l.i (6 - l.i) ≡ every (λ j. held_fits l.k l.n j (child l.store l.k j)) 0 6
