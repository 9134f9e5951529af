-- `free::order::spread` meets its contract. The loop's invariant: the masks grew, and stand for nothing else. Assumes nothing.
use native.Mathlib.Omega.{arith}
use Rattle.checks.specs.Kinds.{ours}
use Rattle.free.specs.Passes.{Spread}
use Rattle.free.proofs.Masks.{spread_none, spread-on}
use mathlib.Core.Path.{◌≡◌, refl, sym}
use lib.ListN.{length}
use Prim.Native.Nat.{◌-◌, ◌≤◌}
use Rattle.free.proofs.order.spread.Given as goal

abbrev pub invariant-loop-steps : goal.invariant-loop-steps
invariant-loop-steps l =
    (length l.masks ≡ length l.initial.masks) × (length l.notes ≡ 4096) × (l.root ≤ l.entries) × (l.entries ≤ 4096) × Spread ours l.table l.initial.masks l.masks

abbrev pub decreases-loop-steps : goal.decreases-loop-steps
decreases-loop-steps l =
    32768 - l.steps
