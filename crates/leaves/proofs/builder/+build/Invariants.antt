-- `builder::build` meets its contract. The loop's invariant: the nodes of the operands before i stand in the row that is made,
-- and from operand i on all goes on to the whole. The measure of a call is the nesting.
use mathlib.Core.Path.{◌≡◌}
use lib.ListN.{length}
use Rattle.checks.specs.Good.{kind_of, operand_count}
use Rattle.meaning.specs.Rules.{build as built}
use Rattle.state.specs.Record.{standing, held}
use Rattle.state.specs.Visits.{visit}
use Rattle.leaves.proofs.Building.{Built}
use Prim.Native.Nat.{◌-◌, ◌<◌, ◌≤◌}
use Rattle.leaves.proofs.builder.+build.Given as goal

abbrev pub decreases-build : goal.decreases-build
decreases-build l = l.deep

abbrev pub invariant-loop-i : goal.invariant-loop-i
invariant-loop-i l =
    (l.i ≤ l.n) × (l.n ≡ operand_count l.table l.p) × (kind_of l.table l.p ≡ 19) × (l.left < 4294967296) × (length l.store ≡ length l.initial.store) × (length l.made ≡ 8)
    × Built l.table (l.deep - 1) l.p l.initial.st (λ k. visit l.table l.deep (built l.p k (held l.initial.st)) l.initial.store (standing l.initial.st) l.units) l.store l.st l.made l.left l.i
