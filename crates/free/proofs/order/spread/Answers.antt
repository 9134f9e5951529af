use native.Mathlib.Omega.{arith}
use Rattle.checks.specs.Kinds.{ours}
use Rattle.free.specs.Passes.{Spread}
use Rattle.free.proofs.Masks.{spread_none, spread-on}
use mathlib.Core.Path.{◌≡◌, refl, sym}
use lib.ListN.{length}
use Prim.Native.Nat.{◌-◌, ◌≤◌}
use Rattle.free.proofs.order.spread.Goals as goal

pub overflow_cast-entries : goal.overflow_cast-entries
overflow_cast-entries c = omega (arith, c.requires.0.0.most)

pub loop-steps-init : goal.loop-steps-init
loop-steps-init c =
    (refl, refl, omega arith, omega (arith, c.requires.0.0.most), spread_none ours _ _ c.requires.2)

pub overflow_add-steps : goal.overflow_add-steps
overflow_add-steps c = omega arith

pub shape_of-masks-then-root-eq0 : goal.shape_of-masks-then-root-eq0
shape_of-masks-then-root-eq0 c = c.loop-steps.invariant.0

pub returns-then-root-eq0 : goal.returns-then-root-eq0
returns-then-root-eq0 c = c.loop-steps.invariant.4

pub overflow_sub-root : goal.overflow_sub-root
overflow_sub-root c = omega arith

pub overflow_sub-entries : goal.overflow_sub-entries
overflow_sub-entries c = omega (arith, c.loop-steps.invariant.2)

pub from_either_end-x-requires : goal.from_either_end-x-requires
from_either_end-x-requires c = omega (arith, c.loop-steps.invariant.2)

pub slice_bounds-come_to-end : goal.slice_bounds-come_to-end
slice_bounds-come_to-end c = sym c.loop-steps.invariant.1

pub come_to-here-requires : goal.come_to-here-requires
come_to-here-requires c = (
  omega arith,
  omega (
    arith,
    c.from_either_end-x.ensures,
    c.loop-steps.invariant.2,
    c.loop-steps.invariant.3,
    c.if-root-eq0.false,
  ),
)

pub loop-steps-smaller-then-here-eq0 : goal.loop-steps-smaller-then-here-eq0
loop-steps-smaller-then-here-eq0 c = omega arith

pub loop-steps-preserved-then-here-eq0 : goal.loop-steps-preserved-then-here-eq0
loop-steps-preserved-then-here-eq0 c = (
  c.loop-steps.invariant.0,
  omega (arith, c.come_to-here.auto, c.loop-steps.invariant.1),
  omega (arith, c.loop-steps.invariant.2),
  c.loop-steps.invariant.3,
  c.loop-steps.invariant.4,
)

pub slice_bounds-step-end : goal.slice_bounds-step-end
slice_bounds-step-end c = sym c.loop-steps.invariant.1

pub step-here-requires : goal.step-here-requires
step-here-requires c =
    (c.requires.0, omega (arith, c.requires.1, c.loop-steps.invariant.0), c.loop-steps.invariant.4.sound, omega arith)

pub loop-steps-smaller : goal.loop-steps-smaller
loop-steps-smaller c = omega arith

pub loop-steps-preserved : goal.loop-steps-preserved
loop-steps-preserved c = (
  omega (arith, c.step-here.auto, c.loop-steps.invariant.0),
  omega (arith, c.step-here.auto, c.loop-steps.invariant.1),
  c.loop-steps.invariant.2,
  c.loop-steps.invariant.3,
  spread-on c.loop-steps.invariant.4 c.step-here.ensures,
)

pub shape_of-masks : goal.shape_of-masks
shape_of-masks c = c.loop-steps.invariant.0

pub returns : goal.returns
returns c = c.loop-steps.invariant.4
