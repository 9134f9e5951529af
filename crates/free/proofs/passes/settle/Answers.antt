use mathlib.Core.Path.{◌≡◌, refl, sym, ◌∙◌}
use mathlib.Core.Bool.{false, true≢false}
use native.Mathlib.Omega.{arith}
use lib.ListN.{length}
use Rattle.checks.specs.Kinds.{ours}
use Rattle.free.specs.Passes.{Settled}
use Rattle.free.proofs.Masks.{State, turns, turn-state, turn-less, turn-settled, spread-less}
use Rattle.free.proofs.passes.settle.Goals as goal

pub pass-more-requires : goal.pass-more-requires
pass-more-requires c = (c.requires.0, c.requires.1.0)

pub loop-more-init : goal.loop-more-init
loop-more-init c = (
  refl,
  (
    turn-state ours (omega arith) c.args.table.now c.args.masks.now c.requires.0 (record {
      long = c.requires.1.0;
      fits = λ i. (c.slice_known-1.given i).fits;
      sound = c.requires.1.1;
    }) c.pass-more.result c.pass-more.new.masks c.pass-more.ensures.0 c.pass-more.ensures.1,
    turn-settled ours (omega arith) c.args.table.now
        c.args.masks.now c.requires.0 (record {
          long = c.requires.1.0;
          fits = λ i. (c.slice_known-1.given i).fits;
          sound = c.requires.1.1;
        }) c.pass-more.result c.pass-more.new.masks c.pass-more.ensures.0 c.pass-more.ensures.1,
  ),
)

pub pass-more-requires-in-loop-more : goal.pass-more-requires-in-loop-more
pass-more-requires-in-loop-more c =
    (c.requires.0, c.loop-more.invariant.1.0.long)

pub spread_again-times-requires : goal.spread_again-times-requires
spread_again-times-requires c =
    let s = turn-state ours (omega arith) c.args.table.now c.loop-more.masks c.requires.0 c.loop-more.invariant.1.0
    c.pass-more-in-loop-more.result c.pass-more-in-loop-more.new.masks c.pass-more-in-loop-more.ensures.0 c.pass-more-in-loop-more.ensures.1 in (
      c.requires.0,
      s.long,
      s.sound,
    )

pub loop-more-smaller-then-more : goal.loop-more-smaller-then-more
loop-more-smaller-then-more c =
    rw c.loop-more-test.true (spread-less ours c.args.table.now c.loop-more.masks _ _ c.pass-more-in-loop-more.result
    (turn-less ours (omega arith) c.args.table.now c.loop-more.masks c.requires.0 c.loop-more.invariant.1.0 c.pass-more-in-loop-more.result c.pass-more-in-loop-more.new.masks c.pass-more-in-loop-more.ensures.0 c.pass-more-in-loop-more.ensures.1) c.spread_again-times.ensures)

pub loop-more-preserved-then-more : goal.loop-more-preserved-then-more
loop-more-preserved-then-more c =
    let s = turn-state ours (omega arith) c.args.table.now c.loop-more.masks c.requires.0 c.loop-more.invariant.1.0
    c.pass-more-in-loop-more.result c.pass-more-in-loop-more.new.masks c.pass-more-in-loop-more.ensures.0 c.pass-more-in-loop-more.ensures.1 in (
      omega (
        arith,
        c.spread_again-times.auto,
        c.pass-more-in-loop-more.auto,
        c.loop-more.invariant.0,
      ),
      (
        record {
          long = omega (
            arith,
            c.spread_again-times.auto,
            s.long,
          );
          fits = λ i. (c.slice_known-then-more-1.given i).fits;
          sound = c.spread_again-times.ensures.sound;
        },
        λ z. absurd (true≢false (sym c.if-more.true ∙ z)),
      ),
    )

pub loop-more-smaller : goal.loop-more-smaller
loop-more-smaller c =
    rw c.loop-more-test.true (turn-less ours (omega arith) c.args.table.now c.loop-more.masks c.requires.0
    c.loop-more.invariant.1.0 c.pass-more-in-loop-more.result c.pass-more-in-loop-more.new.masks c.pass-more-in-loop-more.ensures.0 c.pass-more-in-loop-more.ensures.1)

pub loop-more-preserved : goal.loop-more-preserved
loop-more-preserved c = (
  omega (arith, c.pass-more-in-loop-more.auto, c.loop-more.invariant.0),
  (
    turn-state ours (omega arith) c.args.table.now c.loop-more.masks c.requires.0 c.loop-more.invariant.1.0 c.pass-more-in-loop-more.result c.pass-more-in-loop-more.new.masks c.pass-more-in-loop-more.ensures.0 c.pass-more-in-loop-more.ensures.1,
    turn-settled ours (omega arith) c.args.table.now c.loop-more.masks c.requires.0
        c.loop-more.invariant.1.0 c.pass-more-in-loop-more.result c.pass-more-in-loop-more.new.masks c.pass-more-in-loop-more.ensures.0 c.pass-more-in-loop-more.ensures.1,
  ),
)

pub shape_of-masks : goal.shape_of-masks
shape_of-masks c = omega (arith, c.pass-more.auto, c.loop-more.invariant.0)

pub returns : goal.returns
returns c = (c.loop-more.invariant.1.0.sound, c.loop-more.invariant.1.1 c.loop-more-test.false)
