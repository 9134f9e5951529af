use mathlib.Core.Path.{◌≡◌}
use Prim.Native.Nat.{◌+◌, ◌%◌, ◌<◌}
use native.Mathlib.Omega.{arith}
use borrow.Author.Rules.{rules}
use borrow.Author.Tests.{eq-eqb, ne_eqb}
use lib.Dec.{eqb}
use lib.ListN.{get_or, set}
use Rattle.std.specs.Prelude.{if◌then◌else◌}
use Rattle.machine.proofs.Copying.{none_yet, left_below, turn, all-copied}
use Rattle.machine.proofs.frames.copy_words.Goals as goal
use Rattle.machine.proofs.frames.copy_words.Goals.{else-rest-eq1, then-rest-eq1}

pub loop-rest-init : goal.loop-rest-init
loop-rest-init c = none_yet _ _ _ _ (search rules)

pub overflow_add-work : goal.overflow_add-work
overflow_add-work c =
    let inside : c.loop-rest.v < 64 =
    let i = c.loop-rest.invariant in (left_below _ _ i.few i.left c.loop-rest-test.true).0 in
    let l = inside in omega (arith, c.requires.1)

pub offset_bounds-work-from : goal.offset_bounds-work-from
offset_bounds-work-from c =
    let inside : c.loop-rest.v < 64 =
    let i = c.loop-rest.invariant in (left_below _ _ i.few i.left c.loop-rest-test.true).0 in
    let l = inside in omega (arith, c.requires.1)

pub bounds-work-from : goal.bounds-work-from
bounds-work-from c =
    let inside : c.loop-rest.v < 64 =
    let i = c.loop-rest.invariant in (left_below _ _ i.few i.left c.loop-rest-test.true).0 in
    let l = inside in omega (
      arith,
      c.requires.1,
      c.loop-rest.invariant.long,
    )

pub overflow_add-work-then-rest-eq1 : goal.overflow_add-work-then-rest-eq1
overflow_add-work-then-rest-eq1 c =
    let inside : c.loop-rest.v < 64 =
    let i = c.loop-rest.invariant in (left_below _ _ i.few i.left c.loop-rest-test.true).0 in
    let l = inside in omega (arith, c.requires.0)

pub offset_bounds-work-to : goal.offset_bounds-work-to
offset_bounds-work-to c =
    let inside : c.loop-rest.v < 64 =
    let i = c.loop-rest.invariant in (left_below _ _ i.few i.left c.loop-rest-test.true).0 in
    let l = inside in omega (arith, c.requires.0)

pub bounds-work-to : goal.bounds-work-to
bounds-work-to c =
    let inside : c.loop-rest.v < 64 =
    let i = c.loop-rest.invariant in (left_below _ _ i.few i.left c.loop-rest-test.true).0 in
    let l = inside in omega (
      arith,
      c.requires.0,
      c.loop-rest.invariant.long,
    )

pub overflow_add-v : goal.overflow_add-v
overflow_add-v c = let l = c.loop-rest.invariant.few in omega arith

pub loop-rest-smaller : goal.loop-rest-smaller
loop-rest-smaller c = omega arith

pub loop-rest-preserved : goal.loop-rest-preserved
loop-rest-preserved c =
    let l = c.loop-rest in
    let a = c.args in
    -- what a turn leaves
    let left : c.if-rest-eq1.work ≡ (if eqb (l.rest % 2) 1 then set l.work (a.to + l.v) (get_or l.work (a.from + l.v) 0) else l.work) =
    elim c.if-rest-eq1.branch [ then-rest-eq1 w ↦ rw (eq-eqb _ _ w.if-rest-eq1.true) w.work-is | else-rest-eq1 w ↦ rw (ne_eqb _ _ w.if-rest-eq1.false) w.work-is ] in
    turn c.loop-rest.invariant c.loop-rest-test.true c.requires.1 c.requires.0 c.requires.2 left

pub shape_of-work : goal.shape_of-work
shape_of-work c = c.loop-rest.invariant.long

pub returns : goal.returns
returns c = all-copied c.loop-rest.invariant (omega arith)
