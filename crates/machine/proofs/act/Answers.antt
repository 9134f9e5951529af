-- `act` meets its contract: each arm carries out its turn. Assumes nothing.
use mathlib.Core.Path.{◌≡◌, refl, ap, sym, ◌∙◌, subst}
use mathlib.Core.Logic.{inr}
use Prim.Native.Nat.{ℕ, ◌+◌, ◌*◌, ◌^◌, ◌<◌}
use native.Mathlib.Omega.{arith}
use lib.ListN.{length, get_or}
use Rattle.turns.specs.Ways.{kids, opened, next_of, plan_of}
use Rattle.machine.specs.declared.Machine.{Machine}
use Rattle.machine.specs.Stack.{frame_at, present}
use Rattle.machine.specs.Machine.{Opened}
use Rattle.machine.proofs.Stacked.{carried-done, carried-failed, carried-missed, carried-stuck, carried-bound, carried-made}
use Rattle.machine.proofs.Stacked.{carried-asked, carried-deepest-in, carried-unscoped, carried-unscoped-deepest}
use borrow.Author.Rules.{rules}
use Rattle.machine.proofs.act.Goals as goal
use Rattle.machine.proofs.act.Goals.{else-i-lt-DEEPEST, else-i-lt-DEEPEST-2, then-i-lt-DEEPEST, then-i-lt-DEEPEST-2}

-- the machine with this place, with this mask
abbrev at-place : ℕ → Machine → Machine
at-place p m = record { x = m.x; mode = m.mode; y = m.y; level = m.level; mark = m.mark; place = p; fuel = m.fuel; mask = m.mask }

abbrev with-mask : ℕ → Machine → Machine
with-mask b m = record { x = m.x; mode = m.mode; y = m.y; level = m.level; mark = m.mark; place = m.place; fuel = m.fuel; mask = b }

pub copy_words-requires : goal.copy_words-requires
copy_words-requires c = (
  c.requires.1.frames,
  omega (arith, c.if-i-ge-DEEPEST.false, c.requires.1.frames),
  inr (omega (arith, c.if-i-ge-DEEPEST.false)),
)

pub returns-in-Done : goal.returns-in-Done
returns-in-Done c = carried-done _ _ _ _ _ _ _ c.requires.1 c.requires.0 c.in-Done.is c.state.ensures

pub returns-in-Failed : goal.returns-in-Failed
returns-in-Failed c = carried-failed _ _ _ _ _ _ _ c.requires.1 c.in-Failed.is c.state-in-Failed.ensures

pub returns-in-Missed : goal.returns-in-Missed
returns-in-Missed c =
    carried-missed _ _ _ _ _ _ _ c.requires.1 c.in-Missed.is (ap (at-place c.in-Missed.place) c.state-in-Missed.ensures)

pub returns-in-Stuck : goal.returns-in-Stuck
returns-in-Stuck c = carried-stuck _ _ _ _ _ _ _ c.requires.1 c.in-Stuck.is c.state-in-Stuck.ensures

pub returns-in-Bound : goal.returns-in-Bound
returns-in-Bound c =
    carried-bound _ _ _ _ _ _ _ c.requires.1 c.requires.0 c.in-Bound.is refl (ap (with-mask _) c.state-in-Bound.ensures)

pub returns-in-Leaf : goal.returns-in-Leaf
unfolding plan_of
returns-in-Leaf c = carried-made _ _ _ _ _ _ _ c.requires.1 c.in-Leaf.is refl refl refl c.put_leaf.ensures

pub returns-in-Made : goal.returns-in-Made
unfolding plan_of
returns-in-Made c = carried-made _ _ _ _ _ _ _ c.requires.1 c.in-Made.is refl refl refl c.put_made.ensures

pub shape_of-work-after-i-lt-DEEPEST : goal.shape_of-work-after-i-lt-DEEPEST
shape_of-work-after-i-lt-DEEPEST c = elim c.if-i-lt-DEEPEST.branch [ then-i-lt-DEEPEST w ↦ ap length w.work-is ∙ w.«open».ensures.long | else-i-lt-DEEPEST w ↦ ap length w.work-is ]

pub returns-after-i-lt-DEEPEST : goal.returns-after-i-lt-DEEPEST
unfolding plan_of
returns-after-i-lt-DEEPEST c =
    let small : c.in-Ask.a.mask < 2 ^ 64 =
    search rules in
    let a = c.args in
    let frame = opened a.table.now a.store.now a.m.x a.m.y c.in-Ask.a in
    let told = c.in-Ask.is in
    elim c.if-i-lt-DEEPEST.branch [
      | then-i-lt-DEEPEST w ↦ carried-asked _ _ _ _ a.i _ a.t c.requires.1 c.in-Ask.a {g = frame}
          w.if-i-lt-DEEPEST.true told refl small
          (subst (Opened a.work.now (10 * a.i) frame (present a.work.now a.m) a.m.mark) (sym w.work-is) w.«open».ensures) c.asking.ensures
      | else-i-lt-DEEPEST w ↦ carried-deepest-in _ _ _ _ a.i _ a.t c.requires.1 c.in-Ask.a
          frame w.work-is (omega (arith, w.if-i-lt-DEEPEST.false)) told refl
          small c.asking.ensures
    ]

pub shape_of-work-after-i-lt-DEEPEST-2 : goal.shape_of-work-after-i-lt-DEEPEST-2
shape_of-work-after-i-lt-DEEPEST-2 c =
    elim c.if-i-lt-DEEPEST-2.branch [
      | then-i-lt-DEEPEST-2 w ↦ ap length w.work-is ∙ (w.move_on.ensures c.in-Next.a refl).long
      | else-i-lt-DEEPEST-2 w ↦ ap length w.work-is
    ]

pub returns-after-i-lt-DEEPEST-2 : goal.returns-after-i-lt-DEEPEST-2
unfolding plan_of
returns-after-i-lt-DEEPEST-2 c =
    let small : c.in-Next.a.mask < 2 ^ 64 =
    search rules in
    let a = c.args in
    let frame = next_of (frame_at a.work.now (10 * a.i)) c.in-Next.a in
    let told = c.in-Next.is in
    elim c.if-i-lt-DEEPEST-2.branch [
      | then-i-lt-DEEPEST-2 w ↦ carried-asked _ _ _ _ a.i _ a.t c.requires.1 c.in-Next.a {g = frame}
          w.if-i-lt-DEEPEST-2.true told refl small
          (subst (Opened a.work.now (10 * a.i) frame (present a.work.now a.m) a.m.mark) (sym w.work-is) (w.move_on.ensures c.in-Next.a refl))
          c.asking-in-Next.ensures
      | else-i-lt-DEEPEST-2 w ↦ carried-deepest-in _ _ _ _ a.i _ a.t c.requires.1 c.in-Next.a
          frame w.work-is (omega (arith, w.if-i-lt-DEEPEST-2.false)) told refl
          small c.asking-in-Next.ensures
    ]

pub returns-then-i-ge-DEEPEST : goal.returns-then-i-ge-DEEPEST
returns-then-i-ge-DEEPEST c =
    carried-unscoped-deepest _ _ _ _ _ _ _ c.requires.1 c.requires.0 c.if-i-ge-DEEPEST.true c.in-Unscope.is c.state-outer.ensures

pub returns-else-i-ge-DEEPEST : goal.returns-else-i-ge-DEEPEST
returns-else-i-ge-DEEPEST c =
    let small : c.in-Unscope.mask < 2 ^ 64 =
    search rules in
    carried-unscoped _ _ _ _ _ _ _ c.requires.1 (omega (arith, c.if-i-ge-DEEPEST.false)) c.in-Unscope.is small
    c.kept_mask.ensures refl c.copy_words.ensures (ap (with-mask _) c.state-outer.ensures)
