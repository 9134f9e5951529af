-- `go` meets its contract: the parts of the invariant, at each place. Assumes nothing.
use mathlib.Core.Path.{refl, sym, ◌∙◌}
use mathlib.Core.Bool.{true≢false}
use Rattle.machine.proofs.Going.{none_yet, deep-enough, nearer, further, stopped, gone-once, gone-stopped}
use Rattle.machine.proofs.go.Goals as goal

pub loop-next-init : goal.loop-next-init
loop-next-init c = (none_yet c.requires.0 c.requires.1 c.requires.2 c.requires.3, λ _. (refl, refl, refl))

pub turned-m-requires : goal.turned-m-requires
turned-m-requires c =
    let d = deep-enough c.loop-next.invariant.0 _ _ c.in-Some.ensures in
    (d.0, d.1, c.loop-next.invariant.0.lent)

pub shape_of-store-then-once : goal.shape_of-store-then-once
shape_of-store-then-once c = c.turned-m.ensures.store ∙ c.loop-next.invariant.0.store

pub shape_of-work-then-once : goal.shape_of-work-then-once
shape_of-work-then-once c = c.turned-m.ensures.work ∙ c.loop-next.invariant.0.work

pub returns-then-once : goal.returns-then-once
returns-then-once c = gone-once c.loop-next.invariant.1 c.if-once.true c.in-Some.ensures c.turned-m.ensures

pub loop-next-smaller : goal.loop-next-smaller
loop-next-smaller c = nearer c.loop-next.invariant.0 _ _ c.in-Some.ensures _ c.turned-m.ensures

pub loop-next-preserved : goal.loop-next-preserved
loop-next-preserved c = (
  further c.loop-next.invariant.0 _ _ c.in-Some.ensures _ c.turned-m.ensures,
  λ e. absurd (true≢false (sym e ∙ c.if-once.false)),
)

pub returns : goal.returns
returns c = gone-stopped c.loop-next.invariant.1 c.in_default.ensures (stopped c.loop-next.invariant.0 c.in_default.ensures)
