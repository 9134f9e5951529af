use Rattle.std.proofs.Common.{sym, refl, ◌∙◌, arith, rules}
use Rattle.tallying.proofs.Onward.{counted_none, nearer, further}
use Rattle.tallying.proofs.count_on.Goals as goal

pub loop-kept-init : goal.loop-kept-init
loop-kept-init c =
    let p = c.requires in
    (counted_none p.0 p.1 p.2 p.3 refl refl, p.4, search rules)

pub count_turn-s-requires : goal.count_turn-s-requires
count_turn-s-requires c =
    let so = c.loop-kept.invariant.0 in
    (c.goes_on.ensures.goes c.loop-kept-test.true, so.low, omega (arith, so.long))

pub go-m-requires : goal.go-m-requires
go-m-requires c = let so = c.loop-kept.invariant.0 in (so.level, so.low, omega arith, so.lent)

pub loop-kept-smaller : goal.loop-kept-smaller
loop-kept-smaller c =
    let inv = c.loop-kept.invariant in
    nearer inv.1 inv.2 inv.0 c.count_turn-s.ensures _ (c.go-m.ensures.alone refl)

pub loop-kept-preserved : goal.loop-kept-preserved
loop-kept-preserved c =
    let inv = c.loop-kept.invariant in
    (further inv.1 inv.2 inv.0 c.count_turn-s.ensures _ (c.go-m.ensures.alone refl), inv.1, inv.2)

pub shape_of-store : goal.shape_of-store
shape_of-store c = c.loop-kept.invariant.0.store

pub shape_of-work : goal.shape_of-work
shape_of-work c = c.loop-kept.invariant.0.work

pub shape_of-kept : goal.shape_of-kept
shape_of-kept c = c.loop-kept.invariant.0.long ∙ sym c.requires.3

pub shape_of-counts : goal.shape_of-counts
shape_of-counts c = c.loop-kept.invariant.0.counts.long

pub returns : goal.returns
returns c = (c.loop-kept.invariant.0, c.goes_on.ensures.stops c.loop-kept-test.false)
