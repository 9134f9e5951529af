use Rattle.std.proofs.Common.{◌+◌, get_or, sym, ◌∙◌, subst}
use Rattle.index.proofs.Keying.{above_zero}
use Rattle.index.proofs.Chaining.{Follows, follows-head, follows-less, follows-past, follows_next, follows-found, follows-end}
use Rattle.index.proofs.chains.Layout.find.Goals as goal
use Rattle.index.proofs.chains.Layout.find.Goals.{else-k-m-via-else-k-m, else-k-m-via-then-k-m+else-has}

pub loop-x-init : goal.loop-x-init
loop-x-init c =
    subst (λ p. Follows c.args.store.now c.args.r
    c.args.self.n c.args.m
    c.args.top (get_or c.args.index.now
    (c.args.self.at + p) 0)) (sym c.home_of.ensures.is)
    (follows-head c.requires.0 c.args.r c.args.m c.requires.1)

pub returns-then-has : goal.returns-then-has
returns-then-has c =
    follows-found c.requires.0
    c.args.r
    c.args.m c.loop-x.x
    (above_zero c.loop-x-test.true) c.loop-x.invariant
    c.if-k-m.true (sym c.has.ensures ∙ c.if-has.true)

pub loop-x-smaller : goal.loop-x-smaller
loop-x-smaller c =
    follows-less c.requires.0
    c.args.r
    c.args.m c.loop-x.x
    (above_zero c.loop-x-test.true) c.loop-x.invariant

pub loop-x-preserved : goal.loop-x-preserved
loop-x-preserved c =
    elim c.else-k-m.branch [
      | else-k-m-via-then-k-m+else-has w ↦ follows_next c.requires.0
          c.args.r
          c.args.m c.loop-x.x
          (above_zero c.loop-x-test.true) c.loop-x.invariant w.if-k-m.true
          (sym w.has.ensures ∙ w.if-has.false)
      | else-k-m-via-else-k-m w ↦ follows-past c.requires.0
          c.args.r
          c.args.m c.loop-x.x
          (above_zero c.loop-x-test.true) c.loop-x.invariant w.if-k-m.false
    ]

pub returns : goal.returns
returns c =
    follows-end c.requires.0 c.args.r
    c.args.m c.loop-x.x c.loop-x-test.false c.loop-x.invariant
