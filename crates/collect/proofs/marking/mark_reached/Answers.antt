use Prim.Native.Nat.{ℕ, ◌-◌}
use native.Mathlib.Omega.{arith}
use lib.ListN.{length}
use Rattle.collect.specs.Refused.{Lent}
use Rattle.collect.specs.Collected.{lent}
use Rattle.collect.proofs.Flagging.{pass-begun, pass-marked, pass-passed, pass-ended}
use Rattle.collect.proofs.Accepting.{mark-inside, few, below}
use Rattle.collect.proofs.marking.mark_reached.Goals as goal

pub mark_roots-requires : goal.mark_roots-requires
mark_roots-requires c =
    let a = c.args in
    let i : Lent = lent a.store.now a.bindings.now a.work.now a.mark a.subject in
    (omega (arith, c.requires.subject, mark-inside i c.requires), λ v. omega (arith, c.requires.bound v, mark-inside i c.requires))

pub loop-k-init : goal.loop-k-init
loop-k-init c =
    let a = c.args in
    pass-begun a.store.now a.bindings.now a.mark a.subject (length a.work.now) c.mark_roots.new.work c.mark_roots.ensures

pub bounds-work-k : goal.bounds-work-k
bounds-work-k c =
    let a = c.args in
    let i : Lent = lent a.store.now a.bindings.now a.work.now a.mark a.subject in
    omega (arith, c.loop-k.invariant.long, c.mark_roots.ensures.long, mark-inside i c.requires)

pub mark_children-requires : goal.mark_children-requires
mark_children-requires c =
    let a = c.args in
    let i : Lent = lent a.store.now a.bindings.now a.work.now a.mark a.subject in
    let k : ℕ = c.loop-k.k - 1 in (
      few i c.requires k (omega arith),
      λ j l. omega (arith, below i c.requires k j (omega arith) l, c.loop-k.invariant.long, c.mark_roots.ensures.long, mark-inside i c.requires),
    )

pub loop-k-preserved-then-work-k-ne0 : goal.loop-k-preserved-then-work-k-ne0
loop-k-preserved-then-work-k-ne0 c =
    let a = c.args in
    let i : Lent = lent a.store.now a.bindings.now a.work.now a.mark a.subject in
    pass-marked a.store.now a.bindings.now a.mark a.subject (length c.mark_roots.new.work) c.loop-k.k c.loop-k.work
    (omega arith) (omega arith) (omega (arith, c.mark_roots.ensures.long, mark-inside i c.requires)) c.loop-k.invariant
    c.mark_children.new.work c.if-work-k-ne0.true c.mark_children.ensures

pub loop-k-preserved : goal.loop-k-preserved
loop-k-preserved c =
    let a = c.args in
    let i : Lent = lent a.store.now a.bindings.now a.work.now a.mark a.subject in
    pass-passed a.store.now a.bindings.now a.mark a.subject (length c.mark_roots.new.work) c.loop-k.k c.loop-k.work
    (omega arith) (omega arith) (omega (arith, c.mark_roots.ensures.long, mark-inside i c.requires)) c.loop-k.invariant
    c.if-work-k-ne0.false

pub shape_of-work : goal.shape_of-work
shape_of-work c =
    omega (arith, c.loop-k.invariant.long, c.mark_roots.ensures.long)

pub returns : goal.returns
returns c =
    let a = c.args in
    pass-ended a.store.now a.bindings.now a.mark a.subject (length c.mark_roots.new.work) (length a.work.now) c.loop-k.k c.loop-k.work
    c.mark_roots.ensures.long c.loop-k-test.false c.loop-k.invariant
