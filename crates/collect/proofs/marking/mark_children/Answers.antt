use mathlib.Core.Path.{◌≡◌, refl, sym, ◌∙◌, subst}
use Prim.Native.Nat.{ℕ, suc}
use native.Mathlib.Numerals.{add-one}
use native.Mathlib.Omega.{arith}
use lib.Dec.{eqb}
use Rattle.checks.specs.Good.{child_count, child}
use Rattle.collect.specs.Reachable.{among, is_child}
use Rattle.collect.specs.Passes.{MarksOver}
use Rattle.collect.proofs.Flagging.{marks-set, among-more, among_same}
use Rattle.collect.proofs.marking.mark_children.Goals as goal

pub loop-i-init : goal.loop-i-init
unfolding among
loop-i-init c = record { long = refl; at = λ i l. refl }

pub held-requires : goal.held-requires
held-requires c = omega (arith, c.requires.0)

pub bounds-work-held : goal.bounds-work-held
bounds-work-held c = omega (arith, c.requires.1 c.loop-i.i (omega arith), c.held.ensures, c.loop-i.invariant.long)

pub loop-i-preserved : goal.loop-i-preserved
loop-i-preserved c =
    let a = c.args in
    let i : ℕ = c.loop-i.i in
    let s = a.store.now in
    let k : ℕ = a.k in
    let t : child s k i ≡ c.held.result = sym c.held.ensures in
    rw add-one
    (marks-set _ _ c.loop-i.work (λ j. among (λ m. eqb (child s k m) j) i) (λ j. among (λ m. eqb (child s k m) j) (suc i)) c.held.result
    c.loop-i.invariant
    (omega (arith, c.requires.1 i (omega arith)))
    (λ j d. among_same (λ m. child s k m) j i (λ e. d (sym e ∙ t)))
    (among-more (λ m. child s k m) c.held.result i t))

pub returns : goal.returns
unfolding is_child
returns c =
    let a = c.args in
    let all : c.loop-i.i ≡ child_count a.store.now a.k = omega arith in
    subst (λ (n : ℕ). MarksOver a.work.now (λ j. among (λ m. eqb (child a.store.now a.k m) j) n) c.loop-i.work) all c.loop-i.invariant
