use Rattle.check_rules.proofs.Lines.{known}
use Rattle.check_rules.proofs.Ranging.{far-begin, far-early, far-asked, far-on, far-one, far-end}
use Rattle.check_rules.specs.Far.{settled_of}
use Rattle.std.specs.Prelude.{Some, None}
use native.Mathlib.Omega.{arith}
use lib.Dec.{leb}
use borrow.Author.Tests.{leb-true, leb-false}
use Rattle.meaning.proofs.Tests.{decided}
use mathlib.Core.Path.{refl}
use mathlib.Core.Logic.{inl, inr}
use Rattle.check_rules.proofs.far.far_fault.Goals as goal

pub returns-in_default : goal.returns-in_default
returns-in_default c = far-early (known c.args.rule.now) _ (settled_of None) c.in_default.ensures refl

pub loop-low-init : goal.loop-low-init
loop-low-init c =
    let most = c.max-low.result in
    let first = c.in-Some.first in
    far-begin (known c.args.rule.now) (settled_of (Some first)) c.in-Some.ensures refl most (omega (arith, c.max-low.ensures))
    (decided (leb first 64)
    (λ p. let q = leb-true first 64 p in inl (omega (arith, c.max-low.ensures)))
    (λ p. let q = leb-false first 64 p in inr (omega (arith, c.max-low.ensures))))

pub returns-in_default-pass : goal.returns-in_default-pass
returns-in_default-pass c = far-early (known c.args.rule.now) _ (settled_of None) c.in_default-pass.ensures refl

pub loop-low-preserved-then-low-below : goal.loop-low-preserved-then-low-below
loop-low-preserved-then-low-below c =
    far-on c.loop-low.invariant (settled_of (Some c.in-Some-pass.below)) c.in-Some-pass.ensures refl c.in-Some-pass.below (omega arith) (inr refl)

pub returns-then-unbound : goal.returns-then-unbound
returns-then-unbound c = far-asked (known c.args.rule.now) _ c.unbound.result c.unbound.ensures c.if-unbound.true

pub loop-low-preserved : goal.loop-low-preserved
loop-low-preserved c = far-one c.loop-low.invariant c.unbound.result c.unbound.ensures c.if-unbound.false

pub returns : goal.returns
returns c = far-end c.loop-low.invariant c.loop-low-test.false
