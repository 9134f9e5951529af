-- `builder::build_variable` meets its contract: the limits first, then the variable's node, or that it has none.
use borrow.Author.Tests.{eqb-true, eqb-false}
use mathlib.Core.Path.{sym, ◌∙◌}
use Prim.Native.Nat.{◌<◌}
use native.Mathlib.Omega.{arith}
use Rattle.checks.specs.Kinds.{variables}
use Rattle.state.proofs.Holding.{further, framed-refl}
use Rattle.leaves.proofs.Limited.{units-out, nesting-out}
use Rattle.leaves.proofs.Building.{variable-built, variable-unbound}
use Rattle.leaves.proofs.builder.build_variable.Goals as goal
use Rattle.leaves.proofs.builder.build_variable.Goals.{After-entry-v}

pub returns-then-units-eq0 : goal.returns-then-units-eq0
returns-then-units-eq0 c = λ w s k. record { is = units-out _ _ _ _ _ _ _ c.no_units.ensures c.if-units-eq0.true; frame = framed-refl further _ }

pub returns-then-deep-eq0 : goal.returns-then-deep-eq0
returns-then-deep-eq0 c = λ w s k. record {
  is = nesting-out _ _ _ _ _ _ _ c.no_nesting.ensures (omega arith) c.if-units-eq0.false
      c.if-deep-eq0.true;
  frame = framed-refl further _;
}

pub is_bound-requires : goal.is_bound-requires
is_bound-requires c =
    let small : c.entry-v.result < variables =
    omega (
      arith,
      c.requires.0.variable _ c.requires.1
          c.requires.2,
      c.entry-v.ensures,
    ) in
    small

pub word_of-requires : goal.word_of-requires
word_of-requires c =
    let small : c.entry-v.result < variables =
    omega (
      arith,
      c.requires.0.variable _ c.requires.1
          c.requires.2,
      c.entry-v.ensures,
    ) in
    small

pub returns-then-is_bound : goal.returns-then-is_bound
returns-then-is_bound c =
    let small : c.entry-v.result < variables =
    omega (
      arith,
      c.requires.0.variable _ c.requires.1
          c.requires.2,
      c.entry-v.ensures,
    ) in
    λ w s k. variable-built _ _ _ _ _ _ c.if-units-eq0.false
    c.if-deep-eq0.false _ c.requires.2
    c.entry-v.ensures k _ (omega arith) s small
    (eqb-true _ 1 (sym c.is_bound.ensures ∙ c.if-is_bound.true)) c.word_of.ensures c.done.ensures

pub no_binding-requires : goal.no_binding-requires
no_binding-requires c =
    let small : c.entry-v.result < variables =
    omega (
      arith,
      c.requires.0.variable _ c.requires.1
          c.requires.2,
      c.entry-v.ensures,
    ) in
    let v = small in omega arith

pub returns : goal.returns
returns c =
    let small : c.entry-v.result < variables =
    omega (
      arith,
      c.requires.0.variable _ c.requires.1
          c.requires.2,
      c.entry-v.ensures,
    ) in
    λ w s k. variable-unbound _ _ _ _ _ _ c.if-units-eq0.false
    c.if-deep-eq0.false _ c.requires.2
    c.entry-v.ensures k _ (omega arith) small
    (eqb-false _ 1 (sym c.is_bound.ensures ∙ c.if-is_bound.false)) c.no_binding.ensures
