-- `free::passes::rule` meets its contract, arm by arm. Assumes nothing.
use mathlib.Core.Path.{◌≡◌, ap, sym, ◌∙◌}
use mathlib.Core.Logic.{◌≢◌}
use Prim.Native.Nat.{◌<◌}
use native.Mathlib.Omega.{arith}
use borrow.Author.Rules.{rules}
use borrow.Author.Tests.{eq-eqb, ne_eqb}
use Rattle.checks.specs.Kinds.{ours, variables, operands_from_by}
use Rattle.checks.specs.Good.{kind_of}
use Rattle.checks.proofs.Good.{operand_count-six, operand-scope}
use Rattle.free.specs.Passes.{ruled}
use Rattle.meaning.proofs.Bits.{bit-shift}
use Rattle.free.proofs.Entries.{variable-below}
use Rattle.free.proofs.passes.rule.Goals as goal
use Rattle.free.proofs.passes.rule.Goals.{After-operands_from, After-word}

pub operand-requires : goal.operand-requires
operand-requires c =
    let is-16 : kind_of c.args.table.now c.args.e ≡ 16 =
    sym c.kind_of.ensures ∙ c.in-16.is in
    (c.operands_from.ensures ∙ ap (operands_from_by ours) (sym is-16), omega (arith, c.operands_from.ensures))

pub overflow_shl-result : goal.overflow_shl-result
overflow_shl-result c =
    let is-18 : (kind_of c.args.table.now c.args.e ≡ 18) × (c.word.result < variables) =
    let k = sym c.kind_of.ensures ∙ c.in-18.is in
    (k, omega (arith, variable-below ours _ _ (omega arith) c.requires k, c.word.ensures)) in
    omega (arith, is-18.1)

pub joined-requires : goal.joined-requires
joined-requires c = operand_count-six ours _ _ c.requires

pub returns-in-16 : goal.returns-in-16
unfolding ruled
returns-in-16 c =
    let is-16 : kind_of c.args.table.now c.args.e ≡ 16 =
    sym c.kind_of.ensures ∙ c.in-16.is in
    let a = c.args in
    let k = is-16 in
    let o = c.operand.ensures ∙ operand-scope ours a.table.now a.e k in
    rw (c.mask_at.ensures, o, c.mask.ensures, eq-eqb (kind_of a.table.now a.e) 16 k)

pub returns-in-18 : goal.returns-in-18
unfolding ruled
returns-in-18 c =
    let is-18 : (kind_of c.args.table.now c.args.e ≡ 18) × (c.word.result < variables) =
    let k = sym c.kind_of.ensures ∙ c.in-18.is in
    (k, omega (arith, variable-below ours _ _ (omega arith) c.requires k, c.word.ensures)) in
    let k = is-18.0 in
    let n : kind_of c.args.table.now c.args.e ≢ 16 = λ z. absurd (omega arith) in
    bit-shift variables c.word.result is-18.1 ∙ rw (c.word.ensures, ne_eqb _ _ n, eq-eqb _ _ k)

pub returns-in_default : goal.returns-in_default
unfolding ruled
returns-in_default c =
    rw (
      c.joined.ensures,
      ne_eqb _ _ (λ z. c.in_default.in_default-own.rest.0.1 (c.kind_of.ensures ∙ z)),
      ne_eqb _ _ (λ z. c.in_default.in_default-own.rest.1 (c.kind_of.ensures ∙ z)),
    )
