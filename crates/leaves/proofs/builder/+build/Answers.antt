use mathlib.Core.Path.{◌≡◌, refl, sym, ◌∙◌}
use native.Mathlib.Omega.{arith}
use borrow.Author.Rules.{rules}
use lib.ListN.{length, length-set}
use Rattle.checks.specs.Good.{operand_count}
use Rattle.state.specs.Visits.{Pattern, Builds}
use Rattle.state.proofs.Asking.{Tagged-not_done}
use Rattle.state.proofs.AnswerWords.{done-node}
use Rattle.state.proofs.Holding.{further, framed-refl}
use Rattle.leaves.proofs.Limited.{units-out, nesting-out}
use Rattle.leaves.proofs.Patterns.{no-variable, operand-pattern}
use Rattle.leaves.proofs.Building.{builds-at, built-none, built-all, built-more, build-stops}
use Prim.Native.Nat.{◌-◌, ◌<◌}
use Rattle.leaves.proofs.builder.+build.Goals as goal
use Rattle.leaves.proofs.builder.+build.Goals.{else-kind-eq-PVAR-2, then-kind-eq-PVAR-2}

pub build_variable-requires : goal.build_variable-requires
build_variable-requires t c = (
  c.requires.0,
  c.requires.1,
  sym c.kind.ensures ∙ c.if-kind-eq-PVAR.true,
)

pub returns-then-kind-eq-PVAR : goal.returns-then-kind-eq-PVAR
returns-then-kind-eq-PVAR t c = c.build_variable.ensures _ c.requires.3

pub returns-then-units-eq0 : goal.returns-then-units-eq0
returns-then-units-eq0 t c = λ k. record {
  is = units-out _ _ _ _ _ _ _ c.no_units.ensures c.if-units-eq0.true;
  frame = framed-refl
      further _;
}

pub returns-then-deep-eq0 : goal.returns-then-deep-eq0
returns-then-deep-eq0 t c = λ k. record {
  is = nesting-out _ _ _ _ _ _ _ c.no_nesting.ensures (omega arith)
      c.if-units-eq0.false c.if-deep-eq0.true;
  frame = framed-refl further _;
}

pub loop-i-init : goal.loop-i-init
loop-i-init t c = let k = no-variable c.args.table.now c.args.p _ c.requires.2
    c.kind.ensures c.if-kind-eq-PVAR.false in (
      search rules,
      c.operands-n.ensures,
      k,
      omega arith,
      refl,
      refl,
      built-none _ _ _ _ _ _ c.if-units-eq0.false c.if-deep-eq0.false _ _ c.entry.ensures
          c.operands-n.ensures k c.requires.3,
    )

pub overflow_add-i : goal.overflow_add-i
overflow_add-i t c = omega (
  arith,
  c.requires.0.few _
      c.requires.1,
)

pub entry-q-requires : goal.entry-q-requires
entry-q-requires t c = omega (
  arith,
  c.requires.0.few _
      c.requires.1,
)

pub kind-requires-in-loop-i : goal.kind-requires-in-loop-i
kind-requires-in-loop-i t c =
    let below : c.loop-i.i < operand_count c.args.table.now c.args.p =
    omega arith in
    let operand : (c.entry-q.result < 4096) × Pattern c.args.table.now c.entry-q.result =
    operand-pattern _ c.requires.0 _ _ _
    c.requires.1 c.loop-i.invariant.2
    below c.entry-q.ensures in
    operand.0

pub build_variable-got-requires : goal.build_variable-got-requires
build_variable-got-requires t c
    =
    let below : c.loop-i.i < operand_count c.args.table.now c.args.p =
    omega arith in
    let operand : (c.entry-q.result < 4096) × Pattern c.args.table.now c.entry-q.result =
    operand-pattern _ c.requires.0 _ _ _
    c.requires.1 c.loop-i.invariant.2
    below c.entry-q.ensures in (
      c.requires.0,
      operand.0,
      sym c.kind-in-loop-i.ensures ∙ c.if-kind-eq-PVAR-2.true,
    )

pub build-got-requires : goal.build-got-requires
build-got-requires t c =
    let below : c.loop-i.i < operand_count c.args.table.now c.args.p =
    omega arith in
    let operand : (c.entry-q.result < 4096) × Pattern c.args.table.now c.entry-q.result =
    operand-pattern _ c.requires.0 _ _ _
    c.requires.1 c.loop-i.invariant.2
    below c.entry-q.ensures in
    let i = c.loop-i.invariant in
    let q = operand in (
      omega arith,
      (
        c.requires.0,
        q.0,
        q.1,
        i.6.steady,
        i.6.frame.long
            ∙ c.requires.4,
      ),
    )

pub returns-in_default : goal.returns-in_default
returns-in_default t c =
    let below : c.loop-i.i < operand_count c.args.table.now c.args.p =
    omega arith in
    let came : (length c.if-kind-eq-PVAR-2.store ≡ length c.loop-i.store) × Builds c.args.table.now c.loop-i.store c.loop-i.st c.entry-q.result c.loop-i.left (c.args.deep - 1) c.if-kind-eq-PVAR-2.got c.if-kind-eq-PVAR-2.st c.if-kind-eq-PVAR-2.store =
    let l = c.loop-i in
    elim c.if-kind-eq-PVAR-2.branch [ then-kind-eq-PVAR-2 w ↦ builds-at _ _ _ _ _ _ _ _ _ _ _ _ w.store-is w.st-is w.got-is refl (w.build_variable-got.ensures _ l.invariant.6.steady) | else-kind-eq-PVAR-2 w ↦ builds-at _ _ _ _ _ _ _ _ _ _ _ _ w.store-is w.st-is w.got-is w.build-got.auto.store w.build-got.ensures ] in
    let g = came in
    build-stops _ _ _ _ _ _ _ _ _ _ c.loop-i.invariant.6
    (c.requires.0.few _ c.requires.1) below _ _
    c.entry-q.ensures _ _ g.1 _ c.answer_of.ensures (Tagged-not_done _ c.in_default.not-Done)

pub shape_of-store-in_default : goal.shape_of-store-in_default
shape_of-store-in_default t c =
    let came : (length c.if-kind-eq-PVAR-2.store ≡ length c.loop-i.store) × Builds c.args.table.now c.loop-i.store c.loop-i.st c.entry-q.result c.loop-i.left (c.args.deep - 1) c.if-kind-eq-PVAR-2.got c.if-kind-eq-PVAR-2.st c.if-kind-eq-PVAR-2.store =
    let l = c.loop-i in
    elim c.if-kind-eq-PVAR-2.branch [ then-kind-eq-PVAR-2 w ↦ builds-at _ _ _ _ _ _ _ _ _ _ _ _ w.store-is w.st-is w.got-is refl (w.build_variable-got.ensures _ l.invariant.6.steady) | else-kind-eq-PVAR-2 w ↦ builds-at _ _ _ _ _ _ _ _ _ _ _ _ w.store-is w.st-is w.got-is w.build-got.auto.store w.build-got.ensures ] in
    came.0 ∙ c.loop-i.invariant.4

pub bounds-made-i : goal.bounds-made-i
bounds-made-i t c = omega (
  arith,
  c.requires.0.few
      _ c.requires.1,
)

pub loop-i-preserved : goal.loop-i-preserved
loop-i-preserved t c =
    let below : c.loop-i.i < operand_count c.args.table.now c.args.p =
    omega arith in
    let came : (length c.if-kind-eq-PVAR-2.store ≡ length c.loop-i.store) × Builds c.args.table.now c.loop-i.store c.loop-i.st c.entry-q.result c.loop-i.left (c.args.deep - 1) c.if-kind-eq-PVAR-2.got c.if-kind-eq-PVAR-2.st c.if-kind-eq-PVAR-2.store =
    let l = c.loop-i in
    elim c.if-kind-eq-PVAR-2.branch [ then-kind-eq-PVAR-2 w ↦ builds-at _ _ _ _ _ _ _ _ _ _ _ _ w.store-is w.st-is w.got-is refl (w.build_variable-got.ensures _ l.invariant.6.steady) | else-kind-eq-PVAR-2 w ↦ builds-at _ _ _ _ _ _ _ _ _ _ _ _ w.store-is w.st-is w.got-is w.build-got.auto.store w.build-got.ensures ] in
    let i = c.loop-i.invariant in
    let g = came in (
      search rules,
      i.1,
      i.2,
      omega (arith, done-node _ _ _ (sym c.answer_of.ensures ∙ c.in-Done.is)),
      g.0 ∙ i.4,
      simp length-set i.5,
      built-more _ _ _ _ _ _ _ _ _ _ i.6 (c.requires.0.few _ c.requires.1)
          below _ _
          c.entry-q.ensures _ _ g.1 _
          c.answer_of.ensures c.requires.0 _ _ c.in-Done.is,
    )

-- the row is whole: the index is asked, or the node is made
pub node_asked-requires : goal.node_asked-requires
node_asked-requires t c = (
  c.loop-i.invariant.6.steady.fits,
  c.loop-i.invariant.6.frame.long
      ∙ c.requires.4,
  c.if-st.true,
)

pub returns-then-st : goal.returns-then-st
returns-then-st t c = let l : operand_count c.args.table.now c.args.p
    ≡ c.loop-i.i = omega arith in
    built-all _ _ _ _ _ _ _ _ _ _ c.loop-i.invariant.6
    (c.requires.0.few _ c.requires.1) l _ _ _ c.node_asked.ensures

pub node-requires : goal.node-requires
node-requires t c = (
  c.loop-i.invariant.6.steady.fits,
  c.loop-i.invariant.6.frame.long
      ∙ c.requires.4,
)

pub returns : goal.returns
returns t c = let l : operand_count c.args.table.now c.args.p
    ≡ c.loop-i.i = omega arith in
    built-all _ _ _ _ _ _ _ _ _ _ c.loop-i.invariant.6
    (c.requires.0.few _ c.requires.1) l _ _ _ c.node.ensures
