use mathlib.Core.Path.{◌≡◌, sym, ◌∙◌}
use mathlib.Core.Bool.{true}
use Prim.Native.Nat.{◌<◌, ◌≤◌}
use native.Mathlib.Omega.{arith}
use borrow.Author.Tests.{eqb-false, eqb-true, not-false, not-true}
use Rattle.checks.specs.Kinds.{variables}
use Rattle.checks.specs.Good.{kind_of, operand_count}
use Rattle.state.specs.Record.{held}
use Rattle.state.specs.Visits.{agreeing}
use Rattle.state.proofs.Asking.{Tagged-not_done}
use Rattle.state.proofs.AnswerWords.{done-node}
use Rattle.leaves.proofs.Matching.{Turn, child-there, bound-there, handed-there, going-there, going-bound, going-none}
use Rattle.leaves.proofs.Matching.{going-turn, going_on, going-long, going-down, matched-all, operand-is, variable-small}
use Rattle.leaves.proofs.Matching.{constructor-is, child-units, inner-stopped, free-matched, bound-matched, bound-stops, other}
use Rattle.leaves.proofs.Matching.{leaf-matched, handed, inner-matched, inner-refused}
use Rattle.leaves.proofs.matcher.match_in_place.Goals as goal

pub loop-i-init : goal.loop-i-init
loop-i-init c = let h = c.requires in (
  omega arith,
  c.operands-n.ensures,
  omega arith,
  h.1.4,
  h.0,
  going-none _ _ _ _
      _ _ h.1.1 h.1.2 h.1.3 h.1.5 h.2,
)

pub overflow_add-i : goal.overflow_add-i
overflow_add-i c =
    let few : operand_count c.args.table.now c.loop-i.x ≤ 6 =
    c.requires.1.0.few _ c.loop-i.invariant.5.inside in
    omega (arith, few)

pub entry-q-requires : goal.entry-q-requires
entry-q-requires c =
    let few : operand_count c.args.table.now c.loop-i.x ≤ 6 =
    c.requires.1.0.few _ c.loop-i.invariant.5.inside in
    (c.loop-i.invariant.5.inside, omega (arith, few))

pub overflow_add-i-in-loop-i : goal.overflow_add-i-in-loop-i
overflow_add-i-in-loop-i c =
    let few : operand_count c.args.table.now c.loop-i.x ≤ 6 =
    c.requires.1.0.few _ c.loop-i.invariant.5.inside in
    omega (arith, few)

pub node_word-c-requires : goal.node_word-c-requires
node_word-c-requires c =
    let few : operand_count c.args.table.now c.loop-i.x ≤ 6 =
    c.requires.1.0.few _ c.loop-i.invariant.5.inside in
    (going-there c.loop-i.invariant.5, omega (arith, few))

pub returns-then-left-eq0 : goal.returns-then-left-eq0
returns-then-left-eq0 c =
    let turn : let a = c.args in let l = c.loop-i in Turn a.table.now a.store.now l.d l.x l.invariant.5.given l.invariant.5.held_then l.st l.left l.i c.entry-q.result c.node_word-c.result =
    let l = c.loop-i.invariant in
    going-turn l.5 c.requires.1.0 (omega arith) c.entry-q.ensures
    c.node_word-c.ensures l.2 in
    c.loop-i.invariant.5.whole _ _
    (child-units turn c.no_units.ensures c.if-left-eq0.true)

pub overflow_add-i-in-loop-i-2 : goal.overflow_add-i-in-loop-i-2
overflow_add-i-in-loop-i-2 c =
    let few : operand_count c.args.table.now c.loop-i.x ≤ 6 =
    c.requires.1.0.few _ c.loop-i.invariant.5.inside in
    omega (arith, few)

pub kind-requires : goal.kind-requires
kind-requires c =
    let turn : let a = c.args in let l = c.loop-i in Turn a.table.now a.store.now l.d l.x l.invariant.5.given l.invariant.5.held_then l.st l.left l.i c.entry-q.result c.node_word-c.result =
    let l = c.loop-i.invariant in
    going-turn l.5 c.requires.1.0 (omega arith) c.entry-q.ensures
    c.node_word-c.ensures l.2 in
    (operand-is turn).0

pub entry-v-requires : goal.entry-v-requires
entry-v-requires c =
    let turn : let a = c.args in let l = c.loop-i in Turn a.table.now a.store.now l.d l.x l.invariant.5.given l.invariant.5.held_then l.st l.left l.i c.entry-q.result c.node_word-c.result =
    let l = c.loop-i.invariant in
    going-turn l.5 c.requires.1.0 (omega arith) c.entry-q.ensures
    c.node_word-c.ensures l.2 in
    ((operand-is turn).0, omega arith)

pub is_bound-requires : goal.is_bound-requires
is_bound-requires c =
    let turn : let a = c.args in let l = c.loop-i in Turn a.table.now a.store.now l.d l.x l.invariant.5.given l.invariant.5.held_then l.st l.left l.i c.entry-q.result c.node_word-c.result =
    let l = c.loop-i.invariant in
    going-turn l.5 c.requires.1.0 (omega arith) c.entry-q.ensures
    c.node_word-c.ensures l.2 in
    let is-variable : kind_of c.args.table.now c.entry-q.result ≡ 18 =
    sym c.kind.ensures ∙ c.if-kind-eq-PVAR.true in
    let small : c.entry-v.result < variables =
    variable-small turn is-variable c.entry-v.ensures in
    small

pub word_of-requires : goal.word_of-requires
word_of-requires c =
    let turn : let a = c.args in let l = c.loop-i in Turn a.table.now a.store.now l.d l.x l.invariant.5.given l.invariant.5.held_then l.st l.left l.i c.entry-q.result c.node_word-c.result =
    let l = c.loop-i.invariant in
    going-turn l.5 c.requires.1.0 (omega arith) c.entry-q.ensures
    c.node_word-c.ensures l.2 in
    let is-variable : kind_of c.args.table.now c.entry-q.result ≡ 18 =
    sym c.kind.ensures ∙ c.if-kind-eq-PVAR.true in
    let small : c.entry-v.result < variables =
    variable-small turn is-variable c.entry-v.ensures in
    small

pub same-got-requires : goal.same-got-requires
same-got-requires c =
    let turn : let a = c.args in let l = c.loop-i in Turn a.table.now a.store.now l.d l.x l.invariant.5.given l.invariant.5.held_then l.st l.left l.i c.entry-q.result c.node_word-c.result =
    let l = c.loop-i.invariant in
    going-turn l.5 c.requires.1.0 (omega arith) c.entry-q.ensures
    c.node_word-c.ensures l.2 in
    let is-variable : kind_of c.args.table.now c.entry-q.result ≡ 18 =
    sym c.kind.ensures ∙ c.if-kind-eq-PVAR.true in
    let k = turn in (
      bound-there k is-variable c.entry-v.ensures (eqb-true _ 1 (sym c.is_bound.ensures ∙ c.if-is_bound.true))
          c.word_of.ensures c.loop-i.invariant.5.bound-then,
      child-there k,
    )

pub returns-in_default : goal.returns-in_default
returns-in_default c =
    let turn : let a = c.args in let l = c.loop-i in Turn a.table.now a.store.now l.d l.x l.invariant.5.given l.invariant.5.held_then l.st l.left l.i c.entry-q.result c.node_word-c.result =
    let l = c.loop-i.invariant in
    going-turn l.5 c.requires.1.0 (omega arith) c.entry-q.ensures
    c.node_word-c.ensures l.2 in
    let is-variable : kind_of c.args.table.now c.entry-q.result ≡ 18 =
    sym c.kind.ensures ∙ c.if-kind-eq-PVAR.true in
    c.loop-i.invariant.5.whole _ _ (bound-stops turn c.if-left-eq0.false (λ e. omega (arith, c.loop-i.invariant.3))
    is-variable c.entry-v.ensures c.loop-i.invariant.4
    (eqb-true _ 1 (sym c.is_bound.ensures ∙ c.if-is_bound.true)) c.word_of.ensures _
    (λ m. c.same-got.ensures _ (held c.loop-i.st) m) _ c.answer_of.ensures
    c.give_up.ensures (Tagged-not_done _ c.in_default.not-Done))

pub loop-i-smaller-then-is_bound : goal.loop-i-smaller-then-is_bound
loop-i-smaller-then-is_bound c = omega arith

pub loop-i-preserved-then-is_bound : goal.loop-i-preserved-then-is_bound
loop-i-preserved-then-is_bound c =
    let turn : let a = c.args in let l = c.loop-i in Turn a.table.now a.store.now l.d l.x l.invariant.5.given l.invariant.5.held_then l.st l.left l.i c.entry-q.result c.node_word-c.result =
    let l = c.loop-i.invariant in
    going-turn l.5 c.requires.1.0 (omega arith) c.entry-q.ensures
    c.node_word-c.ensures l.2 in
    let is-variable : kind_of c.args.table.now c.entry-q.result ≡ 18 =
    sym c.kind.ensures ∙ c.if-kind-eq-PVAR.true in
    let l = c.loop-i.invariant in
    let f = bound-matched turn c.if-left-eq0.false (λ e. omega (arith, c.loop-i.invariant.3))
    is-variable c.entry-v.ensures l.4 (eqb-true _ 1 (sym c.is_bound.ensures ∙ c.if-is_bound.true))
    c.word_of.ensures _ (λ m. c.same-got.ensures _ (held c.loop-i.st) m) _
    c.answer_of.ensures _ _ c.in-Done.is in (
      omega (arith, c.loop-i-test.true),
      l.1,
      omega
          (arith, done-node _ _ _ (sym c.answer_of.ensures ∙ c.in-Done.is)),
      l.3,
      going-long l.5 l.4
          f,
      going_on l.5 f,
    )

pub put_variable-requires : goal.put_variable-requires
put_variable-requires c =
    let turn : let a = c.args in let l = c.loop-i in Turn a.table.now a.store.now l.d l.x l.invariant.5.given l.invariant.5.held_then l.st l.left l.i c.entry-q.result c.node_word-c.result =
    let l = c.loop-i.invariant in
    going-turn l.5 c.requires.1.0 (omega arith) c.entry-q.ensures
    c.node_word-c.ensures l.2 in
    let is-variable : kind_of c.args.table.now c.entry-q.result ≡ 18 =
    sym c.kind.ensures ∙ c.if-kind-eq-PVAR.true in
    let small : c.entry-v.result < variables =
    variable-small turn is-variable c.entry-v.ensures in
    small

pub loop-i-smaller-else-is_bound : goal.loop-i-smaller-else-is_bound
loop-i-smaller-else-is_bound c = omega arith

pub loop-i-preserved-else-is_bound : goal.loop-i-preserved-else-is_bound
loop-i-preserved-else-is_bound c =
    let turn : let a = c.args in let l = c.loop-i in Turn a.table.now a.store.now l.d l.x l.invariant.5.given l.invariant.5.held_then l.st l.left l.i c.entry-q.result c.node_word-c.result =
    let l = c.loop-i.invariant in
    going-turn l.5 c.requires.1.0 (omega arith) c.entry-q.ensures
    c.node_word-c.ensures l.2 in
    let is-variable : kind_of c.args.table.now c.entry-q.result ≡ 18 =
    sym c.kind.ensures ∙ c.if-kind-eq-PVAR.true in
    let l = c.loop-i.invariant in
    let f = free-matched turn c.if-left-eq0.false (λ e. omega (arith, c.loop-i.invariant.3))
    is-variable c.entry-v.ensures l.4 (eqb-false _ 1 (sym c.is_bound.ensures ∙ c.if-is_bound.false))
    c.put_variable.ensures in
    (omega arith, l.1, omega (arith, l.2), l.3, going-long l.5 l.4 f, going_on l.5 f)

pub agree-requires : goal.agree-requires
agree-requires c =
    let turn : let a = c.args in let l = c.loop-i in Turn a.table.now a.store.now l.d l.x l.invariant.5.given l.invariant.5.held_then l.st l.left l.i c.entry-q.result c.node_word-c.result =
    let l = c.loop-i.invariant in
    going-turn l.5 c.requires.1.0 (omega arith) c.entry-q.ensures
    c.node_word-c.ensures l.2 in
    let k = turn in ((operand-is k).0, child-there k)

pub returns-then-not-agree : goal.returns-then-not-agree
returns-then-not-agree c =
    let turn : let a = c.args in let l = c.loop-i in Turn a.table.now a.store.now l.d l.x l.invariant.5.given l.invariant.5.held_then l.st l.left l.i c.entry-q.result c.node_word-c.result =
    let l = c.loop-i.invariant in
    going-turn l.5 c.requires.1.0 (omega arith) c.entry-q.ensures
    c.node_word-c.ensures l.2 in
    let is-constructor : kind_of c.args.table.now c.entry-q.result ≡ 19 =
    constructor-is turn c.kind.ensures c.if-kind-eq-PVAR.false in
    c.loop-i.invariant.5.whole _ _ (other turn c.if-left-eq0.false (λ e. omega (arith, c.loop-i.invariant.3))
    is-constructor c.loop-i.invariant.4 c.failure.ensures
    (sym c.agree.ensures ∙ not-true _ c.if-not-agree.true-raw))

pub operands-m-requires : goal.operands-m-requires
operands-m-requires c =
    let turn : let a = c.args in let l = c.loop-i in Turn a.table.now a.store.now l.d l.x l.invariant.5.given l.invariant.5.held_then l.st l.left l.i c.entry-q.result c.node_word-c.result =
    let l = c.loop-i.invariant in
    going-turn l.5 c.requires.1.0 (omega arith) c.entry-q.ensures
    c.node_word-c.ensures l.2 in
    (operand-is turn).0

pub returns-then-d-eq1 : goal.returns-then-d-eq1
returns-then-d-eq1 c =
    let turn : let a = c.args in let l = c.loop-i in Turn a.table.now a.store.now l.d l.x l.invariant.5.given l.invariant.5.held_then l.st l.left l.i c.entry-q.result c.node_word-c.result =
    let l = c.loop-i.invariant in
    going-turn l.5 c.requires.1.0 (omega arith) c.entry-q.ensures
    c.node_word-c.ensures l.2 in
    let is-constructor : kind_of c.args.table.now c.entry-q.result ≡ 19 =
    constructor-is turn c.kind.ensures c.if-kind-eq-PVAR.false in
    let agrees : agreeing c.args.table.now c.args.store.now c.entry-q.result c.node_word-c.result ≡ true =
    sym c.agree.ensures ∙ not-false _ c.if-not-agree.false-raw in
    c.loop-i.invariant.5.whole _ _ (inner-stopped turn c.if-left-eq0.false
    is-constructor agrees
    (λ z. c.if-m-ne0.true (c.operands-m.ensures ∙ z)) c.if-d-eq1.true c.stopped.ensures)

pub loop-i-smaller-then-i-n : goal.loop-i-smaller-then-i-n
loop-i-smaller-then-i-n c =
    let turn : let a = c.args in let l = c.loop-i in Turn a.table.now a.store.now l.d l.x l.invariant.5.given l.invariant.5.held_then l.st l.left l.i c.entry-q.result c.node_word-c.result =
    let l = c.loop-i.invariant in
    going-turn l.5 c.requires.1.0 (omega arith) c.entry-q.ensures
    c.node_word-c.ensures l.2 in
    let f : _ ≤ 6 = c.requires.1.0.few _ (operand-is turn).0 in omega
    (arith, c.operands-m.ensures, c.loop-i.invariant.3)

pub loop-i-preserved-then-i-n : goal.loop-i-preserved-then-i-n
loop-i-preserved-then-i-n c =
    let turn : let a = c.args in let l = c.loop-i in Turn a.table.now a.store.now l.d l.x l.invariant.5.given l.invariant.5.held_then l.st l.left l.i c.entry-q.result c.node_word-c.result =
    let l = c.loop-i.invariant in
    going-turn l.5 c.requires.1.0 (omega arith) c.entry-q.ensures
    c.node_word-c.ensures l.2 in
    let is-constructor : kind_of c.args.table.now c.entry-q.result ≡ 19 =
    constructor-is turn c.kind.ensures c.if-kind-eq-PVAR.false in
    let agrees : agreeing c.args.table.now c.args.store.now c.entry-q.result c.node_word-c.result ≡ true =
    sym c.agree.ensures ∙ not-false _ c.if-not-agree.false-raw in
    let l = c.loop-i.invariant in (
      omega arith,
      c.operands-m.ensures,
      omega (arith, l.2),
      omega (arith, c.if-d-eq1.false),
      l.4,
      going-down l.5
          turn c.if-left-eq0.false (λ e. omega (arith, c.loop-i.invariant.3)) is-constructor
          agrees (omega (arith, c.if-i-n.true, l.1)),
    )

pub match_children-got-requires : goal.match_children-got-requires
match_children-got-requires c =
    let turn : let a = c.args in let l = c.loop-i in Turn a.table.now a.store.now l.d l.x l.invariant.5.given l.invariant.5.held_then l.st l.left l.i c.entry-q.result c.node_word-c.result =
    let l = c.loop-i.invariant in
    going-turn l.5 c.requires.1.0 (omega arith) c.entry-q.ensures
    c.node_word-c.ensures l.2 in
    let is-constructor : kind_of c.args.table.now c.entry-q.result ≡ 19 =
    constructor-is turn c.kind.ensures c.if-kind-eq-PVAR.false in
    let agrees : agreeing c.args.table.now c.args.store.now c.entry-q.result c.node_word-c.result ≡ true =
    sym c.agree.ensures ∙ not-false _ c.if-not-agree.false-raw in
    let k = turn in
    let d : c.loop-i.d ≡ 0 → ⊥ = λ e. omega (arith, c.loop-i.invariant.3) in
    let n = is-constructor in
    let e = agrees in (
      (
        c.requires.1.0,
        (operand-is k).0,
        n,
        handed k c.if-left-eq0.false d n e c.done.ensures,
        omega
            (arith, c.if-d-eq1.false, c.loop-i.invariant.3),
        handed-there k c.if-left-eq0.false d n e c.done.ensures,
      ),
      going-bound c.loop-i.invariant.5,
    )

pub returns-in_default-answer_of : goal.returns-in_default-answer_of
returns-in_default-answer_of c =
    let turn : let a = c.args in let l = c.loop-i in Turn a.table.now a.store.now l.d l.x l.invariant.5.given l.invariant.5.held_then l.st l.left l.i c.entry-q.result c.node_word-c.result =
    let l = c.loop-i.invariant in
    going-turn l.5 c.requires.1.0 (omega arith) c.entry-q.ensures
    c.node_word-c.ensures l.2 in
    let is-constructor : kind_of c.args.table.now c.entry-q.result ≡ 19 =
    constructor-is turn c.kind.ensures c.if-kind-eq-PVAR.false in
    let agrees : agreeing c.args.table.now c.args.store.now c.entry-q.result c.node_word-c.result ≡ true =
    sym c.agree.ensures ∙ not-false _ c.if-not-agree.false-raw in
    c.loop-i.invariant.5.whole _ _ (inner-refused turn c.if-left-eq0.false
    (λ e. omega (arith, c.loop-i.invariant.3)) is-constructor agrees c.done.ensures _
    _ c.match_children-got.ensures _ c.answer_of-else-i-n.ensures c.loop-i.invariant.4
    (Tagged-not_done _ c.in_default-answer_of.not-Done))

pub loop-i-smaller-else-i-n : goal.loop-i-smaller-else-i-n
loop-i-smaller-else-i-n c = omega arith

pub loop-i-preserved-else-i-n : goal.loop-i-preserved-else-i-n
loop-i-preserved-else-i-n c =
    let turn : let a = c.args in let l = c.loop-i in Turn a.table.now a.store.now l.d l.x l.invariant.5.given l.invariant.5.held_then l.st l.left l.i c.entry-q.result c.node_word-c.result =
    let l = c.loop-i.invariant in
    going-turn l.5 c.requires.1.0 (omega arith) c.entry-q.ensures
    c.node_word-c.ensures l.2 in
    let is-constructor : kind_of c.args.table.now c.entry-q.result ≡ 19 =
    constructor-is turn c.kind.ensures c.if-kind-eq-PVAR.false in
    let agrees : agreeing c.args.table.now c.args.store.now c.entry-q.result c.node_word-c.result ≡ true =
    sym c.agree.ensures ∙ not-false _ c.if-not-agree.false-raw in
    let l = c.loop-i.invariant in
    let f = inner-matched turn c.if-left-eq0.false (λ e. omega (arith, c.loop-i.invariant.3))
    is-constructor agrees c.done.ensures _ _
    c.match_children-got.ensures _ c.answer_of-else-i-n.ensures _ _ c.in-Done-answer_of.is in (
      omega arith,
      l.1,
      omega (arith, done-node _ _ _ (sym c.answer_of-else-i-n.ensures ∙ c.in-Done-answer_of.is)),
      l.3,
      going-long l.5 l.4 f,
      going_on l.5 f,
    )

pub loop-i-smaller : goal.loop-i-smaller
loop-i-smaller c = omega arith

pub loop-i-preserved : goal.loop-i-preserved
loop-i-preserved c =
    let turn : let a = c.args in let l = c.loop-i in Turn a.table.now a.store.now l.d l.x l.invariant.5.given l.invariant.5.held_then l.st l.left l.i c.entry-q.result c.node_word-c.result =
    let l = c.loop-i.invariant in
    going-turn l.5 c.requires.1.0 (omega arith) c.entry-q.ensures
    c.node_word-c.ensures l.2 in
    let is-constructor : kind_of c.args.table.now c.entry-q.result ≡ 19 =
    constructor-is turn c.kind.ensures c.if-kind-eq-PVAR.false in
    let agrees : agreeing c.args.table.now c.args.store.now c.entry-q.result c.node_word-c.result ≡ true =
    sym c.agree.ensures ∙ not-false _ c.if-not-agree.false-raw in
    let l = c.loop-i.invariant in
    let f = leaf-matched turn c.if-left-eq0.false (λ e. omega (arith, c.loop-i.invariant.3))
    is-constructor agrees (sym c.operands-m.ensures ∙ c.if-m-ne0.false) in
    (omega arith, l.1, omega (arith, l.2), l.3, going-long l.5 l.4 f, going_on l.5 f)

pub returns : goal.returns
returns c = c.loop-i.invariant.5.whole _ _ (matched-all _ _ _ _ _ _ _ _ c.loop-i.i _
    c.loop-i.invariant.5.so_far (omega arith) c.done-2.ensures c.loop-i.invariant.2)
