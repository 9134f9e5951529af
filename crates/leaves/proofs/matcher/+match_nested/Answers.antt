use mathlib.Core.Path.{◌≡◌, sym, ◌∙◌}
use mathlib.Core.Bool.{true}
use native.Mathlib.Omega.{arith}
use borrow.Author.Rules.{rules}
use borrow.Author.Tests.{eqb-false, eqb-true, not-false, not-true}
use Rattle.checks.specs.Good.{kind_of}
use Rattle.state.specs.Record.{held}
use Rattle.state.specs.Visits.{agreeing}
use Rattle.state.proofs.Asking.{Tagged-not_done}
use Rattle.state.proofs.AnswerWords.{done-node}
use Rattle.leaves.proofs.Matching.{Matched, Turn, child-there, bound-there, handed-there, matched-none, matched-at, matched-all}
use Rattle.leaves.proofs.Matching.{operand-is, variable-small, constructor-is, child-units, inner-stopped, free-matched}
use Rattle.leaves.proofs.Matching.{bound-matched, bound-stops, other, leaf-matched, handed, inner-matched, inner-stops}
use Prim.Native.Nat.{◌+◌, ◌-◌, ◌<◌}
use Rattle.leaves.proofs.matcher.+match_nested.Goals as goal
use Rattle.leaves.proofs.matcher.+match_nested.Goals.{then-kind-eq-PVAR+then-is_bound+in-Done, then-kind-eq-PVAR+else-is_bound}
use Rattle.leaves.proofs.matcher.+match_nested.Goals.{else-kind-eq-PVAR+else-not-agree+then-operands-ne0+else-deep-eq1+in-Done-answer_of}
use Rattle.leaves.proofs.matcher.+match_nested.Goals.{else-kind-eq-PVAR+else-not-agree+else-operands-ne0}

pub loop-i-init : goal.loop-i-init
loop-i-init t c = (search rules, c.operands-i-end.ensures, omega arith, search rules, matched-none _ _ _ _ _ _)

pub overflow_add-i : goal.overflow_add-i
overflow_add-i t c = omega (
  arith,
  c.requires.1.0.few _
      c.requires.1.1,
)

pub entry-q-requires : goal.entry-q-requires
entry-q-requires t c = (
  c.requires.1.1,
  omega
      (arith, c.requires.1.0.few _ c.requires.1.1),
)

pub overflow_add-i-in-loop-i : goal.overflow_add-i-in-loop-i
overflow_add-i-in-loop-i t c = omega (
  arith,
  c.requires.1.0.few _
      c.requires.1.1,
)

pub node_word-c-requires : goal.node_word-c-requires
node_word-c-requires t c = (
  c.requires.1.5,
  omega
      (arith, c.requires.1.0.few _ c.requires.1.1),
)

pub returns-then-left-eq0 : goal.returns-then-left-eq0
returns-then-left-eq0 t c =
    let turn : let a = c.args in let l = c.loop-i in Turn a.table.now a.store.now a.deep a.p a.s a.st.now l.st l.left l.i c.entry-q.result c.node_word-c.result =
    let f = c.requires.1 in
    let i = c.loop-i.invariant in
    record {
      so_far = i.4;
      entries = f.0;
      inside = f.1;
      kind = f.2;
      agreed = f.3;
      stands-there = f.5;
      below = omega arith;
      operand = c.entry-q.ensures;
      child = c.node_word-c.ensures;
      few = i.2;
    } in
    child-units turn c.no_units.ensures c.if-left-eq0.true

pub kind-requires : goal.kind-requires
kind-requires t c =
    let turn : let a = c.args in let l = c.loop-i in Turn a.table.now a.store.now a.deep a.p a.s a.st.now l.st l.left l.i c.entry-q.result c.node_word-c.result =
    let f = c.requires.1 in
    let i = c.loop-i.invariant in
    record {
      so_far = i.4;
      entries = f.0;
      inside = f.1;
      kind = f.2;
      agreed = f.3;
      stands-there = f.5;
      below = omega arith;
      operand = c.entry-q.ensures;
      child = c.node_word-c.ensures;
      few = i.2;
    } in
    (operand-is turn).0

pub entry-v-requires : goal.entry-v-requires
entry-v-requires t c =
    let turn : let a = c.args in let l = c.loop-i in Turn a.table.now a.store.now a.deep a.p a.s a.st.now l.st l.left l.i c.entry-q.result c.node_word-c.result =
    let f = c.requires.1 in
    let i = c.loop-i.invariant in
    record {
      so_far = i.4;
      entries = f.0;
      inside = f.1;
      kind = f.2;
      agreed = f.3;
      stands-there = f.5;
      below = omega arith;
      operand = c.entry-q.ensures;
      child = c.node_word-c.ensures;
      few = i.2;
    } in
    ((operand-is turn).0, omega arith)

pub is_bound-requires : goal.is_bound-requires
is_bound-requires t c =
    let turn : let a = c.args in let l = c.loop-i in Turn a.table.now a.store.now a.deep a.p a.s a.st.now l.st l.left l.i c.entry-q.result c.node_word-c.result =
    let f = c.requires.1 in
    let i = c.loop-i.invariant in
    record {
      so_far = i.4;
      entries = f.0;
      inside = f.1;
      kind = f.2;
      agreed = f.3;
      stands-there = f.5;
      below = omega arith;
      operand = c.entry-q.ensures;
      child = c.node_word-c.ensures;
      few = i.2;
    } in
    let is-variable : kind_of c.args.table.now c.entry-q.result ≡ 18 =
    sym c.kind.ensures ∙ c.if-kind-eq-PVAR.true in
    variable-small turn
    is-variable c.entry-v.ensures

pub word_of-requires : goal.word_of-requires
word_of-requires t c =
    let turn : let a = c.args in let l = c.loop-i in Turn a.table.now a.store.now a.deep a.p a.s a.st.now l.st l.left l.i c.entry-q.result c.node_word-c.result =
    let f = c.requires.1 in
    let i = c.loop-i.invariant in
    record {
      so_far = i.4;
      entries = f.0;
      inside = f.1;
      kind = f.2;
      agreed = f.3;
      stands-there = f.5;
      below = omega arith;
      operand = c.entry-q.ensures;
      child = c.node_word-c.ensures;
      few = i.2;
    } in
    let is-variable : kind_of c.args.table.now c.entry-q.result ≡ 18 =
    sym c.kind.ensures ∙ c.if-kind-eq-PVAR.true in
    variable-small turn
    is-variable c.entry-v.ensures

pub same-got-requires : goal.same-got-requires
same-got-requires t c =
    let turn : let a = c.args in let l = c.loop-i in Turn a.table.now a.store.now a.deep a.p a.s a.st.now l.st l.left l.i c.entry-q.result c.node_word-c.result =
    let f = c.requires.1 in
    let i = c.loop-i.invariant in
    record {
      so_far = i.4;
      entries = f.0;
      inside = f.1;
      kind = f.2;
      agreed = f.3;
      stands-there = f.5;
      below = omega arith;
      operand = c.entry-q.ensures;
      child = c.node_word-c.ensures;
      few = i.2;
    } in
    let is-variable : kind_of c.args.table.now c.entry-q.result ≡ 18 =
    sym c.kind.ensures ∙ c.if-kind-eq-PVAR.true in
    let k = turn in (
      bound-there k is-variable c.entry-v.ensures
          (eqb-true _ 1 (sym c.is_bound.ensures ∙ c.if-is_bound.true)) c.word_of.ensures c.requires.2,
      child-there k,
    )

pub returns-in_default : goal.returns-in_default
returns-in_default t c =
    let turn : let a = c.args in let l = c.loop-i in Turn a.table.now a.store.now a.deep a.p a.s a.st.now l.st l.left l.i c.entry-q.result c.node_word-c.result =
    let f = c.requires.1 in
    let i = c.loop-i.invariant in
    record {
      so_far = i.4;
      entries = f.0;
      inside = f.1;
      kind = f.2;
      agreed = f.3;
      stands-there = f.5;
      below = omega arith;
      operand = c.entry-q.ensures;
      child = c.node_word-c.ensures;
      few = i.2;
    } in
    let levels : c.args.deep ≡ 0 → ⊥ =
    λ e. omega (arith, c.requires.1.4) in
    let is-variable : kind_of c.args.table.now c.entry-q.result ≡ 18 =
    sym c.kind.ensures ∙ c.if-kind-eq-PVAR.true in
    bound-stops turn c.if-left-eq0.false levels
    is-variable c.entry-v.ensures c.loop-i.invariant.3
    (eqb-true _ 1 (sym c.is_bound.ensures ∙ c.if-is_bound.true)) c.word_of.ensures _
    (λ m. c.same-got.ensures _ (held c.loop-i.st) m) _ c.answer_of.ensures
    c.give_up.ensures (Tagged-not_done _ c.in_default.not-Done)

pub put_variable-requires : goal.put_variable-requires
put_variable-requires t c =
    let turn : let a = c.args in let l = c.loop-i in Turn a.table.now a.store.now a.deep a.p a.s a.st.now l.st l.left l.i c.entry-q.result c.node_word-c.result =
    let f = c.requires.1 in
    let i = c.loop-i.invariant in
    record {
      so_far = i.4;
      entries = f.0;
      inside = f.1;
      kind = f.2;
      agreed = f.3;
      stands-there = f.5;
      below = omega arith;
      operand = c.entry-q.ensures;
      child = c.node_word-c.ensures;
      few = i.2;
    } in
    let is-variable : kind_of c.args.table.now c.entry-q.result ≡ 18 =
    sym c.kind.ensures ∙ c.if-kind-eq-PVAR.true in
    variable-small turn
    is-variable c.entry-v.ensures

pub agree-requires : goal.agree-requires
agree-requires t c =
    let turn : let a = c.args in let l = c.loop-i in Turn a.table.now a.store.now a.deep a.p a.s a.st.now l.st l.left l.i c.entry-q.result c.node_word-c.result =
    let f = c.requires.1 in
    let i = c.loop-i.invariant in
    record {
      so_far = i.4;
      entries = f.0;
      inside = f.1;
      kind = f.2;
      agreed = f.3;
      stands-there = f.5;
      below = omega arith;
      operand = c.entry-q.ensures;
      child = c.node_word-c.ensures;
      few = i.2;
    } in
    let k = turn in ((operand-is k).0, child-there k)

pub returns-then-not-agree : goal.returns-then-not-agree
returns-then-not-agree t c =
    let turn : let a = c.args in let l = c.loop-i in Turn a.table.now a.store.now a.deep a.p a.s a.st.now l.st l.left l.i c.entry-q.result c.node_word-c.result =
    let f = c.requires.1 in
    let i = c.loop-i.invariant in
    record {
      so_far = i.4;
      entries = f.0;
      inside = f.1;
      kind = f.2;
      agreed = f.3;
      stands-there = f.5;
      below = omega arith;
      operand = c.entry-q.ensures;
      child = c.node_word-c.ensures;
      few = i.2;
    } in
    let levels : c.args.deep ≡ 0 → ⊥ =
    λ e. omega (arith, c.requires.1.4) in
    let is-constructor : kind_of c.args.table.now c.entry-q.result ≡ 19 =
    constructor-is turn c.kind.ensures c.if-kind-eq-PVAR.false in
    other turn c.if-left-eq0.false levels is-constructor
    c.loop-i.invariant.3 c.failure.ensures (sym c.agree.ensures ∙ not-true _ c.if-not-agree.true-raw)

pub operands-requires : goal.operands-requires
operands-requires t c =
    let turn : let a = c.args in let l = c.loop-i in Turn a.table.now a.store.now a.deep a.p a.s a.st.now l.st l.left l.i c.entry-q.result c.node_word-c.result =
    let f = c.requires.1 in
    let i = c.loop-i.invariant in
    record {
      so_far = i.4;
      entries = f.0;
      inside = f.1;
      kind = f.2;
      agreed = f.3;
      stands-there = f.5;
      below = omega arith;
      operand = c.entry-q.ensures;
      child = c.node_word-c.ensures;
      few = i.2;
    } in
    (operand-is turn).0

pub returns-then-deep-eq1 : goal.returns-then-deep-eq1
returns-then-deep-eq1 t c =
    let turn : let a = c.args in let l = c.loop-i in Turn a.table.now a.store.now a.deep a.p a.s a.st.now l.st l.left l.i c.entry-q.result c.node_word-c.result =
    let f = c.requires.1 in
    let i = c.loop-i.invariant in
    record {
      so_far = i.4;
      entries = f.0;
      inside = f.1;
      kind = f.2;
      agreed = f.3;
      stands-there = f.5;
      below = omega arith;
      operand = c.entry-q.ensures;
      child = c.node_word-c.ensures;
      few = i.2;
    } in
    let is-constructor : kind_of c.args.table.now c.entry-q.result ≡ 19 =
    constructor-is turn c.kind.ensures c.if-kind-eq-PVAR.false in
    let agrees : agreeing c.args.table.now c.args.store.now c.entry-q.result c.node_word-c.result ≡ true =
    sym c.agree.ensures ∙ not-false _ c.if-not-agree.false-raw in
    inner-stopped turn c.if-left-eq0.false is-constructor
    agrees (λ z. c.if-operands-ne0.true (c.operands.ensures ∙ z)) c.if-deep-eq1.true
    c.stopped.ensures

pub match_nested-got-requires : goal.match_nested-got-requires
match_nested-got-requires t c =
    let turn : let a = c.args in let l = c.loop-i in Turn a.table.now a.store.now a.deep a.p a.s a.st.now l.st l.left l.i c.entry-q.result c.node_word-c.result =
    let f = c.requires.1 in
    let i = c.loop-i.invariant in
    record {
      so_far = i.4;
      entries = f.0;
      inside = f.1;
      kind = f.2;
      agreed = f.3;
      stands-there = f.5;
      below = omega arith;
      operand = c.entry-q.ensures;
      child = c.node_word-c.ensures;
      few = i.2;
    } in
    let levels : c.args.deep ≡ 0 → ⊥ =
    λ e. omega (arith, c.requires.1.4) in
    let is-constructor : kind_of c.args.table.now c.entry-q.result ≡ 19 =
    constructor-is turn c.kind.ensures c.if-kind-eq-PVAR.false in
    let agrees : agreeing c.args.table.now c.args.store.now c.entry-q.result c.node_word-c.result ≡ true =
    sym c.agree.ensures ∙ not-false _ c.if-not-agree.false-raw in
    let k = turn in
    let d = levels in
    let n = is-constructor in
    let e = agrees in (
      omega arith,
      (
        c.loop-i.invariant.3,
        (
          c.requires.1.0,
          (operand-is k).0,
          n,
          handed k c.if-left-eq0.false d n e
              c.done.ensures,
          omega (arith, c.if-deep-eq1.false, c.requires.1.4),
          handed-there k c.if-left-eq0.false d n e
              c.done.ensures,
        ),
        c.loop-i.invariant.4.binds c.requires.2,
      ),
    )

pub returns-in_default-answer_of : goal.returns-in_default-answer_of
returns-in_default-answer_of t c =
    let turn : let a = c.args in let l = c.loop-i in Turn a.table.now a.store.now a.deep a.p a.s a.st.now l.st l.left l.i c.entry-q.result c.node_word-c.result =
    let f = c.requires.1 in
    let i = c.loop-i.invariant in
    record {
      so_far = i.4;
      entries = f.0;
      inside = f.1;
      kind = f.2;
      agreed = f.3;
      stands-there = f.5;
      below = omega arith;
      operand = c.entry-q.ensures;
      child = c.node_word-c.ensures;
      few = i.2;
    } in
    let levels : c.args.deep ≡ 0 → ⊥ =
    λ e. omega (arith, c.requires.1.4) in
    let is-constructor : kind_of c.args.table.now c.entry-q.result ≡ 19 =
    constructor-is turn c.kind.ensures c.if-kind-eq-PVAR.false in
    let agrees : agreeing c.args.table.now c.args.store.now c.entry-q.result c.node_word-c.result ≡ true =
    sym c.agree.ensures ∙ not-false _ c.if-not-agree.false-raw in
    inner-stops turn c.if-left-eq0.false levels
    is-constructor agrees c.done.ensures _ _
    c.match_nested-got.ensures _ c.answer_of-then-operands-ne0.ensures (Tagged-not_done _ c.in_default-answer_of.not-Done)

pub loop-i-preserved : goal.loop-i-preserved
loop-i-preserved t c =
    let turn : let a = c.args in let l = c.loop-i in Turn a.table.now a.store.now a.deep a.p a.s a.st.now l.st l.left l.i c.entry-q.result c.node_word-c.result =
    let f = c.requires.1 in
    let i = c.loop-i.invariant in
    record {
      so_far = i.4;
      entries = f.0;
      inside = f.1;
      kind = f.2;
      agreed = f.3;
      stands-there = f.5;
      below = omega arith;
      operand = c.entry-q.ensures;
      child = c.node_word-c.ensures;
      few = i.2;
    } in
    let levels : c.args.deep ≡ 0 → ⊥ =
    λ e. omega (arith, c.requires.1.4) in
    let came : let a = c.args in (c.if-kind-eq-PVAR.left < 4294967296) × Matched a.table.now a.store.now a.deep a.p a.s a.st.now c.if-kind-eq-PVAR.st c.if-kind-eq-PVAR.left (c.loop-i.i + 1) =
    let l = c.loop-i in
    let k = turn in
    let z = c.if-left-eq0.false in
    let d = levels in
    let e = c.kind.ensures in
    let less : l.left - 1 < 4294967296 = omega (arith, l.invariant.2) in
    elim c.if-kind-eq-PVAR.branch [
      | then-kind-eq-PVAR+then-is_bound+in-Done w ↦
          matched-at _ _ _ _ _ _ _ _ _ _ _ w.st-is w.left-is (omega (arith, done-node _ _ _ (sym w.answer_of.ensures ∙ w.in-Done.is)))
          (bound-matched k z d (sym e ∙ w.if-kind-eq-PVAR.true) w.entry-v.ensures l.invariant.3 (eqb-true _ 1 (sym w.is_bound.ensures ∙ w.if-is_bound.true))
          w.word_of.ensures _ (λ m. w.same-got.ensures _ (held l.st) m) _ w.answer_of.ensures _ _ w.in-Done.is)
      | then-kind-eq-PVAR+else-is_bound w ↦
          matched-at _ _ _ _ _ _ _ _ _ _ _ w.st-is w.left-is less
          (free-matched k z d (sym e ∙ w.if-kind-eq-PVAR.true) w.entry-v.ensures l.invariant.3
          (eqb-false _ 1 (sym w.is_bound.ensures ∙ w.if-is_bound.false)) w.put_variable.ensures)
      | else-kind-eq-PVAR+else-not-agree+then-operands-ne0+else-deep-eq1+in-Done-answer_of w ↦
          matched-at _ _ _ _ _ _ _ _ _ _ _ w.st-is w.left-is
          (omega (arith, done-node _ _ _ (sym w.answer_of-then-operands-ne0.ensures ∙ w.in-Done-answer_of.is)))
          (inner-matched k z d (constructor-is k e w.if-kind-eq-PVAR.false) (sym w.agree.ensures ∙ w.if-not-agree.false) w.done.ensures _ _
          w.match_nested-got.ensures _ w.answer_of-then-operands-ne0.ensures _ _ w.in-Done-answer_of.is)
      | else-kind-eq-PVAR+else-not-agree+else-operands-ne0 w ↦
          matched-at _ _ _ _ _ _ _ _ _ _ _ w.st-is w.left-is less
          (leaf-matched k z d (constructor-is k e w.if-kind-eq-PVAR.false) (sym w.agree.ensures ∙ w.if-not-agree.false)
          (sym w.operands.ensures ∙ w.if-operands-ne0.false))
    ] in
    let i = c.loop-i.invariant in
    let n = came in
    (search rules, i.1, n.0, n.1.frame.long ∙ sym i.4.frame.long ∙ i.3, n.1)

pub returns : goal.returns
returns t c = matched-all _ _ _ _ _ _ _ _ c.loop-i.i _ c.loop-i.invariant.4 (omega arith)
    c.done-2.ensures c.loop-i.invariant.2
