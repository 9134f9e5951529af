-- `matcher::match_node` meets its contract: the root's kind, and for a constructor what `match_in_place` says of its children.
use mathlib.Core.Path.{◌≡◌, sym, ◌∙◌}
use Prim.Native.Nat.{◌<◌}
use native.Mathlib.Omega.{arith}
use mathlib.Core.Bool.{true}
use borrow.Author.Tests.{eqb-false, eqb-true, not-false, not-true}
use Rattle.checks.specs.Kinds.{variables}
use Rattle.checks.specs.Good.{kind_of}
use Rattle.state.specs.Answers.{node_in}
use Rattle.state.specs.Record.{standing, held}
use Rattle.state.specs.Visits.{agreeing}
use Rattle.leaves.proofs.Patterns.{no-variable}
use Rattle.state.proofs.Asking.{Tagged-not_done}
use Rattle.state.proofs.Storing.{steady-bound}
use Rattle.leaves.proofs.Matching.{root-stored, root-bound-there, root-there, root-units, root-nesting, root-small, root-free}
use Rattle.leaves.proofs.Matching.{root-bound, root-bound-stops, root-other, root-leaf, root-handed, root-stops, root-stopped}
use Rattle.leaves.proofs.Matching.{root-matched}
use Rattle.leaves.proofs.matcher.match_node.Goals as goal
use Rattle.leaves.proofs.matcher.match_node.Goals.{After-entry-v, Else-kind-eq-PVAR, Else-not-agree}

pub returns-then-left-eq0 : goal.returns-then-left-eq0
returns-then-left-eq0 c = root-units c.requires.0 _ c.no_units.ensures c.if-left-eq0.true

pub returns-then-deep-eq0 : goal.returns-then-deep-eq0
returns-then-deep-eq0 c = root-nesting c.requires.0 _ c.no_nesting.ensures c.if-left-eq0.false
    c.if-deep-eq0.true

pub is_bound-requires : goal.is_bound-requires
is_bound-requires c =
    let is-variable : kind_of c.args.table.now c.args.p ≡ 18 =
    sym c.kind.ensures ∙ c.if-kind-eq-PVAR.true in
    let small : c.entry-v.result < variables =
    root-small c.requires.0
    c.args.deep c.if-left-eq0.false
    c.if-deep-eq0.false is-variable c.entry-v.ensures in
    small

pub word_of-requires : goal.word_of-requires
word_of-requires c =
    let is-variable : kind_of c.args.table.now c.args.p ≡ 18 =
    sym c.kind.ensures ∙ c.if-kind-eq-PVAR.true in
    let small : c.entry-v.result < variables =
    root-small c.requires.0
    c.args.deep c.if-left-eq0.false
    c.if-deep-eq0.false is-variable c.entry-v.ensures in
    small

pub same-got-requires : goal.same-got-requires
same-got-requires c =
    let is-variable : kind_of c.args.table.now c.args.p ≡ 18 =
    sym c.kind.ensures ∙ c.if-kind-eq-PVAR.true in (
      root-bound-there c.requires.0 c.args.deep c.if-left-eq0.false c.if-deep-eq0.false is-variable
          c.entry-v.ensures (eqb-true _ 1 (sym c.is_bound.ensures ∙ c.if-is_bound.true)) c.word_of.ensures,
      root-stored
          c.requires.0 c.args.deep,
    )

pub returns-in_default : goal.returns-in_default
returns-in_default c =
    let is-variable : kind_of c.args.table.now c.args.p ≡ 18 =
    sym c.kind.ensures ∙ c.if-kind-eq-PVAR.true in
    root-bound-stops c.requires.0 _ c.if-left-eq0.false c.if-deep-eq0.false is-variable
    c.entry-v.ensures (eqb-true _ 1 (sym c.is_bound.ensures ∙ c.if-is_bound.true)) c.word_of.ensures _
    (c.same-got.ensures _ (held c.args.st.now) (standing c.args.st.now)) _
    c.answer_of.ensures c.give_up.ensures (Tagged-not_done _ c.in_default.not-Done)

pub returns-then-is_bound : goal.returns-then-is_bound
returns-then-is_bound c =
    let is-variable : kind_of c.args.table.now c.args.p ≡ 18 =
    sym c.kind.ensures ∙ c.if-kind-eq-PVAR.true in
    root-bound c.requires.0 _ c.if-left-eq0.false c.if-deep-eq0.false is-variable
    c.entry-v.ensures (eqb-true _ 1 (sym c.is_bound.ensures ∙ c.if-is_bound.true)) c.word_of.ensures _
    (c.same-got.ensures _ (held c.args.st.now) (standing c.args.st.now)) _
    c.answer_of.ensures _ _ _ c.in-Done.is c.done.ensures

pub bind-requires : goal.bind-requires
bind-requires c =
    let is-variable : kind_of c.args.table.now c.args.p ≡ 18 =
    sym c.kind.ensures ∙ c.if-kind-eq-PVAR.true in
    let small : c.entry-v.result < variables =
    root-small c.requires.0
    c.args.deep c.if-left-eq0.false
    c.if-deep-eq0.false is-variable c.entry-v.ensures in
    let v = small in omega arith

pub returns-then-kind-eq-PVAR : goal.returns-then-kind-eq-PVAR
returns-then-kind-eq-PVAR c =
    let is-variable : kind_of c.args.table.now c.args.p ≡ 18 =
    sym c.kind.ensures ∙ c.if-kind-eq-PVAR.true in
    root-free c.requires.0 _ c.if-left-eq0.false c.if-deep-eq0.false is-variable c.entry-v.ensures
    (eqb-false _ 1 (sym c.is_bound.ensures ∙ c.if-is_bound.false)) c.bind.ensures

pub agree-requires : goal.agree-requires
agree-requires c = (c.requires.0.inside, root-stored c.requires.0 c.args.deep)

pub returns-then-not-agree : goal.returns-then-not-agree
returns-then-not-agree c =
    let is-constructor : kind_of c.args.table.now c.args.p ≡ 19 =
    no-variable c.args.table.now
    c.args.p _ c.requires.1
    c.kind.ensures c.if-kind-eq-PVAR.false in
    root-other c.requires.0 _ c.if-left-eq0.false c.if-deep-eq0.false is-constructor c.failure.ensures
    (sym c.agree.ensures ∙ not-true _ c.if-not-agree.true-raw)

pub returns-then-operands-eq0 : goal.returns-then-operands-eq0
returns-then-operands-eq0 c =
    let is-constructor : kind_of c.args.table.now c.args.p ≡ 19 =
    no-variable c.args.table.now
    c.args.p _ c.requires.1
    c.kind.ensures c.if-kind-eq-PVAR.false in
    let agrees : agreeing c.args.table.now c.args.store.now c.args.p (node_in c.args.s) ≡ true =
    sym c.agree.ensures ∙ not-false _ c.if-not-agree.false-raw in
    root-leaf c.requires.0 _ c.if-left-eq0.false c.if-deep-eq0.false is-constructor
    agrees (sym c.operands.ensures ∙ c.if-operands-eq0.true)

pub returns-then-deep-eq1 : goal.returns-then-deep-eq1
returns-then-deep-eq1 c =
    let is-constructor : kind_of c.args.table.now c.args.p ≡ 19 =
    no-variable c.args.table.now
    c.args.p _ c.requires.1
    c.kind.ensures c.if-kind-eq-PVAR.false in
    let agrees : agreeing c.args.table.now c.args.store.now c.args.p (node_in c.args.s) ≡ true =
    sym c.agree.ensures ∙ not-false _ c.if-not-agree.false-raw in
    root-stopped c.requires.0 _ c.if-left-eq0.false c.if-deep-eq0.false is-constructor
    agrees (λ z. c.if-operands-eq0.false (c.operands.ensures ∙ z)) c.if-deep-eq1.true c.stopped.ensures

pub match_in_place-got-requires : goal.match_in_place-got-requires
match_in_place-got-requires c =
    let is-constructor : kind_of c.args.table.now c.args.p ≡ 19 =
    no-variable c.args.table.now
    c.args.p _ c.requires.1
    c.kind.ensures c.if-kind-eq-PVAR.false in
    let agrees : agreeing c.args.table.now c.args.store.now c.args.p (node_in c.args.s) ≡ true =
    sym c.agree.ensures ∙ not-false _ c.if-not-agree.false-raw in (
      c.requires.0.long,
      (
        c.requires.0.entries,
        c.requires.0.inside,
        is-constructor,
        root-handed
            c.requires.0 _ c.if-left-eq0.false c.if-deep-eq0.false is-constructor
            agrees,
        omega (arith, c.if-deep-eq1.false),
        root-there c.requires.0 _ c.if-left-eq0.false
            c.if-deep-eq0.false is-constructor agrees,
      ),
      steady-bound
          c.requires.0.steady,
    )

pub returns-in_default-answer_of : goal.returns-in_default-answer_of
returns-in_default-answer_of c =
    let is-constructor : kind_of c.args.table.now c.args.p ≡ 19 =
    no-variable c.args.table.now
    c.args.p _ c.requires.1
    c.kind.ensures c.if-kind-eq-PVAR.false in
    let agrees : agreeing c.args.table.now c.args.store.now c.args.p (node_in c.args.s) ≡ true =
    sym c.agree.ensures ∙ not-false _ c.if-not-agree.false-raw in
    root-stops c.requires.0 _ c.if-left-eq0.false c.if-deep-eq0.false is-constructor
    agrees _ _ c.match_in_place-got.ensures _ c.answer_of-2.ensures
    (Tagged-not_done _ c.in_default-answer_of.not-Done)

pub returns : goal.returns
returns c =
    let is-constructor : kind_of c.args.table.now c.args.p ≡ 19 =
    no-variable c.args.table.now
    c.args.p _ c.requires.1
    c.kind.ensures c.if-kind-eq-PVAR.false in
    let agrees : agreeing c.args.table.now c.args.store.now c.args.p (node_in c.args.s) ≡ true =
    sym c.agree.ensures ∙ not-false _ c.if-not-agree.false-raw in
    root-matched c.requires.0 _ c.if-left-eq0.false c.if-deep-eq0.false is-constructor
    agrees _ _ c.match_in_place-got.ensures _ c.answer_of-2.ensures _ _ _
    c.in-Done-answer_of.is c.done-2.ensures
