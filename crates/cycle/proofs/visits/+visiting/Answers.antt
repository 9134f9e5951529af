use Prim.Native.Nat.{◌<◌, ◌≤◌}
use Rattle.cycle.proofs.Agreeing.{cong-counted, gives-cong, gives-cong-failed}
use Rattle.cycle.proofs.Descending.{fits-path, fits_one, gives-one-none, gives-one-off, gives-one-short, gives-path, gives-path-past, gives-path-stops, gives-path-zero, gives_one, is-none, one-begins, one_again, ready-one, ready-path, stored-path, stored_one}
use Rattle.state.proofs.Asking.{Tagged-not_done, Tagged-not_failed}
use Rattle.cycle.proofs.Looping.{all-itself, ends-nesting, ends-units, first-turn, last-kind, left-returns, left-turn, no-scope, of_two, pos, ready-next, ready-same, rec-turn, same-node, seq-returns, seq-turn, skip-turn, two-kinds, whole}
use Rattle.cycle.proofs.Returning.{alike, unlike, gives-failure, gives-guard, gives-guard-failed, gives-guard-off, gives-id, gives-where, gives-where-stops, no-rule, renamed, ruled-none}
use Rattle.cycle.proofs.Rowing.{ready-stored}
use Rattle.cycle.proofs.Ruling.{ready-operand, ruled-all, ruled-build, ruled-match, ruled-some}
use Rattle.cycle.proofs.Scoping.{gives-hiding, gives-scope, ready-hiding, ready-scope}
use Rattle.cycle.proofs.Walker.{ahead-gives, ahead-ready, ahead-short, four-still, going-ends, going-first, going-fits, going-long, going-no, going-off, going-small, going-stops, going-stored, going-yes, placed, when-none, when-some, whole-made}
use Rattle.cycle.specs.Cycle.{operand_for}
use Rattle.leaves.proofs.Patterns.{operand_below}
use Rattle.meaning.specs.Rules.{apply}
use Rattle.state.proofs.Storing.{steady-stored}
use Rattle.state.specs.Answers.{node_in, packed, units_in}
use Rattle.state.specs.Record.{held, standing}
use Rattle.state.specs.Visits.{Gives, count_of, visit}
use mathlib.Core.Logic.{inl, inr, ⊎_elim}
use mathlib.Core.Path.{refl, sym, ◌∙◌, ◌≡◌}
use native.Mathlib.Omega.{arith}
use Rattle.cycle.proofs.visits.+visiting.Goals as goal
use Rattle.cycle.proofs.visits.+visiting.Goals.{apply_first-else-kind-ne-CONG-via-then-kind-ne-CONG+else-kind-ne-SCOPE, apply_first-else-kind-ne-CONG-via-else-kind-ne-CONG, apply_loop-in_default-via-then-this-lt4, apply_loop-in_default-via-else-this-lt4+else-this-lt7+else-this-lt9, rule-in_default-via-then-this-lt2, rule-in_default-via-else-this-lt2+else-this-lt4, path-then-i-eq0-via-then-i-eq0, path-then-i-eq0-via-else-i-eq0+then-count-i, walk-in-Some, walk-in-None+in-Some-saved}

-- ---- apply

pub apply-apply_loop-requires : goal.apply-apply_loop-requires
apply-apply_loop-requires t c =
    (omega arith, c.requires)

pub apply-returns-then-left-eq0 : goal.apply-returns-then-left-eq0
apply-returns-then-left-eq0 t c =
    ends-units (first-turn _ c.requires
    c.ranges.given.fits) _ c.no_units.ensures c.if-left-eq0.true

pub apply-returns-then-deep-eq0 : goal.apply-returns-then-deep-eq0
apply-returns-then-deep-eq0 t c =
    ends-nesting (first-turn _ c.requires
    c.ranges.given.fits) _ c.no_nesting.ensures c.if-left-eq0.false
    c.if-deep-eq0.true

pub apply-returns-then-count-eq0 : goal.apply-returns-then-count-eq0
apply-returns-then-count-eq0 t c =
    all-itself (first-turn _ c.requires c.ranges.given.fits) c.if-left-eq0.false c.if-deep-eq0.false
    (sym c.kind.ensures ∙ c.if-kind-ne-ALL.false) (sym c.count.ensures ∙ c.if-count-eq0.true)

pub apply-walk-requires : goal.apply-walk-requires
apply-walk-requires t c = (
  omega (arith, pos _ c.if-deep-eq0.false),
  (
    ready-same (first-turn _ c.requires c.ranges.given.fits) c.if-left-eq0.false
        c.if-deep-eq0.false,
    (
      λ z. omega (arith, c.kind.ensures, c.if-kind-ne-ALL.false, z),
      λ z. absurd
          (two-kinds c.kind.ensures c.if-kind-ne-ALL.false z (omega arith)),
    ),
  ),
)

pub apply-returns : goal.apply-returns
apply-returns t c =
    whole (first-turn _ c.requires c.ranges.given.fits) c.if-left-eq0.false c.if-deep-eq0.false
    (renamed c.walk.ensures (sym (ruled-all _ _ _ _ _ _ _ _ (sym c.kind.ensures ∙ c.if-kind-ne-ALL.false))))

-- ---- apply_first

pub apply_first-apply_loop-requires : goal.apply_first-apply_loop-requires
apply_first-apply_loop-requires t c =
    (omega arith, c.requires)

pub apply_first-returns-then-left-eq0 : goal.apply_first-returns-then-left-eq0
apply_first-returns-then-left-eq0 t c =
    ends-units (first-turn _ c.requires
    c.ranges.given.fits) _ c.no_units.ensures c.if-left-eq0.true

pub apply_first-returns-then-deep-eq0 : goal.apply_first-returns-then-deep-eq0
apply_first-returns-then-deep-eq0 t c =
    ends-nesting (first-turn _ c.requires
    c.ranges.given.fits) _ c.no_nesting.ensures c.if-left-eq0.false
    c.if-deep-eq0.true

pub apply_first-scope-requires : goal.apply_first-scope-requires
apply_first-scope-requires t c = (
  omega (arith, pos _ c.if-deep-eq0.false),
  (
    ready-same (first-turn _ c.requires
        c.ranges.given.fits) c.if-left-eq0.false
        c.if-deep-eq0.false,
    sym c.kind-kind.ensures
        ∙ c.if-kind-eq-SCOPE.true,
  ),
)

pub apply_first-returns-then-kind-eq-SCOPE : goal.apply_first-returns-then-kind-eq-SCOPE
apply_first-returns-then-kind-eq-SCOPE t c =
    whole (first-turn _ c.requires
    c.ranges.given.fits)
    c.if-left-eq0.false c.if-deep-eq0.false
    c.scope.ensures

pub apply_first-cong-requires : goal.apply_first-cong-requires
apply_first-cong-requires t c =
    let k : c.kind-kind.result ≡ 10 = elim c.else-kind-ne-CONG.branch [ apply_first-else-kind-ne-CONG-via-then-kind-ne-CONG+else-kind-ne-SCOPE w ↦ absurd (c.if-kind-eq-SCOPE.false w.if-kind-ne-SCOPE.false) | apply_first-else-kind-ne-CONG-via-else-kind-ne-CONG w ↦ w.if-kind-ne-CONG.false ] in (
      omega (arith, pos _ c.if-deep-eq0.false),
      (
        ready-same (first-turn _ c.requires
            c.ranges.given.fits)
            c.if-left-eq0.false c.if-deep-eq0.false,
        sym
            c.kind-kind.ensures ∙ k,
      ),
    )

pub apply_first-returns : goal.apply_first-returns
apply_first-returns t c =
    whole (first-turn _ c.requires
    c.ranges.given.fits)
    c.if-left-eq0.false c.if-deep-eq0.false
    c.cong.ensures

-- ---- apply_in_scope

pub apply_in_scope-apply_loop-requires : goal.apply_in_scope-apply_loop-requires
apply_in_scope-apply_loop-requires t c =
    (omega arith, c.requires)

pub apply_in_scope-returns-then-left-eq0 : goal.apply_in_scope-returns-then-left-eq0
apply_in_scope-returns-then-left-eq0 t c =
    ends-units (first-turn _ c.requires
    c.ranges.given.fits) _ c.no_units.ensures c.if-left-eq0.true

pub apply_in_scope-returns-then-deep-eq0 : goal.apply_in_scope-returns-then-deep-eq0
apply_in_scope-returns-then-deep-eq0 t c =
    ends-nesting (first-turn _ c.requires
    c.ranges.given.fits) _ c.no_nesting.ensures c.if-left-eq0.false
    c.if-deep-eq0.true

pub apply_in_scope-scope-requires : goal.apply_in_scope-scope-requires
apply_in_scope-scope-requires t c = (
  omega (arith, pos _ c.if-deep-eq0.false),
  (
    ready-same (first-turn _ c.requires c.ranges.given.fits) c.if-left-eq0.false
        c.if-deep-eq0.false,
    sym c.kind.ensures ∙ c.if-kind-ne-SCOPE.false,
  ),
)

pub apply_in_scope-returns : goal.apply_in_scope-returns
apply_in_scope-returns t c =
    whole (first-turn _ c.requires c.ranges.given.fits) c.if-left-eq0.false c.if-deep-eq0.false c.scope.ensures

-- ---- apply_loop

-- there are units and nesting for the visit, and its kind is read
-- the first operand of CHOICE or LEFT has been applied
pub apply_loop-loop-start-init : goal.apply_loop-loop-start-init
apply_loop-loop-start-init t c =
    first-turn _ c.requires c.ranges.given.fits

pub apply_loop-returns-then-left-eq0 : goal.apply_loop-returns-then-left-eq0
apply_loop-returns-then-left-eq0 t c =
    ends-units c.loop-start.invariant _ c.no_units.ensures c.if-left-eq0.true

pub apply_loop-returns-then-d-eq0 : goal.apply_loop-returns-then-d-eq0
apply_loop-returns-then-d-eq0 t c =
    ends-nesting c.loop-start.invariant _ c.no_nesting.ensures c.if-left-eq0.false c.if-d-eq0.true

pub apply_loop-kind-requires : goal.apply_loop-kind-requires
apply_loop-kind-requires t c =
    c.loop-start.invariant.ready.inside

pub apply_loop-begin_seq-got-requires : goal.apply_loop-begin_seq-got-requires
apply_loop-begin_seq-got-requires t c = (
  omega (arith, c.loop-start.invariant.deeper, pos _ c.if-d-eq0.false, c.decreases),
  ready-next c.loop-start.invariant
      c.if-left-eq0.false c.if-d-eq0.false (λ z. omega (arith, c.kind.ensures, c.in-4.is, z)) 0 _ (omega arith)
      c.entry.ensures,
)

pub apply_loop-returns-in_default-answer_of : goal.apply_loop-returns-in_default-answer_of
apply_loop-returns-in_default-answer_of t c =
    seq-returns c.loop-start.invariant c.if-left-eq0.false c.if-d-eq0.false c.entry.ensures c.begin_seq-got.ensures
    c.answer_of.ensures refl (sym c.kind.ensures ∙ c.in-4.is) (Tagged-not_done _ c.in_default-answer_of.not-Done)

pub apply_loop-loop-start-smaller-in-4 : goal.apply_loop-loop-start-smaller-in-4
apply_loop-loop-start-smaller-in-4 t c =
    omega (arith, pos _ c.if-d-eq0.false)

pub apply_loop-loop-start-preserved-in-4 : goal.apply_loop-loop-start-preserved-in-4
apply_loop-loop-start-preserved-in-4 t c =
    seq-turn c.loop-start.invariant c.if-left-eq0.false c.if-d-eq0.false c.entry.ensures c.begin_seq-got.ensures
    c.answer_of.ensures c.entry-e.ensures (sym c.kind.ensures ∙ c.in-4.is)
    c.in-Done.is c.begin_seq-got.auto.store

pub apply_loop-cong-requires : goal.apply_loop-cong-requires
apply_loop-cong-requires t c = (
  omega (arith, c.loop-start.invariant.deeper, pos _ c.if-d-eq0.false, c.decreases),
  (ready-same c.loop-start.invariant c.if-left-eq0.false c.if-d-eq0.false, sym c.kind.ensures ∙ c.in-10.is),
)

pub apply_loop-returns-in-10 : goal.apply_loop-returns-in-10
apply_loop-returns-in-10 t c =
    whole c.loop-start.invariant c.if-left-eq0.false c.if-d-eq0.false c.cong.ensures

pub apply_loop-count-requires : goal.apply_loop-count-requires
apply_loop-count-requires t c =
    rw (same-node _ c.if-left-eq0.false) (ready-stored c.loop-start.invariant.ready)

pub apply_loop-returns-then-count-eq0 : goal.apply_loop-returns-then-count-eq0
apply_loop-returns-then-count-eq0 t c =
    let l = c.loop-start.invariant in
    let r = ready-same l c.if-left-eq0.false c.if-d-eq0.false in
    whole l c.if-left-eq0.false
    c.if-d-eq0.false
    (gives-one-none _ r (one-begins _ r (sym c.kind.ensures
    ∙ c.in-12.is) c.count.ensures) (omega (arith, c.if-count-eq0.true))
    c.failure.ensures)

pub apply_loop-one-requires : goal.apply_loop-one-requires
apply_loop-one-requires t c =
    let l = c.loop-start.invariant in (
      omega (
        arith,
        l.deeper,
        pos _ c.if-d-eq0.false,
        c.decreases,
      ),
      (
        ready-same l c.if-left-eq0.false
            c.if-d-eq0.false,
        sym
            c.kind.ensures ∙ c.in-12.is,
      ),
    )

pub apply_loop-returns-in-12 : goal.apply_loop-returns-in-12
apply_loop-returns-in-12 t c =
    whole c.loop-start.invariant
    c.if-left-eq0.false
    c.if-d-eq0.false c.one.ensures

pub apply_loop-visits_to_failure-requires : goal.apply_loop-visits_to_failure-requires
apply_loop-visits_to_failure-requires t c = (
  c.loop-start.invariant.ready.hints,
  c.loop-start.invariant.ready.inside,
  operand_below _ c.loop-start.invariant.ready.entries _ 2
      c.loop-start.invariant.ready.inside (no-scope (of_two _ _ 5 c.kind.ensures (omega arith) (omega arith)) (omega arith) (omega arith)) (omega arith),
  (of_two _ _ 5 c.kind.ensures (omega arith) (omega arith)),
  rw (same-node _ c.if-left-eq0.false) (ready-stored c.loop-start.invariant.ready),
)

pub apply_loop-loop-start-smaller-in-Some : goal.apply_loop-loop-start-smaller-in-Some
apply_loop-loop-start-smaller-in-Some t c =
    omega (arith, pos _ c.if-d-eq0.false)

pub apply_loop-loop-start-preserved-in-Some : goal.apply_loop-loop-start-preserved-in-Some
apply_loop-loop-start-preserved-in-Some t c =
    skip-turn c.loop-start.invariant c.if-left-eq0.false c.if-d-eq0.false refl c.in-Some.ensures
    (of_two _ _ 5 c.kind.ensures (omega arith) (omega arith)) c.entry-in-Some.ensures c.entry-e-in-Some.ensures

pub apply_loop-apply_first-got-requires : goal.apply_loop-apply_first-got-requires
apply_loop-apply_first-got-requires t c = (
  omega (arith, c.loop-start.invariant.deeper, pos _ c.if-d-eq0.false, c.decreases),
  ready-next c.loop-start.invariant
      c.if-left-eq0.false c.if-d-eq0.false (no-scope
      (of_two _ _ 5 c.kind.ensures (omega arith) (omega arith))
      (omega arith) (omega arith)) 0 _ (omega arith) c.entry-first.ensures,
)

pub apply_loop-returns-in_default-answer_of-2 : goal.apply_loop-returns-in_default-answer_of-2
apply_loop-returns-in_default-answer_of-2 t c =
    left-returns c.loop-start.invariant c.if-left-eq0.false c.if-d-eq0.false c.entry-first.ensures
    c.apply_first-got.ensures c.answer_of-in-5-to-6.ensures
    (of_two _ _ 5 c.kind.ensures (omega arith) (omega arith)) refl
    (Tagged-not_failed _ c.in_default-answer_of-2.not-Failed)

pub apply_loop-loop-start-smaller-then-this-lt7 : goal.apply_loop-loop-start-smaller-then-this-lt7
apply_loop-loop-start-smaller-then-this-lt7 t c =
    omega (arith, pos _ c.if-d-eq0.false)

pub apply_loop-loop-start-preserved-then-this-lt7 : goal.apply_loop-loop-start-preserved-then-this-lt7
apply_loop-loop-start-preserved-then-this-lt7 t c =
    rw (c.restore.ensures, c.save-saved.ensures.mark, c.save-saved.ensures.mask)
    (left-turn c.loop-start.invariant c.if-left-eq0.false c.if-d-eq0.false c.entry-first.ensures
    c.apply_first-got.ensures c.answer_of-in-5-to-6.ensures
    (of_two _ _ 5 c.kind.ensures (omega arith) (omega arith))
    c.entry-e-in-5-to-6.ensures c.in-Failed.is c.done-s.ensures c.apply_first-got.auto.store)

pub apply_loop-loop-start-smaller : goal.apply_loop-loop-start-smaller
apply_loop-loop-start-smaller t c =
    omega (arith, pos _ c.if-d-eq0.false)

pub apply_loop-loop-start-preserved : goal.apply_loop-loop-start-preserved
apply_loop-loop-start-preserved t c =
    rec-turn c.loop-start.invariant c.if-left-eq0.false c.if-d-eq0.false _ c.entry-e-in-7-to-8.ensures (of_two _ _ 7 c.kind.ensures (omega arith) (omega arith))

pub apply_loop-rule-requires : goal.apply_loop-rule-requires
apply_loop-rule-requires t c = (
  omega (arith, c.loop-start.invariant.deeper, pos _ c.if-d-eq0.false, c.decreases),
  (
    ready-same c.loop-start.invariant c.if-left-eq0.false c.if-d-eq0.false,
    last-kind _ _ c.kind.ensures
        (λ z. omega arith) (λ z. omega arith) (λ z. omega arith)
        (elim c.in_default.branch [ apply_loop-in_default-via-then-this-lt4 w ↦ inl (omega arith) | apply_loop-in_default-via-else-this-lt4+else-this-lt7+else-this-lt9 w ↦ inr (omega arith) ]),
  ),
)

pub apply_loop-returns-in_default : goal.apply_loop-returns-in_default
apply_loop-returns-in_default t c =
    whole c.loop-start.invariant c.if-left-eq0.false c.if-d-eq0.false c.rule.ensures

-- ---- begin_seq

pub begin_seq-apply-requires : goal.begin_seq-apply-requires
begin_seq-apply-requires t c =
    (omega arith, c.requires)

pub begin_seq-returns-then-left-eq0 : goal.begin_seq-returns-then-left-eq0
begin_seq-returns-then-left-eq0 t c =
    ends-units (first-turn _ c.requires
    c.ranges.given.fits) _ c.no_units.ensures c.if-left-eq0.true

pub begin_seq-returns-then-deep-eq0 : goal.begin_seq-returns-then-deep-eq0
begin_seq-returns-then-deep-eq0 t c =
    ends-nesting (first-turn _ c.requires
    c.ranges.given.fits) _ c.no_nesting.ensures c.if-left-eq0.false
    c.if-deep-eq0.true

pub begin_seq-returns : goal.begin_seq-returns
begin_seq-returns t c =
    whole (first-turn _ c.requires
    c.ranges.given.fits)
    c.if-left-eq0.false c.if-deep-eq0.false
    (renamed c.match_node.ensures (sym (ruled-match _ _ _ _ _ _ _ _ _ c.entry.ensures
    (sym c.kind.ensures
    ∙ c.if-kind-ne-MATCH.false))))

-- ---- cong

pub cong-returns-then-not-agree : goal.cong-returns-then-not-agree
cong-returns-then-not-agree t c =
    gives-cong-failed _ c.requires.0 c.requires.1
    c.agree.ensures c.if-not-agree.true-raw c.failure.ensures

pub cong-walk-requires : goal.cong-walk-requires
cong-walk-requires t c = (
  omega arith,
  (
    c.requires.0,
    cong-counted 0
        c.requires.0 c.requires.1
        c.agree.ensures c.if-not-agree.false-raw,
  ),
)

pub cong-returns : goal.cong-returns
cong-returns t c =
    gives-cong _ c.requires.0 c.requires.1 c.agree.ensures c.if-not-agree.false-raw c.walk.ensures

-- ---- guard

pub guard-apply-got-requires : goal.guard-apply-got-requires
guard-apply-got-requires t c = (
  omega arith,
  ready-operand c.requires.0
      (no-scope c.requires.1 (omega arith) (omega arith)) 0 _ _ (omega arith)
      c.entry.ensures c.requires.0.subject,
)

pub guard-returns-in_default : goal.guard-returns-in_default
guard-returns-in_default t c =
    gives-guard-off _ c.requires.0 c.entry.ensures c.apply-got.ensures c.attempt_of.ensures c.requires.1 c.in_default.is

pub guard-returns-then-is_some-kind : goal.guard-returns-then-is_some-kind
guard-returns-then-is_some-kind t c =
    rw (c.restore.ensures, c.save-saved.ensures.mark, c.save-saved.ensures.mask)
    (gives-guard _ c.requires.0 c.entry.ensures c.apply-got.ensures c.attempt_of.ensures c.requires.1
    c.in-Ended.is c.kind.ensures (sym c.is_some.ensures ∙ alike _ _ c.if-is_some-kind.true) c.done.ensures)

pub guard-returns-else-is_some-kind : goal.guard-returns-else-is_some-kind
guard-returns-else-is_some-kind t c =
    rw (c.restore.ensures, c.save-saved.ensures.mark, c.save-saved.ensures.mask)
    (gives-guard-failed _ c.requires.0 c.entry.ensures c.apply-got.ensures c.attempt_of.ensures c.requires.1
    c.in-Ended.is c.kind.ensures (λ z. unlike _ _ c.if-is_some-kind.false (c.is_some.ensures ∙ z)) c.failure.ensures)

-- ---- hiding

pub hiding-apply_in_scope-got-requires : goal.hiding-apply_in_scope-got-requires
hiding-apply_in_scope-got-requires t c = (
  omega arith,
  ready-hiding c.args.deep c.requires.0 c.scope_mask-mask.ensures
      (omega (arith, c.scope_mask-mask.type_inv)) c.entry.ensures c.requires.1 c.unbind.ensures,
)

pub hiding-returns : goal.hiding-returns
hiding-returns t c =
    gives-hiding _ c.requires.0 c.scope_mask-mask.ensures (omega (arith, c.scope_mask-mask.type_inv))
    c.entry.ensures c.requires.1 c.unbind.ensures c.apply_in_scope-got.ensures
    c.bound_in-hidden.ensures c.keep_words.ensures c.unbind-2.ensures c.put_back.ensures

-- ---- keep_subject

pub keep_subject-apply-got-requires : goal.keep_subject-apply-got-requires
keep_subject-apply-got-requires t c = (
  omega arith,
  ready-operand c.requires.0
      (λ z. omega (arith, c.requires.1, z)) 0 _ _ (omega arith) c.entry.ensures
      c.requires.0.subject,
)

pub keep_subject-returns-in_default : goal.keep_subject-returns-in_default
keep_subject-returns-in_default t c =
    gives-where-stops _ c.requires.0 c.entry.ensures c.apply-got.ensures c.answer_of.ensures c.requires.1 (Tagged-not_done _ c.in_default.not-Done)

pub keep_subject-returns : goal.keep_subject-returns
keep_subject-returns t c =
    gives-where _ c.requires.0 c.entry.ensures c.apply-got.ensures c.answer_of.ensures c.requires.1 c.in-Done.is c.done.ensures

-- ---- one

-- before each child, and after the last one
-- there is a child, and units for the visits that only lead on to it
-- the visit of the child has been made
-- it ended, as it told
pub one-loop-i-init : goal.one-loop-i-init
one-loop-i-init t c =
    one-begins _ c.requires.0 c.requires.1 c.count-n.ensures

pub one-returns-then-left-ahead : goal.one-returns-then-left-ahead
one-returns-then-left-ahead t c =
    gives-one-short _ c.requires.0 c.loop-i.invariant c.loop-i-test.true c.requires.1 c.visits_ahead-ahead.ensures
    c.entry_ahead-op.ensures refl c.if-left-ahead.true c.no_units.ensures

pub one-node_word-requires : goal.one-node_word-requires
one-node_word-requires t c =
    (steady-stored c.loop-i.invariant.steady _ c.requires.0.subject, omega (arith, c.loop-i.invariant.count, c.loop-i-test.true))

pub one-apply_loop-got-requires : goal.one-apply_loop-got-requires
one-apply_loop-got-requires t c = (
  omega (arith, c.decreases),
  ready-one c.args.deep c.requires.0 c.loop-i.invariant c.loop-i-test.true c.requires.1 c.visits_ahead-ahead.ensures
      c.entry_ahead-op.ensures c.node_word.ensures (omega (arith, c.if-left-ahead.false)) c.done.ensures,
)

pub one-returns-in_default : goal.one-returns-in_default
one-returns-in_default t c =
    let enough : c.visits_ahead-ahead.result ≤ c.loop-i.left = omega (arith, c.if-left-ahead.false) in
    gives-one-off _ c.requires.0 c.loop-i.invariant c.loop-i-test.true c.requires.1 c.visits_ahead-ahead.ensures
    c.entry_ahead-op.ensures c.node_word.ensures enough c.done.ensures c.apply_loop-got.ensures
    c.attempt_of.ensures c.in_default.is

pub one-row-made-requires : goal.one-row-made-requires
one-row-made-requires t c =
    let enough : c.visits_ahead-ahead.result ≤ c.loop-i.left = omega (arith, c.if-left-ahead.false) in
    stored_one c.args.deep c.requires.0 c.loop-i.invariant c.loop-i-test.true c.requires.1
    c.visits_ahead-ahead.ensures c.entry_ahead-op.ensures c.node_word.ensures enough c.done.ensures
    c.apply_loop-got.ensures c.attempt_of.ensures c.in-Ended.is c.in-Some.is

pub one-node-requires : goal.one-node-requires
one-node-requires t c =
    let enough : c.visits_ahead-ahead.result ≤ c.loop-i.left = omega (arith, c.if-left-ahead.false) in (
      fits_one c.args.deep c.requires.0 c.loop-i.invariant c.loop-i-test.true c.requires.1
          c.visits_ahead-ahead.ensures c.entry_ahead-op.ensures c.node_word.ensures enough c.done.ensures
          c.apply_loop-got.ensures c.attempt_of.ensures c.in-Ended.is c.in-Some.is,
      c.apply_loop-got.ensures.frame.long ∙ c.loop-i.invariant.wide ∙ c.requires.0.long,
    )

pub one-returns-in-Some : goal.one-returns-in-Some
one-returns-in-Some t c =
    let enough : c.visits_ahead-ahead.result ≤ c.loop-i.left = omega (arith, c.if-left-ahead.false) in
    gives_one _ c.requires.0 c.loop-i.invariant c.loop-i-test.true c.requires.1 c.visits_ahead-ahead.ensures
    c.entry_ahead-op.ensures c.node_word.ensures enough c.done.ensures c.apply_loop-got.ensures
    c.attempt_of.ensures c.in-Ended.is c.in-Some.is c.row-made.ensures c.node.ensures

pub one-loop-i-preserved : goal.one-loop-i-preserved
one-loop-i-preserved t c =
    let enough : c.visits_ahead-ahead.result ≤ c.loop-i.left = omega (arith, c.if-left-ahead.false) in
    rw (c.restore.ensures, c.save-saved.ensures.mark, c.save-saved.ensures.mask)
    (one_again _ c.requires.0 c.loop-i.invariant c.loop-i-test.true c.requires.1 c.visits_ahead-ahead.ensures
    c.entry_ahead-op.ensures c.node_word.ensures enough c.done.ensures c.apply_loop-got.ensures
    c.attempt_of.ensures c.in-Ended.is (is-none _ c.in_default-term.not-Some))

pub one-returns : goal.one-returns
one-returns t c =
    gives-one-none _ c.requires.0 c.loop-i.invariant c.loop-i-test.false c.failure.ensures

-- ---- path

-- the position is not 0, and the children are counted
-- there is such a child, and it is in hand
-- its visit has been made
pub path-returns-then-i-eq0 : goal.path-returns-then-i-eq0
path-returns-then-i-eq0 t c = elim c.then-i-eq0.branch [
  | path-then-i-eq0-via-then-i-eq0 w ↦
      gives-path-zero _ c.requires.0 c.requires.1 c.entry-i.ensures w.if-i-eq0.true c.failure.ensures
  | path-then-i-eq0-via-else-i-eq0+then-count-i w ↦
      gives-path-past _ c.requires.0 c.requires.1 c.entry-i.ensures w.count.ensures w.if-i-eq0.false w.if-count-i.true
      c.failure.ensures
]

pub path-apply-got-requires : goal.path-apply-got-requires
path-apply-got-requires t c = (
  omega (arith, c.decreases),
  ready-path c.args.deep c.requires.0 c.requires.1 c.entry-i.ensures c.count.ensures
      c.if-i-eq0.false c.if-count-i.false c.entry.ensures c.node_word.ensures c.done.ensures,
)

pub path-returns-in_default : goal.path-returns-in_default
path-returns-in_default t c =
    gives-path-stops _ c.requires.0 c.requires.1 c.entry-i.ensures c.count.ensures c.if-i-eq0.false
    c.if-count-i.false c.entry.ensures c.node_word.ensures c.done.ensures c.apply-got.ensures
    c.answer_of.ensures (Tagged-not_done _ c.in_default.not-Done)

pub path-row-made-requires : goal.path-row-made-requires
path-row-made-requires t c =
    stored-path c.args.deep c.requires.0 c.requires.1 c.entry-i.ensures c.count.ensures
    c.if-i-eq0.false c.if-count-i.false c.entry.ensures c.node_word.ensures c.done.ensures
    c.apply-got.ensures c.answer_of.ensures c.in-Done.is

pub path-node-requires : goal.path-node-requires
path-node-requires t c = (
  fits-path c.args.deep c.requires.0 c.requires.1 c.entry-i.ensures c.count.ensures
      c.if-i-eq0.false c.if-count-i.false c.entry.ensures c.node_word.ensures c.done.ensures
      c.apply-got.ensures c.answer_of.ensures c.in-Done.is,
  c.apply-got.ensures.frame.long ∙ c.requires.0.long,
)

pub path-returns : goal.path-returns
path-returns t c =
    gives-path _ c.requires.0 c.requires.1 c.entry-i.ensures c.count.ensures c.if-i-eq0.false
    c.if-count-i.false c.entry.ensures c.node_word.ensures c.done.ensures c.apply-got.ensures
    c.answer_of.ensures c.in-Done.is c.row-made.ensures c.node.ensures

-- ---- rule

pub rule-path-requires : goal.rule-path-requires
rule-path-requires t c =
    (omega arith, (c.requires.0, sym c.kind.ensures ∙ c.in-9.is))

pub rule-walk-requires : goal.rule-walk-requires
rule-walk-requires t c = (
  omega arith,
  (
    c.requires.0,
    (
      λ z. ⊎_elim (λ y. omega (arith, c.kind.ensures, y, z)) (λ y. omega (arith, c.kind.ensures, y, z)) c.in-11.is,
      λ z. absurd (⊎_elim (λ y. two-kinds c.kind.ensures y z (omega arith)) (λ y. two-kinds c.kind.ensures y z (omega arith)) c.in-11.is),
    ),
  ),
)

pub rule-scope-requires : goal.rule-scope-requires
rule-scope-requires t c =
    (omega arith, (c.requires.0, sym c.kind.ensures ∙ c.in-16.is))

pub rule-keep_subject-requires : goal.rule-keep_subject-requires
rule-keep_subject-requires t c =
    (omega arith, (c.requires.0, sym c.kind.ensures ∙ c.in-17.is))

pub rule-guard-requires : goal.rule-guard-requires
rule-guard-requires t c = (
  omega arith,
  (
    c.requires.0,
    of_two _ _ 2 c.kind.ensures (omega arith) (omega arith),
  ),
)

pub rule-returns-in-0 : goal.rule-returns-in-0
rule-returns-in-0 t c =
    gives-id _ c.requires.0 c.kind.ensures c.in-0.is

pub rule-returns-in-11 : goal.rule-returns-in-11
rule-returns-in-11 t c =
    renamed c.walk.ensures (sym (⊎_elim (λ y. ruled-all _ _ _ _ _ _ _ _ (sym c.kind.ensures ∙ y))
    (λ y. ruled-some _ _ _ _ _ _ _ _ (sym c.kind.ensures ∙ y)) c.in-11.is))

pub rule-returns-in-14 : goal.rule-returns-in-14
rule-returns-in-14 t c =
    renamed c.match_node.ensures (sym (ruled-match _ _ _ _ _ _ _ _ _ c.entry.ensures
    (sym c.kind.ensures ∙ c.in-14.is)))

pub rule-returns-in-15 : goal.rule-returns-in-15
rule-returns-in-15 t c =
    renamed (c.build.ensures _) (sym
    (ruled-build _ _ _ _ _ _ _ _ _ c.entry-in-15.ensures
    (sym c.kind.ensures
    ∙ c.in-15.is)))

pub rule-returns-in_default : goal.rule-returns-in_default
rule-returns-in_default t c =
    gives-failure _ c.requires.0 (ruled-none _ c.requires.0 c.kind.ensures
    (no-rule _ _ c.kind.ensures c.requires.1 (elim c.in_default.branch [ rule-in_default-via-then-this-lt2 w ↦ inl (omega arith) | rule-in_default-via-else-this-lt2+else-this-lt4 w ↦ inr (omega arith) ])
    (λ z. omega arith) (λ z. omega arith) (λ z. grind arith) (λ z. grind arith) (λ z. omega arith) (λ z. omega arith) (λ z. omega arith) (λ z. omega arith))) c.failure.ensures

-- ---- scope

pub scope-hiding-requires : goal.scope-hiding-requires
scope-hiding-requires t c =
    (omega arith, c.requires)

pub scope-apply_in_scope-got-requires : goal.scope-apply_in_scope-got-requires
scope-apply_in_scope-got-requires t c =
    (omega arith, ready-scope c.args.deep c.requires.0 c.scope_mask-mask.ensures (omega (arith, c.scope_mask-mask.type_inv)) c.entry.ensures c.requires.1)

pub scope-returns : goal.scope-returns
scope-returns t c =
    gives-scope _ c.requires.0 c.scope_mask-mask.ensures (omega (arith, c.scope_mask-mask.type_inv))
    c.entry.ensures c.requires.1 c.apply_in_scope-got.ensures
    (sym c.bound_in.ensures ∙ c.if-bound_in-ne0.false) c.unbind.ensures

-- ---- walk

-- before each child, and after the last one
-- there is a child i
-- all children are visited
-- child i is in hand
-- its visit has been made, with those that only lead on to it
pub walk-loop-i-init : goal.walk-loop-i-init
walk-loop-i-init t c =
    (going-first _ c.requires.0 c.node_word-name.ensures c.count-n.ensures refl, refl)

pub walk-returns-then-left-ahead : goal.walk-returns-then-left-ahead
walk-returns-then-left-ahead t c =
    let child : c.loop-i.i < count_of c.args.store.now (node_in c.args.s) = omega (arith, c.count-n.ensures, c.loop-i-test.true) in
    ahead-short c.requires.0 c.requires.1 c.loop-i.invariant.0 child _ _ c.visits_ahead-ahead.ensures
    c.kind-kind.ensures c.entry_ahead-first.ensures refl c.if-left-ahead.true c.no_units.ensures

pub walk-node_word-c-requires : goal.walk-node_word-c-requires
walk-node_word-c-requires t c =
    let child : c.loop-i.i < count_of c.args.store.now (node_in c.args.s) = omega (arith, c.count-n.ensures, c.loop-i-test.true) in
    (going-stored c.requires.0 c.loop-i.invariant.0, omega (arith, child))

pub walk-apply-got-requires : goal.walk-apply-got-requires
walk-apply-got-requires t c =
    let child : c.loop-i.i < count_of c.args.store.now (node_in c.args.s) = omega (arith, c.count-n.ensures, c.loop-i-test.true) in (
      omega (arith, c.decreases),
      ahead-ready c.requires.0 c.requires.1 c.loop-i.invariant.0 child _ _ c.visits_ahead-ahead.ensures
          c.kind-kind.ensures c.entry_ahead-first.ensures c.operand.ensures c.node_word-c.ensures c.done.ensures,
    )

pub walk-returns-in_default : goal.walk-returns-in_default
walk-returns-in_default t c =
    let child : c.loop-i.i < count_of c.args.store.now (node_in c.args.s) = omega (arith, c.count-n.ensures, c.loop-i-test.true) in
    let gives : Gives (visit c.args.table.now c.args.deep (apply (operand_for c.args.table.now c.args.e c.kind-kind.result c.loop-i.i)
    (node_in (packed c.node_word-c.result c.loop-i.left)) (held c.loop-i.st)) c.loop-i.store (standing c.loop-i.st)
    (units_in (packed c.node_word-c.result c.loop-i.left))) c.loop-i.st c.apply-got.result c.apply-got.new.st c.apply-got.new.store =
    ahead-gives c.requires.0 c.requires.1 c.loop-i.invariant.0 child _ _ c.visits_ahead-ahead.ensures c.kind-kind.ensures
    c.entry_ahead-first.ensures c.operand.ensures c.node_word-c.ensures c.done.ensures (omega (arith, c.if-left-ahead.false))
    c.apply-got.ensures in
    going-off c.requires.0 c.requires.1 c.loop-i.invariant.0 child refl c.kind-kind.ensures
    c.node_word-c.ensures refl gives c.attempt_of.ensures c.in_default.is

pub walk-returns-in_default-saved : goal.walk-returns-in_default-saved
walk-returns-in_default-saved t c =
    let child : c.loop-i.i < count_of c.args.store.now (node_in c.args.s) = omega (arith, c.count-n.ensures, c.loop-i-test.true) in
    let gives : Gives (visit c.args.table.now c.args.deep (apply (operand_for c.args.table.now c.args.e c.kind-kind.result c.loop-i.i)
    (node_in (packed c.node_word-c.result c.loop-i.left)) (held c.loop-i.st)) c.loop-i.store (standing c.loop-i.st)
    (units_in (packed c.node_word-c.result c.loop-i.left))) c.loop-i.st c.apply-got.result c.apply-got.new.st c.apply-got.new.store =
    ahead-gives c.requires.0 c.requires.1 c.loop-i.invariant.0 child _ _ c.visits_ahead-ahead.ensures c.kind-kind.ensures
    c.entry_ahead-first.ensures c.operand.ensures c.node_word-c.ensures c.done.ensures (omega (arith, c.if-left-ahead.false))
    c.apply-got.ensures in
    going-stops c.requires.0 c.requires.1 c.loop-i.invariant.0 child refl c.kind-kind.ensures
    c.node_word-c.ensures refl gives c.attempt_of.ensures c.in-Ended.is c.kind-kind.ensures
    (when-none _ _ _ c.save_for-saved.ensures c.in_default-saved.not-Some) c.in-None.is

pub walk-loop-i-preserved : goal.walk-loop-i-preserved
walk-loop-i-preserved t c =
    let child : c.loop-i.i < count_of c.args.store.now (node_in c.args.s) = omega (arith, c.count-n.ensures, c.loop-i-test.true) in
    let gives : Gives (visit c.args.table.now c.args.deep (apply (operand_for c.args.table.now c.args.e c.kind-kind.result c.loop-i.i)
    (node_in (packed c.node_word-c.result c.loop-i.left)) (held c.loop-i.st)) c.loop-i.store (standing c.loop-i.st)
    (units_in (packed c.node_word-c.result c.loop-i.left))) c.loop-i.st c.apply-got.result c.apply-got.new.st c.apply-got.new.store =
    ahead-gives c.requires.0 c.requires.1 c.loop-i.invariant.0 child _ _ c.visits_ahead-ahead.ensures c.kind-kind.ensures
    c.entry_ahead-first.ensures c.operand.ensures c.node_word-c.ensures c.done.ensures (omega (arith, c.if-left-ahead.false))
    c.apply-got.ensures in (
      elim c.match-term.branch [
        | walk-in-Some j ↦
            going-yes c.requires.0 c.requires.1 c.loop-i.invariant.0 child refl c.kind-kind.ensures c.node_word-c.ensures
            refl gives c.attempt_of.ensures c.in-Ended.is j.in-Some.is j.st-is j.won-is
            (placed c.loop-i.i _ _ _ c.loop-i.a c.loop-i.b c.loop-i.others c.child_at-a.ensures c.child_at-b.ensures c.others_at-others.ensures j.y-is)
        | walk-in-None+in-Some-saved j ↦
            let s = when-some _ _ _ c.save_for-saved.ensures _ j.in-Some-saved.is in
            going-no c.requires.0 c.requires.1 c.loop-i.invariant.0 child refl c.kind-kind.ensures c.node_word-c.ensures
            refl gives c.attempt_of.ensures c.in-Ended.is j.in-None.is c.kind-kind.ensures s.0 s.1 s.2
            (j.st-is ∙ j.restore.ensures) j.won-is
            (placed c.loop-i.i _ _ _ c.loop-i.a c.loop-i.b c.loop-i.others c.child_at-a.ensures c.child_at-b.ensures c.others_at-others.ensures j.y-is)
      ],
      four-still c.loop-i.others c.loop-i.i c.match-term.y c.loop-i.invariant.1 c.others_at-others.ensures,
    )

pub walk-finish-requires : goal.walk-finish-requires
walk-finish-requires t c =
    let all : count_of c.args.store.now (node_in c.args.s) ≤ c.loop-i.i = omega (arith, c.count-n.ensures, c.loop-i-test.false) in (
      going-fits c.requires.0 c.requires.1 c.loop-i.invariant.0 all,
      going-long c.requires.0 c.requires.1 c.loop-i.invariant.0 all,
      going-small c.requires.0 c.requires.1 c.loop-i.invariant.0 all,
    )

pub walk-returns : goal.walk-returns
walk-returns t c =
    let all : count_of c.args.store.now (node_in c.args.s) ≤ c.loop-i.i = omega (arith, c.count-n.ensures, c.loop-i-test.false) in
    going-ends c.requires.0 c.requires.1 c.loop-i.invariant.0
    all c.kind-kind.ensures c.count-n.ensures
    (whole-made _ _ _ _ _ _ _ _ _ _ _ _ _ _ c.loop-i.invariant.1 c.finish.ensures)
