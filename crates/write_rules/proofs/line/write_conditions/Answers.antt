use Rattle.write_rules.proofs.Listing.{lists-begin, lists-leaves, lists-stop, lists-end, lists-on, lists-further}
use mathlib.Core.Path.{sym, ◌∙◌}
use native.Mathlib.Omega.{arith}
use Rattle.write_rules.proofs.line.write_conditions.Goals as goal

pub loop-entry-init : goal.loop-entry-init
loop-entry-init c =
    lists-begin _ _ _ _ _ c.requires.2

pub shape_of-line-then-kind_of-ne-SEQ : goal.shape_of-line-then-kind_of-ne-SEQ
shape_of-line-then-kind_of-ne-SEQ c =
    c.loop-entry.invariant.same

pub returns-then-kind_of-ne-SEQ : goal.returns-then-kind_of-ne-SEQ
returns-then-kind_of-ne-SEQ c =
    (lists-leaves c.loop-entry.invariant, lists-stop c.loop-entry.invariant (λ z. c.if-kind_of-ne-SEQ.true (c.kind_of.ensures ∙ z)))

pub write_condition-c-requires : goal.write_condition-c-requires
write_condition-c-requires c =
    (c.requires.0, omega (arith, c.loop-entry-test.true, c.requires.0), c.loop-entry.invariant.within)

pub loop-entry-smaller : goal.loop-entry-smaller
loop-entry-smaller c =
    omega (
      arith,
      lists-further c.loop-entry.invariant (sym c.kind_of.ensures ∙ c.if-kind_of-ne-SEQ.false) c.loop-entry-test.true
          c.write_condition-c.ensures.0 c.write_condition-c.ensures.1 c.write_condition-c.auto.line,
      c.loop-entry-test.true,
    )

pub loop-entry-preserved : goal.loop-entry-preserved
loop-entry-preserved c =
    lists-on c.loop-entry.invariant (sym c.kind_of.ensures ∙ c.if-kind_of-ne-SEQ.false) c.loop-entry-test.true c.write_condition-c.ensures.0
    c.write_condition-c.ensures.1 c.write_condition-c.auto.line

pub shape_of-line : goal.shape_of-line
shape_of-line c =
    c.loop-entry.invariant.same

pub returns : goal.returns
returns c =
    (lists-leaves c.loop-entry.invariant, lists-end c.loop-entry.invariant c.loop-entry-test.false)
