use Rattle.write_rules.proofs.Walking.{walks-begin, walks-leaves, walks-end, stop-used, stop-kind, stop-room, walks-on}
use native.Mathlib.Omega.{arith}
use Rattle.write_rules.proofs.term.write_term.Goals as goal

pub loop-wanted-init : goal.loop-wanted-init
loop-wanted-init c =
    walks-begin _ _ _ _ _ c.requires.2

pub shape_of-line-then-used-entry : goal.shape_of-line-then-used-entry
shape_of-line-then-used-entry c =
    c.loop-wanted.invariant.same

pub returns-then-used-entry : goal.returns-then-used-entry
returns-then-used-entry c =
    (walks-leaves c.loop-wanted.invariant, stop-used c.loop-wanted.invariant c.loop-wanted-test.true c.if-used-entry.true)

pub overflow_sub-line : goal.overflow_sub-line
overflow_sub-line c =
    omega (arith, c.loop-wanted.invariant.within)

pub shape_of-line-then-line-at-lt24 : goal.shape_of-line-then-line-at-lt24
shape_of-line-then-line-at-lt24 c =
    c.loop-wanted.invariant.same

pub returns-then-line-at-lt24 : goal.returns-then-line-at-lt24
returns-then-line-at-lt24 c =
    (walks-leaves c.loop-wanted.invariant, stop-room c.loop-wanted.invariant c.loop-wanted-test.true c.if-line-at-lt24.true)

pub shape_of-line-then-kind_of-lt-PVAR : goal.shape_of-line-then-kind_of-lt-PVAR
shape_of-line-then-kind_of-lt-PVAR c =
    c.loop-wanted.invariant.same

pub returns-then-kind_of-lt-PVAR : goal.returns-then-kind_of-lt-PVAR
returns-then-kind_of-lt-PVAR c =
    (walks-leaves c.loop-wanted.invariant, stop-kind c.loop-wanted.invariant c.loop-wanted-test.true (omega (arith, c.kind_of.ensures, c.if-kind_of-lt-PVAR.true)))

pub write_entry-at-requires : goal.write_entry-at-requires
write_entry-at-requires c =
    omega (arith, c.if-line-at-lt24.false, c.loop-wanted.invariant.within)

pub overflow_sub-wanted : goal.overflow_sub-wanted
overflow_sub-wanted c =
    omega (arith, c.loop-wanted-test.true)

pub overflow_add-wanted : goal.overflow_add-wanted
overflow_add-wanted c =
    omega (arith, c.loop-wanted.invariant.few, c.loop-wanted.invariant.high, c.loop-wanted.invariant.low, c.operand_count-n.ensures, c.requires.0, c.requires.1)

pub overflow_add-entry : goal.overflow_add-entry
overflow_add-entry c =
    omega (arith, c.if-used-entry.false, c.requires.0)

pub loop-wanted-smaller : goal.loop-wanted-smaller
loop-wanted-smaller c =
    omega (arith, c.if-used-entry.false)

pub loop-wanted-preserved : goal.loop-wanted-preserved
loop-wanted-preserved c =
    walks-on c.loop-wanted.invariant c.loop-wanted-test.true c.if-used-entry.false c.write_entry-at.ensures c.write_entry-at.auto.line
    (omega (arith, c.if-line-at-lt24.false, c.loop-wanted.invariant.within)) c.operand_count-n.result c.operand_count-n.ensures

pub shape_of-line : goal.shape_of-line
shape_of-line c =
    c.loop-wanted.invariant.same

pub returns : goal.returns
returns c =
    (walks-leaves c.loop-wanted.invariant, walks-end c.loop-wanted.invariant c.loop-wanted-test.false)
