use Rattle.std.proofs.Common.{◌≡◌, ap, sym, ◌∙◌, below_more, arith}
use borrow.Author.Tests.{eq-eqb, ne_eqb}
use Rattle.words.specs.Words.{rows}
use Rattle.words.proofs.Tests.{nothing_rejected, first_rejected}
use Rattle.checks.specs.Good.{fault, good_entry, good_entry_by}
use Rattle.checks.specs.Numbers.{fault_number}
use Rattle.checks.specs.Checked.{checked}
use Rattle.checks.proofs.Numbering.{fault-some}
use Rattle.checks.proofs.entries.check_all_entries.Goals as goal

pub returns-in-Err : goal.returns-in-Err
unfolding good_entry_by
returns-in-Err c =
    let t = c.args.table.now in
    let is : fault_number c.in-Err.fault ≡ fault t c.loop-e.e = c.in-Err.ensures in
    rw (← first_rejected (good_entry t) (rows t) c.loop-e.e c.loop-e-test.true (ne_eqb _ _ (λ e. fault-some c.in-Err.fault (is ∙ e))) c.loop-e.invariant)
    (ap (λ n. checked n c.loop-e.e) is)

pub loop-e-preserved : goal.loop-e-preserved
unfolding good_entry_by
loop-e-preserved c = below_more _ _ c.loop-e.invariant (eq-eqb _ _ (sym c.in_default.ensures))

pub returns : goal.returns
returns c =
    let t = c.args.table.now in
    rw (← nothing_rejected (good_entry t) (rows t) (λ k l. c.loop-e.invariant k (omega (arith, c.loop-e-test.false))))
