-- `write_rules::rule::write_rule` meets its contract, test by test. Assumes nothing.
use Rattle.std.proofs.lemmas.Result.{err_from_is_err_and}
use Rattle.write_rules.proofs.Answering.{refused-entries, used-few, not-used}
use Rattle.checks.specs.Checked.{Checked}
use Rattle.checks.proofs.Numbers.{answer_ne0}
use mathlib.Core.Path.{ap, sym, refl}
use borrow.Author.Rules.{rules}
use Rattle.write_rules.proofs.rule.write_rule.Goals as goal

pub returns-in_err-check_used : goal.returns-in_err-check_used
returns-in_err-check_used c =
    let p = err_from_is_err_and c.from_residual.result c.from_residual.ensures.1 in
    rw (p.1, p.2) (refused-entries c.args.entry c.in_err-check_used.ensures (answer_ne0 _) _ refl)

pub returns-then-used-entry : goal.returns-then-used-entry
returns-then-used-entry c = not-used (sym (ap (λ (k : Checked). k.answer) c.in_ok-check_used.ensures)) c.if-used-entry.true _ refl

pub write_line-n-requires : goal.write_line-n-requires
write_line-n-requires c =
    (used-few c.args.table.now c.args.used (sym (ap (λ (k : Checked). k.answer) c.in_ok-check_used.ensures)), c.if-used-entry.false, search rules)

pub write_out-requires : goal.write_out-requires
write_out-requires c =
    (sym (ap (λ (k : Checked). k.answer) c.in_ok-check_used.ensures), c.if-used-entry.false, c.write_line-n.ensures.0, c.write_line-n.ensures.1)
