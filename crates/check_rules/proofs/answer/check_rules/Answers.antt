-- The entries in use, and then the text. Assumes nothing.
use Rattle.checks.specs.Checked.{Checked}
use Rattle.check_rules.specs.Answer.{lines}
use Rattle.check_rules.proofs.Answering.{used-sizes, masks-callable}
use mathlib.Core.Path.{sym, ap}
use Rattle.check_rules.proofs.answer.check_rules.Goals as goal

pub check_text-requires : goal.check_text-requires
check_text-requires c =
    used-sizes c.args.table.now c.args.used (ap (λ (x : Checked). x.answer) (sym c.in_ok-check_used.ensures))

pub returns : goal.returns
returns c =
    lines (ap (λ (x : Checked). x.answer) (sym c.in_ok-check_used.ensures)) _
    (masks-callable c.args.table.now c.args.used _ c.fill_masks.ensures) c.check_text.ensures
