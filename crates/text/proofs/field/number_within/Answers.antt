-- `text::field::number_within` meets its contract, by the field's length and first byte. Assumes nothing.
use Rattle.std.proofs.Common.{arith, sym, ◌∙◌}
use Rattle.text.proofs.Fields.{number-none, number_digits, number-zero, number-leading}
use Rattle.text.proofs.field.number_within.Goals as goal

pub returns-in-len1-up : goal.returns-in-len1-up
returns-in-len1-up c = c.digits.ensures ∙ sym (number_digits c.args.most c.args.field.now (λ z. omega arith) (λ z. omega arith))

pub returns-in-len1 : goal.returns-in-len1
returns-in-len1 c = sym (number-zero c.args.most c.args.field.now c.if-first-ne48.false (omega arith))

pub returns-in_default : goal.returns-in_default
returns-in_default c =
    sym (number-leading c.args.most c.args.field.now (λ z. omega arith) c.if-first-ne48.false (λ z. omega arith))

pub returns-in-empty : goal.returns-in-empty
returns-in-empty c = sym (number-none c.args.most c.args.field.now (omega arith))
