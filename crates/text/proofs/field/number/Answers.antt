-- `text::field::number` meets its contract: a number within one word is one. Assumes nothing.
use Rattle.std.proofs.Common.{arith, ℕ, ap, sym, ◌∙◌}
use Rattle.text.specs.Text.{number_of}
use Rattle.text.proofs.Put.{for-one}
use Rattle.text.proofs.Decimal.{number-text}
use Rattle.text.proofs.field.number.Goals as goal

pub overflow_cast-result : goal.overflow_cast-result
overflow_cast-result c =
    let h = number-text for-one c.args.field.now c.in_ok-v.v (sym (c.in_ok-v.ensures ∙ ap (λ (m : ℕ). number_of m c.args.field.now) c.from.ensures)) in
    omega arith
