-- `text::field::digits` meets its contract. The loop's invariant: the number so far and the digits from the index on decide. Assumes nothing.
use Rattle.std.proofs.Common.{◌≡◌, ◌≤◌, drop}
use Rattle.text.specs.Text.{valued}
use Rattle.text.proofs.field.digits.Given as goal

abbrev pub invariant-loop-b : goal.invariant-loop-b
invariant-loop-b l =
    (l.value ≤ l.most) × (valued l.most l.value (drop l.b-index l.field) ≡ valued l.most 0 l.field)
