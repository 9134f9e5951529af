-- `job::lines::entry_of` meets its contract, field by field. Assumes nothing.
use Rattle.std.proofs.Common.{◌≡◌, ℕ, ◌+◌, ◌-◌, ◌≤◌, ◌<◌, List, ◌∷◌, Option, length, get_or, take, drop, arith, ap, sym, ◌∙◌}
use mathlib.Core.List.{tail}
use mathlib.Core.Option as math
use Rattle.text.specs.Text.{parts, up_to, numbers_of}
use Rattle.text.proofs.Fields.{fields-next, field_end}
use Rattle.job.specs.Lines.{line_from, line_held}
use Rattle.job.specs.Held.{line_taken}
use Rattle.job.specs.declared.Line.{Line}
use Rattle.job.proofs.Entries.{no_field, kind-none, argument-left, argument-none, operands-none, entry_read}
use Rattle.job.proofs.lines.entry_of.Goals as goal

-- the two fields are found: the kind's from a tab at e to k, the argument's from a tab at k to a
module _ (line : List ℕ) (e k a : ℕ) (l : e < length line) (t : get_or line e 0 ≡ 9) (p : k ≡ (e + 1) + length (up_to 9 (drop (e + 1) line)))
    (m : k < length line) (q : a ≡ (k + 1) + length (up_to 9 (drop (k + 1) line))) where
  tab : get_or line k 0 ≡ 9
  tab = (field_end line e l t k p).2 m

  argument-ends : (k < a) × (a ≤ length line) × (a < length line → get_or line a 0 ≡ 9)
  argument-ends = field_end line k m tab a q

  -- the fields from the first on: the kind's, the argument's, and those after it
  two_fields : tail (parts 9 (drop e line))
      ≡ take (k - (e + 1)) (drop (e + 1) line) ∷ take (a - (k + 1)) (drop (k + 1) line) ∷ tail (parts 9 (drop a line))
  two_fields =
      fields-next line e l t k p ∙ ap (λ (r : List (List ℕ)). take (k - (e + 1)) (drop (e + 1) line) ∷ r) (fields-next line k m tab a q)

pub returns-then-line-end : goal.returns-then-line-end
returns-then-line-end c next = no_field next c.args.line.now c.args.end c.if-line-end.true

pub slice_bounds-number-end : goal.slice_bounds-number-end
slice_bounds-number-end c =
    let h = field_end c.args.line.now c.args.end c.if-line-end.false (c.requires.1 c.if-line-end.false) c.next_at-kind_end.result c.next_at-kind_end.ensures in
    omega (arith, h.0, h.1)

pub returns-in_err-kind : goal.returns-in_err-kind
returns-in_err-kind c next =
    ap (λ (r : Option Line). line_taken r next) c.from_residual.ensures
    ∙ kind-none next _ _ _
    (fields-next c.args.line.now c.args.end c.if-line-end.false (c.requires.1 c.if-line-end.false) c.next_at-kind_end.result c.next_at-kind_end.ensures)
    c.in_err-kind.ensures

pub returns-then-line-kind_end : goal.returns-then-line-kind_end
returns-then-line-kind_end c next =
    argument-left next _ c.args.line.now _ c.next_at-kind_end.result
    (fields-next c.args.line.now c.args.end c.if-line-end.false (c.requires.1 c.if-line-end.false) c.next_at-kind_end.result c.next_at-kind_end.ensures)
    c.if-line-kind_end.true

pub slice_bounds-number_within-end : goal.slice_bounds-number_within-end
slice_bounds-number_within-end c =
    let h = argument-ends c.args.line.now c.args.end c.next_at-kind_end.result c.next_at-argument_end.result c.if-line-end.false (c.requires.1 c.if-line-end.false)
    c.next_at-kind_end.ensures c.if-line-kind_end.false c.next_at-argument_end.ensures in
    omega (arith, h.0, h.1)

pub returns-in_err-argument : goal.returns-in_err-argument
returns-in_err-argument c next =
    ap (λ (r : Option Line). line_taken r next) c.from_residual-in_err-argument.ensures
    ∙ argument-none next _ _ _ _
    (two_fields c.args.line.now c.args.end c.next_at-kind_end.result c.next_at-argument_end.result c.if-line-end.false (c.requires.1 c.if-line-end.false)
    c.next_at-kind_end.ensures c.if-line-kind_end.false c.next_at-argument_end.ensures)
    c.in_err-argument.ensures

pub numbers-requires : goal.numbers-requires
numbers-requires c =
    let h = argument-ends c.args.line.now c.args.end c.next_at-kind_end.result c.next_at-argument_end.result c.if-line-end.false (c.requires.1 c.if-line-end.false)
    c.next_at-kind_end.ensures c.if-line-kind_end.false c.next_at-argument_end.ensures in
    (h.1, h.2)

pub returns-in_err-operands : goal.returns-in_err-operands
returns-in_err-operands c next =
    ap (λ (r : Option Line). line_taken r next) c.from_residual-in_err-operands.ensures
    ∙ operands-none next _ _ _ _
    (two_fields c.args.line.now c.args.end c.next_at-kind_end.result c.next_at-argument_end.result c.if-line-end.false (c.requires.1 c.if-line-end.false)
    c.next_at-kind_end.ensures c.if-line-kind_end.false c.next_at-argument_end.ensures)
    c.in_err-operands.ensures

pub returns : goal.returns
returns c next =
    let f =
    two_fields c.args.line.now c.args.end c.next_at-kind_end.result c.next_at-argument_end.result c.if-line-end.false (c.requires.1 c.if-line-end.false)
    c.next_at-kind_end.ensures c.if-line-kind_end.false c.next_at-argument_end.ensures in
    let r = entry_read _ _ _ _ _ _ f c.in_ok-kind.ensures c.in_ok-argument.ensures in
    c.entry_line.ensures next (numbers_of 8 (tail (parts 9 (drop c.next_at-argument_end.result c.args.line.now)))) c.in_ok-operands.ensures
    ∙ sym (ap (λ (o : math.Option (List ℕ)). line_held (line_from 1 o) next) r)
