-- A byte that is no digit, a number beyond the limit, a digit more, and the end.
use Rattle.std.proofs.Common.{arith, ◌+◌, ◌-◌, ◌*◌, ◌≤◌, ◌≡◌, get_or, sym, ◌∙◌}
use Rattle.text.proofs.Parts.{valued-other, valued-over, valued-on, valued-end}
use Rattle.text.proofs.field.digits.Goals as goal

pub returns-then-not-is_ascii_digit : goal.returns-then-not-is_ascii_digit
returns-then-not-is_ascii_digit c =
    sym (valued-other c.args.most c.args.field.now c.loop-b.b-index c.loop-b.value c.loop-b-test.true (sym c.if-not-is_ascii_digit.ensures.value))
    ∙ c.loop-b.invariant.1

pub returns-then-most-digit : goal.returns-then-most-digit
returns-then-most-digit c =
    sym (valued-over c.args.most c.args.field.now c.loop-b.b-index c.loop-b.value c.loop-b-test.true
    c.if-not-is_ascii_digit.ensures.cases.0 c.if-not-is_ascii_digit.ensures.cases.1 (omega arith))
    ∙ c.loop-b.invariant.1

pub loop-b-preserved : goal.loop-b-preserved
loop-b-preserved c =
    let d = c.if-not-is_ascii_digit.ensures.cases in
    let most : c.loop-b.value * 10 + c.from-digit.result ≤ c.args.most = omega arith in
    let on : c.loop-b.value * 10 + (get_or c.args.field.now c.loop-b.b-index 0 - 48) ≡ c.loop-b.value * 10 + c.from-digit.result = omega arith in (
      most,
      rw (← on) (sym (valued-on c.args.most c.args.field.now c.loop-b.b-index c.loop-b.value c.loop-b-test.true d.0 d.1 (omega arith))
          ∙ c.loop-b.invariant.1),
    )

pub returns : goal.returns
returns c =
    sym (valued-end c.args.most c.args.field.now c.loop-b.b-index c.loop-b.value c.loop-b-test.false) ∙ c.loop-b.invariant.1
