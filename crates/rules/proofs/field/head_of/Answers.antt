-- `rules::field::head_of` meets its contract, by the field's first byte and its number. Assumes nothing.
use mathlib.Core.Path.{ap, sym, ◌∙◌}
use borrow.Author.Tests.{eqb-true, eqb-false}
use lib.ListN.{length}
use Rattle.rules.specs.Held.{head_held}
use Rattle.rules.proofs.Scanning.{head-empty, head-v, head-c, con-small, con-large, all_after}
use Rattle.rules.proofs.field.head_of.Goals as goal

pub returns-then-is_empty : goal.returns-then-is_empty
returns-then-is_empty c =
    let f = c.args.field.now in
    head-empty f (eqb-true (length f) 0 (sym c.is_empty.ensures ∙ c.if-is_empty.true))

pub returns-in_err-number : goal.returns-in_err-number
returns-in_err-number c =
    let f = c.args.field.now in
    ap head_held c.from_residual.ensures
    ∙ head-v f _ (eqb-false (length f) 0 (sym c.is_empty.ensures ∙ c.if-is_empty.false)) c.if-field-eq118.true (c.in_err-number.ensures ∙ all_after f)

pub returns-then-field-eq118 : goal.returns-then-field-eq118
returns-then-field-eq118 c =
    let f = c.args.field.now in
    head-v f _ (eqb-false (length f) 0 (sym c.is_empty.ensures ∙ c.if-is_empty.false)) c.if-field-eq118.true (c.in_ok-number.ensures ∙ all_after f)

pub returns-in_err-c : goal.returns-in_err-c
returns-in_err-c c =
    let f = c.args.field.now in
    ap head_held c.from_residual-in_err-c.ensures
    ∙ head-c f _ (eqb-false (length f) 0 (sym c.is_empty.ensures ∙ c.if-is_empty.false)) c.if-field-eq118.false c.in_err-c.ensures

pub returns-then-c-le65535 : goal.returns-then-c-le65535
returns-then-c-le65535 c =
    let f = c.args.field.now in
    con-small c.in_ok-c.c c.if-c-le65535.true
    ∙ head-c f _ (eqb-false (length f) 0 (sym c.is_empty.ensures ∙ c.if-is_empty.false)) c.if-field-eq118.false c.in_ok-c.ensures

pub returns-else-c-le65535 : goal.returns-else-c-le65535
returns-else-c-le65535 c =
    let f = c.args.field.now in
    con-large c.in_ok-c.c c.if-c-le65535.false
    ∙ head-c f _ (eqb-false (length f) 0 (sym c.is_empty.ensures ∙ c.if-is_empty.false)) c.if-field-eq118.false c.in_ok-c.ensures
