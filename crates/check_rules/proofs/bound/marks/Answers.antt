use mathlib.Core.Path.{ap, sym, ◌∙◌}
use Rattle.rules.specs.Text.{Fields}
use Rattle.rules.specs.Scan.{fields_from}
use Rattle.rules.specs.Walk.{fields_left}
use Rattle.rules.specs.declared.fields.Fields as walk
use Rattle.check_rules.proofs.Binding.{marks_all, marks-begun, marks-first, marks-none}
use Rattle.check_rules.proofs.bound.marks.Goals as goal

pub loop-field-init : goal.loop-field-init
loop-field-init c =
    ap (λ (s : walk.Fields). marks_all c.args.base (fields_left s) 0) c.into_iter-field-iterator.ensures.into_iter_gives
    ∙ ap (λ (fs : Fields). marks_all c.args.base fs 0) c.between-field-items.ensures
    ∙ marks-begun c.args.base (fields_from c.args.line.now c.args.from) c.args.from c.args.to 0

pub loop-field-preserved : goal.loop-field-preserved
loop-field-preserved c =
    ap (marks_all c.args.base (fields_left c.next.new.self)) c.mark-mask.ensures
    ∙ sym (marks-first c.args.base c.in-Some.field.now (fields_left c.next.new.self) c.loop-field.mask)
    ∙ ap (λ (fs : Fields). marks_all c.args.base fs c.loop-field.mask) (sym c.in-Some.ensures.steps)
    ∙ c.loop-field.invariant

pub returns : goal.returns
returns c =
    sym (marks-none c.args.base c.loop-field.mask)
    ∙ ap (λ (fs : Fields). marks_all c.args.base fs c.loop-field.mask) (sym c.in-None.ensures.steps.0)
    ∙ c.loop-field.invariant
