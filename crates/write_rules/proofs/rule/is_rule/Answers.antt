-- `write_rules::rule::is_rule` meets its contract, test by test. Assumes nothing.
use lib.ListN.{replicate}
use native.Mathlib.Omega.{arith}
use mathlib.Core.Path.{refl, sym, ◌∙◌}
use borrow.Author.Rules.{rules}
use Rattle.rules.specs.Text.{rule_of}
use Rattle.check_rules.specs.Line.{Line, callable, line_of}
use Rattle.write_rules.proofs.Finding.{taken-none, taken-some, no_answer, no_size, made-fits, compared}
use Rattle.write_rules.proofs.rule.is_rule.Goals as goal

pub returns-in_default : goal.returns-in_default
returns-in_default c =
    let x : Line = line_of (callable c.args.table.now c.fill_masks.new.masks c.args.used) (rule_of c.args.line.now) in
    no_answer c.args.table.now c.args.used c.args.entry c.args.line.now c.requires.0 _ c.fill_masks.ensures x refl
    (taken-none x c.check_line.result c.check_line.ensures.told (sym c.taken.ensures ∙ c.in_default.is))

pub returns-then-used-entry : goal.returns-then-used-entry
returns-then-used-entry c =
    let k = taken-some _ c.check_line.result c.in-Some.size c.check_line.ensures.told (sym c.taken.ensures ∙ c.in-Some.is) in
    no_size c.args.table.now c.args.used c.args.entry c.args.line.now c.requires.0 _ c.fill_masks.ensures _ refl
    (omega (arith, c.if-used-entry.true, k.1))

pub put_line-stop-requires : goal.put_line-stop-requires
put_line-stop-requires c =
    let k = taken-some _ c.check_line.result c.in-Some.size c.check_line.ensures.told (sym c.taken.ensures ∙ c.in-Some.is) in (
      made-fits c.args.table.now c.args.used c.args.entry c.args.line.now c.requires.0 _ c.fill_masks.ensures _ refl k.0 c.requires.1
          (omega (arith, c.if-used-entry.false, k.1)) (replicate 32768 0) refl,
      search rules,
      search rules,
    )

pub returns : goal.returns
returns c =
    let k = taken-some _ c.check_line.result c.in-Some.size c.check_line.ensures.told (sym c.taken.ensures ∙ c.in-Some.is) in
    compared c.args.table.now c.args.used c.args.entry c.args.line.now c.requires.0 _ c.fill_masks.ensures _ refl k.0 c.requires.1
    (omega (arith, c.if-used-entry.false, k.1)) _ refl _ _ c.put_line-stop.ensures c.same_words.result c.same_words.ensures
