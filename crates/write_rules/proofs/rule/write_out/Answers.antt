-- `write_rules::rule::write_out` meets its contract, test by test. Assumes nothing.
use Rattle.write_rules.proofs.Answering.{part-words, part-long, nothing-made, no-rule, too_short, in-full}
use mathlib.Core.Path.{refl}
use native.Mathlib.Omega.{arith}
use Rattle.write_rules.proofs.rule.write_out.Goals as goal

pub returns-then-n-eq0 : goal.returns-then-n-eq0
returns-then-n-eq0 c =
    nothing-made c.requires.0 c.args.line.now c.args.n c.requires.2 c.requires.3 c.if-n-eq0.true _ refl

pub slice_bounds-is_rule-end : goal.slice_bounds-is_rule-end
slice_bounds-is_rule-end c =
    part-words c.args.line.now c.args.n c.requires.2

pub returns-then-not-is_rule : goal.returns-then-not-is_rule
returns-then-not-is_rule c =
    no-rule c.requires.0 c.args.line.now c.args.n c.requires.2 c.requires.3 refl c.is_rule.ensures c.if-not-is_rule.true _
    refl

pub returns-then-buffer-n : goal.returns-then-buffer-n
returns-then-buffer-n c =
    too_short c.requires.0 (part-long c.args.line.now c.args.n c.if-n-eq0.false c.requires.2) c.is_rule.ensures c.if-not-is_rule.false
    c.if-buffer-n.true _ refl

pub slice_bounds-copy_line-end : goal.slice_bounds-copy_line-end
slice_bounds-copy_line-end c =
    part-words c.args.line.now c.args.n c.requires.2

pub copy_line-requires : goal.copy_line-requires
copy_line-requires c =
    omega (arith, (part-long c.args.line.now c.args.n c.if-n-eq0.false c.requires.2), c.if-buffer-n.false)

pub returns : goal.returns
returns c =
    in-full c.requires.0 (part-long c.args.line.now c.args.n c.if-n-eq0.false c.requires.2) c.is_rule.ensures c.if-not-is_rule.false
    c.if-buffer-n.false _ refl c.copy_line.ensures
