-- `write_rules::line::write_condition` meets its contract, part by part. Assumes nothing.
use Rattle.write_rules.proofs.Listing.{no_room, number-within, condition-written}
use native.Mathlib.Omega.{arith}
use Rattle.write_rules.proofs.line.write_condition.Goals as goal

pub returns-then-line-from-lt24 : goal.returns-then-line-from-lt24
returns-then-line-from-lt24 c = (
  record {
    from = c.write_term-passed.ensures.0.from;
    most = omega (arith, c.write_term-passed.ensures.0.most);
    within = omega
        (arith, c.write_term-passed.auto.line, c.requires.2);
  },
  λ x h room. absurd
      (no_room c.args.table.now c.args.used c.args.first c.requires.2 c.write_term-passed.ensures.1
      c.write_term-passed.auto.line x h room c.if-line-from-lt24.true),
)

pub write_term-start-requires : goal.write_term-start-requires
write_term-start-requires c = (
  c.requires.0,
  omega (arith, c.requires.1),
  number-within c.args.table.now c.args.used c.args.first c.requires.2 c.write_term-passed.ensures.1
      c.write_term-passed.auto.line c.word-callee.ensures c.write_number-at.ensures c.write_number-at.auto.line
      (omega (arith, c.if-line-from-lt24.false, c.requires.2, c.write_term-passed.auto.line)),
)

pub returns : goal.returns
returns c = (
  record {
    from = omega (arith, c.write_term.ensures.0.from, c.write_term-start.ensures.0.from);
    most = omega
        (arith, c.write_term.ensures.0.most, c.write_term-start.ensures.0.most);
    within = c.write_term.ensures.0.within;
  },
  condition-written
      c.args.table.now c.args.used c.args.first c.requires.2 c.write_term-passed.ensures.1 c.write_term-passed.auto.line
      c.word-callee.ensures c.write_number-at.ensures c.write_number-at.auto.line c.write_term-start.ensures.1
      c.write_term-start.auto.line c.write_term.ensures.1,
)
