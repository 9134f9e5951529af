-- `write_rules::line::write_line` meets its contract, part by part. Assumes nothing.
use Rattle.write_rules.proofs.Listing.{line-has}
use Rattle.write_rules.proofs.line.write_line.Goals as goal

pub returns : goal.returns
returns c = (
  c.write_conditions-all.ensures.0.within,
  line-has c.args.table.now c.args.used c.args.first c.requires.0 c.requires.2
      c.write_term-left.ensures.1 c.write_term-left.auto.line c.write_term-left.ensures.0.within
      c.write_conditions-build.ensures.1 c.write_conditions-build.auto.line c.write_term-right.ensures.1
      c.write_term-right.auto.line c.write_conditions-all.ensures.1,
)
