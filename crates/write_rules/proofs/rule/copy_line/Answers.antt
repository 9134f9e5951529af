-- `write_rules::rule::copy_line` meets its contract. Assumes nothing.
use Rattle.write_rules.proofs.Copying.{line-fed}
use Rattle.write_rules.proofs.rule.copy_line.Goals as goal

pub returns : goal.returns
returns c = line-fed c.args.buffer.now c.args.line.now c.copy_from_slice.new.self c.copy_from_slice.ensures.after c.requires
