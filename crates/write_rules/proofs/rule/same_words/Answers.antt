-- `write_rules::rule::same_words` meets its contract. Assumes nothing.
use Rattle.std.proofs.Common.{rules}
use Rattle.std.proofs.iter.runs.Sources.{ranges}
use Rattle.write_rules.proofs.Copying.{same-told}
use Rattle.write_rules.proofs.rule.same_words.Goals as goal

pub returns : goal.returns
returns c = same-told c.all.result (search (rules, ranges))
