-- `chains::has` meets its contract: each of the eight words is asked. Assumes nothing.
use Rattle.std.proofs.Common.{rules}
use Rattle.std.proofs.iter.runs.Sources.{ranges}
use Rattle.index.proofs.Keying.{words-alike}
use Rattle.index.proofs.chains.has.Goals as goal

pub returns : goal.returns
returns c = words-alike c.args.store.now c.args.r c.args.k (search rules) c.all.result (search (rules, ranges))
