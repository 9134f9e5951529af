-- `words::clear_from` meets its contract: what is filled stands after the words before `from`. Assumes nothing.
use Rattle.words.proofs.Rows.{cleared_from-filled}
use Rattle.words.proofs.clear_from.Goals as goal

pub returns : goal.returns
returns c = cleared_from-filled c.args.words.now c.args.from c.min-from.result c.fill.new.self c.min-from.ensures (c.fill.ensures.after (λ y e. e))
