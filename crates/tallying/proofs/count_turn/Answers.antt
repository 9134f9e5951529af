-- `count_turn` meets its contract. Assumes nothing.
use Rattle.std.proofs.Common.{◌∙◌, arith}
use Rattle.tallying.specs.Tally.{visit, end}
use Rattle.tallying.proofs.count_turn.Goals as goal

pub returns-then-m-lt-SUCCEEDED : goal.returns-then-m-lt-SUCCEEDED
returns-then-m-lt-SUCCEEDED c =
    let g = c.requires.0.asking c.if-m-lt-SUCCEEDED.true in
    rw c.see.ensures (visit c.if-m-lt-SUCCEEDED.true g.0 g.1 c.begin.ensures.0 c.begin.ensures.1)

pub returns : goal.returns
returns c =
    let g = c.requires.0.ended (omega (arith, c.if-m-lt-SUCCEEDED.false)) in
    end (omega (arith, c.if-m-lt-SUCCEEDED.false)) g.0 g.1 c.end.ensures
