-- `count_rest` meets its contract. Assumes nothing.
use Rattle.std.proofs.Common.{◌∙◌, arith}
use Rattle.tallying.proofs.Counting.{rest-asked, rest_ended, rest-cut}
use Rattle.tallying.proofs.count_rest.Goals as goal

pub returns-then-m-lt-SUCCEEDED : goal.returns-then-m-lt-SUCCEEDED
returns-then-m-lt-SUCCEEDED c = c.fly.ensures ∙ rest-asked _ _ c.args.m c.if-m-lt-SUCCEEDED.true

pub end-requires : goal.end-requires
end-requires c = (
  c.requires.1 (omega (arith, c.if-m-lt-SUCCEEDED.false)),
  c.requires.2,
)

pub returns-then-m-lt-FULL : goal.returns-then-m-lt-FULL
returns-then-m-lt-FULL c =
    c.end.ensures ∙ rest_ended _ _ c.args.m c.if-m-lt-SUCCEEDED.false c.if-m-lt-FULL.true

pub fly-requires-else-m-lt-FULL : goal.fly-requires-else-m-lt-FULL
fly-requires-else-m-lt-FULL c = (
  omega (
    arith,
    c.requires.1
        (omega (arith, c.if-m-lt-SUCCEEDED.false)),
  ),
  c.requires.2,
)

pub returns-else-m-lt-FULL : goal.returns-else-m-lt-FULL
returns-else-m-lt-FULL c =
    c.fly-else-m-lt-FULL.ensures ∙ rest-cut _ _ c.args.m c.if-m-lt-FULL.false
