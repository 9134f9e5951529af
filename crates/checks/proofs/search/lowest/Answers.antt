use Rattle.std.proofs.Common.{true, false, sym, arith}
use Rattle.words.proofs.Tests.{nothing_rejected, first_rejected}
use Rattle.checks.proofs.search.lowest.Goals as goal

pub returns-then-not-good : goal.returns-then-not-good
returns-then-not-good g c p h =
    first_rejected p c.args.n c.loop-k.k c.loop-k-test.true (sym (h c.loop-k.k false c.loop-k-test.true c.if-not-good.ensures))
    (λ j l. sym (h j true (omega (arith, c.loop-k-test.true)) (c.loop-k.invariant j l)))

pub returns : goal.returns
returns g c p h = nothing_rejected p c.args.n (λ j l. sym (h j true l (c.loop-k.invariant j (omega (arith, c.loop-k-test.false)))))
