use Rattle.std.proofs.Common.{◌≡◌, ◌+◌, ◌*◌, arith}
use Rattle.words.proofs.Tests.{every-kept-turn, every-kept-end}
use Rattle.checks.specs.Good.{child, held_fits}
use Rattle.checks.proofs.nodes.all_held_fit.Goals as goal

pub loop-i-preserved : goal.loop-i-preserved
loop-i-preserved c =
    let a = c.args in
    let z : 8 * a.k + 2 + c.loop-i.i ≡ 8 * a.k + (2 + c.loop-i.i) = omega arith in
    rw (c.held_fits-good.ensures, z)
    (every-kept-turn (λ j. held_fits a.k a.n j (child a.store.now a.k j)) _ _ c.loop-i.good _ c.loop-i.invariant c.loop-i-test.true)

pub returns : goal.returns
returns c = every-kept-end _ _ _ _ _ c.loop-i.invariant c.loop-i-test.false
