use Rattle.loading.proofs.Copying.{Filled}
use Rattle.meaning.specs.Limits.{at}
use Rattle.index.specs.Run.{lending}
use Rattle.loading.proofs.opened.Given as goal

abbrev pub invariant-loop-v : goal.invariant-loop-v
invariant-loop-v l =
    Filled l.bindings (at l.mark (lending 0 l.room l.top l.nodes)) l.words l.v
