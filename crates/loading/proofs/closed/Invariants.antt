use Rattle.state.specs.Record.{held}
use Rattle.loading.proofs.Copying.{Written}
use Rattle.loading.proofs.closed.Given as goal

abbrev pub invariant-loop-v : goal.invariant-loop-v
invariant-loop-v l = Written (held l.st) l.bindings l.v
