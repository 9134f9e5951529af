-- `own::put_bindings` meets its contract. Assumes nothing.
use Rattle.std.proofs.Common.{◌-◌}
use Rattle.stepping.proofs.Loading.{Written}
use Rattle.stepping.proofs.own.put_bindings.Given as goal

abbrev pub invariant-loop-v : goal.invariant-loop-v
invariant-loop-v l =
    Written l.work l.mask l.v l.bindings
