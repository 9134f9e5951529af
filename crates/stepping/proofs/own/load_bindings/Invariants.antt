-- `own::load_bindings` meets its contract. Assumes nothing.
use Rattle.std.proofs.Common.{◌-◌}
use Rattle.stepping.proofs.Loading.{SoFar}
use Rattle.stepping.proofs.own.load_bindings.Given as goal

abbrev pub invariant-loop-v : goal.invariant-loop-v
invariant-loop-v l =
    SoFar l.initial.work l.bindings l.v l.mask l.work
