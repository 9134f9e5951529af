-- No variable below a number is used too early. Assumes nothing.
use Prim.Native.Nat.{◌-◌}
use Rattle.check_rules.proofs.Ranging.{Ranging}
use Rattle.check_rules.proofs.far.far_fault.Given as goal

abbrev pub invariant-loop-low : goal.invariant-loop-low
invariant-loop-low l = Ranging l.rule.line.now l.low

abbrev pub decreases-loop-low : goal.decreases-loop-low
decreases-loop-low l = 4294967296 - l.low
