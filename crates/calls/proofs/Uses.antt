-- The uses with 32 variables and with 64.
use Prim.Native.Nat.{ℕ, ◌<◌}
use native.Mathlib.Omega.{arith}
use Rattle.calls.specs.Uses.{Demands, Uses}
use Rattle.calls.proofs.Promises as promises
use Rattle.calls.proofs.Subjects as subjects

pub demands : (W : ℕ) → 0 < W → Demands W
demands W variable = record {
  one_answer = promises.agreeing W;
  listed = promises.listed_answer W;
  refuses = promises.refuses W;
  gives_back = promises.gives_back W;
  keeps = promises.keeps W;
  clears = promises.clears W;
  demand-2 = promises.demand-2 W variable;
  demand-3 = promises.demand-3 W variable;
  demand-3-all = promises.demand-3-all W variable;
  demand-2-subjects = subjects.demand-2 W variable;
  demand-3-subjects = subjects.demand-3 W variable;
}

pub uses : Uses
uses = record { with-32 = demands 1 (omega arith); with-64 = demands 2 (omega arith) }
