-- The uses with 32 variables and with 64.
use Rattle.meaning.specs.Uses as specs
use Rattle.meaning.proofs.Demands.{demand-2, demand-3-runs}

pub uses : specs.Uses
uses = record {
  demand-2-with-32 = demand-2 1;
  demand-2-with-64 = demand-2 2;
  demand-3-with-32 = demand-3-runs 1;
  demand-3-with-64 = demand-3-runs 2;
}
