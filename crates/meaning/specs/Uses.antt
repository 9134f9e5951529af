-- What is proved once over W, the number of words of a scope's mask, used with 32 variables and with 64. The small runs stand with
-- both in Small.antt and Ours.antt.
use Rattle.meaning.specs.Demands.{Demand2By, Demand3RunsBy}

-- demand 2 over the words, and demand 3 of runs
pub record Uses : Type 1 where
  pub demand-2-with-32 : Demand2By 1
  pub demand-2-with-64 : Demand2By 2
  pub demand-3-with-32 : Demand3RunsBy 1
  pub demand-3-with-64 : Demand3RunsBy 2
