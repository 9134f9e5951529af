-- What is proved once over W, the number of words of a scope's mask, used with 32 variables and with 64. It holds whatever W is; where
-- a statement speaks of the bindings at return, W is above 0. The small runs stand with both in Promises.antt.
use Rattle.calls.specs.Promises.{Agreeing, Listed, Refuses, GivesBack, Keeps, Clears, Demand2, Demand3, Demand3All}
use Rattle.calls.specs.Subjects as subjects
use Rattle.std.specs.Prelude.{ℕ}

-- the demands, of what `run` returns
pub record Demands (W : ℕ) : Type 0 where
  pub one_answer : Agreeing W
  pub listed : Listed W
  pub refuses : Refuses W
  pub gives_back : GivesBack W
  pub keeps : Keeps W
  pub clears : Clears W
  pub demand-2 : Demand2 W
  pub demand-3 : Demand3 W
  pub demand-3-all : Demand3All W
  pub demand-2-subjects : subjects.Demand2 W
  pub demand-3-subjects : subjects.Demand3 W

pub record Uses : Type 0 where
  pub with-32 : Demands 1
  pub with-64 : Demands 2
