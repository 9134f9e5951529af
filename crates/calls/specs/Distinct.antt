-- What a run comes to as five numbers says all of what it came to. Each statement is proved in proofs/Distinct.antt under its name in small
-- letters.
use Rattle.std.specs.Prelude.{◌≡◌, ℕ, Result}
use Rattle.checks.specs.declared.refusal.Refusal.{Refusal}
use Rattle.calls.specs.declared.Ran.{Ran}
use Rattle.calls.specs.Outcome.{ran_of, outcome_of, five_of}

-- Two accepted runs with the same five numbers ended the same.
abbrev pub SameRan : Type 0
SameRan = (r r' : Ran) → ran_of r ≡ ran_of r' → r ≡ r'

-- Two runs that were given the same subject and mark, and have the same five numbers, are both accepted and ended the same, or are both
-- refused for the same.
abbrev pub SameRun : Type 0
SameRun = (r r' : Result Ran Refusal) (k m : ℕ) → outcome_of r k m ≡ outcome_of r' k m → r ≡ r'

-- The same of the list that is handed out.
abbrev pub SameNumbers : Type 0
SameNumbers = (r r' : Result Ran Refusal) (k m : ℕ) → five_of (outcome_of r k m) ≡ five_of (outcome_of r' k m) → r ≡ r'
