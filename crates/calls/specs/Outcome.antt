-- The five numbers that a run comes to, as the documents number them. What is promised of runs is said in these numbers.
use Rattle.std.specs.Prelude.{List, [], ◌∷◌, ℕ, Result, Ok, Err}
use Rattle.checks.specs.Numbers.{answer_of, place_of}
use Rattle.checks.specs.declared.refusal.Refusal.{Refusal}
use Rattle.calls.specs.declared.End.{End}
use Rattle.calls.specs.declared.End.TheVariants.{Done, Failed, Units, Room, Nesting, Unbound, Unfinished}
use Rattle.calls.specs.declared.Ran.{Ran}

-- answer, place, subject, mark and units used
pub record Outcome : Type 0 where
  pub answer : ℕ
  pub place : ℕ
  pub subject : ℕ
  pub mark : ℕ
  pub units : ℕ

-- the number of an end
abbrev pub end_number : End → ℕ
end_number Done = 0
end_number (Failed p) = 1
end_number Units = 6
end_number Room = 7
end_number Nesting = 8
end_number (Unbound v) = 12
end_number Unfinished = 25

-- its place: a pattern or a variable, else 0
abbrev pub end_place : End → ℕ
end_place Done = 0
end_place (Failed p) = p
end_place Units = 0
end_place Room = 0
end_place Nesting = 0
end_place (Unbound v) = v
end_place Unfinished = 0

-- the five numbers of an accepted run
abbrev pub ran_of : Ran → Outcome
ran_of r = record { answer = end_number r.end; place = end_place r.end; subject = r.subject; mark = r.mark; units = r.units }

-- those of a run that was given the subject k and the mark m, and may be refused
abbrev pub outcome_of : Result Ran Refusal → (k m : ℕ) → Outcome
outcome_of (Ok r) k m = ran_of r
outcome_of (Err e) k m = record { answer = answer_of e; place = place_of e; subject = k; mark = m; units = 0 }

-- as a list
abbrev pub five_of : Outcome → List ℕ
five_of o = o.answer ∷ o.place ∷ o.subject ∷ o.mark ∷ o.units ∷ []
