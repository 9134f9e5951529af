-- The way back: from the five numbers to the end of a run, and to the reason of a refusal.
use mathlib.Core.Path.{◌≡◌, refl, ap, sym, ◌∙◌}
use Prim.Native.Nat.{ℕ}
use Rattle.std.specs.Prelude.{Result, Ok, Err, List, [], ◌∷◌, eqb, if◌then◌else◌}
use Rattle.checks.specs.declared.refusal.Fault.TheVariants as fault
use Rattle.checks.specs.declared.refusal.Refusal.{Refusal}
use Rattle.checks.specs.declared.refusal.Refusal.TheVariants.{Sizes, Node, Start, EntryDisobeys, NodeDisobeys, Entry, Twin, Count, NoRun}
use Rattle.checks.specs.Numbers.{answer_of, place_of}
use Rattle.calls.specs.declared.End.{End}
use Rattle.calls.specs.declared.End.TheVariants.{Done, Failed, Units, Room, Nesting, Unbound, Unfinished}
use Rattle.calls.specs.declared.Ran.{Ran}
use Rattle.calls.specs.Outcome.{Outcome, end_number, end_place, ran_of, outcome_of}
use Rattle.calls.specs.Distinct.{SameRan, SameRun, SameNumbers}

-- the end with the number n and the place p
abbrev end_from : ℕ → ℕ → End
end_from n p =
    if eqb n 0 then Done else if eqb n 1 then Failed p else if eqb n 6 then Units else if eqb n 7 then Room
    else if eqb n 8 then Nesting else if eqb n 12 then Unbound p else Unfinished

end-back : (e : End) → end_from (end_number e) (end_place e) ≡ e
end-back Done = refl
end-back (Failed p) = refl
end-back Units = refl
end-back Room = refl
end-back Nesting = refl
end-back (Unbound v) = refl
end-back Unfinished = refl

-- the refusal with the number n and the place p
abbrev refusal_from : ℕ → ℕ → Refusal
refusal_from n p =
    if eqb n 2 then Sizes else if eqb n 4 then Node p else if eqb n 5 then Start else if eqb n 10 then EntryDisobeys p
    else if eqb n 11 then NodeDisobeys p else if eqb n 13 then Entry fault.Count p else if eqb n 14 then Entry fault.Argument p
    else if eqb n 15 then Entry fault.Place p else if eqb n 16 then Entry fault.Sort p else if eqb n 17 then Entry fault.Unused p
    else if eqb n 21 then Twin p else if eqb n 24 then Count p else NoRun

refusal-back : (e : Refusal) → refusal_from (answer_of e) (place_of e) ≡ e
refusal-back Sizes = refl
refusal-back (Node k) = refl
refusal-back Start = refl
refusal-back (EntryDisobeys e) = refl
refusal-back (NodeDisobeys k) = refl
refusal-back (Entry fault.Count e) = refl
refusal-back (Entry fault.Argument e) = refl
refusal-back (Entry fault.Place e) = refl
refusal-back (Entry fault.Sort e) = refl
refusal-back (Entry fault.Unused e) = refl
refusal-back (Twin k) = refl
refusal-back (Count e) = refl
refusal-back NoRun = refl

-- the accepted run with these five numbers
abbrev ran_from : Outcome → Ran
ran_from o = record { end = end_from o.answer o.place; subject = o.subject; mark = o.mark; units = o.units }

ran-back : (r : Ran) → ran_from (ran_of r) ≡ r
ran-back r = ap (λ (e : End). let x : Ran = record { end = e; subject = r.subject; mark = r.mark; units = r.units } in x) (end-back r.end)

pub same_ran : SameRan
same_ran r r' e = sym (ran-back r) ∙ ap ran_from e ∙ ran-back r'

-- the run with these five numbers: no number of a refusal is one of an end
abbrev run_from : Outcome → Result Ran Refusal
run_from o =
    if eqb o.answer 0 then Ok (ran_from o) else if eqb o.answer 1 then Ok (ran_from o) else if eqb o.answer 6 then Ok (ran_from o)
    else if eqb o.answer 7 then Ok (ran_from o) else if eqb o.answer 8 then Ok (ran_from o) else if eqb o.answer 12 then Ok (ran_from o)
    else if eqb o.answer 25 then Ok (ran_from o) else Err (refusal_from o.answer o.place)

accepted-back : (e : End) (s m u : ℕ) → let r : Ran = record { end = e; subject = s; mark = m; units = u } in run_from (ran_of r) ≡ Ok r
accepted-back Done s m u = refl
accepted-back (Failed p) s m u = refl
accepted-back Units s m u = refl
accepted-back Room s m u = refl
accepted-back Nesting s m u = refl
accepted-back (Unbound v) s m u = refl
accepted-back Unfinished s m u = refl

refused-back : (e : Refusal) (k m : ℕ) → run_from (outcome_of (Err e) k m) ≡ Err e
refused-back Sizes k m = refl
refused-back (Node p) k m = refl
refused-back Start k m = refl
refused-back (EntryDisobeys e) k m = refl
refused-back (NodeDisobeys p) k m = refl
refused-back (Entry fault.Count e) k m = refl
refused-back (Entry fault.Argument e) k m = refl
refused-back (Entry fault.Place e) k m = refl
refused-back (Entry fault.Sort e) k m = refl
refused-back (Entry fault.Unused e) k m = refl
refused-back (Twin p) k m = refl
refused-back (Count e) k m = refl
refused-back NoRun k m = refl

run-back : (r : Result Ran Refusal) (k m : ℕ) → run_from (outcome_of r k m) ≡ r
run-back (Ok r) k m = accepted-back r.end r.subject r.mark r.units
run-back (Err e) k m = refused-back e k m

pub same_run : SameRun
same_run r r' k m e = sym (run-back r k m) ∙ ap run_from e ∙ run-back r' k m

-- the record of a list of five
abbrev of_five : List ℕ → Outcome
of_five (a ∷ p ∷ s ∷ m ∷ u ∷ []) = record { answer = a; place = p; subject = s; mark = m; units = u }
of_five _ = record { answer = 0; place = 0; subject = 0; mark = 0; units = 0 }

pub same_numbers : SameNumbers
same_numbers r r' k m e = same_run r r' k m (ap of_five e)
