-- The documents' numbers of faults and refusals: no fault is 0, and the numbers tell the results apart. Assumes nothing.
use Rattle.std.proofs.Common.{◌≡◌, ◌≢◌, ℕ, Result, Ok, Err, eqb, refl, ap, sym, ◌∙◌, arith}
use Rattle.std.specs.Prelude.{if◌then◌else◌}
use Rattle.checks.specs.declared.refusal.Fault.{Fault}
use Rattle.checks.specs.declared.refusal.Fault.TheVariants as fault
use Rattle.checks.specs.declared.refusal.Refusal.{Refusal}
use Rattle.checks.specs.declared.refusal.Refusal.TheVariants.{Sizes, Node, Start, EntryDisobeys, NodeDisobeys, Entry, Twin, Count, NoRun}
use Rattle.checks.specs.Checked.{Checked}
use Rattle.checks.specs.Numbers.{fault_number, checked_of}

pub fault-some : (f : Fault) → fault_number f ≢ 0
fault-some fault.Count e = omega arith
fault-some fault.Argument e = omega arith
fault-some fault.Place e = omega arith
fault-some fault.Sort e = omega arith
fault-some fault.Unused e = omega arith

-- The refusal of an answer and a place, and the result of two numbers.
abbrev refusal : (a p : ℕ) → Refusal
refusal a p =
    if eqb a 2
    then Sizes
    else if eqb a 4 then Node p
    else if eqb a 5 then Start
    else if eqb a 10 then EntryDisobeys p
    else if eqb a 11 then NodeDisobeys p
    else if eqb a 13 then Entry fault.Count p
    else if eqb a 14 then Entry fault.Argument p
    else if eqb a 15 then Entry fault.Place p
    else if eqb a 16 then Entry fault.Sort p
    else if eqb a 17 then Entry fault.Unused p
    else if eqb a 21 then Twin p
    else if eqb a 24 then Count p
    else NoRun

abbrev result : Checked → Result Unit Refusal
result c = if eqb c.answer 0 then Ok tt else Err (refusal c.answer c.place)

-- They lead back.
back : (r : Result Unit Refusal) → result (checked_of r) ≡ r
back (Ok tt) = refl
back (Err Sizes) = refl
back (Err (Node k)) = refl
back (Err Start) = refl
back (Err (EntryDisobeys e)) = refl
back (Err (NodeDisobeys k)) = refl
back (Err (Entry fault.Count e)) = refl
back (Err (Entry fault.Argument e)) = refl
back (Err (Entry fault.Place e)) = refl
back (Err (Entry fault.Sort e)) = refl
back (Err (Entry fault.Unused e)) = refl
back (Err (Twin k)) = refl
back (Err (Count e)) = refl
back (Err NoRun) = refl

pub results-apart : (r r' : Result Unit Refusal) → checked_of r ≡ checked_of r' → r ≡ r'
results-apart r r' e = sym (back r) ∙ ap result e ∙ back r'
