-- The documents' numbers of each refusal, and the two numbers that a check comes to. What is promised of checks and calls is said in these
-- numbers.
use Rattle.std.specs.Prelude.{ℕ, Result, Ok, Err}
use Rattle.checks.specs.declared.refusal.Fault.{Fault}
use Rattle.checks.specs.declared.refusal.Fault.TheVariants as fault
use Rattle.checks.specs.declared.refusal.Refusal.{Refusal}
use Rattle.checks.specs.declared.refusal.Refusal.TheVariants.{Sizes, Node, Start, EntryDisobeys, NodeDisobeys, Entry, Twin, Count, NoRun}
use Rattle.checks.specs.Checked.{Checked, checked}

-- the number of an entry's fault
abbrev pub fault_number : Fault → ℕ
fault_number fault.Count = 13
fault_number fault.Argument = 14
fault_number fault.Place = 15
fault_number fault.Sort = 16
fault_number fault.Unused = 17

-- the number of the fault that was found; 0 where none was
abbrev pub fault_of : Result Unit Fault → ℕ
fault_of (Ok u) = 0
fault_of (Err f) = fault_number f

-- the number of a refusal
abbrev pub answer_of : Refusal → ℕ
answer_of Sizes = 2
answer_of (Node k) = 4
answer_of Start = 5
answer_of (EntryDisobeys e) = 10
answer_of (NodeDisobeys k) = 11
answer_of (Entry f e) = fault_number f
answer_of (Twin k) = 21
answer_of (Count e) = 24
answer_of NoRun = 27

-- its place: an entry or a node, else 0
abbrev pub place_of : Refusal → ℕ
place_of Sizes = 0
place_of (Node k) = k
place_of Start = 0
place_of (EntryDisobeys e) = e
place_of (NodeDisobeys k) = k
place_of (Entry f e) = e
place_of (Twin k) = k
place_of (Count e) = e
place_of NoRun = 0

-- answer and place of a check; 0 and 0 where it refuses nothing
abbrev pub checked_of : Result Unit Refusal → Checked
checked_of (Ok u) = checked 0 0
checked_of (Err e) = checked (answer_of e) (place_of e)
