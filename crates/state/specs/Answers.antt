-- The answer of a visit in one word, and what it says. The word's upper half is a node below 2³¹; from there on it says failed,
-- and from 3 × 2³⁰ on what cut the visit off. No store has so many nodes.
use Rattle.std.specs.Prelude.{Some, None, ℕ, ◌+◌, ◌*◌, ◌/◌, ◌%◌, eqb, ltb, if◌then◌else◌}
use Rattle.state.specs.declared.answers.Answer.{Answer}
use Rattle.state.specs.declared.answers.Answer.TheVariants.{Done, Failed, Cut}
use Rattle.state.specs.declared.answers.Attempt.{Attempt}
use Rattle.state.specs.declared.answers.Attempt.TheVariants.{Ended, Cut as Off}

-- a node and the units left in one word, and the two again
abbrev pub packed : ℕ → ℕ → ℕ
packed x u = x * 4294967296 + u

abbrev pub node_in : ℕ → ℕ
node_in g = g / 4294967296

abbrev pub units_in : ℕ → ℕ
units_in g = g % 4294967296

-- the least upper half of failed, and of a cut-off: the first 64 are for a variable to be built that has no binding, then comes
-- one for each limit
abbrev pub failed_half : ℕ
failed_half = 2147483648

abbrev pub cut_half : ℕ
cut_half = 3221225472

abbrev pub units_half : ℕ
units_half = 3221225536

abbrev pub room_half : ℕ
room_half = 3221225537

abbrev pub nesting_half : ℕ
nesting_half = 3221225538

-- the words of failed, and of each cut-off, with the units left
abbrev pub failed_word : ℕ → ℕ
failed_word u = packed failed_half u

abbrev pub unbound_word : ℕ → ℕ → ℕ
unbound_word v u = packed (cut_half + v) u

abbrev pub units_word : ℕ
units_word = packed units_half 0

abbrev pub room_word : ℕ → ℕ
room_word u = packed room_half u

abbrev pub nesting_word : ℕ → ℕ
nesting_word u = packed nesting_half u

-- the word of a visit for which no nesting is left: units are tested first
unfoldable pub stopped_word : ℕ → ℕ
stopped_word u = if eqb u 0 then units_word else nesting_word u

-- the word read
unfoldable pub answer_of : ℕ → Answer
answer_of r =
    if ltb (node_in r) failed_half then Done (node_in r) (units_in r)
    else if ltb (node_in r) cut_half then Failed (units_in r)
    else Cut r

-- success and failure in one
unfoldable pub attempt_of : Answer → Attempt
attempt_of (Done x u) = Ended (Some x) u
attempt_of (Failed u) = Ended None u
attempt_of (Cut c) = Off c
