-- The numbers that an exported function leaves in the array that its caller lends, as what the function itself returns.
use Rattle.std.specs.Prelude.{List, ℕ, get_or}
use Rattle.checks.specs.Checked.{Checked}
use Rattle.collect.specs.Collected.{Collected}
use Rattle.free.specs.Answered.{FreeVariables}
use Rattle.calls.specs.Outcome.{Outcome}
use Rattle.tallying.specs.Added.{Counted}
use Rattle.check_rules.specs.Check.{Translated}
use Rattle.write_rules.specs.Written.{Written}

-- answer and place
abbrev pub two : List ℕ → Checked
two w = record { answer = get_or w 0 0; place = get_or w 1 0 }

-- answer, place and mask
abbrev pub three : List ℕ → FreeVariables
three w = record { answer = get_or w 0 0; place = get_or w 1 0; mask = get_or w 2 0 }

-- answer, place, subject and mark
abbrev pub four : List ℕ → Collected
four w = record { answer = get_or w 0 0; place = get_or w 1 0; subject = get_or w 2 0; mark = get_or w 3 0 }

-- answer, place, subject, mark and units used
abbrev pub five : List ℕ → Outcome
five w = record { answer = get_or w 0 0; place = get_or w 1 0; subject = get_or w 2 0; mark = get_or w 3 0; units = get_or w 4 0 }

-- the same, and the visits of patterns and of pairs
abbrev pub seven : List ℕ → Counted
seven w = record { ended = five w; seen = record { patterns = get_or w 5 0; pairs = get_or w 6 0 } }

-- answer, line, field and the entries in use
abbrev pub translation : List ℕ → Translated
translation w = record { used = get_or w 3 0; answer = get_or w 0 0; line = get_or w 1 0; field = get_or w 2 0 }

-- answer, place and length
abbrev pub writing : List ℕ → Written
writing w = record { answer = get_or w 0 0; place = get_or w 1 0; length = get_or w 2 0 }
