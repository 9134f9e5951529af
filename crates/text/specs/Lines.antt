-- The line that begins at a place of a text: its bytes go up to a line feed, or to the text's end.
use Rattle.std.specs.Prelude.{List, ℕ, ◌+◌, ltb, length, drop, if◌then◌else◌}
use Rattle.text.specs.Text.{up_to}
use Rattle.text.specs.declared.line.Bounds.{Bounds}

-- where its bytes end
abbrev pub line_end : List ℕ → ℕ → ℕ
line_end s at = at + length (up_to 10 (drop at s))

-- with a line feed, and without one
unfoldable pub bounds_at : List ℕ → ℕ → Bounds
bounds_at s at =
    if ltb (line_end s at) (length s)
    then record { end = line_end s at; next = line_end s at + 1 }
    else record { end = length s; next = length s }
