-- What the code holds, as the definitions have it.
use Rattle.std.specs.Prelude as std
use Rattle.std.specs.Prelude.{List, ℕ, length, replicate}
use Rattle.std.proofs.Math.Option.{Option, none, some}
use Rattle.text.specs.Text.{eight}
use Rattle.text.specs.declared.Numbers.{Numbers}

-- the number that was read, of 32 bits or of 64
abbrev pub value_of : std.Option ℕ → Option ℕ
value_of (std.Some v) = some v
value_of std.None = none

-- numbers: their count and eight places, or none
abbrev pub numbers_held : Option (List ℕ) → std.Option Numbers
numbers_held none = std.None
numbers_held (some vs) = std.Some (record { count = length vs; at = eight vs })
