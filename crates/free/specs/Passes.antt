-- The passes over the masks of the entries, and what a mask stands for on the way. No promise speaks of these.
use Rattle.std.specs.Prelude.{◌≡◌, Bool, true, false, not, ◌||◌, List, [], ◌∷◌, ℕ, zero, suc, ◌+◌, ◌-◌, ◌^◌, ◌≤◌, ◌<◌, eqb, get_or, set, if◌then◌else◌}
use Rattle.std.specs.Int.Bits.{bit_and, bit_or}
use Rattle.words.specs.Words.{word_at, rows}
use Rattle.checks.specs.Kinds.{variables_by}
use Rattle.checks.specs.Good.{kind_of, argument_of, mask_by}
use Rattle.meaning.specs.Bindings.{has}
use Rattle.meaning.specs.Table.{table_by, operands}
use Rattle.meaning.specs.Free.{Free, Variable}

-- the mask `all` and the masks of the entries xs, joined
unfoldable pub joined : List ℕ → ℕ → List ℕ → ℕ
joined ms all [] = all
joined ms all (x ∷ xs) = joined ms (bit_or all (get_or ms x 0)) xs

-- the masks of e's operands, joined; e is no SCOPE
abbrev pub joined_operands : List ℕ → List ℕ → ℕ → ℕ
joined_operands t ms e = joined ms 0 (operands t e)

-- the mask that has every variable
abbrev pub full : ℕ → ℕ
full W = 2 ^ variables_by W - 1

-- how far the masks are from the full mask f
unfoldable pub room : ℕ → List ℕ → ℕ
room f [] = 0
room f (m ∷ ms) = (f - m) + room f ms

module _ (W : ℕ) (t : List ℕ) where
  -- what the rule of e gives: SCOPE removes its mask, a variable is its bit, and all others have their operands'
  unfoldable pub ruled : List ℕ → ℕ → ℕ
  ruled ms e =
      if eqb (kind_of t e) 16 then bit_and (get_or ms (word_at t e (1 + W)) 0) (full W - mask_by W t e)
      else if eqb (kind_of t e) 18 then 2 ^ argument_of t e
      else joined_operands t ms e

  -- e's mask with what its rule gives
  unfoldable pub fuller : List ℕ → ℕ → ℕ
  fuller ms e = bit_or (get_or ms e 0) (ruled ms e)

  -- that is more than the mask was
  unfoldable pub grows : List ℕ → ℕ → Bool
  grows ms e = not (eqb (fuller ms e) (get_or ms e 0))

  -- the masks after e's turn
  unfoldable pub grown : List ℕ → ℕ → List ℕ
  grown ms e = set ms e (fuller ms e)

  -- the masks after the turns of the entries below n, the highest first
  unfoldable pub passed : ℕ → List ℕ → List ℕ
  passed zero ms = ms
  passed (suc e) ms = passed e (grown ms e)

  -- a mask grew in one of those turns
  unfoldable pub changed : ℕ → List ℕ → Bool
  changed zero ms = false
  changed (suc e) ms = grows ms e || changed e (grown ms e)

  -- v is a variable of the pattern e, or free in the strategy e
  pub data Of (e v : ℕ) : Type 0 where
    pattern : 18 ≤ kind_of t e → Variable (table_by W t) e v → Of e v
    strategy : kind_of t e ≤ 17 → Free (table_by W t) e v → Of e v

  -- every bit of a mask stands for a variable of its entry
  abbrev pub BitsMeant : List ℕ → Type 0
  BitsMeant ms = (e v : ℕ) → has (get_or ms e 0) v ≡ true → Of e v

  -- no rule gives more than the masks have
  abbrev pub Settled : List ℕ → Type 0
  Settled ms = (e : ℕ) → e < rows t → grows ms e ≡ false

  -- masks that grew from others, and stand for nothing else
  pub record Spread (ms ms' : List ℕ) : Type 0 where
    pub sound : BitsMeant ms'
    pub least : room (full W) ms' ≤ room (full W) ms
