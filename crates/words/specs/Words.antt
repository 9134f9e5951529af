-- Eight words to a row. A node of the store is a row, and so is an entry of the table.
use Rattle.std.specs.Prelude.{List, [], ◌∷◌, ◌++◌, ℕ, ◌+◌, ◌-◌, ◌*◌, ◌/◌, length, get_or, take, drop, replicate}

-- word j of row k; zero outside the words
abbrev pub word_at : List ℕ → ℕ → ℕ → ℕ
word_at w k j = get_or w (8 * k + j) 0

-- the eight words of row k
abbrev pub row_at : List ℕ → ℕ → List ℕ
row_at w k = word_at w k 0 ∷ word_at w k 1 ∷ word_at w k 2 ∷ word_at w k 3 ∷ word_at w k 4 ∷ word_at w k 5 ∷ word_at w k 6 ∷ word_at w k 7 ∷ []

-- the whole rows of the words
abbrev pub rows : List ℕ → ℕ
rows w = length w / 8

-- the words, with the eight words r for row k
unfoldable pub put_row : List ℕ → ℕ → List ℕ → List ℕ
put_row w k r = take (8 * k) w ++ (r ++ drop (8 * k + 8) w)

-- the words before place i, and zeros from there to the end
unfoldable pub cleared_from : List ℕ → ℕ → List ℕ
cleared_from w i = take i w ++ replicate (length w - i) 0
