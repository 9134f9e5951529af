-- The key of a node: a mixing of its eight words with wrapping arithmetic, reduced to a place of the index.
use Rattle.std.specs.Prelude.{ℕ, ◌+◌, ◌*◌, ◌/◌, ◌%◌, ◌^◌, List, slice_index}
use Rattle.meaning.specs.Shared.{eight}

-- a sum of two 64-bit words, which wraps
abbrev pub wrapped : ℕ → ℕ → ℕ
wrapped a b = (a + b) % 2 ^ 64

-- word i times c
abbrev pub times : List ℕ → ℕ → ℕ → ℕ
times r i c = slice_index r i * c

unfoldable pub mixed : List ℕ → ℕ
mixed r =
    wrapped
    (wrapped (wrapped (times r 0 2654435769) (times r 1 2246822519)) (wrapped (times r 2 3266489917) (times r 3 668265263)))
    (wrapped (wrapped (times r 4 374761393) (times r 5 2870177450)) (wrapped (times r 6 1640531535) (times r 7 3432918353)))

-- the place of these words among n
unfoldable pub home : ℕ → List ℕ → ℕ
home n r = mixed r % 4294967296 * n / 4294967296

-- the place of node k
abbrev pub place : List ℕ → ℕ → ℕ → ℕ
place w n k = home n (eight w k)
