-- A text is a list of bytes. A separator parts it: the line feed, 10, into lines, and the tab, 9, a line into fields. A
-- number is decimal digits without a leading zero, at most a limit.
use Rattle.std.specs.Prelude.{List, [], ◌∷◌, ◌++◌, ℕ, zero, suc, ◌+◌, ◌-◌, ◌*◌, ◌/◌, ◌%◌, ltb, eqb, length, replicate, if◌then◌else◌}
use Rattle.std.proofs.Math.Option.{Option, none, some}

-- one more byte in front of the first part
abbrev pub grown : ℕ → List (List ℕ) → List (List ℕ)
grown b [] = (b ∷ []) ∷ []
grown b (p ∷ ps) = (b ∷ p) ∷ ps

-- the parts of a text between its separators: one more than it has separators
unfoldable pub parts : ℕ → List ℕ → List (List ℕ)
parts c [] = [] ∷ []
parts c (b ∷ s) = if eqb b c then [] ∷ parts c s else grown b (parts c s)

-- parts with a separator between them
abbrev pub joined_after : ℕ → List (List ℕ) → List ℕ
joined_after c [] = []
joined_after c (p ∷ ps) = c ∷ (p ++ joined_after c ps)

abbrev pub joined : ℕ → List (List ℕ) → List ℕ
joined c [] = []
joined c (p ∷ ps) = p ++ joined_after c ps

-- the part before the first separator; all where there is none
unfoldable pub up_to : ℕ → List ℕ → List ℕ
up_to c [] = []
up_to c (b ∷ s) = if eqb b c then [] else b ∷ up_to c s

-- the greatest number of one word, and of two
abbrev pub one_word : ℕ
one_word = 4294967295

abbrev pub two_words : ℕ
two_words = 18446744073709551615

-- the number that digits after v make, as long as it stays within the limit m
unfoldable pub valued : ℕ → ℕ → List ℕ → Option ℕ
valued m v [] = some v
valued m v (b ∷ f) =
    if ltb b 48
    then none
    else (if ltb 57 b
    then none
    else (if ltb m (v * 10 + (b - 48)) then none else valued m (v * 10 + (b - 48)) f))

-- zero is one digit
abbrev pub zero_alone : List ℕ → Option ℕ
zero_alone [] = some 0
zero_alone (b ∷ f) = none

-- the number of a field, at most m
unfoldable pub number_of : ℕ → List ℕ → Option ℕ
number_of m [] = none
number_of m (b ∷ f) = if eqb b 48 then zero_alone f else valued m 0 (b ∷ f)

-- a number in front of numbers
abbrev pub in_front : Option ℕ → Option (List ℕ) → Option (List ℕ)
in_front none o = none
in_front (some v) none = none
in_front (some v) (some vs) = some (v ∷ vs)

-- the numbers of fields, at most k of them, each of one word
unfoldable pub numbers_of : ℕ → List (List ℕ) → Option (List ℕ)
numbers_of k [] = some []
numbers_of zero (f ∷ fs) = none
numbers_of (suc k) (f ∷ fs) = in_front (number_of one_word f) (numbers_of k fs)

-- the decimal digits of n, at most k of them
unfoldable pub digits : ℕ → ℕ → List ℕ
digits zero n = []
digits (suc k) n = if ltb n 10 then (48 + n) ∷ [] else digits k (n / 10) ++ ((48 + n % 10) ∷ [])

-- the digits of a number of one word, and of two
abbrev pub decimal : ℕ → List ℕ
decimal n = digits 10 n

abbrev pub decimal_wide : ℕ → List ℕ
decimal_wide n = digits 20 n

-- numbers, with zeros after them up to eight
unfoldable pub eight : List ℕ → List ℕ
eight vs = vs ++ replicate (8 - length vs) 0
