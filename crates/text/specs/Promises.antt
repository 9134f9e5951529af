-- What is promised of texts: parts with their separators are the text, and a number has one text.
use Rattle.std.specs.Prelude.{◌≡◌, ◌↔◌, List, ℕ, ◌≤◌}
use Rattle.std.proofs.Math.Option.{some}
use Rattle.text.specs.Text.{parts, joined, one_word, two_words, number_of, decimal, decimal_wide}

-- the parts of a text, joined again, are the text
abbrev pub PartsJoined : Type 0
PartsJoined = (c : ℕ) (s : List ℕ) → joined c (parts c s) ≡ s

-- a field is a number exactly where it is the number's digits, and the number is within the limit: of one word, and of two
pub record NumberIsText : Type 0 where
  pub one : (f : List ℕ) (v : ℕ) → number_of one_word f ≡ some v ↔ (f ≡ decimal v) × (v ≤ one_word)
  pub two : (f : List ℕ) (v : ℕ) → number_of two_words f ≡ some v ↔ (f ≡ decimal_wide v) × (v ≤ two_words)
