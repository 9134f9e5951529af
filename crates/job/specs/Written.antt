-- The text of a job: the one text of its lines. A line is its name and, for each number, a tab and its digits; a line feed
-- ends it.
use Rattle.std.specs.Prelude.{◌≡◌, true, false, List, [], ◌∷◌, ◌++◌, ℕ, ◌≤◌, eqb, length, get_or, if◌then◌else◌}
use Rattle.text.specs.Text.{one_word, two_words, decimal, decimal_wide}
use Rattle.text.specs.Written.{numbers_text, Within}
use Rattle.job.specs.Lines.{Line, fits}
use Rattle.job.specs.Job.{Reading, admitted, taken}

-- `job`, `e`, `n` and `b`
unfoldable pub name_text : ℕ → List ℕ
name_text k = if eqb k 0 then 106 ∷ 111 ∷ 98 ∷ [] else (if eqb k 1 then 101 ∷ [] else (if eqb k 2 then 110 ∷ [] else 98 ∷ []))

-- the numbers of an `e` line, of which the second may have two words; those of any line
unfoldable pub entry_text : List ℕ → List ℕ
entry_text [] = []
entry_text (k ∷ []) = numbers_text (k ∷ [])
entry_text (k ∷ a ∷ vs) = 9 ∷ (decimal k ++ (9 ∷ (decimal_wide a ++ numbers_text vs)))

abbrev pub fields_text : ℕ → List ℕ → List ℕ
fields_text k vs = if eqb k 1 then entry_text vs else numbers_text vs

unfoldable pub line_text : Line → List ℕ
line_text x = name_text x.name ++ fields_text x.name x.numbers

-- the numbers of a line are within their limits: the argument of an `e` line within two words, all others within one
pub data Limited : ℕ → List ℕ → Type 0 where
  entry : {k a : ℕ} {vs : List ℕ} → k ≤ one_word → a ≤ two_words → Within vs → Limited 1 (k ∷ a ∷ vs)
  other : {k : ℕ} {vs : List ℕ} → eqb k 1 ≡ false → Within vs → Limited k vs

unfoldable pub written : List Line → List ℕ
written [] = []
written (x ∷ xs) = line_text x ++ (10 ∷ written xs)

-- lines that may follow what is read, each by 01's limits, and what is read with them
pub data Follow : Reading → List Line → Reading → Type 0 where
  end : {g : Reading} → Follow g [] g
  next : {g : Reading} {x : Line} {xs : List Line} {g' : Reading}
      → fits x.name (length x.numbers) x.numbers ≡ true
      → Limited x.name x.numbers
      → admitted g.heading x.name (get_or x.numbers 0 0) ≡ true
      → Follow (taken g x) xs g'
      → Follow g (x ∷ xs) g'
