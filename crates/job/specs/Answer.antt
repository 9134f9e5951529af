-- The text of an answer: `answer` and five numbers; for 0, 1, 6, 7, 8 and 12 also the `n` lines of the nodes below the mark
-- and the `b` lines of the bound variables, rising.
use Rattle.std.specs.Prelude.{Bool, ◌&&◌, ◌||◌, List, [], ◌∷◌, ◌++◌, ℕ, zero, suc, ◌+◌, ◌-◌, min, leb, eqb, get_or, take, if◌then◌else◌}
use Rattle.checks.specs.Kinds.{variables}
use Rattle.words.specs.Words.{word_at}
use Rattle.job.specs.Lines.{Line}
use Rattle.text.specs.Written.{numbers_text}
use Rattle.job.specs.Written.{written}

-- the constructor and the six children's places of node k
unfoldable pub node_shown : List ℕ → ℕ → List ℕ
node_shown w k =
    word_at w k 0 ∷ word_at w k 2 ∷ word_at w k 3 ∷ word_at w k 4 ∷ word_at w k 5 ∷ word_at w k 6 ∷ word_at w k 7 ∷ 0 ∷ []

-- the numbers of its line: the constructor, and then as many children as it has, at most six
unfoldable pub node_numbers : List ℕ → ℕ → List ℕ
unfolding node_shown
node_numbers w k = take (min 7 (word_at w k 1 + 1)) (node_shown w k)

-- the `n` line of node k
abbrev pub node_line : List ℕ → ℕ → Line
node_line w k = record { name = 2; numbers = node_numbers w k }

-- the `n` lines of the first n nodes
unfoldable pub node_lines : List ℕ → ℕ → List Line
node_lines w zero = []
node_lines w (suc n) = node_lines w n ++ (node_line w n ∷ [])

-- the `b` line of variable v, where it is bound
unfoldable pub binding_line : List ℕ → ℕ → List Line
binding_line b v = if eqb (get_or b v 0) 0 then [] else record { name = 3; numbers = v ∷ (get_or b v 0 - 1) ∷ [] } ∷ []

-- the `b` lines of the bound variables below n
unfoldable pub binding_lines : List ℕ → ℕ → List Line
unfolding binding_line
binding_lines b zero = []
binding_lines b (suc v) = binding_lines b v ++ binding_line b v

-- the answers that show what is left
unfoldable pub shown : ℕ → Bool
shown a = leb a 1 || ((leb 6 a && leb a 8) || eqb a 12)

-- `answer`
abbrev pub answer_name : List ℕ
answer_name = 97 ∷ 110 ∷ 115 ∷ 119 ∷ 101 ∷ 114 ∷ []

-- the answer's own line
unfoldable pub answer_line : List ℕ → List ℕ
answer_line five = answer_name ++ (numbers_text five ++ (10 ∷ []))

-- the whole text
unfoldable pub answered : ℕ → ℕ → ℕ → ℕ → ℕ → List ℕ → List ℕ → List ℕ
unfolding answer_line
answered a p s m u w b =
    answer_line (a ∷ p ∷ s ∷ m ∷ u ∷ [])
    ++ (if shown a then written (node_lines w m) ++ written (binding_lines b variables) else [])
