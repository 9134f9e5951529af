-- The twenty kinds of entry, as the table of document 01's chapter "The strategy table" reads.
--
-- One number decides how many variables there are: W, the words of a scope's mask, of 32 variables each. Whatever depends on
-- it takes W as its first argument and has a name that ends in By; the same name without it is its use at the product's own W.
use Rattle.std.specs.Prelude.{Bool, true, false, ◌&&◌, ◌||◌, List, [], ◌∷◌, ℕ, ◌+◌, ◌*◌, ◌^◌, ◌-◌, leb, eqb, if◌then◌else◌}
use Rattle.checks.specs.declared.kinds.Sort.{Sort}
use Rattle.checks.specs.declared.kinds.Sort.TheVariants.{Strategy, Pattern, Neither}

-- what an argument is
pub data Argument : Type 0 where
  absent position constructor mask variable : Argument

-- the words of a scope's mask in the product
abbrev pub ours : ℕ
ours = 2

-- the number of variables
abbrev pub variables_by : ℕ → ℕ
variables_by W = 32 * W

abbrev pub variables : ℕ
variables = variables_by ours

-- the least and the greatest number that an argument may be
abbrev pub lowest : Argument → ℕ
lowest absent = 0
lowest position = 1
lowest constructor = 0
lowest mask = 0
lowest variable = 0

abbrev pub highest_by : ℕ → Argument → ℕ
highest_by W absent = 0
highest_by W position = 6
highest_by W constructor = 65535
highest_by W mask = 2 ^ variables_by W - 1
highest_by W variable = variables_by W - 1

-- the words that the argument of the kind k has: W for a SCOPE, whose argument is a mask, and one for every other
abbrev pub argument_words_by : ℕ → ℕ → ℕ
argument_words_by W k = if eqb k 16 then W else 1

-- where the operands of the kind k begin: word 0 and the argument's words come before them
abbrev pub operands_from_by : ℕ → ℕ → ℕ
operands_from_by W k = 1 + argument_words_by W k

-- one line of the table: the kinds from `first` to `last`, the least and the most operands, the argument
pub record Line : Type 0 where
  pub first : ℕ
  pub last : ℕ
  pub least : ℕ
  pub most : ℕ
  pub argument : Argument

abbrev pub line : (first last least most : ℕ) → Argument → Line
line f l n m a = record { first = f; last = l; least = n; most = m; argument = a }

unfoldable pub lines : List Line
lines =
    line 0 1 0 0 absent  -- ID, FAIL
    ∷ line 2 3 1 1 absent  -- TEST, NOT
    ∷ line 4 6 2 2 absent  -- SEQ, CHOICE, LEFT
    ∷ line 7 8 1 1 absent  -- REC, CALL
    ∷ line 9 9 1 1 position  -- PATH
    ∷ line 10 10 0 6 constructor  -- CONG
    ∷ line 11 13 1 1 absent  -- ALL, ONE, SOME
    ∷ line 14 15 1 1 absent  -- MATCH, BUILD
    ∷ line 16 16 1 1 mask  -- SCOPE
    ∷ line 17 17 1 1 absent  -- WHERE
    ∷ line 18 18 0 0 variable  -- PVAR
    ∷ line 19 19 0 6 constructor  -- PCON
    ∷ []

-- the line that has the kind k; for a kind that no line has, one that nothing asks for
unfoldable pub line_of : List Line → ℕ → Line
line_of [] k = line k k 0 0 absent
line_of (l ∷ ls) k = if leb l.first k && leb k l.last then l else line_of ls k

-- the kind k's line
unfoldable pub kind : ℕ → Line
unfolding line_of lines
kind k = line_of lines k

-- kinds 0 to 17 are strategies, 18 and 19 patterns; a kind above 19 has no sort
unfoldable pub sort_of : ℕ → Sort
sort_of k = if leb k 17 then Strategy else if leb k 19 then Pattern else Neither

-- MATCH, BUILD and PCON take patterns; all others take strategies
unfoldable pub takes : ℕ → Sort
takes k = if eqb k 14 || eqb k 15 || eqb k 19 then Pattern else Strategy

-- the two sorts are the same
abbrev pub same : Sort → Sort → Bool
same Strategy Strategy = true
same Pattern Pattern = true
same Neither Neither = true
same Strategy Pattern = false
same Strategy Neither = false
same Pattern Strategy = false
same Pattern Neither = false
same Neither Strategy = false
same Neither Pattern = false
