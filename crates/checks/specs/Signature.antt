-- A signature: one word per constructor, the declared child count or 7 for undeclared. What fits, what obeys it, and the two
-- checks against it, as wish 2 of document 02 has them.
use Rattle.std.specs.Prelude.{◌≡◌, Bool, true, ◌&&◌, ◌||◌, ◌⊎◌, List, ℕ, ◌≤◌, ◌<◌, leb, ltb, eqb, length, get_or, if◌then◌else◌}
use Rattle.words.specs.Tests.{every, rejected}
use Rattle.words.specs.Words.{rows}
use Rattle.checks.specs.Good.{kind_of, operand_count, argument_of, constructor_of, child_count}
use Rattle.checks.specs.Checked.{found}
use Rattle.checks.specs.Checked.{Checked}

module _ (g : List ℕ) where
  -- at most 65,536 words, and none above 7
  unfoldable pub signature_fits : Bool
  signature_fits = leb (length g) 65536 && every (λ c. leb (get_or g c 0) 7) 0 (length g)

  -- the constructor c is in the list, and declared with the count n; 7 declares nothing
  unfoldable pub declares : (c n : ℕ) → Bool
  declares c n = ltb c (length g) && (ltb n 7 && eqb (get_or g c 0) n)

  -- entry e of the table t: a CONG's or a PCON's constructor is declared with its operand count; other kinds name none
  unfoldable pub entry_obeys : List ℕ → ℕ → Bool
  entry_obeys t e = if eqb (kind_of t e) 10 || eqb (kind_of t e) 19 then declares (argument_of t e) (operand_count t e) else true

  -- node k of the store s: its constructor is declared with its child count
  unfoldable pub node_obeys : List ℕ → ℕ → Bool
  node_obeys s k = declares (constructor_of s k) (child_count s k)

  -- the check of the entries: 10 with the lowest that does not obey, used or not
  unfoldable pub entries_checked : List ℕ → Checked
  entries_checked t = found 10 (rejected (entry_obeys t) 0 (rows t))

  -- the check of the nodes below the mark: 11 with the lowest that does not obey, reachable or not
  unfoldable pub nodes_checked : List ℕ → ℕ → Checked
  nodes_checked s mark = found 11 (rejected (node_obeys s) 0 mark)

-- ---- the same in plain facts

module _ (g : List ℕ) where
  -- a signature that fits
  pub record Signature : Type 0 where
    pub short : length g ≤ 65536
    pub words : (c : ℕ) → c < length g → get_or g c 0 ≤ 7

  -- the constructor c is declared with the count n
  pub record Declared (c n : ℕ) : Type 0 where
    pub inside : c < length g
    pub count : get_or g c 0 ≡ n
    pub known : n < 7

  -- an entry that obeys
  abbrev pub EntryObeys : List ℕ → ℕ → Type 0
  EntryObeys t e = (kind_of t e ≡ 10) ⊎ (kind_of t e ≡ 19) → Declared (argument_of t e) (operand_count t e)

  -- a node that obeys
  abbrev pub NodeObeys : List ℕ → ℕ → Type 0
  NodeObeys s k = Declared (constructor_of s k) (child_count s k)
