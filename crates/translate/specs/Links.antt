-- The operands of entries, from the last back, as the code writes them.
use Rattle.std.specs.Prelude.{◌≡◌, List, [], ◌∷◌, ℕ, zero, suc, ◌+◌, ◌-◌, ◌/◌, ◌%◌, eqb, ltb, get_or, set, if◌then◌else◌}
use Rattle.words.specs.Words.{word_at, put_row, row_at}
use Rattle.translate.specs.declared.link.Linked.{Linked}

-- how many operands are entries of the same tree; a CALL has none
unfoldable pub inner_of : ℕ → ℕ
inner_of w = if eqb (w / 16) 8 then 0 else (if ltb 6 (w % 16) then 6 else w % 16)

-- n operands from o on, from word j on
unfoldable pub filled : ℕ → (o : ℕ) → List ℕ → (row : List ℕ) → (j : ℕ) → Linked
filled zero o es row j = record { row = row; end = o }
filled (suc n) o es row j = filled n (get_or es o 0) es (set row j o) (j + 1)

unfoldable pub row_linked : List ℕ → List ℕ → ℕ → Linked
row_linked t es e = filled (inner_of (word_at t e 0)) (e + 1) es (row_at t e) 2

unfoldable mutual
  -- table and ends after the last k entries before `stop`
  pub steps_table : List ℕ → List ℕ → (stop k : ℕ) → List ℕ
  steps_table t es stop zero = t
  steps_table t es stop (suc k) = put_row (steps_table t es stop k) (stop - suc k) (row_linked (steps_table t es stop k) (steps_ends t es stop k) (stop - suc k)).row

  pub steps_ends : List ℕ → List ℕ → (stop k : ℕ) → List ℕ
  steps_ends t es stop zero = es
  steps_ends t es stop (suc k) = set (steps_ends t es stop k) (stop - suc k) (row_linked (steps_table t es stop k) (steps_ends t es stop k) (stop - suc k)).end

-- the entries from `first` to `stop` were linked
abbrev pub LinkedFrom : (t es : List ℕ) (first stop : ℕ) (t' es' : List ℕ) → Type 0
LinkedFrom t es first stop t' es' = (t' ≡ steps_table t es stop (stop - first)) × (es' ≡ steps_ends t es stop (stop - first))
