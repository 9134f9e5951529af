-- One term of a line's fields, as the code goes through them: w terms are wanted, the next field begins at `at`, n fields
-- were good and s entries are made.
use Rattle.std.specs.Prelude.{true, false, List, [], ◌∷◌, ℕ, zero, suc, ◌+◌, leb, length, drop, if◌then◌else◌}
use Rattle.std.proofs.Math.Option.{Option, none, some}
use Rattle.text.specs.Text.{parts, one_word, number_of}
use Rattle.rules.specs.Text.{Fields, Head, variable, constructor, neither, head_of, up_to_six}
use Rattle.std.specs.Prelude.{Bool, Result, Ok, Err}
use Rattle.rules.specs.declared.term.Term as held

-- a term that was gone through: whether it is good; where the field after it begins, or the first bad field; how many fields were good;
-- the entries made
pub record Term : Type 0 where
  pub good : Bool
  pub at : ℕ
  pub fields : ℕ
  pub size : ℕ

-- what the code tells of it: of a bad one how many fields were good
abbrev pub term_told : Term → Result held.Term ℕ
term_told t = if t.good then Ok (record { at = t.at; fields = t.fields; size = t.size }) else Err t.fields

-- the fields that begin at a place; none past the line's end
unfoldable pub fields_from : List ℕ → ℕ → Fields
fields_from l i = if leb i (length l) then parts 9 (drop i l) else []

-- the bytes of fields, with a separator each
unfoldable pub width : Fields → ℕ
width [] = 0
width (f ∷ fs) = length f + 1 + width fs

abbrev pub stopped : (at n s : ℕ) → Term
stopped at n s = record { good = false; at = at; fields = n; size = s }

abbrev pub finished : (at n s : ℕ) → Term
finished at n s = record { good = true; at = at; fields = n; size = s }

abbrev pub by_head : Head → Term → Term → Term → Term
by_head (variable v) x y z = x
by_head (constructor c) x y z = y
by_head neither x y z = z

abbrev pub by_own_count : Option ℕ → (ℕ → Term) → Term → Term
by_own_count none k z = z
by_own_count (some n) k z = k n

unfoldable mutual
  pub scanned : Fields → (w at n s : ℕ) → Term
  scanned [] zero at n s = finished at n s
  scanned [] (suc w) at n s = stopped at n s
  scanned (f ∷ fs) zero at n s = finished at n s
  scanned (f ∷ fs) (suc w) at n s = by_head (head_of f) (scanned fs w (at + length f + 1) (n + 1) (s + 1)) (scanned_count fs w (at + length f + 1) (n + 1) s) (stopped at n s)

  pub scanned_count : Fields → (w at n s : ℕ) → Term
  scanned_count [] w at n s = stopped at n s
  scanned_count (f ∷ fs) w at n s = by_own_count (up_to_six (number_of one_word f)) (λ k. scanned fs (w + k) (at + length f + 1) (n + 1) (s + 1)) (stopped at n s)
