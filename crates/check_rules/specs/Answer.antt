-- What a table and a text get, whatever they are: 2 for a lent length that is bad or for more in use than lent, 13 to 17 with the
-- lowest bad one of the entries in use, and then what the text gets.
use Rattle.std.specs.Prelude.{◌≡◌, ◌↔◌, ◌≢◌, Bool, true, ◌&&◌, List, ℕ, ◌*◌, ◌<◌, leb, eqb, length, get_or, take, if◌then◌else◌}
use Rattle.words.specs.Words.{rows}
use Rattle.checks.specs.Checked.{Checked}
use Rattle.checks.specs.Good.{kind_of}
use Rattle.checks.specs.Checked.{checked, table_length_fits, table_checked}
use Rattle.meaning.specs.Table.{table}
use Rattle.meaning.specs.Free.{Closed}
use Rattle.text.specs.Text.{parts}
use Rattle.check_rules.specs.Check.{told, text_checked}
use Rattle.check_rules.specs.Check.{Translated}

-- the entries in use are a table of their own; none is fine
abbrev pub in_use : List ℕ → ℕ → List ℕ
in_use t u = take (8 * u) t

unfoldable pub used_checked : List ℕ → ℕ → Checked
used_checked t u =
    if table_length_fits (length t) && leb u (rows t) then (if eqb u 0 then checked 0 0 else table_checked (in_use t u)) else checked 2 0

-- entry x of those in use is a REC without free variables
abbrev pub ClosedRec : List ℕ → ℕ → ℕ → Type 0
ClosedRec t u x = (x < u) × (kind_of t x ≡ 7) × Closed (table (in_use t u)) x

-- f says of which entries this is so
abbrev pub Callable : List ℕ → ℕ → (ℕ → Bool) → Type 0
Callable t u f = (x : ℕ) → f x ≡ true ↔ ClosedRec t u x

-- the masks say which RECs in use have no free variables
abbrev pub MasksOf : List ℕ → ℕ → List ℕ → Type 0
MasksOf t u ms = (x : ℕ) → x < u → kind_of t x ≡ 7 → get_or ms x 0 ≡ 0 ↔ Closed (table (in_use t u)) x

-- the numbers for a table with u entries in use and a text
pub data RulesChecked (t : List ℕ) (u : ℕ) (s : List ℕ) (r : Translated) : Type 0 where
  entries : (used_checked t u).answer ≢ 0 → r ≡ told u (used_checked t u).answer (used_checked t u).place 0 → RulesChecked t u s r
  lines : (used_checked t u).answer ≡ 0 → (f : ℕ → Bool) → Callable t u f → r ≡ text_checked f (rows t) u 1 u (parts 10 s) → RulesChecked t u s r
