-- What the two checks answer, on every table and every store.
use Rattle.std.specs.Prelude.{Bool, ◌&&◌, List, ℕ, ◌%◌, leb, ltb, eqb, length, get_or, if◌then◌else◌}
use Rattle.std.proofs.Math.Option.{Option, none, some}
use Rattle.words.specs.Tests.{every, rejected}
use Rattle.words.specs.Words.{rows}
use Rattle.checks.specs.Kinds.{ours}
use Rattle.checks.specs.Good.{fault_by, good_entry_by, good_node}
use Rattle.std.specs.Prelude as std

-- an answer from the documents' list, and its place: 0 and 0 where nothing is wrong
pub record Checked : Type 0 where
  pub answer : ℕ
  pub place : ℕ

-- an answer with its place
abbrev pub checked : ℕ → ℕ → Checked
checked a p = record { answer = a; place = p }

-- answer a with the place that was found; nothing found is answer 0 with place 0
abbrev pub found : ℕ → Option ℕ → Checked
found a none = checked 0 0
found a (some k) = checked a k

-- the place that a search ended at
abbrev pub place_of : std.Option ℕ → Option ℕ
place_of (std.Some k) = some k
place_of std.None = none

-- the table is not empty, a multiple of 8, and at most 32,768 words
unfoldable pub table_length_fits : ℕ → Bool
table_length_fits n = ltb 0 n && (eqb (n % 8) 0 && leb n 32768)

-- the store is a multiple of 8 and at most 1,048,576 words
unfoldable pub store_length_fits : ℕ → Bool
store_length_fits n = eqb (n % 8) 0 && leb n 1048576

module _ (W : ℕ) where
  -- the fault of the entry that was found, with its place; nothing found is answer 0 with place 0
  abbrev pub faulted_by : List ℕ → Option ℕ → Checked
  faulted_by t none = checked 0 0
  faulted_by t (some e) = checked (fault_by W t e) e

  -- the table check: 2 for a bad length, the fault of the lowest bad entry
  unfoldable pub table_checked_by : List ℕ → Checked
  table_checked_by t = if table_length_fits (length t) then faulted_by t (rejected (good_entry_by W t) 0 (rows t)) else checked 2 0

-- the table check in the product
abbrev pub table_checked : List ℕ → Checked
table_checked = table_checked_by ours

-- the store check: 2 for a bad length or a mark above the store's nodes, 4 with the lowest bad node below the mark
unfoldable pub store_checked : List ℕ → ℕ → Checked
store_checked s mark = if store_length_fits (length s) && leb mark (rows s) then found 4 (rejected (good_node s) 0 mark) else checked 2 0

-- no binding's word exceeds the mark
unfoldable pub bound_below : List ℕ → ℕ → Bool
bound_below b mark = every (λ v. leb (get_or b v 0) mark) 0 (length b)
