-- What a collection refuses, in document 01's order and without its table parts: 2 for a length or the mark, 4 with the lowest bad
-- node below the mark, 5 for a bad start.
use Rattle.std.specs.Prelude.{◌≡◌, Bool, ◌&&◌, List, ℕ, ◌≤◌, ◌<◌, leb, ltb, eqb, length, get_or, if◌then◌else◌}
use Rattle.words.specs.Words.{rows}
use Rattle.checks.specs.Kinds.{ours, variables_by}
use Rattle.checks.specs.Checked.{checked, store_length_fits, store_checked, bound_below}
use Rattle.checks.specs.Checked.{Checked}

-- what is handed over: the store's, the bindings' and the work list's words, the mark, the subject
pub record Lent : Type 0 where
  pub store : List ℕ
  pub bindings : List ℕ
  pub work : List ℕ
  pub mark : ℕ
  pub subject : ℕ

-- the store and the bindings have lengths of theirs, the mark is at most the store's nodes, and the work list has a word for each
-- node of the store
unfoldable pub sizes_fit_by : ℕ → Lent → Bool
sizes_fit_by W i =
    store_length_fits (length i.store)
    && (eqb (length i.bindings) (variables_by W) && (leb i.mark (rows i.store) && leb (rows i.store) (length i.work)))

-- the subject is below the mark, and no binding's word exceeds it
unfoldable pub start_fits : Lent → Bool
start_fits i = ltb i.subject i.mark && bound_below i.bindings i.mark

-- the refusal, or 0 with place 0
unfoldable pub refused_by : ℕ → Lent → Checked
refused_by W i =
    if sizes_fit_by W i then
    (if eqb (store_checked i.store i.mark).answer 0 then (if start_fits i then checked 0 0 else checked 5 0)
    else store_checked i.store i.mark)
    else checked 2 0

-- the same as plain facts: nothing of this is refused
pub record CollectableBy (W : ℕ) (i : Lent) : Type 0 where
  pub store : store_checked i.store i.mark ≡ checked 0 0
  pub bindings : length i.bindings ≡ variables_by W
  pub work : rows i.store ≤ length i.work
  pub subject : i.subject < i.mark
  pub bound : (v : ℕ) → get_or i.bindings v 0 ≤ i.mark

-- the same in the product
abbrev pub Collectable : Lent → Type 0
Collectable = CollectableBy ours
