-- What a run refuses, in the order of documents 01 and 02: 2 for a length, the mark or a signature, 13 to 17 with the lowest bad
-- entry, 4 with the lowest bad node below the mark, 10 with the lowest entry and 11 with the lowest node that do not obey a lent
-- signature, 5 for a bad start.
use Rattle.std.specs.Prelude.{Bool, true, false, ◌&&◌, List, ℕ, leb, ltb, eqb, length, get_or, if◌then◌else◌}
use Rattle.std.specs.Prelude as std
use Rattle.std.specs.Borrow.{Bor}
use Rattle.std.proofs.Math.Option.{Option, none, some}
use Rattle.words.specs.Words.{rows}
use Rattle.words.specs.Tests.{every}
use Rattle.checks.specs.Kinds.{ours, sort_of, same, variables_by}
use Rattle.checks.specs.Good.{kind_of}
use Rattle.checks.specs.Checked.{checked, table_length_fits, store_length_fits, table_checked_by, store_checked, bound_below}
unfoldable pub use Rattle.checks.specs.Checked.{bound_below}
use Rattle.checks.specs.Signature.{signature_fits, entries_checked, nodes_checked}
use Rattle.checks.specs.Checked.{Checked}
use Rattle.checks.specs.declared.kinds.Sort.TheVariants.{Strategy}

-- the table, the store and the bindings have lengths of theirs, and the mark is at most the store's nodes
unfoldable pub sizes_fit_by : ℕ → List ℕ → List ℕ → List ℕ → ℕ → Bool
sizes_fit_by W t s b mark = table_length_fits (length t) && (store_length_fits (length s) && (eqb (length b) (variables_by W) && leb mark (rows s)))

-- the start is in the table and a strategy
unfoldable pub is_start : List ℕ → ℕ → Bool
is_start t start = ltb start (rows t) && same (sort_of (kind_of t start)) Strategy

-- it is, the subject is below the mark, and no binding exceeds it
unfoldable pub start_fits : List ℕ → List ℕ → ℕ → ℕ → ℕ → Bool
start_fits t b mark start subject = is_start t start && (ltb subject mark && bound_below b mark)

-- every subject is below the mark
unfoldable pub subjects_below : List ℕ → ℕ → Bool
subjects_below ks mark = every (λ j. ltb (get_or ks j 0) mark) 0 (length ks)

-- the same for a list of subjects
unfoldable pub starts_fit : List ℕ → List ℕ → ℕ → ℕ → List ℕ → Bool
starts_fit t b mark start ks = is_start t start && (subjects_below ks mark && bound_below b mark)

-- the first answer that is not 0
abbrev pub or_else : Checked → Checked → Checked
or_else c d = if eqb c.answer 0 then d else c

-- the signature that a call is lent, where it is lent one
abbrev pub lent_signature : std.Option (Bor (List ℕ)) → Option (List ℕ)
lent_signature (std.Some g) = some g.now
lent_signature std.None = none

-- a lent signature fits
abbrev pub lent_fits : Option (List ℕ) → Bool
lent_fits none = true
lent_fits (some g) = signature_fits g

-- every entry obeys a lent signature, and every node below the mark
abbrev pub signature_obeyed : Option (List ℕ) → List ℕ → List ℕ → ℕ → Checked
signature_obeyed none t s mark = checked 0 0
signature_obeyed (some g) t s mark = or_else (entries_checked g t) (nodes_checked g s mark)

-- what is refused before the start is looked at, with the signature g where one is lent; every call that runs begins with it
unfoldable pub words_refused_by : ℕ → (g : Option (List ℕ)) (t s b : List ℕ) (mark : ℕ) → Checked
words_refused_by W g t s b mark =
    if sizes_fit_by W t s b mark && lent_fits g then or_else (table_checked_by W t) (or_else (store_checked s mark) (signature_obeyed g t s mark))
    else checked 2 0

-- the refusal, or 0 with place 0, with the signature g where one is lent
unfoldable pub refused_with_by : ℕ → (g : Option (List ℕ)) (t s b : List ℕ) (mark start subject : ℕ) → Checked
refused_with_by W g t s b mark start subject =
    or_else (words_refused_by W g t s b mark) (if start_fits t b mark start subject then checked 0 0 else checked 5 0)

-- the refusal where no signature is lent
abbrev pub refused_by : ℕ → (t s b : List ℕ) (mark start subject : ℕ) → Checked
refused_by W t s b mark start subject = refused_with_by W none t s b mark start subject

-- the same in the product
abbrev pub sizes_fit : List ℕ → List ℕ → List ℕ → ℕ → Bool
sizes_fit = sizes_fit_by ours

abbrev pub words_refused : (g : Option (List ℕ)) (t s b : List ℕ) (mark : ℕ) → Checked
words_refused = words_refused_by ours

abbrev pub refused_with : (g : Option (List ℕ)) (t s b : List ℕ) (mark start subject : ℕ) → Checked
refused_with = refused_with_by ours

abbrev pub refused : (t s b : List ℕ) (mark start subject : ℕ) → Checked
refused = refused_by ours
