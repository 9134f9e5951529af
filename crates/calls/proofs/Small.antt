-- The small runs of document 01 as `run` returns them: none is refused, by computing, and what each returns is the meaning's small run.
use mathlib.Core.Path.{◌≡◌, refl, ap, ◌∙◌}
use mathlib.Core.List.{map}
use Prim.Native.Nat.{ℕ}
use Rattle.words.specs.Tests.{every, rejected}
use Rattle.checks.specs.Kinds.{lines, line_of, kind, sort_of, takes}
use Rattle.checks.specs.Good.{number, count_fits, argument_fits_by, operand_placed_by, operand_sorted_by, operands_fault_by, unused_zero_by, fault_by, good_entry_by, good_node}
use Rattle.checks.specs.Checked.{table_length_fits, store_length_fits, table_checked_by, store_checked}
use Rattle.meaning.specs.Store.{row}
use Rattle.meaning.specs.Answer.{Returned}
use Rattle.meaning.specs.Small.{words_of, entry, roomy, bound, three, four, given, gives, fails-at, swap, twice, match_x, cases, Case, Seen, seen, expected}
use Rattle.meaning.proofs.Small.{small-runs}
use Rattle.calls.specs.Refused.{sizes_fit_by, bound_below, is_start, start_fits, words_refused_by, refused_with_by}
use Rattle.calls.specs.Run.{run_of_by, run_with_by}
use Rattle.calls.specs.Promises.{SmallRunsOfRun}

-- what a small run was seen to return
abbrev returns_of : Seen → Returned
returns_of s = s.returns

abbrev Accepted : ℕ → Type 0
Accepted W = map (λ (c : Case). run_of_by W c.given) (cases W) ≡ map returns_of (map (seen W) (cases W))

accepted-32 : Accepted 1
unfolding every rejected lines line_of kind sort_of takes number count_fits argument_fits_by operand_placed_by operand_sorted_by operands_fault_by unused_zero_by
    fault_by good_entry_by good_node table_length_fits store_length_fits table_checked_by store_checked row words_of entry roomy bound three four given gives
    fails-at swap twice match_x cases seen sizes_fit_by bound_below is_start start_fits words_refused_by refused_with_by run_with_by
accepted-32 = refl

accepted-64 : Accepted 2
unfolding every rejected lines line_of kind sort_of takes number count_fits argument_fits_by operand_placed_by operand_sorted_by operands_fault_by unused_zero_by
    fault_by good_entry_by good_node table_length_fits store_length_fits table_checked_by store_checked row words_of entry roomy bound three four given gives
    fails-at swap twice match_x cases seen sizes_fit_by bound_below is_start start_fits words_refused_by refused_with_by run_with_by
accepted-64 = refl

pub small-runs-of-run : SmallRunsOfRun
unfolding cases expected
small-runs-of-run = record {
  with-32 = accepted-32 ∙ ap (map returns_of) small-runs.with-32;
  with-64 = accepted-64 ∙ ap (map returns_of) small-runs.with-64;
}
