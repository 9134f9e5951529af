-- Document 01's job and its answer, byte for byte, computed from the definitions alone.
use Rattle.std.specs.Prelude.{◌≡◌, refl, List, [], ◌∷◌, ℕ}
use Rattle.words.specs.Tests.{every, rejected}
use Rattle.words.specs.Words.{put_row, cleared_from}
use Rattle.checks.specs.Kinds.{lines, line_of as kindLine, kind, sort_of, takes}
use Rattle.checks.specs.Good.{number as word_number, count_fits, argument_fits_by, operand_placed_by, operand_sorted_by, operands_fault_by, unused_zero_by, fault_by, good_entry_by, good_node}
use Rattle.checks.specs.Checked.{table_length_fits, store_length_fits, table_checked_by, store_checked}
use Rattle.meaning.specs.Bindings.{bind, has, masked}
use Rattle.meaning.specs.Table.{by_kind, table_by}
use Rattle.meaning.specs.Rules.{nth, put, zip, agree, when, again, walk, strategy, variable, when_at, matching, needed, building, does}
use Rattle.meaning.specs.Limits.{room_for, settled, after, run_plan, closed, run}
use Rattle.meaning.specs.Store.{row, named, bindings, ran_by}
use Rattle.meaning.specs.Answer.{number, binding_word, binding_words, returned_by}
use Rattle.calls.specs.Refused.{sizes_fit_by, bound_below, is_start, start_fits, words_refused_by, refused_with_by}
use Rattle.calls.specs.Run.{run_with_by}
use Rattle.text.specs.Text.{parts, valued, number_of, numbers_of, digits}
use Rattle.text.specs.Written.{numbers_text}
use Rattle.job.specs.Lines.{letter_of, name_of, job_fits, entry_fits, node_fits, binding_fits, fits, entry_numbers, line_of, entry_row, node_row}
use Rattle.job.specs.Job.{zeros, admitted, headed, table_with, store_with, bindings_with, with, read_lines, meant}
use Rattle.job.specs.Written.{name_text, line_text, written}
use Rattle.job.specs.Answer.{node_shown, node_numbers, node_lines, binding_line, binding_lines, shown, answer_line, answered}
use Rattle.job.specs.Example.{job_text}
use Rattle.whole_job.specs.Whole.{run_text, meant_text, answer_to}

-- the answer's bytes
abbrev pub answer_text : List ℕ
answer_text =
    97 ∷ 110 ∷ 115 ∷ 119 ∷ 101 ∷ 114 ∷ 9 ∷ 48 ∷ 9 ∷ 48 ∷ 9 ∷ 51 ∷ 9 ∷ 52 ∷ 9 ∷ 49 ∷ 48 ∷ 10
    ∷ 110 ∷ 9 ∷ 49 ∷ 10
    ∷ 110 ∷ 9 ∷ 50 ∷ 10
    ∷ 110 ∷ 9 ∷ 53 ∷ 9 ∷ 48 ∷ 9 ∷ 49 ∷ 10
    ∷ 110 ∷ 9 ∷ 53 ∷ 9 ∷ 49 ∷ 9 ∷ 48 ∷ 10 ∷ []

job-answered : answer_to job_text ≡ answer_text
unfolding every rejected put_row cleared_from lines kindLine kind sort_of takes word_number count_fits argument_fits_by operand_placed_by
    operand_sorted_by operands_fault_by unused_zero_by fault_by good_entry_by good_node table_length_fits store_length_fits table_checked_by store_checked
    bind has masked by_kind table_by nth put zip agree when again walk strategy variable when_at matching needed building does room_for settled
    after run_plan closed run row named bindings ran_by number binding_word binding_words returned_by sizes_fit_by bound_below is_start start_fits
    words_refused_by refused_with_by run_with_by parts valued number_of numbers_of digits letter_of name_of job_fits entry_fits node_fits binding_fits
    fits entry_numbers line_of entry_row node_row zeros admitted headed table_with store_with bindings_with with read_lines meant name_text
    numbers_text line_text written node_shown node_numbers node_lines binding_line binding_lines shown answer_line answered run_text meant_text
    answer_to
job-answered = refl
