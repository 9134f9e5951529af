-- Our small runs, computed.
use mathlib.Core.Path.{refl}
use Rattle.words.specs.Tests.{every, rejected}
use Rattle.words.specs.Words.{put_row, cleared_from}
use Rattle.checks.specs.Kinds.{lines, line_of, kind, sort_of, takes}
use Rattle.checks.specs.Good.{number as word_number, count_fits, argument_fits_by, operand_placed_by, operand_sorted_by, operands_fault_by, unused_zero_by, fault_by, good_entry_by, good_node}
use Rattle.checks.specs.Checked.{table_length_fits, store_length_fits, table_checked_by, store_checked}
use Rattle.meaning.specs.Bindings.{bind, has, masked}
use Rattle.meaning.specs.Table.{by_kind, table_by}
use Rattle.meaning.specs.Rules.{nth, put, zip, agree, when, given as given-of, again, walk, one_of, some_of, strategy, variable, when_at, matching, needed, building, comparing, does}
use Rattle.meaning.specs.Limits.{room_for, settled, after, run_plan, closed, run}
use Rattle.meaning.specs.Store.{row, named, bindings, ran_by}
use Rattle.meaning.specs.Answer.{number, place_of, binding_word, binding_words, returned_by}
use Rattle.meaning.specs.Small.{words_of, entry, roomy, bound, three, four, given, gives, fails-at, match_x, seen, expected}
use Rattle.meaning.specs.Ours.{paired, build7, match7, build-v3, no-v3, build-pair, two, scopes, our-cases, OurRuns}

pub our-runs : OurRuns
unfolding every rejected put_row cleared_from lines line_of kind sort_of takes word_number count_fits argument_fits_by operand_placed_by
    operand_sorted_by operands_fault_by unused_zero_by fault_by good_entry_by good_node table_length_fits store_length_fits table_checked_by store_checked bind has masked by_kind
    table_by nth put zip agree when given-of again walk one_of some_of strategy variable when_at matching needed building comparing does
    room_for settled after run_plan closed run row named bindings ran_by number place_of binding_word binding_words returned_by words_of entry roomy bound
    three four given gives fails-at match_x seen expected paired build7 match7 build-v3 no-v3 build-pair two scopes our-cases
our-runs = record { with-32 = refl; with-64 = refl }
