-- Document 01's job, byte for byte: it is the text of its lines, and it means the words that 01 gives them. Bad texts, and
-- the line that each is refused at.
use Rattle.std.specs.Prelude.{◌≡◌, refl, List, [], ◌∷◌, ℕ, take}
use Rattle.checks.specs.Kinds.{variables}
use Rattle.text.specs.Text.{parts, valued, number_of, numbers_of, digits}
use Rattle.text.specs.Written.{numbers_text}
use Rattle.job.specs.Lines.{Line, letter_of, name_of, job_fits, entry_fits, node_fits, binding_fits, fits, entry_numbers, line_of, entry_row, node_row}
use Rattle.job.specs.Job.{bad, zeros, admitted, headed, table_with, store_with, bindings_with, with, read_lines, meant, parsed_of, table_of, store_of}
use Rattle.job.specs.Job as told
use Rattle.job.specs.Written.{name_text, entry_text, line_text, written}
use Rattle.job.specs.Answer.{node_shown, node_numbers, node_lines, binding_line, binding_lines, shown, answer_line, answered}
use Rattle.words.specs.Words.{put_row}

abbrev line : ℕ → List ℕ → Line
line k vs = record { name = k; numbers = vs }

-- the job's lines
abbrev pub job_lines : List Line
job_lines =
    line 0 (10 ∷ 0 ∷ 2 ∷ 4 ∷ [])
    ∷ line 1 (16 ∷ 3 ∷ 1 ∷ [])
    ∷ line 1 (4 ∷ 0 ∷ 2 ∷ 3 ∷ [])
    ∷ line 1 (14 ∷ 0 ∷ 4 ∷ [])
    ∷ line 1 (15 ∷ 0 ∷ 5 ∷ [])
    ∷ line 1 (19 ∷ 5 ∷ 6 ∷ 7 ∷ [])
    ∷ line 1 (19 ∷ 5 ∷ 7 ∷ 6 ∷ [])
    ∷ line 1 (18 ∷ 0 ∷ [])
    ∷ line 1 (18 ∷ 1 ∷ [])
    ∷ line 2 (1 ∷ [])
    ∷ line 2 (2 ∷ [])
    ∷ line 2 (5 ∷ 0 ∷ 1 ∷ [])
    ∷ []

-- its bytes
abbrev pub job_text : List ℕ
job_text =
    106 ∷ 111 ∷ 98 ∷ 9 ∷ 49 ∷ 48 ∷ 9 ∷ 48 ∷ 9 ∷ 50 ∷ 9 ∷ 52 ∷ 10
    ∷ 101 ∷ 9 ∷ 49 ∷ 54 ∷ 9 ∷ 51 ∷ 9 ∷ 49 ∷ 10
    ∷ 101 ∷ 9 ∷ 52 ∷ 9 ∷ 48 ∷ 9 ∷ 50 ∷ 9 ∷ 51 ∷ 10
    ∷ 101 ∷ 9 ∷ 49 ∷ 52 ∷ 9 ∷ 48 ∷ 9 ∷ 52 ∷ 10
    ∷ 101 ∷ 9 ∷ 49 ∷ 53 ∷ 9 ∷ 48 ∷ 9 ∷ 53 ∷ 10
    ∷ 101 ∷ 9 ∷ 49 ∷ 57 ∷ 9 ∷ 53 ∷ 9 ∷ 54 ∷ 9 ∷ 55 ∷ 10
    ∷ 101 ∷ 9 ∷ 49 ∷ 57 ∷ 9 ∷ 53 ∷ 9 ∷ 55 ∷ 9 ∷ 54 ∷ 10
    ∷ 101 ∷ 9 ∷ 49 ∷ 56 ∷ 9 ∷ 48 ∷ 10
    ∷ 101 ∷ 9 ∷ 49 ∷ 56 ∷ 9 ∷ 49 ∷ 10
    ∷ 110 ∷ 9 ∷ 49 ∷ 10
    ∷ 110 ∷ 9 ∷ 50 ∷ 10
    ∷ 110 ∷ 9 ∷ 53 ∷ 9 ∷ 48 ∷ 9 ∷ 49 ∷ 10 ∷ []

-- the text is that of the lines
job-written : written job_lines ≡ job_text
unfolding written line_text name_text entry_text numbers_text digits
job-written = refl

-- its numbers, the rows of its entries and the rows of its nodes
job-numbers : parsed_of (meant job_text) ≡ told.Read (record { section = 2; entries = 8; nodes = 3; variable = 0; units = 10; start = 0; subject = 2; room = 4 })
unfolding meant read_lines parts line_of name_of letter_of entry_numbers numbers_of number_of valued fits job_fits entry_fits node_fits binding_fits
    admitted with headed table_with store_with bindings_with entry_row node_row put_row zeros
job-numbers = refl

job-entries : take 72 (table_of (meant job_text)) ≡ 257 ∷ 3 ∷ 0 ∷ 1 ∷ 0 ∷ 0 ∷ 0 ∷ 0 ∷ 66 ∷ 0 ∷ 2 ∷ 3 ∷ 0 ∷ 0 ∷ 0 ∷ 0 ∷ 225 ∷ 0 ∷ 4 ∷ 0 ∷ 0 ∷ 0
    ∷ 0 ∷ 0 ∷ 241 ∷ 0 ∷ 5 ∷ 0 ∷ 0 ∷ 0 ∷ 0 ∷ 0 ∷ 306 ∷ 5 ∷ 6 ∷ 7 ∷ 0 ∷ 0 ∷ 0 ∷ 0 ∷ 306 ∷ 5 ∷ 7 ∷ 6 ∷ 0 ∷ 0 ∷ 0 ∷ 0 ∷ 288 ∷ 0 ∷ 0 ∷ 0 ∷ 0 ∷ 0
    ∷ 0 ∷ 0 ∷ 288 ∷ 1 ∷ 0 ∷ 0 ∷ 0 ∷ 0 ∷ 0 ∷ 0 ∷ 0 ∷ 0 ∷ 0 ∷ 0 ∷ 0 ∷ 0 ∷ 0 ∷ 0 ∷ []
unfolding meant read_lines parts line_of name_of letter_of entry_numbers numbers_of number_of valued fits job_fits entry_fits node_fits binding_fits
    admitted with headed table_with store_with bindings_with entry_row node_row put_row zeros
job-entries = refl

job-nodes : take 32 (store_of (meant job_text)) ≡ 1 ∷ 0 ∷ 0 ∷ 0 ∷ 0 ∷ 0 ∷ 0 ∷ 0 ∷ 2 ∷ 0 ∷ 0 ∷ 0 ∷ 0 ∷ 0 ∷ 0 ∷ 0 ∷ 5 ∷ 2 ∷ 0 ∷ 1 ∷ 0 ∷ 0 ∷ 0 ∷ 0 ∷ 0 ∷ 0 ∷ 0 ∷ 0 ∷ 0 ∷ 0 ∷ 0 ∷ 0 ∷ []
unfolding meant read_lines parts line_of name_of letter_of entry_numbers numbers_of number_of valued fits job_fits entry_fits node_fits binding_fits
    admitted with headed table_with store_with bindings_with entry_row node_row put_row zeros
job-nodes = refl

-- no text at all: line 1
empty-text : meant ([]) ≡ bad 1
unfolding meant read_lines parts line_of name_of letter_of entry_numbers numbers_of number_of valued fits job_fits entry_fits node_fits binding_fits
    admitted with headed table_with store_with bindings_with entry_row node_row put_row zeros
empty-text = refl

-- a leading zero
leading-zero : meant (106 ∷ 111 ∷ 98 ∷ 9 ∷ 48 ∷ 49 ∷ 48 ∷ 9 ∷ 48 ∷ 9 ∷ 48 ∷ 9 ∷ 52 ∷ 10 ∷ []) ≡ bad 1
unfolding meant read_lines parts line_of name_of letter_of entry_numbers numbers_of number_of valued fits job_fits entry_fits node_fits binding_fits
    admitted with headed table_with store_with bindings_with entry_row node_row put_row zeros
leading-zero = refl

-- two tabs
two-tabs : meant (106 ∷ 111 ∷ 98 ∷ 9 ∷ 49 ∷ 9 ∷ 9 ∷ 48 ∷ 9 ∷ 48 ∷ 9 ∷ 52 ∷ 10 ∷ []) ≡ bad 1
unfolding meant read_lines parts line_of name_of letter_of entry_numbers numbers_of number_of valued fits job_fits entry_fits node_fits binding_fits
    admitted with headed table_with store_with bindings_with entry_row node_row put_row zeros
two-tabs = refl

-- a last line without its line feed
no-line-feed : meant (106 ∷ 111 ∷ 98 ∷ 9 ∷ 49 ∷ 9 ∷ 48 ∷ 9 ∷ 48 ∷ 9 ∷ 52 ∷ 10 ∷ 110 ∷ 9 ∷ 49 ∷ []) ≡ bad 2
unfolding meant read_lines parts line_of name_of letter_of entry_numbers numbers_of number_of valued fits job_fits entry_fits node_fits binding_fits
    admitted with headed table_with store_with bindings_with entry_row node_row put_row zeros
no-line-feed = refl

-- a blank line
blank-line : meant (106 ∷ 111 ∷ 98 ∷ 9 ∷ 49 ∷ 9 ∷ 48 ∷ 9 ∷ 48 ∷ 9 ∷ 52 ∷ 10 ∷ 10 ∷ []) ≡ bad 2
unfolding meant read_lines parts line_of name_of letter_of entry_numbers numbers_of number_of valued fits job_fits entry_fits node_fits binding_fits
    admitted with headed table_with store_with bindings_with entry_row node_row put_row zeros
blank-line = refl

-- a carriage return
carriage-return : meant (106 ∷ 111 ∷ 98 ∷ 9 ∷ 49 ∷ 9 ∷ 48 ∷ 9 ∷ 48 ∷ 9 ∷ 52 ∷ 13 ∷ 10 ∷ []) ≡ bad 1
unfolding meant read_lines parts line_of name_of letter_of entry_numbers numbers_of number_of valued fits job_fits entry_fits node_fits binding_fits
    admitted with headed table_with store_with bindings_with entry_row node_row put_row zeros
carriage-return = refl

-- a room of 1,025
room-over : meant (106 ∷ 111 ∷ 98 ∷ 9 ∷ 49 ∷ 9 ∷ 48 ∷ 9 ∷ 48 ∷ 9 ∷ 49 ∷ 48 ∷ 50 ∷ 53 ∷ 10 ∷ []) ≡ bad 1
unfolding meant read_lines parts line_of name_of letter_of entry_numbers numbers_of number_of valued fits job_fits entry_fits node_fits binding_fits
    admitted with headed table_with store_with bindings_with entry_row node_row put_row zeros
room-over = refl

-- 4,294,967,296
number-over : meant (106 ∷ 111 ∷ 98 ∷ 9 ∷ 52 ∷ 50 ∷ 57 ∷ 52 ∷ 57 ∷ 54 ∷ 55 ∷ 50 ∷ 57 ∷ 54 ∷ 9 ∷ 48 ∷ 9 ∷ 48 ∷ 9 ∷ 52 ∷ 10 ∷ []) ≡ bad 1
unfolding meant read_lines parts line_of name_of letter_of entry_numbers numbers_of number_of valued fits job_fits entry_fits node_fits binding_fits
    admitted with headed table_with store_with bindings_with entry_row node_row put_row zeros
number-over = refl

-- an e line after an n line
order-broken : meant (106 ∷ 111 ∷ 98 ∷ 9 ∷ 49 ∷ 9 ∷ 48 ∷ 9 ∷ 48 ∷ 9 ∷ 52 ∷ 10 ∷ 110 ∷ 9 ∷ 49 ∷ 10 ∷ 101 ∷ 9 ∷ 48 ∷ 9 ∷ 48 ∷ 10 ∷ []) ≡ bad 3
unfolding meant read_lines parts line_of name_of letter_of entry_numbers numbers_of number_of valued fits job_fits entry_fits node_fits binding_fits
    admitted with headed table_with store_with bindings_with entry_row node_row put_row zeros
order-broken = refl

-- variables that do not rise
not-rising : meant (106 ∷ 111 ∷ 98 ∷ 9 ∷ 49 ∷ 9 ∷ 48 ∷ 9 ∷ 48 ∷ 9 ∷ 52 ∷ 10 ∷ 98 ∷ 9 ∷ 51 ∷ 9 ∷ 48 ∷ 10 ∷ 98 ∷ 9 ∷ 51 ∷ 9 ∷ 49 ∷ 10 ∷ []) ≡ bad 3
unfolding meant read_lines parts line_of name_of letter_of entry_numbers numbers_of number_of valued fits job_fits entry_fits node_fits binding_fits
    admitted with headed table_with store_with bindings_with entry_row node_row put_row zeros
not-rising = refl

-- a seventh child
eighth-number : meant (106 ∷ 111 ∷ 98 ∷ 9 ∷ 49 ∷ 9 ∷ 48 ∷ 9 ∷ 48 ∷ 9 ∷ 52 ∷ 10 ∷ 110 ∷ 9 ∷ 49 ∷ 9 ∷ 48 ∷ 9 ∷ 48 ∷ 9 ∷ 48 ∷ 9 ∷ 48 ∷ 9 ∷ 48 ∷ 9 ∷ 48 ∷ 9 ∷ 48 ∷ 10 ∷ []) ≡ bad 2
unfolding meant read_lines parts line_of name_of letter_of entry_numbers numbers_of number_of valued fits job_fits entry_fits node_fits binding_fits
    admitted with headed table_with store_with bindings_with entry_row node_row put_row zeros
eighth-number = refl

-- document 01's answer to its job: the store's four nodes, and nothing bound
abbrev pub job_store : List ℕ
job_store =
    1 ∷ 0 ∷ 0 ∷ 0 ∷ 0 ∷ 0 ∷ 0 ∷ 0
    ∷ 2 ∷ 0 ∷ 0 ∷ 0 ∷ 0 ∷ 0 ∷ 0 ∷ 0
    ∷ 5 ∷ 2 ∷ 0 ∷ 1 ∷ 0 ∷ 0 ∷ 0 ∷ 0
    ∷ 5 ∷ 2 ∷ 1 ∷ 0 ∷ 0 ∷ 0 ∷ 0 ∷ 0 ∷ []

answer-written : answered 0 0 3 4 10 job_store (zeros variables) ≡ (97 ∷ 110 ∷ 115 ∷ 119 ∷ 101 ∷ 114 ∷ 9 ∷ 48 ∷ 9 ∷ 48 ∷ 9 ∷ 51 ∷ 9 ∷ 52 ∷ 9 ∷ 49 ∷ 48 ∷ 10
    ∷ 110 ∷ 9 ∷ 49 ∷ 10
    ∷ 110 ∷ 9 ∷ 50 ∷ 10
    ∷ 110 ∷ 9 ∷ 53 ∷ 9 ∷ 48 ∷ 9 ∷ 49 ∷ 10
    ∷ 110 ∷ 9 ∷ 53 ∷ 9 ∷ 49 ∷ 9 ∷ 48 ∷ 10 ∷ [])
unfolding answered answer_line node_lines node_numbers node_shown binding_lines binding_line shown written line_text name_text numbers_text digits zeros
answer-written = refl

-- a refusal is one line
refusal-written : answered 9 2 0 0 0 job_store (zeros variables) ≡ (97 ∷ 110 ∷ 115 ∷ 119 ∷ 101 ∷ 114 ∷ 9 ∷ 57 ∷ 9 ∷ 50 ∷ 9 ∷ 48 ∷ 9 ∷ 48 ∷ 9 ∷ 48 ∷ 10 ∷ [])
unfolding answered answer_line shown numbers_text digits
refusal-written = refl

-- a bound variable is a line
bound-written : written (binding_lines (0 ∷ 0 ∷ 7 ∷ []) 3) ≡ (98 ∷ 9 ∷ 50 ∷ 9 ∷ 54 ∷ 10 ∷ [])
unfolding binding_lines binding_line written line_text name_text numbers_text digits
bound-written = refl
