-- What is promised of the answer to a text: there is one, it is never too long for the buffer, too many bytes and a mark
-- above the room are refused as document 01 says, and what an answer shows may be read again.
use Rattle.std.specs.Prelude.{◌≡◌, ◌≢◌, true, List, [], ◌∷◌, ◌++◌, ℕ, ◌+◌, ◌*◌, ◌≤◌, ◌<◌, length, take}
use Rattle.checks.specs.Kinds.{variables}
use Rattle.meaning.specs.Answer.{Returned}
use Rattle.calls.specs.Run.{run_of}
use Rattle.job.specs.Lines.{Line}
use Rattle.job.specs.Job.{Reading, unread, good, meant}
use Rattle.job.specs.Written.{written, Follow}
use Rattle.job.specs.Answer.{shown, answer_line, answered}
use Rattle.job.specs.Promises.{BeforeNodes, Back}
use Rattle.whole_job.specs.Whole.{handed, bad_text, answer_to, JobAnswered}

-- A text has one answer: two outcomes that meet the contract agree in every byte and in the length.
abbrev pub OneAnswer : Type 0
OneAnswer = (s b b' b'' : List ℕ) (r r' : ℕ) → JobAnswered s b b' r → JobAnswered s b b'' r' → (b' ≡ b'') × (r ≡ r')

-- The first r bytes are the answer, whole.
abbrev pub AllOfIt : Type 0
AllOfIt = (s b b' : List ℕ) (r : ℕ) → JobAnswered s b b' r → take r b' ≡ answer_to s

-- An answer is at most 82,494 bytes, so that a buffer of 82,944 is never too short.
abbrev pub ShortEnough : Type 0
ShortEnough = (s : List ℕ) → length (answer_to s) ≤ 80958 + 24 * variables

-- More than 60,000 bytes: answer 9 with place 0, before all else.
abbrev pub TooLong : Type 0
TooLong = (s : List ℕ) → 60000 < length s → answer_to s ≡ bad_text 0

-- More `n` lines than there is room: answer 2.
abbrev pub NoRoom : Type 0
NoRoom =
    (s : List ℕ) (g : Reading) → meant s ≡ good g → g.heading.room < g.heading.nodes
    → answer_to s ≡ answered 2 0 g.heading.subject g.heading.nodes 0 [] []

-- what a run of a job returns
abbrev pub run_of_job : Reading → Returned
run_of_job g = run_of (handed g)

-- Answer 3 is given to no job.
abbrev pub NeverThree : Type 0
NeverThree = (g : Reading) → (run_of_job g).answer ≢ 3

-- The lines that an answer shows may follow line 1 and `e` lines, and are read as the nodes and bindings that the run left.
abbrev pub ReadsBack : Type 0
ReadsBack =
    (s : List ℕ) (g h : Reading) → meant s ≡ good g → shown (run_of_job g).answer ≡ true → BeforeNodes h
    → Back h (run_of_job g).store (run_of_job g).bindings (run_of_job g).mark

-- the first line of the text of what comes back
abbrev pub first_line : Returned → List ℕ
first_line r = answer_line (r.answer ∷ r.place ∷ r.subject ∷ r.mark ∷ r.units ∷ [])

-- the answer to s without its first line, put after the lines xs, is a job, of the nodes and bindings that the run left
pub record Again (s : List ℕ) (g : Reading) (xs : List Line) : Type 0 where
  pub rest : List ℕ
  pub text : answer_to s ≡ first_line (run_of_job g) ++ rest
  pub after : Reading
  pub job : length (written xs ++ rest) ≤ 60000 → meant (written xs ++ rest) ≡ good after
  pub mark : after.heading.nodes ≡ (run_of_job g).mark
  pub nodes : take (8 * (run_of_job g).mark) after.store ≡ take (8 * (run_of_job g).mark) (run_of_job g).store
  pub bindings : after.bindings ≡ (run_of_job g).bindings

-- The same, of texts: a run goes on from where another ended.
abbrev pub RunsOn : Type 0
RunsOn =
    (s : List ℕ) (g h : Reading) (xs : List Line) → meant s ≡ good g → shown (run_of_job g).answer ≡ true
    → Follow unread xs h → BeforeNodes h → Again s g xs
