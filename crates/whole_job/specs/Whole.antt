-- The answer to a job text: what the text means, what `run` returns of it, and the text of what came back. Nothing is
-- defined here that reading, `run` or writing has: the three are only put together.
use Rattle.std.specs.Prelude.{◌≡◌, List, [], ℕ, ◌*◌, ◌≤◌, length, take}
use Rattle.meaning.specs.Store.{Input}
use Rattle.meaning.specs.Answer.{Returned}
use Rattle.calls.specs.Run.{input, run_of}
use Rattle.job.specs.Job.{Heading, Reading, Meant, bad, good, meant}
use Rattle.text.specs.Written.{Put}
use Rattle.job.specs.Answer.{answered}

-- what a run is handed of a heading and of these words; the mark is the number of `n` lines
abbrev pub input_of : Heading → List ℕ → List ℕ → List ℕ → Input
input_of h t s b = input t s b h.nodes h.start h.subject h.units

-- what a job hands to a run: the rows of its `e` lines, as many rows of the store as there is room, and the bindings. Where
-- the mark exceeds the room it is the run that answers 2
abbrev pub handed : Reading → Input
handed g = input_of g.heading (take (8 * g.heading.entries) g.table) (take (8 * g.heading.room) g.store) g.bindings

-- the text of what a run returns
abbrev pub text_of : Returned → List ℕ
text_of r = answered r.answer r.place r.subject r.mark r.units r.store r.bindings

-- the text of a run of this input
unfoldable pub run_text : Input → List ℕ
run_text i = text_of (run_of i)

-- the text of a bad line: answer 9 with the line's number as its place, and zeros
unfoldable pub bad_text : ℕ → List ℕ
bad_text n = answered 9 n 0 0 0 [] []

-- the answer to what a text means
unfoldable pub meant_text : Meant → List ℕ
unfolding run_text bad_text
meant_text (bad n) = bad_text n
meant_text (good g) = run_text (handed g)

-- the answer to a text
unfoldable pub answer_to : List ℕ → List ℕ
unfolding meant_text
answer_to s = meant_text (meant s)

-- the contract of the job function: the bytes b' are the answer to s and, after it, those of b as they were; r is the
-- answer's length. The last two follow from the first: with them a caller takes the first r bytes without a proof
pub record JobAnswered (s b b' : List ℕ) (r : ℕ) : Type 0 where
  pub put : Put b 0 (answer_to s) b' r
  pub within : r ≤ length b'
  pub counted : r ≡ length (take r b')
