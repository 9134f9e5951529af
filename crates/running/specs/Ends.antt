-- How the engine's answer ends a run: its numbers, the store's words, and the bindings that the record holds.
use Rattle.std.specs.Prelude.{◌≡◌, List, ℕ}
use Rattle.meaning.specs.Bindings.{Bindings}
use Rattle.meaning.specs.Limits.{ended}
use Rattle.meaning.specs.Answer.{number, place_of}
use Rattle.meaning.specs.Derivation.{nowhere}
use Rattle.meaning.specs.Rules.{apply}
use Rattle.meaning.specs.Store.{State, Ran}
use Rattle.index.specs.Run.{FitsRoom, own_words, own_ran}
use Rattle.state.specs.Noted.{missed_at}
use Rattle.state.specs.Record.{mark_of, room_of, top_of, nodes_of, standing, held}
use Rattle.state.specs.Visits.{limit_of, visit}
use Rattle.calls.specs.Run.{numbers as numbers_of, words_of}
use Rattle.calls.specs.Outcome.{Outcome}

-- the answer of a cut-off's word, and its place
abbrev pub cut_number : ℕ → ℕ
cut_number c = number (limit_of c)

abbrev pub cut_place : ℕ → ℕ
cut_place c = place_of (limit_of c)

-- the run ends as o: r are its numbers, w the store's words, and where it is done the record st holds its bindings
pub record Ends (o : Ran ℕ) (k m u : ℕ) (r : Outcome) (st w : List ℕ) : Type 0 where
  pub numbers : r ≡ numbers_of k m u o
  pub words : w ≡ words_of o
  pub bound : (x v : ℕ) (b : Bindings ℕ) (s : State ℕ) → o ≡ ended x b s v → held st ≡ b

-- the run of an accepted input by the table c, over the store's own words of what is lent: no match has given up when it begins
abbrev pub own_run : (c w st : List ℕ) (start subject units : ℕ) → Ran ℕ
own_run c w st e k u = own_ran (room_of st) (nodes_of st) (visit c 4096 (apply e k (held st)) w (missed_at nowhere (standing st)) u)

-- it ends so, and what is lent fits the room still
pub record RanAccepted (c w st : List ℕ) (start subject units : ℕ) (r : Outcome) (st' w' : List ℕ) : Type 0 where
  pub ends : Ends (own_run c w st start subject units) subject (mark_of st) units r st' (own_words (room_of st) (nodes_of st) w')
  pub fits : FitsRoom (room_of st) w' r.mark (top_of st') (nodes_of st)
