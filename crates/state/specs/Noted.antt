-- The store of a run, which is one lent slice (index/specs/Run), with what the run notes on its way: the pattern at which a match gave up
-- last. What is said of a run elsewhere names these, so that a run that notes something else changes them here.
use Rattle.std.specs.Prelude.{List, ℕ}
use Rattle.meaning.specs.Rules.{Visit}
use Rattle.meaning.specs.Derivation.{places}
use Rattle.meaning.specs.Limits.{Store, Counted, at}
use Rattle.meaning.specs.Store as store
use Rattle.index.specs.Run.{Lending, noting, lent}

-- the store's state, what a failure or a cut-off leaves of it, and how a run over it ends
abbrev pub State : Type 0
State = store.State (Lending ℕ)

abbrev pub Left : Type 0
Left = store.Left (Lending ℕ)

abbrev pub Ran : Type 0
Ran = store.Ran (Lending ℕ)

-- what a run has beside the store's words: the mark, the place that was noted last, the room and what the index holds
abbrev pub Standing : Type 0
Standing = Counted (Lending ℕ)

-- the mark is back, and what was noted since stays
abbrev pub back_to : Standing → Standing → Standing
back_to m m' = at m.mark m'.notes

-- a match gives up at the pattern p
abbrev pub missed_at : ℕ → Standing → Standing
missed_at p m = at m.mark (noting m.notes p)

-- the words w with the mark and the notes m; what is left of them
abbrev pub on : List ℕ → Standing → State
on w m = store.on w m.mark m.notes

abbrev pub left_of : List ℕ → Standing → Left
left_of w m = store.rest w m.notes

abbrev pub stored : Store ℕ (Visit ℕ) State Left
stored = lent places
