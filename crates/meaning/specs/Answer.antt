-- What comes back from a run that was not refused: document 01's five numbers, and every word of the store and of the bindings.
use Rattle.std.proofs.Math.Option.{Option, none, some}
use Rattle.std.specs.Prelude.{List, [], ◌∷◌, ◌++◌, ℕ, zero, suc, ◌-◌, ◌*◌}
use Rattle.words.specs.Words.{cleared_from}
use Rattle.checks.specs.Kinds.{ours, variables_by}
use Rattle.meaning.specs.Bindings.{Bindings}
use Rattle.meaning.specs.Limits.{Limit, units, room, nesting, unbound, ended, lost, cut}
use Rattle.meaning.specs.Store.{Input, Ran}

-- each cut-off's answer
unfoldable pub number : Limit → ℕ
number units = 6
number room = 7
number nesting = 8
number (unbound v) = 12

-- and its place: the variable that has no binding, else 0
unfoldable pub place_of : Limit → ℕ
place_of units = 0
place_of room = 0
place_of nesting = 0
place_of (unbound v) = v

-- a binding's word, and the words of the first n variables
unfoldable pub binding_word : Option ℕ → ℕ
binding_word none = 0
binding_word (some k) = suc k

unfoldable pub binding_words : ℕ → Bindings ℕ → List ℕ
binding_words zero b = []
binding_words (suc n) b = binding_words n b ++ (binding_word (b n) ∷ [])

pub record Returned : Type 0 where
  pub answer : ℕ
  pub place : ℕ
  pub subject : ℕ
  pub mark : ℕ
  pub units : ℕ
  pub store : List ℕ
  pub bindings : List ℕ

-- an answer that leaves subject, mark and bindings as given, w being the store's words and u the units left
abbrev pub as_given : Input → (answer place : ℕ) → List ℕ → ℕ → Returned
as_given i a p w u = record { answer = a; place = p; subject = i.subject; mark = i.mark; units = i.units - u; store = cleared_from w (8 * i.mark); bindings = i.bindings }

-- 0 with the new subject, mark and bindings; else as given, failed with the place that was noted. The units are those used, and
-- from the mark on the store is zero
unfoldable pub returned_by : ℕ → Input → Ran ℕ → Returned
returned_by W i (ended k b s u) =
    record { answer = 0; place = 0; subject = k; mark = s.mark; units = i.units - u; store = cleared_from s.words (8 * s.mark); bindings = binding_words (variables_by W) b }
returned_by W i (lost l u) = as_given i 1 l.notes l.words u
returned_by W i (cut c l u) = as_given i (number c) (place_of c) l.words u

-- the same in the product
abbrev pub returned : Input → Ran ℕ → Returned
returned = returned_by ours
