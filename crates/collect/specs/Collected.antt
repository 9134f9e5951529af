-- What a collection leaves, for every input: its four numbers, and every word of the store, of the bindings and of the work list.
use Rattle.std.specs.Prelude.{Bool, List, map, ℕ, eqb, length, replicate, if◌then◌else◌}
use Rattle.checks.specs.Checked.{Checked}
use Rattle.collect.specs.Reachable.{kept}
use Rattle.collect.specs.Packed.{rank, rebound, store_after}
use Rattle.checks.specs.Kinds.{ours}
use Rattle.collect.specs.Refused.{Lent, refused_by}
use Rattle.std.specs.Prelude.{Result, Ok, Err, [], ◌∷◌}
use Rattle.checks.specs.Numbers.{answer_of, place_of}
use Rattle.checks.specs.declared.refusal.Refusal.{Refusal}
use Rattle.collect.specs.declared.Packed.{Packed}

-- the four numbers that a collection comes to
pub record Collected : Type 0 where
  pub answer : ℕ
  pub place : ℕ
  pub subject : ℕ
  pub mark : ℕ

-- those of what `collect` returns, which was given the subject k and the mark m
abbrev pub collected : Result Packed Refusal → (k m : ℕ) → Collected
collected (Ok r) k m = record { answer = 0; place = 0; subject = r.subject; mark = r.mark }
collected (Err e) k m = record { answer = answer_of e; place = place_of e; subject = k; mark = m }

-- as a list
abbrev pub four_of : Collected → List ℕ
four_of c = c.answer ∷ c.place ∷ c.subject ∷ c.mark ∷ []

-- what is handed over
abbrev pub lent : List ℕ → List ℕ → List ℕ → ℕ → ℕ → Lent
lent s b w mark subject = record { store = s; bindings = b; work = w; mark = mark; subject = subject }

-- what comes back: the four numbers with the words at return
pub record Afterwards : Type 0 where
  pub answer : ℕ
  pub place : ℕ
  pub subject : ℕ
  pub mark : ℕ
  pub store : List ℕ
  pub bindings : List ℕ
  pub work : List ℕ

abbrev pub at_end : Collected → List ℕ → List ℕ → List ℕ → Afterwards
at_end r s b w = record { answer = r.answer; place = r.place; subject = r.subject; mark = r.mark; store = s; bindings = b; work = w }

-- a refusal gives subject and mark back as given, and writes nothing
abbrev pub refusing : Lent → Checked → Afterwards
refusing i c = record {
  answer = c.answer;
  place = c.place;
  subject = i.subject;
  mark = i.mark;
  store = i.store;
  bindings = i.bindings;
  work = i.work;
}

-- the nodes that are kept
abbrev pub keeps : Lent → ℕ → Bool
keeps i = kept i.store i.bindings i.mark i.subject

-- the kept nodes are packed and renumbered, subject and bindings with them; all else in the store is zero, and so is the work list
unfoldable pub collecting : Lent → Afterwards
collecting i = record {
  answer = 0;
  place = 0;
  subject = rank (keeps i) i.subject;
  mark = rank (keeps i) i.mark;
  store = store_after (keeps i) i.store i.mark;
  bindings = map (rebound (rank (keeps i))) i.bindings;
  work = replicate (length i.work) 0;
}

-- refused, or collected
unfoldable pub collected_of_by : ℕ → Lent → Afterwards
unfolding collecting
collected_of_by W i = if eqb (refused_by W i).answer 0 then collecting i else refusing i (refused_by W i)

-- the same in the product
abbrev pub collected_of : Lent → Afterwards
collected_of = collected_of_by ours
