-- What the question of free variables answers, on every table and every entry.
use Rattle.std.specs.Prelude.{◌≡◌, Bool, true, ◌&&◌, ◌≢◌, ◌↔◌, List, ℕ, ◌^◌, ◌<◌, ltb, if◌then◌else◌}
use Rattle.std.proofs.Math.Dec.{eqb}
use Rattle.words.specs.Words.{rows}
use Rattle.checks.specs.Checked.{Checked}
use Rattle.checks.specs.declared.kinds.Sort.TheVariants.{Strategy}
use Rattle.checks.specs.Kinds.{ours, variables_by, sort_of, same}
use Rattle.checks.specs.Good.{kind_of}
use Rattle.checks.specs.Checked.{checked, table_checked_by}
use Rattle.meaning.specs.Bindings.{has}
use Rattle.meaning.specs.Table.{table_by}
use Rattle.meaning.specs.Free.{Free}
use Rattle.std.specs.Prelude.{Result, Ok, Err, [], ◌∷◌}
use Rattle.checks.specs.Numbers.{answer_of, place_of}
use Rattle.checks.specs.declared.refusal.Refusal.{Refusal}

-- the three numbers: an answer from document 01's list, its place, and the mask of the free variables
pub record FreeVariables : Type 0 where
  pub answer : ℕ
  pub place : ℕ
  pub mask : ℕ

-- a refusal's three numbers
abbrev pub refusal : ℕ → ℕ → FreeVariables
refusal a p = record { answer = a; place = p; mask = 0 }

-- the three numbers of a mask or a refusal
abbrev pub free_of : Result ℕ Refusal → FreeVariables
free_of (Ok m) = record { answer = 0; place = 0; mask = m }
free_of (Err e) = refusal (answer_of e) (place_of e)

-- as a list
abbrev pub three_of : FreeVariables → List ℕ
three_of r = r.answer ∷ r.place ∷ r.mask ∷ []

-- entry e is inside the table, and a strategy
unfoldable pub is_strategy : List ℕ → ℕ → Bool
is_strategy t e = ltb e (rows t) && same (sort_of (kind_of t e)) Strategy

module _ (W : ℕ) (t : List ℕ) (e : ℕ) where
  -- answer and place: the table check's where it refuses, then 5 where e is no strategy of the table, else 0
  unfoldable pub asked_by : Checked
  unfolding is_strategy
  asked_by = if eqb (table_checked_by W t).answer 0 then if is_strategy t e then checked 0 0 else checked 5 0 else table_checked_by W t

  -- m is the mask of just the free variables of e: no variable from their number on is free
  pub record MaskOfBy (m : ℕ) : Type 0 where
    pub fits : m < 2 ^ variables_by W
    pub free : (v : ℕ) → has m v ≡ true ↔ Free (table_by W t) e v

  -- the three numbers
  pub record AnsweredBy (r : FreeVariables) : Type 0 where
    pub outcome : checked r.answer r.place ≡ asked_by
    pub refused : r.answer ≢ 0 → r.mask ≡ 0
    pub mask : r.answer ≡ 0 → MaskOfBy r.mask

-- the same in the product
abbrev pub Answered : List ℕ → ℕ → FreeVariables → Type 0
Answered = AnsweredBy ours
