-- What the documents number 0 is no refusal.
use mathlib.Core.Path.{◌≡◌, refl}
use mathlib.Core.Bool.{false}
use mathlib.Core.Logic.{◌≢◌}
use lib.Dec.{eqb}
use borrow.Author.Tests.{eqb-false}
use Rattle.checks.specs.declared.refusal.Fault.TheVariants as fault
use Rattle.checks.specs.declared.refusal.Refusal.{Refusal}
use Rattle.checks.specs.declared.refusal.Refusal.TheVariants.{Sizes, Node, Start, EntryDisobeys, NodeDisobeys, Entry, Twin, Count, NoRun}
use Rattle.checks.specs.Numbers.{answer_of}

-- Every refusal has a number of its own, and none has 0.
pub answer-some : (e : Refusal) → eqb (answer_of e) 0 ≡ false
answer-some Sizes = refl
answer-some (Node k) = refl
answer-some Start = refl
answer-some (EntryDisobeys e) = refl
answer-some (NodeDisobeys k) = refl
answer-some (Entry fault.Count e) = refl
answer-some (Entry fault.Argument e) = refl
answer-some (Entry fault.Place e) = refl
answer-some (Entry fault.Sort e) = refl
answer-some (Entry fault.Unused e) = refl
answer-some (Twin k) = refl
answer-some (Count e) = refl
answer-some NoRun = refl

pub answer_ne0 : (e : Refusal) → answer_of e ≢ 0
answer_ne0 e = eqb-false (answer_of e) 0 (answer-some e)
