-- The run's one record as words: control words, which are the mark, the pattern at which a match gave up last, the room, the nodes that an
-- index holds, the store's nodes and the words of the mask of the bound variables, and then a node for each variable. Only the words of bound variables are of account, so a failure is caught by
-- putting mark and mask back.
--
-- The mask has W words, of 32 variables each, as a scope's has; the product's own W is `ours` (checks/specs/Kinds).
use Rattle.std.specs.Prelude.{◌≡◌, ◌&&◌, true, List, ℕ, zero, suc, ◌+◌, ◌-◌, ◌/◌, ◌%◌, ◌^◌, ◌<◌, eqb, ltb, length, get_or, set, replicate, if◌then◌else◌}
use Rattle.std.proofs.Math.Option.{none, some}
use Rattle.std.specs.Int.Bits.{bit_and, bit_or}
use Rattle.checks.specs.Kinds.{ours, variables_by}
use Rattle.checks.specs.Good.{number}
use Rattle.meaning.specs.Bindings.{Bindings, has}
use Rattle.meaning.specs.Limits.{at}
use Rattle.state.specs.declared.answers.Answer.{Answer}
use Rattle.state.specs.declared.answers.Answer.TheVariants.{Done, Failed, Cut}
use Rattle.index.specs.Run.{Lending, lending, noting}
use Rattle.state.specs.Noted.{Standing}

-- where the control words stand, and where the words of the mask begin
abbrev pub mark_at : ℕ
mark_at = 0

abbrev pub miss_at : ℕ
miss_at = 1

abbrev pub room_at : ℕ
room_at = 2

abbrev pub top_at : ℕ
top_at = 3

abbrev pub nodes_at : ℕ
nodes_at = 4

abbrev pub mask_at : ℕ
mask_at = 5

-- the mark, and the pattern at which a match gave up last
abbrev pub mark_of : List ℕ → ℕ
mark_of st = get_or st mark_at 0

abbrev pub miss_of : List ℕ → ℕ
miss_of st = get_or st miss_at 0

-- the room, the nodes that an index holds, the store's nodes
abbrev pub room_of : List ℕ → ℕ
room_of st = get_or st room_at 0

abbrev pub top_of : List ℕ → ℕ
top_of st = get_or st top_at 0

abbrev pub nodes_of : List ℕ → ℕ
nodes_of st = get_or st nodes_at 0

abbrev pub notes_of : List ℕ → Lending ℕ
notes_of st = lending (miss_of st) (room_of st) (top_of st) (nodes_of st)

-- what a run has beside the store's words and the bindings; and all of it but the miss
abbrev pub standing : List ℕ → Standing
standing st = at (mark_of st) (notes_of st)

abbrev pub lasting : List ℕ → Standing
lasting st = at (mark_of st) (noting (notes_of st) 0)

-- the record with another mark, another miss
abbrev pub marking : List ℕ → ℕ → List ℕ
marking st x = set st mark_at x

abbrev pub missing : List ℕ → ℕ → List ℕ
missing st p = set st miss_at p

-- the record with a new mark, up to which the index holds the nodes
abbrev pub marked : List ℕ → ℕ → List ℕ
marked st x = set (set st mark_at x) top_at x

-- the record after a comparison's answer: where it failed, a match gives up at the pattern p
unfoldable pub given_up : Answer → List ℕ → ℕ → List ℕ
given_up (Done x u) st p = st
given_up (Failed u) st p = missing st p
given_up (Cut c) st p = st

-- bit v of a mask, as a number
abbrev pub bit_of : ℕ → ℕ → ℕ
bit_of m v = m / 2 ^ v % 2

-- the number x in n words from place j on, the lowest word first
unfoldable pub parted : (n j x : ℕ) → List ℕ → List ℕ
parted zero j x st = st
parted (suc zero) j x st = set st j x
parted (suc (suc n)) j x st = parted (suc n) (j + 1) (x / 4294967296) (set st j (x % 4294967296))

-- from variable i on, k of them: the words of those in the mask m copied, from place a on in one list to place b on in another
unfoldable pub copied_from : ℕ → ℕ → ℕ → List ℕ → ℕ → List ℕ → ℕ → List ℕ
copied_from zero i m xs a ys b = ys
copied_from (suc k) i m xs a ys b = copied_from k (i + 1) (m / 2) xs a (if eqb (m % 2) 1 then set ys (b + i) (get_or xs (a + i) 0) else ys) b

abbrev pub copied : ℕ → ℕ → List ℕ → ℕ → List ℕ → ℕ → List ℕ
copied k m xs a ys b = copied_from k 0 m xs a ys b

module _ (W : ℕ) where
  -- where the variables begin, and the record's words in all
  abbrev pub first_by : ℕ
  first_by = mask_at + W

  abbrev pub record_long_by : ℕ
  record_long_by = first_by + variables_by W

  -- the mask, and the word of variable v
  abbrev pub mask_of_by : List ℕ → ℕ
  mask_of_by st = number st 0 W mask_at

  abbrev pub word_of_by : List ℕ → ℕ → ℕ
  word_of_by st v = get_or st (first_by + v) 0

  -- the record with another mask, another word of variable v
  abbrev pub masking_by : List ℕ → ℕ → List ℕ
  masking_by st x = parted W mask_at x st

  abbrev pub wording_by : List ℕ → ℕ → ℕ → List ℕ
  wording_by st v x = set st (first_by + v) x

  -- the bindings that the record holds
  unfoldable pub held_by : List ℕ → Bindings ℕ
  held_by st = λ v. if ltb v (variables_by W) && has (mask_of_by st) v then some (word_of_by st v) else none

  -- the record with variable v bound to node t
  unfoldable pub bound_by : List ℕ → ℕ → ℕ → List ℕ
  bound_by st v t = masking_by (wording_by st v t) (bit_or (mask_of_by st) (2 ^ v))

  -- the mask m without the variables of h
  unfoldable pub without_by : ℕ → ℕ → ℕ
  without_by m h = bit_and m (2 ^ variables_by W - 1 - h)

  -- the record with the variables of m unbound
  abbrev pub hidden_by : List ℕ → ℕ → List ℕ
  hidden_by st m = masking_by st (without_by (mask_of_by st) m)

  -- the words of the variables in the mask, each at its variable's number; and the record with them back, and bound
  abbrev pub kept_words_by : List ℕ → ℕ → List ℕ
  kept_words_by st m = copied (variables_by W) m st first_by (replicate (variables_by W) 0) 0

  abbrev pub put_back_by : List ℕ → ℕ → List ℕ → List ℕ
  put_back_by ks m st = masking_by (copied (variables_by W) m ks 0 st first_by) (bit_or (mask_of_by st) m)

  -- mark and mask as they were
  abbrev pub back_by : List ℕ → List ℕ → List ℕ
  back_by st st' = masking_by (marking st' (mark_of st)) (mask_of_by st)

  -- the record is as long as it was; the variables that were bound are bound still, and their words are as they were
  pub record FramedBy (st st' : List ℕ) : Type 0 where
    pub long : length st' ≡ length st
    pub bound : (v : ℕ) → v < variables_by W → has (mask_of_by st) v ≡ true → has (mask_of_by st') v ≡ true
    pub word : (v : ℕ) → v < variables_by W → has (mask_of_by st) v ≡ true → word_of_by st' v ≡ word_of_by st v

-- the same in the product
abbrev pub first : ℕ
first = first_by ours

abbrev pub record_long : ℕ
record_long = record_long_by ours

abbrev pub mask_of : List ℕ → ℕ
mask_of = mask_of_by ours

abbrev pub word_of : List ℕ → ℕ → ℕ
word_of = word_of_by ours

abbrev pub masking : List ℕ → ℕ → List ℕ
masking = masking_by ours

abbrev pub wording : List ℕ → ℕ → ℕ → List ℕ
wording = wording_by ours

abbrev pub held : List ℕ → Bindings ℕ
held = held_by ours

abbrev pub bound : List ℕ → ℕ → ℕ → List ℕ
bound = bound_by ours

abbrev pub without : ℕ → ℕ → ℕ
without = without_by ours

abbrev pub hidden : List ℕ → ℕ → List ℕ
hidden = hidden_by ours

abbrev pub kept_words : List ℕ → ℕ → List ℕ
kept_words = kept_words_by ours

abbrev pub put_back : List ℕ → ℕ → List ℕ → List ℕ
put_back = put_back_by ours

abbrev pub back : List ℕ → List ℕ → List ℕ
back = back_by ours

abbrev pub Framed : List ℕ → List ℕ → Type 0
Framed = FramedBy ours
