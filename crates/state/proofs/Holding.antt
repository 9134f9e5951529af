-- What the record holds: the bindings after a variable is bound, after mark and mask are put back, and around SCOPE; and
-- that the words of the variables bound before are as they were. Assumes nothing.
use mathlib.Core.Path.{◌≡◌, refl, ap, ap₂, sym, ◌∙◌, subst, fun_ext}
use mathlib.Core.Bool.{Bool, true, false, not, ◌&&◌, ◌||◌, true≢false}
use mathlib.Core.Option.{Option, none, some}
use mathlib.Core.Logic.{◌⊎◌, inl, inr, ⊎_elim}
use mathlib.Core.List.{List}
use Prim.Native.Nat.{ℕ, zero, suc, ◌+◌, ◌-◌, ◌*◌, ◌/◌, ◌%◌, ◌^◌, ◌<◌, ◌≤◌}
use native.Mathlib.Omega.{arith}
use lib.Dec.{eqb}
use lib.ListN.{length, get_or, set, length-set, replicate, length-replicate}
use lib.Seq.{get_or-set_same, get_or-set_other}
use lib.Bits.{bit_and, bit_or}
use borrow.Author.Tests.{lt-ltb, le-ltb, eqb-true, eqb-false, ne_eqb}
use Rattle.words.specs.Words.{word_at}
use Rattle.std.specs.Prelude.{if◌then◌else◌}
use Rattle.words.proofs.Tests.{below-or-from}
use Rattle.checks.specs.Kinds.{ours, variables_by}
use Rattle.checks.specs.Good.{number}
use Rattle.meaning.specs.Bindings.{Bindings, bind, has, masked, unbound}
use Rattle.meaning.specs.Limits.{at}
use Rattle.index.specs.Run.{lending, noting}
use Rattle.state.specs.Record.{mark_at, miss_at, room_at, top_at, nodes_at, mask_at, mark_of, miss_of, room_of, nodes_of, notes_of}
use Rattle.state.specs.Record.{standing, lasting, marking, missing, marked as marked-up, bit_of, parted, copied_from, copied}
use Rattle.state.specs.Record.{first_by, record_long_by, mask_of_by, word_of_by, masking_by, wording_by, held_by, bound_by, without_by}
use Rattle.state.specs.Record.{hidden_by, kept_words_by, put_back_by, back_by, FramedBy}
use Rattle.meaning.proofs.Bits.{bit-has, has-bit, no-bit-has, has-nothing, has-zero, has-suc, has-and, has-or, has_one, has-not, bit-shift}

-- the word of a variable, where it is bound
abbrev if-bound : Bool → ℕ → Option ℕ
if-bound b x = if b then some x else none

-- a choice with its right side known
or-true : (b : Bool) → b || true ≡ true
or-true true = refl
or-true false = refl

or-false : (b : Bool) → b || false ≡ b
or-false true = refl
or-false false = refl

-- a choice between like things
alike : (b : Bool) (o : Option ℕ) → o ≡ (if b then o else o)
alike true o = refl
alike false o = refl

-- a word in the mask c without a; one in c without a, or in b and a
dimmed : (a c : Bool) (y : ℕ) → if-bound (c && not a) y ≡ (if a then none else if-bound c y)
dimmed true true y = refl
dimmed true false y = refl
dimmed false true y = refl
dimmed false false y = refl

mixed : (a b c : Bool) (x y : ℕ) → if-bound ((c && not a) || (b && a)) (if b && a then x else y)
    ≡ (if a then if-bound b x else if-bound c y)
mixed true true c x y = ap (λ (d : Bool). if-bound d x) (or-true (c && false))
mixed true false true x y = refl
mixed true false false x y = refl
mixed false true true x y = refl
mixed false true false x y = refl
mixed false false true x y = refl
mixed false false false x y = refl

-- the words of a list are those of its first row
word-zero : (st : List ℕ) (j : ℕ) → word_at st 0 j ≡ get_or st j 0
word-zero st j = let e : 8 * 0 + j ≡ j = omega arith in ap (λ (k : ℕ). get_or st k 0) e

-- a number in words: what a store to another place leaves of it
same-words : (st st' : List ℕ) (k j : ℕ) → ((i : ℕ) → j ≤ i → i < j + k → get_or st' i 0 ≡ get_or st i 0) → number st' 0 k j ≡ number st 0 k j
unfolding number
same-words st st' zero j f = refl
same-words st st' (suc zero) j f = word-zero st' j ∙ f j (omega arith) (omega arith) ∙ sym (word-zero st j)
same-words st st' (suc (suc k)) j f =
    ap₂ (λ (a b : ℕ). a + 4294967296 * b) (word-zero st' j ∙ f j (omega arith) (omega arith) ∙ sym (word-zero st j))
    (same-words st st' (suc k) (j + 1) (λ i l h. f i (omega arith) (omega arith)))

number-other : (st : List ℕ) (i x k j : ℕ) → (i < j) ⊎ (j + k ≤ i) → number (set st i x) 0 k j ≡ number st 0 k j
number-other st i x k j h = same-words st (set st i x) k j (λ y l m. get_or-set_other st i y x 0
    (λ e. ⊎_elim (λ z. omega arith) (λ z. omega arith) h))

-- what writing a number leaves of the other places, and that it is read again
length-parted : (k j x : ℕ) (st : List ℕ) → length (parted k j x st) ≡ length st
unfolding parted
length-parted zero j x st = refl
length-parted (suc zero) j x st = length-set st j x
length-parted (suc (suc k)) j x st = length-parted (suc k) (j + 1) (x / 4294967296) (set st j (x % 4294967296))
    ∙ length-set st j (x % 4294967296)

parted-other : (k j x : ℕ) (st : List ℕ) (i : ℕ) → (i < j) ⊎ (j + k ≤ i) → get_or (parted k j x st) i 0 ≡ get_or st i 0
unfolding parted
parted-other zero j x st i h = refl
parted-other (suc zero) j x st i h = get_or-set_other st j i x 0 (λ e. ⊎_elim (λ z. omega arith) (λ z. omega arith) h)
parted-other (suc (suc k)) j x st i h =
    parted-other (suc k) (j + 1) (x / 4294967296) (set st j (x % 4294967296)) i (⊎_elim (λ z. inl (omega arith)) (λ z. inr (omega arith)) h)
    ∙ get_or-set_other st j i (x % 4294967296) 0 (λ e. ⊎_elim (λ z. omega arith) (λ z. omega arith) h)

number-parted : (k j x : ℕ) (st : List ℕ) → j + k < length st → number (parted (suc k) j x st) 0 (suc k) j ≡ x
unfolding number parted
number-parted zero j x st l = word-zero (set st j x) j ∙ get_or-set_same st j x 0 (omega arith)
number-parted (suc k) j x st l =
    ap₂ (λ (a b : ℕ). a + 4294967296 * b)
    (word-zero (parted (suc (suc k)) j x st) j ∙ parted-other (suc k) (j + 1) (x / 4294967296) (set st j (x % 4294967296)) j
    (inl (omega arith)) ∙ get_or-set_same st j (x % 4294967296) 0 (omega arith))
    (number-parted k (j + 1) (x / 4294967296) (set st j (x % 4294967296)) (omega (arith, length-set st j (x % 4294967296))))
    ∙ omega arith

-- the control words between the mark and the mask
notes-same : (st' st : List ℕ) → ((j : ℕ) → mark_at < j → j < mask_at → get_or st' j 0 ≡ get_or st j 0) → notes_of st' ≡ notes_of st
notes-same st' st f = λ z. lending (f miss_at (omega arith) (omega arith) z) (f room_at (omega arith) (omega arith) z)
    (f top_at (omega arith) (omega arith) z) (f nodes_at (omega arith) (omega arith) z)

notes-set : (st : List ℕ) (i x : ℕ) → (i ≤ mark_at) ⊎ (mask_at ≤ i) → notes_of (set st i x) ≡ notes_of st
notes-set st i x h = notes-same (set st i x) st (λ j l m. get_or-set_other st i j x 0 (λ e. ⊎_elim (λ z. omega arith) (λ z. omega arith) h))

-- words copied: those of the mask are the other list's, and no others change
module _ (xs : List ℕ) (a b : ℕ) where
  abbrev put : Bool → List ℕ → ℕ → List ℕ
  put c ys i = if c then set ys (b + i) (get_or xs (a + i) 0) else ys

  stored : (c : Bool) (ys : List ℕ) (i j : ℕ) → (j ≡ b + i → ⊥) → get_or (put c ys i) j 0 ≡ get_or ys j 0
  stored true ys i j n = get_or-set_other ys (b + i) j (get_or xs (a + i) 0) 0 n
  stored false ys i j n = refl

  pub length-put : (c : Bool) (ys : List ℕ) (i : ℕ) → length (put c ys i) ≡ length ys
  length-put true ys i = length-set ys (b + i) (get_or xs (a + i) 0)
  length-put false ys i = refl

  -- where no bit is left nothing is copied
  pub copied-nothing : (k i : ℕ) (ys : List ℕ) → copied_from k i 0 xs a ys b ≡ ys
  unfolding copied_from
  copied-nothing zero i ys = refl
  copied-nothing (suc k) i ys = copied-nothing k (i + 1) ys

  pub length-copied : (k i m : ℕ) (ys : List ℕ) → length (copied_from k i m xs a ys b) ≡ length ys
  unfolding copied_from
  length-copied zero i m ys = refl
  length-copied (suc k) i m ys = length-copied k (i + 1) (m / 2) _ ∙ length-put (eqb (m % 2) 1) ys i

  -- the words before that of the variable i
  copied-before : (k i m : ℕ) (ys : List ℕ) (j : ℕ) → j < b + i → get_or (copied_from k i m xs a ys b) j 0 ≡ get_or ys j 0
  unfolding copied_from
  copied-before zero i m ys j l = refl
  copied-before (suc k) i m ys j l =
      copied-before k (i + 1) (m / 2) _ j (omega arith) ∙ stored (eqb (m % 2) 1) ys i j (λ e. omega arith)

  copied-word : (k i m : ℕ) (ys : List ℕ) (j v : ℕ) → v ≡ i + j → j < k → b + v < length ys →
      get_or (copied_from k i m xs a ys b) (b + v) 0 ≡ (if has m j then get_or xs (a + v) 0 else get_or ys (b + v) 0)
  unfolding copied_from
  copied-word zero i m ys j v e h l = absurd (omega arith)
  copied-word (suc k) i m ys zero v e h l =
      copied-before k (i + 1) (m / 2) _ (b + v) (omega arith) ∙ go (eqb (m % 2) 1) ∙ rw (has-zero m)
    where
      go : (c : Bool) → get_or (put c ys i) (b + v) 0 ≡ (if c then get_or xs (a + v) 0 else get_or ys (b + v) 0)
      go true = let z : v ≡ i = omega arith in rw z (get_or-set_same ys (b + i) (get_or xs (a + i) 0) 0 (omega arith))
      go false = refl
  copied-word (suc k) i m ys (suc j) v e h l =
      copied-word k (i + 1) (m / 2) _ j v (omega arith) (omega arith) (rw (length-put (eqb (m % 2) 1) ys i) l)
      ∙ rw (has-suc m j, stored (eqb (m % 2) 1) ys i (b + v) (λ z. omega arith))

-- the words of the product's mask after its first
abbrev pub further : ℕ
further = ours - 1

-- The record whose mask has n words after its first, whatever n is.
module _ (n : ℕ) where
  abbrev variables : ℕ
  variables = variables_by (suc n)

  abbrev first : ℕ
  first = first_by (suc n)

  abbrev record_long : ℕ
  record_long = record_long_by (suc n)

  abbrev mask_of : List ℕ → ℕ
  mask_of = mask_of_by (suc n)

  abbrev word_of : List ℕ → ℕ → ℕ
  word_of = word_of_by (suc n)

  abbrev masking : List ℕ → ℕ → List ℕ
  masking = masking_by (suc n)

  abbrev wording : List ℕ → ℕ → ℕ → List ℕ
  wording = wording_by (suc n)

  abbrev held : List ℕ → Bindings ℕ
  held = held_by (suc n)

  abbrev bound : List ℕ → ℕ → ℕ → List ℕ
  bound = bound_by (suc n)

  abbrev without : ℕ → ℕ → ℕ
  without = without_by (suc n)

  abbrev hidden : List ℕ → ℕ → List ℕ
  hidden = hidden_by (suc n)

  abbrev kept_words : List ℕ → ℕ → List ℕ
  kept_words = kept_words_by (suc n)

  abbrev put_back : List ℕ → ℕ → List ℕ → List ℕ
  put_back = put_back_by (suc n)

  abbrev back : List ℕ → List ℕ → List ℕ
  back = back_by (suc n)

  abbrev Framed : List ℕ → List ℕ → Type 0
  Framed = FramedBy (suc n)

  -- a mask without the variables of another
  has-without : (m h v : ℕ) → h < 2 ^ variables → v < variables → has (without m h) v ≡ has m v && not (has h v)
  unfolding without_by
  has-without m h v l k = has-and m (2 ^ variables - 1 - h) v ∙ ap (λ (b : Bool). has m v && b) (has-not variables h v l k)

  -- below the number of variables the mask says what is held, and above nothing is
  held_below : (st : List ℕ) (v : ℕ) → v < variables → held st v ≡ if-bound (has (mask_of st) v) (word_of st v)
  unfolding held_by
  held_below st v l = rw (lt-ltb v variables l)

  held-above : (st : List ℕ) (v : ℕ) → variables ≤ v → held st v ≡ none
  unfolding held_by
  held-above st v l = rw (le-ltb v variables l)

  held-is : (st : List ℕ) (b : Bindings ℕ) → ((v : ℕ) → v < variables → if-bound (has (mask_of st) v) (word_of st v) ≡ b v) →
      ((v : ℕ) → variables ≤ v → none ≡ b v) → held st ≡ b
  held-is st b f g = fun_ext (λ v. ⊎_elim (λ l. held_below st v l ∙ f v l) (λ l. held-above st v l ∙ g v l) (below-or-from v variables))

  pub held-some : (st : List ℕ) (v : ℕ) → v < variables → bit_of (mask_of st) v ≡ 1 → held st v ≡ some (word_of st v)
  held-some st v l e = held_below st v l ∙ rw (bit-has (mask_of st) v e)

  pub held_none : (st : List ℕ) (v : ℕ) → (bit_of (mask_of st) v ≡ 1 → ⊥) → held st v ≡ none
  held_none st v n = ⊎_elim (λ l. held_below st v l ∙ rw (no-bit-has (mask_of st) v n)) (held-above st v) (below-or-from v variables)

  -- what a store to a control word, or to a variable's word, leaves of the others
  module _ (st : List ℕ) (x : ℕ) where
    mask-marking : mask_of (marking st x) ≡ mask_of st
    mask-marking = number-other st mark_at x (suc n) mask_at (inl (omega arith))

    pub notes-marking : notes_of (marking st x) ≡ notes_of st
    notes-marking = notes-set st mark_at x (inl (omega arith))

    word-marking : (v : ℕ) → word_of (marking st x) v ≡ word_of st v
    word-marking v = get_or-set_other st mark_at (first + v) x 0 (λ e. omega arith)

    pub mark-masking : mark_of (masking st x) ≡ mark_of st
    mark-masking = parted-other (suc n) mask_at x st mark_at (inl (omega arith))

    notes-masking : notes_of (masking st x) ≡ notes_of st
    notes-masking = notes-same (masking st x) st (λ j l h. parted-other (suc n) mask_at x st j (inl (omega arith)))

    word-masking : (v : ℕ) → word_of (masking st x) v ≡ word_of st v
    word-masking v = parted-other (suc n) mask_at x st (first + v) (inr (omega arith))

    pub mark-missing : mark_of (missing st x) ≡ mark_of st
    mark-missing = get_or-set_other st miss_at mark_at x 0 (λ e. omega arith)

    other-missing : (j : ℕ) → miss_at < j → get_or (missing st x) j 0 ≡ get_or st j 0
    other-missing j l = get_or-set_other st miss_at j x 0 (λ e. omega arith)

    pub lasting-missing : lasting (missing st x) ≡ lasting st
    lasting-missing = λ z. at (mark-missing z) (lending 0 (other-missing room_at (omega arith) z)
        (other-missing top_at (omega arith) z) (other-missing nodes_at (omega arith) z))

    mask-missing : mask_of (missing st x) ≡ mask_of st
    mask-missing = number-other st miss_at x (suc n) mask_at (inl (omega arith))

    word-missing : (v : ℕ) → word_of (missing st x) v ≡ word_of st v
    word-missing v = get_or-set_other st miss_at (first + v) x 0 (λ e. omega arith)

    notes-wording : (v : ℕ) → notes_of (wording st v x) ≡ notes_of st
    notes-wording v = notes-set st (first + v) x (inr (omega arith))

    mark-wording : (v : ℕ) → mark_of (wording st v x) ≡ mark_of st
    mark-wording v = get_or-set_other st (first + v) mark_at x 0 (λ e. omega arith)

    mask-wording : (v : ℕ) → mask_of (wording st v x) ≡ mask_of st
    mask-wording v = number-other st (first + v) x (suc n) mask_at (inr (omega arith))

    word-wording-other : (v w : ℕ) → (w ≡ v → ⊥) → word_of (wording st v x) w ≡ word_of st w
    word-wording-other v w n = get_or-set_other st (first + v) (first + w) x 0 (λ e. n (omega arith))

    -- and what it sets
    module _ (long : length st ≡ record_long) where
      pub mark-marking : mark_of (marking st x) ≡ x
      mark-marking = get_or-set_same st mark_at x 0 (omega arith)

      mask-masking : mask_of (masking st x) ≡ x
      mask-masking = number-parted n mask_at x st (omega arith)

      pub miss-missing : miss_of (missing st x) ≡ x
      miss-missing = get_or-set_same st miss_at x 0 (omega arith)

      pub notes-missing : notes_of (missing st x) ≡ noting (notes_of st) x
      notes-missing = ap (λ p. noting (notes_of (missing st x)) p) miss-missing ∙ ap (λ m. noting m.notes x) lasting-missing

      word-wording : (v : ℕ) → v < variables → word_of (wording st v x) v ≡ x
      word-wording v l = get_or-set_same st (first + v) x 0 (omega arith)

  -- to be framed is an order
  pub framed-refl : (st : List ℕ) → Framed st st
  framed-refl st = record { long = refl; bound = λ v l h. h; word = λ v l h. refl }

  pub framed-trans : (st st' st'' : List ℕ) → Framed st st' → Framed st' st'' → Framed st st''
  framed-trans st st' st'' f g = record {
    long = g.long ∙ f.long;
    bound = λ v l h. g.bound v l (f.bound v l h);
    word = λ v l h. g.word v l (f.bound v l h) ∙ f.word v l h;
  }

  -- the mark set
  module _ (st : List ℕ) (x : ℕ) where
    pub held-mark : held (marking st x) ≡ held st
    held-mark = held-is (marking st x) (held st) (λ v l. rw (mask-marking st x, word-marking st x v) (sym (held_below st v l)))
        (λ v l. sym (held-above st v l))

    pub framed-mark : Framed st (marking st x)
    framed-mark = record { long = length-set st mark_at x; bound = λ v l h. rw (mask-marking st x) h; word = λ v l h. word-marking st x v }

  -- a new mark, up to which the index holds the nodes
  module _ (st : List ℕ) (x : ℕ) (long : length st ≡ record_long) where
    mask-topped : mask_of (marked-up st x) ≡ mask_of st
    mask-topped = number-other (marking st x) top_at x (suc n) mask_at (inl (omega arith)) ∙ mask-marking st x

    word-topped : (v : ℕ) → word_of (marked-up st x) v ≡ word_of st v
    word-topped v = get_or-set_other (marking st x) top_at (first + v) x 0 (λ e. omega arith) ∙ word-marking st x v

    pub held-topped : held (marked-up st x) ≡ held st
    held-topped = held-is (marked-up st x) (held st) (λ v l. rw (mask-topped, word-topped v) (sym (held_below st v l)))
        (λ v l. sym (held-above st v l))

    pub framed-topped : Framed st (marked-up st x)
    framed-topped = record {
      long = length-set (marking st x) top_at x
          ∙ length-set st mark_at x;
      bound = λ v l h. rw mask-topped h;
      word = λ v l h. word-topped v;
    }

    other-topped : (j : ℕ) → (mark_at ≡ j → ⊥) → (top_at ≡ j → ⊥) → get_or (marked-up st x) j 0 ≡ get_or st j 0
    other-topped j a b = get_or-set_other (marking st x) top_at j x 0 (λ e. b (sym e)) ∙ get_or-set_other st mark_at j x 0 (λ e. a (sym e))

    pub standing-topped : standing (marked-up st x) ≡ at x (lending (miss_of st) (room_of st) x (nodes_of st))
    standing-topped = λ z.
        at
        ((get_or-set_other (marking st x) top_at mark_at x 0 (λ e. omega arith) ∙ mark-marking st x long) z)
        (lending (other-topped miss_at (λ e. omega arith) (λ e. omega arith) z)
        (other-topped room_at (λ e. omega arith) (λ e. omega arith) z)
        (get_or-set_same (marking st x) top_at x 0 (omega (arith, length-set st mark_at x)) z)
        (other-topped nodes_at (λ e. omega arith) (λ e. omega arith) z))

  -- the miss set
  module _ (st : List ℕ) (x : ℕ) where
    pub held-missing : held (missing st x) ≡ held st
    held-missing = held-is (missing st x) (held st) (λ v l. rw (mask-missing st x, word-missing st x v) (sym (held_below st v l)))
        (λ v l. sym (held-above st v l))

    pub framed-missing : Framed st (missing st x)
    framed-missing = record {
      long = length-set st miss_at x;
      bound = λ v l h. rw (mask-missing st x) h;
      word = λ v l h. word-missing
          st x v;
    }

  -- the mask set
  module _ (st : List ℕ) (x : ℕ) (long : length st ≡ record_long) where
    -- what the record holds then
    held-mask : (b : Bindings ℕ) → ((v : ℕ) → v < variables → if-bound (has x v) (word_of st v) ≡ b v) →
        ((v : ℕ) → variables ≤ v → none ≡ b v) → held (masking st x) ≡ b
    held-mask b f = held-is (masking st x) b (λ v l. rw (mask-masking st x long, word-masking st x v) (f v l))

    framed-mask : (st₀ : List ℕ) → length st₀ ≡ record_long →
        ((v : ℕ) → v < variables → has (mask_of st₀) v ≡ true → (has x v ≡ true) × (word_of st v ≡ word_of st₀ v)) → Framed st₀ (masking st x)
    framed-mask st₀ was f = record {
      long = length-parted (suc n) mask_at x st ∙ long
          ∙ sym was;
      bound = λ v l h. rw (mask-masking st x long) (f v l h).0;
      word = λ v l h. word-masking st x v ∙ (f v l h).1;
    }

  -- a variable bound
  module _ (st : List ℕ) (v t : ℕ) (small : v < variables) where
    pub length-bound : length (bound st v t) ≡ length st
    unfolding bound_by
    length-bound = length-parted (suc n) mask_at (bit_or (mask_of st) (2 ^ v)) (wording st v t) ∙ length-set st (first + v) t

    pub mark-bound : mark_of (bound st v t) ≡ mark_of st
    unfolding bound_by
    mark-bound = mark-masking (wording st v t) (bit_or (mask_of st) (2 ^ v)) ∙ mark-wording st t v

    pub notes-bound : notes_of (bound st v t) ≡ notes_of st
    unfolding bound_by
    notes-bound = notes-masking (wording st v t) (bit_or (mask_of st) (2 ^ v)) ∙ notes-wording st t v

    pub lasting-bound : lasting (bound st v t) ≡ lasting st
    lasting-bound = λ z. at (mark-bound z) (noting (notes-bound z) 0)

    abbrev mask' : ℕ
    mask' = bit_or (mask_of st) (2 ^ v)

    has-bound : (w : ℕ) → has mask' w ≡ has (mask_of st) w || eqb w v
    has-bound w = has-or (mask_of st) (2 ^ v) w ∙ ap (λ (b : Bool). has (mask_of st) w || b) (has_one v w)

    module _ (long : length st ≡ record_long) where
      long' : length (wording st v t) ≡ record_long
      long' = simp length-set long

      pub held-bound : held (bound st v t) ≡ bind v t (held st)
      unfolding bound_by bind
      held-bound = held-mask (wording st v t) mask' long' (bind v t (held st)) (λ w l. at w l (eqb w v) refl)
          (λ w l. rw (ne_eqb w v (λ e. omega arith)) (sym (held-above st w l)))
        where
          at : (w : ℕ) → w < variables → (b : Bool) → eqb w v ≡ b →
              if-bound (has mask' w) (word_of (wording st v t) w) ≡ (if b then some t else held st w)
          at w l true e = rw (has-bound w, e, or-true (has (mask_of st) w), eqb-true w v e, word-wording st t long v small)
          at w l false e = rw (has-bound w, e, or-false (has (mask_of st) w), word-wording-other st t v w (eqb-false w v e))
              (sym (held_below st w l))

      pub framed-bound : (bit_of (mask_of st) v ≡ 1 → ⊥) → Framed st (bound st v t)
      unfolding bound_by
      framed-bound n = framed-mask (wording st v t) mask' long' st long
          (λ w l h. (
            rw (has-bound w, h),
            word-wording-other st t v w
                (λ e. n (has-bit (mask_of st) v (subst (λ (x : ℕ). has (mask_of st) x ≡ true) e h))),
          ))

  -- a variable set in place, its node and then its bit, is bound
  pub set-bound : (st : List ℕ) (v x : ℕ) → v < variables → masking (wording st v x)
      (bit_or (mask_of (wording st v x)) (1 * 2 ^ v % 2 ^ variables)) ≡ bound st v x
  unfolding bound_by
  set-bound st v x l = rw (mask-wording st x v, bit-shift variables v l)

  -- a failure caught: mark and mask as they were
  module _ (st st' : List ℕ) (long : length st' ≡ record_long) where
    abbrev marked : List ℕ
    marked = marking st' (mark_of st)

    long-marked : length marked ≡ record_long
    long-marked = simp length-set long

    pub length_back : length (back st st') ≡ record_long
    length_back = length-parted (suc n) mask_at (mask_of st) marked ∙ long-marked

    pub mark-back : mark_of (back st st') ≡ mark_of st
    mark-back = mark-masking marked (mask_of st) ∙ mark-marking st' (mark_of st) long

    -- what was noted since stays
    pub notes-back : notes_of (back st st') ≡ notes_of st'
    notes-back = notes-masking marked (mask_of st) ∙ notes-marking st' (mark_of st)

    pub held_back : Framed st st' → held (back st st') ≡ held st
    held_back f = held-mask marked (mask_of st) long-marked (held st)
        (λ v l. at v l (has (mask_of st) v) refl ∙ sym (held_below st v l)) (λ v l. sym (held-above st v l))
      where
        at : (v : ℕ) → v < variables → (b : Bool) → has (mask_of st) v ≡ b →
            if-bound (has (mask_of st) v) (word_of marked v) ≡ if-bound (has (mask_of st) v) (word_of st v)
        at v l true h = rw (word-marking st' (mark_of st) v, f.word v l h)
        at v l false h = rw h

    pub framed-back : Framed st st' → Framed st (back st st')
    framed-back f = framed-mask marked (mask_of st) long-marked st (sym f.long ∙ long)
        (λ v l h. (h, word-marking st' (mark_of st) v ∙ f.word v l h))

  -- the variables of m unbound
  module _ (st : List ℕ) (m : ℕ) (long : length st ≡ record_long) (small : m < 2 ^ variables) where
    pub length-hidden : length (hidden st m) ≡ record_long
    length-hidden = length-parted (suc n) mask_at (without (mask_of st) m) st ∙ long

    pub mark-hidden : mark_of (hidden st m) ≡ mark_of st
    mark-hidden = mark-masking st (without (mask_of st) m)

    pub notes-hidden : notes_of (hidden st m) ≡ notes_of st
    notes-hidden = notes-masking st (without (mask_of st) m)

    pub held-hidden : held (hidden st m) ≡ masked m unbound (held st)
    unfolding masked
    held-hidden =
        held-mask st (without (mask_of st) m) long (masked m unbound (held st))
        (λ v l. rw (has-without (mask_of st) m v small l, held_below st v l) (dimmed (has m v) (has (mask_of st) v) (word_of st v)))
        (λ v l. rw (held-above st v l) (alike (has m v) none))

  -- SCOPE where nothing masked is bound
  module _ (st : List ℕ) (m : ℕ) (apart : bit_and (mask_of st) m ≡ 0) where
    not-both : (v : ℕ) → has (mask_of st) v && has m v ≡ false
    not-both v = sym (has-and (mask_of st) m v) ∙ ap (λ (x : ℕ). has x v) apart ∙ has-nothing v

    -- a bound variable is not masked
    unmasked : (v : ℕ) → has (mask_of st) v ≡ true → has m v ≡ false
    unmasked v h = rw h at (not-both v)

    -- a masked variable is unbound
    masked-none : (v : ℕ) → has m v ≡ true → held st v ≡ none
    masked-none v h = held_none st v (λ e. true≢false (sym h ∙ unmasked v (bit-has (mask_of st) v e)))

    masked-apart : (b : Bindings ℕ) → masked m unbound b ≡ masked m (held st) b
    unfolding masked
    masked-apart b = fun_ext (λ v. at v (has m v) refl)
      where
        at : (v : ℕ) (t : Bool) → has m v ≡ t → (if t then none else b v) ≡ (if t then held st v else b v)
        at v true h = sym (masked-none v h)
        at v false h = refl

    pub held-apart : held st ≡ masked m unbound (held st)
    unfolding masked
    held-apart = fun_ext (λ v. alike (has m v) (held st v)) ∙ sym (masked-apart (held st))

    module _ (st' : List ℕ) (long : length st' ≡ record_long) (small : m < 2 ^ variables) where
      pub held-unscope : held (hidden st' m) ≡ masked m (held st) (held st')
      held-unscope = held-hidden st' m long small ∙ masked-apart (held st')

      pub framed-unscope : Framed st st' → Framed st (hidden st' m)
      framed-unscope f = framed-mask st' (without (mask_of st') m) long st (sym f.long ∙ long)
          (λ v l h. (has-without (mask_of st') m v small l ∙ rw (f.bound v l h, unmasked v h), f.word v l h))

  -- words copied into a record leave its mask
  pub mask-copied : (ks : List ℕ) (m : ℕ) (st : List ℕ) → mask_of (copied variables m ks 0 st first) ≡ mask_of st
  mask-copied ks m st = same-words st (copied variables m ks 0 st first) (suc n) mask_at
      (λ i l h. copied-before ks 0 first variables 0 m st i (omega arith))

  -- the record st' after SCOPE's operand: what it bound of the mask m is unbound, and what was hidden of the record st is back
  abbrev pub shown : List ℕ → ℕ → List ℕ → List ℕ
  shown st m st' = put_back (kept_words st (bit_and (mask_of st) m)) (bit_and (mask_of st) m) (hidden st' m)

  -- SCOPE that hides
  module _ (st : List ℕ) (m : ℕ) (st' : List ℕ) (long : length st' ≡ record_long) (small : m < 2 ^ variables) where
    abbrev both : ℕ
    both = bit_and (mask_of st) m

    abbrev restored : List ℕ
    restored = copied variables both (kept_words st both) 0 (hidden st' m) first

    abbrev mask : ℕ
    mask = bit_or (mask_of (hidden st' m)) both

    length-restored : length restored ≡ record_long
    length-restored = length-copied (kept_words st both) 0 first variables 0 both (hidden st' m) ∙ length-hidden st' m long small

    restored-control : (j : ℕ) → j < first → get_or restored j 0 ≡ get_or (hidden st' m) j 0
    restored-control j l = copied-before (kept_words st both) 0 first variables 0 both (hidden st' m) j (omega arith)

    -- a word that was kept
    word_kept : (v : ℕ) → v < variables → has both v ≡ true → get_or (kept_words st both) (0 + v) 0 ≡ word_of st v
    word_kept v l h = copied-word st first 0 variables 0 both (replicate variables 0) v v (omega arith) l
        (omega (arith, length-replicate {A = ℕ} variables 0)) ∙ rw h

    word-restored : (v : ℕ) → v < variables → word_of restored v ≡ (if has (mask_of st) v && has m v then word_of st v else word_of st' v)
    word-restored v l =
        copied-word (kept_words st both) 0 first variables 0 both (hidden st' m) v v (omega arith) l
        (omega (arith, length-hidden st' m long small))
        ∙ go (has both v) refl
        ∙ ap (λ (c : Bool). if c then word_of st v else word_of st' v) (has-and (mask_of st) m v)
      where
        go : (c : Bool) → has both v ≡ c → (if c then get_or (kept_words st both) (0 + v) 0 else word_of (hidden st' m) v)
            ≡ (if c then word_of st v else word_of st' v)
        go true h = word_kept v l h
        go false h = word-masking st' (without (mask_of st') m) v

    has-shown : (v : ℕ) → v < variables → has mask v ≡ (has (mask_of st') v && not (has m v)) || (has (mask_of st) v && has m v)
    has-shown v l = has-or (mask_of (hidden st' m)) both v ∙ rw
        (mask-masking st' (without (mask_of st') m) long, has-without (mask_of st') m v small l, has-and (mask_of st) m v)

    pub length-shown : length (shown st m st') ≡ record_long
    length-shown = length-parted (suc n) mask_at mask restored ∙ length-restored

    pub mark-shown : mark_of (shown st m st') ≡ mark_of st'
    mark-shown = mark-masking restored mask ∙ restored-control mark_at (omega arith) ∙ mark-hidden st' m long small

    pub notes-shown : notes_of (shown st m st') ≡ notes_of st'
    notes-shown = notes-masking restored mask ∙ notes-same restored (hidden st' m) (λ j l h. restored-control j (omega arith))
        ∙ notes-hidden st' m long small

    pub held-shown : held (shown st m st') ≡ masked m (held st) (held st')
    unfolding masked
    held-shown =
        held-mask restored mask length-restored (masked m (held st) (held st'))
        (λ v l. rw (has-shown v l, word-restored v l, held_below st v l, held_below st' v l)
        (mixed (has m v) (has (mask_of st) v) (has (mask_of st') v) (word_of st v) (word_of st' v)))
        (λ v l. rw (held-above st v l, held-above st' v l) (alike (has m v) none))

    pub framed-shown : length st ≡ record_long → Framed (hidden st m) st' → Framed st (shown st m st')
    framed-shown was f = framed-mask restored mask length-restored st was
        (λ v l h. rw (has-shown v l, word-restored v l, h) (at v l h (has m v) refl))
      where
        still : (v : ℕ) → v < variables → has (mask_of st) v ≡ true → has m v ≡ false → has (mask_of (hidden st m)) v ≡ true
        still v l h n = ap (λ (x : ℕ). has x v) (mask-masking st (without (mask_of st) m) was) ∙ has-without (mask_of st) m v small l
            ∙ rw (h, n)

        at : (v : ℕ) → v < variables → has (mask_of st) v ≡ true → (a : Bool) → has m v ≡ a →
            ((has (mask_of st') v && not a) || a ≡ true) × ((if a then word_of st v else word_of st' v) ≡ word_of st v)
        at v l h true e = (or-true (has (mask_of st') v && false), refl)
        at v l h false e = (rw (f.bound v l (still v l h e)), f.word v l (still v l h e) ∙ word-masking st (without (mask_of st) m) v)
