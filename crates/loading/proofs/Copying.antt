-- The three copies of a run, turn by turn: the table's words, the bindings into the record, the bindings back out of it.
-- Assumes nothing.
use mathlib.Core.Path.{◌≡◌, refl, ap, sym, ◌∙◌, subst, fun_ext}
use mathlib.Core.Bool.{true≢false}
use mathlib.Core.Option.{none, some}
use mathlib.Core.Logic.{◌⊎◌, inl, inr, ⊎_elim}
use mathlib.Core.List.{List}
use Prim.Native.Nat.{ℕ, zero, suc, ◌+◌, ◌-◌, ◌*◌, ◌≤◌, ◌<◌}
use native.Mathlib.Omega.{arith}
use lib.ListN.{length, get_or, set, replicate, length-set, length-replicate, get_or-replicate, get_or-eq_default}
use lib.Seq.{get_or-set_same, get_or-set_other, ext_get_or}
use borrow.Author.Tests.{eq-eqb, ne_eqb}
use Rattle.checks.specs.Kinds.{variables}
use Rattle.checks.specs.Good.{number}
use Rattle.words.specs.Words.{word_at}
use Rattle.words.proofs.Tests.{below-or-from}
use Rattle.meaning.specs.Bindings.{Bindings, bind}
use Rattle.meaning.specs.Store.{named, bindings}
use Rattle.meaning.specs.Answer.{binding_word, binding_words}
use Rattle.meaning.specs.Limits.{at}
use Rattle.index.specs.Run.{lending}
use Rattle.state.specs.Noted.{Standing}
use Rattle.state.specs.Record.{mark_at, record_long, mask_of, word_of, bit_of, held, bound, room_at, top_at, nodes_at, standing}
use Rattle.meaning.proofs.Bits.{bit-has, has-nothing}
use Rattle.state.proofs.Holding.{further, held-some, held_none, held-bound, length-bound, mark-bound, notes-bound}
use Rattle.calls.proofs.Words.{with-next, length-words, word-of}
use Rattle.loading.specs.Loaded.{Hints, given, Loaded, Opened}

-- A word of a list of zeros is zero.
zeros : (n j : ℕ) → ◌≡◌ {A = ℕ} (get_or (replicate n 0) j 0) 0
zeros n j =
    ⊎_elim (λ l. get_or-replicate n j 0 0 l) (λ l. get_or-eq_default (replicate n 0) 0 (rw length-replicate l)) (below-or-from j n)

-- ---- the table

-- the first i words of t are in the n words c, and zeros after them
pub record Copied (t : List ℕ) (n : ℕ) (c : List ℕ) (i : ℕ) : Type 0 where
  pub long : length c ≡ n
  pub before : (j : ℕ) → j < i → get_or c j 0 ≡ get_or t j 0
  pub after : (j : ℕ) → i ≤ j → get_or c j 0 ≡ 0

-- At first all are zeros.
pub copied_none : (t : List ℕ) (n : ℕ) → Copied t n (replicate n 0) 0
copied_none t n = record { long = length-replicate n 0; before = λ j l. absurd (omega arith); after = λ j l. zeros n j }

-- One more word.
pub copied_more : (t : List ℕ) (n : ℕ) (c : List ℕ) (i : ℕ) → Copied t n c i → i < n → Copied t n (set c i (get_or t i 0)) (i + 1)
copied_more t n c i p l = record {
  long = length-set c i (get_or t i 0) ∙ p.long;
  before =
      with-next (λ j. get_or (set c i (get_or t i 0)) j 0 ≡ get_or t j 0) i
      (λ j m. get_or-set_other c i j (get_or t i 0) 0 (λ e. omega arith) ∙ p.before j m)
      (get_or-set_same c i (get_or t i 0) 0 (omega (arith, p.long)));
  after = λ j m. get_or-set_other c i j (get_or t i 0) 0 (λ e. omega arith) ∙ p.after j (omega arith);
}

-- Past the table's last word its words are zero too.
pub copied_all : (t c : List ℕ) (i : ℕ) → Copied t 32768 c i → length t ≤ i → Loaded t c
copied_all t c i p l = record {
  long = p.long;
  same = λ e j m n. all (8 * e + j);
  hints = λ e. given (all (8 * e + 4)) (all (8 * e + 5));
}
  where
    all : (j : ℕ) → get_or c j 0 ≡ get_or t j 0
    all j = ⊎_elim (p.before j) (λ z. p.after j z ∙ sym (get_or-eq_default t 0 (omega arith))) (below-or-from j i)

-- What is known of entry e, written into its words 4 and 5.
module _ (t c : List ℕ) (e x n : ℕ) (l : Loaded t c) (m : 8 * e < 32768) where
  abbrev noting : List ℕ
  noting = set (set c (8 * e + 4) x) (8 * e + 5) n

  other : (i : ℕ) → (i ≡ 8 * e + 4 → ⊥) → (i ≡ 8 * e + 5 → ⊥) → get_or noting i 0 ≡ get_or c i 0
  other i p q = get_or-set_other (set c (8 * e + 4) x) (8 * e + 5) i n 0 q ∙ get_or-set_other c (8 * e + 4) i x 0 p

  four : word_at noting e 4 ≡ x
  four =
      get_or-set_other (set c (8 * e + 4) x) (8 * e + 5) (8 * e + 4) n 0 (λ z. omega arith)
      ∙ get_or-set_same c (8 * e + 4) x 0 (omega (arith, l.long))

  five : word_at noting e 5 ≡ n
  five = get_or-set_same (set c (8 * e + 4) x) (8 * e + 5) n 0 (omega (arith, l.long, length-set c (8 * e + 4) x))

  pub loaded-hints : Hints t e x n → Loaded t noting
  loaded-hints h = record {
    long = length-set (set c (8 * e + 4) x) (8 * e + 5) n ∙ length-set c (8 * e + 4) x ∙ l.long;
    same = λ d j k b. keeps d j k b ∙ l.same d j k b;
    hints = λ d. ⊎_elim (λ z. elsewhere d (λ y. omega arith)) (λ z. from d z) (below-or-from d e);
  }
    where
      keeps : (d j : ℕ) → j < 8 → (j < 4) ⊎ (5 < j) → word_at noting d j ≡ word_at c d j
      keeps d j k (inl z) = other (8 * d + j) (λ y. omega arith) (λ y. omega arith)
      keeps d j k (inr z) = other (8 * d + j) (λ y. omega arith) (λ y. omega arith)

      here : Hints t e (word_at noting e 4) (word_at noting e 5)
      here = rw (four, five) h

      elsewhere : (d : ℕ) → (d ≡ e → ⊥) → Hints t d (word_at noting d 4) (word_at noting d 5)
      elsewhere d z =
          let p : word_at noting d 4 ≡ word_at c d 4 = other (8 * d + 4) (λ y. z (omega arith)) (λ y. omega arith) in
          let q : word_at noting d 5 ≡ word_at c d 5 = other (8 * d + 5) (λ y. omega arith) (λ y. z (omega arith)) in
          rw (p, q) (l.hints d)

      from : (d : ℕ) → e ≤ d → Hints t d (word_at noting d 4) (word_at noting d 5)
      from d z =
          ⊎_elim (λ y. elsewhere d (λ x. omega arith))
          (λ y. let q : e ≡ d = omega arith in subst (λ (d : ℕ). Hints t d (word_at noting d 4) (word_at noting d 5)) q here)
          (below-or-from e d)

-- ---- the bindings, in

-- the record st holds the bindings of the first i words of b, and stands as n
pub record Filled (b : List ℕ) (n : Standing) (st : List ℕ) (i : ℕ) : Type 0 where
  pub long : length st ≡ record_long
  pub stands : standing st ≡ n
  pub before : (v : ℕ) → v < i → held st v ≡ bindings b v
  pub after : (v : ℕ) → i ≤ v → held st v ≡ none

-- A record whose mask is zero holds nothing.
held-nothing : (st : List ℕ) → mask_of st ≡ 0 → (v : ℕ) → held st v ≡ none
held-nothing st e v =
    held_none further st v (λ z. true≢false (sym (bit-has 0 v (subst (λ (m : ℕ). bit_of m v ≡ 1) e z)) ∙ has-nothing v))

-- At first none is held.
pub filled_none : (b : List ℕ) (m room top nodes : ℕ) → Filled b (at m (lending 0 room top nodes)) (set (set (set (set (replicate record_long 0) mark_at m) room_at room) top_at top) nodes_at nodes) 0
unfolding number
filled_none b m room top nodes = record {
  long = refl;
  stands = refl;
  before = λ v l. absurd (omega arith);
  after = λ v l. held-nothing (set (set (set (set (replicate record_long 0) mark_at m) room_at room) top_at top) nodes_at nodes) refl v;
}

module _ (b : List ℕ) (m : Standing) (st : List ℕ) (i : ℕ) (p : Filled b m st i) where
  -- Word i is zero: its variable is unbound.
  pub filled-skip : get_or b i 0 ≡ 0 → Filled b m st (i + 1)
  unfolding bindings named
  filled-skip e = record {
    long = p.long;
    stands = p.stands;
    before = with-next (λ v. held st v ≡ bindings b v) i p.before (p.after i (omega arith) ∙ rw e);
    after = λ v l. p.after v (omega arith);
  }

  -- Word i is not: its variable is bound to the node one below it.
  pub filled-bind : (w : ℕ) → w ≡ get_or b i 0 → (w ≡ 0 → ⊥) → i < variables → Filled b m (bound st i (w - 1)) (i + 1)
  unfolding bind bindings named
  filled-bind w e n l = record {
    long = length-bound further st i (w - 1) l ∙ p.long;
    stands = (λ z. at (mark-bound further st i (w - 1) l z) (notes-bound further st i (w - 1) l z)) ∙ p.stands;
    before =
        with-next (λ v. held (bound st i (w - 1)) v ≡ bindings b v) i
        (λ v k. other v (λ z. omega arith) ∙ p.before v k)
        (now i ∙ rw (eq-eqb i i refl) (name w e n));
    after = λ v k. other v (λ z. omega arith) ∙ p.after v (omega arith);
  }
    where
      now : (v : ℕ) → held (bound st i (w - 1)) v ≡ bind i (w - 1) (held st) v
      now v = ap (λ (h : Bindings ℕ). h v) (held-bound further st i (w - 1) l p.long)

      other : (v : ℕ) → (v ≡ i → ⊥) → held (bound st i (w - 1)) v ≡ held st v
      other v z = now v ∙ rw (ne_eqb v i z)

      name : (w : ℕ) → w ≡ get_or b i 0 → (w ≡ 0 → ⊥) → some (w - 1) ≡ bindings b i
      name zero e n = absurd (n refl)
      name (suc k) e n = rw (← e) (ap some (omega arith))

-- Past the last variable there are no words.
pub filled-all : (b : List ℕ) (m room top nodes : ℕ) (st : List ℕ) (i : ℕ) → Filled b (at m (lending 0 room top nodes)) st i → length b ≡ variables → variables ≤ i → Opened b m room top nodes st
unfolding bindings named
filled-all b m room top nodes st i p e l = record {
  long = p.long;
  stands = p.stands;
  holds =
      fun_ext
      (λ v. ⊎_elim (p.before v) (λ z. p.after v z ∙ rw (get_or-eq_default b 0 {n = v} (omega arith))) (below-or-from v i));
}

-- ---- the bindings, out

-- the first i words of w are those of the bindings b
pub record Written (b : Bindings ℕ) (w : List ℕ) (i : ℕ) : Type 0 where
  pub long : length w ≡ variables
  pub before : (v : ℕ) → v < i → get_or w v 0 ≡ binding_word (b v)

-- At first none is.
pub written_none : (b : Bindings ℕ) (w : List ℕ) → length w ≡ variables → Written b w 0
written_none b w e = record { long = e; before = λ v l. absurd (omega arith) }

-- One more word.
pub written-more : (b : Bindings ℕ) (w : List ℕ) (i x : ℕ) → Written b w i → i < variables → x ≡ binding_word (b i) → Written b (set w i x) (i + 1)
written-more b w i x p l e = record {
  long = length-set w i x ∙ p.long;
  before =
      with-next (λ v. get_or (set w i x) v 0 ≡ binding_word (b v)) i
      (λ v k. get_or-set_other w i v x 0 (λ z. omega arith) ∙ p.before v k)
      (get_or-set_same w i x 0 (omega (arith, p.long)) ∙ e);
}

-- All are the bindings' words.
pub written_all : (b : Bindings ℕ) (w : List ℕ) (i : ℕ) → Written b w i → variables ≤ i → w ≡ binding_words variables b
written_all b w i p l =
    ext_get_or 0 w (binding_words variables b) (p.long ∙ sym (length-words variables b))
    (λ v k. p.before v (omega (arith, p.long)) ∙ sym (word-of variables b v (omega (arith, p.long))))

-- The word of a variable in the mask, and of one that is not.
pub word_some : (st : List ℕ) (v : ℕ) → v < variables → bit_of (mask_of st) v ≡ 1 → word_of st v + 1 ≡ binding_word (held st v)
unfolding binding_word
word_some st v l e = rw (held-some further st v l e) (omega arith)

pub word_none : (st : List ℕ) (v : ℕ) → (bit_of (mask_of st) v ≡ 1 → ⊥) → 0 ≡ binding_word (held st v)
unfolding binding_word
word_none st v n = rw (held_none further st v n)
