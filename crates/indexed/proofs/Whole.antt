-- A call with an index: what is refused and what is not; one lent slice as the store's words and the index; its beginning and its end.
-- Assumes nothing.
use mathlib.Core.Path.{◌≡◌, refl, ap, sym, ◌∙◌, subst}
use mathlib.Core.Bool.{Bool, true, false}
use mathlib.Core.Logic.{⊎_elim}
use mathlib.Core.Option.{Option, none, some}
use mathlib.Core.List.{List}
use Prim.Native.Nat.{ℕ, ◌+◌, ◌-◌, ◌*◌, ◌/◌, ◌≤◌, ◌<◌, min}
use native.Mathlib.Omega.{arith}
use lib.Dec.{leb}
use lib.ListN.{length, get_or, take, drop, replicate, drop_of_length-le, length-take, length-drop, length-replicate, get_or-replicate}
use lib.Seq.{ext_get_or, get_or-take, get_or-drop, take_all, length-take-le}
use borrow.Author.Tests.{eq-eqb, ne_eqb, leb-true, le-leb, lt-leb}
use Rattle.words.specs.Words.{rows, cleared_from}
use Rattle.std.specs.Prelude.{if◌then◌else◌, Err}
use Rattle.words.proofs.Tests.{below-or-from}
use Rattle.words.proofs.Rows.{length-cleared_from, get_or-cleared_from-below, get_or-cleared_from-from}
use Rattle.checks.proofs.Numbers.{answer_ne0}
use Rattle.checks.specs.Kinds.{ours}
use Rattle.checks.specs.Checked.{Checked}
use Rattle.checks.specs.declared.refusal.Refusal.{Refusal}
use Rattle.checks.specs.Numbers.{answer_of as refusal_number, checked_of}
use Rattle.checks.specs.Checked.{checked, found}
use Rattle.checks.proofs.Promises.{store_passes}
use Rattle.meaning.specs.Derivation.{places, nowhere}
use Rattle.meaning.specs.Store.{Input, Accepted}
use Rattle.meaning.specs.Answer.{returned}
use Rattle.meaning.specs.Shared.{twin, shared_ran_by}
use Rattle.index.specs.Lent.{Held, built}
use Rattle.index.specs.Run.{FitsRoom}
use Rattle.index.proofs.Lending.{held-cleared}
use Rattle.index.proofs.Running.{begun, first-begun, held-begun, length-begun}
use Rattle.calls.specs.Refused.{or_else, words_refused, start_fits, refused_with_by, refused_with}
use Rattle.calls.specs.Run.{input, refusing}
use Rattle.calls.specs.Indexed.{index_fits, indexed_words_refused_by, indexed_refused_by, indexed_refused, indexed_of_by, indexed_of}
use Rattle.calls.proofs.Accepting.{accepted-with, zero-else, words-passed}

-- ---- the words' refusal, by what is found

module _ (g : Option (List ℕ)) (t s b : List ℕ) (mark : ℕ) (x : List ℕ) where
  abbrev words-refused : Checked
  words-refused = indexed_words_refused_by ours g t s b mark x

  pub short-refused : length x / 2 < length s / 8 → checked 2 0 ≡ words-refused
  unfolding indexed_words_refused_by index_fits
  short-refused h = let z : length x < 2 * rows s = omega arith in rw (lt-leb (2 * rows s) (length x) z)

  module _ (h : length s / 8 ≤ length x / 2) where
    long : index_fits s x ≡ true
    unfolding index_fits
    long = le-leb (2 * rows s) (length x) (omega arith)

    pub words-refused-as : (e : Refusal) → checked_of (Err e) ≡ words_refused g t s b mark → checked_of (Err e) ≡ words-refused
    unfolding indexed_words_refused_by
    words-refused-as e is = rw (long, ← is, ne_eqb (refusal_number e) 0 (answer_ne0 e))

    pub twin-refused : checked 0 0 ≡ words_refused g t s b mark → (o : Option ℕ) → o ≡ twin s mark → found 21 o ≡ words-refused
    unfolding indexed_words_refused_by
    twin-refused is o e = rw (long, ← is, e)

-- where the words pass, the mark is within a store's nodes
pub mark-few : (g : Option (List ℕ)) (t s b : List ℕ) (mark : ℕ) → checked 0 0 ≡ words_refused g t s b mark → mark ≤ 131072
mark-few g t s b mark e =
    let i = input t s b mark 0 0 0 in
    let p = (words-passed ours g i (sym (ap (λ (c : Checked). c.answer) e))).0.0 in
    omega (arith, p.store.most, p.mark)

-- ---- what is not refused

module _ (g : Option (List ℕ)) (i : Input) (x : List ℕ) where
  found_none : (o : Option ℕ) → (found 21 o).answer ≡ 0 → o ≡ none
  found_none none e = refl
  found_none (some k) e = absurd (omega arith)

  words-pass : (indexed_words_refused_by ours g i.table i.store i.bindings i.mark x).answer ≡ 0
      → (2 * rows i.store ≤ length x) × ((words_refused g i.table i.store i.bindings i.mark).answer ≡ 0) × (twin i.store i.mark ≡ none)
  unfolding indexed_words_refused_by index_fits
  words-pass e = go (leb (2 * rows i.store) (length x)) refl e
    where
      go : (f : Bool) → leb (2 * rows i.store) (length x) ≡ f
          → (if f then or_else (words_refused g i.table i.store i.bindings i.mark) (found 21 (twin i.store i.mark)) else
          checked 2 0).answer ≡ 0
          → (2 * rows i.store ≤ length x) × ((words_refused g i.table i.store i.bindings i.mark).answer ≡ 0) × (twin i.store i.mark ≡ none)
      go true f e = let y = zero-else ours (words_refused g i.table i.store i.bindings i.mark) _ e in (leb-true _ _ f, y.0, found_none (twin i.store i.mark) y.1)
      go false f e = absurd (omega arith)

  module _ (r : Checked) (is : r ≡ indexed_refused g i x) where
    pub indexed-refused : (r.answer ≡ 0 → ⊥) → record { run = refusing i r; index = x } ≡ indexed_of g i x
    unfolding indexed_of_by
    indexed-refused n = rw is (sym (rw (ne_eqb (indexed_refused g i x).answer 0 (λ z. n (ap (λ (c : Checked). c.answer) is ∙ z)))))

    module _ (z : r.answer ≡ 0) where
      zero_is : (indexed_refused g i x).answer ≡ 0
      zero_is = sym (ap (λ (c : Checked). c.answer) is) ∙ z

      pub indexed-ran : record { run = returned i (shared_ran_by ours places nowhere i); index = replicate (length x) 0 } ≡ indexed_of g i x
      unfolding indexed_of_by
      indexed-ran = sym (rw (eq-eqb (indexed_refused g i x).answer 0 zero_is))

      both : ((indexed_words_refused_by ours g i.table i.store i.bindings i.mark x).answer ≡ 0)
          × ((if start_fits i.table i.bindings i.mark i.start i.subject then checked 0 0 else checked 5 0).answer ≡ 0)
      unfolding indexed_refused_by
      both = zero-else ours (indexed_words_refused_by ours g i.table i.store i.bindings i.mark x) _ zero_is

      pub index-long : 2 * rows i.store ≤ length x
      index-long = (words-pass both.0).0

      pub no-twin : twin i.store i.mark ≡ none
      no-twin = (words-pass both.0).2

      pub accepted : Accepted i
      unfolding refused_with_by
      accepted =
          (accepted-with ours g i (eq-eqb (refused_with g i.table i.store i.bindings i.mark i.start i.subject).answer 0
          (rw (eq-eqb (words_refused g i.table i.store i.bindings i.mark).answer 0 (words-pass both.0).1) both.1))).1

-- ---- one slice

-- as many of the words as there are
pub take_min : (k : ℕ) (w : List ℕ) → take (min k (length w)) w ≡ take k w
take_min k w = ⊎_elim within past (below-or-from k (length w))
  where
    within : k < length w → take (min k (length w)) w ≡ take k w
    within h = let e : min k (length w) ≡ k = omega arith in ap (λ j. take j w) e

    past : length w ≤ k → take (min k (length w)) w ≡ take k w
    past h = let e : min k (length w) ≡ length w = omega arith in ap (λ j. take j w) e ∙ take_all (length w) w (omega arith) ∙ sym (take_all k w h)

pub drop_min : (k : ℕ) (w : List ℕ) → drop (min k (length w)) w ≡ drop k w
drop_min k w = ⊎_elim within past (below-or-from k (length w))
  where
    within : k < length w → drop (min k (length w)) w ≡ drop k w
    within h = let e : min k (length w) ≡ k = omega arith in ap (λ j. drop j w) e

    past : length w ≤ k → drop (min k (length w)) w ≡ drop k w
    past h = let e : min k (length w) ≡ length w = omega arith in ap (λ j. drop j w) e ∙ drop_of_length-le w {i = length w} (omega arith) ∙ sym (drop_of_length-le w {i = k} h)

pub drop-size : (k own : ℕ) (w : List ℕ) → own ≡ min k (length w) → length (drop k w) ≡ length w - own
drop-size k own w e = ap length (sym (drop_min k w)) ∙ length-drop (min k (length w)) w ∙ ap (λ j. length w - j) (sym e)

-- the refusal of the store's words, which are the first k of w
pub refused-is : (g : Option (List ℕ)) (t w b : List ℕ) (mark start subject units k own : ℕ) (r : Checked) → own ≡ min k (length w)
    → r ≡ indexed_refused g (input t (take own w) b mark start subject units) (drop k w) → r ≡ indexed_refused g (input t (take k w) b mark start subject units) (drop k w)
refused-is g t w b mark start subject units k own r e h = h ∙ ap (λ s. indexed_refused g (input t s b mark start subject units) (drop k w)) (ap (λ j. take j w) e ∙ take_min k w)

-- words cleared from within their first m on
module _ (w : List ℕ) (k m : ℕ) (h : k ≤ m) (l : m ≤ length w) where
  pub take-cleared : take m (cleared_from w k) ≡ cleared_from (take m w) k
  take-cleared = ext_get_or 0 (take m (cleared_from w k)) (cleared_from (take m w) k) (long ∙ sym long') (λ j b. at j (omega (arith, long)))
    where
      long : length (take m (cleared_from w k)) ≡ m
      long = length-take-le m (cleared_from w k) (omega (arith, length-cleared_from w k))

      long' : length (cleared_from (take m w) k) ≡ m
      long' = length-cleared_from (take m w) k ∙ length-take-le m w l

      at : (j : ℕ) → j < m → get_or (take m (cleared_from w k)) j 0 ≡ get_or (cleared_from (take m w) k) j 0
      at j b =
          get_or-take m (cleared_from w k) j 0 b
          ∙ ⊎_elim (λ y. get_or-cleared_from-below w k j y ∙ sym (get_or-cleared_from-below (take m w) k j y ∙ get_or-take m w j 0 b))
          (λ y. get_or-cleared_from-from w k j y ∙ sym (get_or-cleared_from-from (take m w) k j y)) (below-or-from j k)

  pub drop-cleared : drop m (cleared_from w k) ≡ replicate (length w - m) 0
  drop-cleared = ext_get_or 0 (drop m (cleared_from w k)) (replicate (length w - m) 0) (long ∙ sym (length-replicate (length w - m) 0)) (λ j b. at j (omega (arith, long)))
    where
      long : length (drop m (cleared_from w k)) ≡ length w - m
      long = length-drop m (cleared_from w k) ∙ ap (λ n. n - m) (length-cleared_from w k)

      at : (j : ℕ) → j < length w - m → get_or (drop m (cleared_from w k)) j 0 ≡ get_or (replicate (length w - m) 0) j 0
      at j b = get_or-drop m (cleared_from w k) j 0 ∙ get_or-cleared_from-from w k (m + j) (omega arith) ∙ sym (get_or-replicate (length w - m) j 0 0 b)

-- ---- the beginning and the end

-- of the lent words w the first k are the store's, own in number, for n nodes; the others are enough for an index
pub record Split (i : Input) (w : List ℕ) (k own n : ℕ) : Type 0 where
  pub accepted : Accepted i
  pub store : i.store ≡ take k w
  pub cut : own ≡ min k (length w)
  pub nodes : n ≡ own / 8
  pub long : 2 * rows i.store ≤ length (drop k w)

module _ {i : Input} {w : List ℕ} {k own n : ℕ} (S : Split i w k own n) where
  own-long : length i.store ≡ own
  own-long = ap length S.store ∙ length-take k w ∙ sym S.cut

  own-eights : own ≡ 8 * n
  own-eights = omega (arith, ((store_passes i.store i.mark).0 (ap (λ (c : Checked). c.answer) S.accepted.store)).0.0.whole, own-long)

  nodes-are : rows i.store ≡ n
  nodes-are = ap (λ (m : ℕ). m / 8) own-long ∙ sym S.nodes

  pub nodes-few : n ≤ 131072
  nodes-few = omega (arith, ((store_passes i.store i.mark).0 (ap (λ (c : Checked). c.answer) S.accepted.store)).0.0.most, nodes-are)

  pub mark-inside : i.mark ≤ n
  mark-inside = omega (arith, ((store_passes i.store i.mark).0 (ap (λ (c : Checked). c.answer) S.accepted.store)).0.1, nodes-are)

  some-nodes : 0 < n
  some-nodes = omega (arith, S.accepted.subject, mark-inside)

  room_for : 8 * n + n + n ≤ length w
  room_for = omega (arith, S.long, nodes-are, length-drop k w, own-eights)

  pub held-empty : Held (cleared_from w own) n 0
  held-empty = rw own-eights (held-cleared n w some-nodes room_for)

  -- the words with the index built
  module _ (w₂ : List ℕ) (b : w₂ ≡ built n 0 i.mark (cleared_from w own)) where
    is-begun : w₂ ≡ begun n w i.mark
    is-begun = b ∙ ap (λ m. built n 0 i.mark (cleared_from w m)) own-eights

    pub fits-begun : FitsRoom 0 w₂ i.mark i.mark n
    fits-begun = (subst (λ v. Held v n i.mark) (sym is-begun) (held-begun n w i.mark some-nodes room_for mark-inside), omega arith, nodes-few)

    pub own-begun : take (8 * n) w₂ ≡ i.store
    own-begun = ap (take (8 * n)) is-begun ∙ first-begun n w i.mark ∙ ap (λ m. take m w) (sym own-eights ∙ S.cut) ∙ take_min k w ∙ sym S.store

    pub length-same : length w₂ ≡ length w
    length-same = ap length is-begun ∙ length-begun n w i.mark

    -- of them the first k are the store's still, and the others are as many
    pub store-begun : take k w₂ ≡ i.store
    store-begun = sym (take_min k w₂) ∙ ap (λ j. take j w₂) (ap (min k) length-same ∙ sym S.cut ∙ own-eights) ∙ own-begun

    pub index-begun : length (drop k w) ≡ length (drop k w₂)
    index-begun = length-drop k w ∙ ap (λ n. n - k) (sym length-same) ∙ sym (length-drop k w₂)

    -- the words w₃ at the run's end, cleared from the mark m on
    module _ (w₃ : List ℕ) (m t : ℕ) (same : length w₃ ≡ length w₂) (fits : FitsRoom 0 w₃ m t n) where
      below : 8 * m ≤ own
      below = omega (arith, fits.1, fits.0.fits, own-eights)

      within : own ≤ length w₃
      within = omega (arith, same, length-same, room_for, own-eights)

      length-end : length (cleared_from w₃ (8 * m)) ≡ length w
      length-end = length-cleared_from w₃ (8 * m) ∙ same ∙ length-same

      at_own : own ≡ min k (length (cleared_from w₃ (8 * m)))
      at_own = S.cut ∙ ap (min k) (sym length-end)

      pub store-end : take k (cleared_from w₃ (8 * m)) ≡ cleared_from (take (8 * n) w₃) (8 * m)
      store-end =
          sym (take_min k (cleared_from w₃ (8 * m))) ∙ ap (λ j. take j (cleared_from w₃ (8 * m))) (sym at_own)
          ∙ take-cleared w₃ (8 * m) own below within ∙ ap (λ j. cleared_from (take j w₃) (8 * m)) own-eights

      pub index-end : drop k (cleared_from w₃ (8 * m)) ≡ replicate (length (drop k w)) 0
      index-end =
          sym (drop_min k (cleared_from w₃ (8 * m))) ∙ ap (λ j. drop j (cleared_from w₃ (8 * m))) (sym at_own) ∙ drop-cleared w₃ (8 * m) own below within
          ∙ ap (λ j. replicate j 0) (ap (λ l. l - own) (same ∙ length-same) ∙ ap (λ j. length w - j) S.cut ∙ sym (length-drop (min k (length w)) w) ∙ ap length (drop_min k w))
