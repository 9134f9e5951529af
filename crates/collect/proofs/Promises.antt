-- The promises of specs/Promises.antt, each under its name in small letters.
-- Assumes nothing.
use mathlib.Core.Path.{◌≡◌, refl, ap, sym, ◌∙◌, subst, fun_ext}
use mathlib.Core.Bool.{Bool, true, false}
use mathlib.Core.Logic.{◌↔◌, ◌⊎◌, ⊎_elim}
use mathlib.Core.Option.{some}
use mathlib.Core.List.{List, map}
use Prim.Native.Nat.{ℕ, zero, suc, ◌*◌, ◌/◌, ◌≤◌, ◌<◌}
use native.Mathlib.Omega.{arith}
use lib.Dec.{eqb}
use lib.ListN.{length, get_or, replicate, length-map, length-replicate, get_or-replicate, get_or-eq_default, get_or-map}
use borrow.Author.Tests.{eqb-true}
use Rattle.std.specs.Prelude.{if◌then◌else◌}
use Rattle.words.proofs.Tests.{below-or-from}
use Rattle.checks.specs.Good.{child}
use Rattle.checks.specs.Checked.{Checked}
use Rattle.checks.proofs.Promises.{store_passes}
use Rattle.meaning.specs.Rules.{apply}
use Rattle.meaning.specs.Store.{Input, AcceptedBy, term, named, bindings, term_of, meant}
use Rattle.meaning.proofs.Checked.{good-of-node}
use Rattle.meaning.proofs.Lower.{lower-mark}
use Rattle.collect.specs.Reachable.{Reachable, at-subject, at-binding}
use Rattle.collect.specs.Packed.{rank, rebound, store_after}
use Rattle.collect.specs.Refused.{Lent, refused_by, CollectableBy}
use Rattle.collect.specs.Collected.{Afterwards, lent, refusing, keeps, collecting, collected_of_by}
use Rattle.collect.specs.Promises as promises
use Rattle.collect.specs.Promises.{CollectsBy, number, Moves, lent_by, after}
use Rattle.collect.proofs.Reaching.{bound-word, kept-reachable}
use Rattle.collect.proofs.Packing.{rank-le, rank_less, rank-onto, after-zero, after-long, after_filled, after-term, after-constructor, after-count, after-child}
use Rattle.collect.proofs.Accepting.{OneOf, refused-listed, refused-place, sizes-refused, node-refused, start-refused, plain, collectable, collectable-back}
use Rattle.collect.proofs.Accepting.{store-passed, collected-whole, collected-refused, filled, keep, under, closed}

-- ---- refused, or collected

pub agreeing : promises.Agreeing
agreeing W i r r' e f = e ∙ sym f

-- Answer and place are the refusal's.
answer-refused : (W : ℕ) (i : Lent) → (collected_of_by W i).answer ≡ (refused_by W i).answer
unfolding collected_of_by collecting
answer-refused W i = go (eqb (refused_by W i).answer 0) refl
  where
    go : (t : Bool) → eqb (refused_by W i).answer 0 ≡ t → (if t then collecting i else refusing i (refused_by W i)).answer ≡ (refused_by W i).answer
    go true e = sym (eqb-true (refused_by W i).answer 0 e)
    go false e = refl

place-refused : (W : ℕ) (i : Lent) → (collected_of_by W i).place ≡ (refused_by W i).place
unfolding collected_of_by collecting
place-refused W i = go (eqb (refused_by W i).answer 0) refl
  where
    go : (t : Bool) → eqb (refused_by W i).answer 0 ≡ t → (if t then collecting i else refusing i (refused_by W i)).place ≡ (refused_by W i).place
    go true e = let z = eqb-true (refused_by W i).answer 0 e in sym (refused-place W i (λ x. omega (arith, z, x)))
    go false e = refl

module _ (W : ℕ) (i : Lent) (r : Afterwards) (e : CollectsBy W i r) where
  answer-of : r.answer ≡ (refused_by W i).answer
  answer-of = ap (λ (r : Afterwards). r.answer) e ∙ answer-refused W i

  place_of : r.place ≡ (refused_by W i).place
  place_of = ap (λ (r : Afterwards). r.place) e ∙ place-refused W i

  -- What is said of the refusal's answer is said of the answer that came back.
  said : {n : ℕ} {A : Type 0} → ((refused_by W i).answer ≡ n) ↔ A → (r.answer ≡ n) ↔ A
  said f = (λ z. f.0 (sym answer-of ∙ z), λ x. answer-of ∙ f.1 x)

pub listed : promises.Listed
listed W i r e = subst OneOf (sym (answer-of W i r e)) (refused-listed W i)

pub refuses-sizes : promises.RefusesSizes
refuses-sizes W i r e = said W i r e (sizes-refused W i)

pub refuses-node : promises.RefusesNode
refuses-node W i r p e =
    let f = node-refused W i p in (
      λ z. f.0 (sym (answer-of W i r e) ∙ z.0, sym (place_of W i r e) ∙ z.1),
      λ x. let w = f.1 x in (answer-of W i r e ∙ w.0, place_of W i r e ∙ w.1),
    )

pub refuses-start : promises.RefusesStart
refuses-start W i r e = said W i r e (start-refused W i)

pub no_place : promises.NoPlace
no_place W i r e n = place_of W i r e ∙ refused-place W i (λ z. n (answer-of W i r e ∙ z))

pub collects-rest : promises.CollectsRest
collects-rest W i r e = said W i r e (collectable W i, collectable-back W i)

pub collectable-plain : promises.CollectablePlain
collectable-plain = plain

pub writes_nothing : promises.WritesNothing
writes_nothing W i r e n =
    let q : r ≡ refusing i (refused_by W i) = e ∙ collected-refused W i (λ z. n (collectable W i z)) in
    record {
      subject = ap (λ (r : Afterwards). r.subject) q;
      mark = ap (λ (r : Afterwards). r.mark) q;
      store = ap (λ (r : Afterwards). r.store) q;
      bindings = ap (λ (r : Afterwards). r.bindings) q;
      work = ap (λ (r : Afterwards). r.work) q;
    }

-- ---- what is kept

pub keeps-reachable : promises.KeepsReachable
keeps-reachable W i a k = (
  kept-reachable i.store i.bindings i.mark i.subject k,
  keep i a,
)

module _ {W : ℕ} (i : Lent) (a : CollectableBy W i) where
  abbrev reaches : ℕ → Type 0
  reaches k = Reachable i.store i.bindings i.subject k

  bound-reaches : (v k : ℕ) → get_or i.bindings v 0 ≡ suc k → reaches k
  bound-reaches v k e = at-binding v k (bound-word i.bindings v k e)

  -- The store after the collection.
  abbrev now : List ℕ
  now = store_after (keeps i) i.store i.mark

  same-term : {k : ℕ} → reaches k → term now (number i k) ≡ term i.store k
  same-term {k} r = after-term (keeps i) i.store i.mark (filled i a) (closed i a) k (under i a r) (keep i a r)

  number-below : {k : ℕ} → reaches k → number i k < rank (keeps i) i.mark
  number-below {k} r = rank_less (keeps i) k i.mark (keep i a r) (under i a r)

  moved : (k : ℕ) → reaches k → Moves i (collecting i) k
  unfolding collecting
  moved k r = record {
    below = number-below r;
    constructor = after-constructor (keeps i) i.store i.mark (filled i a) (closed i a) k (under i a r) (keep i a r);
    count = after-count (keeps i) i.store i.mark (filled i a) (closed i a) k (under i a r) (keep i a r);
    child = after-child (keeps i) i.store i.mark (filled i a) (closed i a) k (under i a r) (keep i a r);
    same = same-term r;
  }

  no_other : (n : ℕ) → n < (collecting i).mark → (k : ℕ) × reaches k × (number i k ≡ n)
  unfolding collecting
  no_other n l =
      let w = rank-onto (keeps i) i.mark n l in
      (w.0, kept-reachable i.store i.bindings i.mark i.subject w.0 w.2, w.3)

  -- ---- bindings

  -- A word renumbered, by what it was.
  word_after : (v : ℕ) → get_or (map (rebound (number i)) i.bindings) v 0 ≡ rebound (number i) (get_or i.bindings v 0)
  unfolding rebound
  word_after v = get_or-map (rebound (number i)) i.bindings v 0

  named-after : (v n : ℕ) → get_or i.bindings v 0 ≡ n → term_of now (named (rebound (number i) n)) ≡ term_of i.store (named n)
  unfolding rebound named term_of
  named-after v zero e = refl
  named-after v (suc k) e = ap some (same-term (bound-reaches v k e))

  word_below : (v n : ℕ) → get_or i.bindings v 0 ≡ n → rebound (number i) n ≤ rank (keeps i) i.mark
  unfolding rebound
  word_below v zero e = omega arith
  word_below v (suc k) e = number-below (bound-reaches v k e)

  terms : (term (collecting i).store (collecting i).subject ≡ term i.store i.subject)
      × (meant (collecting i).store (bindings (collecting i).bindings) ≡ meant i.store (bindings i.bindings))
  unfolding collecting meant bindings
  terms = (
    same-term at-subject,
    fun_ext (λ v. ap (λ (n : ℕ). term_of now (named n)) (word_after v) ∙ named-after v (get_or i.bindings v 0) refl),
  )

  -- ---- what is left

  abbrev zeros : ℕ → List ℕ
  zeros n = replicate n 0

  length-zeros : (n : ℕ) → length (zeros n) ≡ n
  length-zeros n = length-replicate n 0

  zero-at : (n j : ℕ) → get_or (zeros n) j 0 ≡ 0
  zero-at n j =
      ⊎_elim (λ l. get_or-replicate n j 0 0 l) (λ l. get_or-eq_default (zeros n) 0 {n = j} (omega (arith, length-zeros n))) (below-or-from j n)

  cleared : (length (collecting i).store ≡ length i.store) × ((j : ℕ) → 8 * (collecting i).mark ≤ j → get_or (collecting i).store j 0 ≡ 0)
      × (length (collecting i).work ≡ length i.work) × ((j : ℕ) → get_or (collecting i).work j 0 ≡ 0)
  unfolding collecting
  cleared = (
    after-long (keeps i) i.store i.mark (filled i a) (closed i a),
    after-zero (keeps i) i.store i.mark (filled i a) (closed i a),
    length-zeros (length i.work),
    zero-at (length i.work),
  )

  again : CollectableBy W (lent (collecting i).store (collecting i).bindings (collecting i).work (collecting i).mark (collecting i).subject)
  unfolding collecting
  again =
      let f = after_filled (keeps i) i.store i.mark (filled i a) (closed i a) in
      let long = after-long (keeps i) i.store i.mark (filled i a) (closed i a) in
      let x = (store_passes i.store i.mark).0 (ap (λ (c : Checked). c.answer) a.store) in
      record {
        store =
            store-passed now (rank (keeps i) i.mark) (record { whole = rw long x.0.0.whole; most = rw long x.0.0.most }) f.fits
            (λ k h. good-of-node now k (f.node k h));
        bindings = length-map i.bindings (rebound (number i)) ∙ a.bindings;
        work = rw (long, length-zeros (length i.work)) a.work;
        subject = number-below at-subject;
        bound = λ v. rw (word_after v) (word_below v (get_or i.bindings v 0) refl);
      }

-- ---- of what came back

module _ {W : ℕ} (i : Lent) (r : Afterwards) (a : CollectableBy W i) (e : CollectsBy W i r) where
  is : r ≡ collecting i
  is = e ∙ collected-whole i a

pub loses-none : promises.LosesNone
loses-none W i r a e k q = subst (λ (r : Afterwards). Moves i r k) (sym (is i r a e)) (moved i a k q)

pub keeps-no-other : promises.KeepsNoOther
keeps-no-other W i r a e n l =
    no_other i a n (subst (λ (r : Afterwards). n < r.mark) (is i r a e) l)

pub keeps-order : promises.KeepsOrder
keeps-order W i a j k q l = rank_less (keeps i) j k (keep i a q) l

mark-least : (W : ℕ) (i : Lent) → (collected_of_by W i).mark ≤ i.mark
unfolding collected_of_by collecting
mark-least W i = go (eqb (refused_by W i).answer 0)
  where
    go : (t : Bool) → (if t then collecting i else refusing i (refused_by W i)).mark ≤ i.mark
    go true = rank-le (keeps i) i.mark
    go false = omega arith

pub mark-falls : promises.MarkFalls
mark-falls W i r e = subst (λ (r : Afterwards). r.mark ≤ i.mark) (sym e) (mark-least W i)

pub clears : promises.Clears
clears W i r a e =
    subst (λ (r : Afterwards).
    (length r.store ≡ length i.store) × ((j : ℕ) → 8 * r.mark ≤ j → get_or r.store j 0 ≡ 0)
    × (length r.work ≡ length i.work) × ((j : ℕ) → get_or r.work j 0 ≡ 0))
    (sym (is i r a e)) (cleared i a)

pub same-terms : promises.SameTerms
same-terms W i r a e =
    subst (λ (r : Afterwards).
    (term r.store r.subject ≡ term i.store i.subject)
    × (meant r.store (bindings r.bindings) ≡ meant i.store (bindings i.bindings)))
    (sym (is i r a e)) (terms i a)

pub collectable-again : promises.CollectableAgain
collectable-again W i r a e =
    subst (λ (r : Afterwards). CollectableBy W (lent r.store r.bindings r.work r.mark r.subject)) (sym (is i r a e)) (again i a)

-- ---- a run after the collection

runnable : (W : ℕ) (i : Input) (w : List ℕ) (r : Afterwards) → AcceptedBy W i → CollectableBy W (lent_by i w) → CollectsBy W (lent_by i w) r → AcceptedBy W (after i r)
runnable W i w r q a e =
    let x = collectable-again W (lent_by i w) r a e in
    record {
      table = q.table;
      store = x.store;
      bindings = x.bindings;
      inside = q.inside;
      strategy = q.strategy;
      subject = x.subject;
      bound = x.bound;
    }

pub runs-again : promises.RunsAgain
runs-again W N Λ n i w r q l e =
    let a : CollectableBy W (lent_by i w) = record { store = q.store; bindings = q.bindings; work = l; subject = q.subject; bound = q.bound } in
    let t = same-terms W (lent_by i w) r a e in
    let x = runnable W i w r q a e in (
      x,
      lower-mark W N Λ n i (after i r) q x refl refl (ap (λ (n : ℕ). n / 8) (clears W (lent_by i w) r a e).0) (mark-falls W (lent_by i w) r e)
          (λ z. apply i.start (t.0 z) (t.1 z)),
    )
