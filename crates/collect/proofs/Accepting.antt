-- Which refusal is given, both ways: the tests stand in order, and the first that is not passed decides. Then what is known of what
-- is collectable.
-- Assumes nothing.
use mathlib.Core.Path.{◌≡◌, refl, ap, sym, ◌∙◌, subst}
use mathlib.Core.Bool.{Bool, true, false, true≢false}
use mathlib.Core.Logic.{◌↔◌, ◌⊎◌, inl, inr, ⊎_elim}
use mathlib.Core.List.{List}
use mathlib.Core.Option.{Option, none, some}
use Prim.Native.Nat.{ℕ, ◌*◌, ◌≤◌, ◌<◌}
use native.Mathlib.Omega.{arith}
use lib.Dec.{leb, ltb, eqb}
use lib.ListN.{length, get_or, get_or-eq_default}
use borrow.Author.Tests.{leb-true, ltb-true, eqb-true, le-leb, lt-ltb, eq-eqb, ne_eqb}
use Rattle.std.specs.Prelude.{if◌then◌else◌}
use Rattle.words.specs.Tests.{rejected}
use Rattle.words.specs.Words.{rows}
use Rattle.words.proofs.Tests.{below-or-from, and-true, every_true}
use Rattle.checks.specs.Kinds.{variables_by}
use Rattle.checks.specs.Good.{child_count, child, good_node}
use Rattle.checks.specs.Checked.{checked, found, store_length_fits, store_checked, bound_below}
use Rattle.checks.specs.Checked.{Checked}
use Rattle.checks.specs.Plain.{StoreLength}
use Rattle.checks.proofs.Good.{not-fact, store_length_fits-plain}
use Rattle.checks.specs.Promises.{AllGood, Lowest}
use Rattle.checks.proofs.Promises.{store_passes, store_rejects}
use Rattle.meaning.proofs.Checked.{Filled, store-filled}
use Rattle.collect.specs.Reachable.{Reachable}
use Rattle.collect.specs.Refused.{Lent, sizes_fit_by, start_fits, refused_by, CollectableBy}
use Rattle.collect.specs.Collected.{refusing, keeps, collecting, collected_of_by}
use Rattle.collect.specs.Promises.{SizesFitBy, NodesGood, StartFits}
use Rattle.collect.proofs.Reaching.{reachable-below, kept-child, reachable-kept}

-- ---- the tests in order

-- The first test that fails decides: the sizes, the search for a bad node, the start.
verdict : Bool → Option ℕ → Bool → Checked
verdict false o f = checked 2 0
verdict true (some p) f = checked 4 p
verdict true none true = checked 0 0
verdict true none false = checked 5 0

-- What each answer says.
verdict-2 : (z : Bool) (o : Option ℕ) (f : Bool) → ((verdict z o f).answer ≡ 2) ↔ (z ≡ false)
unfolding verdict
verdict-2 false o f = (λ e. refl, λ e. refl)
verdict-2 true (some p) f = (λ e. absurd (omega arith), λ e. absurd (true≢false e))
verdict-2 true none true = (λ e. absurd (omega arith), λ e. absurd (true≢false e))
verdict-2 true none false = (λ e. absurd (omega arith), λ e. absurd (true≢false e))

verdict-4 : (z : Bool) (o : Option ℕ) (f : Bool) (p : ℕ) → (((verdict z o f).answer ≡ 4) × ((verdict z o f).place ≡ p)) ↔ ((z ≡ true) × (o ≡ some p))
unfolding verdict
verdict-4 false o f p = (λ e. absurd (omega (arith, e.0)), λ e. absurd (true≢false (sym e.0)))
verdict-4 true (some q) f p = (λ e. (refl, ap some e.1), λ e. (refl, let z : q ≡ p = cc e.1 in z))
verdict-4 true none true p = (λ e. absurd (omega (arith, e.0)), λ e. let z : ◌≡◌ {A = ℕ} 0 1 = cc e.1 in absurd (omega arith))
verdict-4 true none false p = (λ e. absurd (omega (arith, e.0)), λ e. let z : ◌≡◌ {A = ℕ} 0 1 = cc e.1 in absurd (omega arith))

verdict-5 : (z : Bool) (o : Option ℕ) (f : Bool) → ((verdict z o f).answer ≡ 5) ↔ ((z ≡ true) × (o ≡ none) × (f ≡ false))
unfolding verdict
verdict-5 false o f = (λ e. absurd (omega arith), λ e. absurd (true≢false (sym e.0)))
verdict-5 true (some q) f = (λ e. absurd (omega arith), λ e. let z : ◌≡◌ {A = ℕ} 0 1 = cc e.1 in absurd (omega arith))
verdict-5 true none true = (λ e. absurd (omega arith), λ e. absurd (true≢false e.2))
verdict-5 true none false = (λ e. (refl, refl, refl), λ e. refl)

verdict-0 : (z : Bool) (o : Option ℕ) (f : Bool) → ((verdict z o f).answer ≡ 0) ↔ ((z ≡ true) × (o ≡ none) × (f ≡ true))
unfolding verdict
verdict-0 false o f = (λ e. absurd (omega arith), λ e. absurd (true≢false (sym e.0)))
verdict-0 true (some q) f = (λ e. absurd (omega arith), λ e. let z : ◌≡◌ {A = ℕ} 0 1 = cc e.1 in absurd (omega arith))
verdict-0 true none true = (λ e. (refl, refl, refl), λ e. refl)
verdict-0 true none false = (λ e. absurd (omega arith), λ e. absurd (true≢false (sym e.2)))

-- There is no other, and only 4 has a place.
abbrev pub OneOf : ℕ → Type 0
OneOf n = (n ≡ 0) ⊎ (n ≡ 2) ⊎ (n ≡ 4) ⊎ (n ≡ 5)

verdict-listed : (z : Bool) (o : Option ℕ) (f : Bool) → OneOf (verdict z o f).answer
unfolding verdict
verdict-listed false o f = inr (inl refl)
verdict-listed true (some q) f = inr (inr (inl refl))
verdict-listed true none true = inl refl
verdict-listed true none false = inr (inr (inr refl))

verdict-place : (z : Bool) (o : Option ℕ) (f : Bool) → ((verdict z o f).answer ≡ 4 → ⊥) → (verdict z o f).place ≡ 0
unfolding verdict
verdict-place false o f n = refl
verdict-place true (some q) f n = absurd (n refl)
verdict-place true none true n = refl
verdict-place true none false n = refl

-- The store's refusal d is what the search found.
verdict-found : (o : Option ℕ) (f : Bool) (d : Checked) → d ≡ found 4 o → (if eqb d.answer 0 then (if f then checked 0 0 else checked 5 0) else d) ≡ verdict true o f
unfolding verdict
verdict-found none true d e = rw e
verdict-found none false d e = rw e
verdict-found (some p) f d e = rw e

-- What the store check gives where the sizes fit.
check-found : (s : List ℕ) (mark : ℕ) → StoreLength (length s) → mark ≤ rows s → store_checked s mark ≡ found 4 (rejected (good_node s) 0 mark)
unfolding store_checked
check-found s mark l m = rw ((store_length_fits-plain (length s)).1 l, le-leb mark (rows s) m)

found_none : (o : Option ℕ) → (found 4 o).answer ≡ 0 → o ≡ none
found_none none e = refl
found_none (some k) e = absurd (omega arith)

found_some : (o : Option ℕ) (p : ℕ) → found 4 o ≡ checked 4 p → o ≡ some p
found_some none p e = let z : ◌≡◌ {A = ℕ} 0 4 = ap (λ (c : Checked). c.answer) e in absurd (omega arith)
found_some (some k) p e = ap some (ap (λ (c : Checked). c.place) e)

-- A store that passes the check is answered 0 with place 0.
pub store-passed : (s : List ℕ) (mark : ℕ) → StoreLength (length s) → mark ≤ rows s → AllGood (good_node s) mark → store_checked s mark ≡ checked 0 0
store-passed s mark l m g =
    let e = check-found s mark l m in
    e ∙ ap (found 4) (found_none (rejected (good_node s) 0 mark) (ap (λ (c : Checked). c.answer) (sym e) ∙ (store_passes s mark).1 ((l, m), g)))

-- No binding's word exceeds the mark, as a test and in plain; a word outside the bindings is zero.
bound-below : (b : List ℕ) (mark : ℕ) → bound_below b mark ≡ true ↔ ((v : ℕ) → get_or b v 0 ≤ mark)
unfolding bound_below
bound-below b mark = (
  λ h v.
      ⊎_elim (λ l. leb-true _ _ ((every_true (λ v. leb (get_or b v 0) mark) 0 (length b)).0 h v (omega arith) (omega arith)))
      (λ l. omega (arith, get_or-eq_default b 0 l))
      (below-or-from v (length b)),
  λ f. (every_true (λ v. leb (get_or b v 0) mark) 0 (length b)).1 (λ v l m. le-leb _ _ (f v)),
)

module _ (W : ℕ) (i : Lent) where
  -- The tests of the sizes and of the start are the plain facts.
  sizes-plain : (sizes_fit_by W i ≡ true) ↔ SizesFitBy W i
  unfolding sizes_fit_by
  sizes-plain = (
    λ h.
        let x : (store_length_fits (length i.store) ≡ true) × _ = and-true _ _ h in
        let y : (eqb (length i.bindings) (variables_by W) ≡ true) × _ = and-true _ _ x.1 in
        let z : (leb i.mark (rows i.store) ≡ true) × (leb (rows i.store) (length i.work) ≡ true) = and-true _ _ y.1 in
        record {
          store = (store_length_fits-plain (length i.store)).0 x.0;
          bindings = eqb-true _ _ y.0;
          mark = leb-true _ _ z.0;
          work = leb-true _ _ z.1;
        },
    λ z.
        rw (
          (store_length_fits-plain (length i.store)).1 z.store,
          eq-eqb (length i.bindings) (variables_by W) z.bindings,
          le-leb i.mark (rows i.store) z.mark,
          le-leb (rows i.store) (length i.work) z.work,
        ),
  )

  start_plain : (start_fits i ≡ true) ↔ StartFits i
  unfolding start_fits
  start_plain = (
    λ h.
        let f : (ltb i.subject i.mark ≡ true) × (bound_below i.bindings i.mark ≡ true) = and-true _ _ h in
        record { subject = ltb-true _ _ f.0; bound = (bound-below i.bindings i.mark).0 f.1 },
    λ f. rw (lt-ltb i.subject i.mark f.subject, (bound-below i.bindings i.mark).1 f.bound),
  )

  -- What the search among the nodes below the mark found.
  abbrev bad : Option ℕ
  bad = rejected (good_node i.store) 0 i.mark

  store_found : SizesFitBy W i → store_checked i.store i.mark ≡ found 4 bad
  store_found z = check-found i.store i.mark z.store z.mark

  refused-is : refused_by W i ≡ verdict (sizes_fit_by W i) bad (start_fits i)
  unfolding refused_by verdict
  refused-is = go (sizes_fit_by W i) refl
    where
      go : (z : Bool) → sizes_fit_by W i ≡ z
          → (if z then (if eqb (store_checked i.store i.mark).answer 0 then (if start_fits i then checked 0 0 else checked 5 0) else store_checked i.store i.mark) else checked 2 0)
          ≡ verdict z bad (start_fits i)
      go true e = verdict-found bad (start_fits i) (store_checked i.store i.mark) (store_found (sizes-plain.0 e))
      go false e = refl

  answer-is : (refused_by W i).answer ≡ (verdict (sizes_fit_by W i) bad (start_fits i)).answer
  answer-is = ap (λ (c : Checked). c.answer) refused-is

  place_is : (refused_by W i).place ≡ (verdict (sizes_fit_by W i) bad (start_fits i)).place
  place_is = ap (λ (c : Checked). c.place) refused-is

  -- The search finds nothing where every node below the mark is good, and otherwise the lowest that is not.
  none-good : SizesFitBy W i → (bad ≡ none) ↔ NodesGood i
  none-good z = (
    λ e. ((store_passes i.store i.mark).0 (ap (λ (c : Checked). c.answer) (store_found z ∙ ap (found 4) e))).1,
    λ g. found_none bad (ap (λ (c : Checked). c.answer) (sym (store_found z)) ∙ (store_passes i.store i.mark).1 ((z.store, z.mark), g)),
  )

  some-lowest : SizesFitBy W i → (p : ℕ) → (bad ≡ some p) ↔ Lowest (good_node i.store) i.mark p
  some-lowest z p = (
    λ e. ((store_rejects i.store i.mark p).0 (store_found z ∙ ap (found 4) e)).1,
    λ l. found_some bad p (sym (store_found z) ∙ (store_rejects i.store i.mark p).1 ((z.store, z.mark), l)),
  )

  pub sizes-refused : ((refused_by W i).answer ≡ 2) ↔ (SizesFitBy W i → ⊥)
  sizes-refused =
      let v = verdict-2 (sizes_fit_by W i) bad (start_fits i) in
      let n = not-fact (sizes_fit_by W i) sizes-plain in
      (λ e. n.0 (v.0 (sym answer-is ∙ e)), λ h. answer-is ∙ v.1 (n.1 h))

  pub node-refused : (p : ℕ) → (((refused_by W i).answer ≡ 4) × ((refused_by W i).place ≡ p)) ↔ (SizesFitBy W i × Lowest (good_node i.store) i.mark p)
  node-refused p =
      let v = verdict-4 (sizes_fit_by W i) bad (start_fits i) p in (
        λ e.
            let w = v.0 (sym answer-is ∙ e.0, sym place_is ∙ e.1) in
            let z = sizes-plain.0 w.0 in
            (z, (some-lowest z p).0 w.1),
        λ h. let w = v.1 (sizes-plain.1 h.0, (some-lowest h.0 p).1 h.1) in (answer-is ∙ w.0, place_is ∙ w.1),
      )

  pub start-refused : ((refused_by W i).answer ≡ 5) ↔ (SizesFitBy W i × NodesGood i × (StartFits i → ⊥))
  start-refused =
      let v = verdict-5 (sizes_fit_by W i) bad (start_fits i) in
      let n = not-fact (start_fits i) start_plain in (
        λ e.
            let w = v.0 (sym answer-is ∙ e) in
            let z = sizes-plain.0 w.0 in
            (z, (none-good z).0 w.1, n.0 w.2),
        λ h. answer-is ∙ v.1 (sizes-plain.1 h.0, (none-good h.0).1 h.1, n.1 h.2),
      )

  pub collects-plain : ((refused_by W i).answer ≡ 0) ↔ (SizesFitBy W i × NodesGood i × StartFits i)
  collects-plain =
      let v = verdict-0 (sizes_fit_by W i) bad (start_fits i) in (
        λ e.
            let w = v.0 (sym answer-is ∙ e) in
            let z = sizes-plain.0 w.0 in
            (z, (none-good z).0 w.1, start_plain.0 w.2),
        λ h. answer-is ∙ v.1 (sizes-plain.1 h.0, (none-good h.0).1 h.1, start_plain.1 h.2),
      )

  pub refused-listed : OneOf (refused_by W i).answer
  refused-listed = subst OneOf (sym answer-is) (verdict-listed (sizes_fit_by W i) bad (start_fits i))

  pub refused-place : ((refused_by W i).answer ≡ 4 → ⊥) → (refused_by W i).place ≡ 0
  refused-place n = place_is ∙ verdict-place (sizes_fit_by W i) bad (start_fits i) (λ e. n (answer-is ∙ e))

  -- What is collectable is just that.
  pub plain : CollectableBy W i ↔ (SizesFitBy W i × NodesGood i × StartFits i)
  plain = (
    λ a.
        let x = (store_passes i.store i.mark).0 (ap (λ (c : Checked). c.answer) a.store) in (
          record { store = x.0.0; bindings = a.bindings; mark = x.0.1; work = a.work },
          x.1,
          record { subject = a.subject; bound = a.bound },
        ),
    λ h.
        record {
          store = store-passed i.store i.mark h.0.store h.0.mark h.1;
          bindings = h.0.bindings;
          work = h.0.work;
          subject = h.2.subject;
          bound = h.2.bound;
        },
  )

  pub collectable : (refused_by W i).answer ≡ 0 → CollectableBy W i
  collectable e = plain.1 (collects-plain.0 e)

  pub collectable-back : CollectableBy W i → (refused_by W i).answer ≡ 0
  collectable-back a = collects-plain.1 (plain.0 a)

pub collected-whole : {W : ℕ} (i : Lent) → CollectableBy W i → collected_of_by W i ≡ collecting i
unfolding collected_of_by
collected-whole {W} i a = rw (eq-eqb (refused_by W i).answer 0 (collectable-back W i a))

pub collected-refused : (W : ℕ) (i : Lent) → ((refused_by W i).answer ≡ 0 → ⊥) → collected_of_by W i ≡ refusing i (refused_by W i)
unfolding collected_of_by
collected-refused W i n = rw (ne_eqb (refused_by W i).answer 0 n)

module _ {W : ℕ} (i : Lent) (a : CollectableBy W i) where
  pub filled : Filled i.store i.mark
  filled = store-filled i.store i.mark a.store

  -- The store has at most 131,072 nodes.
  pub small : rows i.store ≤ 131072
  small =
      let x = (store_passes i.store i.mark).0 (ap (λ (c : Checked). c.answer) a.store) in
      omega (arith, x.0.0.most)

  pub fits : 8 * i.mark ≤ length i.store
  fits = omega (arith, filled.fits)

  pub few : (k : ℕ) → k < i.mark → child_count i.store k ≤ 6
  few k h = (filled.node k h).holdable.count

  pub below : (k j : ℕ) → k < i.mark → j < child_count i.store k → child i.store k j < k
  below k j h l = (filled.node k h).below j l

  -- The mark is within the work list.
  pub mark-inside : (i.mark ≤ rows i.store) × (rows i.store ≤ length i.work)
  mark-inside = (filled.fits, a.work)

  -- What is reachable is kept, and lies below the mark; so does what a kept node names.
  pub keep : {k : ℕ} → Reachable i.store i.bindings i.subject k → keeps i k ≡ true
  keep r = reachable-kept i.store i.bindings i.mark i.subject below a.subject a.bound r

  pub under : {k : ℕ} → Reachable i.store i.bindings i.subject k → k < i.mark
  under r = reachable-below i.store i.bindings i.mark i.subject below a.subject a.bound r

  pub closed : (k j : ℕ) → k < i.mark → keeps i k ≡ true → j < child_count i.store k → keeps i (child i.store k j) ≡ true
  closed = kept-child i.store i.bindings i.mark i.subject below a.subject a.bound
