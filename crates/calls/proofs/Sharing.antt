-- Which refusal a call with an index gives, proved: one more test of the sizes, the tests of a run, the search for a node with an earlier
-- one's words, and the test of the start stand in order, and the first that is not passed decides. Assumes nothing.
use mathlib.Core.Path.{◌≡◌, refl, ap, sym, ◌∙◌, subst}
use mathlib.Core.Bool.{Bool, true, false, ◌&&◌, true≢false}
use mathlib.Core.Logic.{◌≢◌, ◌↔◌, ◌⊎◌, inl, inr, ⊎_elim}
use mathlib.Core.Option.{Option, none, some}
use mathlib.Core.List.{List}
use Prim.Native.Nat.{ℕ, ◌*◌, ◌≤◌, ◌<◌}
use native.Mathlib.Omega.{arith}
use lib.Dec.{eqb}
use lib.ListN.{length, replicate}
use borrow.Author.Tests.{leb-true, le-leb, eqb-true, eqb-false, eq-eqb, ne_eqb}
use Rattle.words.specs.Words.{rows}
use Rattle.std.specs.Prelude.{if◌then◌else◌}
use Rattle.words.proofs.Tests.{and-true}
use Rattle.checks.specs.Checked.{Checked}
use Rattle.checks.specs.Checked.{checked, found}
use Rattle.checks.specs.Good.{good_entry_by, good_node}
use Rattle.checks.specs.Plain.{FaultyBy}
use Rattle.checks.specs.Promises.{AllGood, Lowest}
use Rattle.checks.proofs.Good.{faulty-within}
use Rattle.meaning.specs.Derivation.{places, nowhere}
use Rattle.meaning.specs.Store.{Input, ran_by}
use Rattle.meaning.specs.Answer.{Returned, returned_by}
use Rattle.meaning.specs.Shared.{eight, node_with, absent, fresh, twin, Distinct, shared_ran_by}
use Rattle.meaning.proofs.NodeWith.{node_with-has, node_with-none}
use Rattle.calls.specs.Refused.{or_else, words_refused_by, start_fits, starts_fit}
use Rattle.calls.specs.Run.{at_return, refusing, run_with_by}
use Rattle.calls.specs.Promises.{EntriesGood, NodesGood, StartFits}
use Rattle.calls.specs.Many.{Module}
use Rattle.calls.specs.Subjects.{ListFits, StartsFit, whole}
use Rattle.calls.specs.Indexed.{index_fits, indexed_words_refused_by, indexed_refused_by, IndexedReturned, indexed_at_return, indexed_of_by}
use Rattle.calls.specs.Indexed.{indexed_many_refused_by, indexed_in_turn_by, IndexedManyReturned, indexed_many_at_return, indexed_many_of_by}
use Rattle.calls.specs.Sharing as promises
use Rattle.calls.specs.Sharing.{RunsIndexed, RunsManyIndexed, AllSizesFit, WordsGood, Twin, LowestTwin, IndexedFits}
use Rattle.calls.specs.Outcome.{Outcome}
use Rattle.calls.proofs.Accepting as accepting
use Rattle.calls.proofs.Accepting.{AllFit, EntriesObey, NodesObey, EntryDisobeys, NodeDisobeys, verdict_with}
use Rattle.calls.proofs.Accepting.{Test, Tested, Without, answer-of, words-passed, words_back, words-only}
use Rattle.calls.proofs.Subjects as subjects
use Rattle.calls.proofs.Subjects.{fits-back, fits-lent, obeys-back, obeys-entries, obeys-nodes, starts-plain}
use Rattle.calls.proofs.Promises.{OfRun, of-run, as-given}

-- ---- nodes with an earlier one's words

module _ (w : List ℕ) where
  -- the search at one node, in plain facts
  fresh-true : (k : ℕ) → fresh w k ≡ true → Twin w k → ⊥
  unfolding fresh
  fresh-true k e t = go (node_with w (eight w k) k) refl e
    where
      go : (o : Option ℕ) → node_with w (eight w k) k ≡ o → absent o ≡ true → ⊥
      go none q e = node_with-none w (eight w k) k t.0 t.1 q t.2
      go (some j) q e = true≢false (sym e)

  fresh-false : (k : ℕ) → fresh w k ≡ false → Twin w k
  unfolding fresh
  fresh-false k e = go (node_with w (eight w k) k) refl e
    where
      go : (o : Option ℕ) → node_with w (eight w k) k ≡ o → absent o ≡ false → Twin w k
      go none q e = absurd (true≢false e)
      go (some j) q e = let (l, f) = node_with-has w (eight w k) k j q in (j, l, f)

  no-twin : (k : ℕ) → (Twin w k → ⊥) → fresh w k ≡ true
  no-twin k n = go (fresh w k) refl
    where
      go : (b : Bool) → fresh w k ≡ b → fresh w k ≡ true
      go true e = e
      go false e = absurd (n (fresh-false k e))

  a-twin : (k : ℕ) → Twin w k → fresh w k ≡ false
  a-twin k t = go (fresh w k) refl
    where
      go : (b : Bool) → fresh w k ≡ b → fresh w k ≡ false
      go true e = absurd (fresh-true k e t)
      go false e = e

  lowest-twin : (m p : ℕ) → Lowest (fresh w) m p ↔ LowestTwin w m p
  lowest-twin m p = (
    λ l. record { inside = l.inside; twin = fresh-false p l.bad; before = λ k h. fresh-true k (l.before k h) },
    λ l. record { inside = l.inside; bad = a-twin p l.twin; before = λ k h. no-twin k (l.before k h) },
  )

  all-fresh : (m : ℕ) → AllGood (fresh w) m ↔ Distinct w m
  all-fresh m = (λ f j k h l e. fresh-true k (f k l) (j, h, e), λ d k l. no-twin k (λ t. d t.0 k t.1 l t.2))

-- ---- which refusal, of one subject or of many

module _ (W : ℕ) where
  -- what the words of a run are asked, as the laws of a run have it
  abbrev RunWords : Option (List ℕ) → Input → Type 0
  RunWords g i = AllFit W g i × (EntriesGood W i × (NodesGood i × (EntriesObey W g i × NodesObey W g i)))

  good-words : (g : Option (List ℕ)) (i : Input) (x : List ℕ) → 2 * rows i.store ≤ length x → RunWords g i → WordsGood W g i x
  good-words g i x l f = record {
    sizes = record { run = f.0.0; signature = fits-back W g f.0.1; index = l };
    entries = f.1.0;
    nodes = f.1.1.0;
    obeyed = obeys-back W g i f.1.1.1.0 f.1.1.1.1;
  }

  words-good : (g : Option (List ℕ)) (i : Input) (x : List ℕ) → WordsGood W g i x → RunWords g i
  words-good g i x f = (
    (f.sizes.run, fits-lent W g f.sizes.signature),
    (f.entries, (f.nodes, (obeys-entries W g i f.obeyed, obeys-nodes W g i f.obeyed))),
  )

  -- a run without an index is not refused with 21
  plain-not-21 : (g : Option (List ℕ)) (i : Input) (p : ℕ) → verdict_with W g i ≡ checked 21 p → ⊥
  plain-not-21 g i p e =
      let f = (accepting.refused-entry W g i 21 p (omega arith)).0 e in
      omega (arith, (faulty-within W i.table p 21 f.1.1).1)

  -- which refusal c is, of words that are asked all that a call with an index asks; F is asked beside the sizes, and P of the start
  record Judged (g : Option (List ℕ)) (i : Input) (x : List ℕ) (F P : Type 0) (c : Checked) : Type 0 where
    pub by-sizes : (c.answer ≡ 2) ↔ (F → AllSizesFit W g i x → ⊥)
    pub by-words : (n p : ℕ) → 2 < n → n < 21 → n ≢ 5
        → (c ≡ checked n p) ↔ ((F × (2 * rows i.store ≤ length x)) × (verdict_with W g i ≡ checked n p))
    pub by-twin : (p : ℕ) → (c ≡ checked 21 p) ↔ (F × (WordsGood W g i x × LowestTwin i.store i.mark p))
    pub by-start : (p : ℕ) → (c ≡ checked 5 p) ↔ ((p ≡ 0) × (F × (WordsGood W g i x × Distinct i.store i.mark × (P → ⊥))))
    pub by-nothing : (c ≡ checked 0 0) ↔ (F × (WordsGood W g i x × Distinct i.store i.mark × P))
    pub by_zero : c.answer ≡ 0 → c ≡ checked 0 0

  -- z is the test of the list's length, where there is one, and b that of the start; F and P are what they stand for
  module _ (g : Option (List ℕ)) (i : Input) (x : List ℕ) (z b : Bool) (F P : Type 0) (zF : (z ≡ true) ↔ F) (bP : (b ≡ true) ↔ P) where
    abbrev words : Checked
    words = words_refused_by W g i.table i.store i.bindings i.mark

    abbrev test_of_start : Checked
    test_of_start = if b then checked 0 0 else checked 5 0

    abbrev twin_test : Checked
    twin_test = found 21 (twin i.store i.mark)

    abbrev sizes_test : Checked
    sizes_test = if z && index_fits i.store x then checked 0 0 else checked 2 0

    abbrev after_words : Checked
    after_words = or_else twin_test test_of_start

    abbrev after_sizes : Checked
    after_sizes = or_else words after_words

    abbrev verdict : Checked
    verdict = if z then or_else (indexed_words_refused_by W g i.table i.store i.bindings i.mark x) test_of_start else checked 2 0

    in_order : verdict ≡ or_else sizes_test after_sizes
    unfolding indexed_words_refused_by
    in_order = go z (index_fits i.store x)
      where
        go : (z y : Bool) → (if z then or_else (if y then or_else words twin_test else checked 2 0) test_of_start else checked 2 0)
            ≡ or_else (if z && y then checked 0 0 else checked 2 0) after_sizes
        go true true = accepting.in-turn W words twin_test test_of_start
        go true false = refl
        go false y = refl

    -- the list's length and the index's
    abbrev Lengths : Type 0
    Lengths = F × (2 * rows i.store ≤ length x)

    lengths-plain : (z && index_fits i.store x ≡ true) ↔ Lengths
    unfolding index_fits
    lengths-plain = (
      λ h. let y : (z ≡ true) × _ = and-true _ _ h in (zF.0 y.0, leb-true _ _ y.1),
      λ f. rw (zF.1 f.0) (le-leb (2 * rows i.store) (length x) f.1),
    )

    sizes-test : Test W Lengths (Without W 2 Lengths)
    sizes-test = accepting.fact-test W 2 Lengths (omega arith)

    sizes-tested : Tested W Lengths (Without W 2 Lengths) sizes_test
    sizes-tested = accepting.fact-tested W _ 2 Lengths lengths-plain

    -- the words of a run, as one test
    abbrev BadWords : ℕ → ℕ → Type 0
    BadWords n p = (0 < n) × (words ≡ checked n p)

    all_back : RunWords g i → words ≡ checked 0 0
    all_back f = words_back W g i f.0 f.1.0 f.1.1.0 f.1.1.1.0 f.1.1.1.1

    words-test : Test W (RunWords g i) BadWords
    words-test = record {
      some = λ n p y. y.0;
      not-both = λ n p y f. omega (arith, y.0, answer-of W (sym y.1 ∙ all_back f));
      one = λ n p m q y u. sym y.1 ∙ u.1;
    }

    words-tested : Tested W (RunWords g i) BadWords words
    words-tested = go (eqb words.answer 0) refl
      where
        go : (c : Bool) → eqb words.answer 0 ≡ c → Tested W (RunWords g i) BadWords words
        go true e =
            let f = words-passed W g i (eqb-true _ _ e) in
            subst (Tested W (RunWords g i) BadWords) (sym (all_back f)) (accepting.passed f)
        go false e = accepting.refusing words.answer words.place (let n : words.answer ≢ 0 = eqb-false _ _ e in omega arith, refl)

    abbrev AllFresh : Type 0
    AllFresh = AllGood (fresh i.store) i.mark

    abbrev ATwin : ℕ → ℕ → Type 0
    ATwin = accepting.LowestBad W 21 (fresh i.store) i.mark

    twin-test : Test W AllFresh ATwin
    twin-test = accepting.lowest-test W 21 (fresh i.store) i.mark (omega arith)

    twin-tested : Tested W AllFresh ATwin twin_test
    twin-tested = accepting.lowest-tested W 21 (fresh i.store) i.mark

    start_test : Test W P (Without W 5 P)
    start_test = accepting.fact-test W 5 P (omega arith)

    start-tested : Tested W P (Without W 5 P) test_of_start
    start-tested = accepting.fact-tested W b 5 P bP

    -- nor are its words
    words-not-21 : (p : ℕ) → words ≡ checked 21 p → ⊥
    words-not-21 p e = plain-not-21 g i p ((words-only W g i 21 p (λ q. omega (arith, q)) (λ q. omega (arith, q))).1 e)

    start-not : (n : ℕ) → n ≢ 0 → n ≢ 5 → test_of_start.answer ≢ n
    start-not n k l = go b
      where
        go : (b : Bool) → (if b then checked 0 0 else checked 5 0).answer ≢ n
        go true e = k (sym e)
        go false e = l (sym e)

    -- the lengths are passed, and so are the words
    past-sizes : (n p : ℕ) → n ≢ 2 → (verdict ≡ checked n p) ↔ (Lengths × (after_sizes ≡ checked n p))
    past-sizes n p k =
        subst (λ (c : Checked). (c ≡ checked n p) ↔ (Lengths × (after_sizes ≡ checked n p))) (sym in_order)
        (accepting.goes_on W sizes-test after_sizes n p (λ y. k y.0) sizes-tested)

    past_words : (n p : ℕ) → n ≢ 2 → (words ≡ checked n p → 0 < n → ⊥)
        → (verdict ≡ checked n p) ↔ (Lengths × (RunWords g i × (after_words ≡ checked n p)))
    past_words n p k l =
        accepting.under W (past-sizes n p k) (λ y. accepting.goes_on W words-test after_words n p (λ u. l u.1 u.0) words-tested)

    past-twin : (n p : ℕ) → n ≢ 2 → n ≢ 21 → (words ≡ checked n p → 0 < n → ⊥)
        → (verdict ≡ checked n p) ↔ (Lengths × (RunWords g i × (AllFresh × (test_of_start ≡ checked n p))))
    past-twin n p k m l =
        accepting.under W (past_words n p k l)
        (λ y. accepting.within W (λ f. accepting.goes_on W twin-test test_of_start n p (λ u. m u.0) twin-tested))

    -- what the words of a run are refused with is answered
    words-decide : (n p : ℕ) → n ≢ 0 → n ≢ 5 → n ≢ 21 → (after_sizes ≡ checked n p) ↔ (verdict_with W g i ≡ checked n p)
    words-decide n p k l m =
        let f = accepting.decides W words-test after_words n p words-tested
        (λ y. accepting.gives-not W twin-test test_of_start n (λ q u. m u.0) twin-tested (λ u. start-not n k l)) in
        let v = words-only W g i n p k l in
        (λ e. v.1 (f.0 e).1, λ e. f.1 (omega arith, v.0 e))

    refused-early : (n p : ℕ) → 2 < n → n < 21 → n ≢ 5 → (verdict ≡ checked n p) ↔ (Lengths × (verdict_with W g i ≡ checked n p))
    refused-early n p k l m =
        accepting.under W (past-sizes n p (λ e. omega (arith, e)))
        (λ y. words-decide n p (λ e. omega (arith, e)) m (λ e. omega (arith, e)))

    refused-sizes : (verdict.answer ≡ 2) ↔ (F → AllSizesFit W g i x → ⊥)
    refused-sizes = (
      λ e f s.
          let q : verdict ≡ checked 2 verdict.place = λ j. record { answer = e j; place = verdict.place } in
          let l : Lengths = (f, s.index) in
          let v = (past l verdict.place).0 q in
          ((accepting.refused-sizes W g i verdict.place).0 v).1 (s.run, fits-lent W g s.signature),
      λ n. answer-of W (back n),
    )
      where
        past : Lengths → (p : ℕ) → (verdict ≡ checked 2 p) ↔ (verdict_with W g i ≡ checked 2 p)
        past l p =
            let f = words-decide 2 p (λ e. omega (arith, e)) (λ e. omega (arith, e)) (λ e. omega (arith, e)) in
            let o : verdict ≡ after_sizes = in_order ∙ rw (lengths-plain.1 l) in
            (λ e. f.0 (sym o ∙ e), λ e. o ∙ f.1 e)

        back : (F → AllSizesFit W g i x → ⊥) → verdict ≡ checked 2 0
        back n = go (z && index_fits i.store x) refl
          where
            go : (c : Bool) → z && index_fits i.store x ≡ c → verdict ≡ checked 2 0
            go true e =
                let l = lengths-plain.0 e in
                let m : AllFit W g i → ⊥ = λ a. n l.0 (record { run = a.0; signature = fits-back W g a.1; index = l.1 }) in
                (past l 0).1 ((accepting.refused-sizes W g i 0).1 (refl, m))
            go false e = in_order ∙ rw e

    refused-twin : (p : ℕ) → (verdict ≡ checked 21 p) ↔ (F × (WordsGood W g i x × LowestTwin i.store i.mark p))
    refused-twin p =
        let f = past_words 21 p (λ e. omega (arith, e)) (λ e l. words-not-21 p e) in
        let n : test_of_start.answer ≢ 21 = start-not 21 (λ e. omega (arith, e)) (λ e. omega (arith, e)) in
        let d = accepting.decides W twin-test test_of_start 21 p twin-tested (λ u. n) in
        let t = lowest-twin i.store i.mark p in (
          λ e. let y = f.0 e in (y.0.0, (good-words g i x y.0.1 y.1.0, t.0 (d.0 y.1.1).1)),
          λ y. f.1 ((y.0, y.1.0.sizes.index), (words-good g i x y.1.0, d.1 (refl, t.1 y.1.1))),
        )

    refused-start : (p : ℕ) → (verdict ≡ checked 5 p) ↔ ((p ≡ 0) × (F × (WordsGood W g i x × Distinct i.store i.mark × (P → ⊥))))
    refused-start p =
        let f = past-twin 5 p (λ e. omega (arith, e)) (λ e. omega (arith, e)) (λ e l. accepting.words-not-five W g i (answer-of W e)) in
        let d = accepting.last-refuses W start_test 5 p (omega arith) start-tested in
        let a = all-fresh i.store i.mark in (
          λ e.
              let y = f.0 e in
              let u = d.0 y.1.1.1 in
              (u.1, (y.0.0, (good-words g i x y.0.1 y.1.0, a.0 y.1.1.0, u.2))),
          λ h.
              let y = h.1.1 in
              f.1 ((h.1.0, y.0.sizes.index), (words-good g i x y.0, (a.1 y.1, d.1 (refl, h.0, y.2)))),
        )

    refused-not : (verdict ≡ checked 0 0) ↔ (F × (WordsGood W g i x × Distinct i.store i.mark × P))
    refused-not =
        let f = past-twin 0 0 (λ e. omega (arith, e)) (λ e. omega (arith, e)) (λ e l. omega (arith, l)) in
        let d = accepting.last-passes W start_test start-tested in
        let a = all-fresh i.store i.mark in (
          λ e. let y = f.0 e in (y.0.0, (good-words g i x y.0.1 y.1.0, a.0 y.1.1.0, d.0 y.1.1.1)),
          λ h. let y = h.1 in f.1 ((h.0, y.0.sizes.index), (words-good g i x y.0, (a.1 y.1, d.1 y.2))),
        )

    -- the answer 0 alone is enough
    zero-enough : verdict.answer ≡ 0 → verdict ≡ checked 0 0
    zero-enough e =
        let u = accepting.zero-else W sizes_test after_sizes (sym (answer-of W in_order) ∙ e) in
        let v = accepting.zero-else W words after_words u.1 in
        let t = accepting.zero-else W twin_test test_of_start v.1 in
        let l = accepting.zero-passes W sizes-test sizes-tested u.0 in
        refused-not.1 (
          l.0,
          (
            good-words g i x l.1 (accepting.zero-passes W words-test words-tested v.0),
            (all-fresh i.store i.mark).0 (accepting.zero-passes W twin-test twin-tested t.0),
            accepting.zero-passes W start_test start-tested t.1,
          ),
        )

    judged : Judged g i x F P verdict
    judged = record {
      by-sizes = refused-sizes;
      by-words = refused-early;
      by-twin = refused-twin;
      by-start = refused-start;
      by-nothing = refused-not;
      by_zero = zero-enough;
    }

  -- the refusals of a run, with the index's length among the sizes
  module _ {g : Option (List ℕ)} {i : Input} {x : List ℕ} {F P : Type 0} {c : Checked} (J : Judged g i x F P c) where
    -- B is what the refusal says beside the sizes
    of-run-words : (n p : ℕ) → 2 < n → n < 21 → n ≢ 5 → {B : Type 0} → (verdict_with W g i ≡ checked n p) ↔ (AllFit W g i × B)
        → (c ≡ checked n p) ↔ (F × (AllSizesFit W g i x × B))
    of-run-words n p k l m f =
        let v = J.by-words n p k l m in (
          λ e.
              let y = v.0 e in
              let u = f.0 y.1 in
              (y.0.0, (record { run = u.0.0; signature = fits-back W g u.0.1; index = y.0.1 }, u.1)),
          λ y.
              let s : AllSizesFit W g i x = y.1.0 in
              v.1 ((y.0, s.index), f.1 ((s.run, fits-lent W g s.signature), y.1.1)),
        )

    judged-entry : (n p : ℕ) → 12 < n → n < 18
        → (c ≡ checked n p)
        ↔ (F × (AllSizesFit W g i x × (Lowest (good_entry_by W i.table) (rows i.table) p × FaultyBy W i.table p n)))
    judged-entry n p l m =
        of-run-words n p (omega arith) (omega arith) (λ e. omega (arith, e)) (accepting.refused-entry W g i n p l)

    judged-node : (p : ℕ) → (c ≡ checked 4 p) ↔ (F × (AllSizesFit W g i x × (EntriesGood W i × Lowest (good_node i.store) i.mark p)))
    judged-node p = of-run-words 4 p (omega arith) (omega arith) (λ e. omega (arith, e)) (accepting.refused-node W g i p)

    judged-ten : (p : ℕ) → (c ≡ checked 10 p) ↔ (F × (AllSizesFit W g i x × (EntriesGood W i × (NodesGood i × EntryDisobeys W g i 10 p))))
    judged-ten p = of-run-words 10 p (omega arith) (omega arith) (λ e. omega (arith, e)) (accepting.refused-ten W g i p)

    judged-eleven : (p : ℕ) → (c ≡ checked 11 p)
        ↔ (F × (AllSizesFit W g i x × (EntriesGood W i × (NodesGood i × (EntriesObey W g i × NodeDisobeys W g i 11 p)))))
    judged-eleven p = of-run-words 11 p (omega arith) (omega arith) (λ e. omega (arith, e)) (accepting.refused-eleven W g i p)

  -- ---- one subject

  pub agreeing : promises.Agreeing W
  agreeing g i x o o' s s' b b' y y' p q =
      let e : indexed_at_return o s b y ≡ indexed_at_return o' s' b' y' = p ∙ sym q in (
        (λ j. let r = (e j).run in record { answer = r.answer; place = r.place; subject = r.subject; mark = r.mark; units = r.units }),
        ap (λ (r : IndexedReturned). r.run.store) e,
        ap (λ (r : IndexedReturned). r.run.bindings) e,
        ap (λ (r : IndexedReturned). r.index) e,
      )

  -- a run's own answers are no refusal's
  not-ran : (n : ℕ) → 1 < n → (5 < n → n < 9 → ⊥) → n ≢ 12 → OfRun W n → ⊥
  not-ran n l m k = ⊎_elim (λ h. omega arith) (⊎_elim (λ h. m (omega (arith, h.0)) (omega (arith, h.1))) k)

  module _ (g : Option (List ℕ)) (i : Input) (x : List ℕ) where
    -- there is no list whose length is asked
    one-judged : Judged g i x (Unit {0}) (StartFits i) (indexed_refused_by W g i x)
    unfolding indexed_refused_by
    one-judged =
        judged g i x true (start_fits i.table i.bindings i.mark i.start i.subject) (Unit {0}) (StartFits i)
        (λ e. tt, λ u. refl) (accepting.start_plain W i)

    one-accepts : (indexed_refused_by W g i x ≡ checked 0 0) ↔ IndexedFits W g i x
    one-accepts =
        let f = one-judged.by-nothing in (
          λ e. let y = (f.0 e).1 in record { words = y.0; distinct = y.1; start = y.2 },
          λ y. f.1 (tt, (y.words, y.distinct, y.start)),
        )

    -- all is so, or the refusal is not 0
    either : IndexedFits W g i x ⊎ ((indexed_refused_by W g i x).answer ≢ 0)
    either = go (eqb (indexed_refused_by W g i x).answer 0) refl
      where
        go : (z : Bool) → eqb (indexed_refused_by W g i x).answer 0 ≡ z → IndexedFits W g i x ⊎ ((indexed_refused_by W g i x).answer ≢ 0)
        go true e = inl (one-accepts.0 (one-judged.by_zero (eqb-true _ _ e)))
        go false e = inr (eqb-false _ _ e)

    -- refused, or run
    way : (z : Bool) → eqb (indexed_refused_by W g i x).answer 0 ≡ z
        → indexed_of_by W g i x ≡ (if z then record { run = returned_by W i (shared_ran_by W places nowhere i); index = replicate (length x) 0 }
        else record { run = refusing i (indexed_refused_by W g i x); index = x })
    unfolding indexed_of_by
    way z e = rw e

    module _ (o : Outcome) (s b y : List ℕ) (p : RunsIndexed W g i x o s b y) where
      ran : IndexedFits W g i x → (at_return o s b ≡ returned_by W i (shared_ran_by W places nowhere i)) × (y ≡ replicate (length x) 0)
      ran f =
          let e = p ∙ way true (eq-eqb _ 0 (answer-of W (one-accepts.1 f))) in
          (ap (λ (r : IndexedReturned). r.run) e, ap (λ (r : IndexedReturned). r.index) e)

      turned-away : (indexed_refused_by W g i x).answer ≢ 0 → (at_return o s b ≡ refusing i (indexed_refused_by W g i x)) × (y ≡ x)
      turned-away n =
          let e = p ∙ way false (ne_eqb _ 0 n) in
          (ap (λ (r : IndexedReturned). r.run) e, ap (λ (r : IndexedReturned). r.index) e)

      -- a refusal's answer and place are the verdict's
      by-verdict : (n k : ℕ) → n ≢ 0 → (OfRun W n → ⊥) → ((o.answer ≡ n) × (o.place ≡ k)) ↔ (indexed_refused_by W g i x ≡ checked n k)
      by-verdict n k h u = (
        λ e.
            ⊎_elim
            (λ f. let a = sym (ap (λ (r : Returned). r.answer) (ran f).0) ∙ e.0 in
            absurd (u (subst (OfRun W) a (of-run W i (shared_ran_by W places nowhere i)))))
            (λ z. let w = (turned-away z).0 in
            let a : (indexed_refused_by W g i x).answer ≡ n = sym (ap (λ (r : Returned). r.answer) w) ∙ e.0 in
            let c : (indexed_refused_by W g i x).place ≡ k = sym (ap (λ (r : Returned). r.place) w) ∙ e.1 in
            λ j. record { answer = a j; place = c j })
            either,
        λ e.
            let w = (turned-away (λ z. h (sym (answer-of W e) ∙ z))).0 in
            (ap (λ (r : Returned). r.answer) w ∙ answer-of W e, ap (λ (r : Returned). r.place) w ∙ ap (λ (c : Checked). c.place) e),
      )

      -- the same in plain facts
      by-facts : (n k : ℕ) → 1 < n → (5 < n → n < 9 → ⊥) → n ≢ 12 → {A : Type 0}
          → (indexed_refused_by W g i x ≡ checked n k) ↔ (Unit {0} × A) → ((o.answer ≡ n) × (o.place ≡ k)) ↔ A
      by-facts n k l m t f =
          let v = by-verdict n k (λ e. omega (arith, e)) (not-ran n l m t) in
          (λ e. (f.0 (v.0 e)).1, λ a. v.1 (f.1 (tt, a)))

      by_answer : (n : ℕ) → 1 < n → (5 < n → n < 9 → ⊥) → n ≢ 12 → (o.answer ≡ n) ↔ ((indexed_refused_by W g i x).answer ≡ n)
      by_answer n l m t = (
        λ e. answer-of W ((by-verdict n o.place (λ e. omega (arith, e)) (not-ran n l m t)).0 (e, refl)),
        λ e.
            ((by-verdict n (indexed_refused_by W g i x).place (λ e. omega (arith, e)) (not-ran n l m t)).1
            (λ j. record { answer = e j; place = (indexed_refused_by W g i x).place })).0,
      )

  pub refuses-sizes : promises.RefusesSizes W
  refuses-sizes g i x o s b y p =
      let v = by_answer g i x o s b y p 2 (omega arith) (λ l m. omega arith) (λ e. omega (arith, e)) in
      let f = (one-judged g i x).by-sizes in
      (λ e. f.0 (v.0 e) tt, λ n. v.1 (f.1 (λ u. n)))

  pub refuses-entry : promises.RefusesEntry W
  refuses-entry g i x o s b y n k l m p =
      let v = judged-entry (one-judged g i x) n k l m in
      let f = by-facts g i x o s b y p n k (omega arith) (λ h u. omega arith) (λ e. omega (arith, e)) v in
      (λ e. let h = f.0 e in (h.0, h.1.0, h.1.1), λ h. f.1 (h.0, (h.1, h.2)))

  pub refuses-node : promises.RefusesNode W
  refuses-node g i x o s b y k p =
      let v = judged-node (one-judged g i x) k in
      let f = by-facts g i x o s b y p 4 k (omega arith) (λ l m. omega arith) (λ e. omega (arith, e)) v in
      (λ e. let h = f.0 e in (h.0, h.1.0, h.1.1), λ h. f.1 (h.0, (h.1, h.2)))

  pub refuses-disobeying-entry : promises.RefusesDisobeyingEntry W
  refuses-disobeying-entry g i x o s b y k p =
      let v = judged-ten (one-judged (some g) i x) k in
      let f = by-facts (some g) i x o s b y p 10 k (omega arith) (λ l m. omega arith) (λ e. omega (arith, e)) v in
      (λ e. let h = f.0 e in (h.0, h.1.0, h.1.1.0, h.1.1.1.1), λ h. f.1 (h.0, (h.1, (h.2, (refl, h.3)))))

  pub refuses-disobeying-node : promises.RefusesDisobeyingNode W
  refuses-disobeying-node g i x o s b y k p =
      let v = judged-eleven (one-judged (some g) i x) k in
      let f = by-facts (some g) i x o s b y p 11 k (omega arith) (λ l m. omega arith) (λ e. omega (arith, e)) v in (
        λ e. let h = f.0 e in (h.0, h.1.0, h.1.1.0, h.1.1.1.0, h.1.1.1.1.1),
        λ h. f.1 (h.0, (h.1, (h.2, (h.3, (refl, h.4))))),
      )

  pub refuses-twin : promises.RefusesTwin W
  refuses-twin g i x o s b y k p =
      by-facts g i x o s b y p 21 k (omega arith) (λ l m. omega arith) (λ e. omega (arith, e)) ((one-judged g i x).by-twin k)

  pub refuses-start : promises.RefusesStart W
  refuses-start g i x o s b y p =
      let v = by_answer g i x o s b y p 5 (omega arith) (λ l m. omega arith) (λ e. omega (arith, e)) in
      let f = (one-judged g i x).by-start in (
        λ e. ((f (indexed_refused_by W g i x).place).0 (λ j. record { answer = v.0 e j; place = (indexed_refused_by W g i x).place })).1.1,
        λ h. v.1 (answer-of W ((f 0).1 (refl, (tt, h)))),
      )

  pub accepts : promises.Accepts W
  accepts = one-accepts

  pub runs-shared : promises.RunsShared W
  runs-shared = ran

  pub writes_nothing : promises.WritesNothing W
  writes_nothing g i x o s b y p n =
      ⊎_elim (λ f. absurd (n f))
      (λ z. let w = turned-away g i x o s b y p z in
      (as-given W i o s b w.0, ap (λ (r : Returned). r.store) w.0, ap (λ (r : Returned). r.units) w.0, w.1))
      (either g i x)

  -- ---- many subjects

  pub agreeing-many : promises.AgreeingMany W
  agreeing-many g c x r r' rs rs' s s' y y' p q =
      let e : indexed_many_at_return r rs s y ≡ indexed_many_at_return r' rs' s' y' = p ∙ sym q in (
        (λ j. record { answer = (e j).answer; place = (e j).place }),
        ap (λ (m : IndexedManyReturned). m.results) e,
        ap (λ (m : IndexedManyReturned). m.store) e,
        ap (λ (m : IndexedManyReturned). m.index) e,
      )

  module _ (g : Option (List ℕ)) (c : Module) (x : List ℕ) where
    list-plain : (eqb (length c.results) (5 * length c.subjects) ≡ true) ↔ ListFits c
    list-plain = (eqb-true _ _, eq-eqb _ _)

    many-judged : Judged g (whole c) x (ListFits c) (StartsFit c) (indexed_many_refused_by W g c x)
    unfolding indexed_many_refused_by
    many-judged =
        judged g (whole c) x (eqb (length c.results) (5 * length c.subjects))
        (starts_fit c.table c.bindings c.mark c.start c.subjects) (ListFits c) (StartsFit c) list-plain (starts-plain W g c)

    abbrev turns : IndexedManyReturned
    turns =
        let t = indexed_in_turn_by W g c c.store x c.mark c.subjects in
        indexed_many_at_return (checked 0 0) t.results t.store t.index

    -- refused, or run in turn
    many-way : (z : Bool) → eqb (indexed_many_refused_by W g c x).answer 0 ≡ z
        → indexed_many_of_by W g c x ≡ (if z then turns else indexed_many_at_return (indexed_many_refused_by W g c x) c.results c.store x)
    unfolding indexed_many_of_by
    many-way z e = rw e

    module _ (r : Checked) (rs s y : List ℕ) (p : RunsManyIndexed W g c x r rs s y) where
      many-away : (indexed_many_refused_by W g c x).answer ≢ 0
          → (r ≡ indexed_many_refused_by W g c x) × (rs ≡ c.results) × (s ≡ c.store) × (y ≡ x)
      many-away n =
          let e = p ∙ many-way false (ne_eqb _ 0 n) in (
            (λ j. record { answer = (e j).answer; place = (e j).place }),
            ap (λ (m : IndexedManyReturned). m.results) e,
            ap (λ (m : IndexedManyReturned). m.store) e,
            ap (λ (m : IndexedManyReturned). m.index) e,
          )

      many-ran : (indexed_many_refused_by W g c x).answer ≡ 0 → r ≡ checked 0 0
      many-ran z =
          let e = p ∙ many-way true (eq-eqb _ 0 z) in
          λ j. record { answer = (e j).answer; place = (e j).place }

      -- what comes back is the verdict
      verdict-back : r ≡ indexed_many_refused_by W g c x
      verdict-back = go (eqb (indexed_many_refused_by W g c x).answer 0) refl
        where
          go : (z : Bool) → eqb (indexed_many_refused_by W g c x).answer 0 ≡ z → r ≡ indexed_many_refused_by W g c x
          go true e = many-ran (eqb-true _ _ e) ∙ sym (many-judged.by_zero (eqb-true _ _ e))
          go false e = (many-away (eqb-false _ _ e)).0

      -- so the verdict's laws are its own
      many-back : Judged g (whole c) x (ListFits c) (StartsFit c) r
      many-back = subst (Judged g (whole c) x (ListFits c) (StartsFit c)) (sym verdict-back) many-judged

  pub refuses-sizes-many : promises.RefusesSizesMany W
  refuses-sizes-many g c x r rs s y p = (many-back g c x r rs s y p).by-sizes

  pub refuses-entry-many : promises.RefusesEntryMany W
  refuses-entry-many g c x r rs s y n k l m p =
      let f = judged-entry (many-back g c x r rs s y p) n k l m in
      (λ e. let h = f.0 e in (h.0, h.1.0, h.1.1.0, h.1.1.1), λ h. f.1 (h.0, (h.1, (h.2, h.3))))

  pub refuses-node-many : promises.RefusesNodeMany W
  refuses-node-many g c x r rs s y k p =
      let f = judged-node (many-back g c x r rs s y p) k in
      (λ e. let h = f.0 e in (h.0, h.1.0, h.1.1.0, h.1.1.1), λ h. f.1 (h.0, (h.1, (h.2, h.3))))

  pub refuses-disobeying-entry-many : promises.RefusesDisobeyingEntryMany W
  refuses-disobeying-entry-many g c x r rs s y k p =
      let f = judged-ten (many-back (some g) c x r rs s y p) k in (
        λ e. let h = f.0 e in let u = h.1.1 in (h.0, h.1.0, u.0, u.1.0, u.1.1.1),
        λ h. f.1 (h.0, (h.1, (h.2, (h.3, (refl, h.4))))),
      )

  pub refuses-disobeying-node-many : promises.RefusesDisobeyingNodeMany W
  refuses-disobeying-node-many g c x r rs s y k p =
      let f = judged-eleven (many-back (some g) c x r rs s y p) k in (
        λ e. let h = f.0 e in let u = h.1.1 in (h.0, h.1.0, u.0, u.1.0, u.1.1.0, u.1.1.1.1),
        λ h. f.1 (h.0, (h.1, (h.2, (h.3, (h.4, (refl, h.5)))))),
      )

  pub refuses-twin-many : promises.RefusesTwinMany W
  refuses-twin-many g c x r rs s y k p =
      let f = (many-back g c x r rs s y p).by-twin k in
      (λ e. let h = f.0 e in (h.0, h.1.0, h.1.1), λ h. f.1 (h.0, (h.1, h.2)))

  pub refuses-start-many : promises.RefusesStartMany W
  refuses-start-many g c x r rs s y p =
      let f = (many-back g c x r rs s y p).by-start in (
        λ e. let h = ((f r.place).0 (λ j. record { answer = e j; place = r.place })).1 in (h.0, h.1.0, h.1.1, h.1.2),
        λ h. answer-of W ((f 0).1 (refl, (h.0, (h.1, h.2, h.3)))),
      )

  pub accepts-many : promises.AcceptsMany W
  accepts-many g c x r rs s y p =
      let f = (many-back g c x r rs s y p).by-nothing in
      (λ e. let h = f.0 e in (h.0, h.1.0, h.1.1, h.1.2), λ h. f.1 (h.0, (h.1, h.2, h.3)))

  pub writes-nothing-many : promises.WritesNothingMany W
  writes-nothing-many g c x r rs s y p n = many-away g c x r rs s y p (λ z. n (answer-of W (many-ran g c x r rs s y p z)))

  -- ---- 21

  module _ (g : Option (List ℕ)) (i : Input) where
    run-not-21 : (run_with_by W g i).answer ≢ 21
    unfolding run_with_by
    run-not-21 = go (eqb (verdict_with W g i).answer 0)
      where
        go : (z : Bool) → (if z then returned_by W i (ran_by W places nowhere i) else refusing i (verdict_with W g i)).answer ≢ 21
        go true e =
            not-ran 21 (omega arith) (λ l m. omega arith) (λ e. omega (arith, e))
            (subst (OfRun W) e (of-run W i (ran_by W places nowhere i)))
        go false e = plain-not-21 g i (verdict_with W g i).place (λ j. record { answer = e j; place = (verdict_with W g i).place })

  pub no-twin-no-21 : promises.NoTwinNo21 W
  no-twin-no-21 = record {
    indexed = λ g i x o s b y p d e.
        let l = ((refuses-twin g i x o s b y o.place p).0 (e, refl)).1 in
        d l.twin.0 o.place l.twin.1 l.inside l.twin.2;
    indexed-many = λ g c x r rs s y p d e.
        let l = ((refuses-twin-many g c x r rs s y r.place p).0 (λ j. record { answer = e j; place = r.place })).2 in
        d l.twin.0 r.place l.twin.1 l.inside l.twin.2;
    run = λ g i o s b p e. run-not-21 g i (sym (ap (λ (r : Returned). r.answer) p) ∙ e);
    many = λ g c r rs s p e.
        let f = (subjects.refuses-entry W g c r rs s 21 r.place (omega arith) p).0 (λ j. record { answer = e j; place = r.place }) in
        omega (arith, (faulty-within W c.table r.place 21 f.4).1);
  }
