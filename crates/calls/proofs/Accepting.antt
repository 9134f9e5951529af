-- Which refusal is given, both ways: the tests stand in order, and the first that is not passed decides. So a run that is
-- not refused is one that the meaning accepts. Assumes nothing.
use mathlib.Core.Path.{◌≡◌, refl, ap, sym, ◌∙◌, subst}
use mathlib.Core.Bool.{Bool, true, false, ◌&&◌, true≢false, false≢true}
use mathlib.Core.Option.{Option, none, some}
use mathlib.Core.Logic.{◌≢◌, ◌↔◌, ◌⊎◌, inl, inr, ⊎_elim}
use mathlib.Core.List.{List}
use Prim.Native.Nat.{ℕ, ◌≤◌, ◌<◌}
use native.Mathlib.Nat.{eq-or-lt_of_le}
use native.Mathlib.Omega.{arith}
use lib.Dec.{leb, ltb, eqb}
use lib.ListN.{length, get_or, get_or-eq_default}
use borrow.Author.Tests.{leb-true, ltb-true, eqb-true, eqb-false, le-leb, lt-ltb, eq-eqb, ne_eqb}
use Rattle.std.specs.Prelude.{if◌then◌else◌}
use Rattle.words.specs.Tests.{rejected}
use Rattle.words.specs.Words.{rows}
use Rattle.words.proofs.Tests.{below-or-from, and-true, every_true}
use Rattle.checks.specs.Kinds.{sort_of, same, variables_by}
use Rattle.checks.specs.Good.{kind_of, fault_by, good_entry_by, good_node}
use Rattle.checks.specs.Plain.{FaultyBy}
use Rattle.checks.specs.Checked.{checked, found, table_length_fits, store_length_fits, table_checked_by, store_checked}
use Rattle.checks.specs.Checked.{Checked}
use Rattle.checks.specs.declared.kinds.Sort.TheVariants.{Strategy}
use Rattle.checks.specs.Promises.{AllGood, Lowest}
use Rattle.checks.proofs.Tables.{same_true, same-itself}
use Rattle.checks.proofs.Good.{table_length_fits-plain, store_length_fits-plain, faulty-within}
use Rattle.checks.specs.Signature.{Signature, entry_obeys, node_obeys, entries_checked, nodes_checked}
use Rattle.checks.proofs.Promises.{Known, passes-all, refuses-length, rejects-at, known, none-good, some-lowest, table_passes, table_rejects, table_refuses, store_passes, fault_plain}
use Rattle.checks.proofs.Obeying.{signature_plain}
use Rattle.meaning.specs.Store.{Input, AcceptedBy}
use Rattle.calls.specs.Refused.{sizes_fit_by, bound_below, is_start, subjects_below, start_fits, or_else, lent_fits, signature_obeyed, words_refused_by, refused_with_by, refused_by}
use Rattle.calls.specs.Run.{input}
use Rattle.calls.specs.Promises.{SizesFit, EntriesGood, NodesGood, StartFits, Refusal, of-sizes, of_entry, of_node, of-start}
use Rattle.calls.specs.Signed.{SignedRefusal, as-without, of-disobeying-entry, of-disobeying-node}

module _ (W : ℕ) where
  pub answer-of : {c d : Checked} → c ≡ d → c.answer ≡ d.answer
  answer-of e = ap (λ (c : Checked). c.answer) e

  place_of : {c d : Checked} → c ≡ d → c.place ≡ d.place
  place_of e = ap (λ (c : Checked). c.place) e

  -- ---- one test and what follows it

  -- a test is passed, where P holds, or it gives an answer with a place, of which B holds
  pub data Tested (P : Type 0) (B : ℕ → ℕ → Type 0) : Checked → Type 0 where
    passed : P → Tested P B (checked 0 0)
    refusing : (n p : ℕ) → B n p → Tested P B (checked n p)

  -- a place is given with the answers 4, 10, 11 and 13 to 17 alone
  abbrev PlacedAnswer : Checked → Type 0
  PlacedAnswer c = c.answer ≢ 4 → c.answer ≢ 10 → c.answer ≢ 11 → c.answer ≤ 12 → c.place ≡ 0

  -- a refusal is not 0, a test is not both passed and refusing, and it refuses in one way
  pub record Test (P : Type 0) (B : ℕ → ℕ → Type 0) : Type 0 where
    pub some : (n p : ℕ) → B n p → 0 < n
    pub not-both : (n p : ℕ) → B n p → P → ⊥
    pub one : (n p m q : ℕ) → B n p → B m q → checked n p ≡ checked m q

  module _ {P : Type 0} {B : ℕ → ℕ → Type 0} (T : Test P B) where
    -- a refusal is not looked past
    stays : (n p : ℕ) (d : Checked) → B n p → or_else (checked n p) d ≡ checked n p
    stays n p d y = rw (ne_eqb n 0 (λ e. omega (arith, T.some n p y, e)))

    same-refusal : (n p m q : ℕ) → B n p → checked n p ≡ checked m q → B m q
    same-refusal n p m q y e = subst (λ (c : Checked). B c.answer c.place) e y

    -- the last test
    pub last-passes : {c : Checked} → Tested P B c → (c ≡ checked 0 0) ↔ P
    last-passes (passed x) = (λ e. x, λ y. refl)
    last-passes (refusing n p y) = (λ e. absurd (omega (arith, T.some n p y, answer-of e)), λ x. absurd (T.not-both n p y x))

    pub last-refuses : {c : Checked} (n p : ℕ) → 0 < n → Tested P B c → (c ≡ checked n p) ↔ B n p
    last-refuses n p l (passed x) = (λ e. absurd (omega (arith, answer-of e)), λ y. absurd (T.not-both n p y x))
    last-refuses n p l (refusing m q y) = (same-refusal m q n p y, T.one m q n p y)

    -- the test's own answer, where what follows does not give it too
    pub decides : {c : Checked} (d : Checked) (n p : ℕ) → Tested P B c → (P → d.answer ≢ n) → (or_else c d ≡ checked n p) ↔ B n p
    decides d n p (passed x) k = (λ e. absurd (k x (answer-of e)), λ y. absurd (T.not-both n p y x))
    decides d n p (refusing m q y) k =
        (λ e. same-refusal m q n p y (sym (stays m q d y) ∙ e), λ z. stays m q d y ∙ T.one m q n p y z)

    -- an answer that the test does not give is that of what follows
    pub goes_on : {c : Checked} (d : Checked) (n p : ℕ) → (B n p → ⊥) → Tested P B c → (or_else c d ≡ checked n p) ↔ (P × (d ≡ checked n p))
    goes_on d n p k (passed x) = (λ e. (x, e), λ e. e.1)
    goes_on d n p k (refusing m q y) =
        (λ e. absurd (k (same-refusal m q n p y (sym (stays m q d y) ∙ e))), λ e. absurd (T.not-both m q y e.0))

    pub gives-not : {c : Checked} (d : Checked) (n : ℕ) → ((p : ℕ) → B n p → ⊥) → Tested P B c → (P → d.answer ≢ n) → (or_else c d).answer ≢ n
    gives-not d n k (passed x) h e = h x e
    gives-not d n k (refusing m q y) h e = k q (subst (λ (m : ℕ). B m q) (sym (answer-of (stays m q d y)) ∙ e) y)

    placed_on : {c : Checked} (d : Checked) → Tested P B c → ((n p : ℕ) → B n p → PlacedAnswer (checked n p)) → (P → PlacedAnswer d)
        → PlacedAnswer (or_else c d)
    placed_on d (passed x) f g = g x
    placed_on d (refusing m q y) f g = subst PlacedAnswer (sym (stays m q d y)) (f m q y)

  -- a test on a Bool that stands for a fact, and its refusal
  abbrev pub Without : ℕ → Type 0 → ℕ → ℕ → Type 0
  Without a P n p = (n ≡ a) × (p ≡ 0) × (P → ⊥)

  pub fact-tested : (b : Bool) (a : ℕ) (P : Type 0) → (b ≡ true) ↔ P → Tested P (Without a P) (if b then checked 0 0 else checked a 0)
  fact-tested true a P f = passed (f.0 refl)
  fact-tested false a P f = refusing a 0 (refl, refl, λ x. false≢true (f.1 x))

  pub fact-test : (a : ℕ) (P : Type 0) → 0 < a → Test P (Without a P)
  fact-test a P l = record {
    some = λ n p y. omega (arith, y.0);
    not-both = λ n p y x. y.2 x;
    one = λ n p m q y z j. record { answer = (y.0 ∙ sym z.0) j; place = (y.1 ∙ sym z.1) j };
  }

  -- the lowest bad number is one, and there is none where all are good
  lowest-not-all : (good : ℕ → Bool) (n p : ℕ) → Lowest good n p → AllGood good n → ⊥
  lowest-not-all good n p l h = true≢false (sym (h p l.inside) ∙ l.bad)

  lowest-one : (good : ℕ → Bool) (n p q : ℕ) → Lowest good n p → Lowest good n q → p ≡ q
  lowest-one good n p q l m =
      ⊎_elim (λ k. absurd (true≢false (sym (m.before p k) ∙ l.bad)))
      (λ k. ⊎_elim (λ e. sym e) (λ h. absurd (true≢false (sym (l.before q h) ∙ m.bad))) (eq-or-lt_of_le k))
      (below-or-from p q)

  -- a pair whose second part is the same fact in other words, where the first holds
  pub under : {A P B C : Type 0} → A ↔ (P × B) → (P → B ↔ C) → A ↔ (P × C)
  under f g = (λ x. ((f.0 x).0, (g (f.0 x).0).0 (f.0 x).1), λ y. f.1 (y.0, (g y.0).1 y.1))

  -- the same under a fact that stays
  pub within : {P B C : Type 0} → (P → B ↔ C) → (P × B) ↔ (P × C)
  within g = (λ x. (x.0, (g x.0).0 x.1), λ y. (y.0, (g y.0).1 y.1))

  -- a search for the lowest bad number, with the answer a
  abbrev pub LowestBad : ℕ → (ℕ → Bool) → ℕ → ℕ → ℕ → Type 0
  LowestBad a good m n p = (n ≡ a) × Lowest good m p

  pub lowest-test : (a : ℕ) (good : ℕ → Bool) (m : ℕ) → 0 < a → Test (AllGood good m) (LowestBad a good m)
  lowest-test a good m l = record {
    some = λ n p y. omega (arith, y.0);
    not-both = λ n p y. lowest-not-all good m p y.1;
    one = λ n p k q y z j. record { answer = (y.0 ∙ sym z.0) j; place = lowest-one good m p q y.1 z.1 j };
  }

  pub lowest-tested : (a : ℕ) (good : ℕ → Bool) (m : ℕ) → Tested (AllGood good m) (LowestBad a good m) (found a (rejected good 0 m))
  lowest-tested a good m = go (rejected good 0 m) refl
    where
      go : (o : Option ℕ) → rejected good 0 m ≡ o → Tested (AllGood good m) (LowestBad a good m) (found a o)
      go none e = passed ((none-good good m).0 e)
      go (some p) e = refusing a p (refl, (some-lowest good m p).0 e)

  -- what passes a test in any case
  nothing-refused : Test (Unit {0}) (λ n p. ⊥)
  nothing-refused = record { some = λ n p y. absurd y; not-both = λ n p y x. y; one = λ n p m q y. absurd y }

  -- one test after another, in whichever way they are put together
  pub in-turn : (c d e : Checked) → or_else (or_else c d) e ≡ or_else c (or_else d e)
  in-turn c d e = go (eqb c.answer 0) refl
    where
      go : (z : Bool) → eqb c.answer 0 ≡ z → or_else (or_else c d) e ≡ or_else c (or_else d e)
      go true q = rw q
      go false q = rw (q, q)

  -- ---- a lent signature

  -- what it asks; nothing where none is lent
  abbrev pub LentFits : Option (List ℕ) → Type 0
  LentFits none = Unit {0}
  LentFits (some g) = Signature g

  abbrev pub EntriesObey : Option (List ℕ) → Input → Type 0
  EntriesObey none i = Unit {0}
  EntriesObey (some g) i = AllGood (entry_obeys g i.table) (rows i.table)

  abbrev pub NodesObey : Option (List ℕ) → Input → Type 0
  NodesObey none i = Unit {0}
  NodesObey (some g) i = AllGood (node_obeys g i.store) i.mark

  -- what it refuses
  abbrev pub EntryDisobeys : Option (List ℕ) → Input → ℕ → ℕ → Type 0
  EntryDisobeys none i n p = ⊥
  EntryDisobeys (some g) i n p = LowestBad 10 (entry_obeys g i.table) (rows i.table) n p

  abbrev pub NodeDisobeys : Option (List ℕ) → Input → ℕ → ℕ → Type 0
  NodeDisobeys none i n p = ⊥
  NodeDisobeys (some g) i n p = LowestBad 11 (node_obeys g i.store) i.mark n p

  abbrev entries_test : Option (List ℕ) → Input → Checked
  entries_test none i = checked 0 0
  entries_test (some g) i = entries_checked g i.table

  abbrev nodes_test : Option (List ℕ) → Input → Checked
  nodes_test none i = checked 0 0
  nodes_test (some g) i = nodes_checked g i.store i.mark

  obeyed-in-turn : (g : Option (List ℕ)) (i : Input) → signature_obeyed g i.table i.store i.mark ≡ or_else (entries_test g i) (nodes_test g i)
  obeyed-in-turn none i = refl
  obeyed-in-turn (some g) i = refl

  lent-plain : (g : Option (List ℕ)) → (lent_fits g ≡ true) ↔ LentFits g
  lent-plain none = (λ e. tt, λ x. refl)
  lent-plain (some g) = signature_plain g

  entries-test : (g : Option (List ℕ)) (i : Input) → Test (EntriesObey g i) (EntryDisobeys g i)
  entries-test none i = nothing-refused
  entries-test (some g) i = lowest-test 10 (entry_obeys g i.table) (rows i.table) (omega arith)

  entries-tested : (g : Option (List ℕ)) (i : Input) → Tested (EntriesObey g i) (EntryDisobeys g i) (entries_test g i)
  unfolding entries_checked
  entries-tested none i = passed tt
  entries-tested (some g) i = lowest-tested 10 (entry_obeys g i.table) (rows i.table)

  nodes-test : (g : Option (List ℕ)) (i : Input) → Test (NodesObey g i) (NodeDisobeys g i)
  nodes-test none i = nothing-refused
  nodes-test (some g) i = lowest-test 11 (node_obeys g i.store) i.mark (omega arith)

  nodes-tested : (g : Option (List ℕ)) (i : Input) → Tested (NodesObey g i) (NodeDisobeys g i) (nodes_test g i)
  unfolding nodes_checked
  nodes-tested none i = passed tt
  nodes-tested (some g) i = lowest-tested 11 (node_obeys g i.store) i.mark

  entry-ten : (g : Option (List ℕ)) (i : Input) (n p : ℕ) → EntryDisobeys g i n p → n ≡ 10
  entry-ten none i n p y = absurd y
  entry-ten (some g) i n p y = y.0

  node-eleven : (g : Option (List ℕ)) (i : Input) (n p : ℕ) → NodeDisobeys g i n p → n ≡ 11
  node-eleven none i n p y = absurd y
  node-eleven (some g) i n p y = y.0

  -- ---- the tests of a run

  -- the start is in the table and a strategy; no binding exceeds the mark
  pub is-start-plain : (t : List ℕ) (start : ℕ) → (is_start t start ≡ true) ↔ ((start < rows t) × (sort_of (kind_of t start) ≡ Strategy))
  unfolding is_start
  is-start-plain t start = (
    λ h. let x : (ltb start (rows t) ≡ true) × _ = and-true _ _ h in (ltb-true _ _ x.0, same_true _ _ x.1),
    λ f. rw (lt-ltb start (rows t) f.0, f.1),
  )

  pub bound-plain : (b : List ℕ) (mark : ℕ) → (bound_below b mark ≡ true) ↔ ((v : ℕ) → get_or b v 0 ≤ mark)
  unfolding bound_below
  bound-plain b mark = (
    λ h v.
        ⊎_elim (λ l. leb-true _ _ ((every_true (λ v. leb (get_or b v 0) mark) 0 (length b)).0 h v (omega arith) (omega arith)))
        (λ l. omega (arith, get_or-eq_default b 0 l))
        (below-or-from v (length b)),
    λ f. (every_true (λ v. leb (get_or b v 0) mark) 0 (length b)).1 (λ v l m. le-leb _ _ (f v)),
  )

  pub subjects-plain : (ks : List ℕ) (mark : ℕ) → (subjects_below ks mark ≡ true) ↔ ((j : ℕ) → j < length ks → get_or ks j 0 < mark)
  unfolding subjects_below
  subjects-plain ks mark = (
    λ h j l. ltb-true _ _ ((every_true (λ j. ltb (get_or ks j 0) mark) 0 (length ks)).0 h j (omega arith) (omega arith)),
    λ f. (every_true (λ j. ltb (get_or ks j 0) mark) 0 (length ks)).1 (λ j l m. lt-ltb _ _ (f j (omega arith))),
  )

  module _ (i : Input) where
    -- the tests of the sizes and of the start are the plain facts
    sizes-plain : (sizes_fit_by W i.table i.store i.bindings i.mark ≡ true) ↔ SizesFit W i
    unfolding sizes_fit_by
    sizes-plain = (
      λ h.
          let x : (table_length_fits (length i.table) ≡ true) × _ = and-true _ _ h in
          let y : (store_length_fits (length i.store) ≡ true) × _ = and-true _ _ x.1 in
          let z : (eqb (length i.bindings) (variables_by W) ≡ true) × _ = and-true _ _ y.1 in
          record {
            table = (table_length_fits-plain _).0 x.0;
            store = (store_length_fits-plain _).0 y.0;
            bindings = eqb-true _ _ z.0;
            mark = leb-true _ _ z.1;
          },
      λ z.
          rw (
            (table_length_fits-plain (length i.table)).1 z.table,
            (store_length_fits-plain (length i.store)).1 z.store,
            eq-eqb (length i.bindings) (variables_by W) z.bindings,
            le-leb i.mark (rows i.store) z.mark,
          ),
    )

    pub start_plain : (start_fits i.table i.bindings i.mark i.start i.subject ≡ true) ↔ StartFits i
    unfolding start_fits
    start_plain = (
      λ h.
          let x : (is_start i.table i.start ≡ true) × _ = and-true _ _ h in
          let z : (ltb i.subject i.mark ≡ true) × _ = and-true _ _ x.1 in
          let s = (is-start-plain i.table i.start).0 x.0 in
          record { inside = s.0; strategy = s.1; subject = ltb-true _ _ z.0; bound = (bound-plain i.bindings i.mark).0 z.1 },
      λ f.
          rw (
            (is-start-plain i.table i.start).1 (f.inside, f.strategy),
            lt-ltb i.subject i.mark f.subject,
            (bound-plain i.bindings i.mark).1 f.bound,
          ),
    )

  module _ (g : Option (List ℕ)) (i : Input) where
    abbrev pub verdict_with : Checked
    verdict_with = refused_with_by W g i.table i.store i.bindings i.mark i.start i.subject

    -- what is asked of the sizes, the signature's last
    abbrev pub AllFit : Type 0
    AllFit = SizesFit W i × LentFits g

    all_plain : (sizes_fit_by W i.table i.store i.bindings i.mark && lent_fits g ≡ true) ↔ AllFit
    all_plain = (
      λ h.
          let x : (sizes_fit_by W i.table i.store i.bindings i.mark ≡ true) × _ = and-true _ _ h in
          ((sizes-plain i).0 x.0, (lent-plain g).0 x.1),
      λ z. rw ((sizes-plain i).1 z.0) ((lent-plain g).1 z.1),
    )

    abbrev sizes_test : Checked
    sizes_test = if sizes_fit_by W i.table i.store i.bindings i.mark && lent_fits g then checked 0 0 else checked 2 0

    abbrev test_of_start : Checked
    test_of_start = if start_fits i.table i.bindings i.mark i.start i.subject then checked 0 0 else checked 5 0

    abbrev after_entries : Checked
    after_entries = or_else (nodes_test g i) test_of_start

    abbrev after_store : Checked
    after_store = or_else (entries_test g i) after_entries

    abbrev after_table : Checked
    after_table = or_else (store_checked i.store i.mark) after_store

    abbrev after_sizes : Checked
    after_sizes = or_else (table_checked_by W i.table) after_table

    in_order : verdict_with ≡ or_else sizes_test after_sizes
    unfolding refused_with_by words_refused_by
    in_order = go (sizes_fit_by W i.table i.store i.bindings i.mark && lent_fits g)
      where
        t : Checked
        t = table_checked_by W i.table

        s : Checked
        s = store_checked i.store i.mark

        o : Checked
        o = signature_obeyed g i.table i.store i.mark

        go : (z : Bool) → or_else (if z then or_else t (or_else s o) else checked 2 0) test_of_start ≡ or_else (if z then checked 0 0 else checked 2 0) after_sizes
        go true =
            in-turn t (or_else s o) test_of_start ∙ ap (or_else t) (in-turn s o test_of_start
            ∙ ap (or_else s) (ap (λ (c : Checked). or_else c test_of_start) (obeyed-in-turn g i) ∙ in-turn (entries_test g i) (nodes_test g i) test_of_start))
        go false = refl

    -- what each test refuses, with its answer and its place
    abbrev BadEntry : ℕ → ℕ → Type 0
    BadEntry n p = Lowest (good_entry_by W i.table) (rows i.table) p × FaultyBy W i.table p n

    abbrev BadNode : ℕ → ℕ → Type 0
    BadNode n p = LowestBad 4 (good_node i.store) i.mark n p

    sizes-test : Test AllFit (Without 2 AllFit)
    sizes-test = fact-test 2 AllFit (omega arith)

    table-test : Test (EntriesGood W i) BadEntry
    table-test = record {
      some = λ n p y. omega (arith, (faulty-within W i.table p n y.1).0);
      not-both = λ n p y. lowest-not-all _ _ p y.0;
      one = λ n p m q y z.
          let e : p ≡ q = lowest-one _ _ p q y.0 z.0 in
          let f : fault_by W i.table p ≡ n = (fault_plain W i.table p n (omega (arith, (faulty-within W i.table p n y.1).0))).1 y.1 in
          let g : fault_by W i.table q ≡ m = (fault_plain W i.table q m (omega (arith, (faulty-within W i.table q m z.1).0))).1 z.1 in
          let h : n ≡ m = sym f ∙ ap (fault_by W i.table) e ∙ g in
          λ j. record { answer = h j; place = e j };
    }

    store-test : Test (NodesGood i) BadNode
    store-test = lowest-test 4 (good_node i.store) i.mark (omega arith)

    start_test : Test (StartFits i) (Without 5 (StartFits i))
    start_test = fact-test 5 (StartFits i) (omega arith)

    sizes-tested : Tested AllFit (Without 2 AllFit) sizes_test
    sizes-tested = fact-tested _ 2 AllFit all_plain

    table-tested : SizesFit W i → Tested (EntriesGood W i) BadEntry (table_checked_by W i.table)
    table-tested z = go (known W i.table) refl
      where
        go : {c : Checked} → Known c → table_checked_by W i.table ≡ c → Tested (EntriesGood W i) BadEntry c
        go passes-all e = passed ((table_passes W i.table).0 (answer-of e)).1
        go refuses-length e = absurd ((table_refuses W i.table).0 e z.table)
        go (rejects-at n p l m) e = refusing n p ((table_rejects W i.table n p l).0 e).1

    store-tested : SizesFit W i → Tested (NodesGood i) BadNode (store_checked i.store i.mark)
    unfolding store_checked
    store-tested z =
        rw ((store_length_fits-plain (length i.store)).1 z.store, le-leb i.mark (rows i.store) z.mark)
        (lowest-tested 4 (good_node i.store) i.mark)

    start-tested : Tested (StartFits i) (Without 5 (StartFits i)) test_of_start
    start-tested = fact-tested _ 5 (StartFits i) (start_plain i)

    -- ---- each answer, both ways

    -- the sizes are passed
    past-sizes : (n p : ℕ) → n ≢ 2 → (verdict_with ≡ checked n p) ↔ (AllFit × (after_sizes ≡ checked n p))
    past-sizes n p k =
        subst (λ (c : Checked). (c ≡ checked n p) ↔ (AllFit × (after_sizes ≡ checked n p))) (sym in_order)
        (goes_on sizes-test after_sizes n p (λ y. k y.0) sizes-tested)

    -- and so is the table
    past-table : (n p : ℕ) → n ≢ 2 → n ≤ 12 → (verdict_with ≡ checked n p) ↔ (AllFit × (EntriesGood W i × (after_table ≡ checked n p)))
    past-table n p k l =
        under (past-sizes n p k)
        (λ z. goes_on table-test after_table n p (λ y. omega (arith, (faulty-within W i.table p n y.1).0)) (table-tested z.0))

    -- and so is the store
    past-store : (n p : ℕ) → n ≢ 2 → n ≤ 12 → n ≢ 4 → (verdict_with ≡ checked n p) ↔ (AllFit × (EntriesGood W i × (NodesGood i × (after_store ≡ checked n p))))
    past-store n p k l m =
        under (past-table n p k l)
        (λ z. within (λ e. goes_on store-test after_store n p (λ y. m y.0) (store-tested z.0)))

    -- and so are the entries
    past-entries : (n p : ℕ) → n ≢ 2 → n ≤ 12 → n ≢ 4 → n ≢ 10
        → (verdict_with ≡ checked n p) ↔ (AllFit × (EntriesGood W i × (NodesGood i × (EntriesObey g i × (after_entries ≡ checked n p)))))
    past-entries n p k l m o =
        under (past-store n p k l m)
        (λ z. within (λ e. within (λ f. goes_on (entries-test g i) after_entries n p (λ y. o (entry-ten g i n p y)) (entries-tested g i))))

    -- and so are the nodes
    past-nodes : (n p : ℕ) → n ≢ 2 → n ≤ 12 → n ≢ 4 → n ≢ 10 → n ≢ 11
        → (verdict_with ≡ checked n p) ↔ (AllFit × (EntriesGood W i × (NodesGood i × (EntriesObey g i × (NodesObey g i × (test_of_start ≡ checked n p))))))
    past-nodes n p k l m o q =
        under (past-entries n p k l m o)
        (λ z. within (λ e. within (λ f. within (λ h. goes_on (nodes-test g i) test_of_start n p (λ y. q (node-eleven g i n p y)) (nodes-tested g i)))))

    -- what a test and those after it do not answer
    start-not : (n : ℕ) → n ≢ 0 → n ≢ 5 → test_of_start.answer ≢ n
    start-not n k l = go (start_fits i.table i.bindings i.mark i.start i.subject)
      where
        go : (f : Bool) → (if f then checked 0 0 else checked 5 0).answer ≢ n
        go true e = k (sym e)
        go false e = l (sym e)

    nodes-not : (n : ℕ) → n ≢ 0 → n ≢ 5 → n ≢ 11 → after_entries.answer ≢ n
    nodes-not n k l m = gives-not (nodes-test g i) test_of_start n (λ p y. m (node-eleven g i n p y)) (nodes-tested g i) (λ x. start-not n k l)

    entries-not : (n : ℕ) → n ≢ 0 → n ≢ 5 → n ≢ 11 → n ≢ 10 → after_store.answer ≢ n
    entries-not n k l m o = gives-not (entries-test g i) after_entries n (λ p y. o (entry-ten g i n p y)) (entries-tested g i) (λ x. nodes-not n k l m)

    store-not : SizesFit W i → (n : ℕ) → n ≢ 0 → n ≢ 5 → n ≢ 11 → n ≢ 10 → n ≢ 4 → after_table.answer ≢ n
    store-not z n k l m o q = gives-not store-test after_store n (λ p y. q y.0) (store-tested z) (λ x. entries-not n k l m o)

    pub refused-sizes : (p : ℕ) → (verdict_with ≡ checked 2 p) ↔ ((p ≡ 0) × (AllFit → ⊥))
    refused-sizes p =
        let f = decides sizes-test after_sizes 2 p sizes-tested
        (λ z. gives-not table-test after_table 2 (λ q y. omega (arith, (faulty-within W i.table q 2 y.1).0)) (table-tested z.0)
        (λ x. store-not z.0 2 (λ e. omega (arith, e)) (λ e. omega (arith, e)) (λ e. omega (arith, e)) (λ e. omega (arith, e)) (λ e. omega (arith, e)))) in
        (λ e. let y = f.0 (sym in_order ∙ e) in (y.1, y.2), λ y. in_order ∙ f.1 (refl, y.0, y.1))

    pub refused-entry : (n p : ℕ) → 12 < n
        → (verdict_with ≡ checked n p) ↔ (AllFit × (Lowest (good_entry_by W i.table) (rows i.table) p × FaultyBy W i.table p n))
    refused-entry n p l =
        under (past-sizes n p (λ e. omega (arith, e)))
        (λ z. decides table-test after_table n p (table-tested z.0)
        (λ x. store-not z.0 n (λ e. omega (arith, e)) (λ e. omega (arith, e)) (λ e. omega (arith, e)) (λ e. omega (arith, e)) (λ e. omega (arith, e))))

    pub refused-node : (p : ℕ) → (verdict_with ≡ checked 4 p) ↔ (AllFit × (EntriesGood W i × Lowest (good_node i.store) i.mark p))
    refused-node p =
        under (past-table 4 p (λ e. omega (arith, e)) (omega arith))
        (λ z. within (λ x. let f = decides store-test after_store 4 p (store-tested z.0)
        (λ h. entries-not 4 (λ e. omega (arith, e)) (λ e. omega (arith, e)) (λ e. omega (arith, e)) (λ e. omega (arith, e))) in
        (λ e. (f.0 e).1, λ y. f.1 (refl, y))))

    pub refused-ten : (p : ℕ) → (verdict_with ≡ checked 10 p) ↔ (AllFit × (EntriesGood W i × (NodesGood i × EntryDisobeys g i 10 p)))
    refused-ten p =
        under (past-store 10 p (λ e. omega (arith, e)) (omega arith) (λ e. omega (arith, e)))
        (λ z. within (λ x. within (λ y. decides (entries-test g i) after_entries 10 p (entries-tested g i)
        (λ o. nodes-not 10 (λ e. omega (arith, e)) (λ e. omega (arith, e)) (λ e. omega (arith, e))))))

    pub refused-eleven : (p : ℕ) → (verdict_with ≡ checked 11 p) ↔ (AllFit × (EntriesGood W i × (NodesGood i × (EntriesObey g i × NodeDisobeys g i 11 p))))
    refused-eleven p =
        under (past-entries 11 p (λ e. omega (arith, e)) (omega arith) (λ e. omega (arith, e)) (λ e. omega (arith, e)))
        (λ z. within (λ x. within (λ y. within (λ o. decides (nodes-test g i) test_of_start 11 p (nodes-tested g i)
        (λ o. start-not 11 (λ e. omega (arith, e)) (λ e. omega (arith, e)))))))

    pub refused-start : (p : ℕ) → (verdict_with ≡ checked 5 p) ↔ (AllFit × (EntriesGood W i × (NodesGood i × (EntriesObey g i × (NodesObey g i × ((p ≡ 0) × (StartFits i → ⊥)))))))
    refused-start p =
        under (past-nodes 5 p (λ e. omega (arith, e)) (omega arith) (λ e. omega (arith, e)) (λ e. omega (arith, e)) (λ e. omega (arith, e)))
        (λ z. within (λ x. within (λ y. within (λ o. within (λ h.
        let f = last-refuses start_test 5 p (omega arith) start-tested in (λ e. ((f.0 e).1, (f.0 e).2), λ y. f.1 (refl, y.0, y.1)))))))

    pub not-refused-plain : (verdict_with ≡ checked 0 0) ↔ (AllFit × (EntriesGood W i × (NodesGood i × (EntriesObey g i × (NodesObey g i × StartFits i)))))
    not-refused-plain =
        under (past-nodes 0 0 (λ e. omega (arith, e)) (omega arith) (λ e. omega (arith, e)) (λ e. omega (arith, e)) (λ e. omega (arith, e)))
        (λ z. within (λ x. within (λ y. within (λ o. within (λ h. last-passes start_test start-tested)))))

    -- a place is given with the answers 4, 10, 11 and 13 to 17 alone
    start-placed : PlacedAnswer test_of_start
    start-placed = go (start_fits i.table i.bindings i.mark i.start i.subject)
      where
        go : (f : Bool) → PlacedAnswer (if f then checked 0 0 else checked 5 0)
        go true k l m n = refl
        go false k l m n = refl

    pub placed-with : PlacedAnswer verdict_with
    placed-with =
        subst PlacedAnswer (sym in_order)
        (placed_on sizes-test after_sizes sizes-tested (λ n p y k l m o. y.1)
        (λ z. placed_on table-test after_table (table-tested z.0) (λ n p y k l m o. absurd (omega (arith, o, (faulty-within W i.table p n y.1).0)))
        (λ x. placed_on store-test after_store (store-tested z.0) (λ n p y k l m o. absurd (k y.0))
        (λ x. placed_on (entries-test g i) after_entries (entries-tested g i) (λ n p y k l m o. absurd (l (entry-ten g i n p y)))
        (λ x. placed_on (nodes-test g i) test_of_start (nodes-tested g i) (λ n p y k l m o. absurd (m (node-eleven g i n p y)))
        (λ x. start-placed))))))

    -- a verdict that is not 0 is a refusal's answer
    pub refusal-with : eqb verdict_with.answer 0 ≡ false → SignedRefusal verdict_with.answer
    refusal-with h = subst (λ (c : Checked). eqb c.answer 0 ≡ false → SignedRefusal c.answer) (sym in_order) (sizes sizes-tested) h
      where
        start : {c : Checked} → Tested (StartFits i) (Without 5 (StartFits i)) c → eqb c.answer 0 ≡ false → SignedRefusal c.answer
        start (passed x) h = absurd (true≢false h)
        start (refusing n p y) h = subst SignedRefusal (sym y.0) (as-without of-start)

        nodes : {c : Checked} → Tested (NodesObey g i) (NodeDisobeys g i) c → eqb (or_else c test_of_start).answer 0 ≡ false → SignedRefusal (or_else c test_of_start).answer
        nodes (passed x) h = start start-tested h
        nodes (refusing n p y) h = subst SignedRefusal (sym (answer-of (stays (nodes-test g i) n p test_of_start y) ∙ node-eleven g i n p y)) of-disobeying-node

        entries : {c : Checked} → Tested (EntriesObey g i) (EntryDisobeys g i) c → eqb (or_else c after_entries).answer 0 ≡ false → SignedRefusal (or_else c after_entries).answer
        entries (passed x) h = nodes (nodes-tested g i) h
        entries (refusing n p y) h = subst SignedRefusal (sym (answer-of (stays (entries-test g i) n p after_entries y) ∙ entry-ten g i n p y)) of-disobeying-entry

        store : {c : Checked} → Tested (NodesGood i) BadNode c → eqb (or_else c after_store).answer 0 ≡ false → SignedRefusal (or_else c after_store).answer
        store (passed x) h = entries (entries-tested g i) h
        store (refusing n p y) h = subst SignedRefusal (sym (answer-of (stays store-test n p after_store y) ∙ y.0)) (as-without of_node)

        table : {c : Checked} → SizesFit W i → Tested (EntriesGood W i) BadEntry c → eqb (or_else c after_table).answer 0 ≡ false → SignedRefusal (or_else c after_table).answer
        table z (passed x) h = store (store-tested z) h
        table z (refusing n p y) h =
            let w = faulty-within W i.table p n y.1 in
            subst SignedRefusal (sym (answer-of (stays table-test n p after_table y))) (as-without (of_entry n w.0 w.1))

        sizes : {c : Checked} → Tested AllFit (Without 2 AllFit) c → eqb (or_else c after_sizes).answer 0 ≡ false → SignedRefusal (or_else c after_sizes).answer
        sizes (passed x) h = table x.0 (table-tested x.0) h
        sizes (refusing n p y) h = subst SignedRefusal (sym (answer-of (stays sizes-test n p after_sizes y) ∙ y.0)) (as-without of-sizes)

  -- ---- what is passed before the start is looked at

  -- what passes, where two tests in turn answer 0; and a test that answers 0 is passed
  pub zero-else : (c d : Checked) → (or_else c d).answer ≡ 0 → (c.answer ≡ 0) × (d.answer ≡ 0)
  zero-else c d e = go (eqb c.answer 0) refl e
    where
      go : (z : Bool) → eqb c.answer 0 ≡ z → (if z then d else c).answer ≡ 0 → (c.answer ≡ 0) × (d.answer ≡ 0)
      go true q e = (eqb-true _ _ q, e)
      go false q e = absurd (eqb-false _ _ q e)

  pub zero-passes : {P : Type 0} {B : ℕ → ℕ → Type 0} (T : Test P B) {c : Checked} → Tested P B c → c.answer ≡ 0 → P
  zero-passes T (passed x) e = x
  zero-passes T (refusing n p y) e = absurd (omega (arith, T.some n p y, e))

  pub words-passed : (g : Option (List ℕ)) (i : Input) → (words_refused_by W g i.table i.store i.bindings i.mark).answer ≡ 0
      → AllFit g i × (EntriesGood W i × (NodesGood i × (EntriesObey g i × NodesObey g i)))
  unfolding words_refused_by
  words-passed g i e = go (sizes_fit_by W i.table i.store i.bindings i.mark && lent_fits g) refl e
    where
      go : (z : Bool) → sizes_fit_by W i.table i.store i.bindings i.mark && lent_fits g ≡ z
          → (if z then or_else (table_checked_by W i.table) (or_else (store_checked i.store i.mark) (signature_obeyed g i.table i.store i.mark)) else checked 2 0).answer ≡ 0
          → AllFit g i × (EntriesGood W i × (NodesGood i × (EntriesObey g i × NodesObey g i)))
      go true q e =
          let x = zero-else (table_checked_by W i.table) _ e in
          let y = zero-else (store_checked i.store i.mark) _ x.1 in
          let z = zero-else (entries_test g i) (nodes_test g i) (sym (answer-of (obeyed-in-turn g i)) ∙ y.1) in (
            (all_plain g i).0 q,
            (
              ((table_passes W i.table).0 x.0).1,
              (
                ((store_passes i.store i.mark).0 y.0).1,
                (zero-passes (entries-test g i) (entries-tested g i) z.0, zero-passes (nodes-test g i) (nodes-tested g i) z.1),
              ),
            ),
          )
      go false q e = absurd (omega arith)

  -- what the two checks answer where all is good
  pub checks-passed : (i : Input) → SizesFit W i → EntriesGood W i → NodesGood i → (table_checked_by W i.table ≡ checked 0 0) × (store_checked i.store i.mark ≡ checked 0 0)
  checks-passed i z x y = ((last-passes (table-test none i) (table-tested none i z)).1 x, (last-passes (store-test none i) (store-tested none i z)).1 y)

  -- ---- what is refused before the start is looked at

  -- the start's test changes no refusal but 5
  pub start-after : (w : Checked) (b : Bool) (n p : ℕ) → n ≢ 0 → n ≢ 5 → (or_else w (if b then checked 0 0 else checked 5 0) ≡ checked n p) ↔ (w ≡ checked n p)
  start-after w b n p k l = go (eqb w.answer 0) refl b
    where
      go : (z : Bool) → eqb w.answer 0 ≡ z → (b : Bool) → ((if z then (if b then checked 0 0 else checked 5 0) else w) ≡ checked n p) ↔ (w ≡ checked n p)
      go true q true = (λ e. absurd (k (sym (answer-of e))), λ e. absurd (k (sym (answer-of e) ∙ eqb-true _ _ q)))
      go true q false = (λ e. absurd (l (sym (answer-of e))), λ e. absurd (k (sym (answer-of e) ∙ eqb-true _ _ q)))
      go false q b = (λ e. e, λ e. e)

  pub words-only : (g : Option (List ℕ)) (i : Input) (n p : ℕ) → n ≢ 0 → n ≢ 5
      → (verdict_with g i ≡ checked n p) ↔ (words_refused_by W g i.table i.store i.bindings i.mark ≡ checked n p)
  unfolding refused_with_by
  words-only g i n p k l =
      start-after (words_refused_by W g i.table i.store i.bindings i.mark) (start_fits i.table i.bindings i.mark i.start i.subject) n p k l

  -- all is so: nothing is refused before
  pub words_back : (g : Option (List ℕ)) (i : Input) → AllFit g i → EntriesGood W i → NodesGood i → EntriesObey g i → NodesObey g i
      → words_refused_by W g i.table i.store i.bindings i.mark ≡ checked 0 0
  unfolding words_refused_by
  words_back g i z x y o h =
      let k = checks-passed i z.0 x y in
      let u : signature_obeyed g i.table i.store i.mark ≡ checked 0 0 =
      obeyed-in-turn g i ∙ ap (λ (c : Checked). or_else c (nodes_test g i)) ((last-passes (entries-test g i) (entries-tested g i)).1 o) ∙ (last-passes (nodes-test g i) (nodes-tested g i)).1 h in
      rw ((all_plain g i).1 z, k.0, k.1, u)

  pub words-not-five : (g : Option (List ℕ)) (i : Input) → (words_refused_by W g i.table i.store i.bindings i.mark).answer ≢ 5
  unfolding refused_with_by
  words-not-five g i e =
      let w : words_refused_by W g i.table i.store i.bindings i.mark ≡ checked 5 (words_refused_by W g i.table i.store i.bindings i.mark).place =
      λ j. record { answer = e j; place = (words_refused_by W g i.table i.store i.bindings i.mark).place } in
      let v : verdict_with g i ≡ checked 5 (words_refused_by W g i.table i.store i.bindings i.mark).place =
      ap (λ (c : Checked). or_else c (if start_fits i.table i.bindings i.mark i.start i.subject then checked 0 0 else checked 5 0)) w in
      let f = (refused-start g i _).0 v in
      let b = words_back g i f.0 f.1.0 f.1.1.0 f.1.1.1.0 f.1.1.1.1.0 in
      omega (arith, e, answer-of b)

  -- ---- what is accepted

  module _ (i : Input) where
    pub accepted-plain : AcceptedBy W i ↔ (SizesFit W i × EntriesGood W i × NodesGood i × StartFits i)
    accepted-plain = (
      λ a.
          let x = (table_passes W i.table).0 (answer-of a.table) in
          let y = (store_passes i.store i.mark).0 (answer-of a.store) in (
            record { table = x.0; store = y.0.0; bindings = a.bindings; mark = y.0.1 },
            x.1,
            y.1,
            record { inside = a.inside; strategy = a.strategy; subject = a.subject; bound = a.bound },
          ),
      λ f. record {
        table = (last-passes (table-test none i) (table-tested none i f.0)).1 f.1;
        store = (last-passes (store-test none i) (store-tested none i f.0)).1 f.2;
        bindings = f.0.bindings;
        inside = f.3.inside;
        strategy = f.3.strategy;
        subject = f.3.subject;
        bound = f.3.bound;
      },
    )

  -- what a signature asks beside what is accepted
  abbrev pub Obeyed : Option (List ℕ) → Input → Type 0
  Obeyed g i = LentFits g × (EntriesObey g i × NodesObey g i)

  -- not refused exactly where accepted, and where a lent signature is obeyed
  pub not-refused-with : (g : Option (List ℕ)) (i : Input) → (verdict_with g i ≡ checked 0 0) ↔ (Obeyed g i × AcceptedBy W i)
  not-refused-with g i = (
    λ e.
        let f = (not-refused-plain g i).0 e in
        let h = f.1.1.1 in
        ((f.0.1, (h.0, h.1.0)), (accepted-plain i).1 (f.0.0, f.1.0, f.1.1.0, h.1.1)),
    λ z.
        let o = z.0 in
        let f = (accepted-plain i).0 z.1 in
        (not-refused-plain g i).1 ((f.0, o.0), (f.1, (f.2, (o.1.0, (o.1.1, f.3))))),
  )

  -- what obeys a lent signature is judged as without one
  pub as_none : (g : Option (List ℕ)) (i : Input) → Obeyed g i → verdict_with g i ≡ verdict_with none i
  unfolding refused_with_by words_refused_by
  as_none none i o = refl
  as_none (some g) i o =
      rw (
        (signature_plain g).1 o.0,
        (last-passes (entries-test (some g) i) (entries-tested (some g) i)).1 o.1.0,
        (last-passes (nodes-test (some g) i) (nodes-tested (some g) i)).1 o.1.1,
      )

  -- the answer 0 alone is enough
  pub accepted-with : (g : Option (List ℕ)) (i : Input) → eqb (verdict_with g i).answer 0 ≡ true → Obeyed g i × AcceptedBy W i
  accepted-with g i h =
      let e : (verdict_with g i).answer ≡ 0 = eqb-true _ _ h in
      let p : (verdict_with g i).place ≡ 0 = placed-with g i (λ k. omega (arith, e, k)) (λ k. omega (arith, e, k)) (λ k. omega (arith, e, k)) (omega (arith, e)) in
      (not-refused-with g i).0 (λ j. record { answer = e j; place = p j })

  -- ---- where no signature is lent

  module _ (i : Input) where
    abbrev pub verdict : Checked
    verdict = verdict_with none i

    pub plain-sizes : (p : ℕ) → (verdict ≡ checked 2 p) ↔ ((p ≡ 0) × (SizesFit W i → ⊥))
    plain-sizes p = let f = refused-sizes none i p in (λ e. ((f.0 e).0, λ z. (f.0 e).1 (z, tt)), λ y. f.1 (y.0, λ z. y.1 z.0))

    pub plain_entry : (n p : ℕ) → 12 < n
        → (verdict ≡ checked n p) ↔ (SizesFit W i × (Lowest (good_entry_by W i.table) (rows i.table) p × FaultyBy W i.table p n))
    plain_entry n p l = let f = refused-entry none i n p l in (λ e. ((f.0 e).0.0, (f.0 e).1), λ y. f.1 ((y.0, tt), y.1))

    pub plain-node : (p : ℕ) → (verdict ≡ checked 4 p) ↔ (SizesFit W i × (EntriesGood W i × Lowest (good_node i.store) i.mark p))
    plain-node p = let f = refused-node none i p in (λ e. ((f.0 e).0.0, (f.0 e).1), λ y. f.1 ((y.0, tt), y.1))

    pub plain-start : (p : ℕ) → (verdict ≡ checked 5 p) ↔ (SizesFit W i × (EntriesGood W i × (NodesGood i × ((p ≡ 0) × (StartFits i → ⊥)))))
    plain-start p =
        let f = refused-start none i p in
        (λ e. let h = f.0 e in (h.0.0, (h.1.0, (h.1.1.0, h.1.1.1.1.1))), λ h. f.1 ((h.0, tt), (h.1.0, (h.1.1.0, (tt, (tt, h.1.1.1))))))

    -- 10 and 11 are not given
    without : SignedRefusal verdict.answer → Refusal verdict.answer
    without r = go verdict.answer refl r
      where
        go : (n : ℕ) → verdict.answer ≡ n → SignedRefusal n → Refusal verdict.answer
        go n e (as-without r) = subst Refusal (sym e) r
        go n e of-disobeying-entry = absurd ((refused-ten none i verdict.place).0 (λ j. record { answer = e j; place = verdict.place })).1.1.1
        go n e of-disobeying-node = absurd ((refused-eleven none i verdict.place).0 (λ j. record { answer = e j; place = verdict.place })).1.1.1.1

    pub verdict-refusal : eqb verdict.answer 0 ≡ false → Refusal verdict.answer
    verdict-refusal h = without (refusal-with none i h)

    pub verdict-placed : verdict.answer ≢ 4 → verdict.answer ≤ 12 → verdict.place ≡ 0
    verdict-placed k l = placed-with none i k
        (λ e. ((refused-ten none i verdict.place).0 (λ j. record { answer = e j; place = verdict.place })).1.1.1)
        (λ e. ((refused-eleven none i verdict.place).0 (λ j. record { answer = e j; place = verdict.place })).1.1.1.1) l

    -- not refused exactly where accepted
    pub not-refused : (verdict ≡ checked 0 0) ↔ AcceptedBy W i
    not-refused = (λ e. ((not-refused-with none i).0 e).1, λ a. (not-refused-with none i).1 ((tt, (tt, tt)), a))

  module _ (t s b : List ℕ) (mark start subject units : ℕ) where
    -- the answer 0 alone is enough
    pub accepted-answer : eqb (refused_by W t s b mark start subject).answer 0 ≡ true → AcceptedBy W (input t s b mark start subject units)
    accepted-answer h =
        let i : Input = input t s b mark start subject units in
        let e : (verdict i).answer ≡ 0 = eqb-true _ _ h in
        let p : (verdict i).place ≡ 0 = verdict-placed i (λ k. omega (arith, e, k)) (omega (arith, e)) in
        (not-refused i).0 (λ j. record { answer = e j; place = p j })

    pub accepted : refused_by W t s b mark start subject ≡ checked 0 0 → AcceptedBy W (input t s b mark start subject units)
    accepted h = (not-refused (input t s b mark start subject units)).0 h

    pub accepted-back : AcceptedBy W (input t s b mark start subject units) → refused_by W t s b mark start subject ≡ checked 0 0
    accepted-back a = (not-refused (input t s b mark start subject units)).1 a
