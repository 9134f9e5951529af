-- The promises of the call over many subjects, proved: each subject is a single call over what the one before left.
use mathlib.Core.Path.{◌≡◌, refl, ap, sym, ◌∙◌, subst}
use mathlib.Core.Bool.{Bool, true, false, false≢true}
use mathlib.Core.Logic.{◌≢◌, ◌↔◌, ◌⊎◌, inl, inr, ⊎_elim}
use mathlib.Core.Option.{Option, none, some}
use mathlib.Core.List.{List, [], ◌∷◌, ◌++◌}
use Prim.Native.Nat.{ℕ, zero, suc, ◌+◌, ◌*◌, ◌≤◌, ◌<◌}
use native.Mathlib.Omega.{arith}
use lib.Dec.{eqb}
use lib.ListN.{length, get_or, take, drop}
use borrow.Author.Tests.{eqb-true, eqb-false, eq-eqb}
use Rattle.std.specs.Prelude.{if◌then◌else◌}
use Rattle.words.proofs.Tests.{and-true}
use Rattle.checks.specs.Checked.{Checked}
use Rattle.checks.specs.Checked.{checked}
use Rattle.meaning.specs.Table.{table_by}
use Rattle.meaning.specs.Derivation.{quiet}
use Rattle.meaning.specs.Demands.{Says, limits, start_visit}
use Rattle.meaning.specs.Orderings.{Every, InOrder}
use Rattle.meaning.specs.Store.{Input, AcceptedBy}
use Rattle.meaning.specs.Answer.{Returned}
use Rattle.calls.specs.Run.{run_with_by, run_of_by}
use Rattle.calls.specs.Many.{Module, single, five, before, in_turn_by, ManyReturned, many_at_return, many_refused_by, many_refusing, after_turns, many_of_by}
use Rattle.calls.specs.Refused.{or_else, is_start, subjects_below, starts_fit, words_refused_by}
use Rattle.calls.specs.Promises.{Told, Movable, SizesFit, EntriesGood, NodesGood}
use Rattle.calls.specs.Subjects as promises
use Rattle.calls.specs.Subjects.{RunsMany, handed_at, turn_input, ListFits, StartsFit, whole}
use Rattle.calls.proofs.Accepting.{LentFits, EntriesObey, NodesObey, verdict_with, refused-sizes, refused-entry, refused-node}
use Rattle.calls.proofs.Accepting.{refused-ten, refused-eleven, is-start-plain, bound-plain, subjects-plain, words-passed}
use Rattle.calls.proofs.Accepting.{words-only, words_back, words-not-five, start-after}
use Rattle.calls.proofs.Promises as plain
use Rattle.calls.proofs.Turns.{Given, Stands, given, accepted-single, plain_runs, next-stands}

module _ (W : ℕ) where
  pub agreeing : promises.Agreeing W
  agreeing g c r r' rs rs' s s' p q =
      let e : many_at_return r rs s ≡ many_at_return r' rs' s' = p ∙ sym q in (
        (λ j. record { answer = (e j).answer; place = (e j).place }),
        ap (λ (x : ManyReturned). x.results) e,
        ap (λ (x : ManyReturned). x.store) e,
      )

  -- refused, or run in turn
  module _ (g : Option (List ℕ)) (c : Module) (r : Checked) (rs s : List ℕ) (p : RunsMany W g c r rs s) where
    many-way : (z : Bool) → eqb (many_refused_by W g c).answer 0 ≡ z
        → many_at_return r rs s ≡ (if z then after_turns (in_turn_by W g c c.store c.mark c.subjects) else many_refusing c (many_refused_by W g c))
    unfolding many_of_by
    many-way z e = p ∙ ap (λ (b : Bool). if b then after_turns (in_turn_by W g c c.store c.mark c.subjects) else many_refusing c (many_refused_by W g c)) e

    ran-in-turn : r.answer ≡ 0 → ((many_refused_by W g c).answer ≡ 0) × (many_at_return r rs s ≡ after_turns (in_turn_by W g c c.store c.mark c.subjects))
    ran-in-turn z = go (eqb (many_refused_by W g c).answer 0) refl
      where
        go : (b : Bool) → eqb (many_refused_by W g c).answer 0 ≡ b → ((many_refused_by W g c).answer ≡ 0) × (many_at_return r rs s ≡ after_turns (in_turn_by W g c c.store c.mark c.subjects))
        go true e = (eqb-true _ _ e, many-way true e)
        go false e = absurd (eqb-false _ _ e (sym (ap (λ (x : ManyReturned). x.answer) (many-way false e)) ∙ z))

  pub writes_nothing : promises.WritesNothing W
  writes_nothing g c r rs s p n = go (eqb (many_refused_by W g c).answer 0) refl
    where
      go : (b : Bool) → eqb (many_refused_by W g c).answer 0 ≡ b → (r ≡ many_refused_by W g c) × (rs ≡ c.results) × (s ≡ c.store)
      go true e = absurd (n (ap (λ (x : ManyReturned). x.answer) (many-way g c r rs s p true e)))
      go false e =
          let w = many-way g c r rs s p false e in
          ((λ j. record { answer = (w j).answer; place = (w j).place }), ap (λ (x : ManyReturned). x.results) w, ap (λ (x : ManyReturned). x.store) w)

  none_left : (l : List ℕ) → length l ≡ 0 → l ≡ []
  none_left [] e = refl
  none_left (x ∷ xs) e = absurd (omega arith)

  pub none-to-run : promises.NoneToRun W
  unfolding in_turn_by
  none-to-run g c r rs s p z l =
      let w = ran-in-turn g c r rs s p z in
      let γ = (given W g c w.0).0 in
      let q : many_at_return r rs s ≡ record { answer = 0; place = 0; results = []; store = c.store } = w.1 ∙ ap (λ (ks : List ℕ). after_turns (in_turn_by W g c c.store c.mark ks))
      (none_left c.subjects l) in (
        ap (λ (x : ManyReturned). x.place) q,
        ap (λ (x : ManyReturned). x.results) q ∙ sym (none_left c.results (omega (arith, γ.results))),
        ap (λ (x : ManyReturned). x.store) q,
      )

  -- from the store s with the mark m on, over subjects ks below the first mark
  module _ {g : Option (List ℕ)} {c : Module} (γ : Given W g c) where
    at_turn : (s : List ℕ) (m : ℕ) (ks : List ℕ) → Stands W g c s m → ((i : ℕ) → i < length ks → get_or ks i 0 < c.mark) → (j : ℕ) → j < length ks
        → AcceptedBy W (handed_at W g c s m ks j) × ((handed_at W g c s m ks j).subject ≡ get_or ks j 0) × ((handed_at W g c s m ks j).table ≡ c.table) × ((handed_at W g c s m ks j).bindings ≡ c.bindings)
        × ((handed_at W g c s m ks j).start ≡ c.start) × ((handed_at W g c s m ks j).units ≡ c.units) × (c.mark ≤ (handed_at W g c s m ks j).mark)
        × (run_with_by W g (handed_at W g c s m ks j) ≡ run_of_by W (handed_at W g c s m ks j)) × (take 5 (drop (5 * j) (in_turn_by W g c s m ks).results) ≡ five (run_of_by W (handed_at W g c s m ks j)))
    unfolding handed_at in_turn_by
    at_turn s m [] here l j h = absurd (omega arith)
    at_turn s m (k ∷ ks) here l zero h =
        let b = l 0 (omega arith) in
        let x = plain_runs W γ here k b in
        (accepted-single W γ here k b, refl, refl, refl, refl, refl, here.more, x, ap five x)
    at_turn s m (k ∷ ks) here l (suc j) h =
        let r : Returned = run_with_by W g (single c s m k) in
        let e : 5 * suc j ≡ suc (suc (suc (suc (suc (5 * j))))) = omega arith in
        let t = at_turn r.store r.mark ks (next-stands W γ here k (l 0 (omega arith))) (λ i q. l (suc i) (omega arith)) j (omega arith) in
        (t.0, t.1, t.2, t.3, t.4, t.5, t.6, t.7, ap (λ (n : ℕ). take 5 (drop n (five r ++ (in_turn_by W g c r.store r.mark ks).results))) e ∙ t.8)

  pub each-subject : promises.EachSubject W
  each-subject g c r rs s p z j l =
      let w = ran-in-turn g c r rs s p z in
      let x = given W g c w.0 in
      let t = at_turn x.0 c.store c.mark c.subjects x.1 x.0.subjects j l in
      record {
        accepted = t.0;
        subject = t.1;
        table = t.2;
        bindings = t.3;
        start = t.4;
        units = t.5;
        mark = t.6;
        runs = t.7;
        numbers = ap (λ (v : ManyReturned). take 5 (drop (5 * j) v.results)) w.1 ∙ t.8;
      }

  -- there is a variable
  module _ (variable : 0 < W) where
    pub demand-2 : promises.Demand2 W
    demand-2 g c r rs s p z j l x =
        let t = each-subject g c r rs s p z j l in
        let i : Input = turn_input W g c j in
        let R : Returned = run_of_by W i in
        let d = plain.demand-2 W variable i (record { answer = R.answer; place = R.place; subject = R.subject; mark = R.mark; units = R.units }) R.store R.bindings t.accepted refl x in
        subst (λ (T : List ℕ). Told i R x ↔ Says quiet tt (table_by W T) (limits i) (start_visit i) x) t.table d

    pub demand-3 : promises.Demand3 W
    demand-3 g c r rs s p z j l xs ys zs start units o s' b' ms apart re re' first second a' p' x x' w w' =
        let t = each-subject g c r rs s p z j l in
        let i : Input = turn_input W g c j in
        let R : Returned = run_of_by W i in
        let e : c.table ≡ i.table = sym t.table in
        plain.demand-3-all W variable i xs ys zs start units (record { answer = R.answer; place = R.place; subject = R.subject; mark = R.mark; units = R.units }) o
        R.store s' R.bindings b'
        (subst (λ (T : List ℕ). Every (Movable W T) xs) e ms) apart re re'
        (subst (λ (n : ℕ). InOrder (table_by W i.table) n ys) (sym t.start) (subst (λ (T : List ℕ). InOrder (table_by W T) c.start ys) e first))
        (subst (λ (T : List ℕ). InOrder (table_by W T) start zs) e second) t.accepted a' refl p' x x' w w'

  -- ---- which refusal

  pub fits-back : (g : Option (List ℕ)) → LentFits W g → promises.SignatureFits g
  fits-back none f = tt
  fits-back (some g) f = f

  pub fits-lent : (g : Option (List ℕ)) → promises.SignatureFits g → LentFits W g
  fits-lent none f = tt
  fits-lent (some g) f = f

  pub obeys-back : (g : Option (List ℕ)) (i : Input) → EntriesObey W g i → NodesObey W g i → promises.Obeys g i
  obeys-back none i e n = tt
  obeys-back (some g) i e n = (e, n)

  pub obeys-entries : (g : Option (List ℕ)) (i : Input) → promises.Obeys g i → EntriesObey W g i
  obeys-entries none i o = tt
  obeys-entries (some g) i o = o.0

  pub obeys-nodes : (g : Option (List ℕ)) (i : Input) → promises.Obeys g i → NodesObey W g i
  obeys-nodes none i o = tt
  obeys-nodes (some g) i o = o.1

  module _ (g : Option (List ℕ)) (c : Module) where
    pub starts-plain : (starts_fit c.table c.bindings c.mark c.start c.subjects ≡ true) ↔ StartsFit c
    unfolding starts_fit
    starts-plain = (
      λ h.
          let x : (is_start c.table c.start ≡ true) × _ = and-true _ _ h in
          let y : (subjects_below c.subjects c.mark ≡ true) × _ = and-true _ _ x.1 in
          let s = (is-start-plain W c.table c.start).0 x.0 in
          record { inside = s.0; strategy = s.1; subjects = (subjects-plain W c.subjects c.mark).0 y.0; bound = (bound-plain W c.bindings c.mark).0 y.1 },
      λ f.
          rw (
            (is-start-plain W c.table c.start).1 (f.inside, f.strategy),
            (subjects-plain W c.subjects c.mark).1 f.subjects,
            (bound-plain W c.bindings c.mark).1 f.bound,
          ),
    )

    -- the verdict by its two tests: does the list fit, do the starts
    judged : (z b : Bool) → eqb (length c.results) (5 * length c.subjects) ≡ z → starts_fit c.table c.bindings c.mark c.start c.subjects ≡ b
        → many_refused_by W g c ≡ (if z then or_else (words_refused_by W g c.table c.store c.bindings c.mark) (if b then checked 0 0 else checked 5 0) else checked 2 0)
    unfolding many_refused_by
    judged z b e f = rw (e, f)

    -- what is answered before the start is looked at, and is not 2
    placed : (n p : ℕ) → n ≢ 0 → n ≢ 2 → n ≢ 5 → (many_refused_by W g c ≡ checked n p) ↔ (ListFits c × (verdict_with W g (whole c) ≡ checked n p))
    placed n p k l m = go (eqb (length c.results) (5 * length c.subjects)) (starts_fit c.table c.bindings c.mark c.start c.subjects) refl refl
      where
        go : (z b : Bool) → eqb (length c.results) (5 * length c.subjects) ≡ z → starts_fit c.table c.bindings c.mark c.start c.subjects ≡ b
            → (many_refused_by W g c ≡ checked n p) ↔ (ListFits c × (verdict_with W g (whole c) ≡ checked n p))
        go true b e f =
            let w = start-after W (words_refused_by W g c.table c.store c.bindings c.mark) b n p k m in
            let v = words-only W g (whole c) n p k m in
            (λ q. (eqb-true _ _ e, v.1 (w.0 (sym (judged true b e f) ∙ q))), λ q. judged true b e f ∙ w.1 (v.0 q.1))
        go false b e f = (
          λ q. absurd (l (sym (ap (λ (x : Checked). x.answer) (sym (judged false b e f) ∙ q)))),
          λ q. absurd (eqb-false _ _ e q.0),
        )

    sizes : ((many_refused_by W g c).answer ≡ 2) ↔ (ListFits c → SizesFit W (whole c) → promises.SignatureFits g → ⊥)
    sizes = go (eqb (length c.results) (5 * length c.subjects)) (starts_fit c.table c.bindings c.mark c.start c.subjects) refl refl
      where
        go : (z b : Bool) → eqb (length c.results) (5 * length c.subjects) ≡ z → starts_fit c.table c.bindings c.mark c.start c.subjects ≡ b
            → ((many_refused_by W g c).answer ≡ 2) ↔ (ListFits c → SizesFit W (whole c) → promises.SignatureFits g → ⊥)
        go true b e f =
            let n0 : ◌≢◌ {A = ℕ} 2 0 = λ q. omega (arith, q) in
            let n5 : ◌≢◌ {A = ℕ} 2 5 = λ q. omega (arith, q) in (
              λ q a s u.
                  let p : ℕ = (many_refused_by W g c).place in
                  let v : many_refused_by W g c ≡ checked 2 (many_refused_by W g c).place = λ j. record { answer = q j; place = (many_refused_by W g c).place } in
                  let w = (start-after W (words_refused_by W g c.table c.store c.bindings c.mark) b 2 (many_refused_by W g c).place n0 n5).0 (sym (judged true b e f) ∙ v) in
                  ((refused-sizes W g (whole c) (many_refused_by W g c).place).0 ((words-only W g (whole c) 2 (many_refused_by W g c).place n0 n5).1 w)).1 (s, fits-lent g u),
              λ n.
                  let v = (refused-sizes W g (whole c) 0).1 (refl, λ a. n (eqb-true _ _ e) a.0 (fits-back g a.1)) in
                  ap (λ (x : Checked). x.answer) (judged true b e f
                  ∙ (start-after W (words_refused_by W g c.table c.store c.bindings c.mark) b 2 0 n0 n5).1
                  ((words-only W g (whole c) 2 0 n0 n5).0 v)),
            )
        go false b e f = (λ q a. absurd (eqb-false _ _ e a), λ n. ap (λ (x : Checked). x.answer) (judged false b e f))

    -- all that is asked before the start
    abbrev Before : Type 0
    Before = ListFits c × SizesFit W (whole c) × promises.SignatureFits g × EntriesGood W (whole c) × NodesGood (whole c) × promises.Obeys g (whole c)

    before-words : Before → words_refused_by W g c.table c.store c.bindings c.mark ≡ checked 0 0
    before-words f = words_back W g (whole c) (f.1, fits-lent g f.2) f.3 f.4 (obeys-entries g (whole c) f.5) (obeys-nodes g (whole c) f.5)

    words-before : ListFits c → (words_refused_by W g c.table c.store c.bindings c.mark).answer ≡ 0 → Before
    words-before a e =
        let f = words-passed W g (whole c) e in
        (a, f.0.0, fits-back g f.0.1, f.1.0, f.1.1.0, obeys-back g (whole c) f.1.1.1.0 f.1.1.1.1)

    -- 0 and 5: all before is so, and the start decides
    last-test : (n : ℕ) (b : Bool) → (if b then checked 0 0 else checked 5 0) ≡ checked n 0 → (n ≡ 0) ⊎ (n ≡ 5) → starts_fit c.table c.bindings c.mark c.start c.subjects ≡ b
        → Before → many_refused_by W g c ≡ checked n 0
    last-test n b q k f h = judged true b (eq-eqb _ _ h.0) f ∙ ap (λ (x : Checked). or_else x (if b then checked 0 0 else checked 5 0)) (before-words h) ∙ q

    -- an answer 0 or 5 comes from the start's test
    from_last : (n p : ℕ) → (n ≡ 0) ⊎ (n ≡ 5) → many_refused_by W g c ≡ checked n p
        → Before × ((if starts_fit c.table c.bindings c.mark c.start c.subjects then checked 0 0 else checked 5 0) ≡ checked n p)
    from_last n p k q = go (eqb (length c.results) (5 * length c.subjects)) (eqb (words_refused_by W g c.table c.store c.bindings c.mark).answer 0) refl refl
      where
        b : Bool
        b = starts_fit c.table c.bindings c.mark c.start c.subjects

        go : (z w : Bool) → eqb (length c.results) (5 * length c.subjects) ≡ z → eqb (words_refused_by W g c.table c.store c.bindings c.mark).answer 0 ≡ w
            → Before × ((if starts_fit c.table c.bindings c.mark c.start c.subjects then checked 0 0 else checked 5 0) ≡ checked n p)
        go true true e f = (
          words-before (eqb-true _ _ e) (eqb-true _ _ f),
          sym (rw f) ∙ sym (judged true (starts_fit c.table c.bindings c.mark c.start c.subjects) e refl) ∙ q,
        )
        go true false e f =
            let v : words_refused_by W g c.table c.store c.bindings c.mark ≡ checked n p =
            sym (rw f) ∙ sym (judged true (starts_fit c.table c.bindings c.mark c.start c.subjects) e refl) ∙ q in
            absurd (⊎_elim (λ y. eqb-false _ _ f (ap (λ (x : Checked). x.answer) v ∙ y)) (λ y. words-not-five W g (whole c) (ap (λ (x : Checked). x.answer) v ∙ y)) k)
        go false w e f = absurd (⊎_elim (λ y. omega (arith, y, ap (λ (x : Checked). x.answer) (sym (judged false (starts_fit c.table c.bindings c.mark c.start c.subjects) e refl) ∙ q)))
            (λ y. omega (arith, y, ap (λ (x : Checked). x.answer) (sym (judged false (starts_fit c.table c.bindings c.mark c.start c.subjects) e refl) ∙ q))) k)

    start-true : (p : ℕ) → (if starts_fit c.table c.bindings c.mark c.start c.subjects then checked 0 0 else checked 5 0)
        ≡ checked 0 p → starts_fit c.table c.bindings c.mark c.start c.subjects ≡ true
    start-true p q = go (starts_fit c.table c.bindings c.mark c.start c.subjects) refl q
      where
        go : (b : Bool) → starts_fit c.table c.bindings c.mark c.start c.subjects ≡ b
            → (if b then checked 0 0 else checked 5 0) ≡ checked 0 p → starts_fit c.table c.bindings c.mark c.start c.subjects
            ≡ true
        go true e q = e
        go false e q = absurd (omega (arith, ap (λ (x : Checked). x.answer) q))

    start-false : (p : ℕ) → (if starts_fit c.table c.bindings c.mark c.start c.subjects then checked 0 0 else checked 5 0)
        ≡ checked 5 p → starts_fit c.table c.bindings c.mark c.start c.subjects ≡ false
    start-false p q = go (starts_fit c.table c.bindings c.mark c.start c.subjects) refl q
      where
        go : (b : Bool) → starts_fit c.table c.bindings c.mark c.start c.subjects ≡ b
            → (if b then checked 0 0 else checked 5 0) ≡ checked 5 p → starts_fit c.table c.bindings c.mark c.start c.subjects
            ≡ false
        go true e q = absurd (omega (arith, ap (λ (x : Checked). x.answer) q))
        go false e q = e

    not-true-false : (b : Bool) → (b ≡ true → ⊥) → b ≡ false
    not-true-false true n = absurd (n refl)
    not-true-false false n = refl

    -- what comes back is the verdict
    verdict-back : (r : Checked) (rs s : List ℕ) → RunsMany W g c r rs s → r ≡ many_refused_by W g c
    verdict-back r rs s p = go (eqb r.answer 0) refl
      where
        go : (b : Bool) → eqb r.answer 0 ≡ b → r ≡ many_refused_by W g c
        go false e = (writes_nothing g c r rs s p (eqb-false _ _ e)).0
        go true e =
            let w = ran-in-turn g c r rs s p (eqb-true _ _ e) in
            let v : many_refused_by W g c ≡ checked 0 (many_refused_by W g c).place = λ j. record { answer = w.0 j; place = (many_refused_by W g c).place } in
            let f = from_last 0 (many_refused_by W g c).place (inl refl) v in
            let u : many_refused_by W g c ≡ checked 0 0 = last-test 0 true refl (inl refl) (start-true _ f.1) f.0 in
            (λ j. record { answer = (w.1 j).answer; place = (w.1 j).place }) ∙ sym u

  pub refuses-sizes : promises.RefusesSizes W
  refuses-sizes g c r rs s p =
      let e = ap (λ (x : Checked). x.answer) (verdict-back g c r rs s p) in
      let f = sizes g c in
      (λ q. f.0 (sym e ∙ q), λ n. e ∙ f.1 n)

  pub refuses-entry : promises.RefusesEntry W
  refuses-entry g c r rs s n k l p =
      let e = verdict-back g c r rs s p in
      let f = placed g c n k (λ q. omega (arith, q)) (λ q. omega (arith, q)) (λ q. omega (arith, q)) in
      let v = refused-entry W g (whole c) n k l in (
        λ q. let x = f.0 (sym e ∙ q) in let y = v.0 x.1 in (x.0, y.0.0, fits-back g y.0.1, y.1.0, y.1.1),
        λ x. e ∙ f.1 (x.0, v.1 ((x.1, fits-lent g x.2), (x.3, x.4))),
      )

  pub refuses-node : promises.RefusesNode W
  refuses-node g c r rs s k p =
      let e = verdict-back g c r rs s p in
      let f = placed g c 4 k (λ q. omega (arith, q)) (λ q. omega (arith, q)) (λ q. omega (arith, q)) in
      let v = refused-node W g (whole c) k in (
        λ q. let x = f.0 (sym e ∙ q) in let y = v.0 x.1 in (x.0, y.0.0, fits-back g y.0.1, y.1.0, y.1.1),
        λ x. e ∙ f.1 (x.0, v.1 ((x.1, fits-lent g x.2), (x.3, x.4))),
      )

  pub refuses-disobeying-entry : promises.RefusesDisobeyingEntry W
  refuses-disobeying-entry g c r rs s k p =
      let e = verdict-back (some g) c r rs s p in
      let f = placed (some g) c 10 k (λ q. omega (arith, q)) (λ q. omega (arith, q)) (λ q. omega (arith, q)) in
      let v = refused-ten W (some g) (whole c) k in (
        λ q. let x = f.0 (sym e ∙ q) in let y = v.0 x.1 in (x.0, y.0.0, y.0.1, y.1.0, y.1.1.0, y.1.1.1.1),
        λ x. e ∙ f.1 (x.0, v.1 ((x.1, x.2), (x.3, (x.4, (refl, x.5))))),
      )

  pub refuses-disobeying-node : promises.RefusesDisobeyingNode W
  refuses-disobeying-node g c r rs s k p =
      let e = verdict-back (some g) c r rs s p in
      let f = placed (some g) c 11 k (λ q. omega (arith, q)) (λ q. omega (arith, q)) (λ q. omega (arith, q)) in
      let v = refused-eleven W (some g) (whole c) k in (
        λ q. let x = f.0 (sym e ∙ q) in let y = v.0 x.1 in (x.0, y.0.0, y.0.1, y.1.0, y.1.1.0, y.1.1.1.0, y.1.1.1.1.1),
        λ x. e ∙ f.1 (x.0, v.1 ((x.1, x.2), (x.3, (x.4, (x.5, (refl, x.6)))))),
      )

  pub refuses-start : promises.RefusesStart W
  refuses-start g c r rs s p =
      let e = verdict-back g c r rs s p in (
        λ q.
            let v : many_refused_by W g c ≡ checked 5 r.place = sym e ∙ (λ j. record { answer = q j; place = r.place }) in
            let f = from_last g c 5 r.place (inr refl) v in
            let b = start-false g c r.place f.1 in
            let h = f.0 in
            (h.0, h.1, h.2, h.3, h.4, h.5, λ x. false≢true (sym b ∙ (starts-plain g c).1 x)),
        λ h.
            ap (λ (x : Checked). x.answer)
            (e ∙ last-test g c 5 false refl (inr refl) (not-true-false g c _ (λ b. h.6 ((starts-plain g c).0 b))) (h.0, h.1, h.2, h.3, h.4, h.5)),
      )

  pub accepts : promises.Accepts W
  accepts g c r rs s p =
      let e = verdict-back g c r rs s p in (
        λ q.
            let f = from_last g c 0 0 (inl refl) (sym e ∙ q) in
            let h = f.0 in
            (h.0, h.1, h.2, h.3, h.4, h.5, (starts-plain g c).0 (start-true g c 0 f.1)),
        λ h. e ∙ last-test g c 0 true refl (inl refl) ((starts-plain g c).1 h.6) (h.0, h.1, h.2, h.3, h.4, h.5),
      )
