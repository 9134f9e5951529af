-- The promises of the contract of `run`, proved.
use mathlib.Core.Path.{◌≡◌, refl, ap, sym, ◌∙◌, subst, fun_ext}
use mathlib.Core.Bool.{Bool, true, false, ◌&&◌, true≢false}
use mathlib.Core.Option.{Option, none, some}
use mathlib.Core.Logic.{◌≢◌, ◌⊎◌, inl, inr, ⊎_elim, ◌↔◌}
use mathlib.Core.List.{List, [], ◌∷◌}
use Prim.Native.Nat.{ℕ, zero, suc, ◌+◌, ◌-◌, ◌*◌, ◌≤◌, ◌<◌}
use native.Mathlib.Omega.{arith}
use lib.Dec.{eqb, leb}
use lib.ListN.{length, get_or, take, get_or-eq_default}
use borrow.Author.Tests.{eq-eqb, ne_eqb, eqb-true, eqb-false}
use Rattle.checks.specs.Kinds.{variables_by}
use Rattle.words.specs.Words.{rows, cleared_from}
use Rattle.std.specs.Prelude.{if◌then◌else◌}
use Rattle.words.specs.Tests.{rejected}
use Rattle.words.proofs.Tests.{below-or-from}
use Rattle.words.proofs.Rows.{length-cleared_from, take-cleared_from, get_or-cleared_from-from}
use Rattle.checks.specs.Checked.{Checked}
use Rattle.checks.specs.Good.{good_entry_by, good_node}
use Rattle.checks.specs.Checked.{checked, found, table_length_fits, store_length_fits, table_checked_by, store_checked}
use Rattle.checks.proofs.Promises.{table_passes, never_three}
use Rattle.meaning.specs.Bindings.{Bindings, has}
use Rattle.meaning.specs.Beginning.{at-unbound, Begun, Given}
use Rattle.meaning.specs.Plan.{keep, ret, fail, ask}
use Rattle.meaning.specs.Free.{Closed}
use Rattle.meaning.specs.Term.{Term}
use Rattle.meaning.specs.Table.{SEQ, Table, table_by}
use Rattle.meaning.specs.Rules.{Visit, apply, does}
use Rattle.meaning.specs.Derivation.{Out, failed, fails, quiet, places, nowhere, shut, noted, misses, last_of}
use Rattle.meaning.specs.System.{Env, ◌∶◌is◌, ◌⊢◌⇒◌, trace}
use Rattle.meaning.specs.Limits.{Limit, units, room, nesting, unbound as without-binding, ended, lost, cut, at as counted-at}
use Rattle.meaning.specs.Store.{Input, AcceptedBy, Kept, Sound, Leaves, named, bindings, term, term_of, meant, value, ran_by, Ran, State, on, stored, deepest}
use Rattle.meaning.specs.Answer.{Returned, number, place_of, binding_word, binding_words, returned_by}
use Rattle.meaning.specs.Demands.{Says, limits, start_visit, unnoted, Agreed, started}
use Rattle.meaning.proofs.Tests.{impossible}
use Rattle.meaning.proofs.Checked.{Filled, node-of-good}
use Rattle.meaning.proofs.Words.{kept_refl, kept_trans, kept-term}
use Rattle.meaning.proofs.Demands as meant-demands
use Rattle.meaning.proofs.Bits.{has-nothing}
use Rattle.meaning.specs.Lower.{Again}
use Rattle.collect.specs.Promises.{after}
use Rattle.collect.proofs.Promises as collect-promises
use Rattle.meaning.specs.Orderings.{Site, Every, every-none, every_more, separate-none, separate-more, Stands, none_left as none-to-order, first-stays, first_two, order-last, order-more}
use Rattle.free.specs.Answered.{FreeVariables}
use Rattle.free.specs.Answered.{AnsweredBy}
use Rattle.free.proofs.Smallest.{free-below}
use Rattle.free.proofs.Promises.{never_three as freeNeverThree}
use Rattle.calls.specs.Refused.{sizes_fit_by, start_fits, refused_by}
use Rattle.calls.specs.Run.{input, at_return, refusing, run_with_by, run_of_by}
use Rattle.calls.specs.Promises as promises
use Rattle.calls.specs.Promises.{Runs, AsGiven, Ended, Told, SizesFit, EntriesGood, NodesGood, StartFits, Refusal, of-sizes}
use Rattle.calls.specs.Promises.{of_entry, of_node, of-start, InList, when-done, when-failed, when-refused, when-cut-off}
use Rattle.calls.specs.Promises.{when-unbound}
use Rattle.calls.specs.Outcome.{Outcome}
use Rattle.calls.proofs.Accepting.{verdict, accepted-answer, accepted-back}
use Rattle.calls.proofs.Accepting as accepting
use Rattle.calls.proofs.Words.{length-words, word-of}
use Rattle.meaning.proofs.Falling.{units_left, units-fall}

module _ (W : ℕ) where
  -- the units that a run has left are not more than it was given
  pub units-left : (i : Input) → units_left (ran_by W places nowhere i) ≤ i.units
  unfolding ran_by
  units-left i = units-fall (stored places) (does (table_by W i.table)) deepest (apply i.start i.subject (bindings i.bindings)) (on i.store i.mark nowhere) i.units

  -- ---- two outcomes

  pub agreeing : promises.Agreeing W
  agreeing i o o' s s' b b' p q =
      let e : at_return o s b ≡ at_return o' s' b' = p ∙ sym q in (
        (λ j. record { answer = (e j).answer; place = (e j).place; subject = (e j).subject; mark = (e j).mark; units = (e j).units }),
        ap (λ (r : Returned). r.store) e,
        ap (λ (r : Returned). r.bindings) e,
      )

  -- ---- refused, or run

  module _ (i : Input) where
    -- the run of an accepted input
    pub runs : AcceptedBy W i → run_of_by W i ≡ returned_by W i (ran_by W places nowhere i)
    unfolding run_with_by
    runs a = rw (accepted-back W i.table i.store i.bindings i.mark i.start i.subject i.units a)

    -- an input is accepted, or its verdict is not 0
    judged : AcceptedBy W i ⊎ (eqb (verdict W i).answer 0 ≡ false)
    judged = go (eqb (verdict W i).answer 0) refl
      where
        go : (b : Bool) → eqb (verdict W i).answer 0 ≡ b → AcceptedBy W i ⊎ (eqb (verdict W i).answer 0 ≡ false)
        go true e = inl (accepted-answer W i.table i.store i.bindings i.mark i.start i.subject i.units e)
        go false e = inr e

    turned-away : eqb (verdict W i).answer 0 ≡ false → run_of_by W i ≡ refusing i (verdict W i)
    unfolding run_with_by
    turned-away e = rw e

  -- a run's own answers
  abbrev pub OfRun : ℕ → Type 0
  OfRun n = (n ≤ 1) ⊎ (((6 ≤ n) × (n ≤ 8)) ⊎ (n ≡ 12))

  pub of-run : (i : Input) (r : Ran ℕ) → OfRun (returned_by W i r).answer
  unfolding returned_by number
  of-run i (ended k b s u) = inl (omega arith)
  of-run i (lost w u) = inl (omega arith)
  of-run i (cut units w u) = inr (inl (omega arith, omega arith))
  of-run i (cut room w u) = inr (inl (omega arith, omega arith))
  of-run i (cut nesting w u) = inr (inl (omega arith, omega arith))
  of-run i (cut (without-binding v) w u) = inr (inr refl)

  -- none from 2 to 5 is, and none above 12
  not-of-run : (n : ℕ) → 1 < n → (n < 6) ⊎ (12 < n) → OfRun n → ⊥
  not-of-run n l m =
      ⊎_elim (λ h. omega arith)
      (⊎_elim (λ h. ⊎_elim (λ k. omega (arith, h.0)) (λ k. omega (arith, h.1)) m) (λ h. ⊎_elim (λ k. omega arith) (λ k. omega arith) m))

  -- they are in the list, and none is a refusal's
  listed-ran : (i : Input) (r : Ran ℕ) → InList (returned_by W i r).answer
  unfolding returned_by number
  listed-ran i (ended k b s u) = when-done
  listed-ran i (lost w u) = when-failed
  listed-ran i (cut units w u) = when-cut-off 6 (omega arith) (omega arith)
  listed-ran i (cut room w u) = when-cut-off 7 (omega arith) (omega arith)
  listed-ran i (cut nesting w u) = when-cut-off 8 (omega arith) (omega arith)
  listed-ran i (cut (without-binding v) w u) = when-unbound

  refusal-not-ran : (n : ℕ) → Refusal n → OfRun n → ⊥
  refusal-not-ran n of-sizes = not-of-run 2 (omega arith) (inl (omega arith))
  refusal-not-ran n (of_entry m k l) = not-of-run m (omega arith) (inr k)
  refusal-not-ran n of_node = not-of-run 4 (omega arith) (inl (omega arith))
  refusal-not-ran n of-start = not-of-run 5 (omega arith) (inl (omega arith))

  refusal-not-three : (n : ℕ) → Refusal n → n ≢ 3
  refusal-not-three n of-sizes e = omega arith
  refusal-not-three n (of_entry m k l) e = omega arith
  refusal-not-three n of_node e = omega arith
  refusal-not-three n of-start e = omega arith

  module _ (i : Input) (o : Outcome) (s b : List ℕ) (p : Runs W i o s b) where
    -- what comes back from a run, and from a refusal
    pub came : AcceptedBy W i → at_return o s b ≡ returned_by W i (ran_by W places nowhere i)
    came a = p ∙ runs i a

    refused-came : eqb (verdict W i).answer 0 ≡ false → at_return o s b ≡ refusing i (verdict W i)
    refused-came e = p ∙ turned-away i e

    answer-of : {r : Returned} → at_return o s b ≡ r → o.answer ≡ r.answer
    answer-of e = ap (λ (r : Returned). r.answer) e

    ran-answer : AcceptedBy W i → OfRun o.answer
    ran-answer a = subst OfRun (sym (answer-of (came a))) (of-run i (ran_by W places nowhere i))

    refused-answer : eqb (verdict W i).answer 0 ≡ false → Refusal o.answer
    refused-answer e = subst Refusal (sym (answer-of (refused-came e))) (accepting.verdict-refusal W i e)

    listed : InList o.answer
    listed = ⊎_elim (λ a. subst InList (sym (answer-of (came a))) (listed-ran i (ran_by W places nowhere i))) (λ e. when-refused o.answer (refused-answer e)) (judged i)

    malformed : Refusal o.answer ↔ (AcceptedBy W i → ⊥)
    malformed = (
      λ l a. refusal-not-ran o.answer l (ran-answer a),
      λ n. ⊎_elim (λ a. absurd (n a)) refused-answer (judged i),
    )

    not_three : o.answer ≢ 3
    not_three h =
        ⊎_elim (λ a. not-of-run o.answer (omega arith) (inl (omega arith)) (ran-answer a)) (λ e. refusal-not-three o.answer (refused-answer e) h) (judged i)

  -- a run's own answers below 12 but 1 have place 0
  ran-place : (i : Input) (r : Ran ℕ) → (returned_by W i r).answer ≢ 1 → (returned_by W i r).answer < 12 → (returned_by W i r).place ≡ 0
  unfolding returned_by number place_of
  ran-place i (ended k b s u) n l = refl
  ran-place i (lost w u) n l = absurd (n refl)
  ran-place i (cut units w u) n l = refl
  ran-place i (cut room w u) n l = refl
  ran-place i (cut nesting w u) n l = refl
  ran-place i (cut (without-binding v) w u) n l = absurd (omega arith)

  module _ (i : Input) (o : Outcome) (s b : List ℕ) (p : Runs W i o s b) where
    -- a refusal's answer and place are the verdict's
    by-verdict : (n k : ℕ) → 1 < n → (n < 6) ⊎ (12 < n) → ((o.answer ≡ n) × (o.place ≡ k)) ↔ (verdict W i ≡ checked n k)
    by-verdict n k l m = (
      λ e.
          ⊎_elim (λ a. absurd (not-of-run n l m (subst OfRun e.0 (ran-answer i o s b p a))))
          (λ z. let w : at_return o s b ≡ refusing i (verdict W i) = refused-came i o s b p z in
          let x : (verdict W i).answer ≡ n = sym (ap (λ (r : Returned). r.answer) w) ∙ e.0 in
          let y : (verdict W i).place ≡ k = sym (ap (λ (r : Returned). r.place) w) ∙ e.1 in
          λ j. record { answer = x j; place = y j })
          (judged i),
      λ e.
          let z : (verdict W i).answer ≡ n = ap (λ (c : Checked). c.answer) e in
          let w : at_return o s b ≡ refusing i (verdict W i) = refused-came i o s b p (ne_eqb (verdict W i).answer 0 (λ h. omega (arith, z, h))) in
          (ap (λ (r : Returned). r.answer) w ∙ z, ap (λ (r : Returned). r.place) w ∙ ap (λ (c : Checked). c.place) e),
    )

    sizes-answer : (o.answer ≡ 2) ↔ (SizesFit W i → ⊥)
    sizes-answer = (
      λ e. ((accepting.plain-sizes W i o.place).0 ((by-verdict 2 o.place (omega arith) (inl (omega arith))).0 (e, refl))).1,
      λ n. ((by-verdict 2 0 (omega arith) (inl (omega arith))).1 ((accepting.plain-sizes W i 0).1 (refl, n))).0,
    )

    start-answer : (o.answer ≡ 5) ↔ (SizesFit W i × EntriesGood W i × NodesGood i × (StartFits i → ⊥))
    start-answer = (
      λ e.
          let f = (accepting.plain-start W i o.place).0 ((by-verdict 5 o.place (omega arith) (inl (omega arith))).0 (e, refl)) in
          (f.0, f.1.0, f.1.1.0, f.1.1.1.1),
      λ f. ((by-verdict 5 0 (omega arith) (inl (omega arith))).1 ((accepting.plain-start W i 0).1 (f.0, (f.1, (f.2, (refl, f.3)))))).0,
    )

    unplaced : o.answer ≢ 1 → o.answer ≢ 4 → o.answer < 12 → o.place ≡ 0
    unplaced f m n =
        ⊎_elim (λ a. let e = came i o s b p a in ap (λ (r : Returned). r.place) e ∙ ran-place i (ran_by W places nowhere i) (λ z. f (ap (λ (r : Returned). r.answer) e ∙ z))
        (omega (arith, ap (λ (r : Returned). r.answer) e)))
        (λ z. let w : at_return o s b ≡ refusing i (verdict W i) = refused-came i o s b p z in
        let x : o.answer ≡ (verdict W i).answer = ap (λ (r : Returned). r.answer) w in
        ap (λ (r : Returned). r.place) w ∙ accepting.verdict-placed W i (λ e. m (x ∙ e)) (omega (arith, x)))
        (judged i)

  pub refuses-sizes : promises.RefusesSizes W
  refuses-sizes = sizes-answer

  pub refuses-entry : promises.RefusesEntry W
  refuses-entry i o s b n k l p =
      let v = by-verdict i o s b p n k (omega arith) (inr (omega arith)) in
      let w = accepting.plain_entry W i n k l in
      (λ e. let f = w.0 (v.0 e) in (f.0, f.1.0, f.1.1), λ f. v.1 (w.1 (f.0, (f.1, f.2))))

  pub refuses-node : promises.RefusesNode W
  refuses-node i o s b k p =
      let v = by-verdict i o s b p 4 k (omega arith) (inl (omega arith)) in
      let w = accepting.plain-node W i k in
      (λ e. let f = w.0 (v.0 e) in (f.0, f.1.0, f.1.1), λ f. v.1 (w.1 (f.0, (f.1, f.2))))

  pub refuses-start : promises.RefusesStart W
  refuses-start = start-answer

  pub no_place : promises.NoPlace W
  no_place = unplaced

  pub not-refused : promises.NotRefused W
  not-refused = accepting.not-refused W

  pub accepted-plain : promises.AcceptedPlain W
  accepted-plain = accepting.accepted-plain W

  pub never-three : promises.NeverThree W
  never-three = record {
    run = not_three;
    free = freeNeverThree W;
    table = λ t c e. subst (λ (c : Checked). c.answer ≢ 3) (sym e) (never_three W t t 0).0;
    store = λ s mark c e. subst (λ (c : Checked). c.answer ≢ 3) (sym e) (never_three W s s mark).1;
  }

  pub listed_answer : promises.Listed W
  listed_answer = listed

  pub refuses : promises.Refuses W
  refuses = malformed

  -- ---- what is given back

  module _ (i : Input) (o : Outcome) (s b : List ℕ) where
    pub as-given : {a p u : ℕ} {w : List ℕ} → at_return o s b ≡ record { answer = a; place = p; subject = i.subject; mark = i.mark; units = u; store = w; bindings = i.bindings } → AsGiven i o b
    as-given e = record {
      subject = ap (λ (r : Returned). r.subject) e;
      mark = ap (λ (r : Returned). r.mark) e;
      bindings = ap (λ (r : Returned). r.bindings) e;
    }

    -- what a run that is not done gives back
    as-given-ran : (r : Ran ℕ) → at_return o s b ≡ returned_by W i r → (o.answer ≡ 0 → ⊥) → AsGiven i o b
    unfolding returned_by
    as-given-ran (ended k c t u) e n = absurd (n (ap (λ (r : Returned). r.answer) e))
    as-given-ran (lost w u) e n = as-given e
    as-given-ran (cut l w u) e n = as-given e

  pub writes_nothing : promises.WritesNothing W
  writes_nothing i o s b p n =
      let e : at_return o s b ≡ refusing i (verdict W i) = refused-came i o s b p (⊎_elim (λ a. absurd (n a)) (λ z. z) (judged i)) in
      (as-given i o s b e, ap (λ (r : Returned). r.store) e, ap (λ (r : Returned). r.units) e)

  pub gives_back : promises.GivesBack W
  gives_back i o s b p n =
      ⊎_elim (λ a. as-given-ran i o s b (ran_by W places nowhere i) (came i o s b p a) n) (λ e. as-given i o s b (refused-came i o s b p e)) (judged i)

  -- ---- the store

  -- zeros from a place on leave the nodes below it
  pub cleared-kept : (w : List ℕ) (m n : ℕ) → m ≤ n → Kept w m (cleared_from w (8 * n))
  cleared-kept w m n l = record { long = length-cleared_from w (8 * n); same = take-cleared_from w (8 * m) (8 * n) (omega arith) }

  returned-kept : (i : Input) (r : Ran ℕ) → Leaves i.store i.mark r → Kept i.store i.mark (returned_by W i r).store
  unfolding returned_by
  returned-kept i (ended k b s u) l = kept_trans (omega arith) l.1 (cleared-kept s.words i.mark s.mark l.0)
  returned-kept i (lost w u) l = kept_trans (omega arith) l (cleared-kept w.words i.mark i.mark (omega arith))
  returned-kept i (cut c w u) l = kept_trans (omega arith) l (cleared-kept w.words i.mark i.mark (omega arith))

  pub ran-kept : (i : Input) → AcceptedBy W i → Kept i.store i.mark (returned_by W i (ran_by W places nowhere i)).store
  ran-kept i a = returned-kept i (ran_by W places nowhere i) (meant-demands.over-the-words W ℕ places nowhere i a).1

  pub keeps : promises.Keeps W
  keeps i o s b p =
      ⊎_elim (λ a. subst (Kept i.store i.mark) (sym (ap (λ (r : Returned). r.store) (came i o s b p a))) (ran-kept i a))
      (λ e. subst (Kept i.store i.mark) (sym (ap (λ (r : Returned). r.store) (refused-came i o s b p e))) (kept_refl i.store i.mark))
      (judged i)

  returned-cleared : (i : Input) (r : Ran ℕ) (k : ℕ) → 8 * (returned_by W i r).mark ≤ k → get_or (returned_by W i r).store k 0 ≡ 0
  unfolding returned_by
  returned-cleared i (ended h b s u) k l = get_or-cleared_from-from s.words (8 * s.mark) k l
  returned-cleared i (lost w u) k l = get_or-cleared_from-from w.words (8 * i.mark) k l
  returned-cleared i (cut c w u) k l = get_or-cleared_from-from w.words (8 * i.mark) k l

  pub clears : promises.Clears W
  clears i o s b a p = subst (λ (r : Returned). (k : ℕ) → 8 * r.mark ≤ k → get_or r.store k 0 ≡ 0) (sym (came i o s b p a)) (returned-cleared i (ran_by W places nowhere i))

  -- ---- what comes back, as values

  -- a binding's word names what it was made of
  named-word : (o : Option ℕ) → named (binding_word o) ≡ o
  unfolding named binding_word
  named-word none = refl
  named-word (some k) = refl

  -- bindings of the variables alone come back from their words
  words_back : (b : Bindings ℕ) → ((v : ℕ) → (variables_by W) ≤ v → b v ≡ none) → bindings (binding_words (variables_by W) b) ≡ b
  unfolding bindings named
  words_back b h = fun_ext (λ v. ⊎_elim (λ l. ap named (word-of (variables_by W) b v l) ∙ named-word (b v)) (λ l. past v l ∙ sym (h v l)) (below-or-from v (variables_by W)))
    where
      past : (v : ℕ) → (variables_by W) ≤ v → named (get_or (binding_words (variables_by W) b) v 0) ≡ none
      past v l = ap named (get_or-eq_default (binding_words (variables_by W) b) 0 (omega (arith, length-words (variables_by W) b)))

  unbound : (w : List ℕ) (o : Option ℕ) → term_of w o ≡ none → o ≡ none
  unfolding term_of
  unbound w none e = refl
  unbound w (some k) e = impossible (cc)

  -- there is a variable
  module _ (variable : 0 < W) where
    module _ (i : Input) (a : AcceptedBy W i) where
      -- no number from `variables` on is bound at the start, nor at the end
      none-given : (v : ℕ) → (variables_by W) ≤ v → meant i.store (bindings i.bindings) v ≡ none
      unfolding meant bindings named term_of
      none-given v l = let e : get_or i.bindings v 0 ≡ 0 = get_or-eq_default i.bindings 0 (omega (arith, a.bindings)) in rw e

      none_left : (k : ℕ) (b : Bindings ℕ) (s : State ℕ) (u : ℕ) → ran_by W places nowhere i ≡ ended k b s u → (v : ℕ) → (variables_by W) ≤ v → b v ≡ none
      unfolding value meant
      none_left k b s u e v l =
          let d = (meant-demands.demand-2 W ℕ places nowhere i a (value (ended k b s u))).0 (ap value e) in
          let n = meant-demands.outside-free (table_by W i.table) i.start _ _ _ _ d.0 v
          (λ f. omega (arith, free-below W variable i.table ((table_passes W i.table).0 (ap (λ (c : Checked). c.answer) a.table)) i.start v (a.inside, a.strategy) f)) in
          unbound s.words (b v) (n ∙ none-given v l)

      -- the terms of a done run are not among the words that are set to zero
      module _ (k : ℕ) (b : Bindings ℕ) (s : State ℕ) (sound : Sound s.words s.mark k b) where
        filled : Filled s.words s.mark
        filled = record { fits = sound.fits; node = λ j l. node-of-good s.words j (sound.good j l) }

        cleared : List ℕ
        cleared = cleared_from s.words (8 * s.mark)

        term-stays : (j : ℕ) → j < s.mark → term cleared j ≡ term s.words j
        unfolding cleared
        term-stays j l = kept-term filled (cleared-kept s.words s.mark s.mark (omega arith)) j l

        option-stays : (o : Option ℕ) → ((j : ℕ) → o ≡ some j → j < s.mark) → term_of cleared o ≡ term_of s.words o
        unfolding term_of
        option-stays none h = refl
        option-stays (some j) h = ap some (term-stays j (h j refl))

        meant-stays : meant cleared b ≡ meant s.words b
        unfolding meant
        meant-stays = fun_ext (λ v. option-stays (b v) (sound.bound v))

      -- what comes back of a run that ends so says just that
      told-ran : (r : Ran ℕ) → ran_by W places nowhere i ≡ r → Told i (returned_by W i r) (unnoted (value r))
      unfolding returned_by value unnoted units_left cleared
      told-ran (ended k b s u) e =
          let l : Leaves i.store i.mark (ended k b s u) = subst (Leaves i.store i.mark) e (meant-demands.over-the-words W ℕ places nowhere i a).1 in
          let n : u ≤ i.units = subst (λ (r : Ran ℕ). units_left r ≤ i.units) e (units-left i) in (
            refl,
            term-stays k b s l.2 k l.2.subject,
            ap (meant (cleared_from s.words (8 * s.mark))) (words_back b (none_left k b s u e)) ∙ meant-stays k b s l.2,
            refl,
            omega arith,
          )
      told-ran (lost w u) e = let n : u ≤ i.units = subst (λ (r : Ran ℕ). units_left r ≤ i.units) e (units-left i) in (refl, omega arith)
      told-ran (cut c w u) e = let n : u ≤ i.units = subst (λ (r : Ran ℕ). units_left r ≤ i.units) e (units-left i) in (refl, refl, omega arith)

      came-told : (o : Outcome) (s b : List ℕ) → Runs W i o s b → Told i (at_return o s b) (value (ran_by W quiet tt i))
      came-told o s b p =
          subst (Told i (at_return o s b)) (meant-demands.notes-apart W ℕ places nowhere i a)
          (subst (λ (r : Returned). Told i r (unnoted (value (ran_by W places nowhere i)))) (sym (came i o s b p a)) (told-ran (ran_by W places nowhere i) refl))

    -- a cut-off's number is above those of done and failed
    number-above : (c : Limit) → 6 ≤ number c
    unfolding number
    number-above units = omega arith
    number-above room = omega arith
    number-above nesting = omega arith
    number-above (without-binding v) = omega arith

    -- its number and its place are its own: this is what they name
    limit-at : ℕ → ℕ → Limit
    limit-at n p = if eqb n 6 then units else if eqb n 7 then room else if eqb n 8 then nesting else without-binding p

    limit-named : (c : Limit) → limit-at (number c) (place_of c) ≡ c
    unfolding limit-at number place_of
    limit-named units = refl
    limit-named room = refl
    limit-named nesting = refl
    limit-named (without-binding v) = refl

    one-limit : (c d : Limit) → number c ≡ number d → place_of c ≡ place_of d → c ≡ d
    one-limit c d e f = sym (limit-named c) ∙ (λ j. limit-at (e j) (f j)) ∙ limit-named d

    -- what comes back says one thing
    one_told : (i : Input) (x : Returned) (r r' : Ended) → Told i x r → Told i x r' → r ≡ r'
    one_told i x (ended t c m u) (ended t' c' m' u') h k =
        let n : u ≡ u' = omega (arith, h.4, k.4) in
        λ j. ended ((sym h.1 ∙ k.1) j) ((sym h.2 ∙ k.2) j) (counted-at ((sym h.3 ∙ k.3) j) tt) (n j)
    one_told i x (ended t c m u) (lost l u') h k = absurd (omega (arith, h.0, k.0))
    one_told i x (ended t c m u) (cut d l u') h k = absurd (omega (arith, h.0, k.0, number-above d))
    one_told i x (lost l u) (ended t c m u') h k = absurd (omega (arith, h.0, k.0))
    one_told i x (lost l u) (lost l' u') h k = let n : u ≡ u' = omega (arith, h.1, k.1) in λ j. lost tt (n j)
    one_told i x (lost l u) (cut d l' u') h k = absurd (omega (arith, h.0, k.0, number-above d))
    one_told i x (cut d l u) (ended t c m u') h k = absurd (omega (arith, h.0, k.0, number-above d))
    one_told i x (cut d l u) (lost l' u') h k = absurd (omega (arith, h.0, k.0, number-above d))
    one_told i x (cut d l u) (cut d' l' u') h k =
        let n : u ≡ u' = omega (arith, h.2, k.2) in λ j. cut (one-limit d d' (sym h.0 ∙ k.0) (sym h.1 ∙ k.1) j) tt (n j)

    module _ (i : Input) (a : AcceptedBy W i) (o : Outcome) (s b : List ℕ) (p : Runs W i o s b) where
      -- what comes back says r exactly where the run over the words ends so
      told_is : (r : Ended) → Told i (at_return o s b) r ↔ (value (ran_by W quiet tt i) ≡ r)
      told_is r = (
        λ h. one_told i (at_return o s b) (value (ran_by W quiet tt i)) r (came-told i a o s b p) h,
        λ e. subst (Told i (at_return o s b)) e (came-told i a o s b p),
      )

    pub demand-2 : promises.Demand2 W
    demand-2 i o s b a p r =
        let f = told_is i a o s b p r in
        let g = meant-demands.demand-2 W (Unit {0}) quiet tt i a r in
        (λ h. g.0 (f.0 h), λ k. f.1 (g.1 k))

    -- what answers 12 says that a variable without its binding was met
    unbound-said : (T : Table) (g : Given) (q : Visit Term) (i : Input) (x : Returned) (r : Ended) → Told i x r → x.answer ≡ 12 → Says quiet tt T g q r
        → (v : ℕ) × Begun T (ask keep q ret fail) (at-unbound v)
    unfolding number
    unbound-said T g q i x (ended t c m u) h e s = absurd (omega (arith, h.0, e))
    unbound-said T g q i x (lost l u) h e s = absurd (omega (arith, h.0, e))
    unbound-said T g q i x (cut units l u) h e s = absurd (omega (arith, h.0, e))
    unbound-said T g q i x (cut room l u) h e s = absurd (omega (arith, h.0, e))
    unbound-said T g q i x (cut nesting l u) h e s = absurd (omega (arith, h.0, e))
    unbound-said T g q i x (cut (without-binding v) l u) h e s = (v, s.0)

    -- what answers 1 has the place that was noted of its derivation
    placed_by : (i : Input) (o : Outcome) (s b : List ℕ) (r : Ran ℕ) → at_return o s b ≡ returned_by W i r → o.answer ≡ 1 → (T : Table) (g : Given) (q : Visit Term)
        → Says places nowhere T g q (value r)
        → (d : T ⊢ q ⇒ failed) × (o.place ≡ noted places (trace d) nowhere)
    unfolding returned_by value number noted shut
    placed_by i o s b (ended k c w u) e z T g q h = absurd (omega (arith, ap (λ (r : Returned). r.answer) e, z))
    placed_by i o s b (lost l u) e z T g q h = (h.0, ap (λ (r : Returned). r.place) e ∙ h.2)
    placed_by i o s b (cut units l u) e z T g q h = absurd (omega (arith, ap (λ (r : Returned). r.answer) e, z))
    placed_by i o s b (cut room l u) e z T g q h = absurd (omega (arith, ap (λ (r : Returned). r.answer) e, z))
    placed_by i o s b (cut nesting l u) e z T g q h = absurd (omega (arith, ap (λ (r : Returned). r.answer) e, z))
    placed_by i o s b (cut (without-binding v) l u) e z T g q h = absurd (omega (arith, ap (λ (r : Returned). r.answer) e, z))

    pub last-miss : promises.LastMiss W
    last-miss i o s b a p z d =
        let h = (meant-demands.demand-2 W ℕ places nowhere i a (value (ran_by W places nowhere i))).0 refl in
        let f = placed_by i o s b (ran_by W places nowhere i) (came i o s b p a) z (table_by W i.table) (limits i) (start_visit i) h in
        f.1
        ∙ ap (λ t. noted places t nowhere) (meant-demands.deterministic (table_by W i.table) (start_visit i) failed failed f.0 d).1
        ∙ meant-demands.places-are-last (trace d) nowhere

    pub unbound-underivable : promises.UnboundUnderivable W
    unbound-underivable i o s b a p e x d =
        let r = value (ran_by W quiet tt i) in
        let h = came-told i a o s b p in
        let (v, w) = unbound-said (table_by W i.table) (limits i) (start_visit i) i (at_return o s b) r h e ((demand-2 i o s b a p r).0 h) in
        meant-demands.unbound-underivable (table_by W i.table) (start_visit i) v w x d

    -- ---- demand 3

    -- a strategy of which the question of free variables finds none is closed
    closed-by : (t : List ℕ) (x : ℕ) (q : FreeVariables) → AnsweredBy W t x q → q.answer ≡ 0 → q.mask ≡ 0 → Closed (table_by W t) x
    closed-by t x q h z m v f = true≢false (sym (subst (λ (n : ℕ). has n v ≡ true) m (((h.mask z).free v).1 f)) ∙ has-nothing v)

    -- two answers, of which one is a cut-off or both say what is so in each order
    either_way : (T : Table) (g g' : Given) (s s' : ℕ) (t : Term) (b : Env) (r r' : Ended) → Says quiet tt T g (apply s t b) r → Says quiet tt T g' (apply s' t b) r'
        → ((o o' : Out Term Env) → T ⊢ apply s t b ⇒ o → T ⊢ apply s' t b ⇒ o' → Agreed r r') → Agreed r r'
    either_way T g g' s s' t b (ended h c m u) (ended h' c' m' u') x y k = k _ _ x.0 y.0
    either_way T g g' s s' t b (ended h c m u) (lost l u') x y k = k _ _ x.0 y.0
    either_way T g g' s s' t b (ended h c m u) (cut e l u') x y k = tt
    either_way T g g' s s' t b (lost l u) (ended h c m u') x y k = k _ _ x.0 y.0
    either_way T g g' s s' t b (lost l u) (lost l' u') x y k = tt
    either_way T g g' s s' t b (lost l u) (cut e l' u') x y k = tt
    either_way T g g' s s' t b (cut e l u) r' x y k = tt

    -- sites whose strategies the question finds closed stand
    stand : (t : List ℕ) {xs : List Site} → Every (promises.Movable W t) xs → Every (Stands (table_by W t)) xs
    stand t every-none = every-none
    stand t (every_more {x = x} m ms) = every_more (record { closed = closed-by t x.strategy m.question m.answered m.good m.none; at = m.at }) (stand t ms)

    pub demand-3-all : promises.Demand3All W
    demand-3-all i xs ys zs start given o o' s s' b b' ms apart re re' first second a a' p p' u u' w w' =
        let j : Input = started i start given in
        let T : Table = table_by W i.table in
        let t : Term = term i.store i.subject in
        let c : Env = meant i.store (bindings i.bindings) in
        let v : value (ran_by W quiet tt i) ≡ u = (told_is i a o s b p u).0 w in
        let v' : value (ran_by W quiet tt j) ≡ u' = (told_is j a' o' s' b' p' u').0 w' in
        either_way T (limits i) (limits j) i.start start t c u u' ((meant-demands.demand-2 W (Unit {0}) quiet tt i a u).0 v) ((meant-demands.demand-2 W (Unit {0}) quiet tt j a' u').0 v')
        (λ d d' r r'.
        subst (λ (x : Ended). Agreed x u') v
        (subst (λ (x : Ended). Agreed (value (ran_by W quiet tt i)) x) v'
        (meant-demands.demand-3-runs W (Unit {0}) quiet tt i start given a a'
        (meant-demands.orders-agree T xs ys zs t c i.start start d d' (stand i.table ms) apart re re' first second r r'))))

    -- Two places are the case of a list of two.
    pub demand-3 : promises.Demand3 W
    demand-3 i x y e f start given π ρ q q' o o' s s' b b' h z m h' z' m' at at' n n' first second a a' p p' u u' w w' =
        demand-3-all i (X ∷ Y ∷ []) (X ∷ Y ∷ []) (Y ∷ X ∷ []) start given o o' s s' b b'
        (every_more (record { question = q; answered = h; good = z; none = m; at = at }) (every_more (record { question = q'; answered = h'; good = z'; none = m'; at = at' }) every-none))
        (separate-more (every_more (record { above = n; below = n' }) every-none) (separate-more every-none separate-none))
        (first-stays (first-stays none-to-order)) first_two (order-more first order-last) (order-more second order-last) a a' p p' u u' w w'
      where
        X : Site
        X = record { strategy = x; entry = e; place = π }

        Y : Site
        Y = record { strategy = y; entry = f; place = ρ }

    -- ---- a run after a collection

    -- what comes back of two runs with the same units, where the second says what the first says
    again : (i j : Input) (x y : Returned) (r r' : Ended) → j.units ≡ i.units → Told i x r → Told j y r' → Again r r' → x.answer ≤ 1
        → (y.answer ≡ x.answer) × (y.units ≡ x.units)
        × (x.answer ≡ 0 → (term y.store y.subject ≡ term x.store x.subject) × (meant y.store (bindings y.bindings) ≡ meant x.store (bindings x.bindings)))
    again i j x y (ended t c m u) r' e h k (m', g) l =
        let z : Told j y (ended t c (counted-at m' tt) u) = subst (Told j y) g k in
        (z.0 ∙ sym h.0, omega (arith, z.4, h.4, e), λ n. (z.1 ∙ sym h.1, z.2 ∙ sym h.2))
    again i j x y (lost w u) r' e h k g l =
        let z : Told j y (lost w u) = subst (Told j y) g k in
        (z.0 ∙ sym h.0, omega (arith, z.1, h.1, e), λ n. absurd (omega (arith, h.0, n)))
    again i j x y (cut c w u) r' e h k g l = absurd (omega (arith, h.0, number-above c))

    pub runs-again : promises.RunsAgain W
    runs-again i w r o o' s s' b b' a l e p p' h =
        let x = collect-promises.runs-again W (Unit {0}) quiet tt i w r a l e in
        again i (after i r) (at_return o s b) (at_return o' s' b') (value (ran_by W quiet tt i)) (value (ran_by W quiet tt (after i r))) refl
        (came-told i a o s b p) (came-told (after i r) x.0 o' s' b' p') x.1 h
