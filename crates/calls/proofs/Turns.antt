-- One subject of a call over many: the engine runs it over words that hold what earlier subjects left above the mark, and a single call
-- would run it over words that are zero there. Both give the same numbers, and the same nodes below the mark.
use mathlib.Core.Path.{◌≡◌, refl, ap, sym, ◌∙◌, subst}
use mathlib.Core.Bool.{Bool, true, false, ◌&&◌}
use mathlib.Core.Option.{Option, none, some}
use mathlib.Core.List.{List, [], ◌∷◌, ◌++◌, append_assoc, append-nil}
use Prim.Native.Nat.{ℕ, ◌+◌, ◌-◌, ◌*◌, ◌%◌, ◌≤◌, ◌<◌}
use native.Mathlib.Omega.{arith}
use native.Mathlib.Numerals.{add-one}
use lib.Dec.{leb, eqb}
use lib.ListN.{length, get_or, take, drop, replicate}
use lib.Seq.{paste, take_all, drop-length, drop-cons, take-paste, length-paste}
use borrow.Author.Tests.{le-leb, eqb-true, eq-eqb, ne_eqb}
use Rattle.words.proofs.Tests.{and-true}
use Rattle.words.specs.Words.{rows, cleared_from}
use Rattle.std.specs.Prelude.{if◌then◌else◌}
use Rattle.words.specs.Tests.{rejected}
use Rattle.checks.specs.Checked.{Checked}
use Rattle.checks.specs.declared.kinds.Sort.TheVariants.{Strategy}
use Rattle.checks.specs.Kinds.{variables_by, sort_of}
use Rattle.checks.specs.Good.{kind_of, good_node}
use Rattle.checks.specs.Checked.{checked, found, table_checked_by, store_checked}
use Rattle.checks.specs.Signature.{entry_obeys, node_obeys}
use Rattle.checks.specs.Promises.{AllGood, StoreFits}
use Rattle.checks.proofs.Good.{store_length_fits-plain}
use Rattle.checks.proofs.Promises.{table_passes, store_passes, none-good}
use Rattle.meaning.specs.Bindings.{Bindings}
use Rattle.meaning.specs.Limits.{ended, lost, cut}
use Rattle.meaning.specs.Derivation.{places, nowhere}
use Rattle.meaning.specs.Store.{Input, AcceptedBy, Kept, Sound, Leaves, on, rest, ran_by, Ran}
use Rattle.meaning.specs.Answer.{Returned, number, returned_by}
use Rattle.meaning.specs.Above.{in_store, SameBelow, same_ended, same-lost, same-cut}
use Rattle.meaning.proofs.Checked.{node-of-good, good-of-node}
use Rattle.meaning.proofs.Words.{kept_refl, kept_trans, kept-filled}
use Rattle.meaning.proofs.Above as above
use Rattle.meaning.proofs.Demands.{over-the-words}
use Rattle.calls.specs.Run.{run_with_by, run_of_by, numbers, words_of}
use Rattle.calls.specs.Refused.{or_else, words_refused_by, is_start, subjects_below, starts_fit}
use Rattle.calls.specs.Many.{Module, single, five, Turns, before, in_turn_by, many_refused_by, after_turns, many_at_return, many_of_by}
use Rattle.calls.specs.Outcome.{Outcome}
use Rattle.calls.proofs.Accepting.{LentFits, EntriesObey, NodesObey, not-refused-with, not-refused, zero-else, words-passed, checks-passed, is-start-plain, bound-plain, subjects-plain}
use Rattle.calls.proofs.Promises.{cleared-kept}
use Rattle.calls.proofs.Signed.{kept-obeys}

module _ (W : ℕ) where
  -- the five numbers of an outcome, as words
  abbrev pub words : Outcome → List ℕ
  words r = r.answer ∷ r.place ∷ r.subject ∷ r.mark ∷ r.units ∷ []

  pub kept_back : {w w' : List ℕ} {m : ℕ} → Kept w m w' → Kept w' m w
  kept_back k = record { long = sym k.long; same = sym k.same }

  -- a store that passes the check, and one with the same nodes below the mark
  store-passed : (s : List ℕ) (m : ℕ) → StoreFits s m → AllGood (good_node s) m → store_checked s m ≡ checked 0 0
  unfolding store_checked
  store-passed s m f h =
      rw ((store_length_fits-plain (length s)).1 f.0, le-leb m (rows s) f.1, (none-good (good_node s) m).1 h)

  store-passes : (s : List ℕ) (m : ℕ) → store_checked s m ≡ checked 0 0 → StoreFits s m × AllGood (good_node s) m
  store-passes s m e = (store_passes s m).0 (ap (λ (c : Checked). c.answer) e)

  kept-good : {w w' : List ℕ} {m : ℕ} → m ≤ rows w → Kept w m w' → AllGood (good_node w) m → AllGood (good_node w') m
  kept-good {w} {w'} {m} l k h j i = good-of-node w' j ((kept-filled k (record { fits = l; node = λ x y. node-of-good w x (h x y) })).node j i)

  -- a store of the length of one that fits, with a mark inside and good nodes below it
  pub store-again : (s w : List ℕ) (m n : ℕ) → store_checked s m ≡ checked 0 0 → length w ≡ length s → n ≤ rows w → AllGood (good_node w) n → store_checked w n ≡ checked 0 0
  store-again s w m n e l f h =
      let p = store-passes s m e in
      store-passed w n (record { whole = ap (λ (k : ℕ). k % 8) l ∙ p.0.0.whole; most = omega (arith, l, p.0.0.most) }, f) h

  store_kept : (s w : List ℕ) (m : ℕ) → store_checked s m ≡ checked 0 0 → Kept s m w → store_checked w m ≡ checked 0 0
  store_kept s w m e k =
      let p = store-passes s m e in
      store-again s w m m e k.long (omega (arith, k.long, p.0.1)) (kept-good p.0.1 k p.1)

  -- words cleared from the mark on are those below it
  pub cleared-same : {w w' : List ℕ} {m : ℕ} → Kept w m w' → cleared_from w' (8 * m) ≡ cleared_from w (8 * m)
  unfolding cleared_from
  cleared-same {w} {w'} {m} k = λ z. k.same z ++ replicate (k.long z - 8 * m) 0

  -- what is so of a call over many subjects that was not refused, whatever the turn
  pub record Given (g : Option (List ℕ)) (c : Module) : Type 0 where
    pub table : table_checked_by W c.table ≡ checked 0 0
    pub bindings : length c.bindings ≡ (variables_by W)
    pub inside : c.start < rows c.table
    pub strategy : sort_of (kind_of c.table c.start) ≡ Strategy
    pub bound : (v : ℕ) → get_or c.bindings v 0 ≤ c.mark
    pub subjects : (j : ℕ) → j < length c.subjects → get_or c.subjects j 0 < c.mark
    pub signature : LentFits W g
    pub entries : EntriesObey W g (single c c.store c.mark 0)
    pub results : length c.results ≡ 5 * length c.subjects

  -- what is so of the store at each turn: w are its words, m is the mark
  pub record Stands (g : Option (List ℕ)) (c : Module) (w : List ℕ) (m : ℕ) : Type 0 where
    pub more : c.mark ≤ m
    pub store : store_checked w m ≡ checked 0 0
    pub obeyed : NodesObey W g (single c w m 0)

  -- a run's numbers are those of what comes back
  pub ran-numbers : (i : Input) (r : Ran ℕ) → words (numbers i.subject i.mark i.units r) ≡ five (returned_by W i r)
  unfolding numbers returned_by
  ran-numbers i (ended k b s u) = refl
  ran-numbers i (lost l u) = refl
  ran-numbers i (cut c l u) = refl

  -- a run leaves the store as long as it was
  pub ran-long : (w : List ℕ) (m : ℕ) (r : Ran ℕ) → Leaves w m r → length (words_of r) ≡ length w
  unfolding words_of
  ran-long w m (ended k b s u) v = v.1.long
  ran-long w m (lost l u) v = v.long
  ran-long w m (cut c l u) v = v.long

  -- runs that are the same below the mark have the same numbers
  pub same_numbers : (k m u : ℕ) {r r' : Ran ℕ} → SameBelow r r' → numbers k m u r ≡ numbers k m u r'
  unfolding numbers
  same_numbers k m u (same_ended p) = refl
  same_numbers k m u same-lost = refl
  same_numbers k m u same-cut = refl

  -- nodes that stay obey still
  nodes-kept : (g : Option (List ℕ)) (c : Module) {w w' : List ℕ} {m : ℕ} → Kept w m w' → NodesObey W g (single c w m 0) → NodesObey W g (single c w' m 0)
  nodes-kept none c k o = tt
  nodes-kept (some g) c {w} {w'} {m} k o = kept-obeys W g w w' m k o

  module _ {g : Option (List ℕ)} {c : Module} (γ : Given g c) where
    -- the single call on a subject below the first mark is accepted, and a lent signature is obeyed
    pub accepted-single : {w : List ℕ} {m : ℕ} → Stands g c w m → (k : ℕ) → k < c.mark → AcceptedBy W (single c w m k)
    accepted-single s k l = record {
      table = γ.table;
      store = s.store;
      bindings = γ.bindings;
      inside = γ.inside;
      strategy = γ.strategy;
      subject = omega (arith, s.more);
      bound = λ v. omega (arith, γ.bound v, s.more);
    }

    pub entries-still : (g : Option (List ℕ)) (w : List ℕ) (m k : ℕ) → EntriesObey W g (single c c.store c.mark 0) → EntriesObey W g (single c w m k)
    entries-still none w m k o = tt
    entries-still (some g) w m k o = o

    pub nodes-still : (g : Option (List ℕ)) (w : List ℕ) (m k : ℕ) → NodesObey W g (single c w m 0) → NodesObey W g (single c w m k)
    nodes-still none w m k o = tt
    nodes-still (some g) w m k o = o

    pub single-runs : {w : List ℕ} {m : ℕ} → Stands g c w m → (k : ℕ) → k < c.mark → run_with_by W g (single c w m k) ≡ returned_by W (single c w m k) (ran_by W places nowhere (single c w m k))
    unfolding run_with_by
    single-runs {w} {m} s k l =
        rw ((not-refused-with W g (single c w m k)).1 ((γ.signature, (entries-still g w m k γ.entries, nodes-still g w m k s.obeyed)), accepted-single s k l))

    -- the same nodes below the mark stand likewise
    pub stands-kept : {w w' : List ℕ} {m : ℕ} → Kept w m w' → Stands g c w m → Stands g c w' m
    stands-kept {w} {w'} {m} k s = record { more = s.more; store = store_kept w w' m s.store k; obeyed = nodes-kept g c k s.obeyed }

    -- what a turn leaves: w are the words that the engine had, s those of the single call
    module _ (w s : List ℕ) (m k : ℕ) (here : Stands g c w m) (same : Kept w m s) (l : k < c.mark) where
      i : Input
      i = single c w m k

      left-words : (r r' : Ran ℕ) → ran_by W places nowhere (single c w m k) ≡ r → SameBelow r r' → Leaves w m r → Leaves s m r'
          → Stands g c (words_of r) (numbers k m c.units r).mark
          × ((returned_by W (single c s m k) r').store ≡ cleared_from (words_of r) (8 * (numbers k m c.units r).mark))
      unfolding words_of numbers returned_by
      left-words (ended x b t u) r' e (same_ended {w = w₁} {w' = w₂} p) v v' = (
        record {
          more = omega (arith, here.more, v.0);
          store = store-again w t.words m t.mark here.store v.1.long v.2.fits v.2.good;
          obeyed = done-obeyed g (entries-still g w m k γ.entries) (nodes-still g w m k here.obeyed) x u b t e;
        },
        cleared-same p,
      )
        where
          done-obeyed : (g : Option (List ℕ)) → EntriesObey W g (single c w m k) → NodesObey W g (single c w m k) → (x u : ℕ) (b : Bindings ℕ) (t : _) → ran_by W places nowhere
              (single c w m k) ≡ ended x b t u
              → NodesObey W g (single c t.words t.mark 0)
          done-obeyed none y z x u b t e = tt
          done-obeyed (some g) y z x u b t e = above.obeyed W ℕ places nowhere (single c w m k) g (accepted-single here k l) y z x u b t e
      left-words (lost a u) r' e (same-lost {w = w₁} {w' = w₂}) v v' = (stands-kept v here, cleared-same (kept_trans (omega arith) (kept_back v) (kept_trans (omega arith) same v')))
      left-words (cut x a u) r' e (same-cut {w = w₁} {w' = w₂}) v v' = (stands-kept v here, cleared-same (kept_trans (omega arith) (kept_back v) (kept_trans (omega arith) same v')))

      -- r are the engine's numbers, and w' its words
      pub turn : (r : Outcome) (w' : List ℕ) → r ≡ numbers k m c.units (ran_by W places nowhere (single c w m k)) → w' ≡ words_of (ran_by W places nowhere (single c w m k))
          → (words r ≡ five (run_with_by W g (single c s m k))) × (r.mark ≡ (run_with_by W g (single c s m k)).mark) × Stands g c w' r.mark
          × ((run_with_by W g (single c s m k)).store ≡ cleared_from w' (8 * r.mark))
      turn r w' e w-is =
          let a = accepted-single here k l in
          let b = accepted-single (stands-kept same here) k l in
          let q : SameBelow (ran_by W places nowhere (single c w m k)) (ran_by W places nowhere (single c s m k)) = above.above-mark W ℕ places nowhere (single c w m k) s a same in
          let x : run_with_by W g (single c s m k) ≡ returned_by W (single c s m k) (ran_by W places nowhere (single c s m k)) = single-runs (stands-kept same here) k l in
          let n : r ≡ numbers k m c.units (ran_by W places nowhere (single c s m k)) = e ∙ same_numbers k m c.units q in
          let f : words r ≡ five (run_with_by W g (single c s m k)) = ap words n ∙ ran-numbers (single c s m k) (ran_by W places nowhere (single c s m k)) ∙ ap five (sym x) in
          let h = left-words (ran_by W places nowhere (single c w m k)) (ran_by W places nowhere (single c s m k)) refl q (over-the-words W ℕ places nowhere (single c w m k) a).1
          (over-the-words W ℕ places nowhere (single c s m k) b).1 in (
            f,
            ap (λ (l : List ℕ). get_or l 3 0) f,
            subst (λ (v : List ℕ). Stands g c v r.mark) (sym (w-is)) (subst (λ (o : Outcome). Stands g c (words_of (ran_by W places nowhere (single c w m k))) o.mark) (sym (e)) h.0),
            ap (λ (z : Returned). z.store) x ∙ h.1 ∙ (λ z. cleared_from (sym (w-is) z) (8 * (sym (e) z).mark)),
          )

    -- so does the first turn stand, and what a turn leaves is what the next single call is handed
    pub after_turn : (w s : List ℕ) (m k : ℕ) (ks : List ℕ) (here : Stands g c w m) (same : Kept w m s) (l : k < c.mark) (r : Outcome) (w' : List ℕ)
        → r ≡ numbers k m c.units (ran_by W places nowhere (single c w m k)) → w' ≡ words_of (ran_by W places nowhere (single c w m k))
        → in_turn_by W g c s m (k ∷ ks) ≡ before (words r) (in_turn_by W g c (cleared_from w' (8 * r.mark)) r.mark ks)
    unfolding in_turn_by
    after_turn w s m k ks here same l r w' e w-is =
        let t = turn w s m k here same l r w' e w-is in
        λ z. before (sym t.0 z) (in_turn_by W g c (t.3 z) (sym t.1 z) ks)

  -- where the call over many subjects is not refused, all of this is so, and the first turn stands
  pub given : (g : Option (List ℕ)) (c : Module) → (many_refused_by W g c).answer ≡ 0 → Given g c × Stands g c c.store c.mark
  unfolding many_refused_by starts_fit
  given g c e = go (eqb (length c.results) (5 * length c.subjects)) refl e
    where
      i : Input
      i = single c c.store c.mark 0

      starts : Checked
      starts = if starts_fit c.table c.bindings c.mark c.start c.subjects then checked 0 0 else checked 5 0

      started : (z : Bool) → starts_fit c.table c.bindings c.mark c.start c.subjects ≡ z → (if z then checked 0 0 else checked 5 0).answer ≡ 0
          → starts_fit c.table c.bindings c.mark c.start c.subjects ≡ true
      started true q e = q
      started false q e = absurd (omega arith)

      go : (z : Bool) → eqb (length c.results) (5 * length c.subjects) ≡ z
          → (if z then or_else (words_refused_by W g c.table c.store c.bindings c.mark) starts else checked 2 0).answer ≡ 0 → Given g c × Stands g c c.store c.mark
      go true q e =
          let x = zero-else W (words_refused_by W g c.table c.store c.bindings c.mark) starts e in
          let w = words-passed W g (single c c.store c.mark 0) x.0 in
          let k = checks-passed W (single c c.store c.mark 0) w.0.0 w.1.0 w.1.1.0 in
          let y : (is_start c.table c.start ≡ true) × _ = and-true _ _ (started _ refl x.1) in
          let z : (subjects_below c.subjects c.mark ≡ true) × _ = and-true _ _ y.1 in
          let s = (is-start-plain W c.table c.start).0 y.0 in (
            record {
              table = k.0;
              bindings = w.0.0.bindings;
              inside = s.0;
              strategy = s.1;
              bound = (bound-plain W c.bindings c.mark).0 z.1;
              subjects = (subjects-plain W c.subjects c.mark).0 z.0;
              signature = w.0.1;
              entries = w.1.1.1.0;
              results = eqb-true _ _ q;
            },
            record { more = omega arith; store = k.1; obeyed = w.1.1.1.1 },
          )
      go false q e = absurd (omega arith)

  -- ---- the turns one after the other

  -- after j turns: w are the engine's words, m is the mark, and the first five words per turn of the list are written. What single calls in
  -- turn leave is what these turns have written, and then what single calls over the rest leave
  pub record Going (g : Option (List ℕ)) (c : Module) (w rs : List ℕ) (m j : ℕ) : Type 0 where
    pub few : j ≤ length c.subjects
    pub long : length rs ≡ length c.results
    pub wide : length w ≡ length c.store
    pub stands : Stands g c w m
    pub kept : List ℕ
    pub same : Kept w m kept
    pub cleared : 0 < j → kept ≡ cleared_from w (8 * m)
    pub rest : in_turn_by W g c c.store c.mark c.subjects ≡ before (take (5 * j) rs) (in_turn_by W g c kept m (drop j c.subjects))

  pub going-first : (g : Option (List ℕ)) (c : Module) → Stands g c c.store c.mark → Going g c c.store c.results c.mark 0
  going-first g c s = record {
    few = omega arith;
    long = refl;
    wide = refl;
    stands = s;
    kept = c.store;
    same = kept_refl c.store c.mark;
    cleared = λ l. absurd (omega arith);
    rest = refl;
  }

  module _ {g : Option (List ℕ)} {c : Module} (γ : Given g c) where
    pub subject-below : {w rs : List ℕ} {m j : ℕ} → Going g c w rs m j → j < length c.subjects → get_or c.subjects j 0 < c.mark
    subject-below {j = j} G l = γ.subjects j l

    pub going_next : (w rs : List ℕ) (m j : ℕ) (G : Going g c w rs m j) → j < length c.subjects → (r : Outcome) (w' : List ℕ)
        → r ≡ numbers (get_or c.subjects j 0) m c.units (ran_by W places nowhere (single c w m (get_or c.subjects j 0)))
        → w' ≡ words_of (ran_by W places nowhere (single c w m (get_or c.subjects j 0)))
        → Going g c w' (paste rs (5 * j) (words r) 5) r.mark (j + 1)
    going_next w rs m j G l r w' e w-is =
        let k : ℕ = get_or c.subjects j 0 in
        let room : 5 * j + 5 ≤ length rs = omega (arith, G.long, γ.results) in
        let t = turn γ w G.kept m k G.stands G.same (γ.subjects j l) r w' e w-is in
        let a : drop j c.subjects ≡ k ∷ drop (j + 1) c.subjects = rw add-one (drop-cons c.subjects j 0 l) in
        let x : Turns = in_turn_by W g c (cleared_from w' (8 * r.mark)) r.mark (drop (j + 1) c.subjects) in
        let b : in_turn_by W g c G.kept m (drop j c.subjects) ≡ before (words r) x =
        ap (in_turn_by W g c G.kept m) a ∙ after_turn γ w G.kept m k (drop (j + 1) c.subjects) G.stands G.same (γ.subjects j l) r w' e w-is in
        let h : 5 * (j + 1) ≡ 5 * j + 5 = omega arith in
        let d : take (5 * (j + 1)) (paste rs (5 * j) (words r) 5) ≡ take (5 * j) rs ++ words r =
        ap (λ (n : ℕ). take n (paste rs (5 * j) (words r) 5)) h ∙ take-paste rs (5 * j) (words r) 5 (omega arith) (omega arith) in
        record {
          few = omega arith;
          long = length-paste rs (5 * j) (words r) 5 room (omega arith) ∙ G.long;
          wide = ap length w-is ∙ ran-long w m (ran_by W places nowhere (single c w m k))
              (over-the-words W ℕ places nowhere (single c w m k) (accepted-single γ G.stands k (γ.subjects j l))).1 ∙ G.wide;
          stands = t.2;
          kept = cleared_from w' (8 * r.mark);
          same = cleared-kept W w' r.mark r.mark (omega arith);
          cleared = λ n. refl;
          rest = G.rest ∙ ap (before (take (5 * j) rs)) b
              ∙ (λ z. record { results = (sym (append_assoc (take (5 * j) rs) (words r) x.results) ∙ ap (λ (l : List ℕ). l ++ x.results) (sym d)) z; store = x.store });
        }

    -- all turns are over
    pub going-last : (w rs : List ℕ) (m j : ℕ) (G : Going g c w rs m j) → j ≡ length c.subjects → 0 < j
        → after_turns (in_turn_by W g c c.store c.mark c.subjects) ≡ record { answer = 0; place = 0; results = rs; store = cleared_from w (8 * m) }
    unfolding in_turn_by
    going-last w rs m j G e l =
        let a : drop j c.subjects ≡ [] = rw e (drop-length c.subjects) in
        let b : in_turn_by W g c G.kept m (drop j c.subjects) ≡ record { results = []; store = G.kept } = ap (in_turn_by W g c G.kept m) a in
        let d : take (5 * j) rs ≡ rs = take_all (5 * j) rs (omega (arith, G.long, γ.results)) in
        let f : in_turn_by W g c c.store c.mark c.subjects ≡ record { results = rs; store = cleared_from w (8 * m) } =
        G.rest ∙ ap (before (take (5 * j) rs)) b ∙ (λ z. record { results = (append-nil (take (5 * j) rs) ∙ d) z; store = G.cleared l z }) in
        ap after_turns f

  -- ---- refused, or run in turn

  module _ (g : Option (List ℕ)) (c : Module) (r : Checked) (is : r ≡ many_refused_by W g c) where
    zero-many : r.answer ≡ 0 → (many_refused_by W g c).answer ≡ 0
    zero-many z = sym (ap (λ (k : Checked). k.answer) is) ∙ z

    pub many-refused : (r.answer ≡ 0 → ⊥) → many_at_return r c.results c.store ≡ many_of_by W g c
    unfolding many_of_by
    many-refused n = rw is (sym (rw (ne_eqb (many_refused_by W g c).answer 0 (λ z. n (ap (λ (k : Checked). k.answer) is ∙ z)))))

    pub many-ran : r.answer ≡ 0 → after_turns (in_turn_by W g c c.store c.mark c.subjects) ≡ many_of_by W g c
    unfolding many_of_by
    many-ran z = sym (rw (eq-eqb (many_refused_by W g c).answer 0 (zero-many z)))

    pub many-given : r.answer ≡ 0 → Given g c × Stands g c c.store c.mark
    many-given z = given g c (zero-many z)

    -- without subjects nothing is written
    pub many-none : r.answer ≡ 0 → length c.subjects ≡ 0 → many_at_return (checked 0 0) c.results c.store ≡ many_of_by W g c
    unfolding in_turn_by
    many-none z l =
        let γ = (many-given z).0 in
        let a : c.subjects ≡ [] = none_left c.subjects l in
        let b : c.results ≡ [] = none_left c.results (omega (arith, γ.results)) in
        (λ k. many_at_return (checked 0 0) (b k) c.store) ∙ sym (ap (λ (ks : List ℕ). after_turns (in_turn_by W g c c.store c.mark ks)) a) ∙ many-ran z
      where
        none_left : (l : List ℕ) → length l ≡ 0 → l ≡ []
        none_left [] e = refl
        none_left (x ∷ xs) e = absurd (omega arith)

  -- lengths that the copies and the clearing need
  pub table-short : {g : Option (List ℕ)} {c : Module} → Given g c → length c.table ≤ 32768
  table-short {c = c} γ = ((table_passes W c.table).0 (ap (λ (k : Checked). k.answer) γ.table)).0.most

  pub mark-short : {g : Option (List ℕ)} {c : Module} → Given g c → {w : List ℕ} {m : ℕ} → Stands g c w m → m ≤ 131072
  mark-short γ {w} {m} s = let p = store-passes w m s.store in omega (arith, p.0.0.most, p.0.1)

  -- the single call on a subject is the run without a signature, and what it leaves stands for the next
  module _ {g : Option (List ℕ)} {c : Module} (γ : Given g c) where
    pub plain_runs : {w : List ℕ} {m : ℕ} → Stands g c w m → (k : ℕ) → k < c.mark → run_with_by W g (single c w m k) ≡ run_of_by W (single c w m k)
    unfolding run_with_by
    plain_runs {w} {m} s k l =
        single-runs γ s k l ∙ sym (rw ((not-refused W (single c w m k)).1 (accepted-single γ s k l)))

    pub next-stands : {w : List ℕ} {m : ℕ} (s : Stands g c w m) (k : ℕ) → k < c.mark → Stands g c (run_with_by W g (single c w m k)).store (run_with_by W g (single c w m k)).mark
    next-stands {w} {m} s k l =
        let i : Input = single c w m k in
        let o : Ran ℕ = ran_by W places nowhere (single c w m k) in
        let a = accepted-single γ s k l in
        let v = (over-the-words W ℕ places nowhere (single c w m k) a).1 in
        let h = left-words γ w w m k s (kept_refl w m) l (ran_by W places nowhere (single c w m k)) (ran_by W places nowhere (single c w m k)) refl
        (above.above-mark W ℕ places nowhere (single c w m k) w a (kept_refl w m)) v v in
        let n : ℕ = (numbers k m c.units (ran_by W places nowhere (single c w m k))).mark in
        let x : run_with_by W g (single c w m k) ≡ returned_by W (single c w m k) (ran_by W places nowhere (single c w m k)) = single-runs γ s k l in
        let y : n ≡ (run_with_by W g (single c w m k)).mark = ap (λ (l : List ℕ). get_or l 3 0) (ran-numbers (single c w m k) (ran_by W places nowhere (single c w m k))) ∙ ap
        (λ (r : Returned). r.mark) (sym x) in
        let z : cleared_from (words_of (ran_by W places nowhere (single c w m k))) (8 * n) ≡ (run_with_by W g (single c w m k)).store = sym (ap (λ (r : Returned). r.store) x ∙ h.1) in
        let b : Stands g c (cleared_from (words_of (ran_by W places nowhere (single c w m k))) (8 * n)) n = stands-kept γ
        (cleared-kept W (words_of (ran_by W places nowhere (single c w m k))) n n (omega arith)) h.0 in
        subst (λ (v : List ℕ). Stands g c v (run_with_by W g (single c w m k)).mark) z (subst (λ (m' : ℕ). Stands g c (cleared_from (words_of (ran_by W places nowhere (single c w m k))) (8 * n)) m') y b)
