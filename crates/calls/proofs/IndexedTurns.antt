-- One subject of an indexed call over many: what the engine runs over the words that earlier subjects left, and what a single indexed call
-- gives over words that are zero above the mark. Both give the same numbers, and the same nodes below the mark, which stay distinct.
-- Assumes nothing.
use mathlib.Core.Path.{◌≡◌, refl, ap, sym, ◌∙◌, subst}
use mathlib.Core.Bool.{Bool, true, false}
use mathlib.Core.Option.{Option, none, some}
use mathlib.Core.List.{List, [], ◌∷◌, ◌++◌, append_assoc, append-nil}
use Prim.Native.Nat.{ℕ, ◌+◌, ◌-◌, ◌*◌, ◌≤◌, ◌<◌}
use native.Mathlib.Omega.{arith}
use native.Mathlib.Numerals.{add-one}
use lib.Dec.{eqb, leb}
use lib.ListN.{length, get_or, take, drop, replicate, length-replicate}
use lib.Seq.{paste, take_all, drop-length, drop-cons, take-paste, length-paste}
use borrow.Author.Tests.{le-leb, leb-true, eq-eqb, ne_eqb, eqb-true}
use Rattle.words.specs.Words.{rows, cleared_from}
use Rattle.std.specs.Prelude.{if◌then◌else◌}
use Rattle.words.specs.Tests.{rejected}
use Rattle.words.proofs.Tests.{rejected-none}
use Rattle.checks.specs.Checked.{checked, found}
use Rattle.checks.specs.Checked.{Checked}
use Rattle.meaning.specs.Bindings.{Bindings}
use Rattle.meaning.specs.Limits.{ended, lost, cut}
use Rattle.meaning.specs.Derivation.{places, nowhere}
use Rattle.meaning.specs.Store.{Input, AcceptedBy, Kept, Leaves, Ran}
use Rattle.meaning.specs.Answer.{Returned, returned_by}
use Rattle.meaning.specs.Above.{in_store, SameBelow, same_ended, same-lost, same-cut}
use Rattle.meaning.specs.Shared.{eight, node_with, absent, fresh, twin, Distinct, shared_ran_by}
use Rattle.meaning.proofs.Words.{kept_refl, kept_trans}
use Rattle.meaning.proofs.NodeWith.{node_with-has, distinct-kept}
use Rattle.meaning.proofs.Shared.{one-node, shared-leaves, shared-above, shared-obeyed}
use Rattle.calls.specs.Refused.{or_else, words_refused_by, start_fits, starts_fit, refused_with_by}
use Rattle.calls.specs.Run.{numbers, words_of}
use Rattle.calls.specs.Many.{Module, single, five, many_refused_by}
use Rattle.calls.specs.Indexed.{index_fits, indexed_words_refused_by, indexed_refused_by, IndexedReturned, indexed_of_by}
use Rattle.calls.specs.Indexed.{indexed_many_refused_by, IndexedTurns, indexed_before, indexed_in_turn_by, indexed_many_at_return}
use Rattle.calls.specs.Indexed.{indexed_many_of_by}
use Rattle.calls.specs.Outcome.{Outcome}
use Rattle.calls.proofs.Accepting.{EntriesObey, NodesObey, not-refused-with, zero-else}
use Rattle.calls.proofs.Promises.{cleared-kept}
use Rattle.calls.proofs.Turns.{words, Given, Stands, accepted-single, entries-still, nodes-still, stands-kept, kept_back, store-again, cleared-same, ran-numbers, ran-long, same_numbers, given}

-- distinct nodes have no twin
no-twins : (w : List ℕ) (m : ℕ) → Distinct w m → twin w m ≡ none
unfolding fresh
no-twins w m d = (rejected-none (fresh w) 0 m).1 (λ k a b. go k (omega arith) (node_with w (eight w k) k) refl)
  where
    go : (k : ℕ) → k < m → (o : Option ℕ) → node_with w (eight w k) k ≡ o → absent (node_with w (eight w k) k) ≡ true
    go k l none e = rw e
    go k l (some j) e = let (b, q) = node_with-has w (eight w k) k j e in absurd (d j k b l q)

module _ (W : ℕ) where
  abbrev shared_ran : Input → Ran ℕ
  shared_ran i = shared_ran_by W places nowhere i

  -- the store at a turn: it stands, and its nodes are distinct
  pub record Apart (g : Option (List ℕ)) (c : Module) (w : List ℕ) (m : ℕ) : Type 0 where
    pub stands : Stands W g c w m
    pub distinct : Distinct w m

  module _ {g : Option (List ℕ)} {c : Module} (γ : Given W g c) where
    apart-kept : {w w' : List ℕ} {m : ℕ} → Kept w m w' → Apart g c w m → Apart g c w' m
    apart-kept k s = record { stands = stands-kept W γ k s.stands; distinct = distinct-kept k s.distinct }

    -- the single call with the index y is not refused
    indexed-runs : {w : List ℕ} {m : ℕ} → Apart g c w m → (k : ℕ) → k < c.mark → (y : List ℕ) → 2 * rows w ≤ length y
        → indexed_of_by W g (single c w m k) y ≡ record { run = returned_by W (single c w m k) (shared_ran (single c w m k)); index = replicate (length y) 0 }
    unfolding indexed_of_by indexed_refused_by indexed_words_refused_by index_fits refused_with_by
    indexed-runs {w} {m} s k l y h =
        let e = (not-refused-with W g (single c w m k)).1 ((γ.signature, (entries-still W γ g w m k γ.entries, nodes-still W γ g w m k s.stands.obeyed)), accepted-single W γ s.stands k l) in
        let z = zero-else W (words_refused_by W g c.table w c.bindings m) _ (ap (λ (c : Checked). c.answer) e) in
        rw (le-leb (2 * rows w) (length y) h, eq-eqb (words_refused_by W g c.table w c.bindings m).answer 0 z.0, no-twins w m s.distinct, eq-eqb _ 0 z.1)

    -- what a turn leaves: w are the words that the engine had, s those of the single call
    module _ (w s : List ℕ) (m k : ℕ) (here : Apart g c w m) (same : Kept w m s) (l : k < c.mark) where
      left-apart : (r r' : Ran ℕ) → shared_ran (single c w m k) ≡ r → SameBelow r r' → Leaves w m r → Leaves s m r'
          → Apart g c (words_of r) (numbers k m c.units r).mark
          × ((returned_by W (single c s m k) r').store ≡ cleared_from (words_of r) (8 * (numbers k m c.units r).mark))
      unfolding words_of numbers returned_by
      left-apart (ended x b t u) r' e (same_ended {w = w₁} {w' = w₂} p) v v' = (
        record {
          stands = record {
            more = omega (arith, here.stands.more, v.0);
            store = store-again W w t.words m t.mark here.stands.store v.1.long v.2.fits v.2.good;
            obeyed = done-obeyed g (entries-still W γ g w m k γ.entries) (nodes-still W γ g w m k here.stands.obeyed) x u b t e;
          };
          distinct = ((one-node W ℕ places nowhere (single c w m k) (accepted-single W γ here.stands k l) here.distinct).1 x u b t e).0;
        },
        cleared-same W p,
      )
        where
          done-obeyed : (g : Option (List ℕ)) → EntriesObey W g (single c w m k) → NodesObey W g (single c w m k) → (x u : ℕ) (b : Bindings ℕ) (t : _) → shared_ran (single c w m k) ≡ ended x b t u
              → NodesObey W g (single c t.words t.mark 0)
          done-obeyed none y z x u b t e = tt
          done-obeyed (some g) y z x u b t e = shared-obeyed W ℕ places nowhere (single c w m k) g (accepted-single W γ here.stands k l) y z x u b t e
      left-apart (lost a u) r' e (same-lost {w = w₁} {w' = w₂}) v v' = (apart-kept v here, cleared-same W (kept_trans (omega arith) (kept_back W v) (kept_trans (omega arith) same v')))
      left-apart (cut x a u) r' e (same-cut {w = w₁} {w' = w₂}) v v' = (apart-kept v here, cleared-same W (kept_trans (omega arith) (kept_back W v) (kept_trans (omega arith) same v')))

      -- r are the engine's numbers, and w' its words
      indexed-turn : (y : List ℕ) → 2 * rows s ≤ length y → (r : Outcome) (w' : List ℕ) → r ≡ numbers k m c.units (shared_ran (single c w m k)) → w' ≡ words_of (shared_ran (single c w m k))
          → (words W r ≡ five (indexed_of_by W g (single c s m k) y).run) × (r.mark ≡ (indexed_of_by W g (single c s m k) y).run.mark) × Apart g c w' r.mark
          × ((indexed_of_by W g (single c s m k) y).run.store ≡ cleared_from w' (8 * r.mark)) × ((indexed_of_by W g (single c s m k) y).index ≡ replicate (length y) 0)
      indexed-turn y h r w' e w-is =
          let a = accepted-single W γ here.stands k l in
          let b = accepted-single W γ (stands-kept W γ same here.stands) k l in
          let q : SameBelow (shared_ran (single c w m k)) (shared_ran (single c s m k)) = shared-above W ℕ places nowhere (single c w m k) s a same in
          let x = indexed-runs (apart-kept same here) k l y h in
          let n : r ≡ numbers k m c.units (shared_ran (single c s m k)) = e ∙ same_numbers W k m c.units q in
          let f : words W r ≡ five (indexed_of_by W g (single c s m k) y).run = ap (words W) n
          ∙ ran-numbers W (single c s m k) (shared_ran (single c s m k)) ∙ ap (λ (z : IndexedReturned). five z.run) (sym x) in
          let p = left-apart (shared_ran (single c w m k)) (shared_ran (single c s m k)) refl q
          (shared-leaves W ℕ places nowhere (single c w m k) a) (shared-leaves W ℕ places nowhere (single c s m k) b) in (
            f,
            ap (λ (l : List ℕ). get_or l 3 0) f,
            subst (λ (v : List ℕ). Apart g c v r.mark) (sym w-is) (subst (λ (o : Outcome). Apart g c (words_of (shared_ran (single c w m k))) o.mark) (sym e) p.0),
            ap (λ (z : IndexedReturned). z.run.store) x ∙ p.1 ∙ (λ z. cleared_from (sym w-is z) (8 * (sym e z).mark)),
            ap (λ (z : IndexedReturned). z.index) x,
          )

  -- after j turns: w are the engine's words of the store, and y is the index that the next single call is handed
  pub record IndexedGoing (g : Option (List ℕ)) (c : Module) (x : List ℕ) (w rs : List ℕ) (m j : ℕ) : Type 0 where
    pub few : j ≤ length c.subjects
    pub long : length rs ≡ length c.results
    pub wide : length w ≡ length c.store
    pub apart : Apart g c w m
    pub kept : List ℕ
    pub same : Kept w m kept
    pub index : List ℕ
    pub even : length index ≡ length x
    pub cleared : 0 < j → (kept ≡ cleared_from w (8 * m)) × (index ≡ replicate (length x) 0)
    pub rest : indexed_in_turn_by W g c c.store x c.mark c.subjects ≡ indexed_before (take (5 * j) rs) (indexed_in_turn_by W g c kept index m (drop j c.subjects))

  pub indexed-going-first : (g : Option (List ℕ)) (c : Module) (x : List ℕ) → Apart g c c.store c.mark → IndexedGoing g c x c.store c.results c.mark 0
  indexed-going-first g c x s = record {
    few = omega arith;
    long = refl;
    wide = refl;
    apart = s;
    kept = c.store;
    same = kept_refl c.store c.mark;
    index = x;
    even = refl;
    cleared = λ l. absurd (omega arith);
    rest = refl;
  }

  module _ {g : Option (List ℕ)} {c : Module} (γ : Given W g c) (x : List ℕ) (size : 2 * rows c.store ≤ length x) where
    pub indexed-going-next : (w rs : List ℕ) (m j : ℕ) (G : IndexedGoing g c x w rs m j) → j < length c.subjects → (r : Outcome) (w' : List ℕ)
        → r ≡ numbers (get_or c.subjects j 0) m c.units (shared_ran (single c w m (get_or c.subjects j 0)))
        → w' ≡ words_of (shared_ran (single c w m (get_or c.subjects j 0)))
        → IndexedGoing g c x w' (paste rs (5 * j) (words W r) 5) r.mark (j + 1)
    unfolding indexed_in_turn_by
    indexed-going-next w rs m j G l r w' e w-is =
        let k : ℕ = get_or c.subjects j 0 in
        let room : 5 * j + 5 ≤ length rs = omega (arith, G.long, γ.results) in
        let fit : 2 * rows G.kept ≤ length G.index = omega (arith, G.same.long, G.wide, G.even, size) in
        let t = indexed-turn γ w G.kept m k G.apart G.same (γ.subjects j l) G.index fit r w' e w-is in
        let a : drop j c.subjects ≡ k ∷ drop (j + 1) c.subjects = rw add-one (drop-cons c.subjects j 0 l) in
        let s : IndexedTurns = indexed_in_turn_by W g c (cleared_from w' (8 * r.mark)) (replicate (length G.index) 0) r.mark (drop (j + 1) c.subjects) in
        let b : indexed_in_turn_by W g c G.kept G.index m (drop j c.subjects) ≡ indexed_before (words W r) s =
        ap (indexed_in_turn_by W g c G.kept G.index m) a ∙ (λ z. indexed_before (sym t.0 z) (indexed_in_turn_by W g c (t.3 z) (t.4 z) (sym t.1 z) (drop (j + 1) c.subjects))) in
        let h : 5 * (j + 1) ≡ 5 * j + 5 = omega arith in
        let d : take (5 * (j + 1)) (paste rs (5 * j) (words W r) 5) ≡ take (5 * j) rs ++ words W r =
        ap (λ (n : ℕ). take n (paste rs (5 * j) (words W r) 5)) h ∙ take-paste rs (5 * j) (words W r) 5 (omega arith) (omega arith) in
        record {
          few = omega arith;
          long = length-paste rs (5 * j) (words W r) 5 room (omega arith) ∙ G.long;
          wide = ap length w-is ∙ ran-long W w m (shared_ran (single c w m k))
              (shared-leaves W ℕ places nowhere (single c w m k) (accepted-single W γ G.apart.stands k (γ.subjects j l))) ∙ G.wide;
          apart = t.2;
          kept = cleared_from w' (8 * r.mark);
          same = cleared-kept W w' r.mark r.mark (omega arith);
          index = replicate (length G.index) 0;
          even = length-replicate (length G.index) 0 ∙ G.even;
          cleared = λ n. (refl, ap (λ (n : ℕ). replicate n 0) G.even);
          rest = G.rest ∙ ap (indexed_before (take (5 * j) rs)) b
              ∙ (λ z. record { results = (sym (append_assoc (take (5 * j) rs) (words W r) s.results) ∙ ap (λ (l : List ℕ). l ++ s.results) (sym d)) z; store = s.store; index = s.index });
        }

    -- all turns are over
    pub indexed-going-last : (w rs : List ℕ) (m j : ℕ) (G : IndexedGoing g c x w rs m j) → j ≡ length c.subjects → 0 < j
        → indexed_in_turn_by W g c c.store x c.mark c.subjects ≡ record { results = rs; store = cleared_from w (8 * m); index = replicate (length x) 0 }
    unfolding indexed_in_turn_by
    indexed-going-last w rs m j G e l =
        let a : drop j c.subjects ≡ [] = rw e (drop-length c.subjects) in
        let b : indexed_in_turn_by W g c G.kept G.index m (drop j c.subjects)
        ≡ record { results = []; store = G.kept; index = G.index } = ap (indexed_in_turn_by W g c G.kept G.index m) a in
        let d : take (5 * j) rs ≡ rs = take_all (5 * j) rs (omega (arith, G.long, γ.results)) in
        G.rest ∙ ap (indexed_before (take (5 * j) rs)) b ∙ (λ z. record { results = (append-nil (take (5 * j) rs) ∙ d) z; store = (G.cleared l).0 z; index = (G.cleared l).1 z })

  -- ---- refused, or run in turn

  module _ (g : Option (List ℕ)) (c : Module) (x : List ℕ) (r : Checked) (is : r ≡ indexed_many_refused_by W g c x) where
    pub indexed-many-refused : (r.answer ≡ 0 → ⊥) → indexed_many_at_return r c.results c.store x ≡ indexed_many_of_by W g c x
    unfolding indexed_many_of_by
    indexed-many-refused n = rw is (sym (rw (ne_eqb (indexed_many_refused_by W g c x).answer 0 (λ z. n (ap (λ (k : Checked). k.answer) is ∙ z)))))

    module _ (z : r.answer ≡ 0) where
      zero-many : (indexed_many_refused_by W g c x).answer ≡ 0
      zero-many = sym (ap (λ (k : Checked). k.answer) is) ∙ z

      pub indexed-many-ran : let t = indexed_in_turn_by W g c c.store x c.mark c.subjects in indexed_many_at_return (checked 0 0) t.results t.store t.index ≡ indexed_many_of_by W g c x
      unfolding indexed_many_of_by
      indexed-many-ran = sym (rw (eq-eqb (indexed_many_refused_by W g c x).answer 0 zero-many))

      -- what is not refused with an index is not refused without
      passes : ((many_refused_by W g c).answer ≡ 0) × (2 * rows c.store ≤ length x) × (twin c.store c.mark ≡ none)
      unfolding indexed_many_refused_by indexed_words_refused_by index_fits many_refused_by
      passes = go (eqb (length c.results) (5 * length c.subjects)) refl (leb (2 * rows c.store) (length x)) refl zero-many
        where
          starts : Checked
          starts = if starts_fit c.table c.bindings c.mark c.start c.subjects then checked 0 0 else checked 5 0

          none_found : (o : Option ℕ) → (found 21 o).answer ≡ 0 → o ≡ none
          none_found none e = refl
          none_found (some k) e = absurd (omega arith)

          go : (a : Bool) → eqb (length c.results) (5 * length c.subjects) ≡ a → (b : Bool) → leb (2 * rows c.store) (length x) ≡ b
              → (if a then or_else (if b then or_else (words_refused_by W g c.table c.store c.bindings c.mark)
              (found 21 (twin c.store c.mark)) else checked 2 0) starts else checked 2 0).answer ≡ 0
              → ((if a then or_else (words_refused_by W g c.table c.store c.bindings c.mark) starts else checked 2 0).answer ≡ 0)
              × (2 * rows c.store ≤ length x) × (twin c.store c.mark ≡ none)
          go true p true q e =
              let y = zero-else W (or_else (words_refused_by W g c.table c.store c.bindings c.mark) (found 21 (twin c.store c.mark))) starts e in
              let v = zero-else W (words_refused_by W g c.table c.store c.bindings c.mark) (found 21 (twin c.store c.mark)) y.0 in
              (rw (eq-eqb (words_refused_by W g c.table c.store c.bindings c.mark).answer 0 v.0) y.1, leb-true _ _ q, none_found _ v.1)
          go true p false q e = absurd (omega arith)
          go false p b q e = absurd (omega arith)

      pub indexed-many-size : 2 * rows c.store ≤ length x
      indexed-many-size = passes.1

      pub indexed-many-given : Given W g c × Stands W g c c.store c.mark
      indexed-many-given = given W g c passes.0

      pub indexed-many-twin : twin c.store c.mark ≡ none
      indexed-many-twin = passes.2

      -- without subjects nothing is written
      pub indexed-many-none : length c.subjects ≡ 0 → indexed_many_at_return (checked 0 0) c.results c.store x ≡ indexed_many_of_by W g c x
      unfolding indexed_in_turn_by
      indexed-many-none l =
          let γ = indexed-many-given.0 in
          let a : c.subjects ≡ [] = none_left c.subjects l in
          let b : c.results ≡ [] = none_left c.results (omega (arith, γ.results)) in
          (λ k. indexed_many_at_return (checked 0 0) (b k) c.store x)
          ∙ sym (ap (λ (ks : List ℕ). let t = indexed_in_turn_by W g c c.store x c.mark ks in indexed_many_at_return (checked 0 0) t.results t.store t.index) a) ∙ indexed-many-ran
        where
          none_left : (l : List ℕ) → length l ≡ 0 → l ≡ []
          none_left [] e = refl
          none_left (x ∷ xs) e = absurd (omega arith)
