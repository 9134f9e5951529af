-- The store variant beside the plain store, and beside itself over another store with the same nodes. Each promise of specs/Shared.antt
-- stands here under its name in small letters. Assumes nothing.
use mathlib.Core.Path.{◌≡◌, refl, ap, sym, ◌∙◌, subst, fun_ext}
use mathlib.Core.Bool.{Bool, true, false}
use mathlib.Core.Option.{Option, none, some}
use mathlib.Core.List.{List, map}
use Prim.Native.Nat.{ℕ, zero, suc, ◌≤◌, ◌<◌, max}
use native.Mathlib.Omega.{arith}
use lib.Dec.{leb}
use lib.ListN.{length, get_or}
use borrow.Author.Tests.{leb-true, leb-false, lt-leb}
use Rattle.words.specs.Words.{rows}
use Rattle.checks.specs.Good.{constructor_of}
use Rattle.meaning.specs.Term.{Term, con, kids, mk}
use Rattle.meaning.specs.Table.{Table, table_by}
use Rattle.meaning.specs.Plan.{Keep, keep, drop, ret, fail, miss, stuck, look, make, ask}
use Rattle.meaning.specs.Rules.{Visit, Do, does}
use Rattle.meaning.specs.Derivation.{what, Notes, terms}
use Rattle.meaning.specs.Limits.{Limit, units, room, nesting, unbound, Res, ended, lost, cut, Counted, at, counting, room_for, settled, after, closed, run_plan, run, Store}
use Rattle.meaning.specs.System.{Env}
use Rattle.meaning.specs.Store.{children, row, State, on, Left, rest, term, named, bindings, term_of, meant, Input, AcceptedBy, Ran, value, deepest, Kept}
use Rattle.meaning.specs.Store.{ran_by}
use Rattle.meaning.specs.Demands.{Says, start_visit, Agreed, started}
use Rattle.meaning.specs.Shared.{node_with, full_for, number_for, state_for, shared, shared_ran_by, Distinct, OneNode}
use Rattle.meaning.specs.Shared.{OneNodeOnly, SharedLeaves, SharedObeyed, SharedAbove, Spares, SharedSpares, sized, Shares}
use Rattle.meaning.specs.Shared.{share-done, share-failed, share-cut, share-room, Demand2Shared, Demand3Shared}
use Rattle.meaning.specs.Shared.{standing, ran_sharing, NotShared, AllShared}
use Rattle.meaning.proofs.Tests.{impossible}
use Rattle.meaning.proofs.Alike.{Holdable, ORel, o-none, o-some, LRel, QRel, q-apply}
use Rattle.meaning.proofs.Checked.{Filled, store-filled, table-makeable}
use Rattle.meaning.proofs.Words.{kept_refl, kept_trans, term-node}
use Rattle.meaning.proofs.Together.{Stored, state, Later, Names, in_use, stores, later_refl, backed, later-backed}
use Rattle.meaning.proofs.Together.{names-terms, names-constructor, names-children, names-holdable, grown, later_grown, names-grown}
use Rattle.meaning.proofs.Together.{same-what}
use Rattle.meaning.proofs.Simulates.{Makes, both-make, first-full, second-full, Simulation, Ends, e-ended, e-lost, e-cut, e-early, e-room, simulates}
use Rattle.meaning.proofs.NodeWith.{node_with-has, node_with-same, kept-eight, row-children, row-constructor, distinct-kept, distinct-put}
use Rattle.meaning.proofs.Above.{Finding, found-above, found-owns, found-leaves, found-obeys}
use Rattle.meaning.proofs.Numbers.{equal-numbers}
use Rattle.meaning.proofs.Demands.{demand-2-values, over-the-words}
use Rattle.meaning.proofs.Orders.{agreed}

-- ---- the flag

pub not-shared : NotShared
unfolding standing full_for number_for state_for ran_by ran_sharing
not-shared = (λ N Λ. refl, λ W N Λ n i. refl)

pub all-shared : AllShared
unfolding standing shared_ran_by ran_sharing
all-shared = (λ N Λ. refl, λ W N Λ n i. refl)

-- ---- beside the plain store with room for `size` nodes, by the nodes' terms

module _ (nodes size : ℕ) {N : Type 0} (Λ : Notes N) where
  data At (v : Stored nodes) : State N → Counted N → Type 0 where
    at-marks : {m : ℕ} (ν : N) → v.mark ≤ m → At v (state v ν) (at m ν)

  record Over (v : Stored nodes) (l : Left N) (ν : N) : Type 0 where
    kept : Kept v.words v.mark l.words
    notes : l.notes ≡ ν

  beside : Simulation (stores nodes) (shared Λ) (counting terms Λ size) (nodes < size) (Unit {0})
  unfolding full_for number_for state_for
  beside = record {
    At = At;
    Over = Over;
    same-con = λ {v} {s} {s'} {h} {g} a n. con-same a n;
    same-kids = λ {v} {s} {s'} {h} {g} a n. kids-same a n;
    holds = λ {v} {s} {s'} {h} {g} a n. holds a n;
    makes = λ {v} {s} {s'} c hs gs a o l. makes c hs gs a o l;
    leaves = λ {v} {s} {s'} a. leaves a;
    sooner = λ e o. record { kept = kept_trans e.more e.kept o.kept; notes = o.notes };
    backs = λ {v} {s} {s'} {l} {l'} a o. backs a o;
    misses = λ p a. misses p a;
    begins = λ {v} {s} {s'} {q} {q'} r a. begins r a;
    ends = λ {v} {v'} {s} {s'} {q} {q'} r a. ends r a;
    fails = λ {v} {l} {l'} q o. record { kept = o.kept; notes = (λ i. Λ.ends (same-what nodes Λ q i) false (o.notes i)) };
  }
    where
      con-same : {v : Stored nodes} {s : State N} {s' : Counted N} {h : ℕ} {g : Term} → At v s s' → Names v h g → constructor_of s.words h ≡ con g
      con-same (at-marks ν i) n = sym (names-constructor nodes n)

      kids-same : {v : Stored nodes} {s : State N} {s' : Counted N} {h : ℕ} {g : Term} → At v s s' → Names v h g → LRel (stores nodes) v (children s.words h) (kids g)
      kids-same (at-marks ν i) n = names-children nodes n

      holds : {v : Stored nodes} {s : State N} {s' : Counted N} {h : ℕ} {g : Term} → At v s s' → Names v h g → Holdable (constructor_of s.words h) (length (children s.words h))
      holds (at-marks ν i) n = names-holdable nodes n

      makes : {v : Stored nodes} {s : State N} {s' : Counted N} (c : ℕ) (hs : List ℕ) (gs : List Term) → At v s s' → Holdable c (length hs)
          → LRel (stores nodes) v hs gs → Makes (stores nodes) (shared Λ) (counting terms Λ size) (nodes < size) (Unit {0}) At v s s' c hs
          gs
      makes {v} c hs gs (at-marks {m = m} ν i) o l = go (leb size m) refl (node_with v.words (row c hs) v.mark) refl (leb (rows v.words) v.mark) refl
        where
          go : (f : Bool) → leb size m ≡ f → (t : Option ℕ) → node_with v.words (row c hs) v.mark ≡ t → (y : Bool) → leb (rows v.words) v.mark ≡ y
              → Makes (stores nodes) (shared Λ) (counting terms Λ size) (nodes < size) (Unit {0}) At v (state v ν) (at m ν) c hs gs
          go true f t e y z = second-full tt f
          go false f (some k) e y z =
              let (b, is) = node_with-has v.words (row c hs) v.mark k e in
              both-make {v' = v} (rw e) f (later_refl nodes v) (rw e (at-marks {m = suc m} ν (omega arith)))
              (rw e (record {
                below = b;
                is = term-node v.filled k b ∙ (λ j. mk (row-constructor v.words k c hs is j) (map (term v.words) (row-children v.words k c hs is j))) ∙ ap (mk c) (names-terms nodes l);
              }))
          go false f none e true z = first-full (omega (arith, leb-false size m f, leb-true (rows v.words) v.mark z, v.long)) (rw e z)
          go false f none e false z =
              let free : v.mark < nodes = omega (arith, leb-false (rows v.words) v.mark z, v.long) in
              both-make {v' = grown nodes v c hs gs o free l} (rw e z) f (later_grown nodes v c hs gs o free l)
              (rw e (at-marks {m = suc m} ν (omega arith))) (rw e (names-grown nodes v c hs gs o free l))

      leaves : {v : Stored nodes} {s : State N} {s' : Counted N} → At v s s' → Over v (rest s.words s.notes) s'.notes
      leaves (at-marks ν i) = record { kept = kept_refl _ _; notes = refl }

      backs : {v : Stored nodes} {s : State N} {s' : Counted N} {l : Left N} {l' : N} → At v s s' → Over v l l' → (v' : Stored nodes)
          × Later v v' × At v' (on l.words s.mark l.notes) (at s'.mark l')
      backs {v} {l = l} (at-marks {m = m} ν i) o = (
        backed nodes v l.words o.kept,
        later-backed nodes v l.words o.kept,
        subst (λ n. At (backed nodes v l.words o.kept) (on l.words v.mark l.notes) (at m n)) o.notes (at-marks l.notes i),
      )

      misses : {v : Stored nodes} {s : State N} {s' : Counted N} (p : ℕ) → At v s s' → At v ((shared Λ).missed p s) ((counting terms Λ size).missed p s')
      misses p (at-marks ν i) = at-marks (Λ.missed p ν) i

      begins : {v : Stored nodes} {s : State N} {s' : Counted N} {q : Visit ℕ} {q' : Visit Term} → QRel (stores nodes) v q q' → At v s s'
          → At v ((shared Λ).begins q s) ((counting terms Λ size).begins q' s')
      begins {v} {q = q} r (at-marks {m = m} ν i) = subst (λ w. At v (state v (Λ.begins (what q) ν)) (at m (Λ.begins w ν))) (same-what nodes Λ r) (at-marks _ i)

      ends : {v v' : Stored nodes} {s : State N} {s' : Counted N} {q : Visit ℕ} {q' : Visit Term} → QRel (stores nodes) v q q' → At v' s s'
          → At v' ((shared Λ).ends q s) ((counting terms Λ size).ends q' s')
      ends {v' = v} {q = q} r (at-marks {m = m} ν i) = subst (λ w. At v (state v (Λ.ends (what q) true ν)) (at m (Λ.ends w true ν))) (same-what nodes Λ r) (at-marks _ i)

-- ---- room enough

module _ {N : Type 0} (Λ : Notes N) where
  abbrev Answer : Type 0
  Answer = Res Term Env (Counted N) N

  -- terms as values, and a store that is never full
  abbrev boundless : Store Term (Visit Term) (Counted N) N
  boundless = record {
    con = (counting terms Λ 0).con;
    kids = (counting terms Λ 0).kids;
    full = λ s c hs. false;
    new = (counting terms Λ 0).new;
    put = (counting terms Λ 0).put;
    left = (counting terms Λ 0).left;
    back = (counting terms Λ 0).back;
    missed = (counting terms Λ 0).missed;
    begins = (counting terms Λ 0).begins;
    ends = (counting terms Λ 0).ends;
    fails = (counting terms Λ 0).fails;
  }

  -- not cut off by room
  abbrev Roomy : Answer → Type 0
  Roomy (ended t b s u) = Unit {0}
  Roomy (lost l u) = Unit {0}
  Roomy (cut units l u) = Unit {0}
  Roomy (cut room l u) = ⊥
  Roomy (cut nesting l u) = Unit {0}
  Roomy (cut (unbound v) l u) = Unit {0}

  -- from some number of nodes on the answer is r, which is not cut off by room
  record Enough (f : ℕ → Answer) (r : Answer) : Type 0 where
    least : ℕ
    same : (size : ℕ) → least ≤ size → f size ≡ r
    roomy : Roomy r

  enough-always : (r : Answer) → Roomy r → Enough (λ size. r) r
  enough-always r o = record { least = 0; same = λ size l. refl; roomy = o }

  module _ (ev : ℕ → Visit Term → Counted N → ℕ → Answer) (ev' : Visit Term → Counted N → ℕ → Answer)
      (asked : (q : Visit Term) (s : Counted N) (u : ℕ) → Enough (λ size. ev size q s u) (ev' q s u)) where
    plan-enough : (p : Do Term) (s : Counted N) (u : ℕ) → Enough (λ size. run_plan (counting terms Λ size) (ev size) p s u) (run_plan boundless ev' p s u)
    unfolding run_plan room_for after settled
    plan-enough (ret h b) s u = enough-always _ tt
    plan-enough fail s u = enough-always _ tt
    plan-enough (miss p) s u = enough-always _ tt
    plan-enough (stuck v) s u = enough-always _ tt
    plan-enough (look h k) s u = plan-enough (k (con h) (kids h)) s u
    plan-enough (make c hs k) s u =
        let e = plan-enough (k (mk c hs)) (at (suc s.mark) s.notes) u in
        record { least = max (suc s.mark) e.least; same = λ size l. rw (lt-leb size s.mark (omega arith)) (e.same size (omega arith)); roomy = e.roomy }
    plan-enough (ask t q k p) s u = go (ev' q s u) refl (λ h b s' v. plan-enough (k h b) s' v) (λ s' v. plan-enough p s' v)
      where
        first : Enough (λ size. ev size q s u) (ev' q s u)
        first = asked q s u

        same-settled : (t : Keep) (size : ℕ) (s' : Counted N) → settled (counting terms Λ size) t s s' ≡ settled boundless t s s'
        same-settled keep size s' = refl
        same-settled drop size s' = refl

        go : (r : Answer) → ev' q s u ≡ r
            → ((h : Term) (b : Env) (s' : Counted N) (v : ℕ) → Enough (λ size. run_plan (counting terms Λ size) (ev size) (k h b) s' v) (run_plan boundless ev' (k h b) s' v))
            → ((s' : Counted N) (v : ℕ) → Enough (λ size. run_plan (counting terms Λ size) (ev size) p s' v) (run_plan boundless ev' p s' v))
            → Enough (λ size. after (counting terms Λ size) t s (ev size q s u)
            (λ h b s' v. run_plan (counting terms Λ size) (ev size) (k h b) s' v)
            (λ s' v. run_plan (counting terms Λ size) (ev size) p s' v))
            (after boundless t s r (λ h b s' v. run_plan boundless ev' (k h b) s' v) (λ s' v. run_plan boundless ev' p s' v))
        go (ended h b s' v) x y n =
            let e = y h b (settled boundless t s s') v in
            record { least = max first.least e.least; same = λ size l. rw (first.same size (omega arith) ∙ x, same-settled t size s') (e.same size (omega arith)); roomy = e.roomy }
        go (lost l v) x y n =
            let e = n (at s.mark l) v in
            record { least = max first.least e.least; same = λ size l. rw (first.same size (omega arith) ∙ x) (e.same size (omega arith)); roomy = e.roomy }
        go (cut c l v) x y n = record { least = first.least; same = λ size l. rw (first.same size l ∙ x); roomy = subst Roomy x first.roomy }

  closed-enough : {f : ℕ → Answer} {r : Answer} (q : Visit Term) → Enough f r → Enough (λ size. closed (counting terms Λ size) q (f size)) (closed boundless q r)
  unfolding closed
  closed-enough {f} {r} q e = go r e.least e.same e.roomy
    where
      go : (r : Answer) (n : ℕ) → ((size : ℕ) → n ≤ size → f size ≡ r) → Roomy r → Enough (λ size. closed (counting terms Λ size) q (f size)) (closed boundless q r)
      go r n s o = record { least = n; same = λ size l. ap (closed (counting terms Λ size) q) (s size l) ∙ shut size r; roomy = still-roomy r o }
        where
          shut : (size : ℕ) (r : Answer) → closed (counting terms Λ size) q r ≡ closed boundless q r
          shut size (ended h b s u) = refl
          shut size (lost l u) = refl
          shut size (cut c l u) = refl

          still-roomy : (r : Answer) → Roomy r → Roomy (closed boundless q r)
          still-roomy (ended h b s u) o = tt
          still-roomy (lost l u) o = tt
          still-roomy (cut c l u) o = o

  run-enough : (T : Table) (n : ℕ) (q : Visit Term) (s : Counted N) (u : ℕ) → Enough (λ size. run (counting terms Λ size) (does T) n q s u) (run boundless (does T) n q s u)
  unfolding run
  run-enough T zero q s zero = enough-always _ tt
  run-enough T zero q s (suc u) = enough-always _ tt
  run-enough T (suc n) q s zero = enough-always _ tt
  run-enough T (suc n) q s (suc u) = closed-enough q (plan-enough (λ size. run (counting terms Λ size) (does T) n) (run boundless (does T) n) (run-enough T n) (does T q) (boundless.begins q s) u)

-- ---- the promises

-- what ends alike, beside the plain store with the same nodes
module _ (nodes : ℕ) {N : Type 0} (Λ : Notes N) where
  named-term : {v : Stored nodes} {o : Option ℕ} {o' : Option Term} → ORel (stores nodes) v o o' → term_of v.words o ≡ o'
  unfolding term_of
  named-term o-none = refl
  named-term (o-some n) = ap some n.is

  spares : {v : Stored nodes} {r : Ran N} {r' : Res Term Env (Counted N) N} → Ends (beside nodes nodes Λ) v r r' → Spares r' (value r)
  unfolding value meant beside
  spares (e-ended {v' = v'} {u = u} e (at-marks ν i) n s) = (v'.mark, (λ j. ended (n.is j) (fun_ext (λ x. named-term (s x)) j) (at v'.mark ν) u), i)
  spares (e-lost {u = u} o) = λ j. lost (o.notes j) u
  spares (e-cut {x = units} {u = u} o) = λ j. cut units (o.notes j) u
  spares (e-cut {x = room} o) = tt
  spares (e-cut {x = nesting} {u = u} o) = λ j. cut nesting (o.notes j) u
  spares (e-cut {x = unbound y} {u = u} o) = λ j. cut (unbound y) (o.notes j) u
  spares (e-early z) = absurd (omega arith)
  spares (e-room z) = tt

  -- no other limit is room
  other-limit : (n : N) (u : ℕ) (c : Limit) → Roomy Λ (cut c n u) → c ≡ room → ⊥
  other-limit n u units o e = impossible (cc)
  other-limit n u room o e = o
  other-limit n u nesting o e = impossible (cc)
  other-limit n u (unbound y) o e = impossible (cc)

  shares : {v : Stored nodes} {size : ℕ} {r : Ran N} {r' : Res Term Env (Counted N) N} → Ends (beside nodes size Λ) v r r' → Roomy Λ r' → Shares r' (value r)
  unfolding value meant beside
  shares (e-ended {v' = v'} {h = h} {b = b} {c = c} {u = u} e (at-marks {m = m} ν i) n s) z =
      subst (λ t. Shares (ended t c (at m ν) u) (ended (term v'.words h) (λ y. term_of v'.words (b y)) (at v'.mark ν) u)) n.is
      (subst (λ c. Shares (ended (term v'.words h) c (at m ν) u) (ended (term v'.words h) (λ y. term_of v'.words (b y)) (at v'.mark ν) u)) (fun_ext (λ x. named-term (s x))) (share-done i))
  shares (e-lost {l = l} {u = u} o) z = subst (λ n. Shares (lost n u) (lost l.notes u)) o.notes share-failed
  shares (e-cut {x = c} {l = l} {u = u} o) z =
      subst (λ n. Shares (cut c n u) (cut c l.notes u)) o.notes
      (share-cut (other-limit l.notes u c (subst (λ n. Roomy Λ (cut c n u)) (sym o.notes) z)))
  shares (e-early y) z = share-room
  shares (e-room y) z = absurd z

-- the variant's run of an accepted input beside the plain run over values with room for `size` nodes
module _ {N : Type 0} (Λ : Notes N) (W : ℕ) (i : Input) (ν : N) (a : AcceptedBy W i) (size : ℕ) where
  start : Stored (rows i.store)
  start = record { words = i.store; mark = i.mark; filled = store-filled i.store i.mark a.store; long = refl }

  bound : (n : ℕ) → n ≤ i.mark → ORel (stores (rows i.store)) start (named n) (term_of i.store (named n))
  unfolding named term_of start
  bound zero h = o-none
  bound (suc k) h = o-some (in_use (rows i.store) start k (omega arith))

  ran-beside : Ends (beside (rows i.store) size Λ) start (shared_ran_by W Λ ν i) (run (counting terms Λ size) (does (table_by W i.table)) deepest (start_visit i) (at i.mark ν) i.units)
  unfolding shared_ran_by bindings meant beside start
  ran-beside =
      simulates (beside (rows i.store) size Λ) (table_by W i.table) (table-makeable W i.table a.table) deepest start _ _ _ _ i.units
      (q-apply (in_use (rows i.store) start i.subject a.subject) (λ x. bound (get_or i.bindings x 0) (a.bound x))) (at-marks ν (omega arith))

pub shared-spares : SharedSpares
shared-spares W N Λ ν i a = subst (λ r. Spares r (value (shared_ran_by W Λ ν i))) (sym (over-the-words W N Λ ν i a).0) (spares (rows i.store) Λ (ran-beside Λ W i ν a (rows i.store)))

pub demand-2-shared : Demand2Shared
demand-2-shared W N Λ ν i a =
    let e = run-enough Λ (table_by W i.table) deepest (start_visit i) (at i.mark ν) i.units in (
      max e.least i.mark,
      λ size l r s.
          let x = (demand-2-values N Λ ν (table_by W i.table) (sized size i) (start_visit i) r (omega arith)).1 s in
          subst (λ r. Shares r (value (shared_ran_by W Λ ν i))) x
          (shares (rows i.store) Λ (ran-beside Λ W i ν a size) (subst (Roomy Λ) (sym (e.same size (omega arith))) e.roomy)),
    )

-- what the variant answers is so, with some room
told : {N : Type 0} (Λ : Notes N) (W : ℕ) (i : Input) (ν : N) → AcceptedBy W i → (r : Res Term Env (Counted N) N) × (size : ℕ)
    × Says Λ ν (table_by W i.table) (sized size i) (start_visit i) r × Shares r (value (shared_ran_by W Λ ν i))
told {N} Λ W i ν a =
    let (enough, f) = demand-2-shared W N Λ ν i a in
    let size = max enough i.mark in
    let r = run (counting terms Λ size) (does (table_by W i.table)) deepest (start_visit i) (at i.mark ν) i.units in
    let s = (demand-2-values N Λ ν (table_by W i.table) (sized size i) (start_visit i) r (omega arith)).0 refl in
    (r, size, s, f size (omega arith) r s)

-- answers that agree with agreeing answers agree
agreed-shares : {N : Type 0} {r r' x x' : Res Term Env (Counted N) N} → Shares r x → Shares r' x' → Agreed r r' → Agreed x x'
agreed-shares (share-done i) (share-done j) g = g
agreed-shares (share-done i) share-failed g = g
agreed-shares (share-done i) (share-cut n) g = tt
agreed-shares (share-done i) share-room g = tt
agreed-shares share-failed (share-done j) g = g
agreed-shares share-failed share-failed g = tt
agreed-shares share-failed (share-cut n) g = tt
agreed-shares share-failed share-room g = tt
agreed-shares (share-cut n) y g = tt
agreed-shares share-room y g = tt

pub demand-3-shared : Demand3Shared
demand-3-shared W N Λ ν i s u a a' either =
    let (r, size, x, y) = told Λ W i ν a in
    let (r', size', x', y') = told Λ W (started i s u) ν a' in
    agreed-shares y y'
    (agreed Λ ν (table_by W i.table) i.start s (term i.store i.subject) (meant i.store (bindings i.bindings)) either
    (sized size i) (sized size' (started i s u)) r r' x x')

-- a store that finds its nodes by their words, which are distinct where D
abbrev pub by_words : Type 0 → Finding
by_words D = record {
  node = node_with;
  told = λ {w} {w'} {m} r k. node_with-same w w' r m (λ j l. kept-eight k j l);
  below = λ w r m k e. (node_with-has w r m k e).0;
  Own = λ w m. D → Distinct w m;
  own-kept = λ k o d. distinct-kept k (o d);
  own_put = λ w r m h l e o d. distinct-put w r m h l e (o d);
}

pub one-node : OneNodeOnly
unfolding shared_ran_by
one-node W N Λ ν i a d = (
  numbers (store-filled i.store i.mark a.store) d,
  λ k u b s e.
      let (f, o) = found-owns (by_words (Unit {0})) Λ W i i.store ν a (λ z. d) (kept_refl i.store i.mark) k u b s e in (o tt, numbers f (o tt)),
)
  where
    numbers : {w : List ℕ} {m : ℕ} → Filled w m → Distinct w m → OneNode w m
    numbers {w} f d j k h l = (equal-numbers f d j k h l, λ e. ap (term w) e)

pub shared-leaves : SharedLeaves
unfolding shared_ran_by
shared-leaves W N Λ ν i a = found-leaves (by_words ⊥) Λ W i i.store ν a (λ z. absurd z) (kept_refl i.store i.mark)

pub shared-above : SharedAbove
unfolding shared_ran_by
shared-above W N Λ ν i w a k = found-above (by_words ⊥) Λ W i w ν a (λ z. absurd z) k

pub shared-obeyed : SharedObeyed
unfolding shared_ran_by
shared-obeyed W N Λ ν i g a entries nodes k u b s e = found-obeys (by_words ⊥) W N Λ ν i g a (λ z. absurd z) entries nodes k u b s e
