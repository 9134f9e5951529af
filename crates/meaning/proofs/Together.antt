-- The run over the store's words and the run over terms as values go together: a node stands for the term that it names.
use mathlib.Core.Path.{◌≡◌, refl, ap, sym, ◌∙◌, subst}
use mathlib.Core.Bool.{Bool, true, false}
use mathlib.Core.List.{List, ◌∷◌, map}
use Prim.Native.Nat.{ℕ, zero, suc, ◌+◌, ◌*◌, ◌/◌, ◌≤◌, ◌<◌}
use native.Mathlib.Omega.{arith}
use native.Mathlib.Numerals.{add-one}
use lib.Dec.{leb}
use lib.ListN.{length, length-take}
use borrow.Author.Tests.{leb-false}
use Rattle.words.specs.Words.{rows, put_row}
use Rattle.checks.specs.Good.{constructor_of}
use Rattle.meaning.specs.Term.{Term, con, kids, mk}
use Rattle.meaning.specs.Bindings.{Bindings}
use Rattle.meaning.specs.Table.{Table}
use Rattle.meaning.specs.Plan.{keep, drop}
use Rattle.meaning.specs.Rules.{Visit, Do, does}
use Rattle.meaning.specs.Derivation.{what, Notes, terms}
use Rattle.meaning.specs.Limits.{Limit, ended, lost, cut, Counted, at, counting, room_for, settled, after, closed, run_plan, run}
use Rattle.meaning.specs.System.{Env}
use Rattle.meaning.specs.Store.{children, row, State, on, rest, stored, term, Ran, Kept}
use Rattle.meaning.proofs.Terms.{list-unlist}
use Rattle.meaning.proofs.Limits.{Answer}
use Rattle.meaning.proofs.Alike.{Holdable, Makeable, Worlds, LRel, l_nil, l_cons, BRel, QRel, PRel, q-apply, q-match, q-build}
use Rattle.meaning.proofs.Alike.{q-compare, p-ret, p-fail, p-miss, p-stuck, p-look, p-make, p-ask, p-test, p-does}
use Rattle.meaning.proofs.Checked.{Filled}
use Rattle.meaning.proofs.Words.{kept_refl, kept_trans, kept-filled, Below, below_none, below_more, map_below, children-below}
use Rattle.meaning.proofs.Words.{new-kept, new-filled, new-constructor, new-children, term-node, kept-term}

-- a store with room for `size` nodes, good below the mark
pub record Stored (size : ℕ) : Type 0 where
  pub words : List ℕ
  pub mark : ℕ
  pub filled : Filled words mark
  pub long : rows words ≡ size

abbrev pub state : {N : Type 0} {size : ℕ} → Stored size → N → State N
state v ν = on v.words v.mark ν

-- new nodes come after those that were there
pub record Later {size : ℕ} (v v' : Stored size) : Type 0 where
  pub more : v.mark ≤ v'.mark
  pub kept : Kept v.words v.mark v'.words

-- node k is in use and names the term t
pub record Names {size : ℕ} (v : Stored size) (k : ℕ) (t : Term) : Type 0 where
  pub below : k < v.mark
  pub is : term v.words k ≡ t

module _ (size : ℕ) where
  pub later_refl : (v : Stored size) → Later v v
  later_refl v = record { more = omega arith; kept = kept_refl v.words v.mark }

  pub later_trans : {u v w : Stored size} → Later u v → Later v w → Later u w
  later_trans {u} {v} {w} e f = record { more = omega (arith, e.more, f.more); kept = kept_trans e.more e.kept f.kept }

  pub later-names : {v w : Stored size} {k : ℕ} {t : Term} → Later v w → Names v k t → Names w k t
  later-names {v} {w} {k} e n = record { below = omega (arith, e.more, n.below); is = kept-term v.filled e.kept k n.below ∙ n.is }

  pub in_use : (v : Stored size) (k : ℕ) → k < v.mark → Names v k (term v.words k)
  in_use v k h = record { below = h; is = refl }

  -- the worlds of the rules' parametricity: stores, the later ones having more nodes
  abbrev pub stores : Worlds ℕ Term
  stores = record {
    Had = Holdable;
    World = Stored size;
    Ext = λ v w. Later v w;
    ext_refl = λ v. later_refl v;
    ext_trans = λ {u} {v} {w} e f. later_trans e f;
    Rel = λ v k t. Names v k t;
    grow = λ {v} {w} {h} {g} e n. later-names e n;
  }

  -- the mark given back, over what is left
  abbrev pub backed : (v : Stored size) (w : List ℕ) → Kept v.words v.mark w → Stored size
  backed v w p = record { words = w; mark = v.mark; filled = kept-filled p v.filled; long = ap (λ (n : ℕ). n / 8) p.long ∙ v.long }

  pub later-backed : (v : Stored size) (w : List ℕ) (p : Kept v.words v.mark w) → Later v (backed v w p)
  later-backed v w p = record { more = omega arith; kept = p }

  -- nodes below the mark stand for their terms
  below_names : (v : Stored size) {k : ℕ} {l : List ℕ} → Below k l → k ≤ v.mark → LRel stores v l (map (term v.words) l)
  below_names v below_none h = l_nil
  below_names v (below_more {j = j} i b) h = l_cons (in_use v j (omega arith)) (below_names v b h)

  pub names-below : {v : Stored size} {hs : List ℕ} {gs : List Term} → LRel stores v hs gs → Below v.mark hs
  names-below l_nil = below_none
  names-below (l_cons n l) = below_more n.below (names-below l)

  pub names-terms : {v : Stored size} {hs : List ℕ} {gs : List Term} → LRel stores v hs gs → map (term v.words) hs ≡ gs
  names-terms l_nil = refl
  names-terms (l_cons n l) = λ i. n.is i ∷ names-terms l i

  -- what a look finds
  names-term : {v : Stored size} {k : ℕ} {t : Term} → Names v k t → t ≡ mk (constructor_of v.words k) (map (term v.words) (children v.words k))
  names-term {v} {k} n = sym n.is ∙ term-node v.filled k n.below

  pub names-constructor : {v : Stored size} {k : ℕ} {t : Term} → Names v k t → con t ≡ constructor_of v.words k
  unfolding con mk
  names-constructor n = ap con (names-term n)

  pub names-children : {v : Stored size} {k : ℕ} {t : Term} → Names v k t → LRel stores v (children v.words k) (kids t)
  unfolding kids mk
  names-children {v} {k} {t} n =
      let e : kids t ≡ map (term v.words) (children v.words k) = ap kids (names-term n) ∙ list-unlist (map (term v.words) (children v.words k)) in
      rw e (below_names v (children-below (v.filled.node k n.below)) (omega (arith, n.below)))

  pub names-holdable : {v : Stored size} {k : ℕ} {t : Term} → Names v k t → Holdable (constructor_of v.words k) (length (children v.words k))
  names-holdable {v} {k} n = record { constructor = (v.filled.node k n.below).holdable.constructor; count = simp length-take (omega arith) }

  -- one node more
  module _ (v : Stored size) (c : ℕ) (hs : List ℕ) (gs : List Term) (o : Holdable c (length hs)) (room : v.mark < size) (l : LRel stores v hs gs) where
    pub fits : 8 * v.mark + 8 ≤ length v.words
    fits = omega (arith, v.long)

    abbrev pub grown : Stored size
    grown = record {
      words = put_row v.words v.mark (row c hs);
      mark = v.mark + 1;
      filled = new-filled v.words v.mark c hs o fits (names-below l) v.filled;
      long = ap (λ (n : ℕ). n / 8) (new-kept v.words v.mark c hs o fits).long ∙ v.long;
    }

    pub later_grown : Later v grown
    later_grown = record { more = omega arith; kept = new-kept v.words v.mark c hs o fits }

    pub names-grown : Names grown v.mark (mk c gs)
    names-grown = record {
      below = omega arith;
      is =
          term-node grown.filled v.mark (omega arith)
          ∙ (λ i. mk (new-constructor v.words v.mark c hs o fits i) (map (term grown.words) (new-children v.words v.mark c hs o fits i)))
          ∙ ap (mk c) (map_below (term grown.words) (term v.words) (names-below l) (λ j h. kept-term v.filled later_grown.kept j h) ∙ names-terms l);
    }

  module _ {N : Type 0} (Λ : Notes N) where
    -- two runs from the store v that end alike
    pub data EndAlike (v : Stored size) : Ran N → Answer N Term Env → Type 0 where
      a-ended : {v' : Stored size} {k u : ℕ} {t : Term} {b : Bindings ℕ} {c : Env} {ν : N} → Later v v' → Names v' k t → BRel stores v' b c
          → EndAlike v (ended k b (state v' ν) u) (ended t c (at v'.mark ν) u)
      a-lost : {w : List ℕ} {u : ℕ} {ν : N} → Kept v.words v.mark w → EndAlike v (lost (rest w ν) u) (lost ν u)
      a-cut : {x : Limit} {w : List ℕ} {u : ℕ} {ν : N} → Kept v.words v.mark w → EndAlike v (cut x (rest w ν) u) (cut x ν u)

    -- from a later store alike, from the store alike
    alike-before : {v v' : Stored size} {r : Ran N} {r' : Answer N Term Env} → Later v v' → EndAlike v' r r' → EndAlike v r r'
    alike-before e (a-ended {v' = v''} f n s) = a-ended {v' = v''} (later_trans e f) n s
    alike-before e (a-lost p) = a-lost (kept_trans e.more e.kept p)
    alike-before e (a-cut p) = a-cut (kept_trans e.more e.kept p)

    -- a node is made in both or in neither
    alike-room : {v : Stored size} (t : Bool) (ν : N) (u : ℕ) (r : Ran N) (r' : Answer N Term Env) → (t ≡ false → EndAlike v r r') → EndAlike v (room_for t (rest v.words ν) u r) (room_for t ν u r')
    unfolding room_for
    alike-room {v} true ν u r r' f = a-cut (kept_refl v.words v.mark)
    alike-room false ν u r r' f = f refl

    -- what is asked for ends alike
    abbrev Together : (Visit ℕ → State N → ℕ → Ran N) → (Visit Term → Counted N → ℕ → Answer N Term Env) → Type 0
    Together ev ev' = (v : Stored size) (q : Visit ℕ) (q' : Visit Term) (ν : N) (u : ℕ) → QRel stores v q q' → EndAlike v (ev q (state v ν) u) (ev' q' (at v.mark ν) u)

    module _ (v : Stored size) (f : ℕ → Bindings ℕ → State N → ℕ → Ran N) (f' : Term → Env → Counted N → ℕ → Answer N Term Env) (g : State N → ℕ → Ran N) (g' : Counted N → ℕ → Answer N Term Env)
        (no : (w : List ℕ) (p : Kept v.words v.mark w) (ν : N) (u : ℕ) → EndAlike (backed v w p) (g (on w v.mark ν) u) (g' (at v.mark ν) u)) (ν₀ : N) where
      alike-ask : {r : Ran N} {r' : Answer N Term Env} → EndAlike v r r'
          → ((v' : Stored size) (k : ℕ) (t : Term) (b : Bindings ℕ) (c : Env) (ν : N) (u : ℕ) → Later v v' → Names v' k t
          → BRel stores v' b c → EndAlike v' (f k b (state v' ν) u) (f' t c (at v'.mark ν) u))
          → EndAlike v (after (stored Λ) keep (state v ν₀) r f g) (after (counting terms Λ size) keep (at v.mark ν₀) r' f' g')
      unfolding after settled
      alike-ask (a-ended {v' = v'} {u = u} {ν = ν} e n s) yes-then = alike-before e (yes-then v' _ _ _ _ ν u e n s)
      alike-ask (a-lost {w = w} {u = u} {ν = ν} p) yes-then = alike-before (later-backed v w p) (no w p ν u)
      alike-ask (a-cut p) yes-then = a-cut p

      alike-test : {r : Ran N} {r' : Answer N Term Env} → EndAlike v r r'
          → ((w : List ℕ) (p : Kept v.words v.mark w) (k : ℕ) (t : Term) (b : Bindings ℕ) (c : Env) (ν : N) (u : ℕ)
          → EndAlike (backed v w p) (f k b (on w v.mark ν) u) (f' t c (at v.mark ν) u))
          → EndAlike v (after (stored Λ) drop (state v ν₀) r f g) (after (counting terms Λ size) drop (at v.mark ν₀) r' f' g')
      unfolding after settled
      alike-test (a-ended {v' = v'} {u = u} {ν = ν} e n s) yes-then = alike-before (later-backed v v'.words e.kept) (yes-then v'.words e.kept _ _ _ _ ν u)
      alike-test (a-lost {w = w} {u = u} {ν = ν} p) yes-then = alike-before (later-backed v w p) (no w p ν u)
      alike-test (a-cut p) yes-then = a-cut p

    -- related plans end alike where the visits do
    alike-plan : (ev : Visit ℕ → State N → ℕ → Ran N) (ev' : Visit Term → Counted N → ℕ → Answer N Term Env) → Together ev ev'
        → {v : Stored size} {p : Do ℕ} {p' : Do Term} → PRel stores v p p' → (ν : N) (u : ℕ)
        → EndAlike v (run_plan (stored Λ) ev p (state v ν) u) (run_plan (counting terms Λ size) ev' p' (at v.mark ν) u)
    unfolding run_plan
    alike-plan ev ev' z {v} (p-ret n s) ν u = a-ended {v' = v} (later_refl v) n s
    alike-plan ev ev' z {v} p-fail ν u = a-lost (kept_refl v.words v.mark)
    alike-plan ev ev' z {v} (p-miss y) ν u = a-lost (kept_refl v.words v.mark)
    alike-plan ev ev' z {v} (p-stuck y) ν u = a-cut (kept_refl v.words v.mark)
    alike-plan ev ev' z {v} (p-look {h = h} {g = t} {k = k} {k' = k'} n f) ν u =
        subst (λ c. EndAlike v (run_plan (stored Λ) ev (k (constructor_of v.words h) (children v.words h)) (state v ν) u)
        (run_plan (counting terms Λ size) ev' (k' c (kids t)) (at v.mark ν) u)) (sym (names-constructor n))
        (alike-plan ev ev' z (f (constructor_of v.words h) (children v.words h) (kids t) (names-holdable n) (names-children n)) ν u)
    alike-plan ev ev' z {v} (p-make {c = c} {hs = hs} {gs = gs} {k = k} {k' = k'} o l f) ν u =
        subst (λ n. EndAlike v (room_for (leb (rows v.words) v.mark) (rest v.words ν) u (run_plan (stored Λ) ev (k v.mark) (on (put_row v.words v.mark (row c hs)) (v.mark + 1) ν) u))
        (room_for (leb n v.mark) ν u (run_plan (counting terms Λ size) ev' (k' (mk c gs)) (at (suc v.mark) ν) u))) v.long
        (alike-room (leb (rows v.words) v.mark) ν u _ _ (λ e.
        let room : v.mark < size = omega (arith, leb-false (rows v.words) v.mark e, v.long) in
        alike-before (later_grown v c hs gs o room l)
        (subst (λ m. EndAlike (grown v c hs gs o room l) (run_plan (stored Λ) ev (k v.mark)
        (on (put_row v.words v.mark (row c hs)) (v.mark + 1) ν) u)
        (run_plan (counting terms Λ size) ev' (k' (mk c gs)) (at m ν) u)) (add-one v.mark)
        (alike-plan ev ev' z (f (grown v c hs gs o room l) v.mark (mk c gs) (later_grown v c hs gs o room l) (names-grown v c hs gs o room l)) ν u))))
    alike-plan ev ev' z {v} (p-ask {q = q} {q' = q'} r f g) ν u =
        alike-ask v _ _ _ _ (λ w p ν' u'. alike-plan ev ev' z (g (backed v w p) (later-backed v w p)) ν' u') ν (z v q q' ν u r)
        (λ v' k t b c ν' u' e n s. alike-plan ev ev' z (f v' k t b c e n s) ν' u')
    alike-plan ev ev' z {v} (p-test {q = q} {q' = q'} r f g) ν u =
        alike-test v _ _ _ _ (λ w p ν' u'. alike-plan ev ev' z (g (backed v w p) (later-backed v w p)) ν' u') ν (z v q q' ν u r)
        (λ w p k t b c ν' u'. alike-plan ev ev' z (f (backed v w p) k t b c (later-backed v w p)) ν' u')

    -- related visits have one name
    pub same-what : {v : Stored size} {q : Visit ℕ} {q' : Visit Term} → QRel stores v q q' → what q ≡ what q'
    unfolding what
    same-what (q-apply r s) = refl
    same-what (q-match r s) = refl
    same-what (q-build r s) = refl
    same-what (q-compare r r' s) = refl

    alike-closed : {v : Stored size} {q : Visit ℕ} {q' : Visit Term} {r : Ran N} {r' : Answer N Term Env} → QRel stores v q q'
        → EndAlike v r r' → EndAlike v (closed (stored Λ) q r) (closed (counting terms Λ size) q' r')
    unfolding closed
    alike-closed {v} {q} e (a-ended {v' = v'} {k = k} {u = u} {t = t} {b = b} {c = c} {ν = ν} f n s) =
        subst (λ w. EndAlike v (ended k b (state v' (Λ.ends (what q) true ν)) u) (ended t c (at v'.mark (Λ.ends w true ν)) u)) (same-what e) (a-ended {v' = v'} f n s)
    alike-closed {v} {q} e (a-lost {w = w₀} {u = u} {ν = ν} p) = subst (λ w. EndAlike v (lost (rest w₀ (Λ.ends (what q) false ν)) u) (lost (Λ.ends w false ν) u)) (same-what e) (a-lost p)
    alike-closed e (a-cut p) = a-cut p

    -- at every nesting
    pub together : (T : Table) → Makeable Holdable T → (n : ℕ) → Together (run (stored Λ) (does T) n) (run (counting terms Λ size) (does T) n)
    unfolding run
    together T o zero v q q' ν zero r = a-cut (kept_refl v.words v.mark)
    together T o zero v q q' ν (suc u) r = a-cut (kept_refl v.words v.mark)
    together T o (suc n) v q q' ν zero r = a-cut (kept_refl v.words v.mark)
    together T o (suc n) v q q' ν (suc u) r =
        alike-closed r (subst (λ w. EndAlike v (run_plan (stored Λ) (run (stored Λ) (does T) n) (does T q) (state v (Λ.begins (what q) ν))
        u) (run_plan (counting terms Λ size) (run (counting terms Λ size) (does T) n) (does T q') (at v.mark (Λ.begins w ν)) u))
        (same-what r)
        (alike-plan (run (stored Λ) (does T) n) (run (counting terms Λ size) (does T) n) (together T o n) (p-does T o r) (Λ.begins (what q) ν) u))
