-- The run over the lent slice goes together with the run over the store's own words: the plain store's, or the variant's where there is
-- an index, whose chains hold just the nodes below `top`. Assumes nothing.
use Rattle.std.proofs.Common.{◌≡◌, ℕ, zero, suc, ◌+◌, ◌-◌, ◌*◌, ◌/◌, ◌%◌, ◌<◌, ◌≤◌, Bool, true, false, leb, List, [], ◌∷◌, length, get_or, take, sym, refl, ap, ◌∙◌, subst, arith, length-take, length-take-le, get_or-take, take-take, ext_get_or, leb-false}
use mathlib.Core.Path.{fun_ext}
use mathlib.Core.Option.{Option, none, some}
use native.Mathlib.Decide.{ℕ_discrete}
use lib.Seq.{take-set-le}
use Rattle.words.specs.Words.{word_at, rows, put_row, cleared_from}
use Rattle.words.proofs.Rows.{length-put_row, word_at-put_row-same, word_at-put_row-other, take-cleared_from, length-cleared_from}
use Rattle.checks.specs.Good.{constructor_of, good_node}
use Rattle.meaning.specs.Bindings.{Bindings}
use Rattle.meaning.specs.Table.{Table}
use Rattle.meaning.specs.Rules.{Visit, apply, build, does}
use Rattle.meaning.specs.Derivation.{what, Notes}
use Rattle.meaning.specs.Limits.{Store, ended, run}
use Rattle.meaning.specs.Store.{children, row, State, on, Left, rest, stored, Ran, Kept, Leaves}
use Rattle.meaning.specs.Shared.{eight, node_with, full_for, number_for, state_for, shared}
use Rattle.meaning.proofs.Alike.{Holdable, Makeable, Worlds, ORel, o-none, o-some, LRel, l_nil, l_cons, BRel, QRel, q-apply, q-match, q-build, q-compare}
use Rattle.meaning.proofs.Checked.{Node, Filled, good-of-node}
use Rattle.meaning.proofs.Words.{kept_refl, kept_trans, same-node, kept-filled, Below, below_none, below_more, children-below, length-row, new-kept, new-filled}
use Rattle.meaning.proofs.Simulates.{Makes, both-make, both-full, Simulation, Ends, e-ended, e-lost, e-cut, e-early, e-room, simulates}
use Rattle.meaning.proofs.NodeWith.{node_with-has, node_with-same}
use Rattle.index.specs.Chains.{linked, unlinked}
use Rattle.index.specs.Lent.{Held, joined, parted, built, forgotten, made}
use Rattle.index.specs.Run.{Lending, lending, lent, full_by, number_by, state_by, FitsRoom, Fitting, SameRoom, own_words, own_ran}
use Rattle.index.proofs.Lending.{held-cleared, held-built, held-forgotten, held-made, length-joined, length-parted}

module _ (n : ℕ) where
  -- the store's words of the lent slice
  abbrev pub first : List ℕ → List ℕ
  first w = take (8 * n) w

  first_word : (w : List ℕ) (k j : ℕ) → k < n → j < 8 → word_at (first w) k j ≡ word_at w k j
  first_word w k j h l = get_or-take (8 * n) w (8 * k + j) 0 (omega arith)

  first-eight : (w : List ℕ) (k : ℕ) → k < n → eight (first w) k ≡ eight w k
  first-eight w k h =
      λ z. o 0 (omega arith) z ∷ o 1 (omega arith) z ∷ o 2 (omega arith) z ∷ o 3 (omega arith) z ∷ o 4 (omega arith) z ∷ o 5 (omega arith) z
      ∷ o 6 (omega arith) z ∷ o 7 (omega arith) z ∷ []
    where
      o : (j : ℕ) → j < 8 → word_at (first w) k j ≡ word_at w k j
      o j l = first_word w k j h l

  first-children : (w : List ℕ) (k : ℕ) → k < n → children (first w) k ≡ children w k
  first-children w k h = ap (λ r. take (get_or r 1 0) (get_or r 2 0 ∷ get_or r 3 0 ∷ get_or r 4 0 ∷ get_or r 5 0 ∷ get_or r 6 0 ∷ get_or r 7 0 ∷ [])) (first-eight w k h)

  first-joined : (w : List ℕ) (k : ℕ) → first (joined n k w) ≡ first w
  unfolding linked
  first-joined w k = take-set-le (8 * n) _ _ _ (omega arith) ∙ take-set-le (8 * n) w _ _ (omega arith)

  first-forgotten : (c m : ℕ) (w : List ℕ) → first (forgotten n m c w) ≡ first w
  unfolding forgotten unlinked
  first-forgotten zero m w = refl
  first-forgotten (suc c) m w = first-forgotten c m (parted n (m + c) w) ∙ take-set-le (8 * n) w _ _ (omega arith)

  first-put : (w r : List ℕ) (m : ℕ) → m < n → 8 * n ≤ length w → length r ≡ 8 → first (put_row w m r) ≡ put_row (first w) m r
  first-put w r m h l e = ext_get_or 0 (first (put_row w m r)) (put_row (first w) m r) (long ∙ sym long') (λ i b. at i (omega (arith, long)))
    where
      inside : 8 * m + 8 ≤ length w
      inside = omega arith

      inside' : 8 * m + 8 ≤ length (first w)
      inside' = omega (arith, length-take-le (8 * n) w l)

      long : length (first (put_row w m r)) ≡ 8 * n
      long = length-take-le (8 * n) (put_row w m r) (omega (arith, length-put_row w m r inside e))

      long' : length (put_row (first w) m r) ≡ 8 * n
      long' = length-put_row (first w) m r inside' e ∙ length-take-le (8 * n) w l

      word : (k j : ℕ) → k < n → j < 8 → Dec (k ≡ m) → word_at (first (put_row w m r)) k j ≡ word_at (put_row (first w) m r) k j
      word k j a b (yes z) =
          subst (λ k. word_at (first (put_row w m r)) k j ≡ word_at (put_row (first w) m r) k j) (sym z)
          (first_word (put_row w m r) m j h b ∙ word_at-put_row-same w m r inside e j b ∙ sym (word_at-put_row-same (first w) m r inside' e j b))
      word k j a b (no z) =
          first_word (put_row w m r) k j a b ∙ word_at-put_row-other w m r inside e k j b z ∙ sym (first_word w k j a b) ∙ sym (word_at-put_row-other (first w) m r inside' e k j b z)

      at : (i : ℕ) → i < 8 * n → get_or (first (put_row w m r)) i 0 ≡ get_or (put_row (first w) m r) i 0
      at i b =
          let z : 8 * (i / 8) + i % 8 ≡ i = omega arith in
          subst (λ j. get_or (first (put_row w m r)) j 0 ≡ get_or (put_row (first w) m r) j 0) z (word (i / 8) (i % 8) (omega arith) (omega arith) (ℕ_discrete (i / 8) m))

  pub first_made : (w r : List ℕ) (m top : ℕ) → Held w n top → m ≤ top → m < n → length r ≡ 8 → first (made n m top r w) ≡ put_row (first w) m r
  unfolding made
  first_made w r m top i b h e =
      let j : Held (forgotten n m (top - m) w) n m = held-forgotten n (top - m) m w (subst (Held w n) (omega arith) i) in
      first-joined (put_row (forgotten n m (top - m) w) m r) m
      ∙ first-put (forgotten n m (top - m) w) r m h (omega (arith, j.long)) e
      ∙ ap (λ l. put_row l m r) (first-forgotten (top - m) m w)

  -- the lent slice with a new node is as long
  length-forgotten : (c m : ℕ) (w : List ℕ) → length (forgotten n m c w) ≡ length w
  unfolding forgotten
  length-forgotten zero m w = refl
  length-forgotten (suc c) m w = length-forgotten c m (parted n (m + c) w) ∙ length-parted n w (m + c)

  length-made : (w r : List ℕ) (m top : ℕ) → 8 * m + 8 ≤ length w → length r ≡ 8 → length (made n m top r w) ≡ length w
  unfolding made
  length-made w r m top h e =
      let l = length-forgotten (top - m) m w in
      length-joined n (put_row (forgotten n m (top - m) w) m r) m ∙ length-put_row (forgotten n m (top - m) w) m r (omega (arith, l)) e ∙ l

  -- the beginning: the index is cleared, and the nodes below the mark are put in
  first-built : (c k : ℕ) (w : List ℕ) → first (built n k c w) ≡ first w
  unfolding built
  first-built zero k w = refl
  first-built (suc c) k w = first-built c (k + 1) (joined n k w) ∙ first-joined w k

  length-built : (c k : ℕ) (w : List ℕ) → length (built n k c w) ≡ length w
  unfolding built
  length-built zero k w = refl
  length-built (suc c) k w = length-built c (k + 1) (joined n k w) ∙ length-joined n w k

-- the words with the index cleared and the nodes below the mark put in: they fit, and the store's words are as they were
module _ (n : ℕ) (w : List ℕ) (m : ℕ) where
  abbrev pub begun : List ℕ
  begun = built n 0 m (cleared_from w (8 * n))

  pub first-begun : first n begun ≡ first n w
  first-begun = first-built n m 0 (cleared_from w (8 * n)) ∙ take-cleared_from w (8 * n) (8 * n) (omega arith)

  pub length-begun : length begun ≡ length w
  length-begun = length-built n m 0 (cleared_from w (8 * n)) ∙ length-cleared_from w (8 * n)

  pub held-begun : 0 < n → 8 * n + n + n ≤ length w → m ≤ n → Held begun n m
  held-begun s l b = subst (Held begun n) (omega arith) (held-built n m 0 (cleared_from w (8 * n)) (held-cleared n w s l) (omega arith))

-- ---- the store's own words, by the room

-- the mark is within them, and is small
pub mark-fits : (room : ℕ) (w : List ℕ) (m t n : ℕ) → FitsRoom room w m t n → m ≤ rows (own_words room n w)
mark-fits zero w m t n (h, b, s) = omega (arith, b, h.fits, h.long, length-take-le (8 * n) w (omega (arith, h.long)))
mark-fits (suc r) w m t n (e, b, s) = omega arith

pub mark-small : (room : ℕ) (w : List ℕ) (m t n : ℕ) → FitsRoom room w m t n → m ≤ 131072
mark-small zero w m t n (h, b, s) = omega (arith, b, h.fits)
mark-small (suc r) w m t n (e, b, s) = omega arith

-- nodes below the mark are the same in them
pub own-word : (room : ℕ) (w : List ℕ) (m t n : ℕ) → FitsRoom room w m t n → (k j : ℕ) → k < m → j < 8 → word_at (own_words room n w) k j ≡ word_at w k j
own-word zero w m t n (h, b, s) k j l y = first_word n w k j (omega (arith, b, h.fits)) y
own-word (suc r) w m t n f k j l y = refl

own-eight : (room : ℕ) (w : List ℕ) (m t n : ℕ) → FitsRoom room w m t n → (k : ℕ) → k < m → eight (own_words room n w) k ≡ eight w k
own-eight zero w m t n (h, b, s) k l = first-eight n w k (omega (arith, b, h.fits))
own-eight (suc r) w m t n f k l = refl

own-children : (room : ℕ) (w : List ℕ) (m t n : ℕ) → FitsRoom room w m t n → (k : ℕ) → k < m → children (own_words room n w) k ≡ children w k
own-children zero w m t n (h, b, s) k l = first-children n w k (omega (arith, b, h.fits))
own-children (suc r) w m t n f k l = refl

own-kept : (room : ℕ) (w w' : List ℕ) (m t n : ℕ) → FitsRoom room w m t n → length w' ≡ length w → Kept (own_words room n w) m (own_words room n w') → Kept w m w'
own-kept zero w w' m t n (h, b, s) e k =
    let l : 8 * m ≤ 8 * n = omega (arith, b, h.fits) in
    record { long = e; same = sym (take-take (8 * m) (8 * n) w' l) ∙ k.same ∙ take-take (8 * m) (8 * n) w l }
own-kept (suc r) w w' m t n f e k = k

-- good nodes are good in what is lent
pub filled-own : (room : ℕ) (w : List ℕ) (m t n : ℕ) → FitsRoom room w m t n → ((k : ℕ) → k < m → Node w k) → Filled (own_words room n w) m
filled-own room w m t n f g = record { fits = mark-fits room w m t n f; node = λ k h. same-node w (own_words room n w) k (λ j l. own-word room w m t n f k j h l) (g k h) }

-- ---- worlds

-- the store beneath: the plain one, or the variant where there is an index
unfoldable node_by : ℕ → List ℕ → List ℕ → ℕ → Option ℕ
node_by zero w r m = node_with w r m
node_by (suc x) w r m = none

abbrev beneath : ℕ → {N : Type 0} → Notes N → Store ℕ (Visit ℕ) (State N) (Left N)
beneath room Λ = record {
  con = (stored Λ).con;
  kids = (stored Λ).kids;
  full = λ s c hs. full_for (node_by room s.words (row c hs) s.mark) ((stored Λ).full s c hs);
  new = λ s c hs. number_for (node_by room s.words (row c hs) s.mark) ((stored Λ).new s c hs);
  put = λ s c hs. state_for (node_by room s.words (row c hs) s.mark) s ((stored Λ).put s c hs);
  left = (stored Λ).left;
  back = (stored Λ).back;
  missed = (stored Λ).missed;
  begins = (stored Λ).begins;
  ends = (stored Λ).ends;
  fails = (stored Λ).fails;
}

-- what is lent, of `long` words, with the given room and nodes
module _ (room n long : ℕ) where
  abbrev own : List ℕ → List ℕ
  own w = own_words room n w

  record Slice : Type 0 where
    words : List ℕ
    mark : ℕ
    top : ℕ
    fits : FitsRoom room words mark top n
    filled : Filled (own words) mark
    even : length words ≡ long

  record Later (v v' : Slice) : Type 0 where
    more : v.mark ≤ v'.mark
    kept : Kept (own v.words) v.mark (own v'.words)

  record Same (v : Slice) (h g : ℕ) : Type 0 where
    is : h ≡ g
    below : h < v.mark

  abbrev slices : Worlds ℕ ℕ
  slices = record {
    Had = Holdable;
    World = Slice;
    Ext = Later;
    ext_refl = λ v. record { more = omega arith; kept = kept_refl _ _ };
    ext_trans = λ {u} {v} {w} e f. record { more = omega (arith, e.more, f.more); kept = kept_trans e.more e.kept f.kept };
    Rel = Same;
    grow = λ {v} {w} e r. record { is = r.is; below = omega (arith, e.more, r.below) };
  }

  same-list : (v : Slice) {k : ℕ} {l : List ℕ} → Below k l → k ≤ v.mark → LRel slices v l l
  same-list v below_none h = l_nil
  same-list v (below_more {j = j} i b) h = l_cons {h = j} (record { is = refl; below = omega arith }) (same-list v b h)

  list_same : {v : Slice} {hs gs : List ℕ} → LRel slices v hs gs → hs ≡ gs
  list_same l_nil = refl
  list_same (l_cons r l) = λ i. r.is i ∷ list_same l i

  list-below : {v : Slice} {hs gs : List ℕ} → LRel slices v hs gs → Below v.mark hs
  list-below l_nil = below_none
  list-below (l_cons r l) = below_more r.below (list-below l)

  same-what : {v : Slice} {q q' : Visit ℕ} → QRel slices v q q' → what q ≡ what q'
  unfolding what
  same-what (q-apply r s) = refl
  same-what (q-match r s) = refl
  same-what (q-build r s) = refl
  same-what (q-compare r r' s) = refl

  module _ {N : Type 0} where
    data At (v : Slice) : State (Lending N) → State N → Type 0 where
      at-lent : (ν : N) → At v (on v.words v.mark (lending ν room v.top n)) (on (own v.words) v.mark ν)

    data Over (v : Slice) : Left (Lending N) → Left N → Type 0 where
      over-lent : {w : List ℕ} {t : ℕ} (ν : N) → FitsRoom room w v.mark t n → length w ≡ long → Kept (own v.words) v.mark (own w) → Over v (rest w (lending ν room t n)) (rest (own w) ν)

  abbrev backed : (v : Slice) (w : List ℕ) (t : ℕ) → FitsRoom room w v.mark t n → length w ≡ long → Kept (own v.words) v.mark (own w) → Slice
  backed v w t f e k = record { words = w; mark = v.mark; top = t; fits = f; filled = kept-filled k v.filled; even = e }

-- one node more: the plain way
module _ (r n long : ℕ) {N : Type 0} (Λ : Notes N) (v : Slice (suc r) n long) (ν : N) (c : ℕ) (hs gs : List ℕ) (o : Holdable c (length hs)) (l : LRel (slices (suc r) n long) v hs gs) where
  plain_makes : (f : Bool) → leb (suc r) v.mark ≡ f
      → Makes (slices (suc r) n long) (lent Λ) (beneath (suc r) Λ) ⊥ ⊥ (At (suc r) n long) v (on v.words v.mark (lending ν (suc r) v.top n)) (on v.words v.mark ν) c hs gs
  unfolding full_by number_by state_by node_by full_for number_for state_for
  plain_makes true f = both-full f (ap (λ z. leb z v.mark) v.fits.0 ∙ f)
  plain_makes false f =
      let inside : 8 * v.mark + 8 ≤ length v.words = omega (arith, v.fits.0, leb-false (suc r) v.mark f) in
      let kept = new-kept v.words v.mark c hs o inside in
      let v' : Slice (suc r) n long = record {
        words = put_row v.words v.mark (row c hs);
        mark = v.mark + 1;
        top = v.top;
        fits = (ap (λ (z : ℕ). z / 8) kept.long ∙ v.fits.0, omega (arith, leb-false (suc r) v.mark f), v.fits.2);
        filled = new-filled v.words v.mark c hs o inside (list-below (suc r) n long l) v.filled;
        even = kept.long ∙ v.even;
      } in
      both-make {v' = v'} f (ap (λ z. leb z v.mark) v.fits.0 ∙ f) (record { more = omega arith; kept = kept })
      (subst (λ ks. At (suc r) n long v' (on (put_row v.words v.mark (row c hs)) (v.mark + 1) (lending ν (suc r) v.top n))
      (on (put_row v.words v.mark (row c ks)) (v.mark + 1) ν)) (list_same (suc r) n long l) (at-lent ν))
      (record { is = refl; below = omega arith })

-- one node more: by the index, a node that stands, no room, a new node
module _ (n long : ℕ) {N : Type 0} (Λ : Notes N) (v : Slice 0 n long) (ν : N) (c : ℕ) (hs gs : List ℕ) (o : Holdable c (length hs)) (l : LRel (slices 0 n long) v hs gs) where
  lent-long : 8 * n ≤ length v.words
  lent-long = omega (arith, v.fits.0.long)

  size : rows (first n v.words) ≡ n
  size = ap (λ (m : ℕ). m / 8) (length-take-le (8 * n) v.words lent-long) ∙ omega arith

  there : (t : Option ℕ) → node_with v.words (row c hs) v.mark ≡ t → node_with (first n v.words) (row c gs) v.mark ≡ t
  there t e =
      ap (λ ks. node_with (first n v.words) (row c ks) v.mark) (sym (list_same 0 n long l))
      ∙ node_with-same v.words (first n v.words) (row c hs) v.mark (λ k h. own-eight 0 v.words v.mark v.top n v.fits k h) ∙ e

  indexed-makes : (t : Option ℕ) → node_with v.words (row c hs) v.mark ≡ t → (f : Bool) → leb n v.mark ≡ f
      → Makes (slices 0 n long) (lent Λ) (beneath 0 Λ) ⊥ ⊥ (At 0 n long) v (on v.words v.mark (lending ν 0 v.top n)) (on (first n v.words) v.mark ν) c hs gs
  unfolding full_by number_by state_by node_by full_for number_for state_for
  indexed-makes (some k) e f q =
      both-make {v' = v} (rw e) (rw (there (some k) e)) ((slices 0 n long).ext_refl v) (rw (e, there (some k) e) (at-lent ν))
      (rw (e, there (some k) e) (record { is = refl; below = (node_with-has v.words (row c hs) v.mark k e).0 }))
  indexed-makes none e true q = both-full (rw e q) (rw (there none e, size) q)
  indexed-makes none e false q =
      let room : v.mark < n = leb-false n v.mark q in
      let eights = length-row c hs o.count in
      let one_more : first n (made n v.mark v.top (row c hs) v.words)
      ≡ put_row (first n v.words) v.mark (row c hs) =
      first_made n v.words (row c hs) v.mark v.top v.fits.0 v.fits.1 room eights in
      let inside : 8 * v.mark + 8 ≤ length (first n v.words) = omega (arith, length-take-le (8 * n) v.words lent-long) in
      let v' : Slice 0 n long = record {
        words = made n v.mark v.top (row c hs) v.words;
        mark = v.mark + 1;
        top = v.mark + 1;
        fits = (held-made n v.mark v.top (row c hs) v.words v.fits.0 v.fits.1 room eights, omega arith, v.fits.2);
        filled = subst (λ w. Filled w (v.mark + 1)) (sym one_more) (new-filled (first n v.words) v.mark c hs o inside (list-below 0 n long l) v.filled);
        even = length-made n v.words (row c hs) v.mark v.top (omega (arith, lent-long)) eights ∙ v.even;
      } in
      both-make {v' = v'} (rw e q) (rw (there none e, size) q)
      (record { more = omega arith; kept = subst (Kept (first n v.words) v.mark) (sym one_more) (new-kept (first n v.words) v.mark c hs o inside) })
      (rw (e, there none e) (subst (λ z. At 0 n long v' (on v'.words (v.mark + 1) (lending ν 0 (v.mark + 1) n)) (on z (v.mark + 1) ν))
      (one_more ∙ ap (λ ks. put_row (first n v.words) v.mark (row c ks)) (list_same 0 n long l)) (at-lent ν)))
      (rw (e, there none e) (record { is = refl; below = omega arith }))

makes-by : (room n long : ℕ) {N : Type 0} (Λ : Notes N) (v : Slice room n long) (ν : N) (c : ℕ) (hs gs : List ℕ) → Holdable c (length hs) → LRel (slices room n long) v hs gs
    → Makes (slices room n long) (lent Λ) (beneath room Λ) ⊥ ⊥ (At room n long) v (on v.words v.mark (lending ν room v.top n)) (on (own_words room n v.words) v.mark ν) c hs gs
makes-by zero n long Λ v ν c hs gs o l = indexed-makes n long Λ v ν c hs gs o l (node_with v.words (row c hs) v.mark) refl (leb n v.mark) refl
makes-by (suc r) n long Λ v ν c hs gs o l = plain_makes r n long Λ v ν c hs gs o l (leb (suc r) v.mark) refl

module _ (room n long : ℕ) {N : Type 0} (Λ : Notes N) where
  over-own : Simulation (slices room n long) (lent Λ) (beneath room Λ) ⊥ ⊥
  over-own = record {
    At = At room n long;
    Over = Over room n long;
    same-con = con;
    same-kids = kids;
    holds = holds;
    makes = makes;
    leaves = leaves;
    sooner = sooner;
    backs = backs;
    misses = misses;
    begins = begins;
    ends = ends;
    fails = fails;
  }
    where
      con : {v : Slice room n long} {s : State (Lending N)} {s' : State N} {h g : ℕ} → At room n long v s s' → Same room n long v h g → constructor_of s.words h ≡ constructor_of s'.words g
      con {v} {h = h} (at-lent ν) r = sym (own-word room v.words v.mark v.top n v.fits h 0 r.below (omega arith)) ∙ ap (constructor_of (own_words room n v.words)) r.is

      kids : {v : Slice room n long} {s : State (Lending N)} {s' : State N} {h g : ℕ} → At room n long v s s' → Same room n long v h g
          → LRel (slices room n long) v (children s.words h) (children s'.words g)
      kids {v} {h = h} {g = g} (at-lent ν) r =
          subst (λ l. LRel (slices room n long) v l (children (own_words room n v.words) g)) (own-children room v.words v.mark v.top n v.fits h r.below)
          (subst (LRel (slices room n long) v (children (own_words room n v.words) h))
          (ap (children (own_words room n v.words)) r.is)
          (same-list room n long v (children-below (v.filled.node h r.below)) (omega (arith, r.below))))

      holds : {v : Slice room n long} {s : State (Lending N)} {s' : State N} {h g : ℕ} → At room n long v s s' → Same room n long v h g
          → Holdable (constructor_of s.words h) (length (children s.words h))
      holds {v} {h = h} (at-lent ν) r = record {
        constructor = subst (λ c. c ≤ 65535) (own-word room v.words v.mark v.top n v.fits h 0 r.below (omega arith)) (v.filled.node h r.below).holdable.constructor;
        count = simp length-take (omega arith);
      }

      makes : {v : Slice room n long} {s : State (Lending N)} {s' : State N} (c : ℕ) (hs gs : List ℕ) → At room n long v s s'
          → Holdable c (length hs) → LRel (slices room n long) v hs gs
          → Makes (slices room n long) (lent Λ) (beneath room Λ) ⊥ ⊥ (At room n long) v s s' c hs gs
      makes {v} c hs gs (at-lent ν) o l = makes-by room n long Λ v ν c hs gs o l

      leaves : {v : Slice room n long} {s : State (Lending N)} {s' : State N} → At room n long v s s' → Over room n long v (rest s.words s.notes) (rest s'.words s'.notes)
      leaves {v} (at-lent ν) = over-lent ν v.fits v.even (kept_refl _ _)

      sooner : {v v' : Slice room n long} {l : Left (Lending N)} {l' : Left N} → Later room n long v v' → Over room n long v' l l' → Over room n long v l l'
      sooner {v} {v'} e (over-lent {w = w} {t = t} ν f y k) = over-lent ν (lower room w v'.mark v.mark t f e.more) y (kept_trans e.more e.kept k)
        where
          lower : (room : ℕ) (w : List ℕ) (m m' t : ℕ) → FitsRoom room w m t n → m' ≤ m → FitsRoom room w m' t n
          lower zero w m m' t (h, b, s) l = (h, omega arith, s)
          lower (suc r) w m m' t (e, b, s) l = (e, omega arith, s)

      backs : {v : Slice room n long} {s : State (Lending N)} {s' : State N} {l : Left (Lending N)} {l' : Left N} → At room n long v s s'
          → Over room n long v l l' → (v' : Slice room n long) × Later room n long v v'
          × At room n long v' (on l.words s.mark l.notes) (on l'.words s'.mark l'.notes)
      backs {v} (at-lent ν) (over-lent {w = w} {t = t} ν' f y k) = (backed room n long v w t f y k, record { more = omega arith; kept = k }, at-lent ν')

      misses : {v : Slice room n long} {s : State (Lending N)} {s' : State N} (p : ℕ) → At room n long v s s' → At room n long v ((lent Λ).missed p s) ((beneath room Λ).missed p s')
      misses p (at-lent ν) = at-lent (Λ.missed p ν)

      begins : {v : Slice room n long} {s : State (Lending N)} {s' : State N} {q q' : Visit ℕ} → QRel (slices room n long) v q q'
          → At room n long v s s' → At room n long v ((lent Λ).begins q s) ((beneath room Λ).begins q' s')
      begins {v} {q = q} r (at-lent ν) =
          subst (λ w. At room n long v (on v.words v.mark (lending (Λ.begins (what q) ν) room v.top n))
          (on (own_words room n v.words) v.mark (Λ.begins w ν))) (same-what room n long r) (at-lent _)

      ends : {v v' : Slice room n long} {s : State (Lending N)} {s' : State N} {q q' : Visit ℕ} → QRel (slices room n long) v q q'
          → At room n long v' s s' → At room n long v' ((lent Λ).ends q s) ((beneath room Λ).ends q' s')
      ends {v' = v} {q = q} r (at-lent ν) =
          subst (λ w. At room n long v (on v.words v.mark (lending (Λ.ends (what q) true ν) room v.top n))
          (on (own_words room n v.words) v.mark (Λ.ends w true ν))) (same-what room n long r) (at-lent _)

      fails : {v : Slice room n long} {l : Left (Lending N)} {l' : Left N} {q q' : Visit ℕ} → QRel (slices room n long) v q q'
          → Over room n long v l l' → Over room n long v ((lent Λ).fails q l) ((beneath room Λ).fails q' l')
      fails {v} {q = q} r (over-lent {w = w} {t = t} ν f y k) =
          subst (λ x. Over room n long v (rest w (lending (Λ.ends (what q) false ν) room t n))
          (rest (own_words room n w) (Λ.ends x false ν))) (same-what room n long r) (over-lent _ f y k)

  -- ---- what ends alike

  option-same : {v : Slice room n long} {o o' : Option ℕ} → ORel (slices room n long) v o o' → o ≡ o'
  option-same o-none = refl
  option-same (o-some r) = ap some r.is

  option-below : {v : Slice room n long} {o o' : Option ℕ} → ORel (slices room n long) v o o' → (j : ℕ) → o ≡ some j → j < v.mark
  option-below o-none j e = absurd (let z : ◌≡◌ {A = ℕ} 0 1 = cc in omega arith)
  option-below (o-some {h = k} r) j e = let z : k ≡ j = cc in omega (arith, r.below)

  own_same : {v : Slice room n long} {r : Ran (Lending N)} {r' : Ran N} → Ends over-own v r r' → own_ran room n r ≡ r'
  unfolding over-own own_ran
  own_same (e-ended {v' = v} {u = u} e (at-lent ν) h s) = λ i. ended (h.is i) (fun_ext (λ x. option-same (s x)) i) (on (own_words room n v.words) v.mark ν) u
  own_same (e-lost (over-lent ν f y k)) = refl
  own_same (e-cut (over-lent ν f y k)) = refl
  own_same (e-early x3) = elim x3 [ ]
  own_same (e-room x4) = elim x4 [ ]

  good-own : (v : Slice room n long) (j : ℕ) → j < v.mark → good_node v.words j ≡ true
  good-own v j h = good-of-node v.words j (same-node (own_words room n v.words) v.words j (λ x l. sym (own-word room v.words v.mark v.top n v.fits j x h l)) (v.filled.node j h))

  left-sound : {v : Slice room n long} {r : Ran (Lending N)} {r' : Ran N} → Ends over-own v r r' → Leaves v.words v.mark r × Fitting v.mark r
  unfolding over-own
  left-sound {v} (e-ended {v' = v'} e (at-lent ν) h s) = (
    (
      e.more,
      own-kept room v.words v'.words v.mark v.top n v.fits (v'.even ∙ sym v.even) e.kept,
      record {
        fits = omega (arith, mark-fits room v'.words v'.mark v'.top n v'.fits, own-rows room v'.words);
        good = good-own v';
        subject = h.below;
        bound = λ x j q. option-below (s x) j q;
      },
    ),
    v'.fits,
  )
    where
      own-rows : (room : ℕ) (w : List ℕ) → rows (own_words room n w) ≤ rows w
      own-rows zero w = omega (arith, length-take (8 * n) w)
      own-rows (suc r) w = omega arith
  left-sound {v} (e-lost (over-lent {w = w} ν f y k)) = (own-kept room v.words w v.mark v.top n v.fits (y ∙ sym v.even) k, f)
  left-sound {v} (e-cut (over-lent {w = w} ν f y k)) = (own-kept room v.words w v.mark v.top n v.fits (y ∙ sym v.even) k, f)
  left-sound (e-early x3) = elim x3 [ ]
  left-sound (e-room x4) = elim x4 [ ]

  room-same : {v : Slice room n long} {r : Ran (Lending N)} {r' : Ran N} → Ends over-own v r r' → SameRoom room n r
  unfolding over-own
  room-same (e-ended e (at-lent ν) h s) = (refl, refl)
  room-same (e-lost (over-lent ν f y k)) = (refl, refl)
  room-same (e-cut (over-lent ν f y k)) = (refl, refl)
  room-same (e-early x3) = elim x3 [ ]
  room-same (e-room x4) = elim x4 [ ]

-- a visit over a lent slice that fits, with good nodes
module _ {N : Type 0} (Λ : Notes N) (T : Table) (makeable : Makeable Holdable T) (room n : ℕ) (w : List ℕ) (m t : ℕ) (fits : FitsRoom room w m t n) (good : (k : ℕ) → k < m → Node w k)
    (b : Bindings ℕ) (bound : (v j : ℕ) → b v ≡ some j → j < m) (k : ℕ) (below : k < m) where
  start : Slice room n (length w)
  start = record { words = w; mark = m; top = t; fits = fits; filled = filled-own room w m t n fits good; even = refl }

  bound-same : BRel (slices room n (length w)) start b b
  unfolding start
  bound-same v = go (b v) (bound v)
    where
      go : (o : Option ℕ) → ((j : ℕ) → o ≡ some j → j < m) → ORel (slices room n (length w)) start o o
      go none f = o-none
      go (some j) f = o-some {h = j} (record { is = refl; below = f j refl })

  lent-ends : (q : Visit ℕ) → QRel (slices room n (length w)) start q q → (d : ℕ) (ν : N) (u : ℕ)
      → Ends (over-own room n (length w) Λ) start (run (lent Λ) (does T) d q (on w m (lending ν room t n)) u) (run (beneath room Λ) (does T) d q (on (own_words room n w) m ν) u)
  unfolding over-own start
  lent-ends q r d ν u = simulates (over-own room n (length w) Λ) T makeable d start q q _ _ u r (at-lent ν)

  -- what it leaves: of an entry applied, and of a pattern built
  pub apply-left : (e d : ℕ) (ν : N) (u : ℕ) → Leaves w m (run (lent Λ) (does T) d (apply e k b) (on w m (lending ν room t n)) u)
      × Fitting m (run (lent Λ) (does T) d (apply e k b) (on w m (lending ν room t n)) u)
  unfolding start
  apply-left e d ν u = left-sound room n (length w) Λ (lent-ends (apply e k b) (q-apply (record { is = refl; below = below }) bound-same) d ν u)

  pub build-left : (p d : ℕ) (ν : N) (u : ℕ) → Leaves w m (run (lent Λ) (does T) d (build p k b) (on w m (lending ν room t n)) u)
      × Fitting m (run (lent Λ) (does T) d (build p k b) (on w m (lending ν room t n)) u)
  unfolding start
  build-left p d ν u = left-sound room n (length w) Λ (lent-ends (build p k b) (q-build (record { is = refl; below = below }) bound-same) d ν u)

  pub apply-same-room : (e d : ℕ) (ν : N) (u : ℕ) → SameRoom room n (run (lent Λ) (does T) d (apply e k b) (on w m (lending ν room t n)) u)
  unfolding start
  apply-same-room e d ν u = room-same room n (length w) Λ (lent-ends (apply e k b) (q-apply (record { is = refl; below = below }) bound-same) d ν u)

  -- over the store's own words it is the run beneath
  own-ran : (e d : ℕ) (ν : N) (u : ℕ) → own_ran room n (run (lent Λ) (does T) d (apply e k b) (on w m (lending ν room t n)) u)
      ≡ run (beneath room Λ) (does T) d (apply e k b) (on (own_words room n w) m ν) u
  unfolding start
  own-ran e d ν u = own_same room n (length w) Λ (lent-ends (apply e k b) (q-apply (record { is = refl; below = below }) bound-same) d ν u)

-- which is the plain store's
module _ {N : Type 0} (Λ : Notes N) (T : Table) (makeable : Makeable Holdable T) (b : Bindings ℕ) (k e d u : ℕ) (ν : N) where
  pub lent-is-plain : (r n : ℕ) (w : List ℕ) (m t : ℕ) → FitsRoom (suc r) w m t n → ((k : ℕ) → k < m → Node w k) → ((v j : ℕ) → b v ≡ some j → j < m) → k < m
      → own_ran (suc r) n (run (lent Λ) (does T) d (apply e k b) (on w m (lending ν (suc r) t n)) u) ≡ run (stored Λ) (does T) d (apply e k b) (on w m ν) u
  unfolding node_by full_for number_for state_for
  lent-is-plain r n w m t f g bound below = own-ran Λ T makeable (suc r) n w m t f g b bound k below e d ν u

  -- or, with an index, the variant's
  pub lent-is-shared : (n : ℕ) (w : List ℕ) (m t : ℕ) → FitsRoom 0 w m t n → ((k : ℕ) → k < m → Node w k) → ((v j : ℕ) → b v ≡ some j → j < m) → k < m
      → own_ran 0 n (run (lent Λ) (does T) d (apply e k b) (on w m (lending ν 0 t n)) u) ≡ run (shared Λ) (does T) d (apply e k b) (on (take (8 * n) w) m ν) u
  unfolding node_by
  lent-is-shared n w m t f g bound below = own-ran Λ T makeable 0 n w m t f g b bound k below e d ν u
