-- Two stores with the same nodes below the mark go together, and every node below the mark is one that may be had. So words from
-- the mark on are of no account, and what the given nodes and the patterns obey, the new nodes obey.
use mathlib.Core.Path.{◌≡◌, refl, ap, sym, ◌∙◌, subst, fun_ext}
use mathlib.Core.Bool.{Bool, true, false}
use mathlib.Core.Logic.{⊎_elim, inr}
use mathlib.Core.Option.{Option, none, some}
use mathlib.Core.List.{List, [], ◌∷◌, ◌++◌, append_assoc}
use Prim.Native.Nat.{ℕ, zero, suc, ◌+◌, ◌-◌, ◌*◌, ◌/◌, ◌≤◌, ◌<◌}
use native.Mathlib.Omega.{arith}
use lib.Dec.{leb}
use lib.ListN.{length, get_or, take, drop, length-take, length-append}
use lib.Seq.{take_at}
use borrow.Author.Tests.{leb-false}
use Rattle.words.specs.Words.{rows, put_row}
use Rattle.words.proofs.Rows.{length-put_row}
use Rattle.words.proofs.Tests.{below-or-from}
use Rattle.checks.specs.Good.{kind_of, argument_of, operand_count, constructor_of, child_count}
use Rattle.checks.specs.Signature.{Declared, entry_obeys, node_obeys}
use Rattle.checks.specs.Checked.{Checked}
use Rattle.checks.specs.Checked.{checked, table_checked_by}
use Rattle.checks.specs.Promises.{AllGood}
use Rattle.checks.proofs.Promises.{table_passes}
use Rattle.checks.proofs.Obeying.{entry_obeys_plain, node_obeys_plain}
use Rattle.meaning.specs.Bindings.{Bindings}
use Rattle.meaning.specs.Table.{PVAR, PCON, operands, table_by}
use Rattle.meaning.specs.Rules.{Visit, apply, does}
use Rattle.meaning.specs.Derivation.{what, Notes}
use Rattle.meaning.specs.Limits.{Store, ended, lost, cut, run}
use Rattle.meaning.specs.Store.{children, row, State, on, Left, rest, stored, named, bindings, Input, AcceptedBy, Ran, ran_by, deepest, Kept, Leaves}
use Rattle.meaning.specs.Shared.{full_for, number_for, state_for, finds}
use Rattle.meaning.specs.Above.{in_store, SameBelow, same_ended, same-lost, same-cut, AboveMark, Obeyed}
use Rattle.meaning.proofs.Tests.{impossible}
use Rattle.meaning.proofs.Alike.{Holdable, Makeable, Worlds, ORel, o-none, o-some, LRel, l_nil, l_cons, BRel, QRel, q-apply, q-match, q-build, q-compare}
use Rattle.meaning.proofs.Checked.{Filled, good-of-node, store-filled, inside, table-makeable}
use Rattle.meaning.proofs.Words.{kept_refl, kept_trans, kept_word, kept-children, kept-filled, Below, below_none, below_more}
use Rattle.meaning.proofs.Words.{children-below, length-row, new-kept, new-filled, new-constructor, new-count}
use Rattle.meaning.proofs.Simulates.{Makes, both-make, both-full, Simulation, Ends, e-ended, e-lost, e-cut, e-room, e-early, simulates}

pub kept-sym : {w w' : List ℕ} {m : ℕ} → Kept w m w' → Kept w' m w
kept-sym k = record { long = sym k.long; same = sym k.same }

-- a row put at the mark
take_put : (w r : List ℕ) (m : ℕ) → length r ≡ 8 → 8 * m + 8 ≤ length w → take (8 * (m + 1)) (put_row w m r) ≡ take (8 * m) w ++ r
unfolding put_row
take_put w r m e h =
    let l : length (take (8 * m) w ++ r) ≡ 8 * (m + 1) = simp (length-append, length-take) (omega arith) in
    ap (take (8 * (m + 1))) (sym (append_assoc (take (8 * m) w) r (drop (8 * m + 8) w))) ∙ take_at (take (8 * m) w ++ r) (drop (8 * m + 8) w) (8 * (m + 1)) l

pub put_same : {w w' : List ℕ} {m : ℕ} (r : List ℕ) → length r ≡ 8 → 8 * m + 8 ≤ length w → Kept w m w' → Kept (put_row w m r) (m + 1) (put_row w' m r)
put_same {w} {w'} {m} r e h k =
    let h' : 8 * m + 8 ≤ length w' = omega (arith, k.long) in
    record { long = length-put_row w' m r h' e ∙ k.long ∙ sym (length-put_row w m r h e); same = take_put w' r m e h' ∙ ap (λ l. l ++ r) k.same ∙ sym (take_put w r m e h) }

-- how a store finds a node instead of making it: what tells it, and what its nodes own, which a node that is not found keeps so
pub record Finding : Type 1 where
  pub node : (w r : List ℕ) (m : ℕ) → Option ℕ
  pub told : {w w' : List ℕ} {m : ℕ} (r : List ℕ) → Kept w m w' → node w' r m ≡ node w r m
  pub below : (w r : List ℕ) (m k : ℕ) → node w r m ≡ some k → k < m
  pub Own : List ℕ → ℕ → Type 0
  pub own-kept : {w w' : List ℕ} {m : ℕ} → Kept w m w' → Own w m → Own w' m
  pub own_put : (w r : List ℕ) (m : ℕ) → 8 * m + 8 ≤ length w → length r ≡ 8 → node w r m ≡ none → Own w m → Own (put_row w m r) (m + 1)

-- the store that finds its nodes so
abbrev pub finding : Finding → {N : Type 0} → Notes N → Store ℕ (Visit ℕ) (State N) (Left N)
finding F Λ = finds F.node Λ

-- the run of such a store
abbrev pub found_by : ℕ → Finding → {N : Type 0} → Notes N → N → Input → Ran N
found_by W F Λ ν i = run (finding F Λ) (does (table_by W i.table)) deepest (apply i.start i.subject (bindings i.bindings)) (on i.store i.mark ν) i.units

-- the plain store finds none; it is the store itself
none-some : {k : ℕ} → none ≡ some k → ⊥
none-some e = impossible (cc)

abbrev plain : Finding
plain = record { node = λ w r m. none; told = λ r k. refl; below = λ w r m k e. absurd (none-some e); Own = λ w m. Unit {0}; own-kept = λ k o. o; own_put = λ w r m h l e o. o }

is_plain : (W : ℕ) {N : Type 0} (Λ : Notes N) (ν : N) (i : Input) → found_by W plain Λ ν i ≡ ran_by W Λ ν i
unfolding ran_by full_for number_for state_for
is_plain W Λ ν i = refl

-- which constructor and count a node may have; a store can hold such nodes
module _ (Had : ℕ → ℕ → Type 0) (held : (c n : ℕ) → Had c n → Holdable c n) (F : Finding) where
  -- every node below the mark is one that may be had
  abbrev Each : List ℕ → ℕ → Type 0
  Each w m = (k : ℕ) → k < m → Had (constructor_of w k) (child_count w k)

  kept-each : {w w' : List ℕ} {m : ℕ} → Kept w m w' → Each w m → Each w' m
  kept-each {w} {w'} {m} p f k l = rw (kept_word p k 0 l (omega arith), kept_word p k 1 l (omega arith)) (f k l)

  -- two stores with the same nodes below the mark
  record Pair : Type 0 where
    words : List ℕ
    words' : List ℕ
    mark : ℕ
    filled : Filled words mark
    each : Each words mark
    own : F.Own words mark
    same : Kept words mark words'

  record Later (v v' : Pair) : Type 0 where
    more : v.mark ≤ v'.mark
    kept : Kept v.words v.mark v'.words
    kept' : Kept v.words' v.mark v'.words'

  -- the same node, in use
  record Same (v : Pair) (h g : ℕ) : Type 0 where
    is : h ≡ g
    below : h < v.mark

  abbrev pairs : Worlds ℕ ℕ
  pairs = record {
    Had = Had;
    World = Pair;
    Ext = Later;
    ext_refl = λ v. record { more = omega arith; kept = kept_refl _ _; kept' = kept_refl _ _ };
    ext_trans = λ {u} {v} {w} e f. record { more = omega (arith, e.more, f.more); kept = kept_trans e.more e.kept f.kept; kept' = kept_trans e.more e.kept' f.kept' };
    Rel = Same;
    grow = λ {v} {w} e r. record { is = r.is; below = omega (arith, e.more, r.below) };
  }

  same-list : (v : Pair) {k : ℕ} {l : List ℕ} → Below k l → k ≤ v.mark → LRel pairs v l l
  same-list v below_none h = l_nil
  same-list v (below_more {j = j} i b) h = l_cons {h = j} (record { is = refl; below = omega arith }) (same-list v b h)

  list_same : {v : Pair} {hs gs : List ℕ} → LRel pairs v hs gs → hs ≡ gs
  list_same l_nil = refl
  list_same (l_cons r l) = λ i. r.is i ∷ list_same l i

  list-below : {v : Pair} {hs gs : List ℕ} → LRel pairs v hs gs → Below v.mark hs
  list-below l_nil = below_none
  list-below (l_cons r l) = below_more r.below (list-below l)

  same-what : {v : Pair} {q q' : Visit ℕ} → QRel pairs v q q' → what q ≡ what q'
  unfolding what
  same-what (q-apply r s) = refl
  same-what (q-match r s) = refl
  same-what (q-build r s) = refl
  same-what (q-compare r r' s) = refl

  -- one node more, in the first store
  module _ (w : List ℕ) (m c : ℕ) (hs : List ℕ) (o : Had c (length hs)) (room : 8 * m + 8 ≤ length w) where
    new-each : Each w m → Each (put_row w m (row c hs)) (m + 1)
    new-each f k l =
        ⊎_elim (λ h. kept-each (new-kept w m c hs (held c (length hs) o) room) f k h)
        (λ h. subst (λ k. Had (constructor_of (put_row w m (row c hs)) k) (child_count (put_row w m (row c hs)) k)) (let e : m ≡ k = omega arith in e)
        (rw (new-constructor w m c hs (held c (length hs) o) room, new-count w m c hs (held c (length hs) o) room) o))
        (below-or-from k m)

  abbrev grown : (v : Pair) (c : ℕ) (hs : List ℕ) → Had c (length hs) → Below v.mark hs → 8 * v.mark + 8 ≤ length v.words → F.node v.words (row c hs) v.mark ≡ none → Pair
  grown v c hs o b fits absent = record {
    words = put_row v.words v.mark (row c hs);
    words' = put_row v.words' v.mark (row c hs);
    mark = v.mark + 1;
    filled = new-filled v.words v.mark c hs (held c (length hs) o) fits b v.filled;
    each = new-each v.words v.mark c hs o fits v.each;
    own = F.own_put v.words (row c hs) v.mark fits (length-row c hs (held c (length hs) o).count) absent v.own;
    same = put_same (row c hs) (length-row c hs (held c (length hs) o).count) fits v.same;
  }

  abbrev backed : (v : Pair) (w w' : List ℕ) → Kept v.words v.mark w → Kept v.words' v.mark w' → Pair
  backed v w w' k k' =
      record {
        words = w;
        words' = w';
        mark = v.mark;
        filled = kept-filled k v.filled;
        each = kept-each k v.each;
        own =
            F.own-kept k v.own;
        same = kept_trans (omega arith) (kept-sym k) (kept_trans (omega arith) v.same k');
      }

  module _ {N : Type 0} (Λ : Notes N) where
    data At (v : Pair) : State N → State N → Type 0 where
      at_both : (ν : N) → At v (on v.words v.mark ν) (on v.words' v.mark ν)

    record Over (v : Pair) (l l' : Left N) : Type 0 where
      kept : Kept v.words v.mark l.words
      kept' : Kept v.words' v.mark l'.words
      notes : l.notes ≡ l'.notes

    below-mark : Simulation pairs (finding F Λ) (finding F Λ) ⊥ ⊥
    unfolding full_for number_for state_for
    below-mark = record {
      At = At;
      Over = Over;
      same-con = con;
      same-kids = kids;
      holds = holds;
      makes = makes;
      leaves = leaves;
      sooner = λ e o. record { kept = kept_trans e.more e.kept o.kept; kept' = kept_trans e.more e.kept' o.kept'; notes = o.notes };
      backs = backs;
      misses = λ p a. misses p a;
      begins = begins;
      ends = ends;
      fails = λ {v} {l} {l'} q o. record { kept = o.kept; kept' = o.kept'; notes = (λ i. Λ.ends (same-what q i) false (o.notes i)) };
    }
      where
        con : {v : Pair} {s s' : State N} {h g : ℕ} → At v s s' → Same v h g → constructor_of s.words h ≡ constructor_of s'.words g
        con {v} {h = h} (at_both ν) r = sym (kept_word v.same h 0 r.below (omega arith)) ∙ ap (constructor_of v.words') r.is

        kids : {v : Pair} {s s' : State N} {h g : ℕ} → At v s s' → Same v h g → LRel pairs v (children s.words h) (children s'.words g)
        kids {v} {h = h} (at_both ν) r =
            subst (LRel pairs v (children v.words h)) (sym (kept-children v.same h r.below) ∙ ap (children v.words') r.is)
            (same-list v (children-below (v.filled.node h r.below)) (omega (arith, r.below)))

        holds : {v : Pair} {s s' : State N} {h g : ℕ} → At v s s' → Same v h g → Had (constructor_of s.words h) (length (children s.words h))
        holds {v} {h = h} (at_both ν) r =
            let few : child_count v.words h ≤ 6 = (v.filled.node h r.below).holdable.count in
            let e : child_count v.words h ≡ length (children v.words h) = simp length-take (omega arith) in
            subst (Had (constructor_of v.words h)) e (v.each h r.below)

        makes : {v : Pair} {s s' : State N} (c : ℕ) (hs gs : List ℕ) → At v s s' → Had c (length hs) → LRel pairs v hs gs → Makes pairs (finding F Λ) (finding F Λ) ⊥ ⊥ At v s s' c hs gs
        makes {v} c hs gs (at_both ν) o l = go (F.node v.words (row c hs) v.mark) refl (leb (rows v.words) v.mark) refl
          where
            there : (t : Option ℕ) → F.node v.words (row c hs) v.mark ≡ t → F.node v.words' (row c gs) v.mark ≡ t
            there t e = ap (λ ks. F.node v.words' (row c ks) v.mark) (sym (list_same l)) ∙ F.told (row c hs) v.same ∙ e

            again : (t : Bool) → leb (rows v.words) v.mark ≡ t → leb (rows v.words') v.mark ≡ t
            again t e = ap (λ (n : ℕ). leb (n / 8) v.mark) v.same.long ∙ e

            go : (f : Option ℕ) → F.node v.words (row c hs) v.mark ≡ f → (t : Bool) → leb (rows v.words) v.mark ≡ t
                → Makes pairs (finding F Λ) (finding F Λ) ⊥ ⊥ At v (on v.words v.mark ν) (on v.words' v.mark ν) c hs gs
            go (some k) f t e =
                both-make {v' = v} (rw f) (rw (there (some k) f)) (pairs.ext_refl v) (rw (f, there (some k) f) (at_both ν))
                (rw (f, there (some k) f) (record { is = refl; below = F.below v.words (row c hs) v.mark k f }))
            go none f true e = both-full (rw f e) (rw (there none f) (again true e))
            go none f false e =
                let fits : 8 * v.mark + 8 ≤ length v.words = omega (arith, leb-false (rows v.words) v.mark e) in
                let fits' : 8 * v.mark + 8 ≤ length v.words' = omega (arith, v.same.long) in
                both-make {v' = grown v c hs o (list-below l) fits f} (rw f e) (rw (there none f) (again false e))
                (record { more = omega arith; kept = new-kept v.words v.mark c hs (held c (length hs) o) fits; kept' = new-kept v.words' v.mark c hs (held c (length hs) o) fits' })
                (rw (f, there none f) (subst (λ ks. At (grown v c hs o (list-below l) fits f)
                (on (put_row v.words v.mark (row c hs)) (v.mark + 1) ν)
                (on (put_row v.words' v.mark (row c ks)) (v.mark + 1) ν)) (list_same l) (at_both ν)))
                (rw (f, there none f) (record { is = refl; below = omega arith }))

        leaves : {v : Pair} {s s' : State N} → At v s s' → Over v (rest s.words s.notes) (rest s'.words s'.notes)
        leaves (at_both ν) = record { kept = kept_refl _ _; kept' = kept_refl _ _; notes = refl }

        backs : {v : Pair} {s s' : State N} {l l' : Left N} → At v s s' → Over v l l' → (v' : Pair) × Later v v' × At v' (on l.words s.mark l.notes) (on l'.words s'.mark l'.notes)
        backs {v} {l = l} {l' = l'} (at_both ν) o = (
          backed v l.words l'.words o.kept o.kept',
          record { more = omega arith; kept = o.kept; kept' = o.kept' },
          subst (λ ν'. At (backed v l.words l'.words o.kept o.kept') (on l.words v.mark l.notes) (on l'.words v.mark ν')) o.notes (at_both l.notes),
        )

        misses : {v : Pair} {s s' : State N} (p : ℕ) → At v s s' → At v ((stored Λ).missed p s) ((stored Λ).missed p s')
        misses p (at_both ν) = at_both (Λ.missed p ν)

        begins : {v : Pair} {s s' : State N} {q q' : Visit ℕ} → QRel pairs v q q' → At v s s' → At v ((stored Λ).begins q s) ((stored Λ).begins q' s')
        begins {v} {q = q} r (at_both ν) = subst (λ w. At v (on v.words v.mark (Λ.begins (what q) ν)) (on v.words' v.mark (Λ.begins w ν))) (same-what r) (at_both _)

        ends : {v v' : Pair} {s s' : State N} {q q' : Visit ℕ} → QRel pairs v q q' → At v' s s' → At v' ((stored Λ).ends q s) ((stored Λ).ends q' s')
        ends {v' = v} {q = q} r (at_both ν) = subst (λ w. At v (on v.words v.mark (Λ.ends (what q) true ν)) (on v.words' v.mark (Λ.ends w true ν))) (same-what r) (at_both _)

    -- what ends alike is the same below the mark
    option-same : {v : Pair} {o o' : Option ℕ} → ORel pairs v o o' → o ≡ o'
    option-same o-none = refl
    option-same (o-some r) = ap some r.is

    same-below : {v : Pair} {r r' : Ran N} → Ends below-mark v r r' → SameBelow r r'
    unfolding below-mark
    same-below (e-ended {v' = v} {h = h} {b = b} {c = c} {u = u} e (at_both ν) n s) =
        subst (λ (k : ℕ). SameBelow (ended h b (on v.words v.mark ν) u) (ended k c (on v.words' v.mark ν) u)) n.is
        (subst (λ (c : Bindings ℕ). SameBelow (ended h b (on v.words v.mark ν) u) (ended h c (on v.words' v.mark ν) u)) (fun_ext (λ x. option-same (s x)))
        (same_ended v.same))
    same-below (e-lost {l = l} {l' = l'} {u = u} o) = subst (λ ν. SameBelow (lost l u) (lost (rest l'.words ν) u)) o.notes same-lost
    same-below (e-cut {x = x} {l = l} {l' = l'} {u = u} o) = subst (λ ν. SameBelow (cut x l u) (cut x (rest l'.words ν) u)) o.notes same-cut
    same-below (e-early x3) = elim x3 [ ]
    same-below (e-room x4) = elim x4 [ ]

    -- every node below the mark of a done run is one that may be had
    each_left : {v : Pair} {r r' : Ran N} → Ends below-mark v r r' → (k u : ℕ) (b : Bindings ℕ) (s : State N) → r ≡ ended k b s u → Each s.words s.mark
    unfolding below-mark
    each_left (e-ended {v' = v} e (at_both ν) n s) k u b t q = let z : on v.words v.mark ν ≡ t = cc in subst (λ (t : State N). Each t.words t.mark) z v.each
    each_left (e-lost o) k u b t q = impossible (cc)
    each_left (e-cut o) k u b t q = impossible (cc)
    each_left (e-early x4) k u b t q = elim x4 [ ]
    each_left (e-room x5) k u b t q = elim x5 [ ]

    -- so is what they own
    own-left : {v : Pair} {r r' : Ran N} → Ends below-mark v r r' → (k u : ℕ) (b : Bindings ℕ) (s : State N) → r ≡ ended k b s u → Filled s.words s.mark × F.Own s.words s.mark
    unfolding below-mark
    own-left (e-ended {v' = v} e (at_both ν) n s) k u b t q =
        let z : on v.words v.mark ν ≡ t = cc in subst (λ (t : State N). Filled t.words t.mark × F.Own t.words t.mark) z
        (v.filled, v.own)
    own-left (e-lost o) k u b t q = impossible (cc)
    own-left (e-cut o) k u b t q = impossible (cc)
    own-left (e-early x4) k u b t q = elim x4 [ ]
    own-left (e-room x5) k u b t q = elim x5 [ ]

    -- and a good store is left
    option-below : {v : Pair} {o o' : Option ℕ} → ORel pairs v o o' → (j : ℕ) → o ≡ some j → j < v.mark
    option-below o-none j e = impossible (cc)
    option-below (o-some {h = k} n) j e = let z : k ≡ j = cc in omega (arith, n.below)

    left-sound : {v : Pair} {r r' : Ran N} → Ends below-mark v r r' → Leaves v.words v.mark r
    unfolding below-mark
    left-sound (e-ended {v' = v'} e (at_both ν) n s) =
        (e.more, e.kept, record { fits = v'.filled.fits; good = λ j h. good-of-node v'.words j (v'.filled.node j h); subject = n.below; bound = λ x j q. option-below (s x) j q })
    left-sound (e-lost o) = o.kept
    left-sound (e-cut o) = o.kept
    left-sound (e-early x3) = elim x3 [ ]
    left-sound (e-room x4) = elim x4 [ ]

    -- the run of an accepted input, and of another store with the same nodes
    both : (W : ℕ) (i : Input) (w : List ℕ) (ν : N) → AcceptedBy W i → Makeable Had (table_by W i.table) → Each i.store i.mark → F.Own i.store i.mark → (k : Kept i.store i.mark w)
        → (v : Pair) × (v.words ≡ i.store) × (v.mark ≡ i.mark) × Ends below-mark v (found_by W F Λ ν i) (found_by W F Λ ν (in_store i w))
    unfolding bindings named below-mark
    both W i w ν a mk f y k = (
      start,
      refl,
      refl,
      simulates below-mark (table_by W i.table) mk deepest start _ _ _ _ i.units
          (q-apply (record { is = refl; below = a.subject }) bound) (at_both ν),
    )
      where
        start : Pair
        start = record { words = i.store; words' = w; mark = i.mark; filled = store-filled i.store i.mark a.store; each = f; own = y; same = k }

        bound : BRel pairs start (λ v. named (get_or i.bindings v 0)) (λ v. named (get_or i.bindings v 0))
        bound x = go (get_or i.bindings x 0) (a.bound x)
          where
            go : (n : ℕ) → n ≤ i.mark → ORel pairs start (named n) (named n)
            go zero h = o-none
            go (suc n) h = o-some {h = n} (record { is = refl; below = omega arith })

-- the run of an accepted input whose nodes own what they are to, and of another store with the same nodes
module _ (F : Finding) {N : Type 0} (Λ : Notes N) (W : ℕ) (i : Input) (w : List ℕ) (ν : N) (a : AcceptedBy W i) (o : F.Own i.store i.mark) (k : Kept i.store i.mark w) where
  beside-itself : (v : Pair Holdable (λ c n o. o) F) × (v.words ≡ i.store) × (v.mark ≡ i.mark) × Ends (below-mark Holdable (λ c n o. o) F Λ) v (found_by W F Λ ν i) (found_by W F Λ ν (in_store i w))
  beside-itself = both Holdable (λ c n o. o) F Λ W i w ν a (table-makeable W i.table a.table) (λ j l. ((store-filled i.store i.mark a.store).node j l).holdable) o k

  pub found-above : SameBelow (found_by W F Λ ν i) (found_by W F Λ ν (in_store i w))
  found-above = same-below Holdable (λ c n o. o) F Λ beside-itself.3

  pub found-owns : (k u : ℕ) (b : Bindings ℕ) (s : State N) → found_by W F Λ ν i ≡ ended k b s u → Filled s.words s.mark × F.Own s.words s.mark
  found-owns = own-left Holdable (λ c n o. o) F Λ beside-itself.3

  pub found-leaves : Leaves i.store i.mark (found_by W F Λ ν i)
  found-leaves =
      subst (λ w. Leaves w i.mark (found_by W F Λ ν i)) beside-itself.1
      (subst (λ m. Leaves beside-itself.0.words m (found_by W F Λ ν i)) beside-itself.2
      (left-sound Holdable (λ c n o. o) F Λ beside-itself.3))

pub above-mark : AboveMark
above-mark W N Λ ν i w a k =
    subst (λ r. SameBelow r (ran_by W Λ ν (in_store i w))) (is_plain W Λ ν i)
    (subst (SameBelow (found_by W plain Λ ν i)) (is_plain W Λ ν (in_store i w)) (found-above plain Λ W i w ν a tt k))

-- ---- a signature

-- a store can hold the node, and the signature g declares it
record Lawful (g : List ℕ) (c n : ℕ) : Type 0 where
  holdable : Holdable c n
  declared : Declared g c n

module _ (W : ℕ) (g t : List ℕ) (c : table_checked_by W t ≡ checked 0 0) (o : AllGood (entry_obeys g t) (rows t)) where
  -- a PCON's constructor is declared with its operand count
  pattern-declared : (e : ℕ) → kind_of t e ≡ 19 → Declared g (argument_of t e) (operand_count t e)
  pattern-declared e k =
      let i : e < rows t = inside t e ((table_passes W t).0 (ap (λ (c : Checked). c.answer) c)).0.whole (omega arith) in
      (entry_obeys_plain g t e).0 (o e i) (inr k)

  table-lawful : Makeable (Lawful g) (table_by W t)
  unfolding table_by
  table-lawful e a ps q = record { holdable = table-makeable W t c e a ps q; declared = go (kind_of t e - 18) refl q }
    where
      go : (n : ℕ) → kind_of t e - 18 ≡ n → get_or (PVAR (argument_of t e) ∷ PCON (argument_of t e) (operands t e) ∷ []) n (PVAR 0) ≡ PCON a ps → Declared g a (length ps)
      go zero k q = impossible (cc)
      go (suc zero) k q =
          let x : argument_of t e ≡ a = cc in
          let y : operands t e ≡ ps = cc in
          let d : Declared g (argument_of t e) (operand_count t e) = pattern-declared e (omega arith) in
          let few : operand_count t e < 7 = d.known in
          let l : operand_count t e ≡ length ps = rw (← y) (simp length-take (omega arith)) in
          subst (λ n. Declared g a n) l (subst (λ a. Declared g a (operand_count t e)) x d)
      go (suc (suc n)) k q = impossible (cc)

pub found-obeys : (F : Finding) (W : ℕ) (N : Type 0) (Λ : Notes N) (ν : N) (i : Input) (g : List ℕ) → AcceptedBy W i → F.Own i.store i.mark
    → AllGood (entry_obeys g i.table) (rows i.table) → AllGood (node_obeys g i.store) i.mark
    → (k u : ℕ) (b : Bindings ℕ) (s : State N) → found_by W F Λ ν i ≡ ended k b s u → AllGood (node_obeys g s.words) s.mark
found-obeys F W N Λ ν i g a own entries nodes k u b s e j l =
    (node_obeys_plain g s.words j).1
    (each_left (Lawful g) (λ c n o. o.holdable) F Λ
    (both (Lawful g) (λ c n o. o.holdable) F Λ W i i.store ν a (table-lawful W g i.table a.table entries) given own (kept_refl i.store i.mark)).3 k u b s e j l).declared
  where
    given : (j : ℕ) → j < i.mark → Lawful g (constructor_of i.store j) (child_count i.store j)
    given j l = record { holdable = ((store-filled i.store i.mark a.store).node j l).holdable; declared = (node_obeys_plain g i.store j).0 (nodes j l) }

pub obeyed : Obeyed
obeyed W N Λ ν i g a entries nodes k u b s e = found-obeys plain W N Λ ν i g a tt entries nodes k u b s (is_plain W Λ ν i ∙ e)
