-- The list of frames as it is written, and what a turn does to what the machine stands for. Assumes nothing.
use mathlib.Core.Path.{◌≡◌, refl, ap, sym, ◌∙◌, subst, fun_ext}
use mathlib.Core.Bool.{Bool, true, false}
use mathlib.Core.Logic.{inl, inr, ⊎_elim}
use mathlib.Core.Option.{Option, none, some}
use mathlib.Core.List.{List, [], ◌∷◌}
use Prim.Native.Nat.{ℕ, zero, suc, ◌+◌, ◌-◌, ◌*◌, ◌%◌, ◌^◌, ◌<◌, ◌≤◌}
use native.Mathlib.Omega.{arith}
use native.Mathlib.Numerals.{add-one}
use borrow.Author.Tests.{le-leb, lt-leb, lt-ltb, le-ltb}
use lib.Bits.{bit_and, bit_or}
use lib.Dec.{leb}
use lib.ListN.{length, get_or, set, length-set}
use lib.Seq.{get_or-set_other}
use Rattle.words.specs.Words.{rows, put_row}
use Rattle.std.specs.Prelude.{if◌then◌else◌}
use Rattle.words.proofs.Tests.{below-or-from}
use Rattle.meaning.specs.Bindings.{Bindings, bind, has, masked}
use Rattle.meaning.specs.Table.{table}
use Rattle.meaning.specs.Plan.{ret, fail, miss, stuck, look, make, ask}
use Rattle.meaning.specs.Rules.{Do, does}
use Rattle.meaning.specs.Derivation.{What, Event, history}
use Rattle.meaning.specs.Limits.{Res, ended, lost, cut, room, unbound}
use Rattle.meaning.specs.Steps.{over, roomy, advance, settle}
use Rattle.meaning.specs.Store.{State as Store, Left, on, rest, row}
use Rattle.meaning.specs.Shared.{full_for, number_for, state_for, store_by}
use Rattle.turns.specs.declared.turn.Asked.{Asked}
use Rattle.turns.specs.declared.turn.Turn.{Turn}
use Rattle.turns.specs.declared.turn.Turn.TheVariants.{Done, Failed, Missed, Stuck, Bound, Unscope}
use Rattle.turns.specs.Ways.{record_from, held_at, kids, Frame, way_of, visit_of, hiding, asked_of, opened, asking, plan_of, looked}
use Rattle.machine.specs.declared.Machine.{Machine}
use Rattle.machine.specs.Stack.{row_at, frame_at, mask_at, kept_at, present, way_at, mark_at, Noted, Open, Run, whats_of, Pending, Stack}
use Rattle.machine.specs.Stack.{Asks, Ends, Stands}
use Rattle.machine.specs.Machine.{Lent, Copied, Opened, standing_for, Node, Moved, kept_by, Carried}
use Rattle.machine.proofs.Holding.{held_same, held-bind, held-hidden, held-unscoped}
use Rattle.machine.proofs.Rowing.{row_same}

-- the frames below frame i are as they were
module _ (t k k' : List ℕ) (i : ℕ) (below : (j : ℕ) → j < 80 * i → get_or k' j 0 ≡ get_or k j 0) where
  way_same : (m : ℕ) → m < i → way_of t (frame_at k' (10 * m)) (kept_at k' (10 * m)) ≡ way_of t (frame_at k (10 * m)) (kept_at k (10 * m))
  way_same m h =
      let a : row_at k' (10 * m) ≡ row_at k (10 * m) = row_same k' k (10 * m) (10 * m) (λ j l. below (8 * (10 * m) + j) (omega arith)) in
      let b : row_at k' (10 * m + 1) ≡ row_at k (10 * m + 1) = row_same k' k (10 * m + 1) (10 * m + 1) (λ j l. below (8 * (10 * m + 1) + j) (omega arith)) in
      let c : row_at k' (10 * m + 2) ≡ row_at k (10 * m + 2) = row_same k' k (10 * m + 2) (10 * m + 2) (λ j l. below (8 * (10 * m + 2) + j) (omega arith)) in
      (λ z. way_of t (record {
        what = get_or (a z) 0 0;
        x = get_or (a z) 1 0;
        y = get_or (a z) 2 0;
        at = get_or (a z) 3 0 % 8;
        row = b z;
        other = c z;
      }) (held_at k' (8 * (10 * m + 2)) (get_or (a z) 5 0 + 4294967296 * get_or (a z) 6 0)))
      ∙ ap (λ b. way_of t (frame_at k (10 * m)) b) (held_same k k' (8 * (10 * m + 2)) (8 * (10 * m + 2)) (mask_at k (10 * m))
      (λ v l _. below (8 * (10 * m + 2) + v) (omega arith)))

  pending-stable : (n : ℕ) (f : Open) → n ≤ i → Pending t k n f → Pending t k' n f
  unfolding way_at mark_at
  pending-stable zero f h p = record { left = p.left; ways = λ l. p.ways l; mark = λ l z. absurd (omega arith) }
  pending-stable (suc m) f h p = record {
    left = p.left;
    ways = λ l. p.ways l ∙ sym (way_same m (omega arith));
    mark = λ l z. p.mark l z ∙ sym (below (8 * (10 * m) + 4) (omega arith));
  }

  pub stable : (n : ℕ) (fs : List Open) → n ≤ suc i → Stack t k n fs → Stack t k' n fs
  stable zero [] h s = s
  stable zero (f ∷ fs) h s = s
  stable (suc n) [] h s = s
  stable (suc n) (f ∷ fs) h s = (pending-stable n f (omega arith) s.0, stable n fs (omega arith) s.1)

-- a plan goes on as what it is once it has looked
module _ (sh : Bool) (t : List ℕ) (fs : List Open) (n : ℕ) (w : List ℕ) (m : ℕ) (a : Noted) (u : ℕ) where
  abbrev goes : Do ℕ → Run
  goes p = advance (store_by sh history) (does (table t)) (settle (store_by sh history) (does (table t)) fs) n fs p (on w m a) u

  looks : (p : Do ℕ) → goes p ≡ goes (looked w p)
  unfolding looked advance
  looks (ret h b) = refl
  looks fail = refl
  looks (miss p) = refl
  looks (stuck v) = refl
  looks (look h k) = looks (k _ _)
  looks (make c hs k) = refl
  looks (ask t q k p) = refl

  pub goes_on : (X : Run) (p q : Do ℕ) → X ≡ goes p → q ≡ looked w p → X ≡ goes q
  goes_on X p q e h = e ∙ looks p ∙ ap goes (sym h)

-- what the machine stands for, by its mode
pub stands-asked : {sh : Bool} {t : List ℕ} {m : Machine} {w k : List ℕ} {es : List What} {log : List Event} {X : Run} → m.mode < 4
    → Asks t k m.level es (visit_of m.mode m.x m.y (present k m)) (on w m.mark (m.place, log)) m.fuel X
    → Stands sh t m w k es log X
stands-asked h a = record {
  known = omega arith;
  asked = λ _. a;
  succeeded = λ e. absurd (omega arith);
  failed = λ e. absurd (omega arith);
  full = λ e. absurd (omega arith);
  stuck = λ e. absurd (omega arith);
}

pub stands-succeeded : {sh : Bool} {t : List ℕ} {m : Machine} {w k : List ℕ} {es : List What} {log : List Event} {X : Run} → m.mode ≡ 4
    → Ends sh t k (suc m.level) es (ended m.y (present k m) (on w m.mark (m.place, log)) m.fuel) X
    → Stands sh t m w k es log X
stands-succeeded h a = record {
  known = omega arith;
  asked = λ e. absurd (omega arith);
  succeeded = λ _. a;
  failed = λ e. absurd (omega arith);
  full = λ e. absurd (omega arith);
  stuck = λ e. absurd (omega arith);
}

pub stands-failed : {sh : Bool} {t : List ℕ} {m : Machine} {w k : List ℕ} {es : List What} {log : List Event} {X : Run} → m.mode ≡ 5
    → Ends sh t k (suc m.level) es (lost (rest w (m.place, log)) m.fuel) X → Stands sh t m w k es log X
stands-failed h a = record {
  known = omega arith;
  asked = λ e. absurd (omega arith);
  succeeded = λ e. absurd (omega arith);
  failed = λ _. a;
  full = λ e. absurd (omega arith);
  stuck = λ e. absurd (omega arith);
}

pub stands-full : {sh : Bool} {t : List ℕ} {m : Machine} {w k : List ℕ} {es : List What} {log : List Event} {X : Run} → m.mode ≡ 6
    → X ≡ over (cut room (rest w (m.place, log)) m.fuel) → Stands sh t m w k es log X
stands-full h a = record {
  known = omega arith;
  asked = λ e. absurd (omega arith);
  succeeded = λ e. absurd (omega arith);
  failed = λ e. absurd (omega arith);
  full = λ _. a;
  stuck = λ e. absurd (omega arith);
}

pub stands-stuck : {sh : Bool} {t : List ℕ} {m : Machine} {w k : List ℕ} {es : List What} {log : List Event} {X : Run} → m.mode ≡ 7
    → X ≡ over (cut (unbound m.x) (rest w (m.place, log)) m.fuel) → Stands sh t m w k es log X
stands-stuck h a = record {
  known = omega arith;
  asked = λ e. absurd (omega arith);
  succeeded = λ e. absurd (omega arith);
  failed = λ e. absurd (omega arith);
  full = λ e. absurd (omega arith);
  stuck = λ _. a;
}

-- the bindings of one list for those of the same
masked_same : (h : ℕ) (b : Bindings ℕ) → masked h b b ≡ b
unfolding masked
masked_same h b = fun_ext (λ v. go (has h v) (b v))
  where
    go : (c : Bool) (o : Option ℕ) → (if c then o else o) ≡ o
    go true o = refl
    go false o = refl

-- a turn of the visit after i others, in a list k of which only the record may change
module _ (sh : Bool) (t w k : List ℕ) (i : ℕ) (m : Machine) (r : Turn) (lent : Lent w k) where
  abbrev plan : Turn → Do ℕ
  plan a = plan_of t a (frame_at k (10 * i)) (opened t w m.x m.y (asked_of a)) (kept_by k m i) (present k m)

  by-turn : (log : List Event) {a : Turn} → r ≡ a → (X : Run) (fs : List Open) (n : ℕ) (p : Do ℕ)
      → X ≡ goes sh t fs n w m.mark (m.place, log) m.fuel p → plan r ≡ looked w p
      → X ≡ goes sh t fs n w m.mark (m.place, log) m.fuel (plan a)
  by-turn log {a} e X fs n p x q = goes_on sh t fs n w m.mark (m.place, log) m.fuel X p (plan a) x (ap plan (sym e) ∙ q)

  -- it succeeds with the node y, and c is bound
  pub carried-ret : {a : Turn} {y mask : ℕ} {c : Bindings ℕ} {m' : Machine} {k' : List ℕ} → i < 4096 → r ≡ a → plan a ≡ ret y c
      → m' ≡ record { x = 0; mode = 4; y = y; level = i; mark = m.mark; place = m.place; fuel = m.fuel; mask = mask }
      → length k' ≡ length k → ((j : ℕ) → j < record_from → get_or k' j 0 ≡ get_or k j 0) → held_at k' record_from mask ≡ c
      → Carried sh t w k i m r m' w k'
  unfolding advance
  carried-ret {a} {y} {mask} {c} {m'} {k'} few e z d l f b = record {
    lent = record { nodes = lent.nodes; small = lent.small; frames = omega (arith, lent.frames) };
    store = refl;
    work = l;
    moved = rw d (record { fuel = refl; deeper = λ h. absurd (omega arith); ended = λ _. refl });
    own = λ j g h. f j h;
    is = λ es log X fs n p ws s q x u. subst (λ m'. Stands sh t m' w k' es log X) (sym d) (stands-succeeded refl (record {
      frames = fs;
      is = by-turn log e X fs n p x u ∙ ap (goes sh t fs n w m.mark (m.place, log) m.fuel) (z ∙ ap (ret y) (sym b));
      stack = stable t k k' i (λ j h. f j (omega arith)) (suc i) fs (omega arith) s;
      whats = ws;
    }));
  }

  pub carried-failed : {m' : Machine} → r ≡ Failed → m' ≡ record {
    x = 0;
    mode = 5;
    y = 0;
    level = i;
    mark = m.mark;
    place = m.place;
    fuel = m.fuel;
    mask = m.mask;
  } → Carried sh t w k i m r m' w k
  unfolding plan_of advance
  carried-failed {m'} e d = record {
    lent = lent;
    store = refl;
    work = refl;
    moved = rw d (record { fuel = refl; deeper = λ h. absurd (omega arith); ended = λ _. refl });
    own = λ j g h. refl;
    is = λ es log X fs n p ws s q x u. subst (λ m'. Stands sh t m' w k es log X) (sym d)
        (stands-failed refl (record { frames = fs; is = by-turn log e X fs n p x u; stack = s; whats = ws }));
  }

  pub carried-missed : {p : ℕ} {m' : Machine} → r ≡ Missed p → m' ≡ record {
    x = 0;
    mode = 5;
    y = 0;
    level = i;
    mark = m.mark;
    place = p;
    fuel = m.fuel;
    mask = m.mask;
  } → Carried sh t w k i m r m' w k
  unfolding plan_of advance
  carried-missed {p} {m'} e d = record {
    lent = lent;
    store = refl;
    work = refl;
    moved = rw d (record { fuel = refl; deeper = λ h. absurd (omega arith); ended = λ _. refl });
    own = λ j g h. refl;
    is = λ es log X fs n q ws s r x u. subst (λ m'. Stands sh t m' w k es log X) (sym d)
        (stands-failed refl (record { frames = fs; is = by-turn log e X fs n q x u; stack = s; whats = ws }));
  }

  pub carried-stuck : {v : ℕ} {m' : Machine} → r ≡ Stuck v → m' ≡ record {
    x = v;
    mode = 7;
    y = 0;
    level = i;
    mark = m.mark;
    place = m.place;
    fuel = m.fuel;
    mask = m.mask;
  } → Carried sh t w k i m r m' w k
  unfolding plan_of advance
  carried-stuck {v} {m'} e d = record {
    lent = lent;
    store = refl;
    work = refl;
    moved = rw d (record { fuel = refl; deeper = λ h. absurd (omega arith); ended = λ _. refl });
    own = λ j g h. refl;
    is = λ es log X fs n p ws s q x u. subst (λ m'. Stands sh t m' w k es log X) (sym d) (stands-stuck refl (by-turn log e X fs n p x u));
  }

  pub carried-done : {y : ℕ} {m' : Machine} → i < 4096 → r ≡ Done y → m' ≡ record {
    x = 0;
    mode = 4;
    y = y;
    level = i;
    mark = m.mark;
    place = m.place;
    fuel = m.fuel;
    mask = m.mask;
  } → Carried sh t w k i m r m' w k
  unfolding plan_of
  carried-done l e d = carried-ret l e refl d refl (λ j h. refl) refl

  pub carried-bound : {x y v : ℕ} {m' : Machine} → i < 4096 → r ≡ Bound x y → v ≡ x % 64
      → m' ≡ record {
        x = 0;
        mode = 4;
        y = y;
        level = i;
        mark = m.mark;
        place = m.place;
        fuel = m.fuel;
        mask = bit_or m.mask (1 * 2 ^ v % 2 ^ 64);
      }
      → Carried sh t w k i m r m' w (set k (record_from + v) y)
  unfolding plan_of
  carried-bound {x} {y} {v} l e z d =
      carried-ret l e (ap (λ (v : ℕ). ret y (bind v y (present k m))) (sym z)) d (length-set k (record_from + v) y)
      (λ j h. get_or-set_other k (record_from + v) j y 0 (λ (g : j ≡ record_from + v). omega arith))
      (held-bind k record_from m.mask v y (omega arith) (omega (arith, lent.frames)))

  -- a scope ends
  pub carried-unscoped : {y h : ℕ} {m' : Machine} {kept mask : ℕ} {k' : List ℕ} → i < 4095 → r ≡ Unscope y h → h < 2 ^ 64
      → mask ≡ mask_at k (10 * i) → kept ≡ bit_and mask h
      → Copied k (8 * (10 * i + 2)) record_from kept k'
      → m' ≡ record {
        x = 0;
        mode = 4;
        y = y;
        level = i;
        mark = m.mark;
        place = m.place;
        fuel = m.fuel;
        mask = bit_or (bit_and m.mask (18446744073709551615 - h)) kept;
      }
      → Carried sh t w k i m r m' w k'
  unfolding plan_of
  carried-unscoped {y} {h} {m'} {kept} {mask} {k'} l e small z g c d =
      let f : Copied k (8 * (10 * i + 2)) record_from (bit_and (mask_at k (10 * i)) h) k' = subst
      (λ (n : ℕ). Copied k (8 * (10 * i + 2)) record_from n k') (g ∙ ap (λ (n : ℕ). bit_and n h) z) c in
      let kind : kept_by k m i ≡ kept_at k (10 * i) = ap (λ c. if c then kept_at k (10 * i) else present k m) (lt-ltb i 4095 l) in
      carried-ret (omega arith) e (ap (λ b. ret y (masked h b (present k m))) kind) d c.long (λ j g. c.other j (inl g))
      (ap (λ (n : ℕ). held_at k' record_from (bit_or (bit_and m.mask (18446744073709551615 - h)) n))
      (g ∙ ap (λ (n : ℕ). bit_and n h) z)
      ∙ held-unscoped m.mask h small k k' (8 * (10 * i + 2)) record_from (mask_at k (10 * i)) f)

  -- the deepest visit has no frame, and so no scope to end
  pub carried-unscoped-deepest : {y h : ℕ} {m' : Machine} → i < 4096 → 4095 ≤ i → r ≡ Unscope y h
      → m' ≡ record { x = 0; mode = 4; y = y; level = i; mark = m.mark; place = m.place; fuel = m.fuel; mask = m.mask }
      → Carried sh t w k i m r m' w k
  unfolding plan_of
  carried-unscoped-deepest {y} {h} l deep e d =
      let kind : kept_by k m i ≡ present k m = ap (λ c. if c then kept_at k (10 * i) else present k m) (le-ltb i 4095 deep) in
      carried-ret l e (ap (λ b. ret y (masked h b (present k m))) kind ∙ ap (ret y) (masked_same h (present k m)))
      d refl (λ j g. refl) refl

  -- a node that stands is found, or one is made
  pub carried-made : {a : Turn} {c : ℕ} {hs rs : List ℕ} {m' : Machine} {w' : List ℕ} → r ≡ a
      → plan a ≡ make c hs (λ n. ret n (present k m)) → get_or rs 0 0 ≡ c → kids rs ≡ hs
      → Node sh w i m rs m' w' → Carried sh t w k i m r m' w' k
  unfolding advance roomy full_for number_for state_for
  carried-made {a} {c} {hs} {rs} {m'} {w'} e z ec eh o = go (standing_for sh w m rs) refl
    where
      -- how a run ends whose last node is n, in the words v up to the mark b
      ending : List Event → ℕ → List ℕ → ℕ → Res ℕ (Bindings ℕ) (Store Noted) (Left Noted)
      ending log n v b = ended n (present k m) (on v b (m.place, log)) m.fuel

      -- what comes of it, by the node that stands and by whether there is no room
      comes : List Event → List Open → Option ℕ → Bool → Run
      comes log fs found full =
          roomy (full_for found full) (over (cut room (rest w (m.place, log)) m.fuel))
          (settle (store_by sh history) (does (table t)) fs
          (ended (number_for found m.mark) (present k m)
          (state_for found (on w m.mark (m.place, log))
          (on (put_row w m.mark (row (get_or rs 0 0) (kids rs))) (m.mark + 1) (m.place, log))) m.fuel))

      makes : (log : List Event) (X : Run) (fs : List Open) (n : ℕ) (p : Do ℕ)
          → X ≡ goes sh t fs n w m.mark (m.place, log) m.fuel p → plan r ≡ looked w p
          → X ≡ comes log fs (standing_for sh w m rs) (leb (rows w) m.mark)
      makes log X fs n p x u = by-turn log e X fs n p x u ∙ ap (goes sh t fs n w m.mark (m.place, log) m.fuel)
          (z ∙ (λ q. make (sym ec q) (sym eh q) (λ n. ret n (present k m))))

      carry : {m₁ : Machine} → m' ≡ m₁ → Moved i m m₁
          → ((es : List What) (log : List Event) (X : Run) (fs : List Open) → whats_of fs ≡ es → Stack t k (suc i) fs
          → X ≡ comes log fs (standing_for sh w m rs) (leb (rows w) m.mark) → Stands sh t m₁ w' k es log X)
          → Carried sh t w k i m r m' w' k
      carry d v f = record {
        lent = record {
          nodes = ap (λ (n : ℕ). n % 8) o.long ∙ lent.nodes;
          small = omega (arith, lent.small, o.long);
          frames = lent.frames;
        };
        store = o.long;
        work = refl;
        moved = subst (Moved i m) (sym d) v;
        own = λ j g h. refl;
        is = λ es log X fs n p ws s q x u. subst (λ m'. Stands sh t m' w' k es log X) (sym d)
            (f es log X fs ws s (makes log X fs n p x u));
      }

      go : (found : Option ℕ) → standing_for sh w m rs ≡ found → Carried sh t w k i m r m' w' k
      go (some y) h = let d = o.stands y h in
          carry d.0 (record { fuel = refl; deeper = λ h. absurd (omega arith); ended = λ _. refl })
          (λ es log X fs ws s x. stands-succeeded refl (record {
            frames = fs;
            is = x ∙ ap (λ f. comes log fs f (leb (rows w) m.mark)) h
                ∙ ap (λ v. settle (store_by sh history) (does (table t)) fs (ending log y v m.mark)) (sym d.1);
            stack = s;
            whats = ws;
          }))
      go none h = ⊎_elim fits full (below-or-from m.mark (rows w))
        where
          fits : m.mark < rows w → Carried sh t w k i m r m' w' k
          fits l = let d = o.fits h l in
              carry d.0 (record { fuel = refl; deeper = λ h. absurd (omega arith); ended = λ _. refl })
              (λ es log X fs ws s x. stands-succeeded refl (record {
                frames = fs;
                is = x ∙ (λ q. comes log fs (h q) (lt-leb (rows w) m.mark l q))
                    ∙ ap (λ v. settle (store_by sh history) (does (table t)) fs (ending log m.mark v (m.mark + 1))) (sym d.1);
                stack = s;
                whats = ws;
              }))

          full : rows w ≤ m.mark → Carried sh t w k i m r m' w' k
          full l = let d = o.full h l in
              carry d.0 (record { fuel = refl; deeper = λ h. absurd (omega arith); ended = λ _. refl })
              (λ es log X fs ws s x. stands-full refl
              (x ∙ (λ q. comes log fs (h q) (le-leb (rows w) m.mark l q))
              ∙ ap (λ v. over (cut room (rest v (m.place, log)) m.fuel)) (sym d.1)))

  -- a visit is asked for, and its frame g waits
  pub carried-asked : {s : Turn} (a : Asked) {g : Frame} {m' : Machine} {k' : List ℕ} → i < 4095 → r ≡ s → plan s ≡ asking t g a (present k m)
      → a.mask < 2 ^ 64
      → Opened k (10 * i) g (present k m) m.mark k'
      → m' ≡ record {
        x = a.x;
        mode = a.mode % 4;
        y = a.y;
        level = i + 1;
        mark = m.mark;
        place = m.place;
        fuel = m.fuel;
        mask = bit_and m.mask (18446744073709551615 - a.mask);
      }
      → Carried sh t w k i m r m' w k'
  unfolding advance way_at mark_at
  carried-asked a {g} {m'} {k'} l e z small o d = record {
    lent = record { nodes = lent.nodes; small = lent.small; frames = omega (arith, lent.frames, o.long) };
    store = refl;
    work = o.long;
    moved = rw d (record { fuel = refl; deeper = λ _. refl; ended = λ h. absurd (omega arith) });
    own = λ j g h. o.other j (inr (omega arith));
    is = λ es log X fs n p ws s q x u. subst (λ m'. Stands sh t m' w k' es log X) (sym d) (rw add-one (stands-asked (omega arith) (record {
      top = record {
        visit = visit_of (a.mode % 4) a.x a.y (hiding a.mask (present k m));
        left = n;
        keeps = (way_of t g (present k m)).keeps;
        before = on w m.mark (m.place, log);
        yes = (way_of t g (present k m)).yes;
        no = (way_of t g (present k m)).no;
      };
      others = fs;
      is = by-turn log e X fs n p x u ∙ ap (goes sh t fs n w m.mark (m.place, log) m.fuel) z;
      visit = ap (visit_of (a.mode % 4) a.x a.y) (sym (held-hidden m.mask a.mask small k record_from)
          ∙ sym (held_same k k' record_from record_from (bit_and m.mask (18446744073709551615 - a.mask))
          (λ v i _. o.other (record_from + v) (inr (omega arith)))));
      pending = record { left = q; ways = λ _. sym (o.way t); mark = λ _ _. sym o.mark };
      stack = stable t k k' i (λ j h. o.other j (inl (omega arith))) (suc i) fs (omega arith) s;
      whats = ws;
    })));
  }

  -- the deepest visit has no frame: what it asks for is cut off
  pub carried-deepest : {s : Turn} (a : Asked) {m' : Machine} (g : Frame) → 4095 ≤ i → r ≡ s → plan s ≡ asking t g a (present k m)
      → a.mask < 2 ^ 64
      → m' ≡ record {
        x = a.x;
        mode = a.mode % 4;
        y = a.y;
        level = i + 1;
        mark = m.mark;
        place = m.place;
        fuel = m.fuel;
        mask = bit_and m.mask (18446744073709551615 - a.mask);
      }
      → Carried sh t w k i m r m' w k
  unfolding advance
  carried-deepest a {m'} g l e z small d = record {
    lent = lent;
    store = refl;
    work = refl;
    moved = rw d (record { fuel = refl; deeper = λ _. refl; ended = λ h. absurd (omega arith) });
    own = λ j g h. refl;
    is = λ es log X fs n p ws s q x u. subst (λ m'. Stands sh t m' w k es log X) (sym d) (rw add-one (stands-asked (omega arith) (record {
      top = record {
        visit = visit_of (a.mode % 4) a.x a.y (hiding a.mask (present k m));
        left = n;
        keeps = (way_of t g (present k m)).keeps;
        before = on w m.mark (m.place, log);
        yes = (way_of t g (present k m)).yes;
        no = (way_of t g (present k m)).no;
      };
      others = fs;
      is = by-turn log e X fs n p x u ∙ ap (goes sh t fs n w m.mark (m.place, log) m.fuel) z;
      visit = ap (visit_of (a.mode % 4) a.x a.y) (sym (held-hidden m.mask a.mask small k record_from));
      pending = record { left = q; ways = λ c. absurd (omega arith); mark = λ c _. absurd (omega arith) };
      stack = s;
      whats = ws;
    })));
  }

  pub carried-deepest-in : {s : Turn} (a : Asked) {m' : Machine} {k' : List ℕ} (g : Frame) → k' ≡ k → 4095 ≤ i → r ≡ s
      → plan s ≡ asking t g a (present k m) → a.mask < 2 ^ 64
      → m' ≡ record {
        x = a.x;
        mode = a.mode % 4;
        y = a.y;
        level = i + 1;
        mark = m.mark;
        place = m.place;
        fuel = m.fuel;
        mask = bit_and m.mask (18446744073709551615 - a.mask);
      }
      → Carried sh t w k i m r m' w k'
  carried-deepest-in a {m'} g same l e z small d =
      subst (λ k'. Carried sh t w k i m r m' w k') (sym same) (carried-deepest a g l e z small d)
