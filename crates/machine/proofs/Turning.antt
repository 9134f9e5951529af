-- A visit begins, and an end is told to the frame below: what the machine stands for. Assumes nothing.
use mathlib.Core.Path.{◌≡◌, refl, ap, sym, ◌∙◌, subst}
use mathlib.Core.Bool.{Bool, true, false, true≢false}
use mathlib.Core.Logic.{inl, inr, ⊎_elim}
use mathlib.Core.List.{List, [], ◌∷◌}
use Prim.Native.Nat.{ℕ, zero, suc, ◌+◌, ◌-◌, ◌*◌, ◌%◌, ◌<◌, ◌≤◌}
use native.Mathlib.Omega.{arith}
use borrow.Author.Tests.{eq-eqb, ne_eqb, lt-ltb}
use lib.Dec.{eqb}
use lib.ListN.{get_or, set}
use Rattle.words.specs.Words.{word_at}
use Rattle.std.specs.Prelude.{if◌then◌else◌}
use Rattle.words.proofs.Tests.{below-or-from}
use Rattle.meaning.specs.Bindings.{Bindings}
use Rattle.meaning.specs.Table.{table}
use Rattle.meaning.specs.Plan.{keep, drop as give, ret, fail, miss, stuck, look, make, ask}
use Rattle.meaning.specs.Rules.{Do, does}
use Rattle.meaning.specs.Derivation.{What, what, Event, began, ended as finished, history}
use Rattle.meaning.specs.Limits.{ended, lost, settled, closed}
use Rattle.meaning.specs.Steps.{advance, onto, settle, enter, one}
use Rattle.meaning.specs.Store.{on, rest}
use Rattle.meaning.specs.Shared.{store_by}
use Rattle.turns.specs.declared.turn.Turn.{Turn}
use Rattle.turns.specs.declared.turn.Turn.TheVariants.{Done, Failed, Missed, Stuck, Bound, Leaf, Made, Ask, Next as Goes, Unscope}
use Rattle.turns.specs.Ways.{held_at, Frame, way, ways, way_of, visit_of, asked_of, opened, plan_of, looked, saves}
use Rattle.turns.specs.Ways.{FairVisit, Ready}
use Rattle.turns.specs.Turns.{Resumes, Recovers, Walks}
use Rattle.machine.specs.declared.Machine.{Machine}
use Rattle.machine.specs.declared.frames.Kept.{Kept}
use Rattle.machine.specs.Stack.{row_at, frame_at, mask_at, kept_at, present, way_at, mark_at, Noted, Open, Run, whats_of, first_of, others_of}
use Rattle.machine.specs.Stack.{Pending, Stack, Asks, Stands, Fair}
use Rattle.machine.specs.Machine.{OwnStay, kept_by, Carried, Restored, Taken, visited, Turned}
use Rattle.machine.proofs.Holding.{held_same}
use Rattle.machine.proofs.Rowing.{row_same}
use Rattle.machine.proofs.Opening.{same_way}
use Rattle.machine.proofs.Stacked.{stable}

-- what a visit needs, by its mode
ready : (t : List ℕ) (m x y : ℕ) (b : Bindings ℕ) → FairVisit t (visit_of m x y b) → Ready t m x
unfolding visit_of
ready t m x y b f = record {
  matched = λ e. subst (λ (m : ℕ). FairVisit t (visit_of m x y b)) e f;
  built = λ e. subst (λ (m : ℕ). FairVisit t (visit_of m x y b)) e f;
}

-- the limits were tested
entered : (sh : Bool) (t w : List ℕ) (m : ℕ) (p : Noted) (n u : ℕ) (f : Open) (fs : List Open) → (n ≡ 0 → ⊥)
    → enter (store_by sh history) (does (table t)) n (on w m p) (suc u) f fs ≡ advance (store_by sh history) (does (table t))
    (settle (store_by sh history) (does (table t)) (f ∷ fs)) (n - 1) (f ∷ fs) (does (table t) f.visit)
    (on w m (p.0, began (what f.visit) ∷ p.1)) u
unfolding enter
entered sh t w m p zero u f fs h = absurd (h refl)
entered sh t w m p (suc n) u f fs h = let a : suc n - 1 ≡ n = omega arith in rw a refl

-- a turn looks at nothing first
plan-looked : (t w : List ℕ) (r : Turn) (f g : Frame) (b c : Bindings ℕ) → looked w (plan_of t r f g b c) ≡ plan_of t r f g b c
unfolding looked plan_of
plan-looked t w (Done y) f g b c = refl
plan-looked t w Failed f g b c = refl
plan-looked t w (Missed p) f g b c = refl
plan-looked t w (Stuck v) f g b c = refl
plan-looked t w (Bound v y) f g b c = refl
plan-looked t w (Leaf a) f g b c = refl
plan-looked t w Made f g b c = refl
plan-looked t w (Ask a) f g b c = refl
plan-looked t w (Goes a) f g b c = refl
plan-looked t w (Unscope y m) f g b c = refl

-- which frames put the mark back on success
keeps-is : (t : List ℕ) (k x y i : ℕ) (r o : List ℕ) (b : Bindings ℕ)
    → (way_of t (record { what = k; x = x; y = y; at = i; row = r; other = o }) b).keeps ≡ (if eqb k 4 then give else keep)
unfolding way_of ways
keeps-is t zero x y i r o b = refl
keeps-is t (suc zero) x y i r o b = refl
keeps-is t (suc (suc zero)) x y i r o b = refl
keeps-is t (suc (suc (suc zero))) x y i r o b = refl
keeps-is t (suc (suc (suc (suc zero)))) x y i r o b = refl
keeps-is t (suc (suc (suc (suc (suc zero))))) x y i r o b = refl
keeps-is t (suc (suc (suc (suc (suc (suc zero)))))) x y i r o b = refl
keeps-is t (suc (suc (suc (suc (suc (suc (suc zero))))))) x y i r o b = refl
keeps-is t (suc (suc (suc (suc (suc (suc (suc (suc zero)))))))) x y i r o b = refl
keeps-is t (suc (suc (suc (suc (suc (suc (suc (suc (suc zero))))))))) x y i r o b = refl
keeps-is t (suc (suc (suc (suc (suc (suc (suc (suc (suc (suc zero)))))))))) x y i r o b = refl
keeps-is t (suc (suc (suc (suc (suc (suc (suc (suc (suc (suc (suc zero))))))))))) x y i r o b = refl
keeps-is t (suc (suc (suc (suc (suc (suc (suc (suc (suc (suc (suc (suc zero)))))))))))) x y i r o b = refl
keeps-is t (suc (suc (suc (suc (suc (suc (suc (suc (suc (suc (suc (suc (suc zero))))))))))))) x y i r o b = refl
keeps-is t (suc (suc (suc (suc (suc (suc (suc (suc (suc (suc (suc (suc (suc (suc zero)))))))))))))) x y i r o b = refl
keeps-is t (suc (suc (suc (suc (suc (suc (suc (suc (suc (suc (suc (suc (suc (suc (suc zero))))))))))))))) x y i r o b = refl
keeps-is t (suc (suc (suc (suc (suc (suc (suc (suc (suc (suc (suc (suc (suc (suc (suc (suc zero)))))))))))))))) x y i r o b = refl
keeps-is t (suc (suc (suc (suc (suc (suc (suc (suc (suc (suc (suc (suc (suc (suc (suc (suc (suc k))))))))))))))))) x y i r o b =
    let n : eqb (suc (suc (suc (suc (suc (suc (suc (suc (suc (suc (suc (suc (suc (suc (suc (suc (suc k))))))))))))))))) 4
    ≡ false =
    ne_eqb (suc (suc (suc (suc (suc (suc (suc (suc (suc (suc (suc (suc (suc (suc (suc (suc (suc k))))))))))))))))) 4
    (λ (e : suc (suc (suc (suc (suc (suc (suc (suc (suc (suc (suc (suc (suc (suc (suc (suc (suc k)))))))))))))))) ≡ 4). omega arith) in
    rw n refl

-- a plan that gives a state back, told from the others
gives : Do ℕ → ℕ
gives (ret h b) = 1
gives fail = 0
gives (miss p) = 0
gives (stuck v) = 0
gives (look h k) = 0
gives (make c hs k) = 0
gives (ask t q k p) = 0

-- a frame that keeps no bindings gives none back after a failure
no-state : (t : List ℕ) (k x y i : ℕ) (r o : List ℕ) (b : Bindings ℕ) → saves k ≡ false
    → gives (way_of t (record { what = k; x = x; y = y; at = i; row = r; other = o }) b).no ≡ 0
unfolding way_of ways gives
no-state t zero x y i r o b h = refl
no-state t (suc zero) x y i r o b h = refl
no-state t (suc (suc zero)) x y i r o b h = refl
no-state t (suc (suc (suc zero))) x y i r o b h = refl
no-state t (suc (suc (suc (suc zero)))) x y i r o b h = refl
no-state t (suc (suc (suc (suc (suc zero))))) x y i r o b h = absurd (true≢false h)
no-state t (suc (suc (suc (suc (suc (suc zero)))))) x y i r o b h = refl
no-state t (suc (suc (suc (suc (suc (suc (suc zero))))))) x y i r o b h = refl
no-state t (suc (suc (suc (suc (suc (suc (suc (suc zero)))))))) x y i r o b h = absurd (true≢false h)
no-state t (suc (suc (suc (suc (suc (suc (suc (suc (suc zero))))))))) x y i r o b h = absurd (true≢false h)
no-state t (suc (suc (suc (suc (suc (suc (suc (suc (suc (suc zero)))))))))) x y i r o b h = absurd (true≢false h)
no-state t (suc (suc (suc (suc (suc (suc (suc (suc (suc (suc (suc zero))))))))))) x y i r o b h = refl
no-state t (suc (suc (suc (suc (suc (suc (suc (suc (suc (suc (suc (suc zero)))))))))))) x y i r o b h = refl
no-state t (suc (suc (suc (suc (suc (suc (suc (suc (suc (suc (suc (suc (suc zero))))))))))))) x y i r o b h = refl
no-state t (suc (suc (suc (suc (suc (suc (suc (suc (suc (suc (suc (suc (suc (suc zero)))))))))))))) x y i r o b h = refl
no-state t (suc (suc (suc (suc (suc (suc (suc (suc (suc (suc (suc (suc (suc (suc (suc zero))))))))))))))) x y i r o b h = refl
no-state t (suc (suc (suc (suc (suc (suc (suc (suc (suc (suc (suc (suc (suc (suc (suc (suc zero)))))))))))))))) x y i r o b h = refl
no-state t (suc (suc (suc (suc (suc (suc (suc (suc (suc (suc (suc (suc (suc (suc (suc (suc (suc k))))))))))))))))) x y i r o b h = refl

-- the bindings that a frame keeps are of account only where a scope ends
kept-apart : (t : List ℕ) (r : Turn) (f g : Frame) (b b' c : Bindings ℕ) → gives (plan_of t r f g b c) ≡ 0
    → plan_of t r f g b' c ≡ plan_of t r f g b c
unfolding plan_of gives
kept-apart t (Done y) f g b b' c h = refl
kept-apart t Failed f g b b' c h = refl
kept-apart t (Missed p) f g b b' c h = refl
kept-apart t (Stuck v) f g b b' c h = refl
kept-apart t (Bound v y) f g b b' c h = refl
kept-apart t (Leaf a) f g b b' c h = refl
kept-apart t Made f g b b' c h = refl
kept-apart t (Ask a) f g b b' c h = refl
kept-apart t (Goes a) f g b b' c h = refl
kept-apart t (Unscope y m) f g b b' c h = absurd (omega arith)

-- what the first frame visits, and what the others do
first-is : {es : List What} (f : Open) (fs : List Open) → whats_of (f ∷ fs) ≡ es → what f.visit ≡ first_of es
unfolding first_of
first-is f fs e = ap first_of e

others-are : {es : List What} (f : Open) (fs : List Open) → whats_of (f ∷ fs) ≡ es → whats_of fs ≡ others_of es
unfolding others_of
others-are f fs e = ap others_of e

-- the frame of what is told, and the mark that a success leaves
module _ (sh : Bool) (t w k : List ℕ) (i : ℕ) (f : Open) (p : Pending t k (suc i) f) (l : suc i < 4096) where
  the-way : way f.keeps f.yes f.no ≡ way_of t (frame_at k (10 * i)) (kept_at k (10 * i))
  unfolding way_at
  the-way = p.ways l

  the-mark : f.before.mark ≡ word_at k (10 * i) 4
  unfolding mark_at
  the-mark = p.mark l (omega arith)

  settled_is : (m : ℕ) (a : Noted) → settled (store_by sh history) f.keeps f.before (on w m a)
      ≡ on w (if eqb (word_at k (10 * i) 0) 4 then word_at k (10 * i) 4 else m) a
  unfolding settled
  settled_is m a = ap (λ q. settled (store_by sh history) q f.before (on w m a))
      (ap (λ w. w.keeps) the-way ∙ keeps-is t (word_at k (10 * i) 0) _ _ _ _ _ (kept_at k (10 * i))) ∙ go (eqb (word_at k (10 * i) 0) 4)
    where
      go : (c : Bool) → settled (store_by sh history) (if c then give else keep) f.before (on w m a)
          ≡ on w (if c then word_at k (10 * i) 4 else m) a
      go true = ap (λ (n : ℕ). on w n a) the-mark
      go false = refl

-- what is restored of a frame leaves its head, its other row and what it keeps
module _ (k k₁ : List ℕ) (i : ℕ) (m : Machine) (b : Kept) (few : i < 4095) (o : Restored k (10 * i) m b k₁) where
  head-same : row_at k₁ (10 * i) ≡ row_at k (10 * i)
  head-same = row_same k₁ k (10 * i) (10 * i) (λ j l. o.other (8 * (10 * i) + j) (inl (omega arith)))

  other-same : row_at k₁ (10 * i + 2) ≡ row_at k (10 * i + 2)
  other-same = row_same k₁ k (10 * i + 2) (10 * i + 2) (λ j l. o.other (8 * (10 * i + 2) + j) (inr (omega arith, omega arith)))

  kept_same : kept_at k₁ (10 * i) ≡ kept_at k (10 * i)
  kept_same =
      (λ z. held_at k₁ (8 * (10 * i + 2)) (get_or (head-same z) 5 0 + 4294967296 * get_or (head-same z) 6 0))
      ∙ held_same k k₁ (8 * (10 * i + 2)) (8 * (10 * i + 2)) (mask_at k (10 * i))
      (λ v l _. o.other (8 * (10 * i + 2) + v) (inr (omega arith, omega arith)))

  abbrev in_row : List ℕ → Frame
  in_row hs = record {
    what = word_at k (10 * i) 0;
    x = word_at k (10 * i) 1;
    y = word_at k (10 * i) 2;
    at = word_at k (10 * i) 3 % 8;
    row = hs;
    other = row_at k (10 * i + 2);
  }

  frame_same : (hs : List ℕ) → row_at k₁ (10 * i + 1) ≡ hs → frame_at k₁ (10 * i) ≡ in_row hs
  frame_same hs e = λ z. record {
    what = get_or (head-same z) 0 0;
    x = get_or (head-same z) 1 0;
    y = get_or (head-same z) 2 0;
    at = get_or (head-same z) 3 0 % 8;
    row = e z;
    other = other-same z;
  }

  -- the frames below
  below : (j : ℕ) → j < 80 * i → get_or k₁ j 0 ≡ get_or k j 0
  below j l = o.other j (inl (omega arith))

  abbrev after : Machine
  after = record { x = m.x; mode = m.mode; y = m.y; level = m.level; mark = b.mark; place = m.place; fuel = m.fuel; mask = b.mask }

  kept-is : kept_by k₁ after i ≡ kept_at k (10 * i)
  kept-is = ap (λ c. if c then kept_at k₁ (10 * i) else present k₁ after) (lt-ltb i 4095 few) ∙ kept_same

  module _ (t w : List ℕ) (a : Turn) (q : Taken t w k₁ (10 * i) after a) where
    abbrev G : Frame
    G = opened t w m.x m.y (asked_of a)

    plan-yes : m.mode ≡ 4 → plan_of t a (frame_at k₁ (10 * i)) G (kept_by k₁ after i) (present k₁ after) ≡ (way_of t (frame_at k (10 * i))
        (kept_at k (10 * i))).yes m.y (present k m)
    plan-yes e = (λ z. plan_of t a (frame_at k₁ (10 * i)) G (kept-is z) ((o.yes e).1 z))
        ∙ ⊎_elim without with_row (below-or-from (word_at k (10 * i) 0) 8)
      where
        same_word : word_at k₁ (10 * i) 0 ≡ word_at k (10 * i) 0
        same_word = ap (λ r. get_or r 0 0) head-same

        without : word_at k (10 * i) 0 < 8
            → plan_of t a (frame_at k₁ (10 * i)) G (kept_at k (10 * i)) (if eqb (word_at k (10 * i) 0) 4 then kept_at k (10 * i)
            else present k m) ≡ (way_of t (frame_at k (10 * i)) (kept_at k (10 * i))).yes m.y (present k m)
        without l =
            let r : Resumes t (frame_at k (10 * i)) m.y a = subst (λ f. Resumes t f m.y a) (frame_same (row_at k (10 * i + 1)) (o.row (λ _. l))) (q.yes e (omega (arith, same_word))) in
            ap (λ f. plan_of t a f G (kept_at k (10 * i)) (if eqb (word_at k (10 * i) 0) 4 then kept_at k (10 * i) else present k m))
            (frame_same (row_at k (10 * i + 1)) (o.row (λ _. l)))
            ∙ r G (kept_at k (10 * i)) (present k m) refl

        with_row : 8 ≤ word_at k (10 * i) 0
            → plan_of t a (frame_at k₁ (10 * i)) G (kept_at k (10 * i)) (if eqb (word_at k (10 * i) 0) 4 then kept_at k (10 * i)
            else present k m) ≡ (way_of t (frame_at k (10 * i)) (kept_at k (10 * i))).yes m.y (present k m)
        with_row l =
            let n : eqb (word_at k (10 * i) 0) 4 ≡ false = ne_eqb (word_at k (10 * i) 0) 4 (λ (z : word_at k (10 * i) 0 ≡ 4). omega arith) in
            let at : word_at k₁ (10 * i) 3 ≡ word_at k (10 * i) 3 = ap (λ r. get_or r 3 0) head-same in
            let put : row_at k₁ (10 * i + 1) ≡ set (row_at k (10 * i + 1)) (2 + word_at k₁ (10 * i) 3 % 8) m.y = o.filled e (omega arith)
            ∙ ap (λ (j : ℕ). set (row_at k (10 * i + 1)) (2 + j % 8) m.y) (sym at) in
            let r : Walks t (frame_at k (10 * i)) m.y a = subst (λ f. Walks t f m.y a)
            (λ z. record {
              what = get_or (head-same z) 0 0;
              x = get_or (head-same z) 1 0;
              y = get_or (head-same z) 2 0;
              at = get_or (head-same z) 3 0 % 8;
              row = row_at k (10 * i + 1);
              other = other-same z;
            })
            (q.walked e (omega (arith, same_word)) (row_at k (10 * i + 1)) refl put) in
            ap (λ c. plan_of t a (frame_at k₁ (10 * i)) G (kept_at k (10 * i)) (if c then kept_at k (10 * i) else present k m)) n
            ∙ ap (λ f. plan_of t a f G (kept_at k (10 * i)) (present k m))
            (frame_same (set (row_at k (10 * i + 1)) (2 + word_at k (10 * i) 3 % 8) m.y) (o.filled e (omega arith)))
            ∙ r G (kept_at k (10 * i)) (present k m)

    plan-no : m.mode ≡ 5 → plan_of t a (frame_at k₁ (10 * i)) G (kept_by k₁ after i) (present k₁ after) ≡ (way_of t (frame_at k (10 * i))
        (kept_at k (10 * i))).no
    plan-no e =
        (λ z. plan_of t a (frame_same (row_at k (10 * i + 1)) (o.row (λ z. absurd (omega arith))) z) G (kept-is z) ((o.no e).1 z))
        ∙ go (saves (word_at k (10 * i) 0)) refl
      where
        r : Recovers t (frame_at k (10 * i)) a
        r = subst (λ f. Recovers t f a) (frame_same (row_at k (10 * i + 1)) (o.row (λ z. absurd (omega arith)))) (q.no e)

        go : (c : Bool) → saves (word_at k (10 * i) 0) ≡ c
            → plan_of t a (frame_at k (10 * i)) G (kept_at k (10 * i)) (if c then kept_at k (10 * i) else present k m)
            ≡ (way_of t (frame_at k (10 * i)) (kept_at k (10 * i))).no
        go true h = r G (kept_at k (10 * i)) refl
        go false h =
            let z = r G (present k m) refl in
            kept-apart t a (frame_at k (10 * i)) G (present k m) (kept_at k (10 * i)) (present k m)
            (ap gives z ∙ no-state t (word_at k (10 * i) 0) _ _ _ _ _ (present k m) h)
            ∙ z ∙ ap (λ w. w.no) (same_way t (word_at k (10 * i) 0) _ _ _ _ _ _ _ (present k m) (kept_at k (10 * i))
            (λ y. absurd (true≢false (sym y ∙ h))) (λ _. refl) (λ _. refl))

    module _ (sh : Bool) (m' : Machine) (w' k' : List ℕ) (c : Carried sh t w k₁ i after a m' w' k') where
      -- what is noted once the visit of the first frame has ended so
      abbrev noting : List What → List Event → Bool → List Event
      noting es log won = finished (first_of es) won ∷ log

      told-yes : m.mode ≡ 4 → (es : List What) (log : List Event) (X : Run) (fs : List Open) → whats_of fs ≡ es
          → X ≡ settle (store_by sh history) (does (table t)) fs (ended m.y (present k m) (on w m.mark (m.place, log)) m.fuel)
          → Stack t k (suc (suc i)) fs
          → Stands sh t m' w' k' (others_of es) (noting es log true) X
      unfolding settle onto closed
      told-yes e es log X [] ws x s = absurd s
      told-yes e es log X (f ∷ fs) ws x s =
          let l : suc i < 4096 = omega arith in
          c.is (others_of es) (noting es log true) X fs f.left (f.yes m.y (present k m)) (others-are f fs ws)
          (stable t k k₁ i below (suc i) fs (omega arith) s.1) s.0.left
          (x ∙ ap (λ z. advance (store_by sh history) (does (table t)) (settle (store_by sh history) (does (table t)) fs) f.left fs
          (f.yes m.y (present k m)) z m.fuel)
          (settled_is sh t w k i f s.0 l m.mark (m.place, finished (what f.visit) true ∷ log)
          ∙ (λ z. on w (sym (o.yes e).0 z) (m.place, finished (first-is f fs ws z) true ∷ log))))
          (sym (plan-looked t w a _ _ _ _)
          ∙ ap (looked w) (plan-yes e ∙ sym (ap (λ w. w.yes m.y (present k m)) (the-way sh t w k i f s.0 l))))

      told-no : m.mode ≡ 5 → (es : List What) (log : List Event) (X : Run) (fs : List Open) → whats_of fs ≡ es
          → X ≡ settle (store_by sh history) (does (table t)) fs (lost (rest w (m.place, log)) m.fuel) → Stack t k (suc (suc i)) fs
          → Stands sh t m' w' k' (others_of es) (noting es log false) X
      unfolding settle onto closed
      told-no e es log X [] ws x s = absurd s
      told-no e es log X (f ∷ fs) ws x s =
          let l : suc i < 4096 = omega arith in
          c.is (others_of es) (noting es log false) X fs f.left f.no (others-are f fs ws)
          (stable t k k₁ i below (suc i) fs (omega arith) s.1) s.0.left
          (x ∙ (λ z. advance (store_by sh history) (does (table t)) (settle (store_by sh history) (does (table t)) fs) f.left fs f.no
          (on w ((the-mark sh t w k i f s.0 l ∙ sym (o.no e).0) z) (m.place, finished (first-is f fs ws z) false ∷ log)) m.fuel))
          (sym (plan-looked t w a _ _ _ _) ∙ ap (looked w) (plan-no e ∙ sym (ap (λ w. w.no) (the-way sh t w k i f s.0 l))))

-- a turn of the visit after i others, all in all
module _ (sh : Bool) (t w k k₁ : List ℕ) (i : ℕ) (m : Machine) (b : Kept) (few : i < 4096) (ends : 3 < m.mode
    → i < 4095) (o : Restored k (10 * i) m b k₁) where
  abbrev restored : Machine
  restored = record {
    x = m.x;
    mode = m.mode;
    y = m.y;
    level = m.level;
    mark = b.mark;
    place = m.place;
    fuel = m.fuel;
    mask = b.mask;
  }

  module _ (a : Turn) (q : Taken t w k₁ (10 * i) restored a) (m' : Machine) (w' k' : List ℕ) (c : Carried sh t w k₁ i restored a m' w' k')
    where
      begun : m.mode < 4 → m.level ≡ i → (es : List What) (log : List Event) (X : Run)
          → Asks t k m.level es (visit_of m.mode m.x m.y (present k m)) (on w m.mark (m.place, log)) (suc m.fuel) X
          → Fair t X
          → Stands sh t m' w' k' (visited k m ∷ es) (began (visited k m) ∷ log) (one (store_by sh history) (does (table t)) X)
      unfolding one
      begun h l es log X s fair =
          let e = o.asked h in
          let k-same : k₁ ≡ k = e.1 in
          let m-same : restored ≡ m = λ z. record { x = m.x; mode = m.mode; y = m.y; level = m.level; mark = (e.0 z).mark; place = m.place; fuel = m.fuel; mask = (e.0 z).mask } in
          let d : Carried sh t w k i m a m' w' k' = subst (λ m. Carried sh t w k i m a m' w' k') m-same
          (subst (λ k. Carried sh t w k i restored a m' w' k') k-same c) in
          let g : Taken t w k (10 * i) m a = subst (λ m. Taken t w k (10 * i) m a) m-same (subst (λ k. Taken t w k (10 * i) restored a) k-same q) in
          let top = s.top in
          let f : FairVisit t (visit_of m.mode m.x m.y (present k m)) = subst (FairVisit t) s.visit (subst (Fair t) s.is fair) in
          let n : (top.left ≡ 0 → ⊥) = λ z. omega (arith, s.pending.left) in
          let v : what top.visit ≡ visited k m = ap what s.visit in
          d.is (visited k m ∷ es) (began (visited k m) ∷ log) _ (top ∷ s.others) (top.left - 1) (does (table t) top.visit)
          (λ z. v z ∷ s.whats z)
          (subst (λ (n : ℕ). Stack t k (suc n) (top ∷ s.others)) l (s.pending, s.stack)) (omega (arith, s.pending.left))
          (ap (one (store_by sh history) (does (table t))) s.is
          ∙ entered sh t w m.mark (m.place, log) top.left m.fuel top s.others n
          ∙ (λ z. advance (store_by sh history) (does (table t)) (settle (store_by sh history) (does (table t)) (top ∷ s.others))
          (top.left - 1) (top ∷ s.others) (does (table t) top.visit)
          (on w m.mark (m.place, began (v z) ∷ log)) m.fuel))
          (g.asked h (ready t m.mode m.x m.y (present k m) f) (frame_at k (10 * i)) (kept_by k m i)
          ∙ ap (λ v. looked w (does (table t) v)) (sym s.visit))

      own-stays : OwnStay k k'
      own-stays j g h = c.own j g h ∙ ⊎_elim (λ l. ap (λ k. get_or k j 0) (o.asked l).1) (λ l. o.other j (inr (let z = ends (omega arith) in omega arith, h))) (below-or-from m.mode 4)

      pub turned-is : Turned sh t w k i m m' w' k'
      turned-is = record {
        lent = c.lent;
        store = c.store;
        work = c.work ∙ o.long;
        moved = record { fuel = c.moved.fuel; deeper = c.moved.deeper; ended = c.moved.ended };
        own = own-stays;
        begins = begun;
        tells = λ h g l es log X s.
            let z : i < 4095 = ends h in
            ⊎_elim
            (λ e. let y : m.mode ≡ 4 = omega arith in
            let r = s.succeeded y in
            subst (λ (b : Bool). Stands sh t m' w' k' (others_of es) (finished (first_of es) b ∷ log) X) (sym (eq-eqb m.mode 4 y))
            (told-yes k k₁ i m b z o t w a q sh m' w' k' c y es log X r.frames r.whats r.is
            (subst (λ (n : ℕ). Stack t k (suc n) r.frames) l r.stack)))
            (λ e. let y : m.mode ≡ 5 = omega arith in
            let r = s.failed y in
            subst (λ (b : Bool). Stands sh t m' w' k' (others_of es) (finished (first_of es) b ∷ log) X)
            (sym (ne_eqb m.mode 4 (λ (n : m.mode ≡ 4). omega arith)))
            (told-no k k₁ i m b z o t w a q sh m' w' k' c y es log X r.frames r.whats r.is
            (subst (λ (n : ℕ). Stack t k (suc n) r.frames) l r.stack)))
            (below-or-from m.mode 5);
      }
