-- A visit goes on when one that it asked for has ended.
use mathlib.Core.Path.{◌≡◌, refl, ap, sym, ◌∙◌}
use mathlib.Core.Bool.{Bool, true, false}
use mathlib.Core.Logic.{⊎_elim}
use mathlib.Core.List.{List, [], ◌∷◌, ◌++◌}
use Prim.Native.Nat.{ℕ, suc, ◌+◌, ◌≤◌, ◌<◌, ◌%◌}
use native.Mathlib.Omega.{arith}
use native.Mathlib.Numerals.{add-one}
use borrow.Author.Tests.{lt-ltb, le-ltb}
use lib.Dec.{eqb}
use lib.ListN.{length, get_or, take, drop, set, length-set}
use lib.Seq.{get_or-drop, get_or-set_other, take-suc-set, drop-set-lt}
use Rattle.words.specs.Words.{word_at}
use Rattle.std.specs.Prelude.{if◌then◌else◌}
use Rattle.words.proofs.Tests.{below-or-from}
use Rattle.checks.specs.Kinds.{ours}
use Rattle.checks.specs.Good.{mask_by}
use Rattle.meaning.specs.Bindings.{Bindings, masked}
use Rattle.meaning.specs.Table.{six}
use Rattle.meaning.specs.Plan.{ret, fail, make, ask, keep}
use Rattle.meaning.specs.Rules.{Visit, Do, apply, build, walk, again, zip, one_of, some_of, when}
use Rattle.turns.specs.declared.turn.Asked.{Asked}
use Rattle.turns.specs.declared.turn.Turn.{Turn}
use Rattle.turns.specs.declared.turn.Turn.TheVariants.{Done, Failed, Missed, Made, Ask, Next, Unscope}
use Rattle.turns.specs.declared.resume.Head.{Head}
use Rattle.turns.specs.declared.resume.Seen.{Seen}
use Rattle.turns.specs.Turns.{OfHead, OfSeen}
use Rattle.turns.specs.Ways.{Frame, filled, kids, within, makes, stepping, ways, way_of, visit_of, asked_of, plan_of, current}
use Rattle.turns.proofs.Rows.{six-at, kids-length, kid_at, kids-set, name_set, again-made, walk-on, walk-over, one_on, one-over}
use Rattle.turns.proofs.Rows.{some-on, some-over}
use Rattle.turns.proofs.Ways.{without-row, with_row, way-is}

-- ---- a row at a child

-- what a walk does after the child at p, of the children ks of a node named n, has given h
module _ (q : ℕ → ℕ → Bindings ℕ → Visit ℕ) (xs : List ℕ) (k : ℕ → List ℕ → Bindings ℕ → Do ℕ) where
  abbrev pub goes_on : (p : ℕ) (ks : List ℕ) (n : ℕ) → ℕ → Bindings ℕ → Do ℕ
  goes_on p ks n = λ h d. within p ks (walk (zip q (drop (p + 1) xs) (drop (p + 1) ks)) (take p ks ++ (h ∷ [])) d (k n))

  abbrev pub after : (p : ℕ) (s : List ℕ) → ℕ → Bindings ℕ → Do ℕ
  after p s = goes_on p (kids s) (get_or s 0 0)

-- what ONE and SOME do at the child at p of the row s, of a node n: after it has given h, and after it has failed
module _ (n : ℕ) where
  abbrev pub anew : (p : ℕ) (s : List ℕ) → ℕ → Bindings ℕ → Do ℕ
  anew p s = λ h d. within p (kids s) (again n (get_or s 0 0) (set (kids s) p h) d)

module _ (e n : ℕ) where
  abbrev pub given : (p : ℕ) (s : List ℕ) → ℕ → Bindings ℕ → Do ℕ
  given p s = λ h d. within p (kids s) (some_of e true (take p (kids s) ++ (h ∷ [])) (drop (p + 1) (kids s)) d (again n (get_or s 0 0)))

  abbrev pub tried : Bindings ℕ → Bool → (p : ℕ) (s : List ℕ) → Do ℕ
  tried c z p s = within p (kids s) (some_of e z (take (p + 1) (kids s)) (drop (p + 1) (kids s)) c (again n (get_or s 0 0)))

  abbrev pub first_of : Bindings ℕ → (p : ℕ) (s : List ℕ) → Do ℕ
  first_of c p s = one_of e (take (p + 1) (kids s)) (drop (p + 1) (kids s)) c (again n (get_or s 0 0))

-- the child at i has given y
module _ (r : List ℕ) (long : length r ≡ 8) (i y : ℕ) where
  -- the next child's place, counted below 8
  pub next_place : suc i < length (kids r) → (i + 1) % 8 ≡ i + 1
  next_place l = omega (arith, kids-length r long)

  -- the next child stands in word 3 + i
  pub next-kid : suc i < length (kids r) → get_or r (3 + i) 0 ≡ get_or (kids r) (i + 1) 0
  next-kid l = sym (kid_at r long (i + 1) (omega arith) ∙ ap (λ (j : ℕ). get_or r j 0) (omega arith))

  module _ (q : ℕ → ℕ → Bindings ℕ → Visit ℕ) (xs : List ℕ) (k : ℕ → List ℕ → Bindings ℕ → Do ℕ) (c : Bindings ℕ) where
    pub walks-on : suc i < length (kids r) → suc i < length xs
        → ask keep (q (get_or xs (i + 1) 0) (get_or r (3 + i) 0) c) (after q xs k ((i + 1) % 8) (set r (2 + i) y)) fail ≡ after q xs k i r y c
    walks-on l m =
        (λ z. ask keep (q (get_or xs (i + 1) 0) (next-kid l z) c) (goes_on q xs k (next_place l z) (kids-set r long i y (omega arith) z)
        (name_set r i y z)) fail)
        ∙ rw (lt-ltb i (length (kids r)) (omega arith)) (sym (walk-on q xs (k (get_or r 0 0)) (kids r) i y c l m))

    pub walks-over : i < length (kids r) → length (kids r) ≤ suc i → k (get_or r 0 0) (kids (set r (2 + i) y)) c ≡ after q xs k i r y c
    walks-over l m =
        rw (kids-set r long i y l, lt-ltb i (length (kids r)) l) (sym (walk-over q xs (k (get_or r 0 0)) (kids r) i y c l m))

  -- the node made anew with y for the child
  module _ (n : ℕ) (c : Bindings ℕ) where
    pub made-anew : i < length (kids r)
        → make (get_or (set r (2 + i) y) 0 0) (kids (set r (2 + i) y)) (λ m. ret m c)
        ≡ within i (kids r) (again n (get_or r 0 0) (set (kids r) i y) c)
    made-anew l =
        rw (name_set r i y, kids-set r long i y l, lt-ltb i (length (kids r)) l)
        (sym (again-made n (get_or r 0 0) (set (kids r) i y) c (simp length-set (omega arith))))

  -- SOME goes on after a success
  module _ (e n : ℕ) (c : Bindings ℕ) where
    -- what it does with y in the child's place, is what it does where the child has given it
    pub given_is : i < length (kids r) → tried e n c true i (set r (2 + i) y) ≡ given e n i r y c
    given_is l =
        let m : i < length (set (kids r) i y) = simp length-set l in
        rw (name_set r i y, kids-set r long i y l, lt-ltb i (length (kids r)) l, lt-ltb i (length (set (kids r) i y)) m, add-one)
        (λ z. some_of e true (take-suc-set (kids r) i y l z) (drop-set-lt (suc i) (kids r) i y (omega arith) z) c (again n (get_or r 0 0)))

    -- the next child is tried
    pub tries-on : (z : Bool) → suc i < length (kids r)
        → ask keep (apply e (get_or r (3 + i) 0) c) (given e n ((i + 1) % 8) r) (tried e n c z ((i + 1) % 8) r) ≡ tried e n c z i r
    tries-on z l =
        rw (next_place l, next-kid l, lt-ltb i (length (kids r)) (omega arith)) (sym (some-on e (kids r) (again n (get_or r 0 0)) i c z l))

    -- every child is tried, and one has succeeded, or none
    pub tries-over : (z : Bool) → i < length (kids r) → length (kids r) ≤ suc i
        → when z (again n (get_or r 0 0) (kids r) c) ≡ tried e n c z i r
    tries-over z l m = rw (lt-ltb i (length (kids r)) l) (sym (some-over e (kids r) (again n (get_or r 0 0)) i c z m))

    -- ONE tries the next child
    pub one-tries-on : suc i < length (kids r)
        → ask keep (apply e (get_or r (3 + i) 0) c) (anew n ((i + 1) % 8) r) (first_of e n c ((i + 1) % 8) r) ≡ first_of e n c i r
    one-tries-on l = rw (next_place l, next-kid l) (sym (one_on e (kids r) (again n (get_or r 0 0)) i c l))

-- ---- the turns

-- a visit that is asked for, with no variable unbound
abbrev pub asking-for : (m w x y : ℕ) → Asked
asking-for m w x y = record { mode = m; what = w; at = 0; x = x; y = y; mask = 0 }

-- a visit goes on by the way that its word picks
module _ (t : List ℕ) (f : Frame) (b : Bindings ℕ) (r : Turn) (g : Frame) where
  pub resumes : (k : ℕ) (s : Turn) (y : ℕ) (c : Bindings ℕ) → f.what ≡ k → r ≡ s
      → plan_of t s f g b (if eqb k 4 then b else c) ≡ (get_or (ways t f b) k (stepping f fail)).yes y c
      → plan_of t r f g b (current f b c) ≡ (way_of t f b).yes y c
  resumes k s y c h e z =
      ap (λ r. plan_of t r f g b (current f b c)) e ∙ ap (λ (k : ℕ). plan_of t s f g b (if eqb k 4 then b else c)) h ∙ z
      ∙ sym (ap (λ w. w.yes y c) (way-is t f b k h))

  pub recovers : (k : ℕ) (s : Turn) → f.what ≡ k → r ≡ s → plan_of t s f g b b ≡ (get_or (ways t f b) k (stepping f fail)).no
      → plan_of t r f g b b ≡ (way_of t f b).no
  recovers k s h e z = ap (λ r. plan_of t r f g b b) e ∙ z ∙ sym (ap (λ w. w.no) (way-is t f b k h))

  -- a frame that hands on what comes of its visit is asked for
  last-asked : (c : Bindings ℕ) (one y : ℕ) → g.what ≡ 0 → plan_of t (Ask (asking-for 0 0 one y)) f g b c ≡ ask keep (apply one y c) ret fail
  unfolding plan_of ways visit_of
  last-asked c one y z = ap (λ w. ask w.keeps (apply one y c) w.yes w.no) (way-is t g c 0 z)

  module _ (h : Head) (o : OfHead f h) where
    -- SEQ goes on with its second operand, and so does CHOICE or LEFT after a failure
    pub second-asked : (one y : ℕ) (c : Bindings ℕ) → h.what ≡ 1 → one ≡ word_at t h.x 3 → r ≡ Ask (asking-for 0 0 one y)
        → g.what ≡ (asked_of r).what
        → plan_of t r f g b (current f b c) ≡ (way_of t f b).yes y c
    unfolding ways
    second-asked one y c k i e w =
        resumes 1 (Ask (asking-for 0 0 one y)) y c (o.what ∙ k) e
        (last-asked c one y (w ∙ ap (λ r. (asked_of r).what) e) ∙ ap (λ (i : ℕ). ask keep (apply i y c) ret fail)
        (i ∙ ap (λ (x : ℕ). word_at t x 3) (sym o.x)))

    pub other-asked : (one : ℕ) → h.what ≡ 6 → one ≡ word_at t h.x 3 → r ≡ Ask (asking-for 0 0 one h.y) → g.what ≡ (asked_of r).what
        → plan_of t r f g b b ≡ (way_of t f b).no
    unfolding ways
    other-asked one k i e w =
        recovers 6 (Ask (asking-for 0 0 one h.y)) (o.what ∙ k) e
        (last-asked b one h.y (w ∙ ap (λ r. (asked_of r).what) e)
        ∙ (λ z. ask keep (apply ((i ∙ ap (λ (x : ℕ). word_at t x 3) (sym o.x)) z) (sym o.y z) b) ret fail))

    -- SCOPE puts its outer bindings back
    pub scope-ended : (m y : ℕ) (c : Bindings ℕ) → h.what ≡ 7 → m ≡ mask_by ours t h.x
        → r ≡ Unscope y m
        → plan_of t r f g b (current f b c) ≡ (way_of t f b).yes y c
    unfolding plan_of ways
    scope-ended m y c k i e =
        resumes 7 _ y c (o.what ∙ k) e (ap (λ (m : ℕ). ret y (masked m b c)) (i ∙ ap (mask_by ours t) (sym o.x)))

-- the others hand on what comes of the visit
pub hands_on : (t : List ℕ) (f : Frame) (b c : Bindings ℕ) (y k : ℕ) → k < 8
    → (k ≡ 1 → ⊥) → (k ≡ 2 → ⊥) → (k ≡ 4 → ⊥) → (k ≡ 5 → ⊥) → (k ≡ 7 → ⊥)
    → ret y (if eqb k 4 then b else c) ≡ (get_or (ways t f b) k (stepping f fail)).yes y c
unfolding ways
hands_on t f b c y =
    without-row
    (λ k. (k ≡ 1 → ⊥) → (k ≡ 2 → ⊥) → (k ≡ 4 → ⊥) → (k ≡ 5 → ⊥) → (k ≡ 7 → ⊥)
    → ret y (if eqb k 4 then b else c) ≡ (get_or (ways t f b) k (stepping f fail)).yes y c)
    (λ n1 n2 n4 n5 n7. refl) (λ n1 n2 n4 n5 n7. absurd (n1 refl)) (λ n1 n2 n4 n5 n7. absurd (n2 refl)) (λ n1 n2 n4 n5 n7. refl)
    (λ n1 n2 n4 n5 n7. absurd (n4 refl)) (λ n1 n2 n4 n5 n7. absurd (n5 refl)) (λ n1 n2 n4 n5 n7. refl) (λ n1 n2 n4 n5 n7. absurd (n7 refl))

pub fails-too : (t : List ℕ) (f : Frame) (b : Bindings ℕ) (k : ℕ) → k < 8 → (k ≡ 3 → ⊥) → (k ≡ 5 → ⊥) → (k ≡ 6 → ⊥)
    → fail ≡ (get_or (ways t f b) k (stepping f fail)).no
unfolding ways
fails-too t f b =
    without-row (λ k. (k ≡ 3 → ⊥) → (k ≡ 5 → ⊥) → (k ≡ 6 → ⊥) → fail ≡ (get_or (ways t f b) k (stepping f fail)).no)
    (λ n3 n5 n6. refl) (λ n3 n5 n6. refl) (λ n3 n5 n6. refl) (λ n3 n5 n6. absurd (n3 refl))
    (λ n3 n5 n6. refl) (λ n3 n5 n6. absurd (n5 refl)) (λ n3 n5 n6. absurd (n6 refl)) (λ n3 n5 n6. refl)

-- ---- a child has succeeded, or failed

module _ (t : List ℕ) (f : Frame) (h : Head) (s : Seen) (o : OfHead f h) (n : OfSeen f s) where
  pub few-kids : length (kids f.row) ≡ s.count
  few-kids = kids-length f.row n.long ∙ sym n.count

  -- the first operand, and the operand beside the next child
  pub first-operand : {one : ℕ} → one ≡ word_at t h.x 2 → one ≡ word_at t f.x 2
  first-operand e = e ∙ ap (λ (x : ℕ). word_at t x 2) (sym o.x)

  pub next-operand : {one : ℕ} → one ≡ word_at t h.x (3 + s.at) → s.at + 1 < 6 → one ≡ get_or (six t f.x) (f.at + 1) 0
  next-operand {one} e l =
      e ∙ (λ z. word_at t (sym o.x z) (3 + sym n.at z)) ∙ ap (word_at t f.x) (omega arith)
      ∙ sym (six-at t f.x (f.at + 1) (omega (arith, n.at)))

  pub next-mate : s.mate ≡ get_or (drop 2 f.other) (f.at + 1) 0
  next-mate = n.mate ∙ ap (λ (i : ℕ). get_or f.other i 0) (omega arith) ∙ sym (get_or-drop 2 f.other (f.at + 1) 0)

  module _ (y : ℕ) (g : Frame) (b c : Bindings ℕ) (r : Turn) where
    abbrev walked_row : List ℕ
    walked_row = set f.row (2 + f.at) y

    -- a walk goes on to the next child
    pub walker-on : (k m : ℕ) (q : ℕ → ℕ → Bindings ℕ → Visit ℕ) (xs : List ℕ) (d : ℕ → List ℕ → Bindings ℕ → Do ℕ) {one next : ℕ}
        {v : Visit ℕ}
        → h.what ≡ k → r ≡ Next (asking-for m k one next) → s.at + 1 < s.count → s.at + 1 < length xs
        → v ≡ q (get_or xs (f.at + 1) 0) (get_or f.row (3 + f.at) 0) c
        → plan_of t (Next (asking-for m k one next)) (filled f y) g b c ≡ ask keep v (after q xs d ((f.at + 1) % 8) walked_row) fail
        → (get_or (ways t f b) k (stepping f fail)).yes y c ≡ after q xs d f.at f.row y c
        → plan_of t r (filled f y) g b c ≡ (way_of t f b).yes y c
    walker-on k m q xs d what e l j v p w =
        ap (λ r. plan_of t r (filled f y) g b c) e ∙ p
        ∙ (λ z. ask keep (v z) (after q xs d ((f.at + 1) % 8) walked_row) fail)
        ∙ walks-on f.row n.long f.at y q xs d c (omega (arith, few-kids, n.at)) (omega (arith, n.at))
        ∙ sym (ap (λ w. w.yes y c) (way-is t f b k (o.what ∙ what)) ∙ w)

    -- SOME goes on to the next child
    pub some-walks-on : (k : ℕ) {one : ℕ} → h.what ≡ k → r ≡ Next (asking-for 0 10 one s.next) → s.at + 1 < s.count
        → one ≡ word_at t h.x 2
        → (get_or (ways t f b) k (stepping f fail)).yes y c ≡ given (word_at t f.x 2) f.y f.at f.row y c
        → plan_of t r (filled f y) g b c ≡ (way_of t f b).yes y c
    unfolding plan_of way_of ways visit_of
    some-walks-on k {one} what e l i w =
        let j : one ≡ word_at t f.x 2 = first-operand i in
        let m : s.next ≡ get_or walked_row (3 + f.at) 0 = n.next ∙ sym (get_or-set_other f.row (2 + f.at) (3 + f.at) y 0 (λ e. omega arith)) in
        let a : f.at < length (kids f.row) = omega (arith, few-kids, n.at) in
        let u : suc f.at < length (kids walked_row) = rw (kids-set f.row n.long f.at y a) (simp length-set (omega (arith, few-kids, n.at))) in
        ap (λ r. plan_of t r (filled f y) g b c) e
        ∙ (λ z. ask keep (apply (j z) (m z) c) (given (word_at t f.x 2) f.y ((f.at + 1) % 8) walked_row)
        (tried (word_at t f.x 2) f.y c true ((f.at + 1) % 8) walked_row))
        ∙ tries-on walked_row (length-set f.row (2 + f.at) y ∙ n.long) f.at y (word_at t f.x 2) f.y c true u
        ∙ given_is f.row n.long f.at y (word_at t f.x 2) f.y c a
        ∙ sym (ap (λ w. w.yes y c) (way-is t f b k (o.what ∙ what)) ∙ w)

    -- the node is made anew: PATH, ONE, and what no word `what` means
    steps-yes : (k : ℕ) → 7 < k → (k ≡ 9 → ⊥) → (k ≡ 10 → ⊥) → (k ≡ 12 → ⊥) → (k ≡ 13 → ⊥) → (k ≡ 14 → ⊥) → (k ≡ 15 → ⊥) → (k ≡ 16 → ⊥)
        → (get_or (ways t f b) k (stepping f fail)).yes y c ≡ anew f.y f.at f.row y c
    unfolding ways
    steps-yes =
        with_row
        (λ k. (k ≡ 9 → ⊥) → (k ≡ 10 → ⊥) → (k ≡ 12 → ⊥) → (k ≡ 13 → ⊥) → (k ≡ 14 → ⊥) → (k ≡ 15 → ⊥) → (k ≡ 16 → ⊥)
        → (get_or (ways t f b) k (stepping f fail)).yes y c ≡ anew f.y f.at f.row y c)
        (λ n9 n10 n12 n13 n14 n15 n16. refl) (λ n9 n10 n12 n13 n14 n15 n16. absurd (n9 refl))
        (λ n9 n10 n12 n13 n14 n15 n16. absurd (n10 refl))
        (λ n9 n10 n12 n13 n14 n15 n16. refl) (λ n9 n10 n12 n13 n14 n15 n16. absurd (n12 refl))
        (λ n9 n10 n12 n13 n14 n15 n16. absurd (n13 refl))
        (λ n9 n10 n12 n13 n14 n15 n16. absurd (n14 refl)) (λ n9 n10 n12 n13 n14 n15 n16. absurd (n15 refl))
        (λ n9 n10 n12 n13 n14 n15 n16. absurd (n16 refl)) (λ j n9 n10 n12 n13 n14 n15 n16. refl)

    pub step-made : (k : ℕ) → 7 < k → (k ≡ 9 → ⊥) → (k ≡ 10 → ⊥) → (k ≡ 12 → ⊥) → (k ≡ 13 → ⊥) → (k ≡ 14 → ⊥) → (k ≡ 15 → ⊥) → (k ≡ 16 → ⊥)
        → h.what ≡ k → r ≡ Made → s.at < s.count → plan_of t r (filled f y) g b c ≡ (way_of t f b).yes y c
    unfolding plan_of
    step-made k l n9 n10 n12 n13 n14 n15 n16 what e m =
        ap (λ r. plan_of t r (filled f y) g b c) e
        ∙ made-anew f.row n.long f.at y f.y c (omega (arith, few-kids, n.at))
        ∙ sym (ap (λ w. w.yes y c) (way-is t f b k (o.what ∙ what)) ∙ steps-yes k l n9 n10 n12 n13 n14 n15 n16)

    -- a child that the row does not have
    pub beyond-lost : (k : ℕ) → 7 < k → h.what ≡ k → r ≡ Failed → s.count ≤ s.at
        → plan_of t r (filled f y) g b c ≡ (way_of t f b).yes y c
    unfolding plan_of ways
    beyond-lost k l what e m =
        ap (λ r. plan_of t r (filled f y) g b c) e ∙ sym (ap (λ w. w.yes y c) (way-is t f b k (o.what ∙ what)) ∙ go k l)
      where
        no-kid : (p : Do ℕ) → within f.at (kids f.row) p ≡ fail
        no-kid p = ap (λ (z : Bool). if z then p else fail) (le-ltb f.at (length (kids f.row)) (omega (arith, few-kids, n.at)))

        go : (k : ℕ) → 7 < k → (get_or (ways t f b) k (stepping f fail)).yes y c ≡ fail
        go =
            with_row (λ k. (get_or (ways t f b) k (stepping f fail)).yes y c ≡ fail)
            (no-kid _) (no-kid _) (no-kid _) (no-kid _) (no-kid _) (no-kid _) (no-kid _) (no-kid _) (no-kid _) (λ j. no-kid _)

    -- the last child
    module _ (l : s.at < s.count) (m : s.count ≤ s.at + 1) where
      inside : f.at < length (kids f.row)
      inside = omega (arith, few-kids, n.at)

      last_one : length (kids f.row) ≤ suc f.at
      last_one = omega (arith, few-kids, n.at)

      -- a walk whose children's terms are of no account
      pub walker-done : (k : ℕ) (q : ℕ → ℕ → Bindings ℕ → Visit ℕ) (xs : List ℕ) → h.what ≡ k → r ≡ Done h.y
          → (get_or (ways t f b) k (stepping f fail)).yes y c ≡ after q xs (λ n hs d. ret f.y d) f.at f.row y c
          → plan_of t r (filled f y) g b c ≡ (way_of t f b).yes y c
      unfolding plan_of
      walker-done k q xs what e w =
          ap (λ r. plan_of t r (filled f y) g b c) e
          ∙ ap (λ (y : ℕ). ret y c) (sym o.y)
          ∙ walks-over f.row n.long f.at y q xs (λ n hs d. ret f.y d) c inside last_one
          ∙ sym (ap (λ w. w.yes y c) (way-is t f b k (o.what ∙ what)) ∙ w)

      abbrev made_row : Do ℕ
      made_row = make (get_or walked_row 0 0) (kids walked_row) (λ n. ret n c)

      -- a row that is made is that of a node with children
      made_again : made_row ≡ again f.y (get_or walked_row 0 0) (kids walked_row) c
      made_again =
          sym (again-made f.y (get_or walked_row 0 0) (kids walked_row) c
          (rw (kids-set f.row n.long f.at y inside) (simp length-set (omega (arith, inside)))))

      walked-made : (q : ℕ → ℕ → Bindings ℕ → Visit ℕ) (xs : List ℕ) → made_row ≡ after q xs (again f.y) f.at f.row y c
      walked-made q xs =
          made_again ∙ ap (λ (n : ℕ). again f.y n (kids walked_row) c) (name_set f.row f.at y)
          ∙ walks-over f.row n.long f.at y q xs (again f.y) c inside last_one

      some-made : (e : ℕ) → made_row ≡ given e f.y f.at f.row y c
      unfolding when
      some-made e =
          made_again
          ∙ tries-over walked_row (length-set f.row (2 + f.at) y ∙ n.long) f.at y e f.y c true
          (rw (kids-set f.row n.long f.at y inside) (simp length-set inside))
          (rw (kids-set f.row n.long f.at y inside) (simp length-set last_one))
          ∙ given_is f.row n.long f.at y e f.y c inside

      pub last_made : (k : ℕ) → 7 < k → (k ≡ 14 → ⊥) → (k ≡ 16 → ⊥) → h.what ≡ k → r ≡ Made
          → plan_of t r (filled f y) g b c ≡ (way_of t f b).yes y c
      unfolding plan_of ways
      last_made k j n14 n16 what e =
          ap (λ r. plan_of t r (filled f y) g b c) e ∙ go k j n14 n16 ∙ sym (ap (λ w. w.yes y c) (way-is t f b k (o.what ∙ what)))
        where
          stepped-made : made_row ≡ anew f.y f.at f.row y c
          stepped-made = made-anew f.row n.long f.at y f.y c inside

          built-made : made_row ≡ after (λ p h. build p f.y) (six t f.x) makes f.at f.row y c
          built-made =
              ap (λ (n : ℕ). make n (kids walked_row) (λ m. ret m c)) (name_set f.row f.at y)
              ∙ walks-over f.row n.long f.at y (λ p h. build p f.y) (six t f.x) makes c inside last_one

          go : (k : ℕ) → 7 < k → (k ≡ 14 → ⊥) → (k ≡ 16 → ⊥) → made_row ≡ (get_or (ways t f b) k (stepping f fail)).yes y c
          go =
              with_row (λ k. (k ≡ 14 → ⊥) → (k ≡ 16 → ⊥) → made_row ≡ (get_or (ways t f b) k (stepping f fail)).yes y c)
              (λ n14 n16. stepped-made) (λ n14 n16. some-made (word_at t f.x 2)) (λ n14 n16. some-made (word_at t f.x 2))
              (λ n14 n16. stepped-made)
              (λ n14 n16. walked-made (λ o h. apply (word_at t f.x 2) h) (six t f.x)) (λ n14 n16. walked-made apply (six t f.x))
              (λ n14 n16. absurd (n14 refl)) (λ n14 n16. built-made) (λ n14 n16. absurd (n16 refl)) (λ j n14 n16. stepped-made)

  -- a child has failed
  module _ (g : Frame) (b : Bindings ℕ) (r : Turn) where
    -- PATH, ALL, CONG, a PCON, a pair, and what no word `what` means
    pub lost-above : (k : ℕ) → 10 < k → h.what ≡ k → r ≡ Failed → plan_of t r f g b b ≡ (way_of t f b).no
    unfolding plan_of ways
    lost-above k l what e = recovers t f b r g k _ (o.what ∙ what) e (go k (omega arith) l)
      where
        go : (k : ℕ) → 7 < k → 10 < k → fail ≡ (get_or (ways t f b) k (stepping f fail)).no
        go =
            with_row (λ k. 10 < k → fail ≡ (get_or (ways t f b) k (stepping f fail)).no)
            (λ l. absurd (omega arith)) (λ l. absurd (omega arith)) (λ l. absurd (omega arith))
            (λ l. refl) (λ l. refl) (λ l. refl) (λ l. refl) (λ l. refl) (λ l. refl) (λ j l. refl)

    pub one-or-some : (k : ℕ) (P : ℕ → Type 0) → 7 < k → k ≤ 10 → P 8 → P 9 → P 10 → P k
    one-or-some k P l m p8 p9 p10 =
        with_row (λ k. k ≤ 10 → P k) (λ m. p8) (λ m. p9) (λ m. p10)
        (λ m. absurd (omega arith)) (λ m. absurd (omega arith)) (λ m. absurd (omega arith)) (λ m. absurd (omega arith))
        (λ m. absurd (omega arith)) (λ m. absurd (omega arith)) (λ j m. absurd (omega arith)) k l m

    -- ONE and SOME try the next child
    pub next-tried : {one : ℕ} → 7 < h.what → h.what ≤ 10 → r ≡ Next (asking-for 0 h.what one s.next) → s.at + 1 < s.count
        → one ≡ word_at t h.x 2
        → plan_of t r f g b b ≡ (way_of t f b).no
    unfolding plan_of way_of ways visit_of
    next-tried {one} l m e q i = go h.what l m o.what e
      where
        j : one ≡ word_at t f.x 2
        j = first-operand i

        u : suc f.at < length (kids f.row)
        u = omega (arith, few-kids, n.at)

        some-tries : (z : Bool)
            → ask keep (apply one s.next b) (given (word_at t f.x 2) f.y ((f.at + 1) % 8) f.row)
            (tried (word_at t f.x 2) f.y b z ((f.at + 1) % 8) f.row)
            ≡ tried (word_at t f.x 2) f.y b z f.at f.row
        some-tries z =
            (λ k. ask keep (apply (j k) (n.next k) b) (given (word_at t f.x 2) f.y ((f.at + 1) % 8) f.row)
            (tried (word_at t f.x 2) f.y b z ((f.at + 1) % 8) f.row))
            ∙ tries-on f.row n.long f.at 0 (word_at t f.x 2) f.y b z u

        one-tries : ask keep (apply one s.next b) (anew f.y ((f.at + 1) % 8) f.row) (first_of (word_at t f.x 2) f.y b ((f.at + 1) % 8) f.row)
            ≡ first_of (word_at t f.x 2) f.y b f.at f.row
        one-tries =
            (λ k. ask keep (apply (j k) (n.next k) b) (anew f.y ((f.at + 1) % 8) f.row) (first_of (word_at t f.x 2) f.y b ((f.at + 1) % 8) f.row))
            ∙ one-tries-on f.row n.long f.at 0 (word_at t f.x 2) f.y b u

        go : (k : ℕ) → 7 < k → k ≤ 10 → f.what ≡ k → r ≡ Next (asking-for 0 k one s.next) → plan_of t r f g b b ≡ (way_of t f b).no
        go k l m =
            one-or-some k (λ k. f.what ≡ k → r ≡ Next (asking-for 0 k one s.next) → plan_of t r f g b b ≡ (way_of t f b).no) l m
            (λ w e. recovers t f b r g 8 _ w e one-tries) (λ w e. recovers t f b r g 9 _ w e (some-tries false))
            (λ w e. recovers t f b r g 10 _ w e (some-tries true))

    -- there is no next child, and none has succeeded, or the row has not even this one
    pub none_left : 7 < h.what → h.what ≤ 10 → r ≡ Failed → s.count ≤ s.at + 1 → (h.what ≡ 10 → s.count ≤ s.at)
        → plan_of t r f g b b ≡ (way_of t f b).no
    unfolding plan_of ways when
    none_left l m e q z = go h.what l m o.what z
      where
        no-kid : (p : Do ℕ) → s.count ≤ s.at → fail ≡ within f.at (kids f.row) p
        no-kid p l =
            sym (ap (λ (z : Bool). if z then p else fail) (le-ltb f.at (length (kids f.row)) (omega (arith, few-kids, n.at))))

        none_yet : fail ≡ tried (word_at t f.x 2) f.y b false f.at f.row
        none_yet =
            ⊎_elim
            (λ l. tries-over f.row n.long f.at 0 (word_at t f.x 2) f.y b false (omega (arith, few-kids, n.at))
            (omega (arith, few-kids, n.at)))
            (λ l. no-kid _ l) (below-or-from s.at s.count)

        go : (k : ℕ) → 7 < k → k ≤ 10 → f.what ≡ k → (k ≡ 10 → s.count ≤ s.at) → plan_of t r f g b b ≡ (way_of t f b).no
        go k l m =
            one-or-some k (λ k. f.what ≡ k → (k ≡ 10 → s.count ≤ s.at) → plan_of t r f g b b ≡ (way_of t f b).no) l m
            (λ w z. recovers t f b r g 8 _ w e
            (sym (one-over (word_at t f.x 2) (kids f.row) (again f.y (get_or f.row 0 0)) f.at b
            (omega (arith, few-kids, n.at)))))
            (λ w z. recovers t f b r g 9 _ w e none_yet)
            (λ w z. recovers t f b r g 10 _ w e (no-kid _ (z refl)))

    -- one has succeeded before
    pub some-kept : h.what ≡ 10 → r ≡ Made → s.at < s.count → s.count ≤ s.at + 1 → plan_of t r f g b b ≡ (way_of t f b).no
    unfolding plan_of ways when
    some-kept what e l m =
        recovers t f b r g 10 _ (o.what ∙ what) e
        (sym (again-made f.y (get_or f.row 0 0) (kids f.row) b (omega (arith, few-kids)))
        ∙ tries-over f.row n.long f.at 0 (word_at t f.x 2) f.y b true (omega (arith, few-kids, n.at))
        (omega (arith, few-kids, n.at)))
