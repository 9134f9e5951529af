-- A frame that is written means what it was: what each word that says what a frame waits for depends on. Assumes nothing.
use mathlib.Core.Path.{◌≡◌, refl, ap, sym, ◌∙◌, subst}
use mathlib.Core.Bool.{true, false, true≢false}
use mathlib.Core.Logic.{◌⊎◌, inl, inr, ⊎_elim}
use mathlib.Core.List.{List, [], ◌∷◌}
use Prim.Native.Nat.{ℕ, zero, suc, ◌+◌, ◌*◌, ◌/◌, ◌%◌, ◌<◌, ◌≤◌}
use native.Mathlib.Omega.{arith}
use borrow.Author.Tests.{eq-eqb, ne_eqb}
use lib.ListN.{length, get_or}
use Rattle.words.specs.Words.{word_at, put_row}
use Rattle.words.proofs.Rows.{length-put_row}
use Rattle.meaning.specs.Bindings.{Bindings}
use Rattle.turns.specs.Ways.{record_from, held_at, row_of, row_to_build, Frame, ways, way_of, saves, opened, next_of}
use Rattle.turns.specs.declared.turn.Asked.{Asked}
use Rattle.machine.specs.Stack.{row_at, frame_at}
use Rattle.machine.specs.Machine.{head_of, Keeps, Opened}
use Rattle.machine.proofs.Holding.{held_same}
use Rattle.machine.proofs.Rowing.{row_same, row_put, row_kept, place_kept}

abbrev frame : ℕ → ℕ → ℕ → ℕ → List ℕ → List ℕ → Frame
frame k x y i r o = record { what = k; x = x; y = y; at = i; row = r; other = o }

-- the row is of no account below 8, the other row but at 16, the bindings where they are not kept
pub same_way : (t : List ℕ) (k x y i : ℕ) (r r' o o' : List ℕ) (b b' : Bindings ℕ)
    → (saves k ≡ true → b ≡ b') → (7 < k → r ≡ r') → (k ≡ 16 → o ≡ o') → way_of t (frame k x y i r o) b ≡ way_of t (frame k x y i r' o') b'
unfolding way_of ways
same_way t zero x y i r r' o o' b b' h g e = refl
same_way t (suc zero) x y i r r' o o' b b' h g e = refl
same_way t (suc (suc zero)) x y i r r' o o' b b' h g e = refl
same_way t (suc (suc (suc zero))) x y i r r' o o' b b' h g e = refl
same_way t (suc (suc (suc (suc zero)))) x y i r r' o o' b b' h g e = ap (λ b. way_of t (frame 4 x y i r o) b) (h refl)
same_way t (suc (suc (suc (suc (suc zero))))) x y i r r' o o' b b' h g e = ap (λ b. way_of t (frame 5 x y i r o) b) (h refl)
same_way t (suc (suc (suc (suc (suc (suc zero)))))) x y i r r' o o' b b' h g e = ap (λ b. way_of t (frame 6 x y i r o) b) (h refl)
same_way t (suc (suc (suc (suc (suc (suc (suc zero))))))) x y i r r' o o' b b' h g e = ap (λ b. way_of t (frame 7 x y i r o) b) (h refl)
same_way t (suc (suc (suc (suc (suc (suc (suc (suc zero)))))))) x y i r r' o o' b b' h g e = λ z. way_of t (frame 8 x y i (g (omega arith)
    z) o) (h refl z)
same_way t (suc (suc (suc (suc (suc (suc (suc (suc (suc zero))))))))) x y i r r' o o' b b' h g e = λ z. way_of t (frame 9 x y i (g (omega
    arith) z) o) (h refl z)
same_way t (suc (suc (suc (suc (suc (suc (suc (suc (suc (suc zero)))))))))) x y i r r' o o' b b' h g e = λ z. way_of t (frame 10 x y i (g
    (omega arith) z) o) (h refl z)
same_way t (suc (suc (suc (suc (suc (suc (suc (suc (suc (suc (suc zero))))))))))) x y i r r' o o' b b' h g e = λ z. way_of t (frame 11 x y i
    (g (omega arith) z) o) b
same_way t (suc (suc (suc (suc (suc (suc (suc (suc (suc (suc (suc (suc zero)))))))))))) x y i r r' o o' b b' h g e = λ z. way_of t (frame 12
    x y i (g (omega arith) z) o) b
same_way t (suc (suc (suc (suc (suc (suc (suc (suc (suc (suc (suc (suc (suc zero))))))))))))) x y i r r' o o' b b' h g e = λ z. way_of t
    (frame 13 x y i (g (omega arith) z) o) b
same_way t (suc (suc (suc (suc (suc (suc (suc (suc (suc (suc (suc (suc (suc (suc zero)))))))))))))) x y i r r' o o' b b' h g e = λ z. way_of
    t (frame 14 x y i (g (omega arith) z) o) b
same_way t (suc (suc (suc (suc (suc (suc (suc (suc (suc (suc (suc (suc (suc (suc (suc zero))))))))))))))) x y i r r' o o' b b' h g e = λ z.
    way_of t (frame 15 x y i (g (omega arith) z) o) b
same_way t (suc (suc (suc (suc (suc (suc (suc (suc (suc (suc (suc (suc (suc (suc (suc (suc zero)))))))))))))))) x y i r r' o o' b b' h g e
    = λ z. way_of t (frame 16 x y i (g (omega arith) z) (e refl z)) b
same_way t (suc (suc (suc (suc (suc (suc (suc (suc (suc (suc (suc (suc (suc (suc (suc (suc (suc k))))))))))))))))) x y i r r' o o' b b' h g
    e =
    λ z. way_of t (frame (suc (suc (suc (suc (suc (suc (suc (suc (suc (suc (suc (suc (suc (suc (suc (suc (suc k))))))))))))))))) x y i (g
    (omega arith) z) o) b

-- a list with this head, row and other row, in which the bindings are kept where they should be
pub opened-by : (k k' : List ℕ) (r what x y i mark m : ℕ) (hs os : List ℕ) (b : Bindings ℕ) → length k' ≡ length k
    → ((j : ℕ) → (j < 8 * r) ⊎ (8 * r + 80 ≤ j) → get_or k' j 0 ≡ get_or k j 0)
    → row_at k' r ≡ head_of what x y i mark m → (7 < what → row_at k' (r + 1) ≡ hs) → (what ≡ 16 → row_at k' (r + 2) ≡ os) → (saves what ≡ true
    → held_at k' (8 * (r + 2)) m ≡ b)
    → Opened k r (frame what x y (i % 8) hs os) b mark k'
opened-by k k' r what x y i mark m hs os b l f a row other kept = record {
  long = l;
  other = f;
  way = λ t. (λ z. way_of t (frame (get_or (a z) 0 0) (get_or (a z) 1 0) (get_or (a z) 2 0) (get_or (a z) 3 0 % 8) (row_at k' (r + 1)) (row_at k' (r +
      2))) (held_at k' (8 * (r + 2)) (get_or (a z) 5 0 + 4294967296 * get_or (a z) 6 0)))
      ∙ same_way t what x y (i % 8) (row_at k' (r + 1)) hs (row_at k' (r + 2)) os (held_at k' (8 * (r + 2)) (m % 4294967296 + 4294967296 * (m
      / 4294967296))) b
      (λ s. ap (λ (n : ℕ). held_at k' (8 * (r + 2)) n) whole ∙ kept s) row other;
  mark = ap (λ l. get_or l 4 0) a;
}
  where
    whole : m % 4294967296 + 4294967296 * (m / 4294967296) ≡ m
    whole = omega arith

-- the head is put, and bindings are kept
module _ (k k₁ k₂ : List ℕ) (r what x y i mark m : ℕ) (room : r + 10 ≤ 40950) (long : 327680 ≤ length k)
    (e₁ : k₁ ≡ put_row k r (head_of what x y i mark m)) (e₂ : Keeps k₁ r what m k₂) where
  inside : 8 * r + 8 ≤ length k
  inside = omega arith

  pub long-head : length k₁ ≡ length k
  long-head = ap length e₁ ∙ length-put_row k r (head_of what x y i mark m) inside refl

  pub long_kept : length k₂ ≡ length k
  long_kept = e₂.long ∙ long-head

  -- words elsewhere, and rows r and r + 1
  pub elsewhere : (j : ℕ) → (j < 8 * r) ⊎ (8 * r + 80 ≤ j) → get_or k₂ j 0 ≡ get_or k j 0
  elsewhere j h = e₂.other j (⊎_elim (λ l. inl (omega arith)) (λ l. inr (omega arith)) h) ∙ ap (λ l. get_or l j 0) e₁ ∙ place_kept k r
      (head_of what x y i mark m) inside refl j (⊎_elim (λ l. inl (omega arith)) (λ l. inr (omega arith)) h)

  pub head-stays : row_at k₂ r ≡ head_of what x y i mark m
  head-stays = row_same k₂ k₁ r r (λ j l. e₂.other (8 * r + j) (inl (omega arith))) ∙ ap (λ l. row_at l r) e₁ ∙ row_put k r (head_of what x
      y i mark m) inside refl

  pub row_stays : row_at k₂ (r + 1) ≡ row_at k (r + 1)
  row_stays = row_same k₂ k₁ (r + 1) (r + 1) (λ j l. e₂.other (8 * (r + 1) + j) (inl (omega arith))) ∙ ap (λ l. row_at l (r + 1)) e₁ ∙
      row_kept k r (head_of what x y i mark m) inside refl (r + 1) (λ z. omega arith)

  pub other-stays : saves what ≡ false → row_at k₂ (r + 2) ≡ row_at k (r + 2)
  other-stays s = ap (λ l. row_at l (r + 2)) (e₂.none s ∙ e₁) ∙ row_kept k r (head_of what x y i mark m) inside refl (r + 2) (λ z. omega
      arith)

  pub bindings-kept : saves what ≡ true → held_at k₂ (8 * (r + 2)) m ≡ held_at k record_from m
  bindings-kept s = e₂.kept s ∙ held_same k k₁ record_from record_from m (λ v l _. ap (λ l. get_or l (record_from + v) 0) e₁ ∙ place_kept k r
      (head_of what x y i mark m) inside refl (record_from + v) (inr (omega arith)))

-- at 16 no bindings are kept
pub saves-16 : (k : ℕ) → k ≡ 16 → saves k ≡ false
saves-16 k e = rw e refl

-- the row that is opened
pub built-row : (t w hs : List ℕ) (x y : ℕ) (a : Asked) → a.what ≡ 15 → hs ≡ row_to_build t x → hs ≡ (opened t w x y a).row
built-row t w hs x y a e h = h ∙ rw (eq-eqb a.what 15 e) refl

pub node_row : (t w hs : List ℕ) (x y : ℕ) (a : Asked) → (a.what ≡ 15 → ⊥) → hs ≡ row_of w y → hs ≡ (opened t w x y a).row
node_row t w hs x y a e h = h ∙ rw (ne_eqb a.what 15 e) refl

-- the visit m opens its frame
module _ (t w k k₁ k₂ : List ℕ) (r x y mark m : ℕ) (a : Asked) (room : r + 10 ≤ 40950) (long : 327680 ≤ length k)
    (e₁ : k₁ ≡ put_row k r (head_of a.what x y a.at mark m)) (e₂ : Keeps k₁ r a.what m k₂) where
  pub opened-plain : a.what < 8 → Opened k r (opened t w x y a) (held_at k record_from m) mark k₂
  opened-plain h =
      opened-by k k₂ r a.what x y a.at mark m _ _ (held_at k record_from m) (long_kept k k₁ k₂ r a.what x y a.at mark m room long
      e₁ e₂) (elsewhere k k₁ k₂ r a.what x y a.at mark m room long e₁ e₂)
      (head-stays k k₁ k₂ r a.what x y a.at mark m room long e₁ e₂) (λ g. absurd (omega arith)) (λ g. absurd (omega arith))
      (bindings-kept k k₁ k₂ r a.what x y a.at mark m room long e₁ e₂)

  -- a row is put after the head
  module _ (k₃ hs : List ℕ) (eight : length hs ≡ 8) (e₃ : k₃ ≡ put_row k₂ (r + 1) hs) where
    in_row : 8 * (r + 1) + 8 ≤ length k₂
    in_row = omega (arith, long_kept k k₁ k₂ r a.what x y a.at mark m room long e₁ e₂)

    pub long-row : length k₃ ≡ length k
    long-row = ap length e₃ ∙ length-put_row k₂ (r + 1) hs in_row eight ∙ long_kept k k₁ k₂ r a.what x y a.at mark m room long e₁ e₂

    row-elsewhere : (j : ℕ) → (j < 8 * r) ⊎ (8 * r + 80 ≤ j) → get_or k₃ j 0 ≡ get_or k j 0
    row-elsewhere j h = ap (λ l. get_or l j 0) e₃ ∙ place_kept k₂ (r + 1) hs in_row eight j (⊎_elim (λ l. inl (omega arith)) (λ l. inr (omega
        arith)) h) ∙ elsewhere k k₁ k₂ r a.what x y a.at mark m room long e₁ e₂ j h

    row-head : row_at k₃ r ≡ head_of a.what x y a.at mark m
    row-head = ap (λ l. row_at l r) e₃ ∙ row_kept k₂ (r + 1) hs in_row eight r (λ z. omega arith) ∙ head-stays k k₁ k₂ r a.what x y a.at mark m room long e₁ e₂

    row-there : row_at k₃ (r + 1) ≡ hs
    row-there = ap (λ l. row_at l (r + 1)) e₃ ∙ row_put k₂ (r + 1) hs in_row eight

    row-bindings : saves a.what ≡ true → held_at k₃ (8 * (r + 2)) m ≡ held_at k record_from m
    row-bindings s =
        held_same k₂ k₃ (8 * (r + 2)) (8 * (r + 2)) m (λ v l _. ap (λ l. get_or l (8 * (r + 2) + v) 0) e₃ ∙ place_kept k₂ (r + 1) hs in_row
        eight (8 * (r + 2) + v) (inr (omega arith)))
        ∙ bindings-kept k k₁ k₂ r a.what x y a.at mark m room long e₁ e₂ s

    pub opened-row : (a.what ≡ 16 → ⊥) → hs ≡ (opened t w x y a).row → Opened k r (opened t w x y a) (held_at k record_from m) mark k₃
    opened-row n h =
        opened-by k k₃ r a.what x y a.at mark m _ _ (held_at k record_from m) long-row row-elsewhere row-head (λ _. row-there ∙ h) (λ
        g. absurd (n g)) row-bindings

    -- and the other
    pub opened-pair : {k₄ os : List ℕ} → length os ≡ 8 → k₄ ≡ put_row k₃ (r + 2) os → a.what ≡ 16 → hs ≡ (opened t w x y a).row → os ≡ row_of
        w x → Opened k r (opened t w x y a) (held_at k record_from m) mark k₄
    opened-pair {k₄} {os} l e₄ n h o =
        let in-other : 8 * (r + 2) + 8 ≤ length k₃ = omega (arith, long-row) in
        opened-by k k₄ r a.what x y a.at mark m _ _ (held_at k record_from m)
        (ap length e₄ ∙ length-put_row k₃ (r + 2) os in-other l ∙ long-row)
        (λ j h. ap (λ l. get_or l j 0) e₄ ∙ place_kept k₃ (r + 2) os in-other l j (⊎_elim (λ l. inl (omega arith)) (λ l. inr (omega arith))
        h) ∙ row-elsewhere j h)
        (ap (λ l. row_at l r) e₄ ∙ row_kept k₃ (r + 2) os in-other l r (λ z. omega arith) ∙ row-head)
        (λ _. ap (λ l. row_at l (r + 1)) e₄ ∙ row_kept k₃ (r + 2) os in-other l (r + 1) (λ z. omega arith) ∙ row-there ∙ h)
        (λ _. ap (λ l. row_at l (r + 2)) e₄ ∙ row_put k₃ (r + 2) os in-other l ∙ o)
        (λ s. absurd (true≢false (sym s ∙ saves-16 a.what n)))

-- a frame goes on to its next child
pub moved_on : (k k₁ k₂ : List ℕ) (r what mark m : ℕ) (x y i : ℕ) (a : Asked) → r + 10 ≤ 40950 → 327680 ≤ length k
    → k₁ ≡ put_row k r (head_of what x y i mark m) → Keeps k₁ r what m k₂ → a.what ≡ what → x ≡ word_at k r 1 → y ≡ word_at k r 2 → i ≡ word_at
    k r 3 % 8 + 1
    → Opened k r (next_of (frame_at k r) a) (held_at k record_from m) mark k₂
moved_on k k₁ k₂ r what mark m x y i a room long e₁ e₂ n ex ey ei =
    let o : Opened k r (frame what x y (i % 8) (row_at k (r + 1)) (row_at k (r + 2))) (held_at k record_from m) mark k₂ =
    opened-by k k₂ r what x y i mark m (row_at k (r + 1)) (row_at k (r + 2)) (held_at k record_from m) (long_kept k k₁ k₂ r what x y i mark m
    room long e₁ e₂) (elsewhere k k₁ k₂ r what x y i mark m room long e₁ e₂)
    (head-stays k k₁ k₂ r what x y i mark m room long e₁ e₂) (λ _. row_stays k k₁ k₂ r what x y i mark m room long e₁ e₂)
    (λ g. other-stays k k₁ k₂ r what x y i mark m room long e₁ e₂ (saves-16 what g)) (bindings-kept k k₁ k₂ r what x y i mark m room long
    e₁ e₂) in
    subst (λ f. Opened k r f (held_at k record_from m) mark k₂) (λ z. frame (sym n z) (ex z) (ey z) (ei z % 8) (row_at k (r + 1)) (row_at k (r
    + 2))) o
