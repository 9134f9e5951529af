-- The chains: what the newest node is, what a search along a chain finds, and that link and unlink keep the index. Assumes nothing.
use Rattle.std.proofs.Common.{◌≡◌, ℕ, zero, suc, ◌+◌, ◌-◌, ◌<◌, ◌≤◌, Bool, true, false, eqb, ◌⊎◌, List, length, get_or, set, sym, refl, ap, ◌∙◌, subst, inl, inr, add-one, arith, length-set, get_or-set_other, get_or-set_same, eq-eqb, ne_eqb, eqb-true, if◌then◌else◌}
use mathlib.Core.Option.{none, some}
use native.Mathlib.Decide.{ℕ_discrete}
use borrow.Author.Tests.{eqb-false}
use Rattle.words.proofs.Tests.{below-or-from}
use Rattle.meaning.specs.Shared.{eight, alike, node_with}
use Rattle.index.specs.Key.{home, place}
use Rattle.index.specs.Chains.{newest, Indexed, linked, unlinked}
use Rattle.index.proofs.Keying.{home_below, differ}

module _ (w : List ℕ) (n : ℕ) where
  newest-same : (p m : ℕ) → place w n m ≡ p → newest w n p (suc m) ≡ suc m
  unfolding newest
  newest-same p m e = rw (eq-eqb (place w n m) p e)

  newest-other : (p m : ℕ) → (place w n m ≡ p → ⊥) → newest w n p (suc m) ≡ newest w n p m
  unfolding newest
  newest-other p m e = rw (ne_eqb (place w n m) p e)

  pub newest-below : (p m : ℕ) → newest w n p m ≤ m
  unfolding newest
  newest-below p zero = omega arith
  newest-below p (suc m) = go (newest-below p m) (eqb (place w n m) p)
    where
      go : newest w n p m ≤ m → (t : Bool) → (if t then suc m else newest w n p m) ≤ suc m
      go i true = omega arith
      go i false = omega arith

  -- its place is p
  pub newest-place : (p m k : ℕ) → newest w n p m ≡ suc k → place w n k ≡ p
  unfolding newest
  newest-place p zero k e = absurd (omega arith)
  newest-place p (suc m) k e = go (newest-place p m k) (eqb (place w n m) p) refl e
    where
      go : (newest w n p m ≡ suc k → place w n k ≡ p) → (t : Bool) → eqb (place w n m) p ≡ t → (if t then suc m else newest w n p m) ≡ suc k → place w n k ≡ p
      go i true z f = let s : m ≡ k = omega arith in subst (λ j. place w n j ≡ p) s (eqb-true _ _ z)
      go i false z f = i f

  -- the nodes after the newest at its place do not have the words
  pub node_with-newest : (r : List ℕ) (m : ℕ) → node_with w r m ≡ node_with w r (newest w n (home n r) m)
  unfolding newest node_with
  node_with-newest r zero = refl
  node_with-newest r (suc m) = go (node_with-newest r m) (eqb (place w n m) (home n r)) refl
    where
      go : node_with w r m ≡ node_with w r (newest w n (home n r) m) → (t : Bool) → eqb (place w n m) (home n r) ≡ t
          → (if alike (eight w m) r then some m else node_with w r m) ≡ node_with w r (if t then suc m else newest w n (home n r) m)
      go i true z = refl
      go i false z =
          let no : alike (eight w m) r ≡ false = differ (eight w m) r (λ e. eqb-false _ _ z (ap (home n) e)) in
          rw no i

  -- node k has the words, or it has not
  pub node_with-yes : (r : List ℕ) (k : ℕ) → alike (eight w k) r ≡ true → node_with w r (suc k) ≡ some k
  unfolding node_with
  node_with-yes r k e = rw e

  pub node_with-no : (r : List ℕ) (k : ℕ) → alike (eight w k) r ≡ false → node_with w r (suc k) ≡ node_with w r k
  unfolding node_with
  node_with-no r k e = rw e

-- the newest go by the places of the nodes
newest-words : (w w' : List ℕ) (n p m : ℕ) → ((k : ℕ) → k < m → eight w' k ≡ eight w k) → newest w' n p m ≡ newest w n p m
unfolding newest
newest-words w w' n p zero f = refl
newest-words w w' n p (suc m) f =
    (λ i. if eqb (home n (f m (omega arith) i)) p then suc m else newest w' n p m)
    ∙ ap (λ z. if eqb (place w n m) p then suc m else z) (newest-words w w' n p m (λ k h. f k (omega arith)))

pub length-linked : (x : List ℕ) (at n p k : ℕ) → length (linked x at n p k) ≡ length x
unfolding linked
length-linked x at n p k = simp length-set

module _ {w x : List ℕ} {at n : ℕ} where
  -- other words with the same nodes below m, other words with the same index
  pub indexed-moves : {m : ℕ} (w' x' : List ℕ) → Indexed w x at n m → ((k : ℕ) → k < m → eight w' k ≡ eight w k) → length x ≤ length x'
      → ((i : ℕ) → at ≤ i → get_or x' i 0 ≡ get_or x i 0) → Indexed w' x' at n m
  indexed-moves {m} w' x' i f l g = record {
    long = omega (arith, i.long);
    some = i.some;
    fits = i.fits;
    heads = λ p h. g (at + p) (omega arith) ∙ i.heads p h ∙ sym (newest-words w w' n p m f);
    nexts = λ k h. g (at + n + k) (omega arith) ∙ i.nexts k h ∙ sym (newest-words w w' n (place w n k) k (λ j b. f j (omega arith))) ∙ ap (λ r. newest w' n (home n r) k) (sym (f k h));
  }

  -- nothing is in it
  pub indexed-none : at + n + n ≤ length x → 0 < n → ((p : ℕ) → p < n → get_or x (at + p) 0 ≡ 0) → Indexed w x at n 0
  unfolding newest
  indexed-none l s z = record { long = l; some = s; fits = omega arith; heads = z; nexts = λ k h. absurd (omega arith) }

  -- node k is put in
  pub indexed-linked : {k : ℕ} → Indexed w x at n k → k < n → Indexed w (linked x at n (place w n k) k) at n (suc k)
  unfolding linked
  indexed-linked {k} i h = record {
    long = simp length-set i.long;
    some = i.some;
    fits = omega arith;
    heads = λ p b. head p b (ℕ_discrete p P);
    nexts = λ j b. next j b (ℕ_discrete j k);
  }
    where
      P : ℕ
      P = place w n k

      old : ℕ
      old = get_or x (at + P) 0

      below : P < n
      below = home_below n (eight w k) i.some

      y : List ℕ
      y = set x (at + n + k) old

      ly : length y ≡ length x
      ly = simp length-set

      head : (p : ℕ) → p < n → Dec (p ≡ P) → get_or (set y (at + P) (k + 1)) (at + p) 0 ≡ newest w n p (suc k)
      head p b (yes e) =
          ap (λ q. get_or (set y (at + P) (k + 1)) (at + q) 0) e
          ∙ get_or-set_same y (at + P) (k + 1) 0 (omega (arith, i.long, ly, below))
          ∙ add-one k
          ∙ sym (newest-same w n p k (sym e))
      head p b (no e) =
          get_or-set_other y (at + P) (at + p) (k + 1) 0 (λ q. e (omega arith))
          ∙ get_or-set_other x (at + n + k) (at + p) old 0 (λ q. absurd (omega arith))
          ∙ i.heads p b
          ∙ sym (newest-other w n p k (λ q. e (sym q)))

      next : (j : ℕ) → j < suc k → Dec (j ≡ k) → get_or (set y (at + P) (k + 1)) (at + n + j) 0 ≡ newest w n (place w n j) j
      next j b (yes e) =
          get_or-set_other y (at + P) (at + n + j) (k + 1) 0 (λ q. absurd (omega (arith, below)))
          ∙ ap (λ q. get_or y (at + n + q) 0) e
          ∙ get_or-set_same x (at + n + k) old 0 (omega (arith, i.long))
          ∙ i.heads P below
          ∙ ap (λ q. newest w n (place w n q) q) (sym e)
      next j b (no e) =
          get_or-set_other y (at + P) (at + n + j) (k + 1) 0 (λ q. absurd (omega (arith, below)))
          ∙ get_or-set_other x (at + n + k) (at + n + j) old 0 (λ q. e (omega arith))
          ∙ i.nexts j (omega arith)

  -- the newest node is taken out
  pub indexed-unlinked : {k : ℕ} → Indexed w x at n (suc k) → Indexed w (unlinked x at n (place w n k) k) at n k
  unfolding unlinked
  indexed-unlinked {k} i = record {
    long = simp length-set i.long;
    some = i.some;
    fits = omega (arith, i.fits);
    heads = λ p b. head p b (ℕ_discrete p P);
    nexts = λ j b. get_or-set_other x (at + P) (at + n + j) old 0 (λ q. absurd (omega (arith, below))) ∙ i.nexts j (omega arith);
  }
    where
      P : ℕ
      P = place w n k

      old : ℕ
      old = get_or x (at + n + k) 0

      below : P < n
      below = home_below n (eight w k) i.some

      head : (p : ℕ) → p < n → Dec (p ≡ P) → get_or (set x (at + P) old) (at + p) 0 ≡ newest w n p k
      head p b (yes e) =
          ap (λ q. get_or (set x (at + P) old) (at + q) 0) e
          ∙ get_or-set_same x (at + P) old 0 (omega (arith, i.long, below))
          ∙ i.nexts k (omega arith)
          ∙ ap (λ q. newest w n q k) (sym e)
      head p b (no e) =
          get_or-set_other x (at + P) (at + p) old 0 (λ q. e (omega arith))
          ∙ i.heads p b
          ∙ newest-other w n p k (λ q. e (sym q))

-- where the newest below j lies below m, it is the newest below m
newest-lower : (w : List ℕ) (n p m j : ℕ) → m ≤ j → newest w n p j ≤ m → newest w n p j ≡ newest w n p m
newest-lower w n p m zero h l = ap (newest w n p) (omega arith)
newest-lower w n p m (suc j) h l = go (newest-lower w n p m j) (ℕ_discrete m (suc j)) (ℕ_discrete (place w n j) p)
  where
    go : (m ≤ j → newest w n p j ≤ m → newest w n p j ≡ newest w n p m) → Dec (m ≡ suc j) → Dec (place w n j ≡ p) → newest w n p (suc j) ≡ newest w n p m
    go f (yes e) d = ap (newest w n p) (sym e)
    go f (no e) (yes q) = absurd (omega (arith, newest-same w n p j q))
    go f (no e) (no q) = newest-other w n p j q ∙ f (omega arith) (omega (arith, newest-other w n p j q))

-- a search along a chain of the nodes below `top` for a node below m: once y lies there, what is sought lies below y; and the node
-- that y names is in the chain
pub record Follows (w r : List ℕ) (n m top y : ℕ) : Type 0 where
  pub below : y ≤ top
  pub decides : y ≤ m → node_with w r m ≡ node_with w r y
  pub chained : (k : ℕ) → y ≡ suc k → place w n k ≡ home n r

module _ {w x : List ℕ} {at n top : ℕ} (i : Indexed w x at n top) (r : List ℕ) (m : ℕ) where
  -- the newest below j is followed, where nothing sought lies from j on
  follows-newest : (j y : ℕ) → y ≡ newest w n (home n r) j → j ≤ top → (j ≤ m → node_with w r m ≡ node_with w r j) → Follows w r n m top y
  follows-newest j y e l f = record {
    below = omega (arith, newest-below w n (home n r) j);
    decides = λ h. go h (below-or-from j m);
    chained = λ k g. newest-place w n (home n r) j k (sym e ∙ g);
  }
    where
      go : y ≤ m → (j < m) ⊎ (m ≤ j) → node_with w r m ≡ node_with w r y
      go h (inl a) = f (omega arith) ∙ node_with-newest w n r j ∙ ap (node_with w r) (sym e)
      go h (inr a) = node_with-newest w n r m ∙ ap (node_with w r) (sym (newest-lower w n (home n r) m j a (omega arith)) ∙ sym e)

  pub follows-head : m ≤ top → Follows w r n m top (get_or x (at + home n r) 0)
  follows-head l = follows-newest top _ (i.heads (home n r) (home_below n r i.some)) (omega arith) (λ h. ap (node_with w r) (omega arith))

  -- y names a node
  module _ (y : ℕ) (some-node : 0 < y) (f : Follows w r n m top y) where
    named : y ≡ suc (y - 1)
    named = omega arith

    next : get_or x (at + n + (y - 1)) 0 ≡ newest w n (home n r) (y - 1)
    next = i.nexts (y - 1) (omega (arith, f.below)) ∙ ap (λ p. newest w n p (y - 1)) (f.chained (y - 1) named)

    pub follows-less : get_or x (at + n + (y - 1)) 0 < y
    follows-less = omega (arith, next, newest-below w n (home n r) (y - 1))

    pub follows-past : m ≤ y - 1 → Follows w r n m top (get_or x (at + n + (y - 1)) 0)
    follows-past l = follows-newest (y - 1) _ next (omega (arith, f.below)) (λ h. ap (node_with w r) (omega arith))

    pub follows_next : y - 1 < m → alike (eight w (y - 1)) r ≡ false → Follows w r n m top (get_or x (at + n + (y - 1)) 0)
    follows_next l z = follows-newest (y - 1) _ next (omega (arith, f.below)) (λ h. f.decides (omega arith) ∙ ap (node_with w r) named ∙ node_with-no w n r (y - 1) z)

    pub follows-found : y - 1 < m → alike (eight w (y - 1)) r ≡ true → some (y - 1) ≡ node_with w r m
    follows-found l z = sym (f.decides (omega arith) ∙ ap (node_with w r) named ∙ node_with-yes w n r (y - 1) z)

  pub follows-end : (y : ℕ) → y ≡ 0 → Follows w r n m top y → none ≡ node_with w r m
  unfolding node_with
  follows-end y e f = sym (f.decides (omega arith) ∙ ap (node_with w r) e)
