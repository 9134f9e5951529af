-- One lent slice: writing the index does not touch the nodes, so the laws of the chains hold of it. Assumes nothing.
use Rattle.std.proofs.Common.{◌≡◌, ℕ, zero, suc, ◌+◌, ◌-◌, ◌*◌, ◌/◌, ◌%◌, ◌<◌, ◌≤◌, List, [], ◌∷◌, length, get_or, set, sym, refl, ap, ◌∙◌, subst, add-one, arith, length-set, ext_get_or, le-leb, if◌then◌else◌}
use mathlib.Core.Option.{none, some}
use borrow.Author.Tests.{lt-leb}
use Rattle.words.specs.Words.{word_at, put_row, cleared_from}
use Rattle.words.proofs.Rows.{length-put_row, word_at-put_row-same, word_at-put_row-other, length-cleared_from, get_or-cleared_from-from}
use Rattle.meaning.specs.Shared.{eight, alike, node_with}
use Rattle.index.specs.Key.{home, place}
use Rattle.index.specs.Chains.{linked, unlinked}
use Rattle.index.specs.Lent.{Held, joined, parted, built, forgotten, made, Asked}
use Rattle.index.specs.declared.lent.Node.TheVariants.{Stands, Made, Full}
use Rattle.index.proofs.Keying.{eight-set, each_of}
use Rattle.index.proofs.Chaining.{indexed-moves, indexed-none, indexed-linked, indexed-unlinked}

-- what stands goes by the words of the nodes
pub node_with-words : (w w' r : List ℕ) (m : ℕ) → ((k : ℕ) → k < m → eight w' k ≡ eight w k) → node_with w' r m ≡ node_with w r m
unfolding node_with
node_with-words w w' r zero f = refl
node_with-words w w' r (suc m) f =
    (λ i. if alike (f m (omega arith) i) r then some m else node_with w' r m)
    ∙ ap (λ z. if alike (eight w m) r then some m else z) (node_with-words w w' r m (λ k h. f k (omega arith)))

module _ (n : ℕ) where
  -- the nodes stay
  pub joined-eight : (w : List ℕ) (k j : ℕ) → j < n → eight (joined n k w) j ≡ eight w j
  unfolding linked
  joined-eight w k j h =
      eight-set (set w (8 * n + n + k) (get_or w (8 * n + place w n k) 0)) (8 * n + place w n k) (k + 1) j (omega arith)
      ∙ eight-set w (8 * n + n + k) (get_or w (8 * n + place w n k) 0) j (omega arith)

  pub parted-eight : (w : List ℕ) (k j : ℕ) → j < n → eight (parted n k w) j ≡ eight w j
  unfolding unlinked
  parted-eight w k j h = eight-set w (8 * n + place w n k) (get_or w (8 * n + n + k) 0) j (omega arith)

  pub held-joined : (w : List ℕ) (k : ℕ) → Held w n k → k < n → Held (joined n k w) n (suc k)
  held-joined w k i h = indexed-moves (joined n k w) (joined n k w) (indexed-linked i h) (λ j b. joined-eight w k j (omega arith)) (omega arith) (λ j b. refl)

  pub held-parted : (w : List ℕ) (k : ℕ) → Held w n (suc k) → Held (parted n k w) n k
  held-parted w k i = indexed-moves (parted n k w) (parted n k w) (indexed-unlinked i) (λ j b. parted-eight w k j (omega (arith, i.fits))) (omega arith) (λ j b. refl)

  -- the index cleared is an index with nothing in it
  pub held-cleared : (w : List ℕ) → 0 < n → 8 * n + n + n ≤ length w → Held (cleared_from w (8 * n)) n 0
  held-cleared w s l = indexed-none (omega (arith, length-cleared_from w (8 * n))) s (λ p b. get_or-cleared_from-from w (8 * n) (8 * n + p) (omega arith))

  -- c nodes from k on are put in
  pub held-built : (c k : ℕ) (w : List ℕ) → Held w n k → k + c ≤ n → Held (built n k c w) n (k + c)
  unfolding built
  held-built zero k w i h = subst (Held w n) (omega arith) i
  held-built (suc c) k w i h =
      let e : k + 1 + c ≡ k + suc c = omega arith in
      subst (Held (built n (k + 1) c (joined n k w)) n) e (held-built c (k + 1) (joined n k w) (subst (Held (joined n k w) n) (sym (add-one k)) (held-joined w k i (omega arith))) (omega arith))

  -- c nodes from m on are taken out
  pub held-forgotten : (c m : ℕ) (w : List ℕ) → Held w n (m + c) → Held (forgotten n m c w) n m
  unfolding forgotten
  held-forgotten zero m w i = subst (Held w n) (omega arith) i
  held-forgotten (suc c) m w i =
      let e : m + suc c ≡ suc (m + c) = omega arith in
      held-forgotten c m (parted n (m + c) w) (held-parted w (m + c) (subst (Held w n) e i))

  pub forgotten-eight : (c m : ℕ) (w : List ℕ) (j : ℕ) → j < n → eight (forgotten n m c w) j ≡ eight w j
  unfolding forgotten
  forgotten-eight zero m w j h = refl
  forgotten-eight (suc c) m w j h = forgotten-eight c m (parted n (m + c) w) j h ∙ parted-eight w (m + c) j h

  -- they are as long
  pub length-joined : (w : List ℕ) (k : ℕ) → length (joined n k w) ≡ length w
  unfolding linked
  length-joined w k = simp length-set

  pub length-parted : (w : List ℕ) (k : ℕ) → length (parted n k w) ≡ length w
  unfolding unlinked
  length-parted w k = simp length-set

  -- what the code does
  pub joined-so : (w : List ℕ) (k : ℕ) {w' : List ℕ} (r : List ℕ) (p : ℕ) → w' ≡ linked w (8 * n) n p k → p ≡ home n r → r ≡ eight w k → w' ≡ joined n k w
  joined-so w k r p e f g = e ∙ ap (λ q. linked w (8 * n) n q k) (f ∙ ap (home n) g)

  pub parted-so : (w : List ℕ) (k : ℕ) {w' : List ℕ} (r : List ℕ) (p : ℕ) → w' ≡ unlinked w (8 * n) n p k → p ≡ home n r → r ≡ eight w k → w' ≡ parted n k w
  parted-so w k r p e f g = e ∙ ap (λ q. unlinked w (8 * n) n q k) (f ∙ ap (home n) g)

  -- one step of each
  pub built-step : (w : List ℕ) (k m : ℕ) → k < m → built n k (m - k) w ≡ built n (k + 1) (m - (k + 1)) (joined n k w)
  unfolding built
  built-step w k m h = step (m - k) (m - (k + 1)) (omega arith)
    where
      step : (c d : ℕ) → c ≡ suc d → built n k c w ≡ built n (k + 1) d (joined n k w)
      step c d e = ap (λ b. built n k b w) e

  pub forgotten-step : (w : List ℕ) (m k : ℕ) → m < k → forgotten n m (k - m) w ≡ forgotten n m (k - 1 - m) (parted n (k - 1) w)
  unfolding forgotten
  forgotten-step w m k h = step (k - m) (k - 1 - m) (omega arith) (omega arith)
    where
      step : (c d : ℕ) → c ≡ suc d → m + d ≡ k - 1 → forgotten n m c w ≡ forgotten n m d (parted n (k - 1) w)
      step c d e f = ap (λ b. forgotten n m b w) e ∙ ap (λ j. forgotten n m d (parted n j w)) f

-- a row put at the mark
module _ (n m : ℕ) (w r : List ℕ) (i : Held w n m) (room : m < n) (eight-words : length r ≡ 8) where
  inside : 8 * m + 8 ≤ length w
  inside = omega (arith, i.long)

  pub put-eight : eight (put_row w m r) m ≡ r
  put-eight =
      ext_get_or 0 (eight (put_row w m r) m) r (sym eight-words)
      (each_of (λ j. get_or (eight (put_row w m r) m) j 0 ≡ get_or r j 0) (o 0 (omega arith)) (o 1 (omega arith)) (o 2 (omega arith))
      (o 3 (omega arith)) (o 4 (omega arith)) (o 5 (omega arith)) (o 6 (omega arith)) (o 7 (omega arith)))
    where
      o : (j : ℕ) → j < 8 → word_at (put_row w m r) m j ≡ get_or r j 0
      o = word_at-put_row-same w m r inside eight-words

  pub put-below : (k : ℕ) → k < m → eight (put_row w m r) k ≡ eight w k
  put-below k h =
      λ z. o 0 (omega arith) z ∷ o 1 (omega arith) z ∷ o 2 (omega arith) z ∷ o 3 (omega arith) z ∷ o 4 (omega arith) z ∷ o 5 (omega arith) z
      ∷ o 6 (omega arith) z ∷ o 7 (omega arith) z ∷ []
    where
      o : (j : ℕ) → j < 8 → word_at (put_row w m r) k j ≡ word_at w k j
      o j l = word_at-put_row-other w m r inside eight-words k j l (λ e. absurd (omega arith))

  rest : (j : ℕ) → 8 * n ≤ j → get_or (put_row w m r) j 0 ≡ get_or w j 0
  rest j h =
      let e : 8 * (j / 8) + j % 8 ≡ j = omega arith in
      subst (λ i. get_or (put_row w m r) i 0 ≡ get_or w i 0) e (word_at-put_row-other w m r inside eight-words (j / 8) (j % 8) (omega arith) (λ f. absurd (omega arith)))

  pub held-put : Held (put_row w m r) n m
  held-put = indexed-moves (put_row w m r) (put_row w m r) i put-below (omega (arith, length-put_row w m r inside eight-words)) rest

-- what asking for a node comes to
module _ (n m top : ℕ) (r w : List ℕ) where
  pub asked-stands : (k : ℕ) → some k ≡ node_with w r m → Asked n m top r w (Stands k) w
  asked-stands k e = rw (sym e) (refl, refl)

  pub asked-full : none ≡ node_with w r m → n ≤ m → Asked n m top r w Full w
  asked-full e l = rw (sym e, le-leb n m l) (refl, refl)

  module _ (e : none ≡ node_with w r m) (l : m < n) (eight-words : length r ≡ 8) (w₁ : List ℕ) (cleared : w₁ ≡ forgotten n m (top - m) w) (i : Held w₁ n m) where
    pub made-long : 8 * n + n + n ≤ length (put_row w₁ m r)
    made-long = (held-put n m w₁ r i l eight-words).long

    pub asked-made : (w₂ w₃ : List ℕ) (p : ℕ) → w₂ ≡ put_row w₁ m r → p ≡ home n r → w₃ ≡ linked w₂ (8 * n) n p m → Asked n m top r w (Made m) w₃
    unfolding made
    asked-made w₂ w₃ p a b d =
        let so : w₃ ≡ joined n m (put_row w₁ m r) =
        d ∙ ap (λ x. linked x (8 * n) n p m) a ∙ ap (λ q. linked (put_row w₁ m r) (8 * n) n q m) (b ∙ ap (home n) (sym (put-eight n m w₁ r i l eight-words))) in
        rw (sym e, lt-leb n m l) (refl, so ∙ ap (λ x. joined n m (put_row x m r)) cleared)

-- the new node is in the chains
pub held-made : (n m top : ℕ) (r w : List ℕ) → Held w n top → m ≤ top → m < n → length r ≡ 8 → Held (made n m top r w) n (m + 1)
unfolding made
held-made n m top r w i h l eight-words =
    let j : Held (forgotten n m (top - m) w) n m = held-forgotten n (top - m) m w (subst (Held w n) (omega arith) i) in
    subst (Held (joined n m (put_row (forgotten n m (top - m) w) m r)) n) (sym (add-one m))
    (held-joined n (put_row (forgotten n m (top - m) w) m r) m (held-put n m (forgotten n m (top - m) w) r j l eight-words) l)

-- the nodes of the lent slice with the new one are those of the store with it
pub made-eight : (n m top : ℕ) (r w : List ℕ) → Held w n top → m ≤ top → m < n → length r ≡ 8 → (k : ℕ) → k < m → eight (made n m top r w) k ≡ eight w k
unfolding made
made-eight n m top r w i h l eight-words k b =
    let j : Held (forgotten n m (top - m) w) n m = held-forgotten n (top - m) m w (subst (Held w n) (omega arith) i) in
    joined-eight n (put_row (forgotten n m (top - m) w) m r) m k (omega arith) ∙ put-below n m (forgotten n m (top - m) w) r j l eight-words k b ∙ forgotten-eight n (top - m) m w k (omega arith)
