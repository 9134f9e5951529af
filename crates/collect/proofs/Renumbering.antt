-- A node's row with its children renumbered: its words, and the row made child by child.
-- Assumes nothing.
use mathlib.Core.Path.{◌≡◌, refl, ap, sym, ◌∙◌}
use mathlib.Core.Logic.{⊎_elim}
use mathlib.Core.List.{List, [], ◌∷◌, map}
use Prim.Native.Nat.{ℕ, zero, suc, ◌+◌, ◌≤◌, ◌<◌}
use native.Mathlib.Omega.{arith}
use lib.ListN.{length, get_or, set, length-take, length-set, length-map}
use lib.Seq.{ext_get_or, get_or-set_same, get_or-set_other}
use Rattle.words.specs.Words.{word_at}
use Rattle.words.proofs.Tests.{below-or-from}
use Rattle.checks.specs.Good.{constructor_of, child_count, child}
use Rattle.meaning.specs.Table.{six}
use Rattle.meaning.specs.Store.{children, row}
use Rattle.meaning.proofs.Words.{same-children, children-at, length-row, row-used, row-unused}
use Rattle.collect.specs.Packed.{renumbered}

-- What is done to each of a list alike gives the same list.
pub map-alike : {A : Type 0} (f g : ℕ → A) (l : List ℕ) → ((i : ℕ) → i < length l → f (get_or l i 0) ≡ g (get_or l i 0)) → map f l ≡ map g l
map-alike f g [] e = refl
map-alike f g (x ∷ l) e = λ z. e 0 (omega arith) z ∷ map-alike f g l (λ i h. e (suc i) (omega arith)) z

-- What is done to each of a list is read at each.
pub get_or-map-below : (f : ℕ → ℕ) (l : List ℕ) (i : ℕ) → i < length l → get_or (map f l) i 0 ≡ f (get_or l i 0)
get_or-map-below f [] i h = absurd (omega arith)
get_or-map-below f (x ∷ l) zero h = refl
get_or-map-below f (x ∷ l) (suc i) h = get_or-map-below f l i (omega arith)

module _ (s : List ℕ) (k : ℕ) (few : child_count s k ≤ 6) where
  pub length-children : length (children s k) ≡ child_count s k
  length-children = length-take (child_count s k) (six s k) ∙ omega arith

  pub child-at : (i : ℕ) → i < child_count s k → get_or (children s k) i 0 ≡ child s k i
  child-at i l = children-at s k i l (omega arith)

module _ (s : List ℕ) (f : ℕ → ℕ) (k : ℕ) (few : child_count s k ≤ 6) where
  pub length-renumbered-children : length (map f (children s k)) ≡ child_count s k
  length-renumbered-children = length-map (children s k) f ∙ length-children s k few

  pub length-renumbered : length (renumbered s f k) ≡ 8
  unfolding renumbered
  length-renumbered = length-row (constructor_of s k) (map f (children s k)) (omega (arith, length-renumbered-children))

  pub renumbered-constructor : get_or (renumbered s f k) 0 0 ≡ constructor_of s k
  unfolding renumbered row
  renumbered-constructor = refl

  pub renumbered-count : get_or (renumbered s f k) 1 0 ≡ child_count s k
  unfolding renumbered row
  renumbered-count = length-renumbered-children

  pub renumbered-child : (i : ℕ) → i < child_count s k → get_or (renumbered s f k) (2 + i) 0 ≡ f (child s k i)
  unfolding renumbered
  renumbered-child i h =
      row-used (constructor_of s k) (map f (children s k)) i (omega (arith, length-renumbered-children))
      ∙ get_or-map-below f (children s k) i (omega (arith, length-children s k few))
      ∙ ap f (child-at s k few i h)

  renumbered-unused : (i : ℕ) → child_count s k ≤ i → i < 6 → get_or (renumbered s f k) (2 + i) 0 ≡ 0
  unfolding renumbered
  renumbered-unused i h l = row-unused (constructor_of s k) (map f (children s k)) i (omega (arith, length-renumbered-children)) l

-- The row r of node k, of whose children the first i are renumbered, and the others are zero yet.
pub record RowTo (s : List ℕ) (f : ℕ → ℕ) (k i : ℕ) (r : List ℕ) : Type 0 where
  pub long : length r ≡ 8
  pub first : get_or r 0 0 ≡ constructor_of s k
  pub second : get_or r 1 0 ≡ child_count s k
  pub moved : (j : ℕ) → j < i → get_or r (2 + j) 0 ≡ f (child s k j)
  pub unused : (j : ℕ) → i ≤ j → j < 6 → get_or r (2 + j) 0 ≡ 0

module _ (s : List ℕ) (f : ℕ → ℕ) (k : ℕ) where
  zeros : (c n j : ℕ) → j < 6 → get_or (c ∷ n ∷ 0 ∷ 0 ∷ 0 ∷ 0 ∷ 0 ∷ 0 ∷ []) (2 + j) 0 ≡ 0
  zeros c n zero l = refl
  zeros c n (suc zero) l = refl
  zeros c n (suc (suc zero)) l = refl
  zeros c n (suc (suc (suc zero))) l = refl
  zeros c n (suc (suc (suc (suc zero)))) l = refl
  zeros c n (suc (suc (suc (suc (suc zero))))) l = refl
  zeros c n (suc (suc (suc (suc (suc (suc j)))))) l = absurd (omega arith)

  pub row-begun : (c n : ℕ) → c ≡ constructor_of s k → n ≡ child_count s k → RowTo s f k 0 (c ∷ n ∷ 0 ∷ 0 ∷ 0 ∷ 0 ∷ 0 ∷ 0 ∷ [])
  row-begun c n d e = record { long = refl; first = d; second = e; moved = λ j l. absurd (omega arith); unused = λ j l h. zeros c n j h }

  pub row_more : (i x : ℕ) (r : List ℕ) → RowTo s f k i r → i < 6 → x ≡ f (child s k i) → RowTo s f k (i + 1) (set r (2 + i) x)
  row_more i x r t h e = record {
    long = length-set r (2 + i) x ∙ t.long;
    first = get_or-set_other r (2 + i) 0 x 0 (λ z. omega arith) ∙ t.first;
    second = get_or-set_other r (2 + i) 1 x 0 (λ z. omega arith) ∙ t.second;
    moved = λ j l.
        ⊎_elim (λ m. get_or-set_other r (2 + i) (2 + j) x 0 (λ z. omega arith) ∙ t.moved j m)
        (λ m. let z : j ≡ i = omega arith in rw z (get_or-set_same r (2 + i) x 0 (omega (arith, t.long)) ∙ e))
        (below-or-from j i);
    unused = λ j l m. get_or-set_other r (2 + i) (2 + j) x 0 (λ z. omega arith) ∙ t.unused j (omega arith) m;
  }

  module _ (few : child_count s k ≤ 6) (i : ℕ) (r : List ℕ) (t : RowTo s f k i r) (all : i ≡ child_count s k) where
    word-at : (j : ℕ) → j < 8 → get_or r j 0 ≡ get_or (renumbered s f k) j 0
    word-at zero l = t.first ∙ sym (renumbered-constructor s f k few)
    word-at (suc zero) l = t.second ∙ sym (renumbered-count s f k few)
    word-at (suc (suc j)) l =
        let z : suc (suc j) ≡ 2 + j = omega arith in
        rw z
        (⊎_elim (λ m. t.moved j (omega arith) ∙ sym (renumbered-child s f k few j m))
        (λ m. t.unused j (omega arith) (omega arith) ∙ sym (renumbered-unused s f k few j m (omega arith)))
        (below-or-from j (child_count s k)))

    pub row-whole : r ≡ renumbered s f k
    row-whole = ext_get_or 0 r (renumbered s f k) (t.long ∙ sym (length-renumbered s f k few)) (λ j l. word-at j (omega (arith, t.long)))

-- Two numberings that agree on a node's children, over two stores that have the node's words alike, give one row.
pub renumbered-alike : (s s' : List ℕ) (f g : ℕ → ℕ) (k : ℕ) → child_count s k ≤ 6 → ((j : ℕ) → j < 8 → word_at s' k j ≡ word_at s k j)
    → ((i : ℕ) → i < child_count s k → f (child s k i) ≡ g (child s k i)) → renumbered s' f k ≡ renumbered s g k
unfolding renumbered
renumbered-alike s s' f g k few same e =
    (λ z. row (same 0 (omega arith) z) (map f (same-children s s' k same z)))
    ∙ ap (row (constructor_of s k)) (map-alike f g (children s k) (λ i h.
    let l : i < child_count s k = omega (arith, length-children s k few) in
    ap f (child-at s k few i l) ∙ e i l ∙ ap g (sym (child-at s k few i l))))
