-- A frame's row, its children one at a time, and the walks over them.
use mathlib.Core.Path.{◌≡◌, refl, ap, sym, ◌∙◌}
use mathlib.Core.Bool.{Bool, true}
use mathlib.Core.List.{List, [], ◌∷◌, ◌++◌, map}
use Prim.Native.Nat.{ℕ, zero, suc, ◌+◌, ◌≤◌, ◌<◌, min}
use native.Mathlib.Omega.{arith}
use native.Mathlib.Numerals.{add-one}
use borrow.Author.Tests.{lt-ltb}
use lib.ListN.{length, get_or, take, drop, set, length-take, length-drop, length-set, drop_of_length-le}
use lib.Seq.{drop-cons, get_or-take, get_or-drop, get_or-set_other, take_all, take-suc, take-suc-set, drop-set-lt, drop-set-add, take-set-lt}
use lib.Seq.{set_split}
use Rattle.words.specs.Words.{word_at}
use Rattle.meaning.specs.Table.{six}
use Rattle.meaning.specs.Bindings.{Bindings}
use Rattle.meaning.specs.Plan.{keep, ask, fail, make, ret}
use Rattle.meaning.specs.Rules.{Visit, Do, apply, walk, again, zip, one_of, some_of, when}
use Rattle.turns.specs.Ways.{kids, within}

-- word i of the six
pub six-at : (w : List ℕ) (k i : ℕ) → i < 6 → get_or (six w k) i 0 ≡ word_at w k (2 + i)
six-at w k zero h = refl
six-at w k (suc zero) h = refl
six-at w k (suc (suc zero)) h = refl
six-at w k (suc (suc (suc zero))) h = refl
six-at w k (suc (suc (suc (suc zero)))) h = refl
six-at w k (suc (suc (suc (suc (suc zero))))) h = refl
six-at w k (suc (suc (suc (suc (suc (suc i)))))) h = absurd (omega arith)

-- ---- the children that a row of eight words has

module _ (r : List ℕ) (long : length r ≡ 8) where
  pub kids-length : length (kids r) ≡ min (get_or r 1 0) 6
  kids-length = simp (length-take, length-drop) (omega arith)

  pub kid_at : (i : ℕ) → i < length (kids r) → get_or (kids r) i 0 ≡ get_or r (2 + i) 0
  kid_at i h = get_or-take (get_or r 1 0) (drop 2 r) i 0 (omega (arith, kids-length)) ∙ get_or-drop 2 r i 0

  pub kids-set : (i y : ℕ) → i < length (kids r) → kids (set r (2 + i) y) ≡ set (kids r) i y
  kids-set i y h =
      let n : get_or (set r (2 + i) y) 1 0 ≡ get_or r 1 0 = get_or-set_other r (2 + i) 1 y 0 (λ e. omega arith) in
      let l : i < get_or r 1 0 = omega (arith, kids-length) in
      rw (n, drop-set-add 2 r i y) (take-set-lt (get_or r 1 0) (drop 2 r) i y l)

pub name_set : (r : List ℕ) (i y : ℕ) → get_or (set r (2 + i) y) 0 0 ≡ get_or r 0 0
name_set r i y = get_or-set_other r (2 + i) 0 y 0 (λ e. omega arith)

pub again-made : (y c : ℕ) (gs : List ℕ) (b : Bindings ℕ) → 0 < length gs → again y c gs b ≡ make c gs (λ n. ret n b)
unfolding again
again-made y c [] b h = absurd (omega arith)
again-made y c (g ∷ gs) b h = refl

-- ---- visits of each child with its partner

module _ (q : ℕ → ℕ → Bindings ℕ → Visit ℕ) where
  -- partners behind the last child are of no account
  pub zip-take : (n : ℕ) (xs ys : List ℕ) → length ys ≤ n → zip q (take n xs) ys ≡ zip q xs ys
  unfolding zip
  zip-take n [] ys h = go n
    where
      go : (n : ℕ) → zip q (take n []) ys ≡ []
      go zero = refl
      go (suc n) = refl
  zip-take zero (x ∷ xs) [] h = refl
  zip-take zero (x ∷ xs) (y ∷ ys) h = absurd (omega arith)
  zip-take (suc n) (x ∷ xs) [] h = refl
  zip-take (suc n) (x ∷ xs) (y ∷ ys) h = ap (λ r. q x y ∷ r) (zip-take n xs ys (omega arith))

-- partners that are of no account
pub zip-map : (q : ℕ → Bindings ℕ → Visit ℕ) (xs ys : List ℕ) → length ys ≤ length xs → zip (λ x y. q y) xs ys ≡ map q ys
unfolding zip
zip-map q [] [] h = refl
zip-map q [] (y ∷ ys) h = absurd (omega arith)
zip-map q (x ∷ xs) [] h = refl
zip-map q (x ∷ xs) (y ∷ ys) h = ap (λ r. q y ∷ r) (zip-map q xs ys (omega arith))

-- children that are of no account
pub map-zip : (q : ℕ → Bindings ℕ → Visit ℕ) (xs ys : List ℕ) → zip (λ x y. q x) xs ys ≡ map q (take (length ys) xs)
unfolding zip
map-zip q [] ys = go (length ys)
  where
    go : (n : ℕ) → [] ≡ map q (take n [])
    go zero = refl
    go (suc n) = refl
map-zip q (x ∷ xs) [] = refl
map-zip q (x ∷ xs) (y ∷ ys) = ap (λ r. q x ∷ r) (map-zip q xs ys)

-- ---- a walk begins, goes on, and ends

module _ (q : ℕ → ℕ → Bindings ℕ → Visit ℕ) (xs : List ℕ) (k : List ℕ → Bindings ℕ → Do ℕ) where
  pub walk_from : (ks : List ℕ) (b : Bindings ℕ) → 0 < length ks → 0 < length xs
      → walk (zip q xs ks) [] b k
      ≡ ask keep (q (get_or xs 0 0) (get_or ks 0 0) b)
      (λ h d. within 0 ks (walk (zip q (drop (0 + 1) xs) (drop (0 + 1) ks)) (take 0 ks ++ (h ∷ [])) d k)) fail
  unfolding walk zip
  walk_from ks b l m = go xs ks l m
    where
      go : (xs ks : List ℕ) → 0 < length ks → 0 < length xs
          → walk (zip q xs ks) [] b k
          ≡ ask keep (q (get_or xs 0 0) (get_or ks 0 0) b)
          (λ h d. within 0 ks (walk (zip q (drop (0 + 1) xs) (drop (0 + 1) ks)) (take 0 ks ++ (h ∷ [])) d k)) fail
      go [] ks l m = absurd (omega arith)
      go (x ∷ xs) [] l m = absurd (omega arith)
      go (x ∷ xs) (h ∷ hs) l m = rw (lt-ltb 0 (suc (length hs)) (omega arith)) refl

  pub walk-on : (ks : List ℕ) (i g : ℕ) (b : Bindings ℕ) → suc i < length ks → suc i < length xs
      → walk (zip q (drop (i + 1) xs) (drop (i + 1) ks)) (take i ks ++ (g ∷ [])) b k
      ≡ ask keep (q (get_or xs (i + 1) 0) (get_or ks (i + 1) 0) b)
      (λ h d. within (i + 1) (set ks i g) (walk (zip q (drop (i + 1 + 1) xs) (drop (i + 1 + 1) (set ks i g)))
      (take (i + 1) (set ks i g) ++ (h ∷ [])) d k)) fail
  unfolding walk zip
  walk-on ks i g b l m =
      let n : suc i < length (set ks i g) = simp length-set (omega arith) in
      rw (
        add-one,
        add-one,
        drop-cons ks (suc i) 0 l,
        drop-cons xs (suc i) 0 m,
        take-suc-set ks i g (omega arith),
        drop-set-lt (suc (suc i)) ks i g (omega arith),
        lt-ltb _ _ n,
      )

  pub walk-over : (ks : List ℕ) (i g : ℕ) (b : Bindings ℕ) → i < length ks → length ks ≤ suc i
      → walk (zip q (drop (i + 1) xs) (drop (i + 1) ks)) (take i ks ++ (g ∷ [])) b k ≡ k (set ks i g) b
  unfolding walk zip
  walk-over ks i g b l m =
      let z : drop (i + 1) ks ≡ [] = drop_of_length-le ks {i = i + 1} (omega arith) in
      let s : take i ks ++ (g ∷ []) ≡ set ks i g = sym (take-suc-set ks i g l) ∙ take_all (suc i) (set ks i g) (simp length-set (omega arith)) in
      rw (z, s) (go (drop (i + 1) xs))
    where
      go : (zs : List ℕ) → walk (zip q zs []) (set ks i g) b k ≡ k (set ks i g) b
      go [] = refl
      go (z ∷ zs) = refl

-- ---- ONE and SOME try the next child, or end; ks: the children

module _ (e : ℕ) (ks : List ℕ) (k : List ℕ → Bindings ℕ → Do ℕ) (i : ℕ) (b : Bindings ℕ) where
  -- the children up to child i + 1, and those behind it
  next-drop : suc i < length ks → drop (i + 1) ks ≡ get_or ks (i + 1) 0 ∷ drop (i + 1 + 1) ks
  next-drop l = rw (add-one, add-one) (drop-cons ks (suc i) 0 l)

  next-take : suc i < length ks → take (i + 1) ks ++ (get_or ks (i + 1) 0 ∷ []) ≡ take (i + 1 + 1) ks
  next-take l = rw (add-one, add-one) (sym (take-suc ks (suc i) 0 l))

  set-parts : suc i < length ks → (h : ℕ) → take (i + 1) ks ++ (h ∷ drop (i + 1 + 1) ks) ≡ set ks (i + 1) h
  set-parts l h = rw (add-one, add-one) (sym (set_split ks (suc i) h l))

  pub one_on : suc i < length ks
      → one_of e (take (i + 1) ks) (drop (i + 1) ks) b k
      ≡ ask keep (apply e (get_or ks (i + 1) 0) b) (λ h d. within (i + 1) ks (k (set ks (i + 1) h) d))
      (one_of e (take (i + 1 + 1) ks) (drop (i + 1 + 1) ks) b k)
  unfolding one_of
  one_on l =
      rw (next-drop l, next-take l, lt-ltb (i + 1) (length ks) (omega arith))
      (λ z. ask keep (apply e (get_or ks (i + 1) 0) b) (λ h d. k (set-parts l h z) d)
      (one_of e (take (i + 1 + 1) ks) (drop (i + 1 + 1) ks) b k))

  pub one-over : length ks ≤ suc i → one_of e (take (i + 1) ks) (drop (i + 1) ks) b k ≡ fail
  unfolding one_of
  one-over m = rw (drop_of_length-le ks {i = i + 1} (omega arith)) refl

  pub some-on : (s : Bool) → suc i < length ks
      → some_of e s (take (i + 1) ks) (drop (i + 1) ks) b k
      ≡ ask keep (apply e (get_or ks (i + 1) 0) b)
      (λ h d. within (i + 1) ks (some_of e true (take (i + 1) ks ++ (h ∷ [])) (drop (i + 1 + 1) ks) d k))
      (within (i + 1) ks (some_of e s (take (i + 1 + 1) ks) (drop (i + 1 + 1) ks) b k))
  unfolding some_of
  some-on s l = rw (next-drop l, next-take l, lt-ltb (i + 1) (length ks) (omega arith)) refl

  pub some-over : (s : Bool) → length ks ≤ suc i → some_of e s (take (i + 1) ks) (drop (i + 1) ks) b k ≡ when s (k ks b)
  unfolding some_of
  some-over s m = rw (drop_of_length-le ks {i = i + 1} (omega arith), take_all (i + 1) ks (omega arith)) refl
