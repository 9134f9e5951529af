-- The node that a row says has zeros after its last child. Assumes nothing.
use mathlib.Core.Path.{◌≡◌, refl}
use mathlib.Core.List.{List, [], ◌∷◌}
use Prim.Native.Nat.{ℕ, zero, suc, ◌≤◌, min}
use native.Mathlib.Omega.{arith}
use lib.ListN.{length, get_or, length-take, length-drop, length-append, length-replicate}
use lib.Seq.{take-nil}
use Rattle.meaning.specs.Store.{row}
use Rattle.turns.specs.Ways.{kids}
use Rattle.machine.specs.Machine.{child_or0}
use Rattle.machine.proofs.Rowing.{eight-list}

pub padded-row : (r : List ℕ) (n : ℕ) → length r ≡ 8 → n ≡ min (get_or r 1 0) 6
    → get_or r 0 0 ∷ n ∷ child_or0 r n 0 ∷ child_or0 r n 1 ∷ child_or0 r n 2 ∷ child_or0 r n 3 ∷ child_or0 r n 4 ∷ child_or0 r n 5 ∷ [] ≡ row (get_or
    r 0 0) (kids r)
unfolding row
padded-row r n l e = rw (eight-list r l, e) (go (get_or r 0 0) (get_or r 1 0) (get_or r 2 0) (get_or r 3 0) (get_or r 4 0) (get_or r 5 0) (get_or r 6 0)
    (get_or r 7 0))
  where
    go : (a n c d e f g h : ℕ) → let r : List ℕ = a ∷ n ∷ c ∷ d ∷ e ∷ f ∷ g ∷ h ∷ [] in
        a ∷ min n 6 ∷ child_or0 r (min n 6) 0 ∷ child_or0 r (min n 6) 1 ∷ child_or0 r (min n 6) 2 ∷ child_or0 r (min n 6) 3 ∷ child_or0 r (min n
        6) 4 ∷ child_or0 r (min n 6) 5 ∷ [] ≡ row a (kids r)
    go a zero c d e f g h = refl
    go a (suc zero) c d e f g h = refl
    go a (suc (suc zero)) c d e f g h = refl
    go a (suc (suc (suc zero))) c d e f g h = refl
    go a (suc (suc (suc (suc zero)))) c d e f g h = refl
    go a (suc (suc (suc (suc (suc zero))))) c d e f g h = refl
    go a (suc (suc (suc (suc (suc (suc n)))))) c d e f g h = let z : min (suc (suc (suc (suc (suc (suc n)))))) 6 ≡ 6 = omega arith in rw
        (z, take-nil n) refl

length-row : (c : ℕ) (ks : List ℕ) → length ks ≤ 6 → length (row c ks) ≡ 8
unfolding row
length-row c ks h = simp (length-append, length-replicate) (omega arith)

pub row-length : (r : List ℕ) → length r ≡ 8 → length (row (get_or r 0 0) (kids r)) ≡ 8
row-length r l = length-row (get_or r 0 0) (kids r) (simp (length-take, length-drop) (omega arith))
