-- The engine's store by its room: with room for some nodes it is the plain one, with none it goes by the index. Assumes nothing.
use Rattle.std.proofs.Common.{◌≡◌, ℕ, zero, suc, ◌+◌, ◌<◌, ◌≤◌, leb, List, refl, subst, arith}
use mathlib.Core.Option.{Option}
use Rattle.words.specs.Words.{rows, put_row}
use Rattle.meaning.specs.Store.{State, on}
use Rattle.meaning.specs.Shared.{full_for, number_for, state_for}
use Rattle.index.specs.Lent.{Held, made}
use Rattle.index.specs.Run.{Lending, up_to, full_by, number_by, state_by, FitsRoom}

module _ (room : ℕ) where
  -- with room for some nodes
  pub full-plain : (t : Option ℕ) (n m : ℕ) → 0 < room → full_by room t n m ≡ leb room m
  unfolding full_by
  full-plain t n m h = go room h
    where
      go : (x : ℕ) → 0 < x → full_by x t n m ≡ leb x m
      go zero l = absurd (omega arith)
      go (suc x) l = refl

  pub number-plain : (t : Option ℕ) (m : ℕ) → 0 < room → number_by room t m ≡ m
  unfolding number_by
  number-plain t m h = go room h
    where
      go : (x : ℕ) → 0 < x → number_by x t m ≡ m
      go zero l = absurd (omega arith)
      go (suc x) l = refl

  pub state-plain : {N : Type 0} (t : Option ℕ) (s : State (Lending N)) (r : List ℕ) → 0 < room → state_by room t s r ≡ on (put_row s.words s.mark r) (s.mark + 1) s.notes
  unfolding state_by
  state-plain t s r h = go room h
    where
      go : (x : ℕ) → 0 < x → state_by x t s r ≡ on (put_row s.words s.mark r) (s.mark + 1) s.notes
      go zero l = absurd (omega arith)
      go (suc x) l = refl

  pub fits-plain : (w : List ℕ) (m t n : ℕ) → 0 < room → FitsRoom room w m t n → (rows w ≡ room) × (m ≤ room) × (room ≤ 131072)
  fits-plain w m t n h f = go room h f
    where
      go : (x : ℕ) → 0 < x → FitsRoom x w m t n → (rows w ≡ x) × (m ≤ x) × (x ≤ 131072)
      go zero l f = absurd (omega arith)
      go (suc x) l f = f

  -- with none
  module _ (none_left : room ≡ 0) where
    pub full-indexed : (t : Option ℕ) (n m : ℕ) → full_by room t n m ≡ full_for t (leb n m)
    unfolding full_by
    full-indexed t n m = rw none_left

    pub number-indexed : (t : Option ℕ) (m : ℕ) → number_by room t m ≡ number_for t m
    unfolding number_by
    number-indexed t m = rw none_left

    pub state-indexed : {N : Type 0} (t : Option ℕ) (s : State (Lending N)) (r : List ℕ)
        → state_by room t s r ≡ state_for t s (on (made s.notes.nodes s.mark s.notes.top r s.words) (s.mark + 1) (up_to (s.mark + 1) s.notes))
    unfolding state_by
    state-indexed t s r = rw none_left

    pub fits-indexed : (w : List ℕ) (m t n : ℕ) → FitsRoom room w m t n → Held w n t × (m ≤ t) × (n ≤ 131072)
    fits-indexed w m t n f = subst (λ x. FitsRoom x w m t n) none_left f
