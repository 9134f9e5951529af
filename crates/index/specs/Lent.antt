-- One lent slice: the words of n nodes and then the index.
use Rattle.std.specs.Prelude.{◌≡◌, ℕ, zero, suc, ◌+◌, ◌-◌, ◌*◌, Bool, true, false, List, nat_le}
use Rattle.std.proofs.Math.Option.{Option, none, some}
use Rattle.words.specs.Words.{put_row}
use Rattle.meaning.specs.Shared.{node_with}
use Rattle.index.specs.declared.lent.Node.{Node}
use Rattle.index.specs.declared.lent.Node.TheVariants.{Stands, Made, Full}
use Rattle.index.specs.Key.{place}
use Rattle.index.specs.Chains.{Indexed, linked, unlinked}

abbrev pub Held : List ℕ → ℕ → ℕ → Type 0
Held w n m = Indexed w w (8 * n) n m

-- node k of the lent slice put into its chain, and taken out of it
abbrev pub joined : ℕ → ℕ → List ℕ → List ℕ
joined n k w = linked w (8 * n) n (place w n k) k

abbrev pub parted : ℕ → ℕ → List ℕ → List ℕ
parted n k w = unlinked w (8 * n) n (place w n k) k

-- c nodes from k on, put in from the first to the last
unfoldable pub built : ℕ → ℕ → ℕ → List ℕ → List ℕ
built n k zero w = w
built n k (suc c) w = built n (k + 1) c (joined n k w)

-- c nodes from m on, taken out from the last to the first
unfoldable pub forgotten : ℕ → ℕ → ℕ → List ℕ → List ℕ
forgotten n m zero w = w
forgotten n m (suc c) w = forgotten n m c (parted n (m + c) w)

-- the lent words with the new node r at the mark m, what was put in up to `top` and is no node any more being taken out first
unfoldable pub made : ℕ → ℕ → ℕ → List ℕ → List ℕ → List ℕ
made n m top r w = joined n m (put_row (forgotten n m (top - m) w) m r)

-- what asking for the node r at the mark m comes to: one that stands, and nothing changes; no room, and nothing changes; a new one
abbrev pub Comes : Option ℕ → Bool → (n m top : ℕ) → (r w : List ℕ) → Node → List ℕ → Type 0
Comes (some k) full n m top r w a w' = (a ≡ Stands k) × (w' ≡ w)
Comes none true n m top r w a w' = (a ≡ Full) × (w' ≡ w)
Comes none false n m top r w a w' = (a ≡ Made m) × (w' ≡ made n m top r w)

abbrev pub Asked : (n m top : ℕ) → (r w : List ℕ) → Node → List ℕ → Type 0
Asked n m top r w a w' = Comes (node_with w r m) (nat_le n m) n m top r w a w'
