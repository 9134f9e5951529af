-- The engine's store: one lent slice, in which an index may follow the store's words. Beside the mark a run has its room. In a plain run
-- that is the store's nodes, and a node is made where the mark is below it. In an indexed run it is 0: a node that stands below the mark
-- is found by the index, and a new one is put into it. What the index holds goes up to `top`, which no failure takes back: nodes from the
-- mark on are taken out where the next node is made.
use Rattle.std.specs.Prelude.{◌≡◌, ℕ, zero, suc, ◌+◌, ◌*◌, ◌≤◌, Bool, List, take, nat_le}
use Rattle.std.proofs.Math.Option.{Option}
use Rattle.words.specs.Words.{rows, put_row}
use Rattle.meaning.specs.Rules.{Visit}
use Rattle.meaning.specs.Derivation.{Notes}
use Rattle.meaning.specs.Limits.{Store, ended, lost, cut}
use Rattle.meaning.specs.Store.{State, on, Left, rest, row, stored, Ran}
use Rattle.meaning.specs.Shared.{node_with, full_for, number_for, state_for}
use Rattle.index.specs.Lent.{Held, made}

-- what a run has beside the mark: what it noted, the room; with an index, the nodes that it holds and the store's nodes
pub record Lending (N : Type 0) : Type 0 where
  pub notes : N
  pub room : ℕ
  pub top : ℕ
  pub nodes : ℕ

abbrev pub lending : {N : Type 0} → N → (room top nodes : ℕ) → Lending N
lending ν r t n = record { notes = ν; room = r; top = t; nodes = n }

-- the same with something else noted, with another top
abbrev pub noting : {N : Type 0} → Lending N → N → Lending N
noting l ν = lending ν l.room l.top l.nodes

abbrev pub up_to : {N : Type 0} → ℕ → Lending N → Lending N
up_to t l = lending l.notes l.room t l.nodes

abbrev pub besides : {N : Type 0} → Notes N → Notes (Lending N)
besides Λ = record { missed = λ p l. noting l (Λ.missed p l.notes); begins = λ w l. noting l (Λ.begins w l.notes); ends = λ w t l. noting l (Λ.ends w t l.notes) }

-- by the room: whether there is none for a node, t being the one that stands; its number; the store with it
unfoldable pub full_by : (room : ℕ) → Option ℕ → (nodes mark : ℕ) → Bool
full_by zero t n m = full_for t (nat_le n m)
full_by (suc r) t n m = nat_le (suc r) m

unfoldable pub number_by : (room : ℕ) → Option ℕ → ℕ → ℕ
number_by zero t m = number_for t m
number_by (suc r) t m = m

unfoldable pub state_by : {N : Type 0} → (room : ℕ) → Option ℕ → State (Lending N) → List ℕ → State (Lending N)
state_by zero t s r = state_for t s (on (made s.notes.nodes s.mark s.notes.top r s.words) (s.mark + 1) (up_to (s.mark + 1) s.notes))
state_by (suc x) t s r = on (put_row s.words s.mark r) (s.mark + 1) s.notes

abbrev pub lent : {N : Type 0} → Notes N → Store ℕ (Visit ℕ) (State (Lending N)) (Left (Lending N))
lent Λ = record {
  con = (stored (besides Λ)).con;
  kids = (stored (besides Λ)).kids;
  full = λ s c hs. full_by s.notes.room (node_with s.words (row c hs) s.mark) s.notes.nodes s.mark;
  new = λ s c hs. number_by s.notes.room (node_with s.words (row c hs) s.mark) s.mark;
  put = λ s c hs. state_by s.notes.room (node_with s.words (row c hs) s.mark) s (row c hs);
  left = (stored (besides Λ)).left;
  back = (stored (besides Λ)).back;
  missed = (stored (besides Λ)).missed;
  begins = (stored (besides Λ)).begins;
  ends = (stored (besides Λ)).ends;
  fails = (stored (besides Λ)).fails;
}

-- what is lent fits the room: the store has just so many nodes; or the index holds the nodes below `top`
abbrev pub FitsRoom : (room : ℕ) → (w : List ℕ) (mark top nodes : ℕ) → Type 0
FitsRoom zero w m t n = Held w n t × (m ≤ t) × (n ≤ 131072)
FitsRoom (suc r) w m t n = (rows w ≡ suc r) × (m ≤ suc r) × (suc r ≤ 131072)

abbrev pub Fits : {N : Type 0} → List ℕ → ℕ → Lending N → Type 0
Fits w m l = FitsRoom l.room w m l.top l.nodes

-- what a run from the mark m leaves fits: with its new mark, or with m again
abbrev pub Fitting : {N : Type 0} → ℕ → Ran (Lending N) → Type 0
Fitting m (ended k b s u) = Fits s.words s.mark s.notes
Fitting m (lost l u) = Fits l.words m l.notes
Fitting m (cut c l u) = Fits l.words m l.notes

-- the room and the store's nodes are as they were
abbrev pub SameRoom : {N : Type 0} → (room nodes : ℕ) → Ran (Lending N) → Type 0
SameRoom r n (ended k b s u) = (s.notes.room ≡ r) × (s.notes.nodes ≡ n)
SameRoom r n (lost l u) = (l.notes.room ≡ r) × (l.notes.nodes ≡ n)
SameRoom r n (cut c l u) = (l.notes.room ≡ r) × (l.notes.nodes ≡ n)

-- the store's words of what is lent, and how a run over them ends
abbrev pub own_words : (room nodes : ℕ) → List ℕ → List ℕ
own_words zero n w = take (8 * n) w
own_words (suc r) n w = w

unfoldable pub own_ran : {N : Type 0} → (room nodes : ℕ) → Ran (Lending N) → Ran N
own_ran r n (ended k b s u) = ended k b (on (own_words r n s.words) s.mark s.notes.notes) u
own_ran r n (lost l u) = lost (rest (own_words r n l.words) l.notes.notes) u
own_ran r n (cut c l u) = cut c (rest (own_words r n l.words) l.notes.notes) u
