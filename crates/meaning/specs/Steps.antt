-- The run in steps, of a visit each: the same plans with an explicit stack. A frame for each visit in flight: the visit, the nesting
-- left for it, the store when it was asked for, and the two ways on in the plan that asked. The proofs are proofs/Steps.antt.
use Rattle.std.specs.Prelude.{◌≡◌, Bool, true, false, List, [], ◌∷◌, ℕ, zero, suc, ◌+◌}
use Rattle.meaning.specs.Plan.{Keep, keep, Plan, ret, fail, miss, stuck, look, make, ask}
use Rattle.meaning.specs.Limits.{units, room, nesting, unbound, Res, ended, lost, cut, Store, settled, closed, run}

pub record Frame (H B Q S : Type 0) : Type 0 where
  pub visit : Q
  pub left : ℕ
  pub keeps : Keep
  pub before : S
  pub yes : H → B → Plan H B Q
  pub no : Plan H B Q

-- what comes next: nothing, since the run has ended; or the limit test of the visit of the first frame
pub data Next (H B Q S L : Type 0) : Type 0 where
  over : Res H B S L → Next H B Q S L
  next : S → ℕ → Frame H B Q S → List (Frame H B Q S) → Next H B Q S L

-- a node is made only where there is room
unfoldable pub roomy : {H B Q S L : Type 0} → Bool → Next H B Q S L → Next H B Q S L → Next H B Q S L
roomy true x y = x
roomy false x y = y

module _ {H B Q S L : Type 0} (M : Store H Q S L) (R : Q → Plan H B Q) where
  -- a plan up to the next visit that it asks for, n being the nesting left for that, or to its end
  unfoldable pub advance : (Res H B S L → Next H B Q S L) → ℕ → List (Frame H B Q S) → Plan H B Q → S → ℕ → Next H B Q S L
  advance end n fs (ret h b) s u = end (ended h b s u)
  advance end n fs fail s u = end (lost (M.left s) u)
  advance end n fs (miss p) s u = end (lost (M.left (M.missed p s)) u)
  advance end n fs (stuck v) s u = over (cut (unbound v) (M.left s) u)
  advance end n fs (look h k) s u = advance end n fs (k (M.con s h) (M.kids s h)) s u
  advance end n fs (make c hs k) s u = roomy (M.full s c hs) (over (cut room (M.left s) u)) (advance end n fs (k (M.new s c hs)) (M.put s c hs) u)
  advance end n fs (ask t q k p) s u = next s u (record { visit = q; left = n; keeps = t; before = s; yes = k; no = p }) fs

  -- the plan that asked goes on, by how its visit ended; nothing catches a cut-off
  unfoldable pub onto : Frame H B Q S → (Plan H B Q → S → ℕ → Next H B Q S L) → Res H B S L → Next H B Q S L
  onto f go (ended h b s u) = go (f.yes h b) (settled M f.keeps f.before s) u
  onto f go (lost l u) = go f.no (M.back f.before l) u
  onto f go (cut c l u) = over (cut c l u)

  -- the visit of the first frame has ended
  unfoldable pub settle : List (Frame H B Q S) → Res H B S L → Next H B Q S L
  settle [] r = over r
  settle (f ∷ fs) r = onto f (advance (settle fs) f.left fs) (closed M f.visit r)

  -- the limit test of a visit, and what follows up to the next one's
  unfoldable pub enter : ℕ → S → ℕ → Frame H B Q S → List (Frame H B Q S) → Next H B Q S L
  enter n s zero f fs = over (cut units (M.left s) 0)
  enter zero s (suc u) f fs = over (cut nesting (M.left s) (suc u))
  enter (suc n) s (suc u) f fs = advance (settle (f ∷ fs)) n (f ∷ fs) (R f.visit) (M.begins f.visit s) u

  unfoldable pub one : Next H B Q S L → Next H B Q S L
  one (over r) = over r
  one (next s u f fs) = enter f.left s u f fs

  unfoldable pub steps : ℕ → Next H B Q S L → Next H B Q S L
  steps zero x = x
  steps (suc n) x = steps n (one x)

  -- a fresh start: the limit test of its visit is next
  unfoldable pub start : ℕ → Q → S → ℕ → Next H B Q S L
  start n q s u = next s u (record { visit = q; left = n; keeps = keep; before = s; yes = ret; no = fail }) []

-- Stepped to its end the run answers as the first engine's: with one step more than there are units it has ended.
abbrev pub Stepped : Type 1
Stepped =
    (H B Q S L : Type 0) (M : Store H Q S L) (R : Q → Plan H B Q) → ((s : S) (l : L) → M.left (M.back s l) ≡ l)
    → (n : ℕ) (q : Q) (s : S) (u : ℕ) → steps M R (suc u) (start M R n q s u) ≡ over (run M R n q s u)

-- Steps come to the same however they are cut into parts.
abbrev pub StepsInParts : Type 1
StepsInParts =
    (H B Q S L : Type 0) (M : Store H Q S L) (R : Q → Plan H B Q) (m n : ℕ) (X : Next H B Q S L)
    → steps M R (m + n) X ≡ steps M R n (steps M R m X)

-- Wherever a run is over, by however many steps, it is over as the first engine's.
abbrev pub OneEnd : Type 1
OneEnd =
    (H B Q S L : Type 0) (M : Store H Q S L) (R : Q → Plan H B Q) → ((s : S) (l : L) → M.left (M.back s l) ≡ l)
    → (n : ℕ) (q : Q) (s : S) (u m : ℕ) (r : Res H B S L) → steps M R m (start M R n q s u) ≡ over r → r ≡ run M R n q s u
