-- The run with limits: the same plans over any store, with units, room and nesting.
use Rattle.std.specs.Prelude.{Bool, true, false, List, ℕ, zero, suc, leb}
use Rattle.meaning.specs.Plan.{Keep, keep, drop, Plan, ret, fail, miss, stuck, look, make, ask}
use Rattle.meaning.specs.Derivation.{Values, Notes}

-- what cuts a run off: a limit, or a variable to be built that has no binding
pub data Limit : Type 0 where
  units room nesting : Limit
  unbound : ℕ → Limit

-- how a run ends, with the units left. S: the store's states; L: what a failure or a cut-off leaves of the store
pub data Res (H B S L : Type 0) : Type 0 where
  ended : H → B → S → ℕ → Res H B S L
  lost : L → ℕ → Res H B S L
  cut : Limit → L → ℕ → Res H B S L

-- a store: what a term's constructor and children are; whether there is no room for a node of this constructor and these
-- children; that node's number, and the store with it; `back s l` is s again, its mark given back, over what was left. The
-- last four note what happens: a match that gives up, a visit that begins, one that has succeeded, one that has failed
pub record Store (H Q S L : Type 0) : Type 0 where
  pub con : S → H → ℕ
  pub kids : S → H → List H
  pub full : S → ℕ → List H → Bool
  pub new : S → ℕ → List H → H
  pub put : S → ℕ → List H → S
  pub left : S → L
  pub back : S → L → S
  pub missed : ℕ → S → S
  pub begins : Q → S → S
  pub ends : Q → S → S
  pub fails : Q → L → L

-- the number of nodes in use, and what was noted
pub record Counted (N : Type 0) : Type 0 where
  pub mark : ℕ
  pub notes : N

abbrev pub at : {N : Type 0} → ℕ → N → Counted N
at m n = record { mark = m; notes = n }

-- terms as values: of the store there is the number of nodes in use, of at most `size`
abbrev pub counting : {H Q N : Type 0} → Values H Q → Notes N → ℕ → Store H Q (Counted N) N
counting W Λ size = record {
  con = λ s h. W.con h;
  kids = λ s h. W.kids h;
  full = λ s c hs. leb size s.mark;
  new = λ s c hs. W.mk c hs;
  put = λ s c hs. at (suc s.mark) s.notes;
  left = λ s. s.notes;
  back = λ s n. at s.mark n;
  missed = λ p s. at s.mark (Λ.missed p s.notes);
  begins = λ q s. at s.mark (Λ.begins (W.name q) s.notes);
  ends = λ q s. at s.mark (Λ.ends (W.name q) true s.notes);
  fails = λ q n. Λ.ends (W.name q) false n;
}

-- a node is made only where there is room
unfoldable pub room_for : {H B S L : Type 0} → Bool → L → ℕ → Res H B S L → Res H B S L
room_for true l u r = cut room l u
room_for false l u r = r

-- the store after a visit that succeeded, s being the store before it
unfoldable pub settled : {H Q S L : Type 0} → Store H Q S L → Keep → S → S → S
settled M keep s s' = s'
settled M drop s s' = M.back s (M.left s')

-- what follows a visit's success and its failure; nothing catches a cut-off
unfoldable pub after : {H Q B S L : Type 0} → Store H Q S L → Keep → S → Res H B S L → (H → B → S → ℕ → Res H B S L) → (S → ℕ → Res H B S L) → Res H B S L
after M t s (ended h b s' u) f g = f h b (settled M t s s') u
after M t s (lost l u) f g = g (M.back s l) u
after M t s (cut c l u) f g = cut c l u

module _ {H B Q S L : Type 0} (M : Store H Q S L) where
  -- a plan, whose visits end as `ev` says
  unfoldable pub run_plan : (Q → S → ℕ → Res H B S L) → Plan H B Q → S → ℕ → Res H B S L
  run_plan ev (ret h b) s u = ended h b s u
  run_plan ev fail s u = lost (M.left s) u
  run_plan ev (miss p) s u = lost (M.left (M.missed p s)) u
  run_plan ev (stuck v) s u = cut (unbound v) (M.left s) u
  run_plan ev (look h k) s u = run_plan ev (k (M.con s h) (M.kids s h)) s u
  run_plan ev (make c hs k) s u = let r = run_plan ev (k (M.new s c hs)) (M.put s c hs) u in room_for (M.full s c hs) (M.left s) u r
  run_plan ev (ask t q k p) s u = after M t s (ev q s u) (λ h b s' u'. run_plan ev (k h b) s' u') (λ s' u'. run_plan ev p s' u')

  -- a visit that has ended is noted
  unfoldable pub closed : Q → Res H B S L → Res H B S L
  closed q (ended h b s u) = ended h b (M.ends q s) u
  closed q (lost l u) = lost (M.fails q l) u
  closed q (cut c l u) = cut c l u

  -- a visit, with the nesting left and the units left: first units, then nesting; a visit that passes both is counted
  unfoldable pub run : (Q → Plan H B Q) → ℕ → Q → S → ℕ → Res H B S L
  run R zero q s zero = cut units (M.left s) 0
  run R zero q s (suc u) = cut nesting (M.left s) (suc u)
  run R (suc n) q s zero = cut units (M.left s) 0
  run R (suc n) q s (suc u) = closed q (run_plan (run R n) (R q) (M.begins q s) u)
