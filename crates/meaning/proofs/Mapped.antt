-- What is left out of the notes changes nothing else. Assumes nothing.
use mathlib.Core.Path.{◌≡◌, refl, ap, sym, ◌∙◌}
use mathlib.Core.Bool.{Bool, true, false}
use mathlib.Core.Option.{Option, none, some}
use mathlib.Core.List.{List}
use Prim.Native.Nat.{ℕ, zero, suc}
use Rattle.meaning.specs.Bindings.{Bindings}
use Rattle.meaning.specs.Plan.{Keep, keep, drop, ret, fail, miss, stuck, look, make, ask}
use Rattle.meaning.specs.Table.{table_by}
use Rattle.meaning.specs.Rules.{Visit, apply, Do, does}
use Rattle.meaning.specs.Derivation.{what, Notes}
use Rattle.meaning.specs.Limits.{Store, Res, ended, lost, cut, room_for, settled, after, closed, run_plan, run}
use Rattle.meaning.specs.Store.{State, on, Left, rest, Ran, stored, row, bindings, deepest}
use Rattle.meaning.specs.Shared.{state_for, finds, standing, ran_sharing}
use Rattle.meaning.specs.Mapped.{renote, renote_left, renoted, NotesLess, Renoted, RenotedShared, RenotedSharing}
use Rattle.meaning.proofs.Shared.{not-shared, all-shared}

-- whatever finds a node instead of making it
module _ (node : List ℕ → List ℕ → ℕ → Option ℕ) {N N' : Type 0} (Λ : Notes N) (Λ' : Notes N') (f : N → N')
    (less : NotesLess Λ Λ' f) where
  abbrev M : Store ℕ (Visit ℕ) (State N) (Left N)
  M = finds node Λ

  abbrev M' : Store ℕ (Visit ℕ) (State N') (Left N')
  M' = finds node Λ'

  -- visits that end alike, but for the notes
  abbrev Alike : (Visit ℕ → State N → ℕ → Ran N) → (Visit ℕ → State N' → ℕ → Ran N') → Type 0
  Alike ev ev' = (q : Visit ℕ) (s : State N) (u : ℕ) → renoted f (ev q s u) ≡ ev' q (renote f s) u

  settled-alike : (t : Keep) (s s' : State N) → renote f (settled M t s s') ≡ settled M' t (renote f s) (renote f s')
  unfolding settled
  settled-alike keep s s' = refl
  settled-alike drop s s' = refl

  after-alike : (t : Keep) (s : State N) (r : Res ℕ (Bindings ℕ) (State N) (Left N)) (r' : Ran N')
      → (k : ℕ → Bindings ℕ → State N → ℕ → Ran N) (k' : ℕ → Bindings ℕ → State N' → ℕ → Ran N') (p : State N → ℕ → Ran N) (p' : State N'
      → ℕ → Ran N')
      → ((h : ℕ) (b : Bindings ℕ) (s : State N) (u : ℕ) → renoted f (k h b s u) ≡ k' h b (renote f s) u)
      → ((s : State N) (u : ℕ) → renoted f (p s u) ≡ p' (renote f s) u)
      → renoted f r ≡ r' → renoted f (after M t s r k p) ≡ after M' t (renote f s) r' k' p'
  unfolding after renoted
  after-alike t s (ended h b s' u) r' k k' p p' won failed e =
      won h b (settled M t s s') u ∙ ap (λ s. k' h b s u) (settled-alike t s s')
      ∙ ap (λ r. after M' t (renote f s) r k' p') e
  after-alike t s (lost l u) r' k k' p p' won failed e = failed (on l.words s.mark l.notes) u
      ∙ ap (λ r. after M' t (renote f s) r k' p') e
  after-alike t s (cut c l u) r' k k' p p' won failed e = ap (λ r. after M' t (renote f s) r k' p') e

  room-alike : (t : Bool) (l : Left N) (u : ℕ) (r : Ran N) (r' : Ran N') → renoted f r ≡ r'
      → renoted f (room_for t l u r) ≡ room_for t (renote_left f l) u r'
  unfolding room_for renoted
  room-alike true l u r r' e = refl
  room-alike false l u r r' e = e

  state-alike : (o : Option ℕ) (s s' : State N) → renote f (state_for o s s') ≡ state_for o (renote f s) (renote f s')
  unfolding state_for
  state-alike none s s' = refl
  state-alike (some k) s s' = refl

  plan-alike : (ev : Visit ℕ → State N → ℕ → Ran N) (ev' : Visit ℕ → State N' → ℕ → Ran N') → Alike ev ev'
      → (p : Do ℕ) (s : State N) (u : ℕ) → renoted f (run_plan M ev p s u) ≡ run_plan M' ev' p (renote f s) u
  unfolding run_plan renoted
  plan-alike ev ev' a (ret h b) s u = refl
  plan-alike ev ev' a fail s u = refl
  plan-alike ev ev' a (miss p) s u = λ i. lost (rest s.words (less.missed p s.notes i)) u
  plan-alike ev ev' a (stuck v) s u = refl
  plan-alike ev ev' a (look h k) s u = plan-alike ev ev' a (k (M.con s h) (M.kids s h)) s u
  plan-alike ev ev' a (make c hs k) s u =
      room-alike (M.full s c hs) (M.left s) u _ _
      (plan-alike ev ev' a (k (M.new s c hs)) (M.put s c hs) u
      ∙ ap (λ s'. run_plan M' ev' (k (M.new s c hs)) s' u)
      (state-alike (node s.words (row c hs) s.mark) s ((stored Λ).put s c hs)))
  plan-alike ev ev' a (ask t q k p) s u =
      after-alike t s (ev q s u) (ev' q (renote f s) u) _ _ _ _ (λ h b s u. plan-alike ev ev' a (k h b) s u)
      (λ s u. plan-alike ev ev' a p s u) (a q s u)

  closed-alike : (q : Visit ℕ) (r : Ran N) → renoted f (closed M q r) ≡ closed M' q (renoted f r)
  unfolding closed renoted
  closed-alike q (ended h b s u) = λ i. ended h b (on s.words s.mark (less.ends (what q) true s.notes i)) u
  closed-alike q (lost l u) = λ i. lost (rest l.words (less.ends (what q) false l.notes i)) u
  closed-alike q (cut c l u) = refl

  module _ (R : Visit ℕ → Do ℕ) where
    run-alike : (n : ℕ) → Alike (run M R n) (run M' R n)
    unfolding run renoted
    run-alike zero q s zero = refl
    run-alike zero q s (suc u) = refl
    run-alike (suc n) q s zero = refl
    run-alike (suc n) q s (suc u) =
        closed-alike q (run_plan M (run M R n) (R q) (M.begins q s) u)
        ∙ ap (closed M' q)
        (plan-alike (run M R n) (run M' R n) (run-alike n) (R q) (M.begins q s) u
        ∙ (λ i. run_plan M' (run M' R n) (R q) (on s.words s.mark (less.begins (what q) s.notes i)) u))

pub renotes-sharing : RenotedSharing
unfolding ran_sharing
renotes-sharing sh W N N' Λ Λ' f less n i =
    run-alike (standing sh) Λ Λ' f less (does (table_by W i.table)) deepest (apply i.start i.subject (bindings i.bindings))
    (on i.store i.mark n) i.units

pub renotes : Renoted
renotes W N N' Λ Λ' f less n i =
    ap (renoted f) (sym (not-shared.1 W N Λ n i)) ∙ renotes-sharing false W N N' Λ Λ' f less n i ∙ not-shared.1 W N' Λ' (f n) i

pub renotes-shared : RenotedShared
renotes-shared W N N' Λ Λ' f less n i =
    ap (renoted f) (sym (all-shared.1 W N Λ n i)) ∙ renotes-sharing true W N N' Λ Λ' f less n i ∙ all-shared.1 W N' Λ' (f n) i
