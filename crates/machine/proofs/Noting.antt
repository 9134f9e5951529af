-- What an accepted run has noted of its visits, over either store: each visit that began is one that the rules may ask for, and uses a
-- unit; no more have ended than began, and where the run is done or failed, each has ended. Assumes nothing.
use mathlib.Core.Path.{◌≡◌, refl, ◌∙◌, subst}
use mathlib.Core.Bool.{Bool, true, false}
use mathlib.Core.Option.{Option, none, some}
use mathlib.Core.List.{List, [], ◌∷◌}
use Prim.Native.Nat.{ℕ, zero, suc, ◌+◌, ◌≤◌}
use native.Mathlib.Omega.{arith}
use Rattle.checks.specs.Kinds.{ours}
use Rattle.meaning.specs.Bindings.{Bindings}
use Rattle.meaning.specs.Derivation.{What, entry, pattern, pair, what, Event, began, ended as told, history, nowhere}
use Rattle.meaning.specs.Tallies.{counted, begins, wins, loses}
use Rattle.meaning.specs.Table.{table}
use Rattle.meaning.specs.Plan.{Keep, keep, drop as give, ret, fail, miss, stuck, look, make, ask}
use Rattle.meaning.specs.Rules.{Visit, apply, match, build, compare, Do, does}
use Rattle.meaning.specs.Limits.{ended, lost, cut, Store, room_for, settled, after, closed, run_plan, run}
use Rattle.meaning.specs.Store.{Input, Accepted, State, on, Left, Ran, stored, row, bindings, deepest}
use Rattle.meaning.specs.Shared.{state_for, standing, store_by, ran_sharing}
use Rattle.turns.specs.Ways.{Applied, FairVisit}
use Rattle.machine.specs.Stack.{Noted}
use Rattle.machine.proofs.Fairness.{Fine, rules-fair}

-- every visit
abbrev pub all : What → Bool
all w = true

-- every visit that began is such
unfoldable pub Visited : (What → Type 0) → List Event → Type 0
Visited P [] = Unit {0}
Visited P (began w ∷ log) = P w × Visited P log
Visited P (told w t ∷ log) = Visited P log

-- what happened since the log was `old` and u units were left; now it is `new`, and v are left
pub record Since (P : What → Type 0) (old : List Event) (u : ℕ) (new : List Event) (v : ℕ) : Type 0 where
  pub units : counted (begins all) new + v ≡ counted (begins all) old + u
  pub visited : Visited P old → Visited P new

-- each visit that began since has ended; or may be in flight
abbrev pub Ended : (old new : List Event) → Type 0
Ended old new =
    (p : What → Bool)
    → counted (begins p) new + (counted (wins p) old + counted (loses p) old)
    ≡ counted (begins p) old + (counted (wins p) new + counted (loses p) new)

abbrev pub Behind : (old new : List Event) → Type 0
Behind old new =
    (p : What → Bool)
    → counted (begins p) old + (counted (wins p) new + counted (loses p) new)
    ≤ counted (begins p) new + (counted (wins p) old + counted (loses p) old)

-- the same of how a visit comes out
unfoldable pub NotesSo : (What → Type 0) → List Event → ℕ → Ran Noted → Type 0
NotesSo P old u (ended h b s v) = Since P old u s.notes.1 v × Ended old s.notes.1
NotesSo P old u (lost l v) = Since P old u l.notes.1 v × Ended old l.notes.1
NotesSo P old u (cut c l v) = Since P old u l.notes.1 v × Behind old l.notes.1

module _ (P : What → Type 0) where
  since_none : (log : List Event) (u : ℕ) → Since P log u log u
  since_none log u = record { units = refl; visited = λ z. z }

  since-then : {old mid new : List Event} {u v w : ℕ} → Since P old u mid v → Since P mid v new w → Since P old u new w
  since-then a b = record { units = b.units ∙ a.units; visited = λ z. b.visited (a.visited z) }

  -- first a visit that has ended, then the rest
  then-so : (old mid : List Event) (u v : ℕ) → Since P old u mid v → Ended old mid → (r : Ran Noted) → NotesSo P mid v r
      → NotesSo P old u r
  unfolding NotesSo
  then-so old mid u v a e (ended h b s w) (c, d) = (since-then a c, λ p. omega (arith, e p, d p))
  then-so old mid u v a e (lost l w) (c, d) = (since-then a c, λ p. omega (arith, e p, d p))
  then-so old mid u v a e (cut x l w) (c, d) = (since-then a c, λ p. omega (arith, e p, d p))

  -- a visit begins, and what it does follows; then its end is noted
  began-units : {w : What} {log new : List Event} {u v : ℕ} → P w → Since P (began w ∷ log) u new v → Since P log (suc u) new v
  unfolding counted begins Visited
  began-units f a = record { units = omega (arith, a.units); visited = λ z. a.visited (f, z) }

  told-units : {w : What} {t : Bool} {old new : List Event} {u v : ℕ} → Since P old u new v → Since P old u (told w t ∷ new) v
  unfolding counted begins Visited
  told-units a = record { units = omega (arith, a.units); visited = a.visited }

  told-ended : (w : What) (t : Bool) (old new : List Event) → Ended (began w ∷ old) new → Ended old (told w t ∷ new)
  unfolding counted begins wins loses
  told-ended w true old new e p = omega (arith, e p)
  told-ended w false old new e p = omega (arith, e p)

  began-behind : (w : What) (old new : List Event) → Behind (began w ∷ old) new → Behind old new
  unfolding counted begins wins loses
  began-behind w old new e p = omega (arith, e p)

  module _ (sh : Bool) (Asked : Visit ℕ → Type 0) (such : (q : Visit ℕ) → Asked q → P (what q)) where
    abbrev M : Store ℕ (Visit ℕ) (State Noted) (Left Noted)
    M = store_by sh history

    closed-so : (q : Visit ℕ) (log : List Event) (u : ℕ) (r : Ran Noted) → Asked q → NotesSo P (began (what q) ∷ log) u r
        → NotesSo P log (suc u) (closed M q r)
    unfolding closed NotesSo
    closed-so q log u (ended h b s v) a (c, d) = (told-units (began-units (such q a) c), told-ended (what q) true log s.notes.1 d)
    closed-so q log u (lost l v) a (c, d) = (told-units (began-units (such q a) c), told-ended (what q) false log l.notes.1 d)
    closed-so q log u (cut x l v) a (c, d) = (began-units (such q a) c, began-behind (what q) log l.notes.1 d)

    room-so : (t : Bool) (s : State Noted) (u : ℕ) (r : Ran Noted) → NotesSo P s.notes.1 u r
        → NotesSo P s.notes.1 u (room_for t (M.left s) u r)
    unfolding room_for NotesSo
    room-so true s u r n = (since_none s.notes.1 u, λ p. omega arith)
    room-so false s u r n = n

    put-notes : (o : Option ℕ) (s s' : State Noted) → s'.notes ≡ s.notes → (state_for o s s').notes ≡ s.notes
    unfolding state_for
    put-notes none s s' e = e
    put-notes (some k) s s' e = refl

    settled-notes : (t : Keep) (s s' : State Noted) → (settled M t s s').notes ≡ s'.notes
    unfolding settled
    settled-notes keep s s' = refl
    settled-notes give s s' = refl

    after-so : (t : Keep) (s : State Noted) (u : ℕ) (r : Ran Noted) (k : ℕ → Bindings ℕ → State Noted → ℕ → Ran Noted)
        → (p : State Noted → ℕ → Ran Noted)
        → ((h : ℕ) (b : Bindings ℕ) (s : State Noted) (u : ℕ) → NotesSo P s.notes.1 u (k h b s u))
        → ((s : State Noted) (u : ℕ) → NotesSo P s.notes.1 u (p s u))
        → NotesSo P s.notes.1 u r → NotesSo P s.notes.1 u (after M t s r k p)
    unfolding after NotesSo
    after-so t s u (ended h b s' v) k p won failed (c, d) =
        then-so s.notes.1 s'.notes.1 u v c d (k h b (settled M t s s') v)
        (subst (λ (n : Noted). NotesSo P n.1 v (k h b (settled M t s s') v)) (settled-notes t s s') (won h b (settled M t s s') v))
    after-so t s u (lost l v) k p won failed (c, d) =
        then-so s.notes.1 l.notes.1 u v c d (p (on l.words s.mark l.notes) v)
        (failed (on l.words s.mark l.notes) v)
    after-so t s u (cut x l v) k p won failed n = n

    module _ (R : Visit ℕ → Do ℕ) (rules : (q : Visit ℕ) → Asked q → Fine M R Asked (R q)) where
      plan-so : (ev : Visit ℕ → State Noted → ℕ → Ran Noted)
          → ((q : Visit ℕ) → Asked q → (s : State Noted) (u : ℕ) → NotesSo P s.notes.1 u (ev q s u))
          → (p : Do ℕ) → Fine M R Asked p → (s : State Noted) (u : ℕ) → NotesSo P s.notes.1 u (run_plan M ev p s u)
      unfolding run_plan Fine NotesSo
      plan-so ev z (ret h b) f s u = (since_none s.notes.1 u, λ p. refl)
      plan-so ev z fail f s u = (since_none s.notes.1 u, λ p. refl)
      plan-so ev z (miss p) f s u = (since_none s.notes.1 u, λ p. refl)
      plan-so ev z (stuck v) f s u = (since_none s.notes.1 u, λ p. omega arith)
      plan-so ev z (look h k) f s u = plan-so ev z (k _ _) (f _ _) s u
      plan-so ev z (make c hs k) f s u =
          room-so (M.full s c hs) s u _
          (subst (λ (n : Noted). NotesSo P n.1 u (run_plan M ev (k (M.new s c hs)) (M.put s c hs) u))
          (put-notes (standing sh s.words (row c hs) s.mark) s ((stored history).put s c hs) refl)
          (plan-so ev z (k (M.new s c hs)) (f _) (M.put s c hs) u))
      plan-so ev z (ask t q k p) f s u =
          after-so t s u (ev q s u) _ _ (λ h b s u. plan-so ev z (k h b) (f.1 h b) s u) (λ s u. plan-so ev z p f.2 s u)
          (z q f.0 s u)

      run-so : (n : ℕ) (q : Visit ℕ) → Asked q → (s : State Noted) (u : ℕ) → NotesSo P s.notes.1 u (run M R n q s u)
      unfolding run NotesSo
      run-so zero q a s zero = (since_none s.notes.1 0, λ p. omega arith)
      run-so zero q a s (suc u) = (since_none s.notes.1 (suc u), λ p. omega arith)
      run-so (suc n) q a s zero = (since_none s.notes.1 0, λ p. omega arith)
      run-so (suc n) q a s (suc u) =
          closed-so q s.notes.1 u _ a (plan-so (run M R n) (run-so n) (R q) (rules q a) (M.begins q s) u)

-- what an accepted run visits: an entry inside the table that is a strategy
abbrev pub Within : List ℕ → What → Type 0
Within t (entry x) = Applied t x
Within t (pattern p) = Unit {0}
Within t pair = Unit {0}

fair-within : (t : List ℕ) (q : Visit ℕ) → FairVisit t q → Within t (what q)
unfolding what
fair-within t (apply x h b) f = f
fair-within t (match p h b) f = tt
fair-within t (build p h b) f = tt
fair-within t (compare g h b) f = tt

pub run-notes : (sh : Bool) (i : Input) → Accepted i
    → NotesSo (Within i.table) [] i.units (ran_sharing sh ours history (nowhere, []) i)
unfolding ran_sharing
run-notes sh i a =
    run-so (Within i.table) sh (FairVisit i.table) (fair-within i.table) (does (table i.table))
    (rules-fair sh i.table a.table) deepest (apply i.start i.subject (bindings i.bindings)) (a.inside, a.strategy)
    (on i.store i.mark (nowhere, [])) i.units
