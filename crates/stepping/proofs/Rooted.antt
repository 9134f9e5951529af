-- From the root's frame to the run's end, and a visit that a limit cuts off. Assumes nothing.
use Rattle.std.proofs.Common.{◌≡◌, ℕ, zero, suc, ◌≤◌, Bool, true, false, List, [], ◌∷◌, refl, ap, ◌∙◌, arith}
use Rattle.meaning.specs.Bindings.{Bindings}
use Rattle.meaning.specs.Derivation.{What, what, Event, ended as told, history}
use Rattle.meaning.specs.Table.{table}
use Rattle.meaning.specs.Rules.{Visit, does}
use Rattle.meaning.specs.Limits.{ended, lost, cut, units, nesting, settled, closed}
use Rattle.meaning.specs.Steps.{over, advance, onto, settle, enter, one}
use Rattle.meaning.specs.Store.{on, rest}
use Rattle.meaning.specs.Shared.{store_by}
use Rattle.turns.specs.Ways.{way, last}
use Rattle.machine.specs.Stack.{way_at, Noted, Open, Run, whats_of, first_of, Pending, Stack, Asks, Ends}

root-way : (t k : List ℕ) (f : Open) → Pending t k 0 f → way f.keeps f.yes f.no ≡ last
unfolding way_at
root-way t k f p = p.ways (omega arith)

-- the root's visit has ended, which is noted
pub root-done : (sh : Bool) (t w k : List ℕ) (c : Bindings ℕ) (y m u : ℕ) (p : Noted) (es : List What) (X : Run)
    → Ends sh t k 1 es (ended y c (on w m p) u) X
    → X ≡ over (ended y c (on w m (p.0, told (first_of es) true ∷ p.1)) u)
unfolding settle onto closed advance settled first_of
root-done sh t w k c y m u p es X s = go s.frames s.is s.stack s.whats
  where
    go : (fs : List Open) → X ≡ settle (store_by sh history) (does (table t)) fs (ended y c (on w m p) u) → Stack t k 1 fs → whats_of fs ≡ es
        → X ≡ over (ended y c (on w m (p.0, told (first_of es) true ∷ p.1)) u)
    go [] x z e = absurd z
    go (f ∷ []) x z v =
        let e = root-way t k f z.0 in
        let log : List Event = told (what f.visit) true ∷ p.1 in
        x ∙ (λ i. advance (store_by sh history) (does (table t)) (settle (store_by sh history) (does (table t)) []) f.left [] ((e i).yes y c)
        (settled (store_by sh history) (e i).keeps f.before (on w m (p.0, log))) u)
        ∙ (λ i. over (ended y c (on w m (p.0, told (first_of (v i)) true ∷ p.1)) u))
    go (f ∷ g ∷ fs) x z e = absurd z.1

pub root-failed : (sh : Bool) (t w k : List ℕ) (p : Noted) (u : ℕ) (es : List What) (X : Run) → Ends sh t k 1 es (lost (rest w p) u) X
    → X ≡ over (lost (rest w (p.0, told (first_of es) false ∷ p.1)) u)
unfolding settle onto closed advance first_of
root-failed sh t w k p u es X s = go s.frames s.is s.stack s.whats
  where
    go : (fs : List Open) → X ≡ settle (store_by sh history) (does (table t)) fs (lost (rest w p) u) → Stack t k 1 fs → whats_of fs ≡ es
        → X ≡ over (lost (rest w (p.0, told (first_of es) false ∷ p.1)) u)
    go [] x z e = absurd z
    go (f ∷ []) x z v =
        let e = root-way t k f z.0 in
        let log : List Event = told (what f.visit) false ∷ p.1 in
        x ∙ (λ i. advance (store_by sh history) (does (table t)) (settle (store_by sh history) (does (table t)) []) f.left [] (e i).no
        (on w f.before.mark (p.0, log)) u)
        ∙ (λ i. over (lost (rest w (p.0, told (first_of (v i)) false ∷ p.1)) u))
    go (f ∷ g ∷ fs) x z e = absurd z.1

-- a visit that a limit cuts off
entered : (sh : Bool) (t w : List ℕ) (m : ℕ) (p : Noted) (n : ℕ) (f : Open) (fs : List Open)
    → enter (store_by sh history) (does (table t)) n (on w m p) 0 f fs ≡ over (cut
    units (rest w p) 0)
unfolding enter
entered sh t w m p zero f fs = refl
entered sh t w m p (suc n) f fs = refl

pub cut-units : (sh : Bool) (t w k : List ℕ) (n m : ℕ) (p : Noted) (es : List What) (v : Visit ℕ) (X : Run)
    → Asks t k n es v (on w m p) 0 X → one (store_by sh history) (does (table t)) X ≡ over (cut units (rest w p) 0)
unfolding one
cut-units sh t w k n m p es v X s =
    ap (one (store_by sh history) (does (table t))) s.is ∙ entered sh t w m p s.top.left s.top s.others

too-deep : (sh : Bool) (t w : List ℕ) (m : ℕ) (p : Noted) (n u : ℕ) (f : Open) (fs : List Open) → n ≡ 0 → (u ≡ 0 → ⊥)
    → enter (store_by sh history) (does (table t)) n (on w
    m p) u f fs ≡ over (cut nesting (rest w p) u)
unfolding enter
too-deep sh t w m p zero zero f fs e h = absurd (h refl)
too-deep sh t w m p zero (suc u) f fs e h = refl
too-deep sh t w m p (suc n) u f fs e h = absurd (omega arith)

pub cut-nesting : (sh : Bool) (t w k : List ℕ) (n m : ℕ) (p : Noted) (u : ℕ) (es : List What) (v : Visit ℕ) (X : Run) → 4096 ≤ n
    → (u ≡ 0 → ⊥) → Asks t k n es v (on w m p) u X
    → one (store_by sh history) (does (table t)) X ≡ over (cut nesting (rest w p) u)
unfolding one
cut-nesting sh t w k n m p u es v X l h s =
    ap (one (store_by sh history) (does (table t))) s.is
    ∙ too-deep sh t w m p s.top.left u s.top s.others (omega (arith, s.pending.left)) h
