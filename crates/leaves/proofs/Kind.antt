-- A visit over the store's words: the limits before it, and the rule of its kind after it.
use mathlib.Core.Path.{◌≡◌, refl, ap}
use mathlib.Core.List.{List, [], ◌∷◌}
use Prim.Native.Nat.{ℕ, zero, suc, ◌+◌, ◌-◌}
use native.Mathlib.Omega.{arith}
use lib.ListN.{get_or}
use Rattle.words.specs.Words.{word_at}
use Rattle.checks.specs.Kinds.{ours}
use Rattle.checks.specs.Good.{kind_of, argument_of, mask_by}
use Rattle.meaning.specs.Bindings.{Bindings}
use Rattle.meaning.specs.Table.{Strategy, FAIL}
use Rattle.meaning.specs.Table.{PVAR, PCON, table, table_by, by_kind, operands}
use Rattle.meaning.specs.Rules.{Visit, apply, does, strategy}
use Rattle.meaning.specs.Limits.{units, nesting, ended, lost, cut, closed, run, run_plan}
use Rattle.state.specs.Noted.{Standing, on, stored, Ran, left_of}
use Rattle.state.specs.Visits.{visit, plan, ruled}

-- a visit's end is noted, and no place comes of it
closed-places : (q : Visit ℕ) (r : Ran) → closed stored q r ≡ r
unfolding closed
closed-places q (ended k b s u) = refl
closed-places q (lost l u) = refl
closed-places q (cut c l u) = refl

module _ (t : List ℕ) (n : ℕ) (q : Visit ℕ) (w : List ℕ) (m : Standing) (u : ℕ) where
  -- all units are used
  pub no-units : u ≡ 0 → visit t n q w m u ≡ cut units (left_of w m) 0
  unfolding visit run
  no-units e = rw e (go n)
    where
      go : (n : ℕ) → run stored (does (table t)) n q (on w m) 0 ≡ cut units (left_of w m) 0
      go zero = refl
      go (suc n) = refl

  -- the nesting would be exceeded
  pub no-nesting : (u ≡ 0 → ⊥) → n ≡ 0 → visit t n q w m u ≡ cut nesting (left_of w m) u
  unfolding visit run
  no-nesting h e = rw e (go u h)
    where
      go : (u : ℕ) → (u ≡ 0 → ⊥) → run stored (does (table t)) 0 q (on w m) u ≡ cut nesting (left_of w m) u
      go zero h = absurd (h refl)
      go (suc u) h = refl

  -- the visit is counted, and its rule is one deeper
  pub counted : (u ≡ 0 → ⊥) → (n ≡ 0 → ⊥) → visit t n q w m u ≡ plan t (n - 1) (does (table t) q) w m (u - 1)
  unfolding visit plan run
  counted h k = go n u h k
    where
      go : (n u : ℕ) → (u ≡ 0 → ⊥) → (n ≡ 0 → ⊥) → run stored (does (table t)) n q (on w m) u ≡ run_plan stored
          (run stored (does (table t)) (n - 1)) (does (table t) q) (on w m) (u - 1)
      go zero u h k = absurd (k refl)
      go (suc n) zero h k = absurd (h refl)
      go (suc n) (suc u) h k =
          let a : suc n - 1 ≡ n = omega arith in
          let b : suc u - 1 ≡ u = omega arith in
          rw (a, b) (closed-places q _)

-- an entry's strategy and its pattern, by its kind
module _ (t : List ℕ) (e : ℕ) where
  pub kind-is : (k : ℕ) → kind_of t e ≡ k → (table t).strategies e ≡ get_or
      (by_kind (argument_of t e) (word_at t e 2) (word_at t e 3) (operands t e) (mask_by ours t e) (word_at t e (1 + ours))) k FAIL
  unfolding table_by
  kind-is k h = ap (λ (k : ℕ). get_or (by_kind (argument_of t e) (word_at t e 2) (word_at t e 3) (operands t e) (mask_by ours t e)
      (word_at t e (1 + ours))) k FAIL) h

  pub pattern-variable : kind_of t e ≡ 18 → (table t).patterns e ≡ PVAR (argument_of t e)
  unfolding table_by
  pattern-variable h = ap (λ (k : ℕ). get_or (PVAR (argument_of t e) ∷ PCON (argument_of t e) (operands t e) ∷ []) (k - 18) (PVAR 0)) h

  pub pattern-con : kind_of t e ≡ 19 → (table t).patterns e ≡ PCON (argument_of t e) (operands t e)
  unfolding table_by
  pattern-con h = ap (λ (k : ℕ). get_or (PVAR (argument_of t e) ∷ PCON (argument_of t e) (operands t e) ∷ []) (k - 18) (PVAR 0)) h

-- the rule of a visited entry
pub rule-is : (t : List ℕ) (n e k : ℕ) (b : Bindings ℕ) (w : List ℕ) (m : Standing) (u : ℕ) (s : Strategy) →
    (table t).strategies e ≡ s → ruled t n e k b w m u ≡ plan t n (strategy s k b) w m u
rule-is t n e k b w m u s h = ap (λ s. plan t n (strategy s k b) w m u) h

pub applied : (t : List ℕ) (n e k : ℕ) (b : Bindings ℕ) (w : List ℕ) (m : Standing) (u : ℕ) → (u ≡ 0 → ⊥) → (n ≡ 0 → ⊥) →
    visit t n (apply e k b) w m u ≡ ruled t (n - 1) e k b w m (u - 1)
unfolding does
applied t n e k b w m u h l = counted t n (apply e k b) w m u h l
