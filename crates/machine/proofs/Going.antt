-- The loop: what it has done so far, and why it ends. Assumes nothing.
use mathlib.Core.Path.{◌≡◌, refl, sym, ◌∙◌, subst}
use mathlib.Core.Bool.{Bool, true, true≢false}
use mathlib.Core.Logic.{⊎_elim}
use mathlib.Core.List.{List, ◌∷◌}
use Prim.Native.Nat.{ℕ, suc, ◌+◌, ◌-◌, ◌*◌, ◌<◌, ◌≤◌}
use native.Mathlib.Omega.{arith}
use borrow.Author.Tests.{lt-ltb, le-ltb}
use lib.Dec.{eqb, ltb}
use lib.ListN.{length}
use Rattle.std.specs.Prelude.{if◌then◌else◌}
use Rattle.words.proofs.Tests.{below-or-from}
use Rattle.meaning.specs.Table.{table}
use Rattle.meaning.specs.Rules.{does}
use Rattle.meaning.specs.Derivation.{What, Event, began, ended, history}
use Rattle.meaning.specs.Steps.{steps}
use Rattle.meaning.specs.Store.{on}
use Rattle.meaning.specs.Shared.{store_by}
use Rattle.meaning.proofs.Steps.{steps-suc}
use Rattle.turns.specs.Ways.{visit_of}
use Rattle.machine.specs.declared.Machine.{Machine}
use Rattle.machine.specs.Stack.{present, Run, first_of, others_of, Asks, Stands, Fair}
use Rattle.machine.specs.Machine.{Lent, OwnStay, visited, Turned, Went, spent, Comes, counted, told, Halts, Once, Gone}

-- the turns that the machine may take before it asks
abbrev pub rank : Machine → ℕ
rank m = if ltb m.mode 4 then 0 else m.level + 1

pub rank-asked : (m : Machine) → m.mode < 4 → rank m ≡ 0
rank-asked m h = rw (lt-ltb m.mode 4 h) refl

pub rank-ended : (m : Machine) → 4 ≤ m.mode → rank m ≡ m.level + 1
rank-ended m h = rw (le-ltb m.mode 4 h) refl

-- what is done so far
pub record SoFar (sh : Bool) (t w₀ k₀ : List ℕ) (a : Machine) (stop : ℕ) (w k : List ℕ) (m : Machine) : Type 0 where
  pub store : length w ≡ length w₀
  pub work : length k ≡ length k₀
  pub lent : Lent w k
  pub own : OwnStay k₀ k
  pub level : m.level ≤ 4096
  pub low : 3 < m.mode → m.level < 4096
  pub fuel : m.fuel ≤ a.fuel
  pub rest : stop ≤ m.fuel
  pub goes : (es : List What) (log : List Event) (X : Run) → Stands sh t a w₀ k₀ es log X
      → ((i : ℕ) → Fair t (steps (store_by sh history) (does (table t)) i X))
      → (es' : List What) × (log' : List Event)
      × Stands sh t m w k es' log' (steps (store_by sh history) (does (table t)) (a.fuel - m.fuel) X)

pub none_yet : {sh : Bool} {t w k : List ℕ} {a : Machine} {stop : ℕ} → a.level ≤ 4096 → (3 < a.mode → a.level < 4096) → stop ≤ a.fuel
    → Lent w k
    → SoFar sh t w k a stop w k a
unfolding steps
none_yet {sh} {t} {w} {k} {a} {stop} l h s z = record {
  store = refl;
  work = refl;
  lent = z;
  own = λ j g i. refl;
  level = l;
  low = h;
  fuel = omega arith;
  rest = s;
  goes = λ es log X x f. let n : a.fuel - a.fuel ≡ 0 = omega arith in (es, log, rw n x);
}

module _ {sh : Bool} {t w₀ k₀ : List ℕ} {a : Machine} {stop : ℕ} {w k : List ℕ} {m : Machine} (so : SoFar sh t w₀ k₀ a stop w k m) where
  pub deep-enough : (m₁ : Machine) (i : ℕ) → Comes m stop m₁ i → (i < 4096) × (3 < m₁.mode → i < 4095)
  deep-enough m₁ i (counted h g l) = (l, λ z. absurd (omega arith))
  deep-enough m₁ i (told h g l) = (let z = so.low h in omega arith, λ _. let z = so.low h in omega arith)

  pub nearer : (m₁ : Machine) (i : ℕ) → Comes m stop m₁ i → (m' : Machine) {w' k' : List ℕ} → Turned sh t w k i m₁ m' w' k'
      → 4098 * m'.fuel + rank m' < 4098 * m.fuel + rank m
  nearer m₁ i (counted h g l) m' d =
      ⊎_elim
      (λ e. omega (arith, rank-asked m' e, rank-asked m h, d.moved.fuel, so.rest, fewer))
      (λ e. omega (arith, rank-ended m' e, rank-asked m h, d.moved.fuel, d.moved.ended (omega arith), so.rest, fewer))
      (below-or-from m'.mode 4)
    where
      fewer : 0 < m.fuel
      fewer = ⊎_elim (λ z. z) (λ z. absurd (g (omega (arith, so.rest)))) (below-or-from 0 m.fuel)
  nearer m₁ i (told h g l) m' d =
      ⊎_elim
      (λ e. omega (arith, rank-asked m' e, rank-ended m h, d.moved.fuel))
      (λ e.
      let z : 0 < m.level = ⊎_elim (λ z. z) (λ z. absurd (l (omega arith))) (below-or-from 0 m.level) in
      omega (arith, rank-ended m' e, rank-ended m h, d.moved.fuel, d.moved.ended (omega arith)))
      (below-or-from m'.mode 4)

  pub further : (m₁ : Machine) (i : ℕ) → Comes m stop m₁ i → (m' : Machine) {w' k' : List ℕ} → Turned sh t w k i m₁ m' w' k'
      → SoFar sh t w₀ k₀ a stop w' k' m'
  further m₁ i (counted h g l) m' {w'} {k'} d = record {
    store = d.store ∙ so.store;
    work = d.work ∙ so.work;
    lent = d.lent;
    own = λ j x y. d.own j x y ∙ so.own j x y;
    level = ⊎_elim (λ e. omega (arith, d.moved.deeper e)) (λ e. omega (arith, d.moved.ended e)) (below-or-from m'.mode 4);
    low = λ e. omega (arith, d.moved.ended e);
    fuel = omega (arith, d.moved.fuel, so.fuel);
    rest = omega (arith, d.moved.fuel, so.rest, fewer);
    goes = λ es log X x f.
        let n : a.fuel - m'.fuel ≡ suc (a.fuel - m.fuel) = omega (arith, d.moved.fuel, so.fuel, so.rest, fewer) in
        let u : m.fuel ≡ suc (m.fuel - 1) = omega (arith, so.rest, fewer) in
        let g = so.goes es log X x f in (
          visited k m ∷ g.0,
          began (visited k m) ∷ g.1,
          rw (n, steps-suc (store_by sh history) (does (table t)) (a.fuel - m.fuel) X)
              (d.begins h refl g.0 g.1 _
              (subst (λ (u : ℕ). Asks t k m.level g.0 (visit_of m.mode m.x m.y (present k m)) (on w m.mark (m.place, g.1))
              u (steps (store_by sh history) (does (table t)) (a.fuel - m.fuel) X)) u (g.2.asked h))
              (f (a.fuel - m.fuel))),
        );
  }
    where
      fewer : stop < m.fuel
      fewer = ⊎_elim (λ z. z) (λ z. absurd (g (omega (arith, so.rest)))) (below-or-from stop m.fuel)
  further m₁ i (told h below l) m' {w'} {k'} d = record {
    store = d.store ∙ so.store;
    work = d.work ∙ so.work;
    lent = d.lent;
    own = λ j x y. d.own j x y ∙ so.own j x y;
    level =
        let z = so.low h in
        ⊎_elim (λ e. omega (arith, d.moved.deeper e)) (λ e. omega (arith, d.moved.ended e)) (below-or-from m'.mode 4);
    low = λ e. let z = so.low h in omega (arith, d.moved.ended e);
    fuel = omega (arith, d.moved.fuel, so.fuel);
    rest = omega (arith, d.moved.fuel, so.rest);
    goes = λ es log X x f.
        let n : m'.fuel ≡ m.fuel = d.moved.fuel in
        let z : 0 < m.level = ⊎_elim (λ z. z) (λ z. absurd (l (omega arith))) (below-or-from 0 m.level) in
        let g = so.goes es log X x f in (
          others_of g.0,
          ended (first_of g.0) (eqb m.mode 4) ∷ g.1,
          subst (λ (u : ℕ). Stands sh t m' w' k' (others_of g.0) (ended (first_of g.0) (eqb m.mode 4) ∷ g.1)
              (steps (store_by sh history) (does (table t)) (a.fuel - u) X)) (sym n)
              (d.tells h below (omega arith) g.0 g.1 _ g.2),
        );
  }

  -- it stops
  pub stopped : Halts m stop → Went sh t w₀ k₀ a stop m w k
  stopped z = record {
    lent = so.lent;
    store = so.store;
    work = so.work;
    own = so.own;
    fuel = so.fuel;
    rest = so.rest;
    goes = so.goes;
    asking = z.asking;
    ended = z.ended;
  }

-- ---- one turn alone

-- nothing was done before it
abbrev pub Untouched : (once : Bool) (w₀ k₀ : List ℕ) (a : Machine) (w k : List ℕ) (m : Machine) → Type 0
Untouched once w₀ k₀ a w k m = once ≡ true → (m ≡ a) × (w ≡ w₀) × (k ≡ k₀)

once-so : {sh : Bool} {t w k : List ℕ} {m : Machine} {stop : ℕ} {m₁ : Machine} {i : ℕ} {m' : Machine} {w' k' : List ℕ} → Comes m stop m₁ i
    → Turned sh t w k i m₁ m' w' k' → Once sh t w k m stop m' w' k'
once-so (counted h g l) d = record { begun = λ _ _ _. d; told = λ z. absurd (omega arith) }
once-so (told h g l) d = record { begun = λ z. absurd (omega arith); told = λ _ _ _. d }

module _ {once sh : Bool} {t w₀ k₀ : List ℕ} {a : Machine} {stop : ℕ} {w k : List ℕ} {m : Machine} (u : Untouched once w₀ k₀ a w k m) where
  pub gone-once : {m₁ : Machine} {i : ℕ} {m' : Machine} {w' k' : List ℕ} → once ≡ true → Comes m stop m₁ i → Turned sh t w k i m₁ m' w' k'
      → Gone once sh t w₀ k₀ a stop m' w' k'
  gone-once {m' = m'} {w' = w'} {k' = k'} e c d = record {
    on = λ z. absurd (true≢false (sym e ∙ z));
    alone = λ _.
        subst (λ k. Once sh t w₀ k a stop m' w' k') (u e).2
        (subst (λ w. Once sh t w k a stop m' w' k') (u e).1 (subst (λ m. Once sh t w k m stop m' w' k') (u e).0 (once-so c d)));
  }

  -- the machine stops before a turn
  pub gone-stopped : Halts m stop → Went sh t w₀ k₀ a stop m w k → Gone once sh t w₀ k₀ a stop m w k
  gone-stopped z g = record {
    on = λ _. g;
    alone = λ e. subst (λ a. Once sh t w₀ k₀ a stop m w k) (u e).0 (record {
      begun = λ y n l. absurd (⊎_elim n (λ d. omega arith) (z.asking y));
      told = λ y b n. absurd (n (z.ended y b));
    });
  }
