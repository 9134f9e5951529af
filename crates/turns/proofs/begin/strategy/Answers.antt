-- `begin::strategy` meets its contract. Assumes nothing.
use mathlib.Core.Path.{◌≡◌, refl, ap, sym, ◌∙◌, subst}
use mathlib.Core.Logic.{inl, inr, ⊎_elim}
use mathlib.Core.List.{List}
use Prim.Native.Nat.{ℕ, ◌/◌, ◌≤◌}
use Rattle.words.specs.Words.{word_at}
use Rattle.checks.specs.Good.{kind_of}
use Rattle.meaning.specs.Table.{by_kind}
use Rattle.meaning.specs.Rules.{strategy}
use Rattle.turns.specs.declared.turn.Turn.TheVariants.{Done, Failed, Ask}
use Rattle.turns.specs.Ways.{plan_of, ways, way_of, visit_of, looked}
use Rattle.turns.proofs.Begun.{begins, begins-asking, begins-none, none-of-them}
use Rattle.turns.proofs.begin.strategy.Goals as goal

-- the kind that the code has read
kind-is : (t : List ℕ) (x k : ℕ) {n : ℕ} → n ≡ word_at t x 0 → n / 16 ≡ k → kind_of t x ≡ k
kind-is t x k r e = ap (λ (n : ℕ). n / 16) (sym r) ∙ e

pub children-requires : goal.children-requires
children-requires c = inl (refl, kind-is c.args.table.now c.args.x 11 c.word.ensures c.in-11.is)

pub children-requires-in-12 : goal.children-requires-in-12
children-requires-in-12 c = inr (inl (refl, kind-is c.args.table.now c.args.x 12 c.word.ensures c.in-12.is))

pub children-requires-in-13 : goal.children-requires-in-13
children-requires-in-13 c = inr (inr (refl, kind-is c.args.table.now c.args.x 13 c.word.ensures c.in-13.is))

pub returns-in-0 : goal.returns-in-0
unfolding plan_of looked strategy by_kind
returns-in-0 c d = begins _ _ _ _ d _ 0 (Done c.args.y) (kind-is c.args.table.now c.args.x 0 c.word.ensures c.in-0.is) refl (λ f b. refl)

pub returns-in-2 : goal.returns-in-2
unfolding plan_of way_of ways visit_of looked strategy by_kind
returns-in-2 c d = begins-asking _ _ _ _ d _ 2 0 4 _ (kind-is c.args.table.now c.args.x 2 c.word.ensures c.in-2.is)
    c.word-one.ensures (ap Ask c.visit.ensures) (λ f b. refl)

pub returns-in-3 : goal.returns-in-3
unfolding plan_of way_of ways visit_of looked strategy by_kind
returns-in-3 c d = begins-asking _ _ _ _ d _ 3 0 5 _ (kind-is c.args.table.now c.args.x 3 c.word.ensures c.in-3.is)
    c.word-one.ensures (ap Ask c.visit-in-3.ensures) (λ f b. refl)

pub returns-in-4 : goal.returns-in-4
unfolding plan_of way_of ways visit_of looked strategy by_kind
returns-in-4 c d = begins-asking _ _ _ _ d _ 4 0 1 _ (kind-is c.args.table.now c.args.x 4 c.word.ensures c.in-4.is)
    c.word-one.ensures (ap Ask c.visit-in-4.ensures) (λ f b. refl)

pub returns-in-5 : goal.returns-in-5
unfolding plan_of way_of ways visit_of looked strategy by_kind
returns-in-5 c d = begins-asking _ _ _ _ d _ 5 0 6 _ (kind-is c.args.table.now c.args.x 5 c.word.ensures c.in-5.is)
    c.word-one.ensures (ap Ask c.visit-in-5.ensures) (λ f b. refl)

pub returns-in-6 : goal.returns-in-6
unfolding plan_of way_of ways visit_of looked strategy by_kind
returns-in-6 c d = begins-asking _ _ _ _ d _ 6 0 6 _ (kind-is c.args.table.now c.args.x 6 c.word.ensures c.in-6.is)
    c.word-one.ensures (ap Ask c.visit-in-6.ensures) (λ f b. refl)

pub returns-in-7 : goal.returns-in-7
unfolding plan_of way_of ways visit_of looked strategy by_kind
returns-in-7 c d = begins-asking _ _ _ _ d _ 7 0 0 _ (kind-is c.args.table.now c.args.x 7 c.word.ensures c.in-7.is)
    c.word-one.ensures (ap Ask c.visit-in-7.ensures) (λ f b. refl)

pub returns-in-8 : goal.returns-in-8
unfolding plan_of way_of ways visit_of looked strategy by_kind
returns-in-8 c d = begins-asking _ _ _ _ d _ 8 0 0 _ (kind-is c.args.table.now c.args.x 8 c.word.ensures c.in-8.is)
    c.word-one.ensures (ap Ask c.visit-in-8.ensures) (λ f b. refl)

pub returns-in-14 : goal.returns-in-14
unfolding plan_of way_of ways visit_of looked strategy by_kind
returns-in-14 c d = begins-asking _ _ _ _ d _ 14 1 0 _ (kind-is c.args.table.now c.args.x 14 c.word.ensures c.in-14.is)
    c.word-one.ensures (ap Ask c.visit-in-14.ensures) (λ f b. refl)

pub returns-in-15 : goal.returns-in-15
unfolding plan_of way_of ways visit_of looked strategy by_kind
returns-in-15 c d = begins-asking _ _ _ _ d _ 15 2 0 _ (kind-is c.args.table.now c.args.x 15 c.word.ensures c.in-15.is)
    c.word-one.ensures (ap Ask c.visit-in-15.ensures) (λ f b. refl)

pub returns-in-17 : goal.returns-in-17
unfolding plan_of way_of ways visit_of looked strategy by_kind
returns-in-17 c d = begins-asking _ _ _ _ d _ 17 0 2 _ (kind-is c.args.table.now c.args.x 17 c.word.ensures c.in-17.is)
    c.word-one.ensures (ap Ask c.visit-in-17.ensures) (λ f b. refl)

pub returns-in_default : goal.returns-in_default
unfolding plan_of looked strategy by_kind
returns-in_default c d =
    let none = c.in_default.in_default-own.rest in
    ⊎_elim
    (λ e. begins _ _ _ _ d _ 1 Failed (kind-is c.args.table.now c.args.x 1 c.word.ensures e) refl (λ f b. refl))
    (λ l. begins-none _ _ _ _ d _ (subst (λ (k : ℕ). 18 ≤ k) (sym (kind-is c.args.table.now c.args.x _ c.word.ensures refl)) l) refl)
    (none-of-them _ none.0.0.0.0.0.0.0.0.0.0.0.0.0.0.0.0.1 none.0.0.0.0.0.0.0.0.0.0.0.0.0.0.0.1
    none.0.0.0.0.0.0.0.0.0.0.0.0.0.0.1 none.0.0.0.0.0.0.0.0.0.0.0.0.0.1
    none.0.0.0.0.0.0.0.0.0.0.0.0.1 none.0.0.0.0.0.0.0.0.0.0.0.1 none.0.0.0.0.0.0.0.0.0.0.1
    none.0.0.0.0.0.0.0.0.0.1 none.0.0.0.0.0.0.0.0.1 none.0.0.0.0.0.0.0.1 none.0.0.0.0.0.0.1
    none.0.0.0.0.0.1 none.0.0.0.0.1 none.0.0.0.1 none.0.0.1 none.0.1 none.1)
