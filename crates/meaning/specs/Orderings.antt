-- Demand 3 for any number of places: strategies without free variables at different places, none inside another, may go out in
-- any order.
use Rattle.std.specs.Prelude.{◌⊎◌, List, [], ◌∷◌, ℕ}
use Rattle.meaning.specs.Term.{Term}
use Rattle.meaning.specs.Table.{Table, ID, SEQ}
use Rattle.meaning.specs.Rules.{apply}
use Rattle.meaning.specs.Derivation.{Out, done, failed}
use Rattle.meaning.specs.System.{Env, ◌∶◌is◌, ◌⊢◌⇒◌}
use Rattle.meaning.specs.Free.{Closed}
use Rattle.meaning.specs.Demands.{At, Encloses, EitherOrder}

-- a strategy at a place: `entry` runs `strategy` there
pub record Site : Type 0 where
  pub strategy : ℕ
  pub entry : ℕ
  pub place : List ℕ

-- P holds of each
pub data Every {A : Type 0} (P : A → Type 0) : List A → Type 0 where
  every-none : Every P []
  every_more : {x : A} {xs : List A} → P x → Every P xs → Every P (x ∷ xs)

-- neither place is inside the other; so they are different
pub record Outside (x y : Site) : Type 0 where
  pub above : Encloses x.place y.place → ⊥
  pub below : Encloses y.place x.place → ⊥

-- none is inside another
pub data Separate : List Site → Type 0 where
  separate-none : Separate []
  separate-more : {x : Site} {xs : List Site} → Every (Outside x) xs → Separate xs → Separate (x ∷ xs)

-- the strategy has no free variables, and the entry runs it at its place
pub record Stands (T : Table) (x : Site) : Type 0 where
  pub closed : Closed T x.strategy
  pub at : At T x.strategy x.entry x.place

-- it has a derivation alone on the starting term
pub record Alone (T : Table) (t : Term) (b : Env) (x : Site) : Type 0 where
  pub stands : Stands T x
  pub outcome : Out Term Env
  pub derivation : T ⊢ apply x.entry t b ⇒ outcome

-- the same elements in another order: a list is reached by swapping neighbours
pub data Reordered {A : Type 0} : List A → List A → Type 0 where
  none_left : Reordered [] []
  first-stays : {x : A} {xs ys : List A} → Reordered xs ys → Reordered (x ∷ xs) (x ∷ ys)
  first_two : {x y : A} {xs : List A} → Reordered (x ∷ y ∷ xs) (y ∷ x ∷ xs)
  one_by_one : {xs ys zs : List A} → Reordered xs ys → Reordered ys zs → Reordered xs zs

-- entry s runs them in this order, as SEQs nested to the right; none at all is ID
pub data InOrder (T : Table) : ℕ → List Site → Type 0 where
  order-none : {s : ℕ} → T ∶ s is ID → InOrder T s []
  order-last : {x : Site} → InOrder T x.entry (x ∷ [])
  order-more : {s r : ℕ} {x y : Site} {xs : List Site} → T ∶ s is SEQ x.entry r → InOrder T r (y ∷ xs) → InOrder T s (x ∷ y ∷ xs)

-- every entry that runs the sites in some order has this outcome on t
abbrev pub EveryOrder : Table → List Site → Term → Env → Out Term Env → Type 0
EveryOrder T xs t b o = (ys : List Site) (s : ℕ) → Reordered xs ys → InOrder T s ys → T ⊢ apply s t b ⇒ o

-- Demand 3 for any number of places: every ordering has a derivation; all fail, or all end in one term, with the bindings of the
-- start.
abbrev pub Demand3All : Type 0
Demand3All =
    (T : Table) (xs : List Site) (t : Term) (b : Env) → Every (Alone T t b) xs → Separate xs
    → EveryOrder T xs t b failed ⊎ ((t' : Term) × EveryOrder T xs t b (done t' b))

-- Two orderings that both have a derivation agree; nothing is asked of the strategies alone.
abbrev pub OrdersAgree : Type 0
OrdersAgree =
    (T : Table) (xs ys zs : List Site) (t : Term) (b : Env) (s s' : ℕ) (o o' : Out Term Env) → Every (Stands T) xs → Separate xs
    → Reordered xs ys → Reordered xs zs → InOrder T s ys → InOrder T s' zs
    → T ⊢ apply s t b ⇒ o → T ⊢ apply s' t b ⇒ o'
    → EitherOrder T s s' t b
