-- Any number of places. Neighbours may be swapped, by what is shown of two places, and what is left of an order has its
-- derivations on the term that the first leaves.
use mathlib.Core.Path.{◌≡◌, refl, ap, sym, ◌∙◌, subst}
use mathlib.Core.Logic.{◌⊎◌, inl, inr}
use mathlib.Core.Option.{Option, none, some}
use mathlib.Core.List.{List, [], ◌∷◌}
use Prim.Native.Nat.{ℕ}
use Rattle.meaning.specs.Term.{Term}
use Rattle.meaning.specs.Table.{SEQ, Table}
use Rattle.meaning.specs.Plan.{keep, ret, fail, ask}
use Rattle.meaning.specs.Rules.{apply, strategy, does}
use Rattle.meaning.specs.Derivation.{Out, done, failed, Trace, terms, Der}
use Rattle.meaning.specs.System.{Env, ◌∶◌is◌, ◌⊢◌⇒◌, id-done, seq-then, seq-failed}
use Rattle.meaning.specs.Demands.{EitherOrder, Demand3}
use Rattle.meaning.specs.Orderings.{Site, Every, every-none, every_more, Outside, Separate, separate-none, separate-more, Stands}
use Rattle.meaning.specs.Orderings.{Alone, Reordered, none_left, first-stays, first_two, one_by_one, InOrder, order-none, order-last}
use Rattle.meaning.specs.Orderings.{order-more, EveryOrder, Demand3All, OrdersAgree}
use Rattle.meaning.proofs.Tests.{impossible}
use Rattle.meaning.proofs.Deterministic.{done-failed, deterministic}
use Rattle.meaning.proofs.Inversion.{Asked, on-success, on-failure, ret_inv, fail-inv, ask-inv}
use Rattle.meaning.proofs.Places.{to-plans, from-plans, Apart, apart-sym, part, Placed, at-inv, at-intro, fails-still, failed-before, commute, done-before, closed-placed}

every_map : {A : Type 0} {P Q : A → Type 0} {xs : List A} → ((x : A) → P x → Q x) → Every P xs → Every Q xs
every_map f every-none = every-none
every_map f (every_more {x = x} p ps) = every_more (f x p) (every_map f ps)

-- P of each where Q holds of each as well
every-both : {A : Type 0} {P Q R : A → Type 0} {xs : List A} → ((x : A) → P x → Q x → R x) → Every P xs → Every Q xs → Every R xs
every-both f every-none every-none = every-none
every-both f (every_more {x = x} p ps) (every_more q qs) = every_more (f x p q) (every-both f ps qs)

-- in another order
every-reordered : {A : Type 0} {P : A → Type 0} {xs ys : List A} → Reordered xs ys → Every P xs → Every P ys
every-reordered none_left every-none = every-none
every-reordered (first-stays r) (every_more p ps) = every_more p (every-reordered r ps)
every-reordered first_two (every_more p (every_more q ps)) = every_more q (every_more p ps)
every-reordered (one_by_one r s) ps = every-reordered s (every-reordered r ps)

turned : {x y : Site} → Outside x y → Outside y x
turned o = record { above = o.below; below = o.above }

separate-reordered : {xs ys : List Site} → Reordered xs ys → Separate xs → Separate ys
separate-reordered none_left separate-none = separate-none
separate-reordered (first-stays r) (separate-more o s) = separate-more (every-reordered r o) (separate-reordered r s)
separate-reordered first_two (separate-more (every_more o os) (separate-more p s)) = separate-more (every_more (turned o) p) (separate-more os s)
separate-reordered (one_by_one r r') s = separate-reordered r' (separate-reordered r s)

parts : {x y : Site} → Outside x y → Apart x.place y.place
parts {x} {y} o = part x.place y.place o.above o.below

-- the way back
backwards : {A : Type 0} {xs ys : List A} → Reordered xs ys → Reordered ys xs
backwards none_left = none_left
backwards (first-stays r) = first-stays (backwards r)
backwards first_two = first_two
backwards (one_by_one r s) = one_by_one (backwards s) (backwards r)

-- how a SEQ comes to its outcome
data Sequence (T : Table) (e f : ℕ) (t₀ : Term) (b₀ : Env) (o : Out Term Env) : Type 0 where
  seq_stops : T ⊢ apply e t₀ b₀ ⇒ failed → o ≡ failed → Sequence T e f t₀ b₀ o
  seq-goes : {t : Term} {b : Env} → T ⊢ apply e t₀ b₀ ⇒ done t b → T ⊢ apply f t b ⇒ o → Sequence T e f t₀ b₀ o

module _ (T : Table) where
  seq-inv : {s e f : ℕ} {t : Term} {b : Env} {o : Out Term Env} → T ∶ s is SEQ e f → T ⊢ apply s t b ⇒ o → Sequence T e f t b o
  unfolding does strategy
  seq-inv {s} {e} {f} {t} {b} {o} i r = go (ask-inv (subst (λ x. Der terms (does T) (strategy x t b) o) i (to-plans T r)))
    where
      second : {h : Term} {c : Env} {n : Trace} → Asked terms (does T) keep (apply f h c) ret fail o n → T ⊢ apply f h c ⇒ o
      second {h} {c} (on-success d x q) = subst (λ o. T ⊢ apply f h c ⇒ o) (sym (ret_inv x).0) (from-plans T d)
      second {h} {c} (on-failure d x q) = subst (λ o. T ⊢ apply f h c ⇒ o) (sym (fail-inv x).0) (from-plans T d)

      go : {n : Trace} → Asked terms (does T) keep (apply e t b) (λ h' b'. ask keep (apply f h' b') ret fail) fail o n → Sequence T e f t b o
      go (on-success d x q) = seq-goes (from-plans T d) (second (ask-inv x))
      go (on-failure d x q) = seq_stops (from-plans T d) (fail-inv x).0

module _ (T : Table) (b : Env) where
  -- the site's strategy at its place in t; it gives the bindings back
  abbrev Fails : Site → Term → Type 0
  Fails x t = Placed T b x.strategy x.place t failed

  abbrev Turns : Site → Term → Term → Type 0
  Turns x t t' = Placed T b x.strategy x.place t (done t' b)

  -- what it does on t
  data Does (x : Site) (t : Term) : Type 0 where
    fails : Fails x t → Does x t
    turns : (t' : Term) → Turns x t t' → Does x t

  -- where a strategy stands and what it does on t
  record Ready (t : Term) (x : Site) : Type 0 where
    stands : Stands T x
    does : Does x t

  ready : (t : Term) (x : Site) → Alone T t b x → Ready t x
  ready t x a = record { stands = a.stands; does = go a.outcome (at-inv T b a.stands.at t a.outcome a.derivation) }
    where
      go : (o : Out Term Env) → Placed T b x.strategy x.place t o → Does x t
      go failed p = fails p
      go (done t' c) p = turns t' (subst (λ d. Placed T b x.strategy x.place t (done t' d)) (closed-placed T b a.stands.closed p) p)

  -- it does one thing
  not-both : {x : Site} {t t' : Term} {A : Type 0} → Stands T x → Turns x t t' → Fails x t → A
  not-both {t = t} f p q = absurd (done-failed (deterministic T _ _ _ (at-intro T b f.at t _ p) (at-intro T b f.at t _ q)).0)

  one_way : {x : Site} {t t₁ t₂ : Term} → Stands T x → Turns x t t₁ → Turns x t t₂ → t₁ ≡ t₂
  one_way {t = t} f p q = let e = (deterministic T _ _ _ (at-intro T b f.at t _ p) (at-intro T b f.at t _ q)).0 in cc

  -- after a change at a place outside it is ready still
  ready-after : {x : Site} {t t' : Term} → Turns x t t' → (y : Site) → Outside x y → Ready t y → Ready t' y
  ready-after {x} {t} {t'} p y o r = record { stands = r.stands; does = go r.does }
    where
      go : Does y t → Does y t'
      go (fails q) = fails (fails-still T b (parts o) p q)
      go (turns t₂ q) = let (t₃, q', p') = commute T b (parts o) p q in turns t₃ q'

  -- the sites in order from t: one of them fails, or they end in a term
  data Chain : Term → List Site → Option Term → Type 0 where
    c-end : {t : Term} → Chain t [] (some t)
    c-fails : {t : Term} {x : Site} {xs : List Site} → Fails x t → Chain t (x ∷ xs) none
    c-turns : {t t' : Term} {x : Site} {xs : List Site} {o : Option Term} → Turns x t t' → Chain t' xs o → Chain t (x ∷ xs) o

  chain : (t : Term) {xs : List Site} → Separate xs → Every (Ready t) xs → (o : Option Term) × Chain t xs o
  chain t separate-none every-none = (some t, c-end)
  chain t (separate-more {xs = xs} os s) (every_more {x = x} r rs) = go (λ t' p. chain t' s (every-both (λ y o q. ready-after p y o q) os rs)) r.does
    where
      go : ((t' : Term) → Turns x t t' → (o : Option Term) × Chain t' xs o) → Does x t → (o : Option Term) × Chain t (x ∷ xs) o
      go f (fails p) = (none, c-fails p)
      go f (turns t' p) = let (o, c) = f t' p in (o, c-turns p c)

  -- two neighbours change their order
  swap : {t : Term} {x y : Site} {xs : List Site} {o : Option Term} → Outside x y → Stands T x → Stands T y → Does y t → Chain t (x ∷ y ∷ xs) o → Chain t (y ∷ x ∷ xs) o
  swap o f g (fails q) (c-fails p) = c-fails q
  swap o f g (turns t₂ q) (c-fails p) = c-turns q (c-fails (fails-still T b (apart-sym (parts o)) q p))
  swap o f g (fails q) (c-turns p (c-fails q')) = c-fails q
  swap o f g (turns t₂ q) (c-turns p (c-fails q')) = let (t₃, q'', p') = commute T b (parts o) p q in not-both g q'' q'
  swap o f g (fails q) (c-turns p (c-turns q' c)) = not-both g q' (fails-still T b (parts o) p q)
  swap {x = x} {xs = xs} {o = w} o f g (turns t₂ q) (c-turns p (c-turns q' c)) =
      let (t₃, q'', p') = commute T b (parts o) p q in
      c-turns q (c-turns p' (subst (λ t. Chain t xs w) (one_way g q' q'') c))

  -- any order ends alike
  reorder : {xs ys : List Site} {o : Option Term} → Reordered xs ys → (t : Term) → Separate xs → Every (Ready t) xs → Chain t xs o → Chain t ys o
  reorder none_left t s rs c = c
  reorder (first-stays r) t (separate-more os s) (every_more q qs) (c-fails p) = c-fails p
  reorder (first-stays r) t (separate-more os s) (every_more q qs) (c-turns {t' = t'} p c) = c-turns p (reorder r t' s (every-both (λ y o z. ready-after p y o z) os qs) c)
  reorder first_two t (separate-more (every_more o os) s) (every_more p (every_more q qs)) c = swap o p.stands q.stands q.does c
  reorder (one_by_one r r') t s rs c = reorder r' t (separate-reordered r s) (every-reordered r rs) (reorder r t s rs c)

  -- the outcome as a derivation's
  abbrev outcome : Option Term → Out Term Env
  outcome none = failed
  outcome (some t) = done t b

  derived : {s : ℕ} {xs : List Site} {t : Term} {o : Option Term} → InOrder T s xs → Every (Stands T) xs → Chain t xs o → T ⊢ apply s t b ⇒ outcome o
  derived (order-none e) fs c-end = id-done e
  derived {t = t} order-last (every_more f fs) (c-fails p) = at-intro T b f.at t failed p
  derived {t = t} order-last (every_more f fs) (c-turns {t' = t'} p c-end) = at-intro T b f.at t (done t' b) p
  derived {t = t} (order-more e i) (every_more f fs) (c-fails p) = seq-failed e (at-intro T b f.at t failed p)
  derived {t = t} (order-more e i) (every_more f fs) (c-turns {t' = t'} p c) = seq-then e (at-intro T b f.at t (done t' b) p) (derived i fs c)

  every-order : (xs : List Site) (t : Term) → Every (Alone T t b) xs → Separate xs → EveryOrder T xs t b failed ⊎ ((t' : Term) × EveryOrder T xs t b (done t' b))
  every-order xs t zs s = let rs = every_map (ready t) zs in go rs (chain t s rs)
    where
      go : Every (Ready t) xs → (o : Option Term) × Chain t xs o → EveryOrder T xs t b failed ⊎ ((t' : Term) × EveryOrder T xs t b (done t' b))
      go rs (none, c) = inl (λ ys e r i. derived i (every_map (λ x q. q.stands) (every-reordered r rs)) (reorder r t s rs c))
      go rs (some t', c) = inr (t', λ ys e r i. derived i (every_map (λ x q. q.stands) (every-reordered r rs)) (reorder r t s rs c))

  -- what has an outcome after a change at a place outside had one before it
  ready-before : {x : Site} {t t' : Term} → Turns x t t' → (y : Site) → Outside x y → Ready t' y → Ready t y
  ready-before {x} {t} {t'} p y o r = record { stands = r.stands; does = go r.does }
    where
      go : Does y t' → Does y t
      go (fails q) = fails (failed-before T b (parts o) p q)
      go (turns t₂ q) = let (t₃, q') = done-before T b (parts o) p q in turns t₃ q'

  -- where an ordering is done, each was ready at its beginning
  all-ready : {t t' : Term} {xs : List Site} → Separate xs → Every (Stands T) xs → Chain t xs (some t') → Every (Ready t) xs
  all-ready separate-none every-none c-end = every-none
  all-ready (separate-more os s) (every_more f fs) (c-turns {t' = t₁} p c) =
      every_more (record { stands = f; does = turns t₁ p }) (every-both (λ y o r. ready-before p y o r) os (all-ready s fs c))

  -- an ordering has one outcome
  one-chain : {t : Term} {xs : List Site} {o o' : Option Term} → Every (Stands T) xs → Chain t xs o → Chain t xs o' → o ≡ o'
  one-chain fs c-end c-end = refl
  one-chain fs (c-fails p) (c-fails q) = refl
  one-chain (every_more f fs) (c-fails p) (c-turns q d) = not-both f q p
  one-chain (every_more f fs) (c-turns p c) (c-fails q) = not-both f p q
  one-chain {o' = o'} (every_more f fs) (c-turns {t' = t₁} {xs = xs} p c) (c-turns q d) = one-chain fs c (subst (λ t. Chain t xs o') (one_way f q p) d)

  -- two orderings that both come to an end, end alike
  chains-agree : {t : Term} {xs ys zs : List Site} → Separate xs → Every (Stands T) xs → Reordered xs ys → Reordered xs zs → (o o' : Option Term) → Chain t ys o → Chain t zs o' → o ≡ o'
  chains-agree s fs r r' none none c d = refl
  chains-agree {t} s fs r r' (some t₁) o' c d =
      let gs = every-reordered r fs in
      let z = separate-reordered r s in
      one-chain (every-reordered r' fs) (reorder (one_by_one (backwards r) r') t z (all-ready z gs c) c) d
  chains-agree {t} s fs r r' none (some t₂) c d =
      let gs = every-reordered r' fs in
      let z = separate-reordered r' s in
      one-chain (every-reordered r fs) c (reorder (one_by_one (backwards r') r) t z (all-ready z gs d) d)

  -- an ordering from t comes to an end, and that is o
  abbrev Ends : Term → List Site → Out Term Env → Type 0
  Ends t xs o = (w : Option Term) × (o ≡ outcome w) × Chain t xs w

  -- at its place a strategy without free variables turns the term and gives the bindings back
  turned-at : {x : Site} {t t' : Term} {c : Env} → Stands T x → T ⊢ apply x.entry t b ⇒ done t' c → (c ≡ b) × Turns x t t'
  turned-at {x} {t} {t'} {c} f r =
      let p = at-inv T b f.at t (done t' c) r in
      let e = closed-placed T b f.closed p in
      (e, subst (λ d. Placed T b x.strategy x.place t (done t' d)) e p)

  last-ends : {x : Site} {t : Term} (o : Out Term Env) → Stands T x → T ⊢ apply x.entry t b ⇒ o → Ends t (x ∷ []) o
  last-ends {t = t} failed f r = (none, refl, c-fails (at-inv T b f.at t failed r))
  last-ends (done t' c) f r = let (e, p) = turned-at f r in (some t', ap (done t') e, c-turns p c-end)

  first_ends : {x : Site} {xs : List Site} {r : ℕ} {t : Term} {o : Out Term Env} → Stands T x → Sequence T x.entry r t b o
      → ((t₁ : Term) → T ⊢ apply r t₁ b ⇒ o → Ends t₁ xs o) → Ends t (x ∷ xs) o
  first_ends {t = t} f (seq_stops d z) later = (none, z, c-fails (at-inv T b f.at t failed d))
  first_ends {r = r} {o = o} f (seq-goes {t = t₁} d d') later =
      let (e, p) = turned-at f d in
      let (w, q, k) = later t₁ (subst (λ c. T ⊢ apply r t₁ c ⇒ o) e d') in
      (w, q, c-turns p k)

  -- the derivation of an ordering
  ordering-ends : {s : ℕ} {xs : List Site} {t : Term} (o : Out Term Env) → InOrder T s xs → Every (Stands T) xs → T ⊢ apply s t b ⇒ o → Ends t xs o
  ordering-ends {t = t} o (order-none e) fs r = (some t, (deterministic T _ _ _ r (id-done e)).0, c-end)
  ordering-ends o order-last (every_more f fs) r = last-ends o f r
  ordering-ends o (order-more e i) (every_more f fs) r = first_ends f (seq-inv T e r) (λ t₁ d. ordering-ends o i fs d)

pub demand-3-all : Demand3All
demand-3-all T xs t b = every-order T b xs t

pub orders-agree : OrdersAgree
orders-agree T xs ys zs t b s s' o o' fs apart r r' i j d d' =
    let (w, q, c) = ordering-ends T b o i (every-reordered r fs) d in
    let (w', q', c') = ordering-ends T b o' j (every-reordered r' fs) d' in
    go w w' q q' (chains-agree T b apart fs r r' w w' c c')
  where
    go : (w w' : Option Term) → o ≡ outcome T b w → o' ≡ outcome T b w' → w ≡ w' → EitherOrder T s s' t b
    go none none q q' e = inl (subst (λ o. T ⊢ apply s t b ⇒ o) q d, subst (λ o. T ⊢ apply s' t b ⇒ o) q' d')
    go none (some t₂) q q' e = impossible (cc)
    go (some t₁) none q q' e = impossible (cc)
    go (some t₁) (some t₂) q q' e = inr (t₁, subst (λ o. T ⊢ apply s t b ⇒ o) q d, subst (λ o. T ⊢ apply s' t b ⇒ o) (q' ∙ (cc)) d')

-- Two places are the case of a list of two.
pub demand-3 : Demand3
demand-3 T x y e f s s' π ρ t b o o' cx cy p q n n' i j r r' = go (demand-3-all T (X ∷ Y ∷ []) t b (every_more alone-X (every_more alone-Y every-none)) apart)
  where
    X : Site
    X = record { strategy = x; entry = e; place = π }

    Y : Site
    Y = record { strategy = y; entry = f; place = ρ }

    alone-X : Alone T t b X
    alone-X = record { stands = record { closed = cx; at = p }; outcome = o; derivation = r }

    alone-Y : Alone T t b Y
    alone-Y = record { stands = record { closed = cy; at = q }; outcome = o'; derivation = r' }

    apart : Separate (X ∷ Y ∷ [])
    apart = separate-more (every_more (record { above = n; below = n' }) every-none) (separate-more every-none separate-none)

    go : EveryOrder T (X ∷ Y ∷ []) t b failed ⊎ ((t' : Term) × EveryOrder T (X ∷ Y ∷ []) t b (done t' b)) → EitherOrder T s s' t b
    go (inl f) = inl (f _ s (first-stays (first-stays none_left)) (order-more i order-last), f _ s' first_two (order-more j order-last))
    go (inr (t', f)) = inr (t', f _ s (first-stays (first-stays none_left)) (order-more i order-last), f _ s' first_two (order-more j order-last))
