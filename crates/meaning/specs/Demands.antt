-- The demands, as statements about the definitions. Each has its proof in proofs/Demands.antt, under the same name in small
-- letters.
use Rattle.std.specs.Prelude.{◌≡◌, ◌↔◌, ◌⊎◌, List, [], ◌∷◌, ℕ, ◌+◌, ◌≤◌}
use Rattle.words.specs.Words.{rows}
use Rattle.meaning.specs.Term.{Term}
use Rattle.meaning.specs.Table.{Table, SEQ, PATH, table_by}
use Rattle.meaning.specs.Plan.{keep, ret, fail, ask}
use Rattle.meaning.specs.Rules.{Visit, apply, does, compare}
use Rattle.meaning.specs.Derivation.{Out, done, failed, what, Fate, stays, fails, Trace, over, visit, left, Notes, noted, quiet, places, misses, last_of, terms, Der, trace as traceDer}
use Rattle.meaning.specs.Limits.{Res, ended, lost, cut, Counted, at, counting, run}
use Rattle.meaning.specs.System.{Env, ◌∶◌is◌, ◌⊢◌⇒◌, trace}
use Rattle.meaning.specs.Beginning.{at-unbound, Begun, Given, Fits, Met, stop, level, trace as traceBegun}
use Rattle.meaning.specs.Store.{Input, AcceptedBy, ran_by, term, meant, bindings, value, deepest, Leaves}
pub use Rattle.meaning.specs.Store.{Kept, Sound, Leaves}
use Rattle.meaning.specs.Free.{Free, Closed}

-- The plans' rules and the paper's rules derive the same, and do the same on the way.
abbrev pub RulesAgree : Type 0
RulesAgree =
    (T : Table) (q : Visit Term) (o : Out Term Env) (n : Trace)
    → ((r : T ⊢ q ⇒ o) × (trace r ≡ n)) ↔ ((d : Der terms (does T) (does T q) o) × (traceDer d ≡ n))

-- a visit has one outcome, and one way to it
abbrev pub Deterministic : Type 0
Deterministic = (T : Table) (q : Visit Term) (o o' : Out Term Env) (r : T ⊢ q ⇒ o) (r' : T ⊢ q ⇒ o') → (o ≡ o') × (trace r ≡ trace r')

-- the start's own visit, and what it does
abbrev pub whole : Visit Term → Fate → Trace → Trace
whole q f t = visit (what q) f t over

-- what a run's answer says: done and failed are a derivation that fits, a cut-off is a beginning that fits and meets its limit,
-- or ends at a variable without its binding; what was noted is noted of what was done, n being the notes at the beginning
abbrev pub Says : {N : Type 0} → Notes N → N → Table → Given → Visit Term → Res Term Env (Counted N) N → Type 0
Says Λ n T g q (ended t b s u) = (r : T ⊢ q ⇒ done t b) × Fits g (whole q stays (trace r)) u × (s.mark ≡ g.mark + left (whole q stays (trace r))) × (s.notes ≡ noted Λ (whole q stays (trace r)) n)
Says Λ n T g q (lost l u) = (r : T ⊢ q ⇒ failed) × Fits g (whole q fails (trace r)) u × (l ≡ noted Λ (whole q fails (trace r)) n)
Says Λ n T g q (cut c l u) = (s : Begun T (ask keep q ret fail) (stop c)) × Fits g (traceBegun s) u × Met g c (level s) (left (traceBegun s)) u × (l ≡ noted Λ (traceBegun s) n)

-- Demand 2, terms as values: the run answers r exactly when r says what is so.
abbrev pub Demand2Values : Type 1
Demand2Values =
    (N : Type 0) (Λ : Notes N) (n : N) (T : Table) (g : Given) (q : Visit Term) (r : Res Term Env (Counted N) N) → g.mark ≤ g.size
    → (run (counting terms Λ g.size) (does T) g.nesting q (at g.mark n) g.units ≡ r) ↔ Says Λ n T g q r

-- What the notes of places say of a trace: the last pattern at which a match gives up in it, in the order of time, n where none does.
abbrev pub PlacesAreLast : Type 0
PlacesAreLast = (t : Trace) (n : ℕ) → noted places t n ≡ last_of n (misses t)

-- What meets a variable without its binding has no derivation, whatever the limits.
abbrev pub UnboundUnderivable : Type 0
UnboundUnderivable = (T : Table) (q : Visit Term) (v : ℕ) → Begun T (ask keep q ret fail) (at-unbound v) → (o : Out Term Env) → T ⊢ q ⇒ o → ⊥

-- what an accepted input gives a run, and what it starts with
abbrev pub limits : Input → Given
limits i = record { units = i.units; size = rows i.store; mark = i.mark; nesting = deepest }

abbrev pub start_visit : Input → Visit Term
start_visit i = apply i.start (term i.store i.subject) (meant i.store (bindings i.bindings))

-- Demand 2 over the words: on an accepted input the run answers r exactly when r says what is so of the terms that the words name.
-- It holds whatever number of words W a scope's mask has, and so whatever the number of variables.
abbrev pub Demand2By : ℕ → Type 1
Demand2By W =
    (N : Type 0) (Λ : Notes N) (n : N) (i : Input) → AcceptedBy W i → (r : Res Term Env (Counted N) N)
    → (value (ran_by W Λ n i) ≡ r) ↔ Says Λ n (table_by W i.table) (limits i) (start_visit i) r

abbrev pub Demand2 : Type 1
Demand2 = (W : ℕ) → Demand2By W

-- how a run ends, without what it noted
unfoldable pub unnoted : {N : Type 0} → Res Term Env (Counted N) N → Res Term Env (Counted (Unit {0})) (Unit {0})
unnoted (ended t b s u) = ended t b (at s.mark tt) u
unnoted (lost l u) = lost tt u
unnoted (cut c l u) = cut c tt u

-- What a run notes changes nothing else: it ends as the run that notes nothing.
abbrev pub NotesApart : Type 1
NotesApart = (W : ℕ) (N : Type 0) (Λ : Notes N) (n : N) (i : Input) → AcceptedBy W i → unnoted (value (ran_by W Λ n i)) ≡ value (ran_by W quiet tt i)

-- Over the words and over values a run ends alike; nodes in use stay, new ones come after, and what is left is sound.
abbrev pub OverTheWords : Type 1
OverTheWords =
    (W : ℕ) (N : Type 0) (Λ : Notes N) (n : N) (i : Input) → AcceptedBy W i
    → (value (ran_by W Λ n i) ≡ run (counting terms Λ (rows i.store)) (does (table_by W i.table)) deepest (start_visit i) (at i.mark n) i.units)
    × Leaves i.store i.mark (ran_by W Λ n i)

-- Two terms compare equal exactly when they are equal as values.
abbrev pub Compared : Type 0
Compared = (T : Table) (g t : Term) (b : Env) → ((T ⊢ compare g t b ⇒ done t b) ↔ (g ≡ t)) × ((T ⊢ compare g t b ⇒ failed) ↔ (g ≡ t → ⊥))

-- A strategy leaves every binding outside its free variables as it was.
abbrev pub OutsideFree : Type 0
OutsideFree = (T : Table) (x : ℕ) (t t' : Term) (b b' : Env) → T ⊢ apply x t b ⇒ done t' b' → (v : ℕ) → (Free T x v → ⊥) → b' v ≡ b v

-- Without free variables the bindings come back as they went in.
abbrev pub ClosedKeeps : Type 0
ClosedKeeps = (T : Table) (x : ℕ) (t t' : Term) (b b' : Env) → Closed T x → T ⊢ apply x t b ⇒ done t' b' → b' ≡ b

-- entry e runs x at the place π: under those PATHs, the first outermost
pub data At (T : Table) (x : ℕ) : ℕ → List ℕ → Type 0 where
  at-root : At T x x []
  at-child : {e y i : ℕ} {π : List ℕ} → T ∶ e is PATH i y → At T x y π → At T x e (i ∷ π)

-- the place π is a beginning of the place ρ
pub data Encloses : List ℕ → List ℕ → Type 0 where
  encloses-root : {ρ : List ℕ} → Encloses [] ρ
  encloses-child : {i : ℕ} {π ρ : List ℕ} → Encloses π ρ → Encloses (i ∷ π) (i ∷ ρ)

-- s and s' both fail on t, or both succeed with equal terms; the bindings are as at the start
abbrev pub EitherOrder : Table → (s s' : ℕ) → Term → Env → Type 0
EitherOrder T s s' t b =
    ((T ⊢ apply s t b ⇒ failed) × (T ⊢ apply s' t b ⇒ failed))
    ⊎ ((t' : Term) × (T ⊢ apply s t b ⇒ done t' b) × (T ⊢ apply s' t b ⇒ done t' b))

-- Demand 3: e runs x at π and f runs y at ρ, neither place inside the other; s and s' are the two orders.
abbrev pub Demand3 : Type 0
Demand3 =
    (T : Table) (x y e f s s' : ℕ) (π ρ : List ℕ) (t : Term) (b : Env) (o o' : Out Term Env)
    → Closed T x → Closed T y → At T x e π → At T y f ρ → (Encloses π ρ → ⊥) → (Encloses ρ π → ⊥)
    → T ∶ s is SEQ e f → T ∶ s' is SEQ f e
    → T ⊢ apply e t b ⇒ o → T ⊢ apply f t b ⇒ o'
    → EitherOrder T s s' t b

-- two answers, where both are done or failed: both failed, or both done with equal terms and bindings
abbrev pub Agreed : {N : Type 0} → Res Term Env (Counted N) N → Res Term Env (Counted N) N → Type 0
Agreed (ended t b m u) (ended t' b' m' u') = (t ≡ t') × (b ≡ b')
Agreed (ended t b m u) (lost l u') = ⊥
Agreed (ended t b m u) (cut c l u') = Unit {0}
Agreed (lost l u) (ended t b m u') = ⊥
Agreed (lost l u) (lost l' u') = Unit {0}
Agreed (lost l u) (cut c l' u') = Unit {0}
Agreed (cut c l u) r = Unit {0}

-- the same input with another start and other units
abbrev pub started : Input → (start units : ℕ) → Input
started i s u = record { table = i.table; store = i.store; bindings = i.bindings; mark = i.mark; start = s; subject = i.subject; units = u }

-- Demand 3, of runs: two runs, one in each order, that both end in done or failed agree, whatever units each is given.
abbrev pub Demand3RunsBy : ℕ → Type 1
Demand3RunsBy W =
    (N : Type 0) (Λ : Notes N) (n : N) (i : Input) (s u : ℕ) → AcceptedBy W i → AcceptedBy W (started i s u)
    → EitherOrder (table_by W i.table) i.start s (term i.store i.subject) (meant i.store (bindings i.bindings))
    → Agreed (value (ran_by W Λ n i)) (value (ran_by W Λ n (started i s u)))

abbrev pub Demand3Runs : Type 1
Demand3Runs = (W : ℕ) → Demand3RunsBy W
