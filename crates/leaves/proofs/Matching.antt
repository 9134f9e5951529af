-- MATCH over the store's words: a visit of a pattern by its kind, and the children of a PCON one at a time.
use mathlib.Core.Path.{◌≡◌, refl, ap, sym, ◌∙◌, subst}
use mathlib.Core.Bool.{Bool, true, false}
use mathlib.Core.Option.{none, some}
use mathlib.Core.Logic.{⊎_elim, inl, inr}
use mathlib.Core.List.{List, [], ◌∷◌, ◌++◌}
use Prim.Native.Nat.{ℕ, ◌+◌, ◌-◌, ◌≤◌, ◌<◌}
use native.Mathlib.Omega.{arith}
use lib.Dec.{eqb}
use borrow.Author.Tests.{eqb-true, eqb-false}
use lib.ListN.{length, drop}
use Rattle.checks.specs.Kinds.{variables}
use Rattle.words.specs.Words.{word_at}
use Rattle.std.specs.Prelude.{if◌then◌else◌}
use Rattle.checks.specs.Good.{kind_of, operand_count, argument_of}
use Rattle.meaning.specs.Bindings.{Bindings, bind}
use Rattle.meaning.specs.Table.{table, operands}
use Rattle.meaning.specs.Plan.{ret}
use Rattle.meaning.specs.Rules.{Visit, match, compare, Do, does, matching, variable, agree, when_at, walk, zip}
use Rattle.meaning.specs.Limits.{units, nesting, ended, lost, at, run_plan}
use Rattle.meaning.specs.Store.{children}
use Rattle.index.specs.Run.{noting}
use Rattle.state.specs.Noted.{Standing, missed_at, on, Ran, left_of}
use Rattle.state.specs.declared.answers.Answer.{Answer}
use Rattle.state.specs.declared.answers.Answer.TheVariants.{Done, Failed, Cut}
use Rattle.state.specs.Answers.{answer_of, packed, node_in, units_in, failed_word, units_word, nesting_word, stopped_word}
use Rattle.state.specs.Record.{record_long, word_of, mark_of, mask_of, notes_of, standing, missing, given_up, bit_of, held, bound, Framed}
use Rattle.state.specs.Record.{miss_of, lasting}
use Rattle.state.specs.Visits.{count_of, agreeing, visit, plan, meaning, out, giving, kept, Pattern, Entries, Matchable, Gives}
use Rattle.state.specs.Visits.{MatchesChildren, Stored, Bound}
use Rattle.state.proofs.AnswerWords.{stopped-units, stopped-nesting, answer-stopped, out-done, out-failed, out-answer, kept-done}
use Rattle.state.proofs.AnswerWords.{kept-failed, kept-units, kept-nesting, kept-answer, node-packed, units-packed, packed-again}
use Rattle.state.proofs.AnswerWords.{done-node}
use Rattle.state.proofs.Asking.{Tagged, gives_up, last-match}
use Rattle.leaves.proofs.Kind.{counted, no-units, no-nesting, pattern-variable, pattern-con}
use Rattle.leaves.proofs.Keeping.{node-small}
use Rattle.leaves.proofs.Limited.{units-out, nesting-out}
use Rattle.state.proofs.Storing.{child-stored, steady-stored, steady-bound}
use Rattle.state.proofs.Holding.{further, framed-refl, framed-trans, framed-bound, held-bound, mark-bound, notes-bound}
use Rattle.state.proofs.Holding.{notes-missing, framed-missing, held-missing, held-some, held_none, lasting-missing, lasting-bound}
use Rattle.leaves.proofs.Children.{part-next, part_end}
use Rattle.leaves.proofs.Walking.{walk_end, walk-done, walk-failed, walk-cut, kept_on, kept-stop, returned, plan-missed}
use Rattle.leaves.proofs.Patterns.{no-variable, operand-pattern, agree-is, agreed-count}

-- the children of node k by the operands of entry p, from the i-th on
abbrev pub pairs : List ℕ → List ℕ → ℕ → ℕ → ℕ → List ℕ → Bindings ℕ → Do ℕ
pairs t w p k i gs b = walk (zip match (drop i (operands t p)) (drop i (children w k))) gs b (λ gs b'. ret k b')

-- a visit of the pattern q on node x
module _ (t : List ℕ) (n q x : ℕ) (b : Bindings ℕ) (w : List ℕ) (m : Standing) (u : ℕ) (h : u ≡ 0 → ⊥) (d : n ≡ 0 → ⊥) where
  opened : visit t n (match q x b) w m u ≡ plan t (n - 1) (matching q ((table t).patterns q) x b) w m (u - 1)
  unfolding does
  opened = counted t n (match q x b) w m u h d

  -- a variable
  module _ (v : ℕ) (kind : kind_of t q ≡ 18) (ve : v ≡ argument_of t q) where
    at-variable : visit t n (match q x b) w m u ≡ plan t (n - 1) (variable q (b v) v x b) w m (u - 1)
    unfolding matching
    at-variable = opened ∙ rw (pattern-variable t q kind, ve)

    pub variable-bound : (g : ℕ) → b v ≡ some g → visit t n (match q x b) w m u ≡ gives_up q (visit t (n - 1) (compare g x b) w m (u - 1))
    unfolding variable
    variable-bound g e = at-variable ∙ rw e (last-match t (n - 1) w m (u - 1) q (compare g x b))

    pub variable-free : b v ≡ none → visit t n (match q x b) w m u ≡ ended x (bind v x b) (on w m) (u - 1)
    unfolding variable
    variable-free e = at-variable ∙ rw e (returned t (n - 1) w m (u - 1) x (bind v x b))

  -- a constructor
  module _ (en : Entries t) (inside : q < 4096) (kind : kind_of t q ≡ 19) where
    looked : visit t n (match q x b) w m u ≡ plan t (n - 1) (when_at q
        (agree (argument_of t q) (operands t q) (word_at w x 0) (children w x)) (pairs t w q x 0 [] b)) w m (u - 1)
    unfolding matching plan run_plan
    looked = opened ∙ rw (pattern-con t q kind)

    at-constructor : (a : Bool) → agreeing t w q x ≡ a → visit t n (match q x b) w m u ≡ plan t (n - 1)
        (when_at q a (pairs t w q x 0 [] b)) w m (u - 1)
    at-constructor a e = looked ∙ ap (λ a. plan t (n - 1) (when_at q a (pairs t w q x 0 [] b)) w m (u - 1)) (agree-is t en w q x inside ∙ e)

    pub differs : agreeing t w q x ≡ false → visit t n (match q x b) w m u ≡ lost (left_of w (missed_at q m)) (u - 1)
    unfolding when_at
    differs e = at-constructor false e ∙ plan-missed t (n - 1) w m (u - 1) q

    pub agrees : agreeing t w q x ≡ true → visit t n (match q x b) w m u ≡ plan t (n - 1) (pairs t w q x 0 [] b) w m (u - 1)
    unfolding when_at
    agrees e = at-constructor true e

    pub agrees-leaf : agreeing t w q x ≡ true → operand_count t q ≡ 0 → visit t n (match q x b) w m u ≡ ended x b (on w m) (u - 1)
    unfolding zip
    agrees-leaf e z = agrees e ∙ walk_end t (n - 1) w m (u - 1) [] b _ _ (rw z) ∙ returned t (n - 1) w m (u - 1) x b

-- the mark m with what the record notes
abbrev pub stands : ℕ → List ℕ → Standing
stands m st = at m (notes_of st)

-- what the record st' binds stands in the store where what st binds does
abbrev pub Binds : List ℕ → List ℕ → List ℕ → Type 0
Binds w st st' = Bound w (held st) → Bound w (held st')

binds-missing : (w st : List ℕ) (q : ℕ) → Binds w st (missing st q)
binds-missing w st q h = subst (Bound w) (sym (held-missing further st q)) h

binds-bound : (w st : List ℕ) (v x : ℕ) → v < variables → length st ≡ record_long → Stored w x → Binds w st (bound st v x)
unfolding bind
binds-bound w st v x l long s h = subst (Bound w) (sym (held-bound further st v x l long)) (λ y j e. go y j (eqb y v) e)
  where
    go : (y j : ℕ) (a : Bool) → (if a then some x else held st y) ≡ some j → Stored w j
    go y j true e = let f : x ≡ j = cc in subst (Stored w) f s
    go y j false e = h y j e

-- a comparison's answer, and the answer of the match that asked for it: where it failed, the match gives up at q
module _ (a : Answer) (st : List ℕ) (q : ℕ) where
  framed-given-up : Framed st (given_up a st q)
  unfolding given_up
  framed-given-up = go a
    where
      go : (a : Answer) → Framed st (given_up a st q)
      go (Done x u) = framed-refl further st
      go (Failed u) = framed-missing further st q
      go (Cut c) = framed-refl further st

  lasting-given-up : lasting (given_up a st q) ≡ lasting st
  unfolding given_up
  lasting-given-up = go a
    where
      go : (a : Answer) → lasting (given_up a st q) ≡ lasting st
      go (Done x u) = refl
      go (Failed u) = lasting-missing further st q
      go (Cut c) = refl

  binds-given-up : (w : List ℕ) → Binds w st (given_up a st q)
  unfolding given_up
  binds-given-up w = go a
    where
      go : (a : Answer) → Binds w st (given_up a st q)
      go (Done x u) = λ h. h
      go (Failed u) = binds-missing w st q
      go (Cut c) = λ h. h

  giving-up : (x : ℕ) (w : List ℕ) (m : ℕ) → length st ≡ record_long →
      giving a x (held (given_up a st q)) w (stands m (given_up a st q)) ≡ gives_up q (giving a x (held st) w (stands m st))
  unfolding given_up giving gives_up
  giving-up x w m long = go a
    where
      go : (a : Answer) → giving a x (held (given_up a st q)) w (stands m (given_up a st q)) ≡ gives_up q
          (giving a x (held st) w (stands m st))
      go (Done y u) = refl
      go (Failed u) = rw (notes-missing further st q long)
      go (Cut c) = refl

-- what holds before child i, with the record st and the units u, in what follows the visit of entry p on the node of g: the
-- rest goes on to the whole, whatever the mark
pub record Matched (t w : List ℕ) (n p g : ℕ) (b st : List ℕ) (u i : ℕ) : Type 0 where
  pub goes_on : (m : ℕ) → (gs : List ℕ) × (plan t n (pairs t w p (node_in g) i gs (held st)) w (stands m st) u ≡ plan t n
      (pairs t w p (node_in g) 0 [] (held b)) w (stands m b) (units_in g))
  pub frame : Framed b st
  pub lasts : lasting st ≡ lasting b
  pub binds : Binds w b st

pub matched-none : (t w : List ℕ) (n p g : ℕ) (b : List ℕ) → Matched t w n p g b b (units_in g) 0
matched-none t w n p g b = record { goes_on = λ m. ([], refl); frame = framed-refl further b; lasts = refl; binds = λ h. h }

-- the same at values that are equal
pub matched-at : (t w : List ℕ) (n p g : ℕ) (b st st' : List ℕ) (u u' i : ℕ) → st' ≡ st → u' ≡ u → u < 4294967296 →
    Matched t w n p g b st u i → (u' < 4294967296) × Matched t w n p g b st' u' i
matched-at t w n p g b st st' u u' i e f l c = rw (e, f) (l, c)

-- a word read as a success
kept-is : (w : List ℕ) (r x : ℕ) (b : Bindings ℕ) (m : Standing) (a : Answer) → a ≡ answer_of r → (y v : ℕ) → a ≡ Done y v →
    kept r x b w m ≡ ended x b (on w m) v
unfolding giving
kept-is w r x b m a e y v f = kept-answer w w x b m r a e ∙ rw f

-- all children fit, and the word r says so
matched-end : (t w : List ℕ) (n p g : ℕ) (b st : List ℕ) (u i r : ℕ) → Matched t w n p g b st u i → operand_count t p ≤ i →
    ((m : ℕ) → kept r (node_in g) (held st) w (stands m st) ≡ ended (node_in g) (held st) (on w (stands m st)) u) →
    MatchesChildren t w n p g b r st
unfolding zip
matched-end t w n p g b st u i r c h e = record {
  is = λ m.
      e m
      ∙ sym (walk_end t n w (stands m st) u (c.goes_on m).0 (held st) _ _ (rw (part_end t p (operand_count t p) i (omega arith)))
      ∙ returned t n w (stands m st) u (node_in g) (held st))
      ∙ (c.goes_on m).1;
  frame = c.frame;
  lasts = c.lasts;
  binds = c.binds;
}

pub matched-all : (t w : List ℕ) (n p g : ℕ) (b st : List ℕ) (u i r : ℕ) → Matched t w n p g b st u i → operand_count t p ≤ i →
    r ≡ packed 0 u → u < 4294967296 → MatchesChildren t w n p g b r st
matched-all t w n p g b st u i r c h e l =
    matched-end t w n p g b st u i r c h (λ m. ap (λ r. kept r (node_in g) (held st) w (stands m st)) e
    ∙ kept-done w w (node_in g) (held st) (stands m st) 0 u (omega arith) l)

-- before child i: the operand q is next, on the child x
pub record Turn (t w : List ℕ) (n p g : ℕ) (b st : List ℕ) (u i q x : ℕ) : Type 0 where
  pub so_far : Matched t w n p g b st u i
  pub entries : Entries t
  pub inside : p < 4096
  pub kind : kind_of t p ≡ 19
  pub agreed : agreeing t w p (node_in g) ≡ true
  pub stands-there : Stored w (node_in g)
  pub below : i < operand_count t p
  pub operand : q ≡ word_at t p (2 + i)
  pub child : x ≡ word_at w (node_in g) (2 + i)
  pub few : u < 4294967296

module _ {t w : List ℕ} {n p g : ℕ} {b st : List ℕ} {u i q x : ℕ} (c : Turn t w n p g b st u i q x) where
  pub operand-is : (q < 4096) × Pattern t q
  operand-is = operand-pattern t c.entries p i q c.inside c.kind c.below c.operand

  pub variable-small : {v : ℕ} → kind_of t q ≡ 18 → v ≡ argument_of t q → v < variables
  variable-small k e = omega (arith, c.entries.variable q operand-is.0 k, e)

  pub constructor-is : {k : ℕ} → k ≡ kind_of t q → (k ≡ 18 → ⊥) → kind_of t q ≡ 19
  constructor-is {k} e n = no-variable t q k operand-is.1 e n

  -- the child stands in the store
  pub child-there : Stored w x
  child-there = child-stored c.stands-there i (omega (arith, c.below, agreed-count t w p (node_in g) c.agreed)) c.child

  -- so does the node of a bound variable
  pub bound-there : {v y : ℕ} → kind_of t q ≡ 18 → v ≡ argument_of t q → bit_of (mask_of st) v ≡ 1 → y ≡ word_of st v →
      Bound w (held b) → Stored w y
  bound-there {v} k e f ye h = subst (Stored w) (sym ye) (c.so_far.binds h v (word_of st v)
      (held-some further st v (variable-small k e) f))

  abbrev before : ℕ → List ℕ
  before m = (c.so_far.goes_on m).0

  abbrev rest : List (Bindings ℕ → Visit ℕ)
  rest = zip match (drop (i + 1) (operands t p)) (drop (i + 1) (children w (node_in g)))

  next : (m : ℕ) → plan t n (walk (match q x ∷ rest) (before m) (held st) (λ gs b'. ret (node_in g) b')) w (stands m st) u ≡ plan t n
      (pairs t w p (node_in g) 0 [] (held b)) w (stands m b) (units_in g)
  unfolding zip
  next m =
      let e : operand_count t p ≡ count_of w (node_in g) = agreed-count t w p (node_in g) c.agreed in
      let f : operand_count t p ≤ 6 = c.entries.few p c.inside in
      let h : i < operand_count t p = c.below in
      (λ k. plan t n (walk (match (c.operand k) (c.child k) ∷ rest) (before m) (held st) (λ gs b'. ret (node_in g) b')) w (stands m st) u)
      ∙ sym (rw (part-next t p (operand_count t p) i (omega arith), part-next w (node_in g) (word_at w (node_in g) 1) i (omega arith)))
      ∙ (c.so_far.goes_on m).1

  -- its visit does not succeed, and the word r says so, with the record st'
  from-here : (r : ℕ) (st' : List ℕ) → Framed st st' → lasting st' ≡ lasting st → Binds w st st' →
      ((m : ℕ) → kept r (node_in g) (held st') w (stands m st') ≡ plan t n
      (walk (match q x ∷ rest) (before m) (held st) (λ gs b'. ret (node_in g) b')) w (stands m st) u) → MatchesChildren t w n p g b r st'
  from-here r st' f k y e = record {
    is = λ m. e m ∙ next m;
    frame = framed-trans further b st st' c.so_far.frame f;
    lasts = k ∙ c.so_far.lasts;
    binds = λ h. y (c.so_far.binds h);
  }

  pub child-units : {r : ℕ} → r ≡ units_word → u ≡ 0 → MatchesChildren t w n p g b r st
  child-units {r} e z =
      from-here r st (framed-refl further st) refl (λ h. h) (λ m.
      ap (λ r. kept r (node_in g) (held st) w (stands m st)) e
      ∙ kept-units w w (node_in g) (held st) (stands m st)
      ∙ sym (walk-cut t n w (stands m st) u (before m) (held st) _ (match q x) rest 0 w (stands m st) units
      (no-units t n _ w (stands m st) u z)))

  pub child-nesting : {r : ℕ} → r ≡ nesting_word u → (u ≡ 0 → ⊥) → n ≡ 0 → MatchesChildren t w n p g b r st
  child-nesting {r} e z d =
      from-here r st (framed-refl further st) refl (λ h. h) (λ m.
      ap (λ r. kept r (node_in g) (held st) w (stands m st)) e
      ∙ kept-nesting w w (node_in g) (held st) (stands m st) u c.few
      ∙ sym (walk-cut t n w (stands m st) u (before m) (held st) _ (match q x) rest u w (stands m st) nesting
      (no-nesting t n _ w (stands m st) u z d)))

  child-stopped : {r : ℕ} → r ≡ stopped_word u → n ≡ 0 → MatchesChildren t w n p g b r st
  child-stopped {r} e d = go (eqb u 0) refl
    where
      go : (a : Bool) → eqb u 0 ≡ a → MatchesChildren t w n p g b r st
      go true h = let z : u ≡ 0 = eqb-true u 0 h in child-units (e ∙ stopped-units u z) z
      go false h = let z : u ≡ 0 → ⊥ = eqb-false u 0 h in child-nesting (e ∙ stopped-nesting u z) z d

  module _ (z : u ≡ 0 → ⊥) (d : n ≡ 0 → ⊥) where
    less : u - 1 < 4294967296
    less = let l : u < 4294967296 = c.few in omega arith

    -- it succeeds with the record st'
    ended_by : (st' : List ℕ) (v : ℕ) → Framed st st' → lasting st' ≡ lasting st → Binds w st st' →
        ((m : ℕ) → visit t n (match q x (held st)) w (stands m st) u ≡ ended x (held st') (on w (stands m st')) v) →
        Matched t w n p g b st' v (i + 1)
    ended_by st' v f k y e = record {
      goes_on = λ m. (
        before m ++ (x ∷ []),
        sym (walk-done t n w (stands m st) u (before m) (held st) _ (match q x) rest x
            (stands m st') v w (held st') (e m)) ∙ next m,
      );
      frame = framed-trans further b st st' c.so_far.frame f;
      lasts = k ∙ c.so_far.lasts;
      binds = λ h. y (c.so_far.binds h);
    }

    -- its answer's word r, read as a, with the record st'
    module _ (r : ℕ) (st' : List ℕ) (f : Framed st st') (k : lasting st' ≡ lasting st) (o : Binds w st st')
        (is : (m : ℕ) → kept r x (held st') w (stands m st') ≡ visit t n (match q x (held st)) w (stands m st) u) (a : Answer)
        (read : a ≡ answer_of r) where
      answered : (y v : ℕ) → a ≡ Done y v → Matched t w n p g b st' v (i + 1)
      answered y v e = record {
        goes_on = λ m. (
          before m ++ (x ∷ []),
          sym (kept_on t n w (stands m st) u (before m) (held st) _ (match q x) rest r x
              (held st') (stands m st') (is m) a read y v e) ∙ next m,
        );
        frame = framed-trans further b st st' c.so_far.frame f;
        lasts = k ∙ c.so_far.lasts;
        binds = λ h. o (c.so_far.binds h);
      }

      -- the notes of a record c at return are those of st'
      stopped-with : (c' : List ℕ) → Framed st c' → lasting c' ≡ lasting st → Binds w st c' → notes_of c' ≡ notes_of st' →
          Tagged a 1 2 → MatchesChildren t w n p g b r c'
      stopped-with c' g' k' o' j e =
          from-here r c' g' k' o' (λ m.
          ap (λ z. kept r (node_in g) (held c') w (at m z)) j
          ∙ kept-stop t n w (stands m st) u (before m) (held st) _ (match q x) rest r x (held st') (stands m st') (is m) a read e
          (node_in g) (held c'))

      stopped : Tagged a 1 2 → MatchesChildren t w n p g b r st'
      stopped e = stopped-with st' f k o refl e

      -- the same with the record as it was, but for the miss
      refused : length st ≡ record_long → Tagged a 1 2 → MatchesChildren t w n p g b r (missing st (miss_of st'))
      refused long e =
          stopped-with (missing st (miss_of st')) (framed-missing further st (miss_of st')) (lasting-missing further st (miss_of st'))
          (binds-missing w st (miss_of st'))
          (notes-missing further st (miss_of st') long ∙ ap (λ m. noting m.notes (miss_of st')) (sym k)) e

    -- a variable
    module _ {v : ℕ} (kind : kind_of t q ≡ 18) (ve : v ≡ argument_of t q) where
      pub free-matched : {st' : List ℕ} → length st ≡ record_long → (bit_of (mask_of st) v ≡ 1 → ⊥) → st' ≡ bound st v x →
          Matched t w n p g b st' (u - 1) (i + 1)
      free-matched long e s =
          let l : v < variables = variable-small kind ve in
          rw s (ended_by (bound st v x) (u - 1) (framed-bound further st v x l long e) (lasting-bound further st v x l)
          (binds-bound w st v x l long child-there)
          (λ m. variable-free t n q x (held st) w (stands m st) u z d v kind ve (held_none further st v e)
          ∙ rw (held-bound further st v x l long, notes-bound further st v x l)))

      -- a bound one: the comparison's word r
      module _ (long : length st ≡ record_long) (e : bit_of (mask_of st) v ≡ 1) {y : ℕ} (ye : y ≡ word_of st v) (r : ℕ)
          (is : (m : Standing) → kept r x (held st) w m ≡ visit t (n - 1) (compare y x (held st)) w m (u - 1)) (a : Answer)
          (read : a ≡ answer_of r) where
        compared : (m : ℕ) → kept r x (held (given_up a st q)) w (stands m (given_up a st q)) ≡ visit t n (match q x (held st)) w
            (stands m st) u
        compared m =
            kept-answer w w x (held (given_up a st q)) (stands m (given_up a st q)) r a read
            ∙ giving-up a st q x w m long
            ∙ ap (gives_up q) (sym (kept-answer w w x (held st) (stands m st) r a read) ∙ is (stands m st)
            ∙ ap (λ y. visit t (n - 1) (compare y x (held st)) w (stands m st) (u - 1)) ye)
            ∙ sym (variable-bound t n q x (held st) w (stands m st) u z d v kind ve (word_of st v)
            (held-some further st v (variable-small kind ve) e))

        pub bound-matched : (j k : ℕ) → a ≡ Done j k → Matched t w n p g b st k (i + 1)
        unfolding given_up
        bound-matched j k f = subst (λ a. Matched t w n p g b (given_up a st q) k (i + 1)) f
            (answered r (given_up a st q) (framed-given-up a st q) (lasting-given-up a st q) (binds-given-up a st q w) compared a read j k f)

        pub bound-stops : {st' : List ℕ} → st' ≡ given_up (answer_of r) st q → Tagged a 1 2 → MatchesChildren t w n p g b r st'
        bound-stops s f = rw (s ∙ ap (λ a. given_up a st q) (sym read))
            (stopped r (given_up a st q) (framed-given-up a st q) (lasting-given-up a st q) (binds-given-up a st q w) compared a read f)

    -- a constructor
    module _ (kind : kind_of t q ≡ 19) where
      pub other : {r : ℕ} → length st ≡ record_long → r ≡ failed_word (u - 1) → agreeing t w q x ≡ false →
          MatchesChildren t w n p g b r (missing st q)
      other {r} long e f =
          from-here r (missing st q) (framed-missing further st q) (lasting-missing further st q) (binds-missing w st q) (λ m.
          ap (λ r. kept r (node_in g) (held (missing st q)) w (stands m (missing st q))) e
          ∙ kept-failed w w (node_in g) (held (missing st q)) (stands m (missing st q)) (u - 1) less
          ∙ rw (notes-missing further st q long) (sym (walk-failed t n w (stands m st) u (before m) (held st) _ (match q x) rest
          (u - 1) w (missed_at q (stands m st)) (differs t n q x (held st) w (stands m st) u z d c.entries operand-is.0 kind f))))

      module _ (e : agreeing t w q x ≡ true) where
        pub leaf-matched : operand_count t q ≡ 0 → Matched t w n p g b st (u - 1) (i + 1)
        leaf-matched f = ended_by st (u - 1) (framed-refl further st) refl (λ h. h)
            (λ m. agrees-leaf t n q x (held st) w (stands m st) u z d c.entries operand-is.0 kind e f)

        -- its own children: the word s is handed over
        module _ {s : ℕ} (se : s ≡ packed x (u - 1)) where
          node-handed : node_in s ≡ x
          node-handed = ap (λ s. node_in s) se ∙ node-packed x (u - 1) less

          units-handed : units_in s ≡ u - 1
          units-handed = ap (λ s. units_in s) se ∙ units-packed x (u - 1) less

          pub handed : agreeing t w q (node_in s) ≡ true
          handed = ap (λ x. agreeing t w q x) node-handed ∙ e

          pub handed-there : Stored w (node_in s)
          handed-there = rw node-handed child-there

          -- and the word r comes back
          module _ (r : ℕ) (st' : List ℕ) (f : MatchesChildren t w (n - 1) q s st r st') (a : Answer) (read : a ≡ answer_of r) where
            child-matched : (m : ℕ) → kept r x (held st') w (stands m st') ≡ visit t n (match q x (held st)) w (stands m st) u
            child-matched m = (rw (node-handed, units-handed) at (f.is m))
                ∙ sym (agrees t n q x (held st) w (stands m st) u z d c.entries operand-is.0 kind e)

            pub inner-matched : (y k : ℕ) → a ≡ Done y k → Matched t w n p g b st' k (i + 1)
            inner-matched y k j = answered r st' f.frame f.lasts f.binds child-matched a read y k j

            pub inner-stops : Tagged a 1 2 → MatchesChildren t w n p g b r st'
            inner-stops j = stopped r st' f.frame f.lasts f.binds child-matched a read j

            pub inner-refused : length st ≡ record_long → Tagged a 1 2 → MatchesChildren t w n p g b r (missing st (miss_of st'))
            inner-refused long j = refused r st' f.frame f.lasts f.binds child-matched a read long j

          -- the last child's: what answers them answers all
          pub last_fits : i + 1 ≡ operand_count t p → (r : ℕ) (st' : List ℕ) → MatchesChildren t w (n - 1) q s st r st' →
              MatchesChildren t w n p g b r st'
          last_fits h r st' f = go (answer_of r) refl
            where
              go : (a : Answer) → a ≡ answer_of r → MatchesChildren t w n p g b r st'
              go (Done y v) e =
                  matched-end t w n p g b st' v (i + 1) r (inner-matched r st' f (Done y v) e y v refl) (omega arith)
                  (λ m. kept-is w r (node_in g) (held st') (stands m st') (Done y v) e y v refl)
              go (Failed v) e = inner-stops r st' f (Failed v) e (inl refl)
              go (Cut k) e = inner-stops r st' f (Cut k) e (inr refl)

-- with no nesting left no child is visited
nothing-fits : (t w : List ℕ) (n p g : ℕ) (b : List ℕ) → Entries t → p < 4096 → kind_of t p ≡ 19 → agreeing t w p (node_in g) ≡ true →
    Stored w (node_in g) → (operand_count t p ≡ 0 → ⊥) → n ≡ 0 → {r : ℕ} → r ≡ stopped_word (units_in g) → MatchesChildren t w n p g b r b
nothing-fits t w n p g b en inside kind agreed there o d e =
    child-stopped
    {q = word_at t p 2}
    {x = word_at w (node_in g) 2}
    (record {
      so_far = matched-none t w n p g b;
      entries = en;
      inside = inside;
      kind = kind;
      agreed = agreed;
      stands-there = there;
      below = omega (arith, o);
      operand = refl;
      child = refl;
      few = omega arith;
    })
    e
    d

-- so that an operand with children of its own stops the walk
pub inner-stopped : {t w : List ℕ} {n p g : ℕ} {b st : List ℕ} {u i q x : ℕ} (c : Turn t w n p g b st u i q x) → (u ≡ 0 → ⊥) →
    kind_of t q ≡ 19 → agreeing t w q x ≡ true → (operand_count t q ≡ 0 → ⊥) → n ≡ 1 → {r : ℕ} → r ≡ stopped_word (u - 1) →
    MatchesChildren t w n p g b r st
inner-stopped {t} {w} {n} {p} {g} {b} {st} {u} {i} {q} {x} c z kind e o d {r} f =
    let l : u - 1 < 4294967296 = omega (arith, c.few) in
    let x-is : node_in (packed x (u - 1)) ≡ x = node-packed x (u - 1) l in
    let u-is : units_in (packed x (u - 1)) ≡ u - 1 = units-packed x (u - 1) l in
    inner-stops c z (λ a. omega arith) kind e refl r st
    (nothing-fits t w (n - 1) q (packed x (u - 1)) st c.entries (operand-is c).0 kind (ap (λ x. agreeing t w q x) x-is ∙ e)
    (rw x-is (child-there c)) o (omega arith) (f ∙ ap (λ u. stopped_word u) (sym u-is)))
    (Cut r)
    (sym (ap (λ r. answer_of r) f ∙ answer-stopped (u - 1) l ∙ ap (λ r. Cut r) (sym f)))
    (inr refl)

-- a walk that goes on in place with the children of the last child: it is before child i of entry p on node k, with the
-- record st, and a word that answers the children of p answers those of p₀, where it began
pub record Going (t w : List ℕ) (n₀ p₀ g₀ : ℕ) (b₀ : List ℕ) (n p k : ℕ) (st : List ℕ) (u i : ℕ) : Type 0 where
  pub given : ℕ
  pub held_then : List ℕ
  pub node : node_in given ≡ k
  pub inside : p < 4096
  pub kind : kind_of t p ≡ 19
  pub agreed : agreeing t w p (node_in given) ≡ true
  pub stands-there : Stored w (node_in given)
  pub bound-then : Bound w (held held_then)
  pub so_far : Matched t w n p given held_then st u i
  pub whole : (r : ℕ) (c : List ℕ) → MatchesChildren t w n p given held_then r c → MatchesChildren t w n₀ p₀ g₀ b₀ r c

pub going-none : (t w : List ℕ) (n p g : ℕ) (b : List ℕ) → p < 4096 → kind_of t p ≡ 19 → agreeing t w p (node_in g) ≡ true →
    Stored w (node_in g) → Bound w (held b) → Going t w n p g b n p (node_in g) b (units_in g) 0
going-none t w n p g b inside kind agreed there h = record {
  given = g;
  held_then = b;
  node = refl;
  inside = inside;
  kind = kind;
  agreed = agreed;
  stands-there = there;
  bound-then = h;
  so_far = matched-none t w n p g b;
  whole = λ r c f. f;
}

module _ {t w : List ℕ} {n₀ p₀ g₀ : ℕ} {b₀ : List ℕ} {n p k : ℕ} {st : List ℕ} {u i : ℕ} (c : Going t w n₀ p₀ g₀ b₀ n p k st u i) where
  -- the node stands in the store, and so does what is bound
  pub going-there : Stored w k
  going-there = subst (Stored w) c.node c.stands-there

  pub going-bound : Bound w (held st)
  going-bound = c.so_far.binds c.bound-then

  -- operand and child are read
  pub going-turn : {q x : ℕ} → Entries t → i < operand_count t p → q ≡ word_at t p (2 + i) → x ≡ word_at w k (2 + i) → u < 4294967296 →
      Turn t w n p c.given c.held_then st u i q x
  going-turn en below e f l = record {
    so_far = c.so_far;
    entries = en;
    inside = c.inside;
    kind = c.kind;
    agreed = c.agreed;
    stands-there = c.stands-there;
    below = below;
    operand = e;
    child = f ∙ ap (λ k. word_at w k (2 + i)) (sym c.node);
    few = l;
  }

  pub going_on : {st' : List ℕ} {v j : ℕ} → Matched t w n p c.given c.held_then st' v j → Going t w n₀ p₀ g₀ b₀ n p k st' v j
  going_on f = record {
    given = c.given;
    held_then = c.held_then;
    node = c.node;
    inside = c.inside;
    kind = c.kind;
    agreed = c.agreed;
    stands-there = c.stands-there;
    bound-then = c.bound-then;
    so_far = f;
    whole = c.whole;
  }

  -- the record keeps its length
  pub going-long : {st' : List ℕ} {v j : ℕ} → length st ≡ record_long → Matched t w n p c.given c.held_then st' v j →
      length st' ≡ record_long
  going-long l f = f.frame.long ∙ sym c.so_far.frame.long ∙ l

  -- the last child, whose children are next
  pub going-down : {q x : ℕ} → Turn t w n p c.given c.held_then st u i q x → (u ≡ 0 → ⊥) → (n ≡ 0 → ⊥) → kind_of t q ≡ 19 →
      agreeing t w q x ≡ true → i + 1 ≡ operand_count t p → Going t w n₀ p₀ g₀ b₀ (n - 1) q x st (u - 1) 0
  going-down {q} {x} a z d kind e h =
      let l : u - 1 < 4294967296 = omega (arith, a.few) in
      record {
        given = packed x (u - 1);
        held_then = st;
        node = node-packed x (u - 1) l;
        inside = (operand-is a).0;
        kind = kind;
        agreed = handed a z d kind e refl;
        stands-there = handed-there a z d kind e refl;
        bound-then = going-bound;
        so_far = rw (units-packed x (u - 1) l) at (matched-none t w (n - 1) q (packed x (u - 1)) st);
        whole = λ r st' f. c.whole r st' (last_fits a z d kind e refl h r st' f);
      }

-- an answer's word, read as a: with any mark where it is no success
out-kept : (st w : List ℕ) (r x : ℕ) (b : Bindings ℕ) (m : ℕ) (a : Answer) → a ≡ answer_of r → Tagged a 1 2 →
    out r st w ≡ kept r x b w (stands m st)
unfolding meaning giving
out-kept st w r x b m a e h = out-answer st w r a e ∙ go a h ∙ sym (kept-answer st w x b (stands m st) r a e)
  where
    go : (a : Answer) → Tagged a 1 2 → meaning a st w ≡ giving a x b w (stands m st)
    go (Done y v) h = absurd (⊎_elim (λ z. omega arith) (λ z. omega arith) h)
    go (Failed v) h = refl
    go (Cut d) h = refl

-- the root: a visit of the pattern p on the node of g, with the record st
module _ {t w st : List ℕ} {p g : ℕ} (c : Matchable t w st p g) (n : ℕ) where
  abbrev root : Ran
  root = visit t n (match p (node_in g) (held st)) w (standing st) (units_in g)

  -- the node stands in the store
  pub root-stored : Stored w (node_in g)
  root-stored = steady-stored c.steady (node_in g) c.subject

  pub root-units : {r : ℕ} → r ≡ units_word → units_in g ≡ 0 → Gives root st r st w
  root-units {r} e z = record { is = units-out t n _ w (units_in g) r st e z; frame = framed-refl further st }

  pub root-nesting : {r : ℕ} → r ≡ nesting_word (units_in g) → (units_in g ≡ 0 → ⊥) → n ≡ 0 → Gives root st r st w
  root-nesting {r} e z d = record { is = nesting-out t n _ w (units_in g) r st e (omega arith) z d; frame = framed-refl further st }

  -- the root's node with the units v, and the record st'
  ended-root : (r v : ℕ) (st' : List ℕ) → r ≡ packed (node_in g) v → v < 4294967296 → mark_of st' ≡ mark_of st → Framed st st' →
      root ≡ ended (node_in g) (held st') (on w (stands (mark_of st) st')) v → Gives root st r st' w
  ended-root r v st' e l k f o = record {
    is =
        ap (λ r. out r st' w) e
        ∙ out-done st' w (node_in g) v (omega (arith, node-small c.steady (node_in g) c.subject)) l
        ∙ ap (λ (m : ℕ). ended (node_in g) (held st') (on w (stands m st')) v) k
        ∙ sym o;
    frame = f;
  }

  -- a word that is no success, whose units are the root's
  stopped-root : (r : ℕ) (st' : List ℕ) → Framed st st' → (a : Answer) → a ≡ answer_of r → Tagged a 1 2 →
      kept r (node_in g) (held st') w (stands (mark_of st) st') ≡ root → Gives root st r st' w
  stopped-root r st' f a e h o = record { is = out-kept st' w r (node_in g) (held st') (mark_of st) a e h ∙ o; frame = f }

  module _ (z : units_in g ≡ 0 → ⊥) (d : n ≡ 0 → ⊥) where
    -- the root's word with one unit less
    one_less : g - 1 ≡ packed (node_in g) (units_in g - 1)
    one_less = omega (arith, packed-again g)

    pub node-less : node_in (g - 1) ≡ node_in g
    node-less = ap (λ s. node_in s) one_less ∙ node-packed (node_in g) (units_in g - 1) (omega arith)

    units-less : units_in (g - 1) ≡ units_in g - 1
    units-less = ap (λ s. units_in s) one_less ∙ units-packed (node_in g) (units_in g - 1) (omega arith)

    -- a variable
    module _ {v : ℕ} (kind : kind_of t p ≡ 18) (ve : v ≡ argument_of t p) where
      pub root-small : v < variables
      root-small = omega (arith, c.entries.variable p c.inside kind, ve)

      pub root-bound-there : {y : ℕ} → bit_of (mask_of st) v ≡ 1 → y ≡ word_of st v → Stored w y
      root-bound-there e ye = subst (Stored w) (sym ye) (steady-bound c.steady v (word_of st v) (held-some further st v root-small e))

      pub root-free : {st' : List ℕ} → (bit_of (mask_of st) v ≡ 1 → ⊥) → st' ≡ bound st v (node_in g) → Gives root st (g - 1) st' w
      root-free e s =
          rw s (ended-root (g - 1) (units_in g - 1) (bound st v (node_in g)) one_less (omega arith)
          (mark-bound further st v (node_in g) root-small) (framed-bound further st v (node_in g) root-small c.long e)
          (variable-free t n p (node_in g) (held st) w (standing st) (units_in g) z d v kind ve (held_none further st v e)
          ∙ rw (held-bound further st v (node_in g) root-small c.long, notes-bound further st v (node_in g) root-small)))

      module _ (e : bit_of (mask_of st) v ≡ 1) {y : ℕ} (ye : y ≡ word_of st v) (r : ℕ)
          (is : kept r (node_in g) (held st) w (standing st) ≡ visit t (n - 1) (compare y (node_in g) (held st)) w (standing st)
          (units_in g - 1)) (a : Answer) (read : a ≡ answer_of r) where
        root-compared : kept r (node_in g) (held (given_up a st p)) w (stands (mark_of st) (given_up a st p)) ≡ root
        root-compared =
            kept-answer w w (node_in g) (held (given_up a st p)) (stands (mark_of st) (given_up a st p)) r a read
            ∙ giving-up a st p (node_in g) w (mark_of st) c.long
            ∙ ap (gives_up p) (sym (kept-answer w w (node_in g) (held st) (standing st) r a read) ∙ is
            ∙ ap (λ y. visit t (n - 1) (compare y (node_in g) (held st)) w (standing st) (units_in g - 1)) ye)
            ∙ sym (variable-bound t n p (node_in g) (held st) w (standing st) (units_in g) z d v kind ve (word_of st v)
            (held-some further st v root-small e))

        pub root-bound-stops : {st' : List ℕ} → st' ≡ given_up (answer_of r) st p → Tagged a 1 2 → Gives root st r st' w
        root-bound-stops s h = rw (s ∙ ap (λ a. given_up a st p) (sym read))
            (stopped-root r (given_up a st p) (framed-given-up a st p) a read h root-compared)

        pub root-bound : (j k r' : ℕ) → a ≡ Done j k → r' ≡ packed (node_in g) k → Gives root st r' st w
        unfolding given_up
        root-bound j k r' f s =
            ended-root r' k st s (omega (arith, done-node r j k (sym read ∙ f))) refl (framed-refl further st)
            (sym (subst (λ a. kept r (node_in g) (held (given_up a st p)) w (stands (mark_of st) (given_up a st p)) ≡ root) f
            root-compared) ∙ kept-is w r (node_in g) (held st) (standing st) a read j k f)

    -- a constructor
    module _ (kind : kind_of t p ≡ 19) where
      pub root-other : {r : ℕ} → r ≡ failed_word (units_in g - 1) → agreeing t w p (node_in g) ≡ false → Gives root st r (missing st p) w
      root-other {r} e f = record {
        is =
            ap (λ r. out r (missing st p) w) e
            ∙ out-failed (missing st p) w (units_in g - 1) (omega arith)
            ∙ rw (notes-missing further st p c.long) (sym
            (differs t n p (node_in g) (held st) w (standing st) (units_in g) z d c.entries c.inside kind f));
        frame = framed-missing further st p;
      }

      module _ (e : agreeing t w p (node_in g) ≡ true) where
        pub root-leaf : operand_count t p ≡ 0 → Gives root st (g - 1) st w
        root-leaf f =
            ended-root (g - 1) (units_in g - 1) st one_less (omega arith) refl (framed-refl further st)
            (agrees-leaf t n p (node_in g) (held st) w (standing st) (units_in g) z d c.entries c.inside kind e f)

        pub root-handed : agreeing t w p (node_in (g - 1)) ≡ true
        root-handed = ap (λ x. agreeing t w p x) node-less ∙ e

        pub root-there : Stored w (node_in (g - 1))
        root-there = rw node-less root-stored

        -- its children: the word r comes back, with the record st'
        module _ (r : ℕ) (st' : List ℕ) (f : MatchesChildren t w (n - 1) p (g - 1) st r st') (a : Answer) (read : a ≡ answer_of r) where
          root-answered : kept r (node_in g) (held st') w (stands (mark_of st) st') ≡ root
          root-answered =
              (rw (node-less, units-less) at (f.is (mark_of st)))
              ∙ sym (agrees t n p (node_in g) (held st) w (standing st) (units_in g) z d c.entries c.inside kind e)

          pub root-stops : Tagged a 1 2 → Gives root st r st' w
          root-stops h = stopped-root r st' f.frame a read h root-answered

          pub root-matched : (y k r' : ℕ) → a ≡ Done y k → r' ≡ packed (node_in g) k → Gives root st r' st' w
          root-matched y k r' h s =
              ended-root r' k st' s (omega (arith, done-node r y k (sym read ∙ h))) (ap (λ m. m.mark) f.lasts) f.frame
              (sym root-answered ∙ kept-is w r (node_in g) (held st') (stands (mark_of st) st') a read y k h)

        -- no nesting is left for them
        pub root-stopped : (operand_count t p ≡ 0 → ⊥) → n ≡ 1 → {r : ℕ} → r ≡ stopped_word (units_in g - 1) → Gives root st r st w
        root-stopped o k {r} f =
            root-stops r st
            (nothing-fits t w (n - 1) p (g - 1) st c.entries c.inside kind root-handed root-there o (omega arith)
            (f ∙ ap (λ u. stopped_word u) (sym units-less)))
            (Cut r)
            (sym (ap (λ r. answer_of r) f ∙ answer-stopped (units_in g - 1) (omega arith) ∙ ap (λ r. Cut r) (sym f)))
            (inr refl)
