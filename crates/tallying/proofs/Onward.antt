-- A counted run, from turn to turn: a visit begins, or one ends. Assumes nothing.
use Rattle.std.proofs.Common.{◌≡◌, ℕ, suc, ◌+◌, ◌-◌, ◌*◌, ◌<◌, ◌≤◌, Bool, true, false, eqb, List, [], ◌∷◌, length, get_or, set, sym, refl, ap, ◌∙◌, subst, ⊎_elim, arith, length-set, if◌then◌else◌}
use Rattle.words.proofs.Tests.{below-or-from}
use Rattle.meaning.specs.Table.{table}
use Rattle.meaning.specs.Rules.{does}
use Rattle.meaning.specs.Derivation.{What, Event, began, ended, history}
use Rattle.meaning.specs.Tallies.{any_pattern, is_pair, counted, begins, wins, loses}
use Rattle.meaning.specs.Steps.{steps}
use Rattle.meaning.specs.Store.{on}
use Rattle.meaning.specs.Shared.{store_by}
use Rattle.meaning.proofs.Steps.{steps-suc}
use Rattle.turns.specs.Ways.{visit_of}
use Rattle.machine.specs.declared.Machine.{Machine}
use Rattle.machine.specs.Stack.{present, Asks, Stands, first_of, others_of}
use Rattle.machine.specs.Machine.{Lent, Turned, visited, spent, Once}
use Rattle.machine.proofs.Going.{rank, rank-asked, rank-ended}
use Rattle.tallying.specs.declared.Seen.{Seen}
use Rattle.tallying.specs.Counts.{bumped, code_of, visited_code, occurs, Kept, Counts, Room}
use Rattle.tallying.specs.Tally.{seen_at, CountedOn, Comes, visit, end}
use Rattle.tallying.proofs.Tallying.{code-visited, one-few, balanced-begun, balanced-ended, counts-begun, counts-ended, kept-begun}
use Rattle.tallying.proofs.Tallying.{kept-first, kept-others, seen-begun}

-- ---- how many have begun and ended

begun-one : (p : What → Bool) (w : What) (log : List Event) → counted (begins p) (began w ∷ log) ≤ 1 + counted (begins p) log
unfolding counted begins
begun-one p w log = omega (arith, one-few (p w))

pub ended-none : (p : What → Bool) (w : What) (won : Bool) (log : List Event) → counted (begins p) (ended w won ∷ log) ≡ counted (begins p) log
unfolding counted begins
ended-none p w won log = omega arith

abbrev all : What → Bool
all w = true

ends-most : (p : What → Bool) (log : List Event) → counted (wins p) log + counted (loses p) log ≤ counted (wins all) log
    + counted (loses all) log
unfolding counted wins loses
ends-most p [] = omega arith
ends-most p (began w ∷ log) = omega (arith, ends-most p log)
ends-most p (ended w true ∷ log) = omega (arith, ends-most p log, one-few (p w))
ends-most p (ended w false ∷ log) = omega (arith, ends-most p log, one-few (p w))

some-flies : (es : List What) → 0 < length es → 0 < occurs all es
unfolding occurs
some-flies [] l = absurd (omega arith)
some-flies (e ∷ es) l = omega arith

pub others-length : (es : List What) → length (others_of es) ≡ length es - 1
unfolding others_of
others-length [] = refl
others-length (e ∷ es) = omega arith

-- ---- nothing yet

pub counted_none : {sh : Bool} {t w k given kept : List ℕ} {a : Machine} {s : Seen} → a.level ≡ 0 → a.mode < 4 → Lent w k → length kept ≡ 4096
    → s.patterns ≡ 0 → s.pairs ≡ 0 → CountedOn sh t w k given a a s w k kept given
unfolding steps counted occurs Kept
counted_none {a} l h z e ep eq = record {
  lent = z;
  store = refl;
  work = refl;
  own = λ j l h. refl;
  fuel = omega arith;
  es = [];
  log = [];
  goes = λ X x f. let n : a.fuel - a.fuel ≡ 0 = omega arith in rw n x;
  counts = record {
    long = refl;
    visits = λ x l. omega arith;
    won = λ x l. omega arith;
    lost = λ x l. omega arith;
    flying = λ x l. omega arith;
  };
  balanced = λ p. refl;
  few = λ p. omega arith;
  levels = tt;
  long = e;
  asked = λ _. sym l;
  told = λ z. absurd (omega arith);
  level = omega arith;
  low = λ z. absurd (omega arith);
  patterns = ep;
  pairs = eq;
}

module _ {sh : Bool} {t w₀ k₀ given : List ℕ} {a m : Machine} {s : Seen} {w k kept cs : List ℕ} (room : Room given) (most : a.fuel < 4294967296)
    (so : CountedOn sh t w₀ k₀ given a m s w k kept cs) where
  -- ---- a visit begins

  begun-few : 0 < m.fuel → (p : What → Bool) → counted (begins p) so.log < 4294967295
  begun-few l p = omega (arith, so.few p, so.fuel)

  pub visit-nearer : m.mode < 4 → 0 < m.fuel → m.level < 4096 → (m' : Machine) {w' k' : List ℕ}
      → Turned sh t w k m.level (spent m) m' w' k'
      → 4098 * m'.fuel + rank m' < 4098 * m.fuel + rank m
  visit-nearer h l g m' d =
      ⊎_elim
      (λ e. omega (arith, rank-asked m' e, rank-asked m h, d.moved.fuel))
      (λ e. omega (arith, rank-ended m' e, rank-asked m h, d.moved.fuel, d.moved.ended (omega arith)))
      (below-or-from m'.mode 4)

  pub visit-counted : m.mode < 4 → 0 < m.fuel → m.level < 4096 → (m' : Machine) (w' k' kept' cs' : List ℕ)
      → kept' ≡ set kept m.level (visited_code m) → cs' ≡ bumped cs (visited_code m) 0 → Turned sh t w k m.level (spent m) m' w' k'
      → CountedOn sh t w₀ k₀ given a m' (seen_at s m.mode) w' k' kept' cs'
  visit-counted h l g m' w' k' kept' cs' ek ec d =
      let seen = seen-begun k m s so.log h so.patterns so.pairs (begun-few l) in
      record {
        lent = d.lent;
        store = d.store ∙ so.store;
        work = d.work ∙ so.work;
        own = λ j l h. d.own j l h ∙ so.own j l h;
        fuel = omega (arith, d.moved.fuel, so.fuel);
        es = visited k m ∷ so.es;
        log = began (visited k m) ∷ so.log;
        goes = λ X x f.
            let n : a.fuel - m'.fuel ≡ suc (a.fuel - m.fuel) = omega (arith, d.moved.fuel, so.fuel) in
            let u : m.fuel ≡ suc (m.fuel - 1) = omega arith in
            rw (n, steps-suc (store_by sh history) (does (table t)) (a.fuel - m.fuel) X)
            (d.begins h refl so.es so.log _
            (subst (λ (u : ℕ). Asks t k m.level so.es (visit_of m.mode m.x m.y (present k m))
            (on w m.mark (m.place, so.log))
            u (steps (store_by sh history) (does (table t)) (a.fuel - m.fuel) X)) u ((so.goes X x f).asked h))
            (f (a.fuel - m.fuel)));
        counts = subst (λ c. Counts given c (began (visited k m) ∷ so.log) [])
            (sym (ec ∙ ap (λ (v : ℕ). bumped cs v 0) (sym (code-visited k m))))
            (counts-begun room so.counts (visited k m) (begun-few l));
        balanced = balanced-begun so.log so.es so.balanced (visited k m);
        few = λ p. omega (arith, begun-one p (visited k m) so.log, so.few p, so.fuel, d.moved.fuel);
        levels = subst (Kept (visited k m ∷ so.es)) (sym (ek ∙ ap (λ (v : ℕ). set kept m.level v) (sym (code-visited k m))))
            (kept-begun so.es kept (visited k m) m.level (so.asked h) (omega (arith, so.long)) so.levels);
        long = ap length ek ∙ length-set kept m.level _ ∙ so.long;
        asked = λ e. omega (arith, so.asked h, d.moved.deeper e);
        told = λ e. omega (arith, so.asked h, d.moved.ended e);
        level = ⊎_elim (λ e. omega (arith, d.moved.deeper e)) (λ e. omega (arith, d.moved.ended e)) (below-or-from m'.mode 4);
        low = λ e. omega (arith, d.moved.ended e);
        patterns = seen.0;
        pairs = seen.1;
      }

  -- ---- a visit has ended

  pub end-nearer : 3 < m.mode → m.mode < 6 → (m.level ≡ 0 → ⊥) → (m' : Machine) {w' k' : List ℕ} → Turned sh t w k (m.level - 1) m m' w' k'
      → 4098 * m'.fuel + rank m' < 4098 * m.fuel + rank m
  end-nearer h g l m' d =
      let z : 0 < m.level = ⊎_elim (λ z. z) (λ z. absurd (l (omega arith))) (below-or-from 0 m.level) in
      ⊎_elim
      (λ e. omega (arith, rank-asked m' e, rank-ended m h, d.moved.fuel))
      (λ e. omega (arith, rank-ended m' e, rank-ended m h, d.moved.fuel, d.moved.ended (omega arith)))
      (below-or-from m'.mode 4)

  -- fewer visits have ended than a word can count, where one of them has just ended
  pub few-ended : 3 < m.mode → (p : What → Bool) → counted (wins p) so.log + counted (loses p) so.log < 4294967295
  few-ended h p = omega (
    arith,
    ends-most p so.log,
    so.balanced all,
    some-flies so.es (omega (arith, so.told h)),
    so.few all,
    so.fuel,
  )

  -- the visit that has ended is the one whose entry is kept at its level
  pub first-kept : 3 < m.mode → get_or kept m.level 0 ≡ code_of (first_of so.es)
  first-kept h =
      let n : m.level ≡ length so.es - 1 = omega (arith, so.told h) in
      ap (λ (i : ℕ). get_or kept i 0) n ∙ kept-first so.es kept (omega (arith, so.told h)) so.levels

  pub end-counted : 3 < m.mode → m.mode < 6 → (m.level ≡ 0 → ⊥) → (m' : Machine) (w' k' cs' : List ℕ)
      → cs' ≡ bumped cs (get_or kept m.level 0) (if eqb m.mode 4 then 1 else 2) → Turned sh t w k (m.level - 1) m m' w' k'
      → CountedOn sh t w₀ k₀ given a m' s w' k' kept cs'
  end-counted h g l m' w' k' cs' ec d = record {
    lent = d.lent;
    store = d.store ∙ so.store;
    work = d.work ∙ so.work;
    own = λ j l h. d.own j l h ∙ so.own j l h;
    fuel = omega (arith, d.moved.fuel, so.fuel);
    es = others_of so.es;
    log = ended (first_of so.es) (eqb m.mode 4) ∷ so.log;
    goes = λ X x f.
        subst (λ (u : ℕ). Stands sh t m' w' k' (others_of so.es) (ended (first_of so.es) (eqb m.mode 4) ∷ so.log)
        (steps (store_by sh history) (does (table t)) (a.fuel - u) X)) (sym d.moved.fuel)
        (d.tells h g (omega (arith, positive)) so.es so.log _ (so.goes X x f));
    counts = subst (λ c. Counts given c (ended (first_of so.es) (eqb m.mode 4) ∷ so.log) [])
        (sym (ec ∙ ap (λ (v : ℕ). bumped cs v (if eqb m.mode 4 then 1 else 2)) (first-kept h))) (counts-ended room so.counts (first_of so.es) (eqb m.mode 4) (few-ended h));
    balanced = balanced-ended so.log so.es so.balanced (eqb m.mode 4) (omega (arith, so.told h));
    few = λ p. omega (arith, ended-none p (first_of so.es) (eqb m.mode 4) so.log, so.few p, d.moved.fuel);
    levels = kept-others so.es kept (omega (arith, so.told h)) so.levels;
    long = so.long;
    asked = λ e. omega (arith, others-length so.es, so.told h, positive, d.moved.deeper e);
    told = λ e. omega (arith, others-length so.es, so.told h, positive, d.moved.ended e);
    level = ⊎_elim (λ e. omega (arith, so.level, positive, d.moved.deeper e)) (λ e. omega (arith, so.level, d.moved.ended e))
        (below-or-from m'.mode 4);
    low = λ e. omega (arith, so.low h, d.moved.ended e);
    patterns = so.patterns ∙ sym (ended-none any_pattern (first_of so.es) (eqb m.mode 4) so.log);
    pairs = so.pairs ∙ sym (ended-none is_pair (first_of so.es) (eqb m.mode 4) so.log);
  }
    where
      positive : 0 < m.level
      positive = ⊎_elim (λ z. z) (λ z. absurd (l (omega arith))) (below-or-from 0 m.level)

-- ---- how a turn comes: a visit begins, or an end is told; and what is counted

module _ {sh : Bool} {t w₀ k₀ given : List ℕ} {a m : Machine} {s : Seen} {w k kept cs : List ℕ} (room : Room given)
    (most : a.fuel < 4294967296) (so : CountedOn sh t w₀ k₀ given a m s w k kept cs) where
  pub nearer : {s₁ : Seen} {kept₁ cs₁ : List ℕ} → Comes m s kept cs s₁ kept₁ cs₁ → (m' : Machine) {w' k' : List ℕ}
      → Once sh t w k m 0 m' w' k' → 4098 * m'.fuel + rank m' < 4098 * m.fuel + rank m
  nearer (visit h l g ek ec) m' d = visit-nearer room most so h l g m' (d.begun h (λ z. omega arith) g)
  nearer (end h g l ec) m' d =
      let n : m.level ≡ 0 → ⊥ = λ e. omega arith in end-nearer room most so h g n m' (d.told h g n)

  pub further : {s₁ : Seen} {kept₁ cs₁ : List ℕ} → Comes m s kept cs s₁ kept₁ cs₁ → (m' : Machine) {w' k' : List ℕ}
      → Once sh t w k m 0 m' w' k' → CountedOn sh t w₀ k₀ given a m' s₁ w' k' kept₁ cs₁
  further {kept₁ = kept₁} {cs₁ = cs₁} (visit h l g ek ec) m' {w'} {k'} d =
      visit-counted room most so h l g m' w' k' kept₁ cs₁ ek ec (d.begun h (λ z. omega arith) g)
  further {cs₁ = cs₁} (end h g l ec) m' {w'} {k'} d =
      let n : m.level ≡ 0 → ⊥ = λ e. omega arith in end-counted room most so h g n m' w' k' cs₁ ec (d.told h g n)
