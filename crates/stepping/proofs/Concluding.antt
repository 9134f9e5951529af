-- A step, from lists that hold a run to its answer. Assumes nothing.
use Rattle.std.proofs.Common.{◌≡◌, ℕ, suc, ◌+◌, ◌-◌, ◌*◌, ◌/◌, ◌%◌, ◌<◌, ◌≤◌, min, Bool, true, false, ◌&&◌, eqb, ltb, leb, ◌⊎◌, List, [], ◌∷◌, length, get_or, sym, refl, ap, ◌∙◌, subst, inl, inr, ⊎_elim, arith, le-ltb, lt-ltb, eq-eqb, eqb-true, le-leb, leb-true, if◌then◌else◌}
use mathlib.Core.Option.{some}
use Rattle.words.specs.Words.{word_at, cleared_from}
use Rattle.words.proofs.Tests.{below-or-from, and-true}
use Rattle.words.proofs.Rows.{get_or-cleared_from-from}
use Rattle.checks.specs.Checked.{Checked}
use Rattle.checks.specs.Checked.{checked, table_length_fits, store_length_fits, table_checked_by}
use Rattle.checks.specs.Kinds.{ours, variables}
use Rattle.checks.proofs.Promises.{store_passes}
use Rattle.meaning.specs.Bindings.{Bindings}
use Rattle.meaning.specs.Derivation.{What, Event, places, history, nowhere}
use Rattle.meaning.specs.Mapped.{renoted}
use Rattle.meaning.specs.Table.{table}
use Rattle.meaning.specs.Rules.{Visit, apply, does}
use Rattle.meaning.specs.Limits.{Limit, ended, lost, cut, units, nesting, room, unbound}
use Rattle.meaning.specs.Steps.{over, one, steps}
use Rattle.meaning.specs.Store.{Input, Accepted, Ran, Leaves, bindings, deepest, on, rest, ran}
use Rattle.meaning.specs.Shared.{store_by, ran_sharing}
use Rattle.meaning.specs.Answer.{number, place_of, binding_words, returned_by}
use Rattle.meaning.proofs.Demands.{over-the-words}
use Rattle.meaning.proofs.Mapped.{renotes}
use Rattle.meaning.proofs.Shared.{not-shared, all-shared, shared-leaves}
use Rattle.meaning.proofs.Steps.{steps-in-parts, over-stays, one_end}
use Rattle.calls.specs.Run.{at_return}
use Rattle.calls.specs.Outcome.{Outcome}
use Rattle.turns.specs.Ways.{record_from, visit_of}
use Rattle.machine.specs.Stack.{present, Noted, Open, Run, Pending, Stack, Asks, Ends, Stands, Fair}
use Rattle.machine.specs.Machine.{own_from, Lent, OwnStay, Went as Goes}
use Rattle.machine.specs.declared.Machine.{Machine}
use Rattle.machine.proofs.Holding.{held_same}
use Rattle.machine.proofs.Stacked.{stable, stands-asked}
use Rattle.machine.proofs.Fairness.{always-fair}
use Rattle.stepping.specs.Stepping.{numbers, Lists, lists, run_after_by, run_after, own_row, machine_in, Given, Holds, lengths_fit, Zero}
use Rattle.stepping.specs.Stepping.{AnswersAt, Answers, StepAnswer, done as ends-done, failed as ends-failed, cut_off}
use Rattle.stepping.specs.Stepping.{unbound as ends-unbound, unfinished, level_in}
use Rattle.stepping.specs.Ended.{Saved, Used, Ended, Finished, Paused, Went, deepest as too-deep, used-up, paused}
use Rattle.stepping.specs.Ended.{done, failed, full, stuck}
use Rattle.stepping.proofs.Loading.{put-back-words}
use Rattle.stepping.proofs.Rooted.{root-done, root-failed, cut-units, cut-nesting}

-- steps of a run that has come so far
pub after_more : (sh : Bool) (i : Input) (n v : ℕ)
    → steps (store_by sh history) (does (table i.table)) v (run_after_by sh i n) ≡ run_after_by sh i (n + v)
unfolding run_after_by
after_more sh i n v = sym (steps-in-parts _ _ _ _ _ (store_by sh history) (does (table i.table)) n v _)

-- where it is over after m of v visits, or by one more, it is over after v
pub over_by : (sh : Bool) (i : Input) (n m v : ℕ) (e : Ran Noted) → m ≤ v → run_after_by sh i (n + m) ≡ over e
    → run_after_by sh i (n + v) ≡ over e
over_by sh i n m v e l z =
    let s : n + v ≡ (n + m) + (v - m) = omega arith in
    ap (λ (x : ℕ). run_after_by sh i x) s ∙ sym (after_more sh i (n + m) (v - m))
    ∙ ap (steps (store_by sh history) (does (table i.table)) (v - m)) z
    ∙ over-stays (store_by sh history) (does (table i.table)) (v - m) e

pub over-next : (sh : Bool) (i : Input) (n m v : ℕ) (e : Ran Noted) → m < v
    → one (store_by sh history) (does (table i.table)) (run_after_by sh i (n + m)) ≡ over e → run_after_by sh i (n + v) ≡ over e
unfolding steps
over-next sh i n m v e l z =
    let s : n + suc m ≡ (n + m) + 1 = omega arith in
    over_by sh i n (suc m) v e l (ap (λ (x : ℕ). run_after_by sh i x) s ∙ sym (after_more sh i (n + m) 1) ∙ go (run_after_by sh i (n + m)) ∙ z)
  where
    go : (X : Run) → steps (store_by sh history) (does (table i.table)) 1 X ≡ one (store_by sh history) (does (table i.table)) X
    go X = refl

-- the end that it comes to is the run's own
pub end-is-ran : (sh : Bool) (i : Input) (m : ℕ) (e : Ran Noted) → run_after_by sh i m ≡ over e
    → e ≡ ran_sharing sh ours history (nowhere, []) i
unfolding run_after_by ran_sharing
end-is-ran sh i m e z = one_end _ _ _ _ _ (store_by sh history) (does (table i.table)) (λ s l. refl) deepest (apply i.start i.subject
    (bindings i.bindings)) (on i.store i.mark (nowhere, [])) i.units m e z

pub end-is-run : (i : Input) (m : ℕ) (e : Ran Noted) → run_after i m ≡ over e → renoted (λ (n : Noted). n.0) e ≡ ran places nowhere i
end-is-run i m e z =
    ap (renoted (λ (n : Noted). n.0)) (end-is-ran false i m e z ∙ not-shared.1 ours Noted history (nowhere, []) i)
    ∙ renotes ours _ _ history places (λ n. n.0) (record { missed = λ p n. refl; begins = λ w n. refl; ends = λ w t n. refl }) (
      nowhere,
      [],
    ) i

-- the units used
pub used-is : (given left used : ℕ) → left ≤ given → used < 4294967296 → Used given left used → used ≡ given - left
used-is given left used l h e = omega arith

-- a list cleared is zero
pub cleared-zero : (k k' : List ℕ) → k' ≡ cleared_from k 0 → Zero k'
cleared-zero k k' e j = ap (λ l. get_or l j 0) e ∙ get_or-cleared_from-from k 0 j (omega arith)

-- a list whose own words alone differ stands for the same
module _ (t w k k' : List ℕ) (m : Machine) (below : (j : ℕ) → j < own_from → get_or k' j 0 ≡ get_or k j 0) (record_same : (j : ℕ) → record_from ≤
    j → get_or k' j 0 ≡ get_or k j 0) where
  present-same : present k' m ≡ present k m
  present-same = held_same k k' record_from record_from m.mask (λ v l _. record_same (record_from + v) (omega arith))

  top-same : (n : ℕ) (f : Open) (fs : List Open) → Pending t k n f → Stack t k n fs → Pending t k' n f × Stack t k' n fs
  top-same n f fs p s =
      ⊎_elim
      (λ l. stable t k k' 4095 (λ j h. below j (omega arith)) (suc n) (f ∷ fs) (omega arith) (p, s))
      (λ l. (
        record { left = p.left; ways = λ h. absurd (omega arith); mark = λ h _. absurd (omega arith) },
        stable t k k' 4095 (λ j h.
            below j (omega arith)) n fs (omega (arith, p.left)) s,
      ))
      (below-or-from n 4096)

  pub asks-same : {es : List What} {log : List Event} {v : Visit ℕ} {u : ℕ} {X : Run}
      → Asks t k m.level es v (on w m.mark (m.place, log)) u X
      → Asks t k' m.level es v (on w m.mark (m.place, log)) u X
  asks-same s = let z = top-same m.level s.top s.others s.pending s.stack in record {
    top = s.top;
    others = s.others;
    is =
        s.is;
    visit = s.visit;
    pending = z.0;
    stack = z.1;
    whats = s.whats;
  }

  pub stands_same : {sh : Bool} {es : List What} {log : List Event} {X : Run} → m.mode < 4 → Stands sh t m w k es log X
      → Stands sh t m w k' es log X
  stands_same {sh} {es} {log} {X} h s =
      stands-asked h (subst (λ b. Asks t k' m.level es (visit_of m.mode m.x m.y b) (on w m.mark (m.place, log)) m.fuel X)
      (sym present-same) (asks-same (s.asked h)))

-- the machine that was saved is there
pub machine-saved : (k k' : List ℕ) (m : Machine) (u s g : ℕ) → Saved k m u s g k' → m.mode < 4 → m.level ≤ 4096 → machine_in k' ≡ m
machine-saved k k' m u s g d h l =
    let a = d.own in
    let b = d.given in
    (λ z. record {
      x = get_or (a z) 1 0;
      mode = get_or (a z) 0 0 - 1;
      y = get_or (a z) 2 0;
      level = min (get_or (a z) 3 0) (if ltb (get_or (a z) 0 0 - 1) 4 then 4096 else 4095);
      mark = get_or (a z) 4 0;
      place = get_or (a z) 5 0;
      fuel = get_or (a z) 6 0;
      mask = get_or (a z) 7 0 + 4294967296 * get_or (b z) 0 0;
    })
    ∙ go
  where
    mode-is : m.mode + 1 - 1 ≡ m.mode
    mode-is = omega arith

    level-is : min m.level (if ltb (m.mode + 1 - 1) 4 then 4096 else 4095) ≡ m.level
    level-is = rw (lt-ltb (m.mode + 1 - 1) 4 (omega arith)) (omega arith)

    mask_is : m.mask % 4294967296 + 4294967296 * (m.mask / 4294967296) ≡ m.mask
    mask_is = omega arith

    go : ◌≡◌ {A = Machine} (record {
      x = m.x;
      mode = m.mode + 1 - 1;
      y = m.y;
      level = min m.level (if ltb (m.mode + 1 - 1) 4 then
          4096 else 4095);
      mark = m.mark;
      place = m.place;
      fuel = m.fuel;
      mask = m.mask % 4294967296 + 4294967296 * (m.mask /
          4294967296);
    }) m
    go = λ z. record {
      x = m.x;
      mode = mode-is z;
      y = m.y;
      level = level-is z;
      mark = m.mark;
      place = m.place;
      fuel = m.fuel;
      mask =
          mask_is z;
    }

-- what was given is saved with it
pub given-saved : (i : Input) (k k' : List ℕ) (m : Machine) (u s g : ℕ) → Saved k m u s g k' → u ≡ i.units → s ≡ i.subject → g ≡ i.mark
    → Given i k'
given-saved i k k' m u s g d eu es eg = record {
  units = ap (λ r. get_or r 1 0) d.given ∙ eu;
  subject = ap (λ r. get_or r 2 0) d.given ∙ es;
  mark = ap (λ r. get_or r 3 0) d.given ∙ eg;
}

-- what was given stays where the run's own words do
pub given-own : (i : Input) (k k' : List ℕ) → OwnStay k k' → Given i k → Given i k'
given-own i k k' own g =
    let s : (j : ℕ) → j < 8 → word_at k' (own_row + 1) j ≡ word_at k (own_row + 1) j = λ j l. own (8 * (own_row + 1) + j) (omega arith)
    (omega arith) in
    record {
      units = s 1 (omega arith) ∙ g.units;
      subject = s 2 (omega arith) ∙ g.subject;
      mark = s 3 (omega arith) ∙ g.mark;
    }

-- the lengths of lists that hold a run fit
pub lengths-hold : (i : Input) (t : List ℕ) (n : ℕ) (M : Lists) → Accepted i → i.table ≡ t → Holds i n M → lengths_fit t M ≡ true
unfolding lengths_fit store_length_fits table_checked_by
lengths-hold i t n M a e h =
    let l : length M.bindings ≡ 64 = ap length h.bindings ∙ a.bindings in
    rw (
      table_fits,
      eq-eqb (length M.store % 8) 0 h.lent.nodes,
      le-leb (length M.store) 1048576 h.lent.small,
      eq-eqb (length
          M.bindings) 64 l,
      le-leb 327680 (length M.work) h.lent.frames,
    ) refl
  where
    table_fits : table_length_fits (length t) ≡ true
    table_fits = go (table_length_fits (length t)) refl (ap (λ t. table_checked_by ours t) (sym e) ∙ a.table)
      where
        go : (c : Bool) → table_length_fits (length t) ≡ c → table_checked_by ours t ≡ checked 0 0 → c ≡ true
        go true z y = refl
        go false z y = absurd (let q : checked 2 0 ≡ checked 0 0 = (rw z at y) in omega (arith, ap (λ (c : Checked). c.answer) q))

-- ---- what comes back

-- the numbers and words of a run that has ended and is not done
module _ (i : Input) (w k b w' k' : List ℕ) (r : Outcome) (answer place left : ℕ) (g : Given i k) (fits : left ≤ i.units) (eb : b ≡ i.bindings) (d : Ended w k answer place left r w' k') where
  not_done : at_return r w' b ≡ record {
    answer = answer;
    place = place;
    subject = i.subject;
    mark = i.mark;
    units = i.units - left;
    store = cleared_from w (8 * i.mark);
    bindings = i.bindings;
  }
  not_done =
      let u : d.used ≡ i.units - left = used-is i.units left d.used fits d.few (d.units ∙ g.units) in
      let n : r ≡ numbers answer place i.subject i.mark (i.units - left) = d.numbers ∙ (λ z. numbers answer place (g.subject z) (g.mark z) (u z)) in
      let s : w' ≡ cleared_from w (8 * i.mark) = d.store ∙ ap (λ (m : ℕ). cleared_from w (8 * m)) g.mark in
      λ z. at_return (n z) (s z) (eb z)

  pub ended-cut : (c : Limit) (p : Noted) (n : ℕ) → answer ≡ number c → place ≡ place_of c
      → AnswersAt i n (over (cut c (rest w p) left)) r (lists w'
      b k')
  unfolding returned_by renoted
  ended-cut c p n ea ep = (
    not_done ∙ (λ z. record {
      answer = ea z;
      place = ep z;
      subject = i.subject;
      mark = i.mark;
      units = i.units - left;
      store =
          cleared_from w (8 * i.mark);
      bindings = i.bindings;
    }),
    cleared-zero k k' d.work,
  )

  pub ended-lost : (p : Noted) (n : ℕ) → answer ≡ 1 → place ≡ p.0 → AnswersAt i n (over (lost (rest w p) left)) r (lists w' b k')
  unfolding returned_by renoted
  ended-lost p n ea ep = (
    not_done ∙ (λ z. record {
      answer = ea z;
      place = ep z;
      subject = i.subject;
      mark = i.mark;
      units = i.units - left;
      store =
          cleared_from w (8 * i.mark);
      bindings = i.bindings;
    }),
    cleared-zero k k' d.work,
  )

-- an accepted run leaves a sound store, with nodes shared or not
leaves : (sh : Bool) (i : Input) → Accepted i → Leaves i.store i.mark (ran_sharing sh ours history (nowhere, []) i)
leaves false i a =
    subst (Leaves i.store i.mark) (sym (not-shared.1 ours Noted history (nowhere, []) i))
    (over-the-words ours Noted history (nowhere, []) i a).1
leaves true i a =
    subst (Leaves i.store i.mark) (sym (all-shared.1 ours Noted history (nowhere, []) i))
    (shared-leaves ours Noted history (nowhere, []) i a)

-- one that is done has its bound nodes in the store
bound-small : (sh : Bool) (i : Input) → Accepted i → (y m u : ℕ) (p : Noted) (w : List ℕ) (c : Bindings ℕ)
    → ended y c (on w m p) u ≡ ran_sharing sh ours history (nowhere, []) i
    → (v j : ℕ) → c v ≡ some j → j < 131072
bound-small sh i a y m u p w c e v j h =
    let l : Leaves i.store i.mark (ended y c (on w m p) u) = subst (Leaves i.store i.mark) (sym e) (leaves sh i a) in
    let f = (store_passes i.store i.mark).0 (ap (λ (c : Checked). c.answer) a.store) in
    omega (arith, l.2.bound v j h, l.2.fits, l.1.long, f.0.0.most)

pub ended-done : (sh : Bool) (i : Input) → Accepted i → (w k w' b' k' : List ℕ) (m : Machine) (log : List Event) (r : Outcome) → Given i k
    → m.fuel ≤ i.units → Finished w k m r w' b' k'
    → ended m.y (present k m) (on w m.mark (m.place, log)) m.fuel ≡ ran_sharing sh ours history (nowhere, []) i → (n : ℕ)
    → AnswersAt i n (over (ended m.y (present k m) (on w m.mark (m.place, log)) m.fuel)) r (lists w' b' k')
unfolding returned_by renoted
ended-done sh i a w k w' b' k' m log r g fits d e x =
    let u : d.used ≡ i.units - m.fuel = used-is i.units m.fuel d.used fits d.few (d.units ∙ g.units) in
    let n : r ≡ numbers 0 0 m.y m.mark (i.units - m.fuel) = d.numbers ∙ ap (λ (u : ℕ). numbers 0 0 m.y m.mark u) u in
    let q : b' ≡ binding_words variables (present k m) = put-back-words k b' m.mask d.bindings
    (bound-small sh i a m.y m.mark m.fuel (m.place, log) w (present k m) e) in
    ((λ z. at_return (n z) (d.store z) (q z)), cleared-zero k k' d.work)

-- ---- a step, all in all

-- where a step is to stop: v visits fewer, or none left
abbrev pub stop_at : ℕ → ℕ → ℕ
stop_at had v = if ltb v had then had - v else 0

module _ (fair : (i : Input) → Accepted i → (n : ℕ) → Fair i.table (run_after i n))
    (i : Input) (n v : ℕ) (M : Lists) (a : Accepted i) (h : Holds i n M) (stop : ℕ) (es : stop ≡ stop_at (machine_in M.work).fuel v)
    (m : Machine) (w₁ k₁ : List ℕ) (g : Goes false i.table M.store M.work (machine_in M.work) stop m w₁ k₁) where
  abbrev had : ℕ
  had = (machine_in M.work).fuel

  abbrev made : ℕ
  made = had - m.fuel

  stops : ((v < had) × (stop ≡ had - v)) ⊎ ((had ≤ v) × (stop ≡ 0))
  stops = ⊎_elim (λ l. inl (l, es ∙ rw (lt-ltb v had l) refl)) (λ l. inr (l, es ∙ rw (le-ltb v had l) refl)) (below-or-from v had)

  few-made : made ≤ v
  few-made = ⊎_elim (λ z. omega (arith, z.1, g.rest)) (λ z. omega (arith, z.0)) stops

  fewer-made : (m.fuel ≡ stop → ⊥) → made < v
  fewer-made ne = ⊎_elim (λ z. omega (arith, z.1, more)) (λ z. omega (arith, z.0, z.1, more, g.fuel)) stops
    where
      more : stop < m.fuel
      more = ⊎_elim (λ l. l) (λ l. absurd (ne (omega (arith, g.rest)))) (below-or-from stop m.fuel)

  gone : (es : List What) × (log : List Event) × Stands false i.table m w₁ k₁ es log
      (steps (store_by false history) (does (table i.table)) made (run_after i n))
  gone = g.goes h.flight h.log (run_after i n) h.stands (λ j. subst (Fair i.table) (sym (after_more false i n j)) (fair i a (n + j)))

  abbrev flight : List What
  flight = gone.0

  abbrev log : List Event
  log = gone.1

  stands : Stands false i.table m w₁ k₁ flight log (run_after i (n + made))
  stands = subst (Stands false i.table m w₁ k₁ flight log) (after_more false i n made) gone.2

  given_stays : Given i k₁
  given_stays = given-own i M.work k₁ g.own h.given

  fuel-fits : m.fuel ≤ i.units
  fuel-fits = omega (arith, g.fuel, h.fuel)

  -- where the run is over
  at-end : (e : Ran Noted) (r : Outcome) (M' : Lists) → run_after i (n + v) ≡ over e → AnswersAt i (n + v) (over e) r M'
      → Answers i (n + v) r M'
  at-end e r M' z x = subst (λ X. AnswersAt i (n + v) X r M') (sym z) x

  pub concluded : (r : Outcome) (w' b' k' : List ℕ) → Went w₁ M.bindings k₁ had v stop m r w' b' k' → Answers i (n + v) r (lists w' b'
      k')
  unfolding number place_of
  concluded r w' b' k' (too-deep l ne eb d) =
      let s = stands.asked l in
      let deep : 4096 ≤ m.level = ⊎_elim (λ z. absurd (ne z)) (λ z. z) (g.asking l) in
      let some : (m.fuel ≡ 0 → ⊥) = λ z. ne (omega (arith, g.rest)) in
      at-end _ r _
      (over-next false i n made v _ (fewer-made ne) (cut-nesting false i.table w₁ k₁ m.level m.mark (m.place, log) m.fuel _ _ _ deep
      some s))
      (ended-cut i w₁ k₁ b' w' k' r 8 0 m.fuel given_stays fuel-fits (eb ∙ h.bindings) d nesting (m.place, log) (n + v) refl refl)
  concluded r w' b' k' (used-up l e lt eb d) =
      let zero_left : m.fuel ≡ 0 = ⊎_elim (λ z. absurd (omega (arith, z.0))) (λ z. e ∙ z.1) stops in
      let s = subst (λ (u : ℕ). Asks i.table k₁ m.level flight (visit_of m.mode m.x m.y (present k₁ m)) (on w₁ m.mark (m.place, log))
      u (run_after i (n + made))) zero_left (stands.asked l) in
      at-end _ r _ (over-next false i n made v _ (omega arith) (cut-units false i.table w₁ k₁ m.level m.mark (m.place, log) _ _ _ s))
      (ended-cut i w₁ k₁ b' w' k' r 6 0 0 given_stays (omega arith) (eb ∙ h.bindings) (subst (λ (u : ℕ). Ended w₁ k₁ 6 0 u r w' k')
      zero_left d) units (m.place, log) (n + v) refl refl)
  concluded r w' b' k' (paused l e le d) =
      let all : made ≡ v = ⊎_elim (λ z. omega (arith, z.0, z.1, e)) (λ z. omega (arith, z.0, z.1, e)) stops in
      let S : Stands false i.table m w₁ k₁ flight log (run_after i (n + v)) =
      subst (λ (x : ℕ). Stands false i.table m w₁ k₁ flight log (run_after i (n + x))) all stands in
      let s = S.asked l in
      let u : d.used ≡ i.units - m.fuel = used-is i.units m.fuel d.used fuel-fits d.few (d.units ∙ given_stays.units) in
      let all-units : m.fuel + (n + v) ≡ i.units = omega (arith, all, g.fuel, h.fuel) in
      let rest-is : i.units - m.fuel ≡ n + v = omega arith in
      let N : r ≡ numbers 25 0 i.subject i.mark (n + v) = d.numbers ∙ (λ z. numbers 25 0 (given_stays.subject z) (given_stays.mark
      z) ((u ∙ rest-is) z)) in
      let low : m.level ≤ 4096 = omega (arith, s.pending.left) in
      let same : machine_in k' ≡ m = machine-saved k₁ k' m _ _ _ d.work l low in
      let H : Holds i (n + v) (lists w' b' k') = record {
        lent = record {
          nodes = ap (λ w. length w % 8) d.store ∙ g.lent.nodes;
          small = omega (
            arith,
            g.lent.small,
            ap length d.store,
          );
          frames = omega (arith, g.lent.frames, d.work.long);
        };
        begun = omega (arith, ap (λ r. get_or r 0 0) d.work.own);
        asked = subst (λ m. m.mode < 4) (sym same) l;
        flight = flight;
        log = log;
        stands = subst (λ m. Stands false i.table m w' k' flight log (run_after i (n + v))) (sym same)
            (subst (λ w. Stands false i.table m w k' flight log (run_after i
            (n + v))) (sym d.store) (stands_same i.table w₁ k₁ k' m (λ j x. d.work.other j (inl x)) (λ j x. d.work.other j (inr
            x)) l S));
        fuel = subst (λ m. m.fuel + (n + v) ≡ i.units) (sym same) all-units;
        given = given-saved i k₁ k' m _ _ _ d.work given_stays.units given_stays.subject given_stays.mark;
        bindings = d.bindings ∙ h.bindings;
      } in
      subst (λ X. AnswersAt i (n + v) X r (lists w' b' k')) (sym s.is) (N, H)
  concluded r w' b' k' (done e d) =
      let level-0 : m.level ≡ 0 = g.ended (omega arith) (omega arith) in
      let z = root-done false i.table w₁ k₁ (present k₁ m) m.y m.mark m.fuel (m.place, log) flight _
      (subst (λ (l : ℕ). Ends false i.table k₁ (suc l) flight (ended m.y (present k₁ m)
      (on w₁ m.mark (m.place, log)) m.fuel) (run_after i (n + made))) level-0
      (stands.succeeded e)) in
      let o = over_by false i n made v _ few-made z in
      at-end _ r _ o (ended-done false i a w₁ k₁ w' b' k' m _ r given_stays fuel-fits d (end-is-ran false i (n + v) _ o) (n + v))
  concluded r w' b' k' (failed e eb d) =
      let level-0 : m.level ≡ 0 = g.ended (omega arith) (omega arith) in
      let z = root-failed false i.table w₁ k₁ (m.place, log) m.fuel flight _
      (subst (λ (l : ℕ). Ends false i.table k₁ (suc l) flight (lost (rest w₁ (m.place, log)) m.fuel)
      (run_after i (n + made))) level-0 (stands.failed e)) in
      at-end _ r _ (over_by false i n made v _ few-made z) (ended-lost i w₁ k₁ b' w' k' r 1 m.place m.fuel given_stays fuel-fits
      (eb ∙ h.bindings) d (m.place, _) (n + v) refl refl)
  concluded r w' b' k' (full e eb d) =
      at-end _ r _ (over_by false i n made v _ few-made (stands.full e)) (ended-cut i w₁ k₁ b' w' k' r 7 0 m.fuel given_stays fuel-fits (eb ∙
      h.bindings) d room (m.place, log) (n + v) refl refl)
  concluded r w' b' k' (stuck e eb d) =
      at-end _ r _ (over_by false i n made v _ few-made (stands.stuck (omega (arith, stands.known)))) (ended-cut i w₁ k₁ b' w' k' r 12 m.x
      m.fuel given_stays fuel-fits (eb ∙ h.bindings) d (unbound m.x) (m.place, log) (n + v) refl refl)

-- ---- for the functions of the step

above : (n m : ℕ) → n ≤ m → (m ≡ n → ⊥) → n + 1 ≤ m
above n m l ne = ⊎_elim (λ h. absurd (ne (omega arith))) (λ h. h) (below-or-from m (n + 1))

pub past-six : (m : ℕ) → 4 ≤ m → (m ≡ 4 → ⊥) → (m ≡ 5 → ⊥) → (m ≡ 6 → ⊥) → 6 < m
past-six m l n4 n5 n6 = let z = above 6 m (above 5 m (above 4 m l n4) n5) n6 in omega arith

pub paused-with : (w b k : List ℕ) (m : Machine) (u s g used : ℕ) (k' : List ℕ) → u ≡ word_at k (own_row + 1) 1 → s ≡ word_at k (own_row + 1) 2
    → g ≡ word_at k (own_row + 1) 3 → used < 4294967296 → (used + m.fuel) % 4294967296 ≡ u → Saved k m u s g k'
    → Paused w b k m (numbers 25 0 s g used) w b k'
paused-with w b k m u s g used k' eu es eg few e d = record {
  used = used;
  units = e ∙ eu;
  few = few;
  numbers = λ z. numbers 25 0 (es z) (eg z) used;
  store = refl;
  bindings = refl;
  work = subst (λ (u : ℕ). Saved k m u (word_at k (own_row + 1) 2) (word_at k (own_row + 1) 3) k') eu (subst (λ (s : ℕ). Saved k m u s (word_at
      k (own_row + 1) 3) k') es (subst (λ (g : ℕ). Saved k m u s g k') eg d));
}

pub went-listed : {w b k : List ℕ} {had v stop : ℕ} {m : Machine} {r : Outcome} {w' b' k' : List ℕ} → Went w b k had v stop m r w' b' k' →
    StepAnswer r.answer
went-listed (too-deep l ne eb d) = subst StepAnswer (ap (λ r. r.answer) (sym d.numbers)) (cut_off 8 (omega arith) (omega arith))
went-listed (used-up l e lt eb d) = subst StepAnswer (ap (λ r. r.answer) (sym d.numbers)) (cut_off 6 (omega arith) (omega arith))
went-listed (paused l e le d) = subst StepAnswer (ap (λ r. r.answer) (sym d.numbers)) unfinished
went-listed (done e d) = subst StepAnswer (ap (λ r. r.answer) (sym d.numbers)) ends-done
went-listed (failed e eb d) = subst StepAnswer (ap (λ r. r.answer) (sym d.numbers)) ends-failed
went-listed (full e eb d) = subst StepAnswer (ap (λ r. r.answer) (sym d.numbers)) (cut_off 7 (omega arith) (omega arith))
went-listed (stuck e eb d) = subst StepAnswer (ap (λ r. r.answer) (sym d.numbers)) ends-unbound

-- lengths that fit
pub lengths-lent : (t : List ℕ) (M : Lists) → lengths_fit t M ≡ true → Lent M.store M.work × (length M.bindings ≡ 64)
unfolding lengths_fit store_length_fits
lengths-lent t M e =
    let a : (table_length_fits (length t) ≡ true) × ((eqb (length M.store % 8) 0 && leb (length M.store) 1048576) && (eqb (length M.bindings) 64 && leb 327680 (length M.work)) ≡ true) = and-true _ _ e in
    let b : (eqb (length M.store % 8) 0 && leb (length M.store) 1048576 ≡ true) × (eqb (length M.bindings) 64 && leb 327680
    (length M.work) ≡ true) = and-true _ _ a.1 in
    let c : (eqb (length M.bindings) 64 ≡ true) × (leb 327680 (length M.work) ≡ true) = and-true _ _ b.1 in
    let s : (eqb (length M.store % 8) 0 ≡ true) × (leb (length M.store) 1048576 ≡ true) = and-true _ _ b.0 in
    (record { nodes = eqb-true _ _ s.0; small = leb-true _ _ s.1; frames = leb-true _ _ c.1 }, eqb-true _ _ c.0)

pub level-low : (k : List ℕ) (a : Machine) → a ≡ machine_in k → (a.level ≤ 4096) × (3 < a.mode → a.level < 4096)
level-low k a e = subst (λ a. (a.level ≤ 4096) × (3 < a.mode → a.level < 4096)) (sym e) (go (word_at k own_row 0 - 1) (word_at k own_row 3))
  where
    go : (m l : ℕ) → (level_in m l ≤ 4096) × (3 < m → level_in m l < 4096)
    go m l = ⊎_elim (λ h. rw (lt-ltb m 4 h) (omega arith, λ z. absurd (omega arith))) (λ h. rw (le-ltb m 4 h) (
      omega arith,
      λ z. omega
          arith,
    )) (below-or-from m 4)

stop-then : (had v : ℕ) → v < had → had - v ≡ stop_at had v
stop-then had v l = rw (lt-ltb v had l) refl

stop-else : (had v : ℕ) → had ≤ v → 0 ≡ stop_at had v
stop-else had v l = rw (le-ltb v had l) refl

pub stop-is : (had v : ℕ) → had - v ≡ stop_at had v
stop-is had v = ⊎_elim (stop-then had v) (λ l. let z : had - v ≡ 0 = omega arith in z ∙ stop-else had v l) (below-or-from v had)

pub stop-few : (had v stop : ℕ) → stop ≡ stop_at had v → stop ≤ had
stop-few had v stop e = ⊎_elim (λ l. omega (arith, e ∙ sym (stop-then had v l))) (λ l. omega (arith, e ∙ sym (stop-else had v l)))
    (below-or-from v had)

pub fair-after : (sh : Bool) (i : Input) → Accepted i → (n : ℕ) → Fair i.table (run_after_by sh i n)
unfolding run_after_by
fair-after sh i a n = always-fair sh i a n

pub step-goes : (i : Input) (n v : ℕ) (M : Lists) → Accepted i → Holds i n M → (t : List ℕ) → i.table ≡ t → (a : Machine) → a ≡ machine_in
    M.work → (stop : ℕ) → stop ≡ stop_at a.fuel v
    → (m : Machine) (w₁ k₁ : List ℕ) → Goes false t M.store M.work a stop m w₁ k₁ → (r : Outcome) (w' b' k' : List ℕ) → Went w₁ M.bindings k₁ a.fuel v stop m r w' b' k'
    → Answers i (n + v) r (lists w' b' k')
step-goes i n v M ac h t et a ea stop es m w₁ k₁ g r w' b' k' d =
    concluded (fair-after false) i n v M ac h stop (es ∙ ap (λ a. stop_at a.fuel v) ea) m w₁ k₁
    (subst (λ a. Goes false i.table M.store M.work a stop m w₁ k₁) ea
    (subst (λ t. Goes false t M.store M.work a stop m w₁ k₁) (sym et) g))
    r w' b' k' (subst (λ a. Went w₁ M.bindings k₁ a.fuel v stop m r w' b' k') ea d)
