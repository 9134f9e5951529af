-- An accepted run with counts, from its fresh start to what it returns. Assumes nothing.
use Rattle.std.proofs.Common.{◌≡◌, ℕ, suc, ◌+◌, ◌-◌, ◌*◌, ◌<◌, ◌≤◌, Bool, true, false, eqb, List, ◌∷◌, length, sym, refl, ap, ◌∙◌, subst, ⊎_elim, arith, eq-eqb, ne_eqb}
use Rattle.meaning.specs.Derivation.{Event, ended as told}
use Rattle.meaning.specs.Tallies.{any_pattern, is_pair, counted, begins}
use Rattle.meaning.specs.Limits.{ended, lost, cut, units, nesting, room, unbound}
use Rattle.meaning.specs.Mapped.{renoted}
use Rattle.meaning.specs.Steps.{over}
use Rattle.meaning.specs.Store.{Input, Accepted, Ran, on, rest}
use Rattle.meaning.specs.Answer.{number, place_of, returned}
use Rattle.checks.specs.Checked.{Checked}
use Rattle.checks.proofs.Promises.{store_passes}
use Rattle.calls.specs.Run.{at_return}
use Rattle.calls.specs.Outcome.{Outcome}
use Rattle.turns.specs.Ways.{visit_of}
use Rattle.machine.specs.Stack.{present, Noted, first_of, Asks, Ends, Stands, Fair}
use Rattle.machine.specs.Machine.{Lent}
use Rattle.machine.specs.declared.Machine.{Machine}
use Rattle.stepping.specs.Stepping.{run_after_by, Given}
use Rattle.stepping.specs.Ended.{Saved, Loaded, Ended, Went, deepest as too-deep, used-up, paused, done, failed, full, stuck}
use Rattle.stepping.proofs.Rooted.{root-done, root-failed, cut-units, cut-nesting}
use Rattle.stepping.proofs.Starting.{first-visit, fresh-held}
use Rattle.stepping.proofs.Concluding.{after_more, over-next, end-is-ran, given-saved, given-own, ended-cut, ended-lost, ended-done, fair-after}
use Rattle.tallying.specs.declared.Seen.{Seen}
use Rattle.tallying.specs.Counts.{rest_counted, Room}
use Rattle.tallying.specs.Added.{log_of, tallied, counted_at_return, counted_end, ran_if}
use Rattle.tallying.specs.Tally.{CountedOn, Stopped}
use Rattle.tallying.proofs.Ending.{asked-tallied, cut-tallied, root-tallied}
use Rattle.tallying.proofs.Onward.{ended-none}

-- the machine at the start of a run
abbrev pub fresh : Input → ℕ → Machine
fresh i mask = record { x = i.start; mode = 0; y = i.subject; level = 0; mark = i.mark; place = 4096; fuel = i.units; mask = mask }

-- the store of an accepted run, and a list of frames
pub accepted-lent : (i : Input) (k : List ℕ) → Accepted i → 327680 ≤ length k → Lent i.store k
accepted-lent i k a l =
    let f = (store_passes i.store i.mark).0 (ap (λ (c : Checked). c.answer) a.store) in
    record { nodes = f.0.0.whole; small = f.0.0.most; frames = l }

module _ (sh : Bool) (i : Input) (ac : Accepted i) (given : List ℕ) (n : ℕ) (four : length given ≡ 4 * n) (spare : Room given)
    (most : i.units < 4294967296)
    (mask : ℕ) (k k₁ k₂ : List ℕ) (loaded : Loaded k i.bindings mask k₁)
    (saved : Saved k₁ (fresh i mask) i.units i.subject i.mark k₂)
    (m : Machine) (s : Seen) (w k₃ kept cs : List ℕ)
    (so : CountedOn sh i.table i.store k₂ given (fresh i mask) m s w k₃ kept cs) (st : Stopped m) where
  abbrev made : ℕ
  made = i.units - m.fuel

  stands : Stands sh i.table m w k₃ so.es so.log (run_after_by sh i (0 + made))
  stands =
      subst (Stands sh i.table m w k₃ so.es so.log) (after_more sh i 0 made)
      (so.goes (run_after_by sh i 0) (first-visit sh i k₂ mask (fresh-held i.bindings mask loaded saved))
      (λ j. subst (Fair i.table) (sym (after_more sh i 0 j)) (fair-after sh i ac (0 + j))))

  here : Given i k₃
  here = given-own i k₂ k₃ so.own (given-saved i k₁ k₂ (fresh i mask) _ _ _ saved refl refl refl)

  module _ (r : Outcome) (w' b' : List ℕ) where
    -- the run is over with e, which is told, and log' is what happened
    told-all : (e : Ran Noted) (log' : List Event) (j : ℕ) → run_after_by sh i j ≡ over e
        → at_return r w' b' ≡ returned i (renoted (λ (n : Noted). n.0) e) → log_of e ≡ log'
        → rest_counted kept cs m ≡ tallied log' 0 given → s.patterns ≡ counted (begins any_pattern) log' → s.pairs ≡ counted (begins is_pair) log'
        → counted_at_return (record { ended = r; seen = s }) w' b' (rest_counted kept cs m) ≡ counted_end i (ran_if sh i) given
    told-all e log' j x y l c p q =
        (λ z. record {
          run = y z;
          patterns = (p ∙ ap (counted (begins any_pattern)) (sym l)) z;
          pairs = (q ∙ ap (counted (begins is_pair)) (sym l)) z;
          counts = (c ∙ ap (λ l. tallied l 0 given) (sym l)) z;
        })
        ∙ ap (λ e. counted_end i e given) (end-is-ran sh i j e x)

    -- a cut-off: nothing is noted of the visits in flight
    cut-told : (c : _) (u j : ℕ) → run_after_by sh i j ≡ over (cut c (rest w (m.place, so.log)) u)
        → at_return r w' b' ≡ returned i (renoted (λ (n : Noted). n.0) (cut c (rest w (m.place, so.log)) u))
        → rest_counted kept cs m ≡ tallied so.log 0 given
        → counted_at_return (record { ended = r; seen = s }) w' b' (rest_counted kept cs m) ≡ counted_end i (ran_if sh i) given
    unfolding log_of
    cut-told c u j x y z = told-all _ so.log j x y refl z so.patterns so.pairs

    pub all-counted : (k' : List ℕ) → Went w i.bindings k₃ 0 1 0 m r w' b' k'
        → counted_at_return (record { ended = r; seen = s }) w' b' (rest_counted kept cs m) ≡ counted_end i (ran_if sh i) given
    unfolding number place_of log_of
    all-counted k' (too-deep l ne eb d) =
        let deep : 4096 ≤ m.level = ⊎_elim (λ z. absurd (ne z)) (λ z. z) (st.asking l) in
        cut-told nesting m.fuel _
        (over-next sh i 0 made (suc made) _ (omega arith)
        (cut-nesting sh i.table w k₃ m.level m.mark (m.place, so.log) m.fuel _ _ _ deep ne (stands.asked l)))
        (ended-cut i w k₃ b' w' k' r 8 0 m.fuel here so.fuel eb d nesting (m.place, so.log) 0 refl refl).0
        (asked-tallied spare most so n four l)
    all-counted k' (used-up l e lt eb d) =
        let a = subst (λ (u : ℕ). Asks i.table k₃ m.level so.es (visit_of m.mode m.x m.y (present k₃ m))
        (on w m.mark (m.place, so.log)) u (run_after_by sh i (0 + made))) e (stands.asked l) in
        cut-told units 0 _
        (over-next sh i 0 made (suc made) _ (omega arith) (cut-units sh i.table w k₃ m.level m.mark (m.place, so.log) _ _ _ a))
        (ended-cut i w k₃ b' w' k' r 6 0 0 here (omega arith) eb (subst (λ (u : ℕ). Ended w k₃ 6 0 u r w' k') e d) units
        (m.place, so.log) 0 refl refl).0
        (asked-tallied spare most so n four l)
    all-counted k' (paused l e le d) = absurd (omega arith)
    all-counted k' (done e d) =
        let level-0 : m.level ≡ 0 = st.ended (omega arith) (omega arith) in
        let won : eqb m.mode 4 ≡ true = eq-eqb m.mode 4 e in
        let z = root-done sh i.table w k₃ (present k₃ m) m.y m.mark m.fuel (m.place, so.log) so.es _
        (subst (λ (l : ℕ). Ends sh i.table k₃ (suc l) so.es (ended m.y (present k₃ m) (on w m.mark (m.place, so.log)) m.fuel)
        (run_after_by sh i (0 + made))) level-0 (stands.succeeded e)) in
        told-all _ (told (first_of so.es) true ∷ so.log) _ z
        (ended-done sh i ac w k₃ w' b' k' m _ r here so.fuel d (end-is-ran sh i _ _ z) 0).0
        refl
        (root-tallied spare most so n four (omega arith) (omega arith) level-0
        ∙ ap (λ (b : Bool). tallied (told (first_of so.es) b ∷ so.log) 0 given) won)
        (so.patterns ∙ sym (ended-none any_pattern (first_of so.es) true so.log))
        (so.pairs ∙ sym (ended-none is_pair (first_of so.es) true so.log))
    all-counted k' (failed e eb d) =
        let level-0 : m.level ≡ 0 = st.ended (omega arith) (omega arith) in
        let no : eqb m.mode 4 ≡ false = ne_eqb m.mode 4 (λ z. omega arith) in
        let z = root-failed sh i.table w k₃ (m.place, so.log) m.fuel so.es _
        (subst (λ (l : ℕ). Ends sh i.table k₃ (suc l) so.es (lost (rest w (m.place, so.log)) m.fuel)
        (run_after_by sh i (0 + made))) level-0 (stands.failed e)) in
        told-all _ (told (first_of so.es) false ∷ so.log) _ z
        (ended-lost i w k₃ b' w' k' r 1 m.place m.fuel here so.fuel eb d (m.place, _) 0 refl refl).0
        refl
        (root-tallied spare most so n four (omega arith) (omega arith) level-0
        ∙ ap (λ (b : Bool). tallied (told (first_of so.es) b ∷ so.log) 0 given) no)
        (so.patterns ∙ sym (ended-none any_pattern (first_of so.es) false so.log))
        (so.pairs ∙ sym (ended-none is_pair (first_of so.es) false so.log))
    all-counted k' (full e eb d) =
        cut-told room m.fuel _ (stands.full e)
        (ended-cut i w k₃ b' w' k' r 7 0 m.fuel here so.fuel eb d room (m.place, so.log) 0 refl refl).0
        (cut-tallied spare most so n four (omega arith))
    all-counted k' (stuck e eb d) =
        cut-told (unbound m.x) m.fuel _ (stands.stuck (omega (arith, stands.known)))
        (ended-cut i w k₃ b' w' k' r 12 m.x m.fuel here so.fuel eb d (unbound m.x) (m.place, so.log) 0 refl refl).0
        (cut-tallied spare most so n four (omega arith))
