-- Counts over a trace add up, and what was noted counts as the trace does. Assumes nothing.
use mathlib.Core.Path.{◌≡◌, refl, ap, sym}
use mathlib.Core.Bool.{Bool, true, false, ◌&&◌}
use mathlib.Core.List.{List, [], ◌∷◌}
use mathlib.Core.Logic.{⊎_elim}
use Prim.Native.Nat.{ℕ, zero, suc, ◌+◌, ◌<◌}
use native.Mathlib.Omega.{arith}
use borrow.Author.Tests.{eq-eqb, ne_eqb}
use lib.Dec.{eqb}
use Rattle.words.proofs.Tests.{below-or-from}
use Rattle.meaning.specs.Derivation.{What, entry, pattern, pair, Fate, stays, goes, fails, in-flight, Trace, over, missed, node}
use Rattle.meaning.specs.Derivation.{visit, visits, Event, began, ended, history, shut, noted}
use Rattle.meaning.specs.Tallies.{one-if, is_entry, any_pattern, is_pair, succeeded, has_failed, flies, count, entries_below}
use Rattle.meaning.specs.Tallies.{Inside, VisitsMakeUnits, FatesMakeVisits, counted, begins, wins, loses, HistoryCounts}
use Rattle.meaning.specs.Tallies.{Entered, entries_in, EventsAddUp, EntriesNoted, CountAll}

-- ---- the fates of an entry's visits

one-fate : (b : Bool) (f : Fate) → one-if (b && succeeded f) + one-if (b && has_failed f) + one-if (b && flies f) ≡ one-if b
unfolding succeeded has_failed flies
one-fate true stays = refl
one-fate true goes = refl
one-fate true fails = refl
one-fate true in-flight = refl
one-fate false stays = refl
one-fate false goes = refl
one-fate false fails = refl
one-fate false in-flight = refl

pub fates-make-visits : FatesMakeVisits
unfolding count
fates-make-visits x over = refl
fates-make-visits x (missed q) = refl
fates-make-visits x (node t) = fates-make-visits x t
fates-make-visits x (visit w f s t) = omega (arith, one-fate (is_entry x w) f, fates-make-visits x s, fates-make-visits x t)

-- ---- what is noted

and-true-right : (b : Bool) → (b && true) ≡ b
and-true-right true = refl
and-true-right false = refl

and-false-right : (b : Bool) → (b && false) ≡ false
and-false-right true = refl
and-false-right false = refl

-- a visit's end, in what is counted
module _ (p : What → Bool) (w : What) (n : ℕ × List Event) where
  shut-begins : (f : Fate) → counted (begins p) (shut history w f n).1 ≡ counted (begins p) n.1
  unfolding shut counted begins
  shut-begins stays = omega arith
  shut-begins goes = omega arith
  shut-begins fails = omega arith
  shut-begins in-flight = refl

  shut-wins : (f : Fate) → counted (wins p) (shut history w f n).1 ≡ one-if (p w && succeeded f) + counted (wins p) n.1
  unfolding shut counted wins succeeded
  shut-wins stays = ap (λ b. one-if b + counted (wins p) n.1) (sym (and-true-right (p w)))
  shut-wins goes = ap (λ b. one-if b + counted (wins p) n.1) (sym (and-true-right (p w)))
  shut-wins fails = ap (λ b. one-if b + counted (wins p) n.1) (sym (and-false-right (p w)))
  shut-wins in-flight = omega (arith, ap one-if (and-false-right (p w)))

  shut-loses : (f : Fate) → counted (loses p) (shut history w f n).1 ≡ one-if (p w && has_failed f) + counted (loses p) n.1
  unfolding shut counted loses has_failed
  shut-loses stays = ap (λ b. one-if b + counted (loses p) n.1) (sym (and-false-right (p w)))
  shut-loses goes = ap (λ b. one-if b + counted (loses p) n.1) (sym (and-false-right (p w)))
  shut-loses fails = ap (λ b. one-if b + counted (loses p) n.1) (sym (and-true-right (p w)))
  shut-loses in-flight = omega (arith, ap one-if (and-false-right (p w)))

pub history-counts : HistoryCounts
unfolding noted count counted begins wins loses
history-counts p over n = (omega arith, omega arith, omega arith)
history-counts p (missed q) n = (omega arith, omega arith, omega arith)
history-counts p (node t) n = history-counts p t n
history-counts p (visit w f s t) n =
    let inner = noted history s (n.0, began w ∷ n.1) in
    let a = history-counts p s (n.0, began w ∷ n.1) in
    let b = history-counts p t (shut history w f inner) in (
      omega (arith, a.0, b.0, shut-begins p w inner f),
      omega (arith, a.1, b.1, shut-wins p w inner f),
      omega (arith, a.2, b.2, shut-loses p w inner f),
    )

-- ---- the visits of all entries

-- an event that is no visit of these, and the visit of one of them
in-event : (n : ℕ) (e : Event) (es : List Event) → ((x : ℕ) → x < n → one-if (begins (is_entry x) e) ≡ 0)
    → entries_in n (e ∷ es) ≡ entries_in n es
unfolding entries_in counted
in-event zero e es none = refl
in-event (suc n) e es none = omega (arith, in-event n e es (λ x l. none x (omega arith)), none n (omega arith))

in_entry : (n x : ℕ) (es : List Event) → x < n → entries_in n (began (entry x) ∷ es) ≡ suc (entries_in n es)
unfolding entries_in counted begins is_entry
in_entry zero x es l = absurd (omega arith)
in_entry (suc n) x es l = ⊎_elim
    (λ m. omega (arith, in_entry n x es m, other n (λ e. omega arith)))
    (λ m. omega (arith, in-event n (began (entry x)) es (λ y i. other y (λ e. omega arith)), ap one-if (eq-eqb n x (omega arith))))
    (below-or-from x n)
  where
    other : (y : ℕ) → (y ≡ x → ⊥) → one-if (eqb y x) ≡ 0
    other y h = ap one-if (ne_eqb y x h)

in-none : (n : ℕ) → entries_in n [] ≡ 0
unfolding entries_in counted
in-none zero = refl
in-none (suc n) = omega (arith, in-none n)

pub events-add-up : EventsAddUp
unfolding Entered counted begins is_entry any_pattern is_pair
events-add-up n [] i = omega (arith, in-none n)
events-add-up n (began (entry x) ∷ es) i = omega (arith, in_entry n x es i.0, events-add-up n es i.1)
events-add-up n (began (pattern p) ∷ es) i = omega (arith, in-event n (began (pattern p)) es (λ x l. refl), events-add-up n es i)
events-add-up n (began pair ∷ es) i = omega (arith, in-event n (began pair) es (λ x l. refl), events-add-up n es i)
events-add-up n (ended w t ∷ es) i = omega (arith, in-event n (ended w t) es (λ x l. refl), events-add-up n es i)

-- ---- the same over a trace

pub entries-noted : EntriesNoted
unfolding entries_below entries_in counted
entries-noted zero p t = refl
entries-noted (suc n) p t = omega (arith, entries-noted n p t, (history-counts (is_entry n) t (p, [])).0)

pub count-all : CountAll
unfolding count visits
count-all over = refl
count-all (missed q) = refl
count-all (node t) = count-all t
count-all (visit w f s t) = omega (arith, count-all s, count-all t)

-- entries below n are noted as such
shut-entered : (n : ℕ) (w : What) (f : Fate) (m : ℕ × List Event) → Entered n m.1 → Entered n (shut history w f m).1
unfolding shut Entered
shut-entered n w stays m e = e
shut-entered n w goes m e = e
shut-entered n w fails m e = e
shut-entered n w in-flight m e = e

pub entered : (n : ℕ) (t : Trace) (m : ℕ × List Event) → Inside n t → Entered n m.1 → Entered n (noted history t m).1
unfolding Inside Entered noted
entered n over m i e = e
entered n (missed q) m i e = e
entered n (node t) m i e = entered n t m i e
entered n (visit (entry x) f s t) m i e = entered n t _ i.2 (shut-entered n (entry x) f _ (entered n s _ i.1 (i.0, e)))
entered n (visit (pattern p) f s t) m i e = entered n t _ i.1 (shut-entered n (pattern p) f _ (entered n s _ i.0 e))
entered n (visit pair f s t) m i e = entered n t _ i.1 (shut-entered n pair f _ (entered n s _ i.0 e))

pub visits-make-units : VisitsMakeUnits
unfolding Entered counted
visits-make-units n t i = omega (
  arith,
  entries-noted n 0 t,
  events-add-up n (noted history t (0, [])).1 (entered n t (0, []) i tt),
  (history-counts any_pattern t (0, [])).0,
  (history-counts is_pair t (0, [])).0,
  (history-counts (λ w. true) t (0, [])).0,
  count-all t,
)
