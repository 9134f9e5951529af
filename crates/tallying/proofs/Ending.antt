-- What the counts are where a counted run has stopped: those given, and what happened to visits. Assumes nothing.
use Rattle.std.proofs.Common.{◌≡◌, ℕ, zero, suc, ◌+◌, ◌*◌, ◌/◌, ◌%◌, ◌<◌, ◌≤◌, Bool, eqb, List, [], ◌∷◌, length, get_or, sym, refl, ap, ◌∙◌, subst, arith, ext_get_or, if◌then◌else◌}
use Rattle.meaning.specs.Derivation.{What, Event, ended}
use Rattle.meaning.specs.Tallies.{is_entry, counted, begins}
use Rattle.machine.specs.declared.Machine.{Machine}
use Rattle.machine.specs.Stack.{first_of, others_of}
use Rattle.tallying.specs.declared.Seen.{Seen}
use Rattle.tallying.specs.Counts.{bumped, flown, rest_counted, Balanced, Counts, Room}
use Rattle.tallying.specs.Added.{added, tallied}
use Rattle.tallying.specs.Tally.{CountedOn}
use Rattle.tallying.proofs.Counting.{rest-asked, rest_ended, rest-cut}
use Rattle.tallying.proofs.Tallying.{balanced-ended, counts-ended, counts-flown}
use Rattle.tallying.proofs.Onward.{few-ended, first-kept, others-length}

-- ---- the words

pub length-tallied : (log : List Event) (j : ℕ) (cs : List ℕ) → length (tallied log j cs) ≡ length cs
unfolding tallied
length-tallied log j [] = refl
length-tallied log j (c ∷ cs) = ap suc (length-tallied log (suc j) cs)

pub get_or-tallied : (log : List Event) (j : ℕ) (cs : List ℕ) (k : ℕ) → k < length cs
    → get_or (tallied log j cs) k 0 ≡ get_or cs k 0 + added log ((j + k) / 4) ((j + k) % 4)
unfolding tallied
get_or-tallied log j [] k l = absurd (omega arith)
get_or-tallied log j (c ∷ cs) zero l =
    let e : j ≡ j + 0 = omega arith in
    ap (λ (j : ℕ). c + added log (j / 4) (j % 4)) e
get_or-tallied log j (c ∷ cs) (suc k) l =
    let e : suc j + k ≡ j + suc k = omega arith in
    get_or-tallied log (suc j) cs k (omega arith) ∙ ap (λ (j : ℕ). get_or cs k 0 + added log (j / 4) (j % 4)) e

module _ {given cs : List ℕ} {log : List Event} {es : List What} (c : Counts given cs log es) (b : Balanced log es) where
  -- each of an entry's four
  entry-word : (x d : ℕ) → d < 4 → 4 * x + 3 < length given → get_or cs (4 * x + d) 0 ≡ get_or given (4 * x + d) 0 + added log x d
  unfolding added
  entry-word x zero l h = let e : 4 * x ≡ 4 * x + 0 = omega arith in
      subst (λ (k : ℕ). get_or cs k 0 ≡ get_or given k 0 + counted (begins (is_entry x)) log) e (c.visits x h)
  entry-word x (suc zero) l h = c.won x h
  entry-word x (suc (suc zero)) l h = c.lost x h
  entry-word x (suc (suc (suc zero))) l h = c.flying x h ∙ omega (arith, b (is_entry x))
  entry-word x (suc (suc (suc (suc d)))) l h = absurd (omega arith)

  pub counts-tallied : (n : ℕ) → length given ≡ 4 * n → cs ≡ tallied log 0 given
  counts-tallied n e = ext_get_or 0 cs (tallied log 0 given) (c.long ∙ sym (length-tallied log 0 given)) (λ j l. at j (omega (arith, c.long)))
    where
      at : (j : ℕ) → j < length given → get_or cs j 0 ≡ get_or (tallied log 0 given) j 0
      at j l =
          let z : 4 * (j / 4) + j % 4 ≡ j = omega arith in
          let y : j ≡ 0 + j = omega arith in
          subst (λ (k : ℕ). get_or cs k 0 ≡ get_or given k 0 + added log (j / 4) (j % 4)) z (entry-word (j / 4) (j % 4) (omega arith) (omega arith))
          ∙ ap (λ (k : ℕ). get_or given j 0 + added log (k / 4) (k % 4)) y ∙ sym (get_or-tallied log 0 given j l)

-- ---- where the machine has stopped

module _ {sh : Bool} {t w₀ k₀ given : List ℕ} {a m : Machine} {s : Seen} {w k kept cs : List ℕ} (room : Room given) (most : a.fuel < 4294967296)
    (so : CountedOn sh t w₀ k₀ given a m s w k kept cs) (n : ℕ) (four : length given ≡ 4 * n) where
  flown-tallied : (d : ℕ) → length so.es ≡ d → d ≤ 4096 → flown kept cs d ≡ tallied so.log 0 given
  flown-tallied d e l =
      ap (λ (d : ℕ). flown kept cs d) (sym e)
      ∙ counts-tallied (counts-flown room so.counts so.es kept (omega (arith, e)) so.levels) so.balanced n four

  -- a visit is cut off before it begins, or the last one to begin is
  pub asked-tallied : m.mode < 4 → rest_counted kept cs m ≡ tallied so.log 0 given
  asked-tallied h = sym (rest-asked kept cs m h) ∙ flown-tallied m.level (so.asked h) so.level

  pub cut-tallied : 6 ≤ m.mode → rest_counted kept cs m ≡ tallied so.log 0 given
  cut-tallied h =
      let l = so.low (omega arith) in
      sym (rest-cut kept cs m h) ∙ flown-tallied (m.level + 1) (so.told (omega arith) ∙ omega arith) (omega arith)

  -- the root has ended
  pub root-tallied : 3 < m.mode → m.mode < 6 → m.level ≡ 0
      → rest_counted kept cs m ≡ tallied (ended (first_of so.es) (eqb m.mode 4) ∷ so.log) 0 given
  root-tallied h g z =
      sym (rest_ended kept cs m (omega arith) g)
      ∙ ap (λ (v : ℕ). bumped cs v (if eqb m.mode 4 then 1 else 2)) (first-kept room most so h)
      ∙ counts-tallied
      (counts-ended room so.counts (first_of so.es) (eqb m.mode 4) (few-ended room most so h))
      (subst (Balanced (ended (first_of so.es) (eqb m.mode 4) ∷ so.log)) (none_left (others_of so.es) left)
      (balanced-ended so.log so.es so.balanced (eqb m.mode 4) (omega (arith, so.told h))))
      n four
    where
      left : length (others_of so.es) ≡ 0
      left = omega (arith, others-length so.es, so.told h)

      none_left : (es : List What) → length es ≡ 0 → es ≡ []
      none_left [] e = refl
      none_left (e ∷ es) z = absurd (omega arith)
