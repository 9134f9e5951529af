-- The loop of `apply`: one turn is one visit, whose last operand the next turn visits one deeper.
use mathlib.Core.Path.{◌≡◌, refl, ap, sym, ◌∙◌, subst}
use mathlib.Core.List.{List}
use mathlib.Core.Logic.{◌⊎◌, inl, inr, ⊎_elim}
use Prim.Native.Nat.{ℕ, ◌+◌, ◌-◌, ◌<◌, ◌≤◌, min}
use native.Mathlib.Omega.{arith}
use native.Mathlib.Nat.{eq-or-lt_of_le}
use lib.ListN.{length}
use Rattle.words.specs.Words.{word_at}
use Rattle.checks.specs.Good.{kind_of}
use Rattle.meaning.specs.Rules.{apply}
use Rattle.meaning.specs.Limits.{lost, at}
use Rattle.state.specs.Noted.{left_of}
use Rattle.state.specs.declared.answers.Answer.{Answer}
use Rattle.state.specs.declared.answers.Answer.TheVariants.{Done, Failed}
use Rattle.state.specs.Answers.{packed, node_in, units_in, units_word, nesting_word, failed_word, answer_of}
use Rattle.state.specs.Record.{record_long, mark_of, notes_of, standing, missing, held, back, Framed}
use Rattle.state.specs.Visits.{visit, ruled, count_of, Gives}
use Rattle.cycle.specs.Cycle.{Ready, Last, VisitsToFailure}
use Rattle.state.proofs.AnswerWords.{answer-failed, out-failed, node-packed, units-packed, done-node, failed-few}
use Rattle.state.proofs.Asking.{Tagged}
use Rattle.leaves.proofs.Kind.{applied}
use Rattle.leaves.proofs.Keeping.{LeavesFitting, steady-missing, apply-leaves, steady_kept, steady-after, leaves-done, leaves-failed, node-small}
use Rattle.index.specs.Run.{noting}
use Rattle.leaves.proofs.Patterns.{operand_below}
use Rattle.state.proofs.Holding.{further, held_back, mark-back, notes-back, length_back, held-missing, mark-missing, notes-missing, framed-missing, framed-back, framed-refl, framed-trans}
use Rattle.leaves.proofs.Limited.{units-out, nesting-out}
use Rattle.cycle.proofs.Ruling.{ready-operand, ruled-rec, ruled-call}
use Rattle.cycle.proofs.Returning.{gives-itself}
use Rattle.cycle.proofs.Operators.{seq_stops, seq-goes-on, left-stops, left-goes-on}

-- what a turn of the loop has: the rest of the visits is the whole
pub record Turn (t w₀ st₀ : List ℕ) (start given deep : ℕ) (w st : List ℕ) (e s d : ℕ) : Type 0 where
  pub deeper : d ≤ deep
  pub long : length w ≡ length w₀
  pub ready : Ready t w st e s
  pub frame : Framed st₀ st
  pub wide : length st ≡ length st₀
  pub word : s < 18446744073709551616
  pub rest : visit t d (apply e (node_in s) (held st)) w (standing st) (units_in s) ≡ visit t deep (apply start (node_in given) (held st₀)) w₀ (standing st₀) (units_in given)

-- one unit less is the same node
pub same-node : (s : ℕ) → (units_in s ≡ 0 → ⊥) → node_in (s - 1) ≡ node_in s
same-node s h = omega arith

pub one_less : (s : ℕ) → (units_in s ≡ 0 → ⊥) → units_in (s - 1) ≡ units_in s - 1
one_less s h = omega arith

-- so are n units less, where there are so many
same-node-by : (s n : ℕ) → n ≤ units_in s → node_in (s - n) ≡ node_in s
same-node-by s n h = omega arith

less_by : (s n : ℕ) → n ≤ units_in s → units_in (s - n) ≡ units_in s - n
less_by s n h = omega arith

few-by : (s n : ℕ) → units_in s - n < 4294967296
few-by s n = omega arith

fewer : (s n : ℕ) → s < 18446744073709551616 → s - 1 - n < 18446744073709551616
fewer s n h = omega arith

pred-le : (d e : ℕ) → d ≤ e → d - 1 ≤ e
pred-le d e h = omega arith

-- what is at most the lesser of two is at most each
under : (n i j : ℕ) → n ≤ min i j → (n ≤ i) × (n ≤ j)
under n i j h = (omega arith, omega arith)

-- a word of a node in a store fits
pub packed-small : (x u : ℕ) → x < 131072 → u < 4294967296 → packed x u < 18446744073709551616
packed-small x u h l = omega arith

-- a kind that is one of two others is no SCOPE's
pub no-scope : {k i j : ℕ} → (k ≡ i) ⊎ (k ≡ j) → i < 16 → j < 16 → k ≡ 16 → ⊥
no-scope h l m z = ⊎_elim (λ e. omega arith) (λ e. omega arith) h

module _ {t w₀ st₀ : List ℕ} {start given deep : ℕ} {w st : List ℕ} {e s d : ℕ} (turn : Turn t w₀ st₀ start given deep w st e s d)
    (units : units_in s ≡ 0 → ⊥) (nested : d ≡ 0 → ⊥) where
  -- the visit is counted, and its rule gives the whole
  pub counts : ruled t (d - 1) e (node_in (s - 1)) (held st) w (standing st) (units_in (s - 1)) ≡ visit t deep (apply start (node_in given) (held st₀)) w₀ (standing st₀) (units_in given)
  counts = rw (same-node s units, one_less s units) (sym (applied t d e (node_in s) (held st) w (standing st) (units_in s) units nested) ∙ turn.rest)

  pub ready-next : (kind_of t e ≡ 16 → ⊥) → (i x : ℕ) → i < 6 → x ≡ word_at t e (2 + i) → Ready t w st x (s - 1)
  ready-next other i x l q = ready-operand turn.ready other i x (s - 1) l q (rw (same-node s units) turn.ready.subject)

  pub ready-same : Ready t w st e (s - 1)
  ready-same =
      record {
        entries = turn.ready.entries;
        hints = turn.ready.hints;
        long = turn.ready.long;
        inside = turn.ready.inside;
        steady =
            turn.ready.steady;
        subject = rw (same-node s units) turn.ready.subject;
      }

  -- REC and CALL
  pub rec-turn : (x : ℕ) → x ≡ word_at t e 2 → (kind_of t e ≡ 7) ⊎ (kind_of t e ≡ 8) → Turn t w₀ st₀ start given deep w st x (s - 1) (d - 1)
  rec-turn x q k = record {
    deeper = omega (arith, turn.deeper);
    long = turn.long;
    ready = ready-next (no-scope k (omega arith) (omega arith)) 0 x (omega arith) q;
    frame = turn.frame;
    wide = turn.wide;
    word = omega (arith, turn.word);
    rest = ⊎_elim (λ h. sym (ruled-rec t (d - 1) e _ _ w _ _ x q h)) (λ h. sym (ruled-call t (d - 1) e _ _ w _ _ x q h)) k ∙ counts;
  }

  -- what returns here returns for the whole
  pub whole : {r : ℕ} {st' w' : List ℕ} → Gives (ruled t (d - 1) e (node_in (s - 1)) (held st) w (standing st) (units_in (s - 1))) st r st' w'
      → Gives (visit t deep (apply start (node_in given) (held st₀)) w₀ (standing st₀) (units_in given)) st₀ r st' w'
  whole {st' = st'} g = record { is = g.is ∙ counts; frame = framed-trans further st₀ st st' turn.frame g.frame }

  -- ALL of a term without children
  pub all-itself : kind_of t e ≡ 11 → count_of w (node_in s) ≡ 0
      → Gives (visit t deep (apply start (node_in given) (held st₀)) w₀ (standing st₀) (units_in given)) st₀ (s - 1) st w
  all-itself h z = whole (gives-itself (d - 1) ready-same h (ap (count_of w) (same-node s units) ∙ z))

  -- the first operand of SEQ, CHOICE or LEFT ran
  module _ {x got : ℕ} {st' w' : List ℕ} (xe : x ≡ word_at t e 2)
      (gives : Gives (visit t (d - 1) (apply x (node_in (s - 1)) (held st)) w (standing st) (units_in (s - 1))) st got st' w') {a : Answer} (read : a ≡ answer_of got) where
    abbrev Whole : Type 0
    Whole = Gives (visit t deep (apply start (node_in given) (held st₀)) w₀ (standing st₀) (units_in given)) st₀ got st' w'

    inside : node_in (s - 1) < mark_of st
    inside = ready-same.subject

    leaves : LeavesFitting w (standing st) (visit t (d - 1) (apply x (node_in (s - 1)) (held st)) w (standing st) (units_in (s - 1)))
    leaves = apply-leaves turn.ready.steady t turn.ready.entries (d - 1) x (node_in (s - 1)) (units_in (s - 1)) inside

    long' : length st' ≡ record_long
    long' = gives.frame.long ∙ turn.ready.long

    pub seq-returns : {y : ℕ} → y ≡ word_at t e 3 → kind_of t e ≡ 4 → Tagged a 1 2 → Whole
    seq-returns {y} ye h g = whole (record { is = seq_stops t (d - 1) e (s - 1) st w x got st' w' xe gives.is a read y ye h g; frame = gives.frame })

    pub seq-turn : {y z v : ℕ} → y ≡ word_at t e 3 → kind_of t e ≡ 4 → a ≡ Done z v → length w' ≡ length w → Turn t w₀ st₀ start given deep w' st' y got (d - 1)
    seq-turn {y} {z} {v} ye h q l =
        let n = done-node got z v (sym read ∙ q) in
        let lv = leaves-done w (standing st) _ leaves got st' w' gives.is a read z v q in
        record {
          deeper = omega (arith, turn.deeper);
          long = l ∙ turn.long;
          ready = record {
            entries = turn.ready.entries;
            hints = turn.ready.hints;
            long = long';
            inside = rw ye (operand_below t turn.ready.entries e 1 turn.ready.inside (λ z. omega (arith, h, z)) (omega arith));
            steady = steady-after turn.ready.steady w' (standing st') z v (held st') lv;
            subject = subst (λ k. k < mark_of st') n.0 lv.0.2.subject;
          };
          frame = framed-trans further st₀ st st' turn.frame gives.frame;
          wide = gives.frame.long ∙ turn.wide;
          word = omega (arith, n.0, node-small (steady-after turn.ready.steady w' (standing st') z v (held st') lv) z lv.0.2.subject);
          rest = sym (λ i. visit t (d - 1) (apply y (n.0 i) (held st')) w' (standing st') (n.1 i)) ∙ seq-goes-on t (d - 1) e (s - 1) st w x got st' w' xe gives.is a read y ye h z v q ∙ counts;
        }

    module _ (h : (kind_of t e ≡ 5) ⊎ (kind_of t e ≡ 6)) where
      pub left-returns : {y : ℕ} → y ≡ word_at t e 3 → Tagged a 0 2 → Whole
      left-returns {y} ye g = whole (record { is = left-stops t (d - 1) e (s - 1) st w x got st' w' xe gives.is a read y ye h g; frame = gives.frame })

      pub left-turn : {y v r : ℕ} → y ≡ word_at t e 3 → a ≡ Failed v → r ≡ packed (node_in (s - 1)) v → length w' ≡ length w → Turn t w₀ st₀ start given deep w' (back st st') y r (d - 1)
      left-turn {y} {v} {r} ye q p l =
          let few = failed-few got v a read q in
          let held-as = held_back further st st' long' gives.frame in
          let mark-as = mark-back further st st' long' in
          let miss-as = notes-back further st st' long' in
          let (kept, fits) = leaves-failed w (standing st) _ leaves got st' w' gives.is a read v q in
          let tiny = node-small turn.ready.steady (node_in (s - 1)) inside in
          let node-as : node_in r ≡ node_in (s - 1) = ap node_in p ∙ node-packed (node_in (s - 1)) v few in
          let units-as : units_in r ≡ v = ap units_in p ∙ units-packed (node_in (s - 1)) v few in
          record {
            deeper = omega (arith, turn.deeper);
            long = l ∙ turn.long;
            ready = record {
              entries = turn.ready.entries;
              hints = turn.ready.hints;
              long = length_back further st st' long';
              inside = rw ye (operand_below t turn.ready.entries e 1 turn.ready.inside (no-scope h (omega arith) (omega arith)) (omega arith));
              steady = rw (mark-as, miss-as, held-as) (steady_kept turn.ready.steady (standing st') kept fits);
              subject = rw (node-as, mark-as) inside;
            };
            frame = framed-trans further st₀ st (back st st') turn.frame (framed-back further st st' long' gives.frame);
            wide = length_back further st st' long' ∙ sym turn.ready.long ∙ turn.wide;
            word = rw p (packed-small (node_in (s - 1)) v tiny few);
            rest = rw (node-as, units-as, held-as, mark-as, miss-as) (left-goes-on t (d - 1) e (s - 1) st w x got st' w' xe gives.is a read y ye h v q ∙ counts);
          }

  -- the first operand of CHOICE or LEFT fails after n visits, which are counted and not made; where it gives up is noted
  pub skip-turn : {x y p n : ℕ} → x ≡ word_at t e 2 → VisitsToFailure t w x (node_in (s - 1)) (word_at t e 4) (min (d - 1) (units_in (s - 1))) n
      → (kind_of t e ≡ 5) ⊎ (kind_of t e ≡ 6) → p ≡ word_at t e 4 → y ≡ word_at t e 3
      → Turn t w₀ st₀ start given deep w (missing st p) y (s - 1 - n) (d - 1)
  skip-turn {x} {y} {p} {n} xe skips h pe ye =
      let enough = under n (d - 1) (units_in (s - 1)) skips.few in
      let v : ℕ = units_in (s - 1) - n in
      let few = few-by (s - 1) n in
      let node-as = same-node-by (s - 1) n enough.1 in
      let units-as = less_by (s - 1) n enough.1 in
      let fails = skips.fails.is (held st) (standing st) (d - 1) (units_in (s - 1)) enough.0 enough.1 in
      let noted : notes_of (missing st p) ≡ noting (notes_of st) (word_at t e 4) = notes-missing further st p turn.ready.long ∙ ap (noting (notes_of st)) pe in
      let frame = framed-missing further st p in
      record {
        deeper = pred-le d deep turn.deeper;
        long = turn.long;
        ready = record {
          entries = turn.ready.entries;
          hints = turn.ready.hints;
          long = frame.long ∙ turn.ready.long;
          inside = rw ye (operand_below t turn.ready.entries e 1 turn.ready.inside (no-scope h (omega arith) (omega arith)) (omega arith));
          steady = rw (held-missing further st p) (steady-missing st p turn.ready.steady);
          subject = rw (node-as, mark-missing further st p) ready-same.subject;
        };
        frame = framed-trans further st₀ st (missing st p) turn.frame frame;
        wide = frame.long ∙ turn.wide;
        word = fewer s n turn.word;
        rest =
            rw (node-as, units-as, held-missing further st p, mark-missing further st p)
            (left-goes-on t (d - 1) e (s - 1) st w x (failed_word v) (missing st p) w xe
            (out-failed (missing st p) w v few ∙ ap (λ z. lost (left_of w (at (mark_of st) z)) v) noted ∙ sym fails) (Failed v)
            (sym (answer-failed v few)) y ye h v refl ∙ counts);
      }

-- the loop begins
pub first-turn : {t w st : List ℕ} {e s : ℕ} (d : ℕ) → Ready t w st e s → s < 18446744073709551616 → Turn t w st e s d w st e s d
first-turn {st = st} d r f = record { deeper = omega arith; long = refl; ready = r; frame = framed-refl further st; wide = refl; word = f; rest = refl }

-- a limit met before a visit
module _ {t w₀ st₀ : List ℕ} {start given deep : ℕ} {w st : List ℕ} {e s d : ℕ} (turn : Turn t w₀ st₀ start given deep w st e s d) (r : ℕ) where
  abbrev Ends : Type 0
  Ends = Gives (visit t deep (apply start (node_in given) (held st₀)) w₀ (standing st₀) (units_in given)) st₀ r st w

  pub ends-units : r ≡ units_word → units_in s ≡ 0 → Ends
  ends-units p q = record { is = units-out t d _ w (units_in s) r st p q ∙ turn.rest; frame = turn.frame }

  pub ends-nesting : r ≡ nesting_word (units_in s) → (units_in s ≡ 0 → ⊥) → d ≡ 0 → Ends
  ends-nesting p q z = record { is = nesting-out t d _ w (units_in s) r st p (omega arith) q z ∙ turn.rest; frame = turn.frame }

-- a number of two
pub of_two : (k r i : ℕ) → r ≡ k → i ≤ r → r < i + 2 → (k ≡ i) ⊎ (k ≡ i + 1)
of_two k r i e h l = ⊎_elim (λ q. inl (sym e ∙ sym q)) (λ q. inr (omega arith)) (eq-or-lt_of_le h)

-- a kind that is in no arm of the loop
pub last-kind : (k r : ℕ) → r ≡ k → (r ≡ 4 → ⊥) → (r ≡ 10 → ⊥) → (r ≡ 12 → ⊥) → (r < 4) ⊎ (9 ≤ r) → Last k
last-kind k r e n c o h = record { not-seq = λ q. n (e ∙ q); outside = ⊎_elim (λ l. inl (omega arith)) (λ l. inr (omega arith)) h; not-cong = λ q. c (e ∙ q); not-one = λ q. o (e ∙ q) }

-- what is not zero is above it
pub pos : (n : ℕ) → (n ≡ 0 → ⊥) → 0 < n
pos n h = omega arith

-- a kind is one number
pub two-kinds : {k r i j : ℕ} → r ≡ k → r ≡ i → k ≡ j → j < i → ⊥
two-kinds e f g l = omega arith
