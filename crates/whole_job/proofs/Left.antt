-- What a run leaves of a job can be written and read: good nodes below the mark, zeros after them, and bindings to nodes
-- below the mark. Assumes nothing.
use mathlib.Core.Path.{◌≡◌, refl, ap, sym, ◌∙◌}
use mathlib.Core.Bool.{Bool, true, false, true≢false}
use mathlib.Core.List.{List}
use mathlib.Core.Logic.{◌≢◌, ⊎_elim}
use mathlib.Core.Option.{Option, none, some}
use Prim.Native.Nat.{ℕ, zero, suc, ◌+◌, ◌*◌, ◌/◌, ◌%◌, ◌≤◌, ◌<◌}
use native.Mathlib.Omega.{arith}
use lib.Dec.{eqb}
use lib.ListN.{length, get_or, get_or-eq_default}
use borrow.Author.Tests.{le-leb, lt-leb, ne_eqb}
use Rattle.checks.specs.Kinds.{variables}
use Rattle.words.specs.Words.{word_at, rows, cleared_from}
use Rattle.words.proofs.Tests.{below-or-from}
use Rattle.words.proofs.Rows.{length-cleared_from, take-cleared_from, get_or-cleared_from-from}
use Rattle.checks.specs.Kinds.{ours}
use Rattle.checks.specs.Checked.{Checked}
use Rattle.checks.specs.Good.{child_count}
use Rattle.checks.specs.Checked.{checked}
use Rattle.meaning.specs.Bindings.{Bindings}
use Rattle.meaning.specs.Limits.{ended, lost, cut}
use Rattle.meaning.specs.Derivation.{places, nowhere}
use Rattle.meaning.specs.Store.{Input, Accepted, Kept, Leaves, ran, Ran}
use Rattle.meaning.specs.Answer.{binding_word, binding_words, returned, returned_by}
use Rattle.meaning.proofs.Checked.{Node, Filled, node-of-good, store-filled}
use Rattle.meaning.proofs.Words.{kept-filled}
use Rattle.meaning.proofs.Demands.{over-the-words}
use Rattle.calls.specs.Refused.{refused}
use Rattle.calls.specs.Run.{run_with_by, run_of}
use Rattle.calls.specs.Outcome.{Outcome as Five}
use Rattle.calls.proofs.Accepting.{accepted-answer, accepted-back}
use Rattle.calls.proofs.Words.{length-words, word-of}
use Rattle.calls.specs.Promises.{Refusal, of-sizes, of_entry, of_node, of-start}
use Rattle.calls.proofs.Promises.{refuses, never-three}
use Rattle.job.specs.Answer.{shown}
use Rattle.job.specs.Promises.{Plain, Left}
use Rattle.whole_job.proofs.Answering.{returned-mark}

-- ---- an answer that shows what is left is that of a run

-- A refusal shows nothing.
refusal-alone : (a : ℕ) → Refusal a → shown a ≡ false
unfolding shown
refusal-alone a of-sizes = refl
refusal-alone a (of_entry n l m) = rw (lt-leb n 1 (omega arith), le-leb 6 n (omega arith), lt-leb n 8 (omega arith), ne_eqb n 12 (λ e. omega arith))
refusal-alone a of_node = refl
refusal-alone a of-start = refl

module _ (i : Input) where
  abbrev verdict : Checked
  verdict = refused i.table i.store i.bindings i.mark i.start i.subject

  -- the five numbers that come back
  abbrev five : Five
  five = record {
    answer = (run_of i).answer;
    place = (run_of i).place;
    subject = (run_of i).subject;
    mark = (run_of i).mark;
    units = (run_of i).units;
  }

  not-refused : Accepted i → verdict ≡ checked 0 0
  not-refused = accepted-back ours i.table i.store i.bindings i.mark i.start i.subject i.units

  pub accepted-shown : shown (run_of i).answer ≡ true → Accepted i
  accepted-shown h = go (eqb verdict.answer 0) refl
    where
      go : (b : Bool) → eqb verdict.answer 0 ≡ b → Accepted i
      go true e = accepted-answer ours i.table i.store i.bindings i.mark i.start i.subject i.units e
      go false e =
          let n : Accepted i → ⊥ = λ a. true≢false (sym (ap (λ (c : Checked). eqb c.answer 0) (not-refused a)) ∙ e) in
          let p = (refuses ours i five (run_of i).store (run_of i).bindings refl).1 n in
          absurd (true≢false (sym h ∙ refusal-alone (run_of i).answer p))

  pub run-not-three : (run_of i).answer ≢ 3
  run-not-three = (never-three ours).run i five (run_of i).store (run_of i).bindings refl

  pub run-shown : Accepted i → run_of i ≡ returned i (ran places nowhere i)
  unfolding run_with_by
  run-shown a = rw (not-refused a)

-- ---- the nodes

-- Zeros from the mark on leave the nodes below it.
cleared-kept : (w : List ℕ) (m : ℕ) → Kept w m (cleared_from w (8 * m))
cleared-kept w m = record { long = length-cleared_from w (8 * m); same = take-cleared_from w (8 * m) (8 * m) (omega arith) }

filled-returned : (i : Input) (r : Ran ℕ) → Filled i.store i.mark → Leaves i.store i.mark r
    → Filled (returned i r).store (returned i r).mark
unfolding returned_by
filled-returned i (ended k b s u) f l =
    kept-filled (cleared-kept s.words s.mark)
    (record { fits = l.2.fits; node = λ j h. node-of-good s.words j (l.2.good j h) })
filled-returned i (lost w u) f l = kept-filled (cleared-kept w.words i.mark) (kept-filled l f)
filled-returned i (cut c w u) f l = kept-filled (cleared-kept w.words i.mark) (kept-filled l f)

zeros-returned : (i : Input) (r : Ran ℕ) (n : ℕ) → 8 * (returned i r).mark ≤ n → get_or (returned i r).store n 0 ≡ 0
unfolding returned_by
zeros-returned i (ended k b s u) n l = get_or-cleared_from-from s.words (8 * s.mark) n l
zeros-returned i (lost w u) n l = get_or-cleared_from-from w.words (8 * i.mark) n l
zeros-returned i (cut c w u) n l = get_or-cleared_from-from w.words (8 * i.mark) n l

-- No word of a good node is above the limit of a number.
child-most : {w : List ℕ} {k : ℕ} → Node w k → k ≤ 1024 → (i : ℕ) → i < 6 → word_at w k (2 + i) ≤ 4294967295
child-most {w} {k} n l i h =
    ⊎_elim (λ p. omega (arith, n.below i p)) (λ p. omega (arith, n.zeros i p h)) (below-or-from i (child_count w k))

row_word : {w : List ℕ} {k : ℕ} → Node w k → k ≤ 1024 → (j : ℕ) → j < 8 → word_at w k j ≤ 4294967295
row_word n l zero h = omega (arith, n.holdable.constructor)
row_word n l (suc zero) h = omega (arith, n.holdable.count)
row_word n l (suc (suc i)) h =
    let e : suc (suc i) ≡ 2 + i = omega arith in
    rw e (child-most n l i (omega arith))

module _ (w : List ℕ) (m : ℕ) (f : Filled w m) (z : (n : ℕ) → 8 * m ≤ n → get_or w n 0 ≡ 0) (l : m ≤ 1024) where
  word-most : (n : ℕ) → get_or w n 0 ≤ 4294967295
  word-most n =
      ⊎_elim
      (λ h.
      let e : 8 * (n / 8) + n % 8 ≡ n = omega arith in
      rw e at (row_word (f.node (n / 8) (omega arith)) (omega arith) (n % 8) (omega arith)))
      (λ h. omega (arith, z n h))
      (below-or-from n (8 * m))

  plain : (k : ℕ) → k < m → Plain w k
  plain k h = record {
    count = (f.node k h).holdable.count;
    unused = (f.node k h).zeros;
    words = λ j. word-most (8 * k + j);
  }

-- ---- the bindings

word_below : (o : Option ℕ) (m : ℕ) → ((j : ℕ) → o ≡ some j → j < m) → binding_word o ≤ m
unfolding binding_word
word_below none m h = omega arith
word_below (some j) m h = h j refl

words-below : (b : Bindings ℕ) (m : ℕ) → ((v j : ℕ) → b v ≡ some j → j < m) → (v : ℕ) → get_or (binding_words variables b) v 0 ≤ m
words-below b m h v =
    ⊎_elim (λ l. omega (arith, word-of variables b v l, word_below (b v) m (h v)))
    (λ l. omega (arith, get_or-eq_default (binding_words variables b) 0 {n = v} (omega (arith, length-words variables b))))
    (below-or-from v variables)

module _ (i : Input) (a : Accepted i) where
  bound-returned : (r : Ran ℕ) → Leaves i.store i.mark r → (v : ℕ) → get_or (returned i r).bindings v 0 ≤ (returned i r).mark
  unfolding returned_by
  bound-returned (ended k b s u) l v = words-below b s.mark l.2.bound v
  bound-returned (lost w u) l v = a.bound v
  bound-returned (cut c w u) l v = a.bound v

  variables-returned : (r : Ran ℕ) → length (returned i r).bindings ≡ variables
  unfolding returned_by
  variables-returned (ended k b s u) = length-words variables b
  variables-returned (lost w u) = a.bindings
  variables-returned (cut c w u) = a.bindings

  -- What a run leaves, where the mark and the room are at most 1,024.
  pub left : i.mark ≤ 1024 → rows i.store ≤ 1024 → Left (run_of i).store (run_of i).bindings (run_of i).mark
  left p q =
      let l : Leaves i.store i.mark (ran places nowhere i) = (over-the-words ours ℕ places nowhere i a).1 in
      let f : Filled _ _ = filled-returned i (ran places nowhere i) (store-filled i.store i.mark a.store) l in
      let m : (returned i (ran places nowhere i)).mark ≤ 1024 = returned-mark i 1024 p q (ran places nowhere i) l in
      rw (run-shown i a)
      (record {
        inside = omega (arith, f.fits);
        most = m;
        nodes = plain (returned i (ran places nowhere i)).store (returned i (ran places nowhere i)).mark f (zeros-returned i (ran places nowhere i)) m;
        variables = variables-returned (ran places nowhere i);
        bound = λ v. omega (arith, bound-returned (ran places nowhere i) l v);
      })
