-- Hints: how the loader finds them, and what they tell of the visits of a run.
use mathlib.Core.Path.{◌≡◌, refl, ap, sym, ◌∙◌, subst}
use mathlib.Core.Bool.{false}
use mathlib.Core.Logic.{◌⊎◌, ⊎_elim, inl, inr}
use mathlib.Core.List.{List}
use Prim.Native.Nat.{ℕ, ◌+◌, ◌-◌, ◌≤◌, ◌<◌}
use native.Mathlib.Omega.{arith}
use Rattle.words.specs.Words.{word_at}
use Rattle.words.proofs.Tests.{below-or-from}
use Rattle.checks.specs.Kinds.{ours, lines, line_of, kind}
use Rattle.checks.specs.Good.{kind_of}
use Rattle.checks.specs.Checked.{checked, table_checked}
use Rattle.meaning.specs.Rules.{apply}
use Rattle.state.specs.Visits.{visit, agreeing}
use Rattle.cycle.specs.Cycle.{VisitsToFailure, Leads, Heads, Hinted}
use Rattle.leaves.proofs.Kind.{applied, no-units}
use Rattle.cycle.proofs.Ruling.{ruled-rec, ruled-call}
use Rattle.cycle.proofs.Failing.{match-fails, seq-fails, scope-fails}
use Rattle.loading.specs.Loaded.{HasHead, MATCH, SEQ, SCOPE, Calls, Hints, given, choice, all, HeadFound, Loaded}
use Rattle.loading.proofs.Fetching.{word_same, kind-same, kind-of-first, entries-loaded, five-unused, facts-second, facts-scope}

-- ---- in the given table

-- an entry by its other name
elsewhere : {t : List ℕ} {p x y n : ℕ} → x ≡ y → HasHead t p x n → HasHead t p y n
elsewhere {t} {p} {n = n} e b = subst (λ (x : ℕ). HasHead t p x n) e b

module _ {t : List ℕ} {q : ℕ} where
  pub found-match : {p : ℕ} → kind_of t q ≡ 14 → p ≡ word_at t q 2 → kind_of t p ≡ 19 → HeadFound t q 2 p 2
  found-match h e g = record { few = omega arith; head = MATCH q h e g }

  -- the operand x so begins
  module _ {x most p n : ℕ} (e : x ≡ word_at t q 2) (b : HeadFound t x most p n) where
    pub found-seq : kind_of t q ≡ 4 → HeadFound t q (most + 1) p (n + 1)
    found-seq h = record { few = omega (arith, b.few); head = SEQ q n h (elsewhere e b.head) }

  module _ {x most p n : ℕ} (e : x ≡ word_at t q (1 + ours)) (b : HeadFound t x most p n) where
    pub found_scope : kind_of t q ≡ 16 → HeadFound t q (most + 1) p (n + 1)
    found_scope h = record { few = omega (arith, b.few); head = SCOPE q n h (elsewhere e b.head) }

pub calls : {t : List ℕ} {x q r : ℕ} → kind_of t q ≡ 8 → r ≡ word_at t q 2 → kind_of t r ≡ 7 → x ≡ word_at t r 2 → Calls t x q 2
calls {t} h e g b = record { call = h; called = rw (← e) g; body = b ∙ ap (λ (r : ℕ). word_at t r 2) e; visits = refl }

module _ {t : List ℕ} {e q x n : ℕ} (o : q ≡ word_at t e 2) where
  pub hints-choice : (kind_of t e ≡ 5) ⊎ (kind_of t e ≡ 6) → HeadFound t q 4 x n → Hints t e x n
  hints-choice k b = choice k b.few (elsewhere o b.head)

  pub hints-all : (kind_of t e ≡ 11) ⊎ (kind_of t e ≡ 12) ⊎ (kind_of t e ≡ 13) → Calls t x q n → Hints t e x n
  hints-all k b = all k (subst (λ (q : ℕ). Calls t x q n) o b)

-- ---- in a run

-- the kinds of the two hints
apart : {k : ℕ} → (k ≡ 5) ⊎ (k ≡ 6) → (k ≡ 11) ⊎ (k ≡ 12) ⊎ (k ≡ 13) → ⊥
apart (inl a) (inl b) = omega arith
apart (inl a) (inr (inl b)) = omega arith
apart (inl a) (inr (inr b)) = omega arith
apart (inr a) (inl b) = omega arith
apart (inr a) (inr (inl b)) = omega arith
apart (inr a) (inr (inr b)) = omega arith

module _ {t c : List ℕ} (ch : table_checked t ≡ checked 0 0) (l : Loaded t c) where
  first-same : (e : ℕ) → word_at t e 2 ≡ word_at c e 2
  first-same e = sym (word_same l e 2 (omega arith))

  scope-same : (e : ℕ) → word_at t e (1 + ours) ≡ word_at c e (1 + ours)
  scope-same e = sym (word_same l e 3 (omega arith))

  -- where constructor and count differ, a strategy fails in the visit of the PCON that it begins with
  head-fails : {p q n : ℕ} → HasHead t p q n → q < 4096 → (w : List ℕ) (k : ℕ) → agreeing c w p k ≡ false → VisitsToFailure c w q k p n n
  head-fails {p} (MATCH q h e g) i w k a =
      match-fails (entries-loaded ch l) i (kind-same l q ∙ h) (e ∙ first-same q) (kind-same l p ∙ g) a
  head-fails (SEQ q n h b) i w k a =
      seq-fails (head-fails b (facts-second t ch q 4 h (λ z. omega arith)) w k a) (first-same q) (kind-same l q ∙ h)
  head-fails (SCOPE q n h b) i w k a =
      scope-fails (head-fails b (facts-scope t ch q) w k a) (scope-same q) (kind-same l q ∙ h)

  -- a CALL and its REC take two visits
  calls-leads : {x q n : ℕ} → Calls t x q n → Leads c q x n
  calls-leads {x} {q} {n} b = record {
    is = λ k a w m d u i j.
        let v : u - 1 - 1 ≡ u - n = omega (arith, b.visits) in
        let g : d - 1 - 1 ≡ d - n = omega (arith, b.visits) in
        let y : x ≡ word_at c (word_at c q 2) 2 =
        b.body ∙ ap (λ (q : ℕ). word_at t q 2) (first-same q) ∙ first-same (word_at c q 2) in
        applied c d q k a w m u (λ z. omega (arith, b.visits)) (λ z. omega (arith, b.visits))
        ∙ ruled-call c (d - 1) q k a w m (u - 1) (word_at c q 2) refl (kind-same l q ∙ b.call)
        ∙ applied c (d - 1) (word_at c q 2) k a w m (u - 1) (λ z. omega (arith, b.visits)) (λ z. omega (arith, b.visits))
        ∙ ruled-rec c (d - 1 - 1) (word_at c q 2) k a w m (u - 1 - 1) x y (kind-of-first l q ∙ b.called)
        ∙ (λ z. visit c (g z) (apply x k a) w m (v z));
    short = λ k a w m d u i j.
        ⊎_elim
        (λ z. no-units c d (apply q k a) w m u (omega arith))
        (λ z. applied c d q k a w m u (λ f. omega arith) (λ f. omega (arith, b.visits))
        ∙ ruled-call c (d - 1) q k a w m (u - 1) (word_at c q 2) refl (kind-same l q ∙ b.call)
        ∙ no-units c (d - 1) (apply (word_at c q 2) k a) w m (u - 1) (omega (arith, b.visits)))
        (below-or-from u 1);
  }

  pub hints-loaded : Hinted c
  unfolding kind line_of lines
  hints-loaded = record {
    head = λ e i k s. head e i (rw (kind-same l e) at k) s (l.hints e);
    ahead = λ e i k s. ahead e (rw (kind-same l e) at k) s (l.hints e);
  }
    where
      inside-choice : (e : ℕ) → (kind_of t e ≡ 5) ⊎ (kind_of t e ≡ 6) → word_at t e 2 < 4096
      inside-choice e (inl k) = facts-second t ch e 5 k (λ z. omega arith)
      inside-choice e (inr k) = facts-second t ch e 6 k (λ z. omega arith)

      head : (e : ℕ) → e < 4096 → (kind_of t e ≡ 5) ⊎ (kind_of t e ≡ 6) → (word_at c e 5 ≡ 0 → ⊥) → Hints t e (word_at c e 4) (word_at c e 5)
          → Heads c (word_at c e 2) (word_at c e 4) (word_at c e 5)
      head e i (inl k) s (given p q) = absurd (s (q ∙ five-unused t ch e 5 k (λ z. omega arith) (omega arith) (omega arith)))
      head e i (inr k) s (given p q) = absurd (s (q ∙ five-unused t ch e 6 k (λ z. omega arith) (omega arith) (omega arith)))
      head e i k s (choice h n b) = record {
        few = n;
        fails = λ w m a. rw (word_same l e 2 (omega arith)) (head-fails b (inside-choice e h) w m a).fails;
      }
      head e i k s (all h b) = absurd (apart k h)

      ahead : (e : ℕ) → (kind_of t e ≡ 11) ⊎ (kind_of t e ≡ 12) ⊎ (kind_of t e ≡ 13) → (word_at c e 5 ≡ 0 → ⊥) → Hints t e (word_at c e 4) (word_at c e 5)
          → (word_at c e 5 ≤ 2) × Leads c (word_at c e 2) (word_at c e 4) (word_at c e 5)
      ahead e (inl k) s (given p q) = absurd (s (q ∙ five-unused t ch e 11 k (λ z. omega arith) (omega arith) (omega arith)))
      ahead e (inr (inl k)) s (given p q) = absurd (s (q ∙ five-unused t ch e 12 k (λ z. omega arith) (omega arith) (omega arith)))
      ahead e (inr (inr k)) s (given p q) = absurd (s (q ∙ five-unused t ch e 13 k (λ z. omega arith) (omega arith) (omega arith)))
      ahead e k s (choice h n b) = absurd (apart h k)
      ahead e k s (all h b) = (omega (arith, b.visits), rw (word_same l e 2 (omega arith)) (calls-leads b))
