-- A strategy that fails at its head: a MATCH of another constructor or count, a SEQ that begins with one, a SCOPE of one.
use mathlib.Core.Path.{◌≡◌, refl, ap, sym, ◌∙◌}
use mathlib.Core.Bool.{false}
use mathlib.Core.List.{List}
use mathlib.Core.Logic.{◌⊎◌}
use Prim.Native.Nat.{ℕ, ◌+◌, ◌-◌, ◌<◌, ◌≤◌, min}
use native.Mathlib.Omega.{arith}
use Rattle.words.specs.Words.{word_at}
use Rattle.checks.specs.Kinds.{ours}
use Rattle.checks.specs.Good.{kind_of, mask_by}
use Rattle.meaning.specs.Bindings.{Bindings, unbound, masked}
use Rattle.meaning.specs.Plan.{keep, ret, fail, ask}
use Rattle.meaning.specs.Rules.{apply, Do}
use Rattle.meaning.specs.Limits.{lost}
use Rattle.state.specs.Noted.{Standing, missed_at, left_of}
use Rattle.state.specs.Visits.{plan, ruled, agreeing, Entries}
use Rattle.cycle.specs.Cycle.{Hinted, VisitsToFailure}
use Rattle.state.proofs.Asking.{ask-failed}
use Rattle.leaves.proofs.Walking.{failing}
use Rattle.leaves.proofs.Kind.{applied}
use Rattle.leaves.proofs.Patterns.{operand_below}
use Rattle.cycle.proofs.Ruling.{ruled-match, ruled-seq, ruled-scope}
use Rattle.leaves.proofs.Matching.{differs}

-- a first operand is an entry
pub operand-inside : {t : List ℕ} {q x : ℕ} → Entries t → q < 4096 → (kind_of t q ≡ 16 → ⊥) → x ≡ word_at t q 2 → x < 4096
operand-inside {t} {q} en inside other e = rw e (operand_below t en q 0 inside other (omega arith))

module _ {t w : List ℕ} {q k p : ℕ} where
  -- the bound may grow
  pub skips-more : {i j n : ℕ} → VisitsToFailure t w q k p i n → i ≤ j → VisitsToFailure t w q k p j n
  skips-more s l = record { few = omega (arith, s.few, l); fails = s.fails }

  -- MATCH
  pub match-fails : Entries t → q < 4096 → kind_of t q ≡ 14 → p ≡ word_at t q 2 → kind_of t p ≡ 19 → agreeing t w p k ≡ false → VisitsToFailure t w q k p 2 2
  match-fails en inside h e g a = record {
    few = omega arith;
    fails = record {
      is = λ b m d u i j.
          let s : u - 1 - 1 ≡ u - 2 = omega arith in
          applied t d q k b w m u (λ z. omega arith) (λ z. omega arith)
          ∙ ruled-match t (d - 1) q k b w m (u - 1) p e h
          ∙ differs t (d - 1) p k b w m (u - 1) (λ z. omega arith) (λ z. omega arith) en (operand-inside en inside (λ z. omega (arith, h, z)) e) g a
          ∙ ap (λ v. lost (left_of w (missed_at p m)) v) s;
    };
  }

  -- the operand x fails after n visits, and nothing catches that
  module _ {x n most : ℕ} (skips : VisitsToFailure t w x k p most n) where
    asked : (c : Bindings ℕ → Bindings ℕ) (f : Bindings ℕ → ℕ → Bindings ℕ → Do ℕ)
        → ((b : Bindings ℕ) (m : Standing) (d u : ℕ) → ruled t d q k b w m u ≡ plan t d (ask keep (apply x k (c b)) (f b) fail) w m u) → VisitsToFailure t w q k p (most + 1) (n + 1)
    asked c f rule = record {
      few = omega (arith, skips.few);
      fails = record {
        is = λ b m d u i j.
            let s : u - 1 - n ≡ u - (n + 1) = omega arith in
            applied t d q k b w m u (λ z. omega arith) (λ z. omega arith)
            ∙ rule b m (d - 1) (u - 1)
            ∙ ask-failed t (d - 1) w m (u - 1) (apply x k (c b)) (f b) fail (u - 1 - n) w keep (missed_at p m) (skips.fails.is (c b) m (d - 1) (u - 1) (omega arith) (omega arith))
            ∙ failing t (d - 1) w (missed_at p m) (u - 1 - n)
            ∙ ap (λ v. lost (left_of w (missed_at p m)) v) s;
      };
    }

    pub seq-fails : x ≡ word_at t q 2 → kind_of t q ≡ 4 → VisitsToFailure t w q k p (most + 1) (n + 1)
    seq-fails xe h = asked (λ b. b) (λ b g c. ask keep (apply (word_at t q 3) g c) ret fail) (λ b m d u. ruled-seq t d q k b w m u x xe (word_at t q 3) refl h)

    pub scope-fails : x ≡ word_at t q (1 + ours) → kind_of t q ≡ 16 → VisitsToFailure t w q k p (most + 1) (n + 1)
    scope-fails xe h = asked (λ b. masked (mask_by ours t q) unbound b) (λ b g c. ret g (masked (mask_by ours t q) b c)) (λ b m d u. ruled-scope t d q k b w m u x xe (mask_by ours t q) refl h)

-- what is known of a first operand, at a node of another constructor or count
pub skips-hint : {t w : List ℕ} {e k p d u n : ℕ} → Hinted t → e < 4096 → (kind_of t e ≡ 5) ⊎ (kind_of t e ≡ 6) → n ≡ word_at t e 5 → (n ≡ 0 → ⊥) → p ≡ word_at t e 4 → agreeing t w p k ≡ false
    → 4 ≤ d → 4 ≤ u → VisitsToFailure t w (word_at t e 2) k (word_at t e 4) (min d u) n
skips-hint {t} {w} {e} {k} {p} {d} {u} {n} h l κ q z pe a i j =
    let f = h.head e l κ (λ g. z (q ∙ g)) in
    rw q (record { few = omega (arith, f.few); fails = f.fails w k (ap (λ p. agreeing t w p k) (sym pe) ∙ a) })
