-- The rule of each kind over the store's words, its operands being the words of the entry; and what the next visit needs.
use mathlib.Core.Path.{◌≡◌, refl, ◌∙◌}
use mathlib.Core.List.{List, []}
use Prim.Native.Nat.{ℕ, ◌+◌, ◌<◌}
use native.Mathlib.Omega.{arith}
use lib.ListN.{get_or-eq_default}
use Rattle.words.specs.Words.{word_at}
use Rattle.checks.specs.Kinds.{ours}
use Rattle.checks.specs.Good.{kind_of, argument_of, mask_by, constructor_of}
use Rattle.meaning.specs.Bindings.{Bindings, unbound, masked}
use Rattle.meaning.specs.Table.{ID, FAIL, by_kind, operands}
use Rattle.meaning.specs.Plan.{keep, drop, ret, fail, ask}
use Rattle.meaning.specs.Rules.{apply, match, build, Do, strategy, nth, put, agree, when, given, again, one_of}
use Rattle.meaning.specs.Limits.{ended, lost, run_plan}
use Rattle.meaning.specs.Store.{children}
use Rattle.state.specs.Noted.{Standing, on, left_of}
use Rattle.state.specs.Answers.{node_in}
use Rattle.state.specs.Record.{mark_of}
use Rattle.state.specs.Visits.{visit, plan, ruled, Matchable}
use Rattle.cycle.specs.Cycle.{visits, walked, Ready}
use Rattle.leaves.proofs.Kind.{kind-is, rule-is}
use Rattle.state.proofs.Asking.{last}
use Rattle.leaves.proofs.Patterns.{operand_below}

-- an operand is an entry, and is visited on a node below the mark
pub ready-operand : {t w st : List ℕ} {e g : ℕ} → Ready t w st e g → (kind_of t e ≡ 16 → ⊥) → (i x h : ℕ) → i < 6 → x ≡ word_at t e (2 + i) → node_in h < mark_of st → Ready t w st x h
ready-operand {t} {e = e} r other i x h l q k =
    record {
      entries = r.entries;
      hints = r.hints;
      long = r.long;
      inside =
          rw q (operand_below t r.entries e i r.inside other l);
      steady = r.steady;
      subject = k;
    }

-- what is ready for a visit is ready for a match
pub matchable : {t w st : List ℕ} {e g : ℕ} → Ready t w st e g → Matchable t w st e g
matchable r = record { entries = r.entries; long = r.long; inside = r.inside; steady = r.steady; subject = r.subject }

module _ (t : List ℕ) (n e k : ℕ) (b : Bindings ℕ) (w : List ℕ) (m : Standing) (u : ℕ) where
  abbrev asks : Do ℕ → Type 0
  asks p = ruled t n e k b w m u ≡ plan t n p w m u

  pub ruled-id : kind_of t e ≡ 0 → ruled t n e k b w m u ≡ ended k b (on w m) u
  unfolding by_kind strategy plan run_plan
  ruled-id h = rule-is t n e k b w m u ID (kind-is t e 0 h)

  pub ruled-fail : (j : ℕ) → kind_of t e ≡ j → (j ≡ 1) → ruled t n e k b w m u ≡ lost (left_of w m) u
  unfolding by_kind strategy plan run_plan
  ruled-fail j h q = rule-is t n e k b w m u FAIL (kind-is t e 1 (h ∙ q))

  pub ruled-above : 17 < kind_of t e → ruled t n e k b w m u ≡ lost (left_of w m) u
  unfolding by_kind strategy plan run_plan
  ruled-above h =
      rule-is t n e k b w m u FAIL (kind-is t e (kind_of t e) refl
      ∙ get_or-eq_default (by_kind (argument_of t e) (word_at t e 2) (word_at t e 3) (operands t e) (mask_by ours t e)
      (word_at t e (1 + ours))) FAIL {n = kind_of t e} (omega arith))

  -- a SCOPE's operand stands after its mask
  pub ruled-scope : (x : ℕ) → x ≡ word_at t e (1 + ours) → (s : ℕ) → s ≡ mask_by ours t e → kind_of t e ≡ 16 → asks (ask keep (apply x k (masked s unbound b)) (λ h c. ret h (masked s b c)) fail)
  unfolding by_kind strategy
  ruled-scope x xe s se h = rule-is t n e k b w m u _ (kind-is t e 16 h) ∙ rw (xe, se)

  module _ (x : ℕ) (xe : x ≡ word_at t e 2) where
    pub ruled-test : kind_of t e ≡ 2 → asks (ask drop (apply x k b) (λ h c. ret k b) fail)
    unfolding by_kind strategy
    ruled-test h = rule-is t n e k b w m u _ (kind-is t e 2 h) ∙ rw xe

    pub ruled-not : kind_of t e ≡ 3 → asks (ask keep (apply x k b) (λ h c. fail) (ret k b))
    unfolding by_kind strategy
    ruled-not h = rule-is t n e k b w m u _ (kind-is t e 3 h) ∙ rw xe

    pub ruled-rec : kind_of t e ≡ 7 → ruled t n e k b w m u ≡ visit t n (apply x k b) w m u
    unfolding by_kind strategy
    ruled-rec h = rule-is t n e k b w m u _ (kind-is t e 7 h) ∙ last t n w m u (apply (word_at t e 2) k b) ∙ rw xe

    pub ruled-call : kind_of t e ≡ 8 → ruled t n e k b w m u ≡ visit t n (apply x k b) w m u
    unfolding by_kind strategy
    ruled-call h = rule-is t n e k b w m u _ (kind-is t e 8 h) ∙ last t n w m u (apply (word_at t e 2) k b) ∙ rw xe

    pub ruled-match : kind_of t e ≡ 14 → ruled t n e k b w m u ≡ visit t n (match x k b) w m u
    unfolding by_kind strategy
    ruled-match h = rule-is t n e k b w m u _ (kind-is t e 14 h) ∙ last t n w m u (match (word_at t e 2) k b) ∙ rw xe

    pub ruled-build : kind_of t e ≡ 15 → ruled t n e k b w m u ≡ visit t n (build x k b) w m u
    unfolding by_kind strategy
    ruled-build h = rule-is t n e k b w m u _ (kind-is t e 15 h) ∙ last t n w m u (build (word_at t e 2) k b) ∙ rw xe

    pub ruled-where : kind_of t e ≡ 17 → asks (ask keep (apply x k b) (λ h c. ret k c) fail)
    unfolding by_kind strategy
    ruled-where h = rule-is t n e k b w m u _ (kind-is t e 17 h) ∙ rw xe

    module _ (y : ℕ) (ye : y ≡ word_at t e 3) where
      pub ruled-seq : kind_of t e ≡ 4 → asks (ask keep (apply x k b) (λ h c. ask keep (apply y h c) ret fail) fail)
      unfolding by_kind strategy
      ruled-seq h = rule-is t n e k b w m u _ (kind-is t e 4 h) ∙ rw (xe, ye)

      pub ruled-choice : kind_of t e ≡ 5 → asks (ask keep (apply x k b) ret (ask keep (apply y k b) ret fail))
      unfolding by_kind strategy
      ruled-choice h = rule-is t n e k b w m u _ (kind-is t e 5 h) ∙ rw (xe, ye)

      pub ruled-left : kind_of t e ≡ 6 → asks (ask keep (apply x k b) ret (ask keep (apply y k b) ret fail))
      unfolding by_kind strategy
      ruled-left h = rule-is t n e k b w m u _ (kind-is t e 6 h) ∙ rw (xe, ye)

    pub ruled-path : (i : ℕ) → i ≡ argument_of t e → kind_of t e ≡ 9
        → asks (given (nth (children w k) i) (λ g. ask keep (apply x g b) (λ h c. again k (constructor_of w k) (put (children w k) i h) c) fail))
    unfolding by_kind strategy plan run_plan
    ruled-path i ie h = rule-is t n e k b w m u _ (kind-is t e 9 h) ∙ rw (xe, ie)

    pub ruled-one : kind_of t e ≡ 12 → asks (one_of x [] (children w k) b (again k (constructor_of w k)))
    unfolding by_kind strategy plan run_plan
    ruled-one h = rule-is t n e k b w m u _ (kind-is t e 12 h) ∙ rw xe

  pub ruled-all : kind_of t e ≡ 11 → asks (walked t w e k b)
  unfolding by_kind strategy plan run_plan walked visits
  ruled-all h = rule-is t n e k b w m u _ (kind-is t e 11 h) ∙ rw h

  pub ruled-some : kind_of t e ≡ 13 → asks (walked t w e k b)
  unfolding by_kind strategy plan run_plan walked
  ruled-some h = rule-is t n e k b w m u _ (kind-is t e 13 h) ∙ rw h

  pub ruled-cong : kind_of t e ≡ 10 → asks (when (agree (argument_of t e) (operands t e) (constructor_of w k) (children w k)) (walked t w e k b))
  unfolding by_kind strategy plan run_plan walked visits
  ruled-cong h = rule-is t n e k b w m u _ (kind-is t e 10 h) ∙ rw h
