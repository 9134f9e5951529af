-- From the two passes to the whole: what they leave is what the contract of `collect` says.
-- Assumes nothing.
use mathlib.Core.Path.{◌≡◌, refl, ap, sym, ◌∙◌, fun_ext}
use mathlib.Core.Bool.{Bool, true}
use mathlib.Core.List.{List, map}
use Prim.Native.Nat.{ℕ, zero, suc, ◌-◌, ◌*◌, ◌≤◌, ◌<◌}
use native.Mathlib.Nat.{sub-zero}
use native.Mathlib.Omega.{arith}
use lib.ListN.{length, get_or, replicate, length-map}
use Rattle.words.specs.Words.{cleared_from}
use Rattle.words.proofs.Rows.{length-cleared_from}
use Rattle.checks.specs.Good.{child}
use Rattle.collect.specs.Reachable.{Reachable, at-subject, at-binding}
use Rattle.collect.specs.Packed.{rank, rebound, store_after}
use Rattle.collect.specs.Refused.{Lent, CollectableBy}
use Rattle.collect.specs.Collected.{at_end, keeps, collecting, collected_of_by}
use Rattle.collect.specs.Passes.{Flags, flagged, Movable, Moved}
use Rattle.collect.proofs.Reaching.{bound-word, kept-reachable}
use Rattle.collect.proofs.Flagging.{flagged-is}
use Rattle.collect.proofs.Renumbering.{map-alike}
use Rattle.collect.proofs.Packing.{rank-le, packed-cleared}
use Rattle.collect.proofs.Accepting.{collected-whole, mark-inside, small, fits, few, below, keep, under, closed}

-- A list cleared from its beginning.
cleared-whole : (w : List ℕ) → cleared_from w 0 ≡ replicate (length w) 0
unfolding cleared_from
cleared-whole w = ap (λ (n : ℕ). replicate n 0) (sub-zero (length w))

module _ {W : ℕ} (i : Lent) (a : CollectableBy W i) (w₁ : List ℕ) (f : Flags (length i.work) (keeps i) w₁) where
  inside : (k : ℕ) → keeps i k ≡ true → k < length i.work
  inside k e = omega (arith, under i a (kept-reachable i.store i.bindings i.mark i.subject k e), mark-inside i a)

  -- The marks are those of the kept nodes.
  marks : (k : ℕ) → flagged w₁ k ≡ keeps i k
  marks = flagged-is (length i.work) (keeps i) w₁ f inside

  marks-all : flagged w₁ ≡ keeps i
  marks-all = fun_ext marks

  pub movable : Movable i.store w₁ i.mark
  movable = record {
    fits = fits i a;
    long = omega (arith, f.long, mark-inside i a);
    count = few i a;
    below = below i a;
    closed = λ k j h e l. marks (child i.store k j) ∙ closed i a k j h (sym (marks k) ∙ e) l;
  }

  module _ (n : ℕ) (s₂ w₂ : List ℕ) (m : Moved i.store w₁ i.mark n s₂ w₂) where
    -- A reachable node's new number stands in the work list.
    number_at : {k : ℕ} → Reachable i.store i.bindings i.subject k → get_or w₂ k 0 ≡ rank (keeps i) k
    number_at {k} r = m.number k (under i a r) (marks k ∙ keep i a r) ∙ ap (λ (p : ℕ → Bool). rank p k) marks-all

    pub work-long : length w₂ ≡ length i.work
    work-long = m.work ∙ f.long

    pub mark-is : n ≡ rank (keeps i) i.mark
    mark-is = m.mark ∙ ap (λ (p : ℕ → Bool). rank p i.mark) marks-all

    pub mark-small : n ≤ 131072
    mark-small = omega (arith, mark-is, rank-le (keeps i) i.mark, mark-inside i a, small i a)

    pub subject-inside : i.subject < length w₂
    subject-inside = omega (arith, a.subject, mark-inside i a, work-long)

    bound : (v k : ℕ) → get_or i.bindings v 0 ≡ suc k → Reachable i.store i.bindings i.subject k
    bound v k e = at-binding v k (bound-word i.bindings v k e)

    pub bindings-inside : (v k : ℕ) → get_or i.bindings v 0 ≡ suc k → (k < length w₂) × (get_or w₂ k 0 < 131072)
    bindings-inside v k e =
        let l : k < i.mark = under i a (bound v k e) in (
          omega (arith, mark-inside i a, work-long),
          omega (arith, number_at (bound v k e), rank-le (keeps i) k, mark-inside i a, small i a),
        )

    rebound-at : (v x : ℕ) → get_or i.bindings v 0 ≡ x → rebound (λ k. get_or w₂ k 0) x ≡ rebound (rank (keeps i)) x
    unfolding rebound
    rebound-at v zero e = refl
    rebound-at v (suc k) e = ap suc (number_at (bound v k e))

    pub whole : (s₃ b₃ w₃ : List ℕ) → b₃ ≡ map (rebound (λ k. get_or w₂ k 0)) i.bindings → s₃ ≡ cleared_from s₂ (8 * n) → w₃ ≡ cleared_from w₂ 0
        → at_end (record { answer = 0; place = 0; subject = get_or w₂ i.subject 0; mark = n }) s₃ b₃ w₃ ≡ collected_of_by W i
    unfolding collecting
    whole s₃ b₃ w₃ eb es ew =
        (λ z. record {
          answer = 0;
          place = 0;
          subject = number_at at-subject z;
          mark = mark-is z;
          store = store_is z;
          bindings = bindings-are z;
          work = work-is z;
        })
        ∙ sym (collected-whole i a)
      where
        store_is : s₃ ≡ store_after (keeps i) i.store i.mark
        store_is = es ∙ packed-cleared (flagged w₁) i.store s₂ i.mark n m.mark m.store m.first ∙ ap (λ (p : ℕ → Bool). store_after p i.store i.mark) marks-all

        bindings-are : b₃ ≡ map (rebound (rank (keeps i))) i.bindings
        bindings-are = eb ∙ map-alike (rebound (λ k. get_or w₂ k 0)) (rebound (rank (keeps i))) i.bindings (λ v l. rebound-at v (get_or i.bindings v 0) refl)

        work-is : w₃ ≡ replicate (length i.work) 0
        work-is = ew ∙ cleared-whole w₂ ∙ ap (λ (n : ℕ). replicate n 0) work-long

    -- The lengths are those lent.
    pub store_length : (s₃ : List ℕ) → s₃ ≡ cleared_from s₂ (8 * n) → length s₃ ≡ length i.store
    store_length s₃ e = ap length e ∙ length-cleared_from s₂ (8 * n) ∙ m.store

    pub work-length : (w₃ : List ℕ) → w₃ ≡ cleared_from w₂ 0 → length w₃ ≡ length i.work
    work-length w₃ e = ap length e ∙ length-cleared_from w₂ 0 ∙ work-long

pub bindings-length : (b b' : List ℕ) (f : ℕ → ℕ) → b' ≡ map f b → length b' ≡ length b
bindings-length b b' f e = ap length e ∙ length-map b f
