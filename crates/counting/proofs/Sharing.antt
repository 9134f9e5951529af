-- A counted run with an index: one lent slice is the store's words and then the index, of which the run works on the first part. Assumes
-- nothing.
use mathlib.Core.Path.{◌≡◌, ap, sym, ◌∙◌}
use mathlib.Core.List.{List, ◌++◌}
use Prim.Native.Nat.{ℕ, ◌-◌, min}
use native.Mathlib.Omega.{arith}
use lib.ListN.{length, take, drop, replicate, length-append, length-drop}
use lib.Seq.{length-take-le, take-append_seam, drop-append_seam}
use Rattle.words.specs.Words.{cleared_from}
use Rattle.words.proofs.Rows.{length-cleared_from, take-cleared_from}
use Rattle.tallying.specs.Added.{Counted}
use Rattle.tallying.specs.Added.{CountedReturned, counted_at_return}
use Rattle.counting.specs.Counted.{indexed_counted_at_return}
use Rattle.indexed.proofs.Whole.{take_min, drop_min, drop-size, drop-cleared}

module _ (w : List ℕ) (k own : ℕ) (e : own ≡ min k (length w)) where
  -- the store's words before the run
  pub own-before : take own (cleared_from w own) ≡ take k w
  own-before = take-cleared_from w own own (omega arith) ∙ ap (λ j. take j w) e ∙ take_min k w

  pub own-long : length (take own (cleared_from w own)) ≡ own
  own-long = length-take-le own (cleared_from w own) (omega (arith, length-cleared_from w own, e))

  module _ (s : List ℕ) (l : length s ≡ own) where
    rest-long : length (drop own (cleared_from w own)) ≡ length w - own
    rest-long = length-drop own (cleared_from w own) ∙ ap (λ (n : ℕ). n - own) (length-cleared_from w own)

    long : length (s ++ drop own (cleared_from w own)) ≡ length w
    long = length-append s (drop own (cleared_from w own)) ∙ omega (arith, rest-long, e)

    here : min k (length (s ++ drop own (cleared_from w own))) ≡ length s
    here = ap (min k) long ∙ sym e ∙ sym l

    -- and after it; the index is all zero
    own-after : take k (s ++ drop own (cleared_from w own)) ≡ s
    own-after =
        sym (take_min k (s ++ drop own (cleared_from w own))) ∙ ap (λ j. take j (s ++ drop own (cleared_from w own))) here
        ∙ take-append_seam s (drop own (cleared_from w own))

    index-after : drop k (s ++ drop own (cleared_from w own)) ≡ replicate (length (drop k w)) 0
    index-after =
        sym (drop_min k (s ++ drop own (cleared_from w own))) ∙ ap (λ j. drop j (s ++ drop own (cleared_from w own))) here
        ∙ drop-append_seam s (drop own (cleared_from w own))
        ∙ drop-cleared w own own (omega arith) (omega (arith, e)) ∙ ap (λ (n : ℕ). replicate n 0) (sym (drop-size k own w e))

    -- what comes back, w₁ being the words with the index cleared
    pub ended-with : (r : Counted) (b cs w₁ : List ℕ) (R : CountedReturned) → w₁ ≡ cleared_from w own → counted_at_return r s b cs ≡ R
        → indexed_counted_at_return r (take k (s ++ drop own w₁)) b cs (drop k (s ++ drop own w₁))
        ≡ record { run = R; index = replicate (length (drop k w)) 0 }
    ended-with r b cs w₁ R c x =
        ap (λ v. indexed_counted_at_return r (take k (s ++ drop own v)) b cs (drop k (s ++ drop own v))) c
        ∙ (λ z. indexed_counted_at_return r (own-after z) b cs (index-after z))
        ∙ ap (λ (R : CountedReturned). record { run = R; index = replicate (length (drop k w)) 0 }) x
