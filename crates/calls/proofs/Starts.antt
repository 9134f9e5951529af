-- The start of a call: what is tested of a list of subjects, one after the other, and what of one subject.
use mathlib.Core.Path.{◌≡◌, refl, ap, ◌∙◌}
use mathlib.Core.Bool.{Bool, ◌&&◌}
use Prim.Native.Nat.{ℕ, zero, suc, ◌+◌}
use Rattle.std.proofs.Common.{add-one}
use Rattle.std.specs.Prelude.{List, [], ◌∷◌, ltb, length, get_or}
use Rattle.std.specs.List.{list_all}
use Rattle.std.proofs.Math.Bool.{and-true}
use Rattle.words.specs.Tests.{every}
use Rattle.calls.specs.Refused.{subjects_below, start_fits, starts_fit}

-- A test of the numbers from i + 1 on is a test of those from i on, each read one further.
every-shift : (p q : ℕ → Bool) → ((j : ℕ) → p (suc j) ≡ q j) → (i k : ℕ) → every p (i + 1) k ≡ every q i k
unfolding every
every-shift p q h i zero = refl
every-shift p q h i (suc k) = rw (every-shift p q h (i + 1) k, add-one i, h i)

-- A test of each place of a list is a test of each element.
pub every-place : (p : ℕ → Bool) (xs : List ℕ) → every (λ j. p (get_or xs j 0)) 0 (length xs) ≡ list_all p xs
unfolding every
every-place p [] = refl
every-place p (x ∷ xs) =
    ap (λ (b : Bool). p x && b)
    (every-shift (λ j. p (get_or (x ∷ xs) j 0)) (λ j. p (get_or xs j 0)) (λ j. refl) 0 (length xs) ∙ every-place p xs)

-- The subjects, element by element.
pub subjects_below_list : (ks : List ℕ) (mark : ℕ) → subjects_below ks mark ≡ list_all (λ k. ltb k mark) ks
unfolding subjects_below
subjects_below_list ks mark = every-place (λ k. ltb k mark) ks

-- A list of one subject.
pub starts_fit_one : (t b : List ℕ) (mark start k : ℕ) → starts_fit t b mark start (k ∷ []) ≡ start_fits t b mark start k
unfolding starts_fit start_fits
starts_fit_one t b mark start k = rw (subjects_below_list (k ∷ []) mark, and-true (ltb k mark))
