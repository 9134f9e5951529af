-- The words of bindings, one for each variable.
use mathlib.Core.Path.{◌≡◌, refl, ◌∙◌, subst}
use mathlib.Core.Logic.{⊎_elim}
use mathlib.Core.List.{[], ◌∷◌, ◌++◌}
use Prim.Native.Nat.{ℕ, zero, suc, ◌+◌, ◌<◌}
use native.Mathlib.Nat.{add-zero}
use native.Mathlib.Omega.{arith}
use lib.ListN.{length, get_or, length-append, get_or-append}
use lib.Seq.{get_or-append-add}
use Rattle.words.proofs.Tests.{below-or-from}
use Rattle.meaning.specs.Bindings.{Bindings}
use Rattle.meaning.specs.Answer.{binding_word, binding_words}

-- What holds below i and at i holds below i + 1.
pub with-next : (P : ℕ → Type 0) (i : ℕ) → ((j : ℕ) → j < i → P j) → P i → (j : ℕ) → j < i + 1 → P j
with-next P i f x j l =
    ⊎_elim (f j) (λ z. let e : i ≡ j = omega arith in subst P e x) (below-or-from j i)

-- The words of the first n variables are n words, each its variable's.
pub length-words : (n : ℕ) (b : Bindings ℕ) → length (binding_words n b) ≡ n
unfolding binding_words
length-words zero b = refl
length-words (suc n) b = simp length-append (omega (arith, length-words n b))

pub word-of : (n : ℕ) (b : Bindings ℕ) (v : ℕ) → v < n → get_or (binding_words n b) v 0 ≡ binding_word (b v)
unfolding binding_words
word-of zero b v l = absurd (omega arith)
word-of (suc n) b v l =
    with-next (λ v. get_or (binding_words n b ++ (binding_word (b n) ∷ [])) v 0 ≡ binding_word (b v)) n
    (λ v k. get_or-append (binding_words n b) _ 0 v (omega (arith, length-words n b)) ∙ word-of n b v k)
    last
    v (omega arith)
  where
    last : get_or (binding_words n b ++ (binding_word (b n) ∷ [])) n 0 ≡ binding_word (b n)
    last =
        let e : length (binding_words n b) + 0 ≡ n = add-zero _ ∙ length-words n b in
        rw e at (get_or-append-add (binding_words n b) (binding_word (b n) ∷ []) 0 0)
