-- The notes of places are the last match that gave up. Assumes nothing.
use mathlib.Core.Path.{◌≡◌, refl, ap, sym, ◌∙◌}
use mathlib.Core.List.{List, [], ◌∷◌, ◌++◌}
use Prim.Native.Nat.{ℕ}
use Rattle.meaning.specs.Derivation.{What, Fate, stays, goes, fails, in-flight, Trace, over, missed, node, visit, places, shut, noted, misses, last_of}

-- the last of two lists is the last of the second, after the last of the first
last-append : (n : ℕ) (ps qs : List ℕ) → last_of n (ps ++ qs) ≡ last_of (last_of n ps) qs
unfolding last_of
last-append n [] qs = refl
last-append n (p ∷ ps) qs = last-append p ps qs

-- how a visit ends is no place
shut-places : (w : What) (f : Fate) (n : ℕ) → shut places w f n ≡ n
unfolding shut
shut-places w stays n = refl
shut-places w goes n = refl
shut-places w fails n = refl
shut-places w in-flight n = refl

pub places-are-last : (t : Trace) (n : ℕ) → noted places t n ≡ last_of n (misses t)
unfolding noted misses last_of
places-are-last over n = refl
places-are-last (missed p) n = refl
places-are-last (node t) n = places-are-last t n
places-are-last (visit w f s t) n =
    ap (λ n. noted places t n) (shut-places w f (noted places s n) ∙ places-are-last s n)
    ∙ places-are-last t (last_of n (misses s))
    ∙ sym (last-append n (misses s) (misses t))
