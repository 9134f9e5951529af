-- Parts and separators: a text without a separator is one part, and parts joined again are the text. Assumes nothing.
use mathlib.Core.Path.{◌≡◌, refl, ap, sym, ◌∙◌}
use mathlib.Core.Bool.{Bool, true, false}
use mathlib.Core.List.{List, [], ◌∷◌, ◌++◌}
use Prim.Native.Nat.{ℕ, suc, ◌<◌}
use native.Mathlib.Omega.{arith}
use lib.Dec.{eqb}
use lib.ListN.{length}
use borrow.Author.Tests.{eqb-true, ne_eqb, eq-eqb}
use Rattle.std.specs.Prelude.{if◌then◌else◌}
use Rattle.text.specs.Text.{grown, parts, joined, joined_after}
use Rattle.text.specs.Promises.{PartsJoined}
use Rattle.text.proofs.Parts.{parts_first}

-- No byte of a text is c.
pub data Clear (c : ℕ) : List ℕ → Type 0 where
  nil : Clear c []
  one : (b : ℕ) {s : List ℕ} → (b ≡ c → ⊥) → Clear c s → Clear c (b ∷ s)

pub clear-append : {c : ℕ} {s : List ℕ} (t : List ℕ) → Clear c s → Clear c t → Clear c (s ++ t)
clear-append t nil q = q
clear-append t (one b n p) q = one b n (clear-append t p q)

-- A text without separators is one part; one that has a separator after it is the first.
pub parts-clear : {c : ℕ} {s : List ℕ} → Clear c s → parts c s ≡ s ∷ []
unfolding parts
parts-clear nil = refl
parts-clear {c} (one b {s} n p) = rw (ne_eqb b c n, parts-clear p)

pub parts_cut : {c : ℕ} {s : List ℕ} (r : List ℕ) → Clear c s → parts c (s ++ (c ∷ r)) ≡ s ∷ parts c r
unfolding parts
parts_cut {c} r nil = rw (eq-eqb c c refl)
parts_cut {c} r (one b {s} n p) = rw (ne_eqb b c n, parts_cut r p)

-- There is always a first part.
pub some-part : (c : ℕ) (s : List ℕ) → 0 < length (parts c s)
some-part c s = rw (parts_first c s) (omega arith)

-- Parts, and separators between them, are the text.
pub joined-parts : (c : ℕ) (s : List ℕ) → joined c (parts c s) ≡ s
unfolding parts
joined-parts c [] = refl
joined-parts c (b ∷ s) = go (eqb b c) refl (parts c s) (some-part c s) (joined-parts c s)
  where
    go : (q : Bool) → eqb b c ≡ q → (ps : List (List ℕ)) → 0 < length ps → joined c ps ≡ s → joined c (if q then [] ∷ ps else grown b ps) ≡ b ∷ s
    go q e [] l h = absurd (omega arith)
    go true e (p ∷ ps) l h = ap (λ (a : ℕ). a ∷ (p ++ joined_after c ps)) (sym (eqb-true b c e)) ∙ ap (λ (r : List ℕ). b ∷ r) h
    go false e (p ∷ ps) l h = ap (λ (r : List ℕ). b ∷ r) h

-- The parts after the first are those of the text after it.
pub parts-rest : (c : ℕ) (s l m : List ℕ) (ls : List (List ℕ)) → parts c s ≡ l ∷ m ∷ ls → parts c (joined c (m ∷ ls)) ≡ m ∷ ls
unfolding parts
parts-rest c [] l m ls e = absurd (short e)
  where
    short : [] ∷ [] ≡ l ∷ m ∷ ls → ⊥
    short e = let z : 1 ≡ suc (suc (length ls)) = ap length e in omega arith
parts-rest c (b ∷ s) l m ls e = go (eqb b c) (parts c s) refl (parts-rest c s) e
  where
    go : (q : Bool) (ps : List (List ℕ)) → parts c s ≡ ps
        → ((k n : List ℕ) (ns : List (List ℕ)) → parts c s ≡ k ∷ n ∷ ns → parts c (joined c (n ∷ ns)) ≡ n ∷ ns)
        → (if q then [] ∷ ps else grown b ps) ≡ l ∷ m ∷ ls
        → parts c (joined c (m ∷ ls)) ≡ m ∷ ls
    go true ps i h e =
        let t : ps ≡ m ∷ ls = cc in
        ap (λ (a : List (List ℕ)). parts c (joined c a)) (sym t ∙ sym i) ∙ ap (parts c) (joined-parts c s) ∙ i ∙ t
    go false [] i h e = absurd (let z : 1 ≡ suc (suc (length ls)) = ap length e in omega arith)
    go false (p ∷ ps) i h e =
        let t : ps ≡ m ∷ ls = cc in
        h p m ls (i ∙ ap (λ (a : List (List ℕ)). p ∷ a) t)

pub parts_joined : PartsJoined
parts_joined = joined-parts
