-- The words of the counts: one more, and the others as they were. Assumes nothing.
use Rattle.std.proofs.Common.{◌≡◌, ℕ, zero, suc, ◌+◌, ◌*◌, ◌%◌, ◌<◌, ◌≤◌, Bool, true, false, eqb, ltb, List, length, get_or, set, sym, refl, ap, ◌∙◌, subst, arith, length-set, get_or-set_other, get_or-set_same, le-ltb, lt-ltb, eq-eqb, ne_eqb, eqb-true, if◌then◌else◌}
use borrow.Author.Tests.{eqb-false}
use Rattle.machine.specs.declared.Machine.{Machine}
use Rattle.meaning.specs.Derivation.{What, entry, pattern, pair}
use Rattle.meaning.specs.Tallies.{one-if, is_entry}
use Rattle.tallying.specs.Counts.{bumped, code_of, visited_code, flown, rest_counted}

pub bump-inside : (cs : List ℕ) (e c : ℕ) → 4 * e + c < length cs → set cs (4 * e + c) ((get_or cs (4 * e + c) 0 + 1) % 18446744073709551616)
    ≡ bumped cs e c
unfolding bumped
bump-inside cs e c l = rw (lt-ltb (4 * e + c) (length cs) l) refl

pub bump-outside : (cs : List ℕ) (e c : ℕ) → length cs ≤ 4 * e + c → cs ≡ bumped cs e c
unfolding bumped
bump-outside cs e c l = rw (le-ltb (4 * e + c) (length cs) l) refl

pub length-bumped : (cs : List ℕ) (e c : ℕ) → length (bumped cs e c) ≡ length cs
unfolding bumped
length-bumped cs e c = go (ltb (4 * e + c) (length cs))
  where
    go : (b : Bool) → length (if b then set cs (4 * e + c) ((get_or cs (4 * e + c) 0 + 1) % 18446744073709551616) else cs) ≡ length cs
    go true = length-set cs (4 * e + c) _
    go false = refl

pub length-flown : (kept cs : List ℕ) (n : ℕ) → length (flown kept cs n) ≡ length cs
unfolding flown
length-flown kept cs zero = refl
length-flown kept cs (suc n) = length-bumped (flown kept cs n) (get_or kept n 0) 3 ∙ length-flown kept cs n

pub code-applied : (m : Machine) → m.mode ≡ 0 → m.x ≡ visited_code m
code-applied m e = rw (eq-eqb m.mode 0 e) refl

pub code_other : (m : Machine) → (m.mode ≡ 0 → ⊥) → 4294967295 ≡ visited_code m
code_other m n = rw (ne_eqb m.mode 0 n) refl

pub won-is : (m : Machine) (cs kept : List ℕ) → m.mode ≡ 4
    → bumped cs (get_or kept m.level 0) 1 ≡ bumped cs (get_or kept m.level 0) (if eqb m.mode 4 then 1 else 2)
won-is m cs kept e = rw (eq-eqb m.mode 4 e) refl

pub lost-is : (m : Machine) (cs kept : List ℕ) → (m.mode ≡ 4 → ⊥)
    → bumped cs (get_or kept m.level 0) 2 ≡ bumped cs (get_or kept m.level 0) (if eqb m.mode 4 then 1 else 2)
lost-is m cs kept n = rw (ne_eqb m.mode 4 n) refl

-- ---- one word more, and the others

bump-same : (cs : List ℕ) (e c : ℕ) → 4 * e + c < length cs → get_or cs (4 * e + c) 0 < 18446744073709551615
    → get_or (bumped cs e c) (4 * e + c) 0 ≡ get_or cs (4 * e + c) 0 + 1
bump-same cs e c l small =
    ap (λ cs. get_or cs (4 * e + c) 0) (sym (bump-inside cs e c l)) ∙ get_or-set_same cs (4 * e + c) _ 0 l ∙ omega arith

bump-other : (cs : List ℕ) (e c j : ℕ) → (j ≡ 4 * e + c → ⊥) → get_or (bumped cs e c) j 0 ≡ get_or cs j 0
unfolding bumped
bump-other cs e c j n = go (ltb (4 * e + c) (length cs))
  where
    go : (b : Bool) → get_or (if b then set cs (4 * e + c) ((get_or cs (4 * e + c) 0 + 1) % 18446744073709551616) else cs) j 0 ≡ get_or cs j 0
    go true = get_or-set_other cs (4 * e + c) j _ 0 n
    go false = refl

-- what is no entry has no word
no_word : (cs : List ℕ) (c : ℕ) → length cs ≤ 16384 → bumped cs 4294967295 c ≡ cs
no_word cs c l = sym (bump-outside cs 4294967295 c (omega arith))

-- the word c of entry x, after one more for what w visits
pub bump-for : (cs : List ℕ) (w : What) (x c : ℕ) → length cs ≤ 16384 → 4 * x + 3 < length cs → c < 4
    → get_or cs (4 * x + c) 0 < 18446744073709551615
    → get_or (bumped cs (code_of w) c) (4 * x + c) 0 ≡ get_or cs (4 * x + c) 0 + one-if (is_entry x w)
unfolding code_of is_entry
bump-for cs (entry y) x c few l s small = go (eqb x y) refl
  where
    go : (b : Bool) → eqb x y ≡ b → get_or (bumped cs y c) (4 * x + c) 0 ≡ get_or cs (4 * x + c) 0 + one-if b
    go true e =
        subst (λ (y : ℕ). get_or (bumped cs y c) (4 * x + c) 0 ≡ get_or cs (4 * x + c) 0 + 1) (eqb-true x y e)
        (bump-same cs x c (omega arith) small)
    go false e = bump-other cs y c (4 * x + c) (λ z. eqb-false x y e (omega arith)) ∙ omega arith
bump-for cs (pattern p) x c few l s small = ap (λ cs. get_or cs (4 * x + c) 0) (no_word cs c few) ∙ omega arith
bump-for cs pair x c few l s small = ap (λ cs. get_or cs (4 * x + c) 0) (no_word cs c few) ∙ omega arith

-- another word of an entry
pub bump-beside : (cs : List ℕ) (e c x d : ℕ) → c < 4 → d < 4 → (c ≡ d → ⊥) → get_or (bumped cs e c) (4 * x + d) 0 ≡ get_or cs (4 * x + d) 0
bump-beside cs e c x d l m n = bump-other cs e c (4 * x + d) (λ z. n (omega arith))

-- ---- where the machine has stopped

module _ (kept cs : List ℕ) (m : Machine) where
  pub rest-asked : m.mode < 4 → flown kept cs m.level ≡ rest_counted kept cs m
  rest-asked l = rw (lt-ltb m.mode 4 l) refl

  pub rest_ended : 4 ≤ m.mode → m.mode < 6 → bumped cs (get_or kept m.level 0) (if eqb m.mode 4 then 1 else 2) ≡ rest_counted kept cs m
  rest_ended l h = rw (le-ltb m.mode 4 l, lt-ltb m.mode 6 h) refl

  pub rest-cut : 6 ≤ m.mode → flown kept cs (m.level + 1) ≡ rest_counted kept cs m
  rest-cut l = rw (le-ltb m.mode 4 (omega arith), le-ltb m.mode 6 l) refl
