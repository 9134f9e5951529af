-- A pair of nodes compared: constructor and count first, then the pairs of children from left to right.
use mathlib.Core.Path.{◌≡◌, refl, ap, sym, ◌∙◌}
use mathlib.Core.Logic.{inl, inr}
use mathlib.Core.List.{List, [], ◌∷◌, ◌++◌}
use Prim.Native.Nat.{ℕ, ◌+◌, ◌-◌, ◌≤◌, ◌<◌, min}
use native.Mathlib.Omega.{arith}
use lib.ListN.{length, drop}
use mir.Val.{Fits}
use mir.Syntax.{w32}
use borrow.Author.Tests.{eq-eqb, ne_eqb}
use Rattle.words.specs.Words.{word_at}
use Rattle.meaning.specs.Bindings.{Bindings}
use Rattle.meaning.specs.Plan.{ret}
use Rattle.meaning.specs.Rules.{compare, Do, does, comparing, agree, when, walk, zip}
use Rattle.meaning.specs.Limits.{lost, run_plan}
use Rattle.meaning.specs.Store.{children}
use Rattle.state.specs.Noted.{Standing, Ran, left_of}
use Rattle.state.specs.declared.answers.Answer.{Answer}
use Rattle.state.specs.declared.answers.Answer.TheVariants.{Done, Failed, Cut}
use Rattle.state.specs.Answers.{answer_of, packed, failed_word}
use Rattle.state.specs.Visits.{count_of, visit, plan, giving, kept}
use Rattle.state.proofs.AnswerWords.{kept-done, kept-failed, kept-answer}
use Rattle.state.proofs.Asking.{Tagged}
use Rattle.leaves.proofs.Kind.{counted}
use Rattle.leaves.proofs.Children.{part_length, part-next, part_end}
use Rattle.leaves.proofs.Walking.{walk_end, kept_on, kept-stop, returned, failing}

-- the pairs of children from the i-th on
abbrev pub pairs : List ℕ → ℕ → ℕ → ℕ → List ℕ → Bindings ℕ → Do ℕ
pairs w a b i gs β = walk (zip compare (drop i (children w a)) (drop i (children w b))) gs β (λ ks b'. ret b b')

-- from the i-th pair on, after the pairs gs, all ends as o
abbrev pub GoesOn : List ℕ → ℕ → List ℕ → ℕ → ℕ → ℕ → Bindings ℕ → Standing → ℕ → Ran → Type 0
GoesOn t n w a b i β m u o = (gs : List ℕ) × (plan t n (pairs w a b i gs β) w m u ≡ o)

-- a word that answers o for the pair with the second node y answers o' for that with b
abbrev pub Carried : List ℕ → ℕ → ℕ → Bindings ℕ → Standing → Ran → Ran → Type 0
Carried w y b β m o o' = (r : ℕ) → kept r y β w m ≡ o → kept r b β w m ≡ o'

-- the units, the nesting and the pairs that are left, apart from the places of the code, where many other facts stand
pub not-zero : {n : ℕ} → (n ≡ 0 → ⊥) → 0 < n
not-zero h = omega arith

pub one_less : {u k : ℕ} → u < k → u - 1 < k
one_less h = omega arith

pub falls-once : {d : ℕ} → (d ≡ 0 → ⊥) → d - 1 < d
falls-once h = omega arith

pub lower : {d n : ℕ} → d ≤ n → (d ≡ 0 → ⊥) → d - 1 < n
lower l h = omega arith

pub weaker : {d n : ℕ} → d < n → d ≤ n
weaker h = omega arith

pub below : {d n t : ℕ} → d < n → n ≡ t → d < t
below h e = omega arith

pub not_last : {i n k : ℕ} → i < n - 1 → n ≡ k → i < k
not_last h e = omega arith

pub one-more : {i n : ℕ} → i < n - 1 → i + 1 < n
one-more h = omega arith

pub last : {i n k : ℕ} → i < n → n - 1 ≤ i → n ≡ k → i + 1 ≡ k
last h l e = omega arith

pub up_to : {i k : ℕ} → i + 1 ≡ k → i < k
up_to e = omega arith

pub few : (k : ℕ) {i n : ℕ} → i < n → n ≡ min k 6 → Fits w32 (i + 1) × Fits w32 (2 + i)
few k h e = (record { fits = omega arith }, record { fits = omega arith })

-- the last child's word
pub last-word : (w : List ℕ) (x i n : ℕ) {r k : ℕ} → r ≡ word_at w x (1 + n) → n ≡ k → i + 1 ≡ k → r ≡ word_at w x (2 + i)
last-word w x i n e p q = let f : 1 + n ≡ 2 + i = omega arith in e ∙ ap (λ (j : ℕ). word_at w x j) f

pub child-word : (n : ℕ) {i : ℕ} → i < min n 6 → 2 + i < 8
child-word n h = omega arith

-- a word that answers the pair x and y, with d and u, answers the pair a and b, with n and l
unfoldable pub Pair : List ℕ → ℕ → ℕ → ℕ → ℕ → ℕ → ℕ → ℕ → ℕ → Type 0
Pair w a b l n x y d u =
    (t : List ℕ) (β : Bindings ℕ) (m : Standing) →
    Carried w y b β m (visit t d (compare x y β) w m u) (visit t n (compare a b β) w m l)

-- so does one that answers their children from the i-th pair on
unfoldable pub FromPair : List ℕ → ℕ → ℕ → ℕ → ℕ → ℕ → ℕ → ℕ → ℕ → ℕ → Type 0
FromPair w a b l n x y d i u =
    (t : List ℕ) (β : Bindings ℕ) (m : Standing) →
    (o : Ran) × GoesOn t d w x y i β m u o × Carried w y b β m o (visit t n (compare a b β) w m l)

module _ (w : List ℕ) (a b : ℕ) where
  -- the count is the number of children that are read
  same_count : count_of w a ≡ count_of w b → length (children w a) ≡ length (children w b)
  same_count e = part_length w a (word_at w a 1) ∙ e ∙ sym (part_length w b (word_at w b 1))

  module _ (t : List ℕ) (n : ℕ) (m : Standing) (u : ℕ) (β : Bindings ℕ) (h : u ≡ 0 → ⊥) (d : n ≡ 0 → ⊥) where
    failed-word : (r : ℕ) → r ≡ failed_word (u - 1) → u < 4294967296 → kept r b β w m ≡ lost (left_of w m) (u - 1)
    failed-word r f l = ap (λ r. kept r b β w m) f ∙ kept-failed w w b β m (u - 1) (omega arith)

    opened : visit t n (compare a b β) w m u ≡
        plan t (n - 1) (when (agree (word_at w a 0) (children w a) (word_at w b 0) (children w b)) (pairs w a b 0 [] β)) w m (u - 1)
    unfolding does plan comparing run_plan
    opened = counted t n (compare a b β) w m u h d

    -- the constructors differ, and the word r says so
    pub other-constructor : (r : ℕ) → r ≡ failed_word (u - 1) → u < 4294967296 → (word_at w a 0 ≡ word_at w b 0 → ⊥) →
        kept r b β w m ≡ visit t n (compare a b β) w m u
    unfolding agree when
    other-constructor r f l e = failed-word r f l ∙ sym (opened ∙ rw (ne_eqb _ _ e) (failing t (n - 1) w m (u - 1)))

    -- the counts differ
    pub other-count : (r : ℕ) → r ≡ failed_word (u - 1) → u < 4294967296 → word_at w a 0 ≡ word_at w b 0 →
        (count_of w a ≡ count_of w b → ⊥) → kept r b β w m ≡ visit t n (compare a b β) w m u
    unfolding agree when
    other-count r f l c e =
        failed-word r f l
        ∙ sym (opened ∙ rw (eq-eqb _ _ c, part_length w a, part_length w b, ne_eqb _ _ e) (failing t (n - 1) w m (u - 1)))

    -- both agree
    pub agreed : word_at w a 0 ≡ word_at w b 0 → count_of w a ≡ count_of w b →
        GoesOn t (n - 1) w a b 0 β m (u - 1) (visit t n (compare a b β) w m u)
    unfolding agree when
    agreed c e = ([], sym (opened ∙ rw (eq-eqb _ _ c, eq-eqb _ _ (same_count e))))

  module _ (t : List ℕ) (n i : ℕ) (β : Bindings ℕ) (m : Standing) (u : ℕ) {o : Ran} (g : GoesOn t n w a b i β m u o) where
    -- no pair is left
    pub compared : (r : ℕ) → r ≡ packed 0 u → u < 4294967296 → count_of w a ≤ i → kept r b β w m ≡ o
    unfolding zip
    compared r e l h = ap (λ r. kept r b β w m) e ∙ kept-done w w b β m 0 u (omega arith) l
        ∙ sym (walk_end t n w m u g.0 β _ _ (rw (part_end w a _ i h)) ∙ returned t n w m u b β) ∙ g.1

    -- the next pair: its answer's word r, read as a'
    module _ (ha : i < count_of w a) (hb : i < count_of w b) (x y r : ℕ) (xe : x ≡ word_at w a (2 + i)) (ye : y ≡ word_at w b (2 + i))
        (is : kept r y β w m ≡ visit t n (compare x y β) w m u) (a' : Answer) (read : a' ≡ answer_of r) where
      next : plan t n (walk (compare x y ∷ zip compare (drop (i + 1) (children w a)) (drop (i + 1) (children w b))) g.0 β
          (λ ks b'. ret b b')) w m u ≡ o
      unfolding zip
      next = rw (xe, ye) (sym (rw (part-next w a _ i ha, part-next w b _ i hb)) ∙ g.1)

      pub pair-done : (z v : ℕ) → a' ≡ Done z v → GoesOn t n w a b (i + 1) β m v o
      pair-done z v e = (g.0 ++ (y ∷ []), sym (kept_on t n w m u g.0 β _ (compare x y) _ r y β m is a' read z v e) ∙ next)

      pub pair-stops : Tagged a' 1 2 → kept r b β w m ≡ o
      pair-stops e = kept-stop t n w m u g.0 β _ (compare x y) _ r y β m is a' read e b β ∙ next

    -- the last pair: its answer is the answer of all
    module _ (ha : i + 1 ≡ count_of w a) (hb : i + 1 ≡ count_of w b) (x y : ℕ) (xe : x ≡ word_at w a (2 + i))
        (ye : y ≡ word_at w b (2 + i)) where
      ended-last : (r : ℕ) → kept r y β w m ≡ visit t n (compare x y β) w m u → (a' : Answer) → a' ≡ answer_of r → (z v : ℕ) →
          a' ≡ Done z v → kept r b β w m ≡ o
      unfolding zip giving
      ended-last r is a' e z v f =
          let g' = pair-done (omega arith) (omega arith) x y r xe ye is a' e z v f in
          let h : count_of w a ≤ i + 1 = omega arith in
          kept-answer w w b β m r a' e
          ∙ rw f
          (sym (walk_end t n w m v g'.0 β _ _ (rw (part_end w a _ (i + 1) h)) ∙ returned t n w m v b β) ∙ g'.1)

      pub last-pair : Carried w y b β m (visit t n (compare x y β) w m u) o
      last-pair r is = go (answer_of r) refl
        where
          go : (a' : Answer) → a' ≡ answer_of r → kept r b β w m ≡ o
          go (Done z v) e = ended-last r is (Done z v) e z v refl
          go (Failed v) e = pair-stops (omega arith) (omega arith) x y r xe ye is (Failed v) e (inl refl)
          go (Cut c) e = pair-stops (omega arith) (omega arith) x y r xe ye is (Cut c) e (inr refl)
