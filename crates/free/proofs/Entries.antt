-- What a good entry is: by its kind, the strategy or the pattern that it is, its operands, and their sort.
-- Assumes nothing.
use mathlib.Core.Path.{◌≡◌, refl, ap, sym, ◌∙◌, subst}
use mathlib.Core.Bool.{Bool, true, false, not, ◌&&◌, ◌||◌}
use mathlib.Core.Logic.{◌≢◌}
use mathlib.Core.List.{List, [], ◌∷◌}
use Prim.Native.Nat.{ℕ, zero, suc, ◌+◌, ◌-◌, ◌^◌, ◌≤◌, ◌<◌}
use native.Mathlib.Omega.{arith}
use lib.Dec.{leb, eqb}
use lib.ListN.{length, get_or, take, length-take}
use lib.Pow.{pow_pos}
use lib.Seq.{get_or-take}
use borrow.Author.Tests.{leb-true, eqb-true, eqb-false, ne_eqb, leb-false}
use Rattle.std.specs.Prelude.{if◌then◌else◌}
use Rattle.words.specs.Tests.{every}
use Rattle.words.specs.Words.{word_at, rows}
use Rattle.words.proofs.Tests.{and-true}
use Rattle.checks.specs.declared.kinds.Sort.TheVariants.{Strategy as AStrategy, Pattern as APattern}
use Rattle.checks.specs.Kinds.{lines, line_of, kind, variables_by, argument_words_by, highest_by, sort_of, takes}
use Rattle.checks.specs.Good.{kind_of, operand_count, argument_of, number, mask_by}
use Rattle.checks.specs.Plain.{EntryBy}
use Rattle.checks.proofs.Tables.{at_each}
use Rattle.checks.proofs.Good.{operand_count-six, operand-word, operand-scope}
use Rattle.checks.proofs.Promises.{entry_plain}
use Rattle.meaning.specs.Table.{Strategy, ID, FAIL, TEST, NOT, SEQ, CHOICE, LEFT, REC, CALL, PATH, CONG, ALL, ONE, SOME, MATCH, BUILD, SCOPE, WHERE, PVAR, PCON, table_by, by_kind, operands, six}
use Rattle.meaning.specs.Free.{In, here, there, operands_of}
use Rattle.meaning.proofs.Tests.{impossible, decided}
use Rattle.free.specs.Promises.{GoodTableBy}

-- an entry of a good table is good
pub entry_of : (W : ℕ) (t : List ℕ) → GoodTableBy W t → (e : ℕ) → e < rows t → EntryBy W t e
entry_of W t good e l = (entry_plain W t e).0 (good.1 e l)

-- a number that is a is not b
pub other : {n : ℕ} (a b : ℕ) → n ≡ a → eqb a b ≡ false → n ≢ b
other a b e f z = eqb-false a b f (sym e ∙ z)

-- ---- operands

-- one of a list stands at a place of it
in-at : {y : ℕ} {xs : List ℕ} → In y xs → (i : ℕ) × (i < length xs) × (get_or xs i 0 ≡ y)
in-at here = (0, omega arith, refl)
in-at (there i) = let (j, l, e) = in-at i in (suc j, omega arith, e)

pub six-at : (w : List ℕ) (k i : ℕ) → i < 6 → get_or (six w k) i 0 ≡ word_at w k (2 + i)
six-at w k zero h = refl
six-at w k (suc zero) h = refl
six-at w k (suc (suc zero)) h = refl
six-at w k (suc (suc (suc zero))) h = refl
six-at w k (suc (suc (suc (suc zero)))) h = refl
six-at w k (suc (suc (suc (suc (suc zero))))) h = refl
six-at w k (suc (suc (suc (suc (suc (suc i)))))) h = absurd (omega arith)

module _ (t : List ℕ) (e : ℕ) where
  -- the operand at place i
  pub operand_at : (i : ℕ) → i < operand_count t e → operand_count t e ≤ 6 → get_or (operands t e) i 0 ≡ word_at t e (2 + i)
  operand_at i h l = get_or-take (operand_count t e) (six t e) i 0 h ∙ six-at t e i (omega arith)

  pub length-operands : operand_count t e ≤ 6 → length (operands t e) ≡ operand_count t e
  length-operands l = length-take (operand_count t e) (six t e) ∙ omega arith

  -- an operand, by its place
  at_place : {y : ℕ} → operand_count t e ≤ 6 → In y (operands t e) → (i : ℕ) × (i < operand_count t e) × (word_at t e (2 + i) ≡ y)
  at_place l h =
      let (i, b, q) = in-at h in
      let m : i < operand_count t e = omega (arith, length-operands l) in
      (i, m, sym (operand_at i m l) ∙ q)

-- ---- kinds

-- MATCH, BUILD and SCOPE have rules of their own
abbrev pub plain : Strategy → Bool
plain ID = true
plain FAIL = true
plain (TEST x) = true
plain (NOT x) = true
plain (SEQ x y) = true
plain (CHOICE x y) = true
plain (LEFT x y) = true
plain (REC x) = true
plain (CALL x) = true
plain (PATH i x) = true
plain (CONG c xs) = true
plain (ALL x) = true
plain (ONE x) = true
plain (SOME x) = true
plain (MATCH p) = false
plain (BUILD p) = false
plain (SCOPE m x) = false
plain (WHERE x) = true

abbrev own : ℕ → Bool
own k = eqb k 14 || eqb k 15 || eqb k 16

-- the operands of a strategy of the kind k, of its first two operands and of all
abbrev first : ℕ → (x y : ℕ) → List ℕ → List ℕ
first k x y xs = if eqb k 10 then xs else if own k then [] else take (kind k).least (x ∷ y ∷ [])

-- the strategy s is of the kind k
record Fits (x y : ℕ) (xs : List ℕ) (k : ℕ) (s : Strategy) : Type 0 where
  plain-is : plain s ≡ not (own k)
  operands-are : operands_of s ≡ first k x y xs

-- what holds of each of the list, and its place from i on
abbrev Each : (ℕ → Strategy → Type 0) → ℕ → List Strategy → Type 0
Each P i [] = Unit {0}
Each P i (s ∷ ss) = P i s × Each P (suc i) ss

each_at : (P : ℕ → Strategy → Type 0) (i : ℕ) (ss : List Strategy) → Each P i ss → (k : ℕ) → k < length ss → P (i + k) (get_or ss k FAIL)
each_at P i [] h k l = absurd (omega arith)
each_at P i (s ∷ ss) h zero l = let e : i + 0 ≡ i = omega arith in rw e h.0
each_at P i (s ∷ ss) h (suc k) l =
    let e : i + suc k ≡ suc i + k = omega arith in
    rw e (each_at P (suc i) ss h.1 k (omega arith))

-- each kind's strategy has the operands of its kind
all_fit : (a x y : ℕ) (xs : List ℕ) (m z : ℕ) → Each (Fits x y xs) 0 (by_kind a x y xs m z)
unfolding by_kind operands_of kind line_of lines
all_fit a x y xs m z = (
  record {
    plain-is = refl;
    operands-are =
        refl;
  },
  (
    record { plain-is = refl; operands-are = refl },
    (
      record {
        plain-is = refl;
        operands-are =
            refl;
      },
      (
        record { plain-is = refl; operands-are = refl },
        (
          record {
            plain-is = refl;
            operands-are =
                refl;
          },
          (
            record { plain-is = refl; operands-are = refl },
            (
              record {
                plain-is = refl;
                operands-are =
                    refl;
              },
              (
                record { plain-is = refl; operands-are = refl },
                (
                  record {
                    plain-is = refl;
                    operands-are =
                        refl;
                  },
                  (
                    record { plain-is = refl; operands-are = refl },
                    (
                      record {
                        plain-is = refl;
                        operands-are =
                            refl;
                      },
                      (
                        record { plain-is = refl; operands-are = refl },
                        (
                          record {
                            plain-is = refl;
                            operands-are =
                                refl;
                          },
                          (
                            record { plain-is = refl; operands-are = refl },
                            (
                              record {
                                plain-is = refl;
                                operands-are =
                                    refl;
                              },
                              (
                                record { plain-is = refl; operands-are = refl },
                                (record { plain-is = refl; operands-are = refl }, (record { plain-is = refl; operands-are = refl }, tt)),
                              ),
                            ),
                          ),
                        ),
                      ),
                    ),
                  ),
                ),
              ),
            ),
          ),
        ),
      ),
    ),
  ),
)

-- every kind but CONG and PCON has one number of operands, and at most two
fixed : ℕ → Bool
fixed k = eqb k 10 || (eqb k 19 || (eqb (kind k).least (kind k).most && leb (kind k).most 2))

all-fixed : every fixed 0 20 ≡ true
unfolding every fixed kind line_of lines
all-fixed = refl

take-two : (n x y : ℕ) (zs : List ℕ) → n ≤ 2 → take n (x ∷ y ∷ zs) ≡ take n (x ∷ y ∷ [])
take-two zero x y zs h = refl
take-two (suc zero) x y zs h = refl
take-two (suc (suc zero)) x y zs h = refl
take-two (suc (suc (suc n))) x y zs h = absurd (omega arith)

-- a kind's sort
pub sort-strategy : (k : ℕ) → sort_of k ≡ AStrategy → k ≤ 17
unfolding sort_of
sort-strategy k e = decided (leb k 17) (λ h. leb-true k 17 h) (λ h. decided (leb k 19) (λ l. impossible (cc (rw (h, l) at e))) (λ l. impossible (cc (rw (h, l) at e))))

sort-pattern : (k : ℕ) → sort_of k ≡ APattern → 18 ≤ k
unfolding sort_of
sort-pattern k e = decided (leb k 17) (λ h. impossible (cc (rw h at e))) (λ h. let l = leb-false k 17 h in omega arith)

module _ (W : ℕ) (t : List ℕ) (e : ℕ) where
  -- e's operands are strategies of the table
  abbrev pub Strategies : Type 0
  Strategies = (y : ℕ) → In y (operands t e) → (y < rows t) × (kind_of t y ≤ 17)

  -- e's operands are patterns of the table
  abbrev pub Patterns : Type 0
  Patterns = (y : ℕ) → In y (operands t e) → (y < rows t) × (18 ≤ kind_of t y)

  -- the operand of a SCOPE is a strategy of the table
  abbrev pub Scoped : Type 0
  Scoped = (word_at t e (1 + W) < rows t) × (kind_of t (word_at t e (1 + W)) ≤ 17)

  -- what e is
  pub data Shape : Type 0 where
    is_plain : kind_of t e ≤ 17 → kind_of t e ≢ 16 → plain ((table_by W t).strategies e) ≡ true → operands_of ((table_by W t).strategies e) ≡ operands t e → Strategies → Shape
    is-match : kind_of t e ≡ 14 → (table_by W t).strategies e ≡ MATCH (word_at t e 2) → operands t e ≡ word_at t e 2 ∷ [] → Patterns → Shape
    is-build : kind_of t e ≡ 15 → (table_by W t).strategies e ≡ BUILD (word_at t e 2) → operands t e ≡ word_at t e 2 ∷ [] → Patterns → Shape
    is-scope : kind_of t e ≡ 16 → (table_by W t).strategies e ≡ SCOPE (mask_by W t e) (word_at t e (1 + W)) → mask_by W t e < 2 ^ variables_by W → Scoped → Shape
    is-variable : kind_of t e ≡ 18 → (table_by W t).patterns e ≡ PVAR (argument_of t e) → argument_of t e < variables_by W → Shape
    is-con : kind_of t e ≡ 19 → (table_by W t).patterns e ≡ PCON (argument_of t e) (operands t e) → Patterns → Shape

  module _ (some : 0 < W) (good : EntryBy W t e) where
    six-most : operand_count t e ≤ 6
    six-most = operand_count-six W t e good

    count-is : kind_of t e ≢ 10 → kind_of t e ≢ 19 → (operand_count t e ≡ (kind (kind_of t e)).least) × (operand_count t e ≤ 2)
    unfolding fixed
    count-is n m =
        let h = at_each fixed all-fixed (kind_of t e) good.counted.known in
        let k : eqb (kind (kind_of t e)).least (kind (kind_of t e)).most && leb (kind (kind_of t e)).most 2 ≡ true =
        rw (ne_eqb (kind_of t e) 10 n, ne_eqb (kind_of t e) 19 m) at h in
        let (a, b) = and-true _ _ k in
        let c : (kind (kind_of t e)).least ≡ (kind (kind_of t e)).most = eqb-true _ _ a in
        let d : (kind (kind_of t e)).most ≤ 2 = leb-true _ _ b in
        (omega (arith, good.counted.least, good.counted.most), omega (arith, good.counted.most))

    -- the operands of a strategy that is not CONG
    counted : kind_of t e ≢ 10 → kind_of t e ≢ 19 → operands t e ≡ take (kind (kind_of t e)).least (word_at t e 2 ∷ word_at t e 3 ∷ [])
    counted n m =
        let (a, b) = count-is n m in
        take-two (operand_count t e) (word_at t e 2) (word_at t e 3) _ b ∙ ap (λ (n : ℕ). take n (word_at t e 2 ∷ word_at t e 3 ∷ [])) a

    fits : kind_of t e ≤ 17 → Fits (word_at t e 2) (word_at t e 3) (operands t e) (kind_of t e) ((table_by W t).strategies e)
    unfolding table_by by_kind
    fits l =
        let h =
        each_at (Fits (word_at t e 2) (word_at t e 3) (operands t e)) 0
        (by_kind (argument_of t e) (word_at t e 2) (word_at t e 3) (operands t e) (mask_by W t e) (word_at t e (1 + W))) (all_fit _ _ _ _ _ _) (kind_of t e) (omega arith) in
        let z : 0 + kind_of t e ≡ kind_of t e = omega arith in
        rw z at h

    -- the operands' place and sort, where e is no SCOPE
    module _ (n16 : kind_of t e ≢ 16) where
      taken : (y : ℕ) → In y (operands t e) → kind_of t e ≢ 8 → sort_of (kind_of t y) ≡ takes (kind_of t e)
      taken y h n =
          let (i, l, q) = at_place t e six-most h in
          subst (λ y. sort_of (kind_of t y) ≡ takes (kind_of t e)) (operand-word W t e n16 i ∙ q) (good.sorted.sorted n i l)

      within : (y : ℕ) → In y (operands t e) → y < rows t
      within y h = let (i, l, q) = at_place t e six-most h in subst (λ y. y < rows t) (operand-word W t e n16 i ∙ q) (good.placed.inside i l)

      strategies : kind_of t e ≢ 14 → kind_of t e ≢ 15 → kind_of t e ≢ 19 → Strategies
      unfolding takes
      strategies n m o y h = (within y h, decided (eqb (kind_of t e) 8) call other)
        where
          call : eqb (kind_of t e) 8 ≡ true → kind_of t y ≤ 17
          call z =
              let (i, l, q) = at_place t e six-most h in
              let k : kind_of t y ≡ 7 = subst (λ y. kind_of t y ≡ 7) (operand-word W t e n16 i ∙ q) (good.sorted.called (eqb-true _ _ z) i l) in
              omega arith

          other : eqb (kind_of t e) 8 ≡ false → kind_of t y ≤ 17
          other z = sort-strategy (kind_of t y) (taken y h (eqb-false _ _ z) ∙ rw (ne_eqb (kind_of t e) 14 n, ne_eqb (kind_of t e) 15 m, ne_eqb (kind_of t e) 19 o))

    patterns : (k : ℕ) → kind_of t e ≡ k → eqb k 8 ≡ false → eqb k 16 ≡ false → takes k ≡ APattern → Patterns
    patterns k q n s z y h = (within (other k 16 q s) y h, sort-pattern (kind_of t y) (taken (other k 16 q s) y h (other k 8 q n) ∙ ap takes q ∙ z))

    -- a SCOPE's operand
    scoped : kind_of t e ≡ 16 → Scoped
    unfolding takes kind line_of lines
    scoped k =
        let one : 0 < operand_count t e = omega (arith, subst (λ (k : ℕ). (kind k).least ≤ operand_count t e) k good.counted.least) in
        let z = operand-scope W t e k in (
          subst (λ y. y < rows t) z (good.placed.inside 0 one),
          sort-strategy _ (subst (λ y. sort_of (kind_of t y) ≡ takes (kind_of t e)) z (good.sorted.sorted (other 16 8 k refl) 0 one) ∙ ap takes k),
        )

    -- a strategy that is neither MATCH nor BUILD nor SCOPE
    plainly : kind_of t e ≤ 17 → kind_of t e ≢ 14 → kind_of t e ≢ 15 → kind_of t e ≢ 16 → Shape
    plainly l n m o =
        let f = fits l in
        let none : own (kind_of t e) ≡ false = rw (ne_eqb (kind_of t e) 14 n, ne_eqb (kind_of t e) 15 m, ne_eqb (kind_of t e) 16 o) in
        is_plain l o (f.plain-is ∙ rw none) (f.operands-are ∙ decided (eqb (kind_of t e) 10) (λ c. rw c) (λ c. rw (c, none) (sym (counted (eqb-false _ _ c) (λ z. absurd
        (omega arith)))))) (strategies o n m (λ z. absurd (omega arith)))

    one-operand : (k : ℕ) → kind_of t e ≡ k → eqb k 10 ≡ false → eqb k 19 ≡ false → (kind k).least ≡ 1 → operands t e ≡ word_at t e 2 ∷ []
    one-operand k q n m z = counted (other k 10 q n) (other k 19 q m) ∙ ap (λ (n : ℕ). take n (word_at t e 2 ∷ word_at t e 3 ∷ [])) (ap (λ (k : ℕ). (kind k).least) q ∙ z)

    kind-is : (k : ℕ) → kind_of t e ≡ k → (table_by W t).strategies e ≡ get_or (by_kind (argument_of t e) (word_at t e 2) (word_at t e 3) (operands t e) (mask_by W t e) (word_at t e (1 + W))) k FAIL
    unfolding table_by
    kind-is k h = ap (λ (k : ℕ). get_or (by_kind (argument_of t e) (word_at t e 2) (word_at t e 3) (operands t e) (mask_by W t e) (word_at t e (1 + W))) k FAIL) h

    pattern-is : (k : ℕ) → kind_of t e ≡ k → (table_by W t).patterns e ≡ get_or (PVAR (argument_of t e) ∷ PCON (argument_of t e) (operands t e) ∷ []) (k - 18) (PVAR 0)
    unfolding table_by
    pattern-is k h = ap (λ (k : ℕ). get_or (PVAR (argument_of t e) ∷ PCON (argument_of t e) (operands t e) ∷ []) (k - 18) (PVAR 0)) h

    -- the argument's range, by the kind
    ranged : (k : ℕ) → kind_of t e ≡ k → number t e (argument_words_by W k) 1 ≤ highest_by W (kind k).argument
    ranged k q = subst (λ k. number t e (argument_words_by W k) 1 ≤ highest_by W (kind k).argument) q good.argued.high

    -- a variable's number
    pub variable-below : kind_of t e ≡ 18 → argument_of t e < variables_by W
    unfolding number kind line_of lines
    variable-below k = let h : argument_of t e ≤ variables_by W - 1 = ranged 18 k in omega arith

    -- a scope's mask
    mask_below : kind_of t e ≡ 16 → mask_by W t e < 2 ^ variables_by W
    unfolding kind line_of lines
    mask_below k = let h : mask_by W t e ≤ 2 ^ variables_by W - 1 = ranged 16 k in omega (arith, pow_pos (variables_by W))

    pub shape : Shape
    unfolding by_kind takes kind line_of lines
    shape =
        decided (eqb (kind_of t e) 14) (λ q. let k = eqb-true _ _ q in is-match k (kind-is 14 k) (one-operand 14 k refl refl refl) (patterns 14 k refl refl refl)) (λ a.
        decided (eqb (kind_of t e) 15) (λ q. let k = eqb-true _ _ q in is-build k (kind-is 15 k) (one-operand 15 k refl refl refl) (patterns 15 k refl refl refl)) (λ b.
        decided (eqb (kind_of t e) 16) (λ q. let k = eqb-true _ _ q in is-scope k (kind-is 16 k) (mask_below k) (scoped k)) (λ c.
        decided (eqb (kind_of t e) 18) (λ q. let k = eqb-true _ _ q in is-variable k (pattern-is 18 k) (variable-below k)) (λ d.
        decided (eqb (kind_of t e) 19) (λ q. let k = eqb-true _ _ q in is-con k (pattern-is 19 k) (patterns 19 k refl refl refl)) (λ f.
        let n18 = eqb-false (kind_of t e) 18 d in
        let n19 = eqb-false (kind_of t e) 19 f in
        plainly (omega (arith, good.counted.known)) (eqb-false _ _ a) (eqb-false _ _ b) (eqb-false _ _ c))))))
