-- The constant tables of src/kinds.rt against the table of document 01: one test that antt computes over all twenty
-- kinds, and one law that turns it into the rule at each kind.
-- Assumes nothing.
use mathlib.Core.Path.{◌≡◌, refl, sym}
use mathlib.Core.Bool.{Bool, true, false, ◌&&◌, ◌||◌, true≢false}
use mathlib.Core.Logic.{◌≢◌}
use mathlib.Core.List.{List, [], ◌∷◌}
use Prim.Native.Nat.{ℕ, ◌+◌, ◌≤◌}
use native.Mathlib.Omega.{arith}
use lib.Dec.{leb, eqb}
use lib.ListN.{get_or}
use borrow.Author.Tests.{leb-true, eqb-true, ne_eqb}
use Rattle.std.specs.Prelude.{if◌then◌else◌}
use Rattle.words.specs.Tests.{every}
use Rattle.words.proofs.Tests.{and-true, every_true}
use Rattle.checks.specs.declared.kinds.Sort.{Sort}
use Rattle.checks.specs.declared.kinds.Sort.TheVariants.{Strategy, Pattern, Neither}
use Rattle.checks.specs.Kinds.{ours, lowest, highest_by, operands_from_by, lines, line_of, kind, takes, same}

-- LEAST, as the source has it.
abbrev leasts : List ℕ
leasts = 0 ∷ 0 ∷ 1 ∷ 1 ∷ 2 ∷ 2 ∷ 2 ∷ 1 ∷ 1 ∷ 1 ∷ 0 ∷ 1 ∷ 1 ∷ 1 ∷ 1 ∷ 1 ∷ 1 ∷ 1 ∷ 0 ∷ 0 ∷ []

-- MOST, as the source has it.
abbrev mosts : List ℕ
mosts = 0 ∷ 0 ∷ 1 ∷ 1 ∷ 2 ∷ 2 ∷ 2 ∷ 1 ∷ 1 ∷ 1 ∷ 6 ∷ 1 ∷ 1 ∷ 1 ∷ 1 ∷ 1 ∷ 1 ∷ 1 ∷ 0 ∷ 6 ∷ []

-- LOWEST, as the source has it.
abbrev lows : List ℕ
lows = 0 ∷ 0 ∷ 0 ∷ 0 ∷ 0 ∷ 0 ∷ 0 ∷ 0 ∷ 0 ∷ 1 ∷ 0 ∷ 0 ∷ 0 ∷ 0 ∷ 0 ∷ 0 ∷ 0 ∷ 0 ∷ 0 ∷ 0 ∷ []

-- HIGHEST, as the source has it.
abbrev highs : List ℕ
highs =
    0 ∷ 0 ∷ 0 ∷ 0 ∷ 0 ∷ 0 ∷ 0 ∷ 0 ∷ 0 ∷ 6 ∷ 65535 ∷ 0 ∷ 0 ∷ 0 ∷ 0 ∷ 0 ∷ 0 ∷ 0 ∷ 63 ∷ 65535 ∷ []

-- TAKES, as the source has it.
abbrev taken : List Sort
taken =
    Strategy ∷ Strategy ∷ Strategy ∷ Strategy ∷ Strategy ∷ Strategy ∷ Strategy ∷ Strategy ∷ Strategy ∷ Strategy
    ∷ Strategy ∷ Strategy ∷ Strategy ∷ Strategy ∷ Pattern ∷ Pattern ∷ Strategy ∷ Strategy ∷ Strategy ∷ Pattern ∷ []

-- The tables have at k what document 01 has.
pub record Agree (k : ℕ) : Type 0 where
  pub least : get_or leasts k 0 ≡ (kind k).least
  pub most : get_or mosts k 0 ≡ (kind k).most
  pub low : get_or lows k 0 ≡ lowest (kind k).argument
  pub high : k ≢ 16 → get_or highs k 0 ≡ highest_by ours (kind k).argument
  pub sort : get_or taken k Strategy ≡ takes k

-- The same as a test.
unfoldable agree : ℕ → Bool
agree k =
    eqb (get_or leasts k 0) (kind k).least
    && (eqb (get_or mosts k 0) (kind k).most
    && (eqb (get_or lows k 0) (lowest (kind k).argument)
    && ((eqb k 16 || eqb (get_or highs k 0) (highest_by ours (kind k).argument))
    && same (get_or taken k Strategy) (takes k))))

-- A test that holds at all twenty kinds holds at each.
pub at_each : (p : ℕ → Bool) → every p 0 20 ≡ true → (k : ℕ) → k ≤ 19 → p k ≡ true
at_each p h k l = (every_true p 0 20).0 h k (omega arith) (omega arith)

-- The tables agree at all twenty kinds.
all-agree : every agree 0 20 ≡ true
unfolding every agree kind line_of lines takes
all-agree = refl

-- Sorts that pass the test are the same.
pub same_true : (a b : Sort) → same a b ≡ true → a ≡ b
same_true Strategy Strategy e = refl
same_true Pattern Pattern e = refl
same_true Neither Neither e = refl
same_true Strategy Pattern e = absurd (true≢false (sym e))
same_true Strategy Neither e = absurd (true≢false (sym e))
same_true Pattern Strategy e = absurd (true≢false (sym e))
same_true Pattern Neither e = absurd (true≢false (sym e))
same_true Neither Strategy e = absurd (true≢false (sym e))
same_true Neither Pattern e = absurd (true≢false (sym e))

-- A sort passes the test with itself.
pub same-itself : (a : Sort) → same a a ≡ true
same-itself Strategy = refl
same-itself Pattern = refl
same-itself Neither = refl

-- The tables have at each kind what document 01 has.
pub at-kind : (k : ℕ) → k ≤ 19 → Agree k
unfolding agree
at-kind k l =
    let a : (eqb (get_or leasts k 0) (kind k).least ≡ true) × _ = and-true _ _ (at_each agree all-agree k l) in
    let b : (eqb (get_or mosts k 0) (kind k).most ≡ true) × _ = and-true _ _ a.1 in
    let c : (eqb (get_or lows k 0) (lowest (kind k).argument) ≡ true) × _ = and-true _ _ b.1 in
    let d : (eqb k 16 || eqb (get_or highs k 0) (highest_by ours (kind k).argument) ≡ true) × _ = and-true _ _ c.1 in
    record {
      least = eqb-true _ _ a.0;
      most = eqb-true _ _ b.0;
      low = eqb-true _ _ c.0;
      high = λ n. eqb-true _ _ (rw (ne_eqb k 16 n) at d.0);
      sort = same_true _ _ d.1;
    }

-- The operands of each kind have room after its argument, however many it takes.
all-roomy : every (λ j. leb (operands_from_by ours j + (kind j).most) 8) 0 20 ≡ true
unfolding every kind line_of lines
all-roomy = refl

pub roomy : (k : ℕ) → k ≤ 19 → operands_from_by ours k + (kind k).most ≤ 8
roomy k l = leb-true _ 8 (at_each (λ j. leb (operands_from_by ours j + (kind j).most) 8) all-roomy k l)

-- They begin at word 2 or after it.
pub from-two : (k : ℕ) → 2 ≤ operands_from_by ours k
from-two k = go (eqb k 16)
  where
    go : (b : Bool) → 2 ≤ 1 + (if b then ours else 1)
    go true = omega arith
    go false = omega arith
