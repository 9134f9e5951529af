-- The free variables are the smallest sets that fit the rules: what the rules of a good table's entries keep holds of
-- every free variable. So masks that no rule adds to have every free variable, and no variable from their number on is free.
-- Assumes nothing.
use mathlib.Core.Path.{◌≡◌, refl, ap, sym, ◌∙◌, subst}
use mathlib.Core.Bool.{true, false, true≢false, false≢true}
use mathlib.Core.Logic.{◌≢◌, ◌↔◌}
use mathlib.Core.List.{List, [], ◌∷◌}
use Prim.Native.Nat.{ℕ, zero, suc, ◌+◌, ◌^◌, ◌≤◌, ◌<◌}
use native.Mathlib.Omega.{arith}
use lib.ListN.{get_or, replicate}
use borrow.Author.Tests.{eq-eqb, ltb-true, lt-ltb}
use Rattle.words.specs.Words.{word_at, rows}
use Rattle.checks.specs.Kinds.{variables_by}
use Rattle.words.proofs.Tests.{and-true}
use Rattle.checks.specs.Good.{kind_of, argument_of, mask_by}
use Rattle.checks.proofs.Tables.{same_true}
use Rattle.meaning.specs.Bindings.{has}
use Rattle.meaning.specs.Table.{Strategy, MATCH, BUILD, SCOPE, PVAR, PCON, table_by, operands}
use Rattle.meaning.specs.Free.{In, here, there, operands_of, Variable, var, part, Free, in-match, in-build, in_scope, in-operand}
use Rattle.meaning.proofs.Tests.{impossible}
use Rattle.free.specs.Answered.{is_strategy, MaskOfBy}
use Rattle.free.specs.Promises.{GoodTableBy, StrategyOf}
use Rattle.free.specs.Passes.{ruled, fuller, BitsMeant, Settled}
use Rattle.meaning.proofs.Bits.{has-nothing, has-and, has-or, has_one, has-not}
use Rattle.free.proofs.Entries.{other, plain, Shape, is_plain, is-match, is-build, is-scope, is-variable, is-con, shape, entry_of, sort-strategy}
use Rattle.free.proofs.Masks.{or-true, as-strategy, in-joined, ruled-joined, ruled-scope, ruled-variable, stays}

-- nothing is in the empty list
in-none : {A : Type 0} {x : ℕ} {xs : List ℕ} → xs ≡ [] → In x xs → A
in-none e here = impossible (cc)
in-none e (there i) = impossible (cc)

-- an entry of one operand has it
in_one : {x y : ℕ} {xs : List ℕ} → xs ≡ x ∷ [] → y ≡ x → In y xs
in_one {x} {y} o q = subst (In y) (sym o) (subst (λ x. In y (x ∷ [])) q here)

-- what the rules keep: a variable has itself, and all others have what their operands have, but for a scope's mask
pub record Keeps (W : ℕ) (t : List ℕ) (P : ℕ → ℕ → Type 0) : Type 0 where
  pub of-variable : (e : ℕ) → e < rows t → kind_of t e ≡ 18 → argument_of t e < variables_by W → P e (argument_of t e)
  pub of-operand : (e y v : ℕ) → e < rows t → kind_of t e ≢ 16 → kind_of t e ≢ 18 → In y (operands t e) → P y v → P e v
  pub of-scope : (e v : ℕ) → e < rows t → kind_of t e ≡ 16 → mask_by W t e < 2 ^ variables_by W → has (mask_by W t e) v ≡ false → P (word_at t e (1 + W)) v → P e v

module _ (W : ℕ) (some : 0 < W) (t : List ℕ) (good : GoodTableBy W t) (P : ℕ → ℕ → Type 0) (k : Keeps W t P) where
  -- y is of the sort that its user takes, and what it has its user has
  record Below (S : ℕ → Type 0) (e y v : ℕ) : Type 0 where
    inside : y < rows t
    sort : S (kind_of t y)
    up : P y v → P e v

  abbrev Strategic : ℕ → Type 0
  Strategic n = n ≤ 17

  abbrev Patterned : ℕ → Type 0
  Patterned n = 18 ≤ n

  module _ (e : ℕ) (l : e < rows t) (v : ℕ) where
    at-variable : Shape W t e → 18 ≤ kind_of t e → (table_by W t).patterns e ≡ PVAR v → P e v
    at-variable (is-variable z q a) h f = let w : argument_of t e ≡ v = cc in subst (P e) w (k.of-variable e l z a)
    at-variable (is-con z q s) h f = impossible (cc)
    at-variable (is_plain z n p o s) h f = absurd (omega arith)
    at-variable (is-match z q o s) h f = absurd (omega arith)
    at-variable (is-build z q o s) h f = absurd (omega arith)
    at-variable (is-scope z q a s) h f = absurd (omega arith)

    at_part : {c y : ℕ} {ps : List ℕ} → Shape W t e → 18 ≤ kind_of t e → (table_by W t).patterns e ≡ PCON c ps → In y ps → Below Patterned e y v
    at_part {y = y} {ps = ps} (is-con z q s) h f i =
        let w : ps ≡ operands t e = cc in
        let j : In y (operands t e) = subst (In y) w i in
        record { inside = (s y j).0; sort = (s y j).1; up = k.of-operand e y v l (other 19 16 z refl) (other 19 18 z refl) j }
    at_part (is-variable z q a) h f i = impossible (cc)
    at_part (is_plain z n p o s) h f i = absurd (omega arith)
    at_part (is-match z q o s) h f i = absurd (omega arith)
    at_part (is-build z q o s) h f i = absurd (omega arith)
    at_part (is-scope z q a s) h f i = absurd (omega arith)

    at-match : {p : ℕ} → Shape W t e → kind_of t e ≤ 17 → (table_by W t).strategies e ≡ MATCH p → Below Patterned e p v
    at-match {p} (is-match z q o s) h f =
        let w : p ≡ word_at t e 2 = cc in
        let j : In p (operands t e) = in_one o w in
        record { inside = (s p j).0; sort = (s p j).1; up = k.of-operand e p v l (other 14 16 z refl) (other 14 18 z refl) j }
    at-match (is_plain z n p o s) h f = absurd (true≢false (sym p ∙ ap plain f))
    at-match (is-build z q o s) h f = impossible (cc)
    at-match (is-scope z q a s) h f = impossible (cc)
    at-match (is-variable z q a) h f = absurd (omega arith)
    at-match (is-con z q s) h f = absurd (omega arith)

    at-build : {p : ℕ} → Shape W t e → kind_of t e ≤ 17 → (table_by W t).strategies e ≡ BUILD p → Below Patterned e p v
    at-build {p} (is-build z q o s) h f =
        let w : p ≡ word_at t e 2 = cc in
        let j : In p (operands t e) = in_one o w in
        record { inside = (s p j).0; sort = (s p j).1; up = k.of-operand e p v l (other 15 16 z refl) (other 15 18 z refl) j }
    at-build (is_plain z n p o s) h f = absurd (true≢false (sym p ∙ ap plain f))
    at-build (is-match z q o s) h f = impossible (cc)
    at-build (is-scope z q a s) h f = impossible (cc)
    at-build (is-variable z q a) h f = absurd (omega arith)
    at-build (is-con z q s) h f = absurd (omega arith)

    at-scope : {m y : ℕ} → Shape W t e → kind_of t e ≤ 17 → (table_by W t).strategies e ≡ SCOPE m y → has m v ≡ false → Below Strategic e y v
    at-scope {m} {y} (is-scope z q a s) h f b =
        let w : word_at t e (1 + W) ≡ y = cc in
        let u : m ≡ mask_by W t e = cc in
        subst (λ y. Below Strategic e y v) w (record { inside = s.0; sort = s.1; up = k.of-scope e v l z a (subst (λ m. has m v ≡ false) u b) })
    at-scope (is_plain z n p o s) h f b = absurd (true≢false (sym p ∙ ap plain f))
    at-scope (is-match z q o s) h f b = impossible (cc)
    at-scope (is-build z q o s) h f b = impossible (cc)
    at-scope (is-variable z q a) h f b = absurd (omega arith)
    at-scope (is-con z q s) h f b = absurd (omega arith)

    at-operand : {y : ℕ} {s : Strategy} → Shape W t e → kind_of t e ≤ 17 → (table_by W t).strategies e ≡ s → In y (operands_of s) → Below Strategic e y v
    unfolding operands_of
    at-operand {y} (is_plain z n p o s) h f i =
        let j : In y (operands t e) = subst (In y) (sym (ap operands_of f) ∙ o) i in
        record { inside = (s y j).0; sort = (s y j).1; up = k.of-operand e y v l n (λ b. absurd (omega arith)) j }
    at-operand (is-match z q o s) h f i = in-none (ap operands_of (sym f ∙ q)) i
    at-operand (is-build z q o s) h f i = in-none (ap operands_of (sym f ∙ q)) i
    at-operand (is-scope z q a s) h f i = in-none (ap operands_of (sym f ∙ q)) i
    at-operand (is-variable z q a) h f i = absurd (omega arith)
    at-operand (is-con z q s) h f i = absurd (omega arith)

  -- it holds of every variable of a pattern
  of-pattern : {p v : ℕ} → Variable (table_by W t) p v → p < rows t → 18 ≤ kind_of t p → P p v
  of-pattern {p} {v} (var f) l h = at-variable p l v (shape W t p some (entry_of W t good p l)) h f
  of-pattern {p} {v} (part f i d) l h =
      let b = at_part p l v (shape W t p some (entry_of W t good p l)) h f i in
      b.up (of-pattern d b.inside b.sort)

  -- and of every free variable of a strategy
  pub of-free : {x v : ℕ} → Free (table_by W t) x v → x < rows t → kind_of t x ≤ 17 → P x v
  of-free {x} {v} (in-match f d) l h =
      let b = at-match x l v (shape W t x some (entry_of W t good x l)) h f in
      b.up (of-pattern d b.inside b.sort)
  of-free {x} {v} (in-build f d) l h =
      let b = at-build x l v (shape W t x some (entry_of W t good x l)) h f in
      b.up (of-pattern d b.inside b.sort)
  of-free {x} {v} (in_scope f n d) l h =
      let b = at-scope x l v (shape W t x some (entry_of W t good x l)) h f n in
      b.up (of-free d b.inside b.sort)
  of-free {x} {v} (in-operand f i d) l h =
      let b = at-operand x l v (shape W t x some (entry_of W t good x l)) h f i in
      b.up (of-free d b.inside b.sort)

-- no variable from their number on is free
small : (W : ℕ) (t : List ℕ) → Keeps W t (λ e v. v < variables_by W)
small W t = record { of-variable = λ e l k a. a; of-operand = λ e y v l n m i h. h; of-scope = λ e v l k a n h. h }

pub free-below : (W : ℕ) → 0 < W → (t : List ℕ) → GoodTableBy W t → (x v : ℕ) → StrategyOf t x → Free (table_by W t) x v → v < variables_by W
free-below W some t good x v s f = of-free W some t good (λ e v. v < variables_by W) (small W t) f s.0 (sort-strategy _ s.1)

-- masks that no rule adds to have every free variable
module _ (W : ℕ) (t ms : List ℕ) (settled : Settled W t ms) where
  -- what the rule gives is in the mask
  settled-has : (e v : ℕ) → e < rows t → has (ruled W t ms e) v ≡ true → has (get_or ms e 0) v ≡ true
  unfolding fuller
  settled-has e v l h =
      sym (ap (λ (m : ℕ). has m v) (stays W t ms e (settled e l))) ∙ has-or (get_or ms e 0) (ruled W t ms e) v ∙ rw h (or-true (has (get_or ms e 0) v))

  -- so the masks keep what the rules keep
  held : Keeps W t (λ e v. (v < variables_by W) × (has (get_or ms e 0) v ≡ true))
  held =
      record {
        of-variable = λ e l k a.
            (a, settled-has e (argument_of t e) l (rw (ruled-variable W t ms e k) (has_one (argument_of t e) (argument_of t e) ∙ eq-eqb (argument_of t e) (argument_of t e) refl)));
        of-operand = λ e y v l n m i h.
            (h.0, settled-has e v l (rw (ruled-joined W t ms e n m) (in-joined ms v 0 (operands t e) y i h.1)));
        of-scope = λ e v l k a n h.
            (h.0, settled-has e v l (rw (ruled-scope W t ms e k, has-and, has-not (variables_by W) (mask_by W t e) v a h.0, n, h.1)));
      }

-- the mask of a strategy, once no rule adds anything
pub mask_is : (W : ℕ) → 0 < W → (t ms : List ℕ) (e : ℕ) → GoodTableBy W t → StrategyOf t e → BitsMeant W t ms → Settled W t ms → (m : ℕ) → m ≡ get_or ms e 0 → m < 2 ^ variables_by W → MaskOfBy W t e m
mask_is W some t ms e good s sound settled m q fits =
    let k : kind_of t e ≤ 17 = sort-strategy _ s.1 in
    record {
      fits = fits;
      free = λ v. (
        λ h. as-strategy W t (sound e v (rw q at h)) k,
        λ f. rw q (of-free W some t good (λ e v. (v < variables_by W) × (has (get_or ms e 0) v ≡ true)) (held W t ms settled) f s.0 k).1,
      );
    }

-- ---- the beginning

get_or-zeros : (n i : ℕ) → ◌≡◌ {A = ℕ} (get_or (replicate n 0) i 0) 0
get_or-zeros zero i = refl
get_or-zeros (suc n) zero = refl
get_or-zeros (suc n) (suc i) = get_or-zeros n i

pub zeros-sound : (W : ℕ) (t : List ℕ) (n : ℕ) → BitsMeant W t (replicate n 0)
zeros-sound W t n e v h = absurd (false≢true (sym (has-nothing v) ∙ ap (λ (m : ℕ). has m v) (sym (get_or-zeros n e)) ∙ h))

-- a strategy of the table
pub strategy-plain : (t : List ℕ) (e : ℕ) → is_strategy t e ≡ true ↔ StrategyOf t e
unfolding is_strategy
strategy-plain t e = (
  λ h. let (a, b) = and-true _ _ h in (ltb-true _ _ a, same_true _ _ b),
  λ p. rw (lt-ltb _ _ p.0, p.1),
)
