-- Variables out of range: whether a line has one, and what the passes over it say together. Assumes nothing.
use mathlib.Core.Path.{◌≡◌, refl, ap, sym, ◌∙◌}
use mathlib.Core.Logic.{◌⊎◌, inl, inr, ⊎_elim}
use mathlib.Core.Bool.{Bool, true, false, not, ◌&&◌, ◌||◌}
use mathlib.Core.List.{List, [], ◌∷◌, ◌++◌}
use Prim.Native.Nat.{ℕ, ◌+◌, ◌≤◌, ◌<◌}
use native.Mathlib.Omega.{arith}
use lib.Dec.{leb, ltb, eqb}
use lib.ListN.{length}
use borrow.Author.Tests.{eqb-true, le-ltb, ltb-true, ltb-false, le-leb, leb-true}
use Rattle.checks.specs.Kinds.{variables as most}
use Rattle.meaning.proofs.Tests.{impossible, decided}
use Rattle.std.specs.List.{list_any}
use Rattle.rules.specs.Rule.{Pat, Pats, Condition, Rule, variables, variables_all, member, conditions_variables, rule_variables}
use Rattle.rules.specs.Text.{Fields, rule_fields, Plain, plain-var, plain-con, Plains, plain-none, plain_more, PlainConditions, plain_end, plain-next, PlainRule}
use Rattle.rules.specs.Text.{Head, variable, constructor, neither, head_of, rule, rule_of}
use Rattle.rules.specs.Scan.{fields_from}
use Rattle.rules.specs.Walk.{begun}
use Rattle.rules.proofs.Terms.{begun-whole}
use Rattle.check_rules.specs.Bound.{late, all_below, variables_answer, RuleLine, Late, LateIn, answers_variables}
use Rattle.check_rules.specs.Bound as bounded
use Rattle.check_rules.specs.Far.{numbers, outside_range, any_outside, Settles, SettlesIn, Far, FarIn}
use Rattle.check_rules.specs.Far as far
use Rattle.check_rules.specs.Far.{Settled}
use Rattle.check_rules.proofs.Binding.{head_variables, variables_in, member-append}
use Rattle.check_rules.proofs.Early.{its-rule}
use Rattle.check_rules.proofs.Judging.{late_is, never-late, late-used, below-rule, below-append}

no_true : {A : Type 0} {x : Bool} → x ≡ false → x ≡ true → A
no_true p q = impossible (let z : true ≡ false = sym q ∙ p in cc)

-- ---- a variable out of range

pub outside-any : (fs : Fields) → list_any (λ f. outside_range (head_of f)) fs ≡ any_outside fs
unfolding any_outside
outside-any [] = refl
outside-any (f ∷ fs) = ap (λ (x : Bool). outside_range (head_of f) || x) (outside-any fs)

-- The fields of a whole line.
pub outside_whole : (l : List ℕ) → any_outside (fields_from l 0) ≡ list_any (λ f. outside_range (head_of f)) (begun (fields_from l 0) 0 (length l + 1))
outside_whole l = ap any_outside (sym (begun-whole l)) ∙ sym (outside-any (begun (fields_from l 0) 0 (length l + 1)))

outside-head : (h : Head) → outside_range h ≡ not (all_below (head_variables h))
unfolding all_below
outside-head (variable v) = decided (leb most v) (λ p. rw (p, le-ltb v most (leb-true most v p))) (λ p. go (ltb v most) refl p)
  where
    go : (b : Bool) → ltb v most ≡ b → leb most v ≡ false → leb most v ≡ not (b && true)
    go true i p = p
    go false i p = no_true p (le-leb most v (ltb-false v most i))
outside-head (constructor c) = refl
outside-head neither = refl

pub outside-is : (fs : Fields) → any_outside fs ≡ not (all_below (variables_in fs))
unfolding any_outside variables_in all_below
outside-is [] = refl
outside-is (f ∷ fs) =
    rw (outside-head (head_of f), outside-is fs, below-append (head_variables (head_of f)) (variables_in fs)) (go (all_below (head_variables (head_of f))) (all_below (variables_in fs)))
  where
    go : (x y : Bool) → not x || not y ≡ not (x && y)
    go true y = refl
    go false y = refl

-- The line's rule has one, or it has none.
pub range-is : {l : List ℕ} {right conditions : ℕ} (h : RuleLine l right conditions) (answer : Bool) → answer ≡ any_outside (fields_from l 0) → all_below (rule_variables h.its) ≡ not answer
range-is {l} h answer e = sym (below-rule h.its h.plain) ∙ go (all_below (variables_in (rule_fields h.its))) (e ∙ ap any_outside h.text ∙ outside-is (rule_fields h.its))
  where
    go : (b : Bool) → answer ≡ not b → b ≡ not answer
    go true z = ap not (sym z)
    go false z = ap not (sym z)

-- ---- no variable is greater than a field can hold

either : (x y : Bool) → x || y ≡ true → (x ≡ true) ⊎ (y ≡ true)
either true y e = inl refl
either false y e = inr e

both : (x y : Bool) → x && y ≡ true → (x ≡ true) × (y ≡ true)
both true true z = (refl, refl)
both true false z = impossible (cc)
both false y z = impossible (cc)

module _ (v : ℕ) where
  in_either : {A : Type 0} (xs ys : List ℕ) → member v (xs ++ ys) ≡ true → (member v xs ≡ true → A) → (member v ys ≡ true → A) → A
  in_either xs ys m f g = ⊎_elim f g (either (member v xs) (member v ys) (sym (member-append v xs ys) ∙ m))

  mutual
    unfolding variables variables_all member

    pat-below : {p : Pat} → Plain p → member v (variables p) ≡ true → v < numbers
    pat-below (plain-var {v = w} l) m = go (eqb v w) refl m
      where
        go : (b : Bool) → eqb v w ≡ b → b || false ≡ true → v < numbers
        go true e z = let q : v ≡ w = eqb-true v w e in omega arith
        go false e z = impossible (cc)
    pat-below (plain-con l k h) m = pats-below h m

    pats-below : {ps : Pats} → Plains ps → member v (variables_all ps) ≡ true → v < numbers
    pats-below plain-none m = impossible (cc)
    pats-below (plain_more {p = p} {ps = ps} h k) m = in_either (variables p) (variables_all ps) m (λ n. pat-below h n) (λ n. pats-below k n)

  conditions-below : {cs : List Condition} → PlainConditions cs → member v (conditions_variables cs) ≡ true → v < numbers
  unfolding conditions_variables member
  conditions-below plain_end m = impossible (cc)
  conditions-below (plain-next {c = c} {cs = cs} l h k g) m =
      in_either (variables c.start) (variables c.outcome ++ conditions_variables cs) m (λ n. pat-below h n)
      (λ n. in_either (variables c.outcome) (conditions_variables cs) n (λ z. pat-below k z) (λ z. conditions-below g z))

  late_below : (r : Rule) → PlainRule r → late v r ≡ true → v < numbers
  unfolding late
  late_below r h e =
      in_either (variables r.right) (conditions_variables r.conditions)
      (late-used v r.conditions (member v (variables r.left)) r.right e) (pat-below h.right) (conditions-below h.conditions)

  one_below : (xs : List ℕ) → all_below xs ≡ true → member v xs ≡ true → v < most
  unfolding all_below member
  one_below [] z m = impossible (cc)
  one_below (x ∷ xs) z m =
      ⊎_elim (λ i. let q : v ≡ x = eqb-true v x i in let k = ltb-true x most (both (ltb x most) (all_below xs) z).0 in omega arith)
      (one_below xs (both (ltb x most) (all_below xs) z).1) (either (eqb v x) (member v xs) m)

  -- A variable that is used too early is one of the rule's.
  late-in-range : (r : Rule) → all_below (rule_variables r) ≡ true → late v r ≡ true → v < most
  unfolding late rule_variables
  late-in-range r b e =
      let parts = below-append (variables r.left) (conditions_variables r.conditions ++ variables r.right) in
      let rest = (both (all_below (variables r.left)) (all_below (conditions_variables r.conditions ++ variables r.right)) (sym parts ∙ b)).1 in
      let two = both (all_below (conditions_variables r.conditions)) (all_below (variables r.right)) (sym (below-append (conditions_variables r.conditions) (variables r.right)) ∙ rest) in
      in_either (variables r.right) (conditions_variables r.conditions) (late-used v r.conditions (member v (variables r.left)) r.right e)
      (one_below (variables r.right) two.1) (one_below (conditions_variables r.conditions) two.0)

-- ---- the passes

-- Of the variables below a number none is used too early.
pub record Ranging (l : List ℕ) (low : ℕ) : Type 0 where
  pub its : Rule
  pub is : rule_of l ≡ rule its
  pub from : most ≤ low
  pub fine : (v : ℕ) → most ≤ v → v < low → late v its ≡ false

module _ {l : List ℕ} {right conditions : ℕ} (h : RuleLine l right conditions) where
  -- A pass, or a look at the line, finds one.
  pub far-early : (low : ℕ) (s : Settled) → SettlesIn (rule_of l) low s → s.late ≡ true → FarIn (rule_of l) 19
  far-early low s e t = rw (its-rule h) (go (rw (its-rule h) at e))
    where
      go : Settles h.its low s → Far h.its 19
      go (far.one a v k) = far.one refl v k
      go (far.no a k) = no_true a t

  pub far-asked : (low : ℕ) (answer : Bool) → LateIn (rule_of l) low answer → answer ≡ true → FarIn (rule_of l) 19
  far-asked low answer e t = rw (its-rule h) (go (rw (its-rule h) at e))
    where
      go : Late low h.its answer → Far h.its 19
      go (bounded.one a v k) = far.one refl v k
      go (bounded.no a k) = no_true a t

  far_none : Ranging l most
  far_none = record { its = h.its; is = its-rule h; from = omega arith; fine = λ v p q. absurd (omega arith) }

module _ {l : List ℕ} {low : ℕ} (g : Ranging l low) where
  pub far-on : (s : Settled) → SettlesIn (rule_of l) low s → s.late ≡ false → (next : ℕ) → low ≤ next → (next ≡ low) ⊎ (next ≡ s.below) → Ranging l next
  far-on s e f next more is = record {
    its = g.its;
    is = g.is;
    from = omega (arith, g.from);
    fine = λ v p q. go (rw g.is at e) v p q;
  }
    where
      go : Settles g.its low s → (v : ℕ) → most ≤ v → v < next → late v g.its ≡ false
      go (far.one a w k) v p q = no_true f a
      go (far.no a k) v p q = decided (ltb v low) (λ z. g.fine v p (ltb-true v low z))
          (λ z. let y = ltb-false v low z in ⊎_elim (λ x. absurd (omega arith)) (λ x. k v y (omega arith)) is)

  pub far-one : (answer : Bool) → LateIn (rule_of l) low answer → answer ≡ false → Ranging l (low + 1)
  far-one answer e f = record {
    its = g.its;
    is = g.is;
    from = omega (arith, g.from);
    fine = λ v p q. go (rw g.is at e) v p q;
  }
    where
      go : Late low g.its answer → (v : ℕ) → most ≤ v → v < low + 1 → late v g.its ≡ false
      go (bounded.one a w k) v p q = no_true f a
      go (bounded.no a k) v p q = decided (ltb v low) (λ z. g.fine v p (ltb-true v low z)) (λ z. let y = ltb-false v low z in k v y (omega arith))

  pub far-end : numbers ≤ low → FarIn (rule_of l) 20
  far-end k = rw g.is (go)
    where
      go : Far g.its 20
      go = far.no refl (λ v p q. g.fine v p (omega arith))

pub far-begin : {l : List ℕ} {right conditions : ℕ} (h : RuleLine l right conditions) (s : Settled) → SettlesIn (rule_of l) most s → s.late ≡ false → (next : ℕ) → most ≤ next
    → (next ≡ most) ⊎ (next ≡ s.below) → Ranging l next
far-begin h s e f next more is = far-on (far_none h) s e f next more is

-- ---- the answer

module _ {l : List ℕ} {right conditions : ℕ} (h : RuleLine l right conditions) (answer : Bool) (e : LateIn (rule_of l) 0 answer) (f : answer ≡ false) where
  near-fine : (v : ℕ) → v < most → late v h.its ≡ false
  near-fine v k = go (rw (its-rule h) at e)
    where
      go : Late 0 h.its answer → late v h.its ≡ false
      go (bounded.one a w m) = no_true f a
      go (bounded.no a m) = m v (omega arith) (omega arith)

  -- A variable is out of range.
  pub answer-far : (any : Bool) → any ≡ any_outside (fields_from l 0) → any ≡ true → (found : ℕ) → FarIn (rule_of l) found → answers_variables (rule_of l) found
  unfolding variables_answer
  answer-far any i t found k = rw (its-rule h) (go (rw (its-rule h) at k))
    where
      fine : ((v : ℕ) → most ≤ v → v < numbers → late v h.its ≡ false) → (v : ℕ) → late v h.its ≡ false
      fine m v =
          decided (late v h.its)
          (λ z. decided (ltb v most) (λ y. near-fine v (ltb-true v most y)) (λ y. m v (ltb-false v most y) (late_below v h.its h.plain z)))
          (λ z. z)

      go : Far h.its found → found ≡ variables_answer h.its
      go (far.one a v m) = a ∙ rw (late_is v h.its m)
      go (far.no a m) = a ∙ rw (never-late h.its (fine m), range-is h any i, t)

  -- None is.
  pub answer-near : (any : Bool) → any ≡ any_outside (fields_from l 0) → any ≡ false → answers_variables (rule_of l) 0
  unfolding variables_answer
  answer-near any i n = rw (its-rule h) (rw (never-late h.its fine, range))
    where
      range : all_below (rule_variables h.its) ≡ true
      range = range-is h any i ∙ ap not n

      fine : (v : ℕ) → late v h.its ≡ false
      fine v = decided (late v h.its) (λ z. near-fine v (late-in-range v h.its range z)) (λ z. z)
