-- What 19 and 20 say of a rule, from its variables one by one. Assumes nothing.
use mathlib.Core.Path.{◌≡◌, refl, ap, sym, ◌∙◌, subst}
use mathlib.Core.Bool.{Bool, true, false, not, ◌&&◌, ◌||◌}
use mathlib.Core.Option.{some}
use mathlib.Core.List.{List, [], ◌∷◌, ◌++◌}
use Prim.Native.Nat.{ℕ}
use lib.Dec.{eqb, ltb, leb}
use borrow.Author.Tests.{eqb-true, eq-eqb}
use Rattle.std.specs.Prelude.{if◌then◌else◌}
use Rattle.checks.specs.Kinds.{variables as most}
use Rattle.meaning.proofs.Tests.{impossible, decided}
use Rattle.text.specs.Text.{one_word, number_of, decimal}
use Rattle.text.proofs.Put.{for-one}
use Rattle.text.proofs.Decimal.{number-decimal}
use Rattle.rules.specs.Rule.{Pat, Condition, Rule, variables, member, all_inside, conditions_variables, rule_variables, bound_from, bound}
use Rattle.rules.specs.Text.{pat_fields, conditions_fields, rule_fields, PlainConditions, plain_end, plain-next, PlainRule, constructor, neither, head_of}
use Rattle.rules.specs.Text.{rule_of}
use Rattle.check_rules.specs.Bound.{late_from, late, all_below, variables_answer, RuleLine, Late, one, no, LateIn, answers_variables}
use Rattle.rules.proofs.Reading.{number-plain}
use Rattle.check_rules.proofs.Binding.{head_variables, variables_in, in-append, member-append, in-pat}
use Rattle.check_rules.proofs.Early.{its-rule}

true-false : {A : Type 0} {x : Bool} → x ≡ true → x ≡ false → A
true-false p q = impossible (go (sym p ∙ q))
  where
    go : true ≡ false → ◌≡◌ {A = ℕ} 0 1
    go e = cc

pub or_comm : (x y : Bool) → x || y ≡ y || x
or_comm true true = refl
or_comm true false = refl
or_comm false true = refl
or_comm false false = refl

-- ---- bound, and no variable used too early

-- A member of a list whose members are all in another is in the other.
all-member : (v : ℕ) (vs ws : List ℕ) → all_inside vs ws ≡ true → member v vs ≡ true → member v ws ≡ true
unfolding all_inside member
all-member v [] ws a m = impossible (cc)
all-member v (x ∷ vs) ws a m = go (member x ws) refl (all_inside vs ws) refl a (eqb v x) refl m (all-member v vs ws)
  where
    go : (p : Bool) → member x ws ≡ p → (q : Bool) → all_inside vs ws ≡ q → p && q ≡ true → (e : Bool) → eqb v x ≡ e → e || member v vs ≡ true
        → (all_inside vs ws ≡ true → member v vs ≡ true → member v ws ≡ true) → member v ws ≡ true
    go true i true j a true k m h = subst (λ (y : ℕ). member y ws ≡ true) (sym (eqb-true v x k)) i
    go true i true j a false k m h = h j m
    go true i false j a e k m h = impossible (cc)
    go false i q j a e k m h = impossible (cc)

all_in : (vs ws : List ℕ) → ((v : ℕ) → member v vs && not (member v ws) ≡ false) → all_inside vs ws ≡ true
unfolding all_inside member
all_in [] ws h = refl
all_in (x ∷ vs) ws h = rw (first, all_in vs ws rest)
  where
    first : member x ws ≡ true
    first = go (eqb x x) (eq-eqb x x refl) (member x ws) refl (h x)
      where
        go : (e : Bool) → e ≡ true → (q : Bool) → member x ws ≡ q → (e || member x vs) && not q ≡ false → member x ws ≡ true
        go true i true j z = j
        go true i false j z = impossible (cc)
        go false i q j z = impossible (cc)

    rest : (v : ℕ) → member v vs && not (member v ws) ≡ false
    rest v = go (eqb v x) (member v vs) (not (member v ws)) (h v)
      where
        go : (e p q : Bool) → (e || p) && q ≡ false → p && q ≡ false
        go true true q z = z
        go true false q z = refl
        go false p q z = z

-- The next condition, with what is seen.
seen_more : (v : ℕ) (os ws : List ℕ) → member v ws || member v os ≡ member v (os ++ ws)
seen_more v os ws = or_comm (member v ws) (member v os) ∙ sym (member-append v os ws)

-- A variable used too early: the rule is not bound.
late-unbound : (v : ℕ) (cs : List Condition) (ws : List ℕ) (p : Pat) → late_from v (member v ws) cs p ≡ true → bound_from ws cs p ≡ false
unfolding late_from bound_from
late-unbound v [] ws p e = decided (all_inside (variables p) ws) (λ a. go (member v (variables p)) (member v ws) (all-member v (variables p) ws a) e) (λ a. a)
  where
    go : (x y : Bool) → (x ≡ true → y ≡ true) → x && not y ≡ true → all_inside (variables p) ws ≡ false
    go true true h z = impossible (cc)
    go true false h z = true-false (h refl) refl
    go false y h z = impossible (cc)
late-unbound v (c ∷ cs) ws p e =
    go (all_inside (variables c.start) ws) refl (member v (variables c.start)) (member v ws) (all-member v (variables c.start) ws)
    (subst (λ (s : Bool). (member v (variables c.start) && not (member v ws)) || late_from v s cs p ≡ true) (seen_more v (variables c.outcome) ws) e)
    (late-unbound v cs (variables c.outcome ++ ws) p)
  where
    go : (a : Bool) → all_inside (variables c.start) ws ≡ a → (x y : Bool) → (all_inside (variables c.start) ws ≡ true → x ≡ true → y ≡ true)
        → (x && not y) || late_from v (member v (variables c.outcome ++ ws)) cs p ≡ true
        → (late_from v (member v (variables c.outcome ++ ws)) cs p ≡ true → bound_from (variables c.outcome ++ ws) cs p ≡ false)
        → a && bound_from (variables c.outcome ++ ws) cs p ≡ false
    go false i x y h z k = refl
    go true i true true h z k = k z
    go true i true false h z k = true-false (h i refl) refl
    go true i false y h z k = k z

-- None is used too early: it is bound.
none-late : (cs : List Condition) (ws : List ℕ) (p : Pat) → ((v : ℕ) → late_from v (member v ws) cs p ≡ false) → bound_from ws cs p ≡ true
unfolding late_from bound_from
none-late [] ws p h = all_in (variables p) ws h
none-late (c ∷ cs) ws p h =
    rw (
      all_in (variables c.start) ws (λ v. left (member v (variables c.start) && not (member v ws)) (late_from v (member v ws || member v (variables c.outcome)) cs p) (h v)),
      none-late cs (variables c.outcome ++ ws) p
          (λ v. right (member v (variables c.start) && not (member v ws)) (late_from v (member v (variables c.outcome ++ ws)) cs p)
          (subst (λ (s : Bool). (member v (variables c.start) && not (member v ws)) || late_from v s cs p ≡ false) (seen_more v (variables c.outcome) ws) (h v))),
    )
  where
    left : (x y : Bool) → x || y ≡ false → x ≡ false
    left true y z = impossible (cc)
    left false y z = refl

    right : (x y : Bool) → x || y ≡ false → y ≡ false
    right true y z = impossible (cc)
    right false y z = z

pub late_is : (v : ℕ) (r : Rule) → late v r ≡ true → bound r ≡ false
unfolding late bound
late_is v r e = late-unbound v r.conditions (variables r.left) r.right e

pub never-late : (r : Rule) → ((v : ℕ) → late v r ≡ false) → bound r ≡ true
unfolding late bound
never-late r h = none-late r.conditions (variables r.left) r.right h

-- ---- the variables of a rule's fields

-- A number's field has no variable.
number-none : (f : List ℕ) (c : ℕ) → number_of one_word f ≡ some c → head_variables (head_of f) ≡ []
unfolding number_of head_of
number-none [] c e = impossible (cc)
number-none (b ∷ f) c e = rw (number-plain b f c e, e) (go (leb c 65535))
  where
    go : (q : Bool) → head_variables (if q then constructor c else neither) ≡ []
    go true = refl
    go false = refl

in-conditions : {cs : List Condition} → PlainConditions cs → variables_in (conditions_fields cs) ≡ conditions_variables cs
unfolding conditions_fields variables_in conditions_variables
in-conditions plain_end = refl
in-conditions (plain-next {c = c} {cs = cs} l h k g) =
    rw (
      number-none (decimal c.callee) c.callee (number-decimal for-one c.callee l),
      in-append (pat_fields c.start) (pat_fields c.outcome ++ conditions_fields cs),
      in-append (pat_fields c.outcome) (conditions_fields cs),
      in-pat c.start h,
      in-pat c.outcome k,
      in-conditions g,
    )

pub in-rule : (r : Rule) → PlainRule r → variables_in (rule_fields r) ≡ variables r.left ++ (variables r.right ++ conditions_variables r.conditions)
unfolding rule_fields
in-rule r h =
    rw (
      in-append (pat_fields r.left) (pat_fields r.right ++ conditions_fields r.conditions),
      in-append (pat_fields r.right) (conditions_fields r.conditions),
      in-pat r.left h.left,
      in-pat r.right h.right,
      in-conditions h.conditions,
    )

pub below-append : (xs ys : List ℕ) → all_below (xs ++ ys) ≡ all_below xs && all_below ys
unfolding all_below
below-append [] ys = refl
below-append (x ∷ xs) ys = rw (below-append xs ys) (go (ltb x most))
  where
    go : (b : Bool) → b && (all_below xs && all_below ys) ≡ (b && all_below xs) && all_below ys
    go true = refl
    go false = refl

pub below-rule : (r : Rule) → PlainRule r → all_below (variables_in (rule_fields r)) ≡ all_below (rule_variables r)
unfolding rule_variables
below-rule r h =
    rw (
      in-rule r h,
      below-append (variables r.left) (variables r.right ++ conditions_variables r.conditions),
      below-append (variables r.right) (conditions_variables r.conditions),
      below-append (variables r.left) (conditions_variables r.conditions ++ variables r.right),
      below-append (conditions_variables r.conditions) (variables r.right),
    )
    (ap (λ (x : Bool). all_below (variables r.left) && x) (and_comm (all_below (variables r.right)) (all_below (conditions_variables r.conditions))))
  where
    and_comm : (x y : Bool) → x && y ≡ y && x
    and_comm true true = refl
    and_comm true false = refl
    and_comm false true = refl
    and_comm false false = refl

-- A variable that is used too early is one of the rule's.
pub late-used : (v : ℕ) (cs : List Condition) (seen : Bool) (p : Pat) → late_from v seen cs p ≡ true → member v (variables p ++ conditions_variables cs) ≡ true
unfolding late_from conditions_variables member
late-used v [] seen p e = member-append v (variables p) [] ∙ go (member v (variables p)) seen e
  where
    go : (x y : Bool) → x && not y ≡ true → x || false ≡ true
    go true y z = refl
    go false y z = impossible (cc)
late-used v (c ∷ cs) seen p e =
    rw (
      member-append v (variables p) (variables c.start ++ (variables c.outcome ++ conditions_variables cs)),
      member-append v (variables c.start)
          (variables c.outcome ++ conditions_variables cs),
      member-append v (variables c.outcome) (conditions_variables cs),
    )
    (go (member v (variables p)) (member v (variables c.start)) (member v (variables c.outcome)) (member v (conditions_variables cs)) (not seen)
    (late_from v (seen || member v (variables c.outcome)) cs p) e
    (λ h. sym (member-append v (variables p) (conditions_variables cs)) ∙ late-used v cs (seen || member v (variables c.outcome)) p h))
  where
    go : (x s o m n l : Bool) → (s && n) || l ≡ true → (l ≡ true → x || m ≡ true) → x || (s || (o || m)) ≡ true
    go true s o m n l z h = refl
    go false true o m n l z h = refl
    go false false o m n l z h = more o (h z)
      where
        more : (y : Bool) → m ≡ true → y || m ≡ true
        more true q = refl
        more false q = q

-- ---- the answer

pub answered-early : {l : List ℕ} {right conditions : ℕ} (h : RuleLine l right conditions) (base : ℕ) (answer : Bool) → LateIn (rule_of l) base answer → answer ≡ true → answers_variables (rule_of l) 19
unfolding variables_answer
answered-early {l} h base answer e t = rw (its-rule h) (go (rw (its-rule h) at e))
  where
    go : Late base h.its answer → 19 ≡ variables_answer h.its
    go (one a v k) = rw (late_is v h.its k)
    go (no a k) = true-false t a
