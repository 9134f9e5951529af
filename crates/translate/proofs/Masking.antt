-- The mask of all variables of a rule's line is that of its SCOPE. Assumes nothing.
use mathlib.Core.Path.{◌≡◌, ap, sym, ◌∙◌}
use mathlib.Core.Bool.{Bool, true, false, ◌||◌}
use mathlib.Core.List.{List, [], ◌∷◌, ◌++◌, append-nil}
use Prim.Native.Nat.{ℕ, ◌+◌, ◌^◌, ◌<◌}
use native.Mathlib.Omega.{arith}
use lib.Dec.{eqb, ltb}
use lib.Pow.{pow-lt}
use lib.Bits.{or_lt}
use lib.ListN.{length}
use borrow.Author.Tests.{ltb-true, ltb-false}
use Rattle.words.proofs.Tests.{and-true}
use Rattle.checks.specs.Kinds.{variables as most}
use Rattle.meaning.specs.Bindings.{has}
use Rattle.meaning.proofs.Bits.{has-nothing, has-or, has_one, has_above, same-mask}
use Rattle.meaning.proofs.Tests.{decided}
use Rattle.rules.specs.Rule.{Rule, variables, member, conditions_variables, rule_variables}
use Rattle.rules.specs.Text.{Fields, rule_fields, PlainRule}
use Rattle.rules.specs.Entries.{mask_of}
use Rattle.rules.specs.Scan.{width, fields_from}
use Rattle.check_rules.specs.Bound.{window, all_below, marks_from, RuleLine}
use Rattle.rules.proofs.Terms.{width-from}
use Rattle.check_rules.proofs.Binding.{variables_in, member-append, marks-has}
use Rattle.check_rules.proofs.Judging.{in-rule, or_comm}

has-mask : (vs : List ℕ) (w : ℕ) → has (mask_of vs) w ≡ member w vs
unfolding mask_of member
has-mask [] w = has-nothing w
has-mask (v ∷ vs) w = has-or (2 ^ v) (mask_of vs) w ∙ ap (λ (x : Bool). x || has (mask_of vs) w) (has_one v w) ∙ ap (λ (x : Bool). eqb w v || x) (has-mask vs w)

-- It has bits for variables in range alone.
pub mask_below : (vs : List ℕ) → all_below vs ≡ true → mask_of vs < 2 ^ most
unfolding mask_of all_below
mask_below [] e = omega arith
mask_below (v ∷ vs) e =
    let p = and-true (ltb v most) _ e in
    or_lt most (2 ^ v) (mask_of vs) (pow-lt (ltb-true v most p.0)) (mask_below vs p.1)

-- A window has no fewer.
below-window : (m : ℕ) → m < 2 ^ most → m < 2 ^ window
below-window m l = omega arith

member-rule : (r : Rule) → PlainRule r → (v : ℕ) → member v (variables_in (rule_fields r)) ≡ member v (rule_variables r)
unfolding rule_variables
member-rule r h v =
    ap (member v) (in-rule r h)
    ∙ member-append v (variables r.left) (variables r.right ++ conditions_variables r.conditions)
    ∙ ap (λ (x : Bool). member v (variables r.left) || x)
    (member-append v (variables r.right) (conditions_variables r.conditions) ∙ or_comm (member v (variables r.right)) (member v (conditions_variables r.conditions))
    ∙ sym (member-append v (conditions_variables r.conditions) (variables r.right)))
    ∙ sym (member-append v (variables r.left) (conditions_variables r.conditions ++ variables r.right))

pub mask_is : {l : List ℕ} {right conditions : ℕ} (h : RuleLine l right conditions) → all_below (rule_variables h.its) ≡ true → (m : ℕ) → m < 2 ^ window
    → m ≡ marks_from 0 (fields_from l 0) 0 (length l + 1) 0 → m ≡ mask_of (rule_variables h.its)
mask_is {l} h below m fits e = same-mask window m (mask_of (rule_variables h.its)) fits small (λ v. decided (ltb v window) (inside v) (outside v))
  where
    small : mask_of (rule_variables h.its) < 2 ^ window
    small = below-window (mask_of (rule_variables h.its)) (mask_below (rule_variables h.its) below)

    whole : 0 + width (rule_fields h.its) ≡ length l + 1
    whole = omega (arith, width-from l 0 (omega arith), ap width h.text)

    bits : (v : ℕ) → v < window → has m v ≡ member (0 + v) (variables_in (rule_fields h.its))
    bits v k =
        ap (λ (x : ℕ). has x v)
        (e
        ∙ ap (λ (fs : Fields). marks_from 0 fs 0 (length l + 1) 0) (h.text ∙ sym (append-nil (rule_fields h.its)))
        ∙ ap (λ (to : ℕ). marks_from 0 (rule_fields h.its ++ []) 0 to 0) (sym whole))
        ∙ marks-has 0 v k (rule_fields h.its) [] 0 0
        ∙ ap (λ (x : Bool). x || member (0 + v) (variables_in (rule_fields h.its))) (has-nothing v)

    inside : (v : ℕ) → ltb v window ≡ true → has m v ≡ has (mask_of (rule_variables h.its)) v
    inside v k =
        let z : 0 + v ≡ v = omega arith in
        bits v (ltb-true v window k) ∙ ap (λ (x : ℕ). member x (variables_in (rule_fields h.its))) z ∙ member-rule h.its h.plain v ∙ sym (has-mask (rule_variables h.its) v)

    outside : (v : ℕ) → ltb v window ≡ false → has m v ≡ has (mask_of (rule_variables h.its)) v
    outside v k = has_above window m v fits (ltb-false v window k) ∙ sym (has_above window (mask_of (rule_variables h.its)) v small (ltb-false v window k))
