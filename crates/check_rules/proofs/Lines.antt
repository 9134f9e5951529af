-- A line that is known to be a rule's text, and the walk over its conditions. Assumes nothing.
use mathlib.Core.Path.{◌≡◌, refl, ap, sym, ◌∙◌, subst}
use mathlib.Core.Bool.{true, false}
use mathlib.Core.List.{List}
use Prim.Native.Nat.{ℕ, ◌≤◌, ◌<◌}
use lib.Dec.{leb}
use lib.ListN.{length}
use borrow.Author.Tests.{leb-true, leb-false}
use denote.Ref.{Bor}
use Rattle.std.specs.Prelude.{Ok}
use Rattle.meaning.proofs.Tests.{impossible, decided}
use Rattle.text.specs.Text.{parts}
use Rattle.rules.specs.Rule.{Condition, Rule, none as no-pats}
use Rattle.rules.specs.Text.{Fields, conditions_fields, PlainConditions, got, bad, read, ReadRule, rule, bad_field, rule_of}
use Rattle.rules.specs.Scan.{fields_from}
use Rattle.rules.specs.Condition.{found_of, ConditionAt}
use Rattle.rules.specs.Shape.{Shape, shape_of}
use Rattle.rules.specs.Walk.{NoneLeft, NextCondition}
use Rattle.rules.specs.declared.condition.Condition as held
use Rattle.rules.specs.declared.condition.Conditions.{Conditions}
use Rattle.rules.specs.declared.rule_text.RuleText.{RuleText}
use Rattle.check_rules.specs.Bound.{RuleLine}
use Rattle.rules.proofs.Reading.{conditions-read}
use Rattle.rules.proofs.Texts.{rule-wrote}
use Rattle.rules.proofs.Shaping.{whole-line}

module _ (l : List ℕ) (s : Shape) (e : s ≡ shape_of (rule_of l)) where
  pub good-rule : s.good ≡ true → (q : Rule) × (rule_of l ≡ rule q)
  good-rule g = go (rule_of l) refl
    where
      go : (x : ReadRule) → rule_of l ≡ x → (q : Rule) × (rule_of l ≡ rule q)
      go (rule q) z = (q, z)
      go (bad_field n) z = impossible (let y : true ≡ false = sym g ∙ ap (λ (x : Shape). x.good) (e ∙ ap shape_of z) in cc)

  module _ (g : s.good ≡ true) where
    abbrev q : Rule
    q = (good-rule g).0

    is : rule_of l ≡ rule q
    is = (good-rule g).1

    shape_is : s ≡ shape_of (rule q)
    shape_is = e ∙ ap shape_of is

    -- A line whose shape is good is a rule's.
    pub rule-line : RuleLine l s.right s.conditions
    unfolding rule_of
    rule-line =
        let w = rule-wrote (parts 9 l) (read (parts 9 l) 2) q refl is in
        record { its = q; plain = w.1; text = whole-line l ∙ w.0; right-at = ap (λ (x : Shape). x.right) shape_is; conditions-at = ap (λ (x : Shape). x.conditions) shape_is }

-- What a rule's text is known to be.
pub known : (r : RuleText) → RuleLine r.line.now r.right r.conditions
known r = rw (r.right_there, r.conditions_there) (rule-line r.line.now (shape_of (rule_of r.line.now)) refl r.good)

-- ---- the conditions

-- The walk ends where nothing is left of the line.
pub walk-ended : {l : Bor (List ℕ)} {s : Conditions} → s.line ≡ l → NoneLeft s → (rest : List Condition) → PlainConditions rest → fields_from l.now s.at ≡ conditions_fields rest → length l.now < s.at
walk-ended {l} {s} i e rest plain t = decided (leb s.at (length l.now)) inside (λ p. leb-false s.at (length l.now) p)
  where
    left : s.at ≤ length l.now → (n : ℕ) × (read (fields_from l.now s.at) 0 ≡ bad n)
    left = subst (λ (x : Bor (List ℕ)). s.at ≤ length x.now → (n : ℕ) × (read (fields_from x.now s.at) 0 ≡ bad n)) i e

    inside : leb s.at (length l.now) ≡ true → length l.now < s.at
    inside p =
        let w = left (leb-true s.at (length l.now) p) in
        impossible (let y : got no-pats rest ≡ bad w.0 = sym (conditions-read rest plain) ∙ ap (λ (fs : Fields). read fs 0) (sym t) ∙ w.1 in cc)

-- The next condition of a line whose walk it is.
pub record Next (l : Bor (List ℕ)) (s : Conditions) (c : held.Condition) (t : Conditions) : Type 0 where
  pub inside : s.at ≤ length l.now
  pub found : ConditionAt l.now s.at (found_of (Ok c))
  pub line : t.line ≡ l
  pub place : t.at ≡ c.next

pub next-of : {l : Bor (List ℕ)} {s : Conditions} {c : held.Condition} {t : Conditions} → s.line ≡ l → NextCondition s c t → Next l s c t
next-of {l} {s} {c} {t} e n = record {
  inside = subst (λ (x : Bor (List ℕ)). s.at ≤ length x.now) e n.inside;
  found = subst (λ (x : Bor (List ℕ)). ConditionAt x.now s.at (found_of (Ok c))) e n.found;
  line = n.line ∙ e;
  place = n.place;
}
