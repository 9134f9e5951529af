-- The loop over a rule's conditions that looks at the numbers of their entries; and the answer to a line. Assumes nothing.
use mathlib.Core.Path.{◌≡◌, refl, ap, sym, ◌∙◌}
use mathlib.Core.Bool.{Bool, true, false}
use mathlib.Core.List.{List, [], ◌∷◌}
use Prim.Native.Nat.{ℕ, ◌+◌, ◌≤◌, ◌<◌}
use native.Mathlib.Omega.{arith}
use lib.Dec.{eqb}
use lib.ListN.{length, get_or, get_or-eq_default}
use borrow.Author.Tests.{lt-ltb, le-ltb, eq-eqb, ne_eqb}
use Rattle.checks.specs.Good.{kind_of}
use Rattle.meaning.proofs.Tests.{impossible}
use Rattle.rules.specs.Rule.{Condition, Rule}
use Rattle.rules.specs.Text.{conditions_fields, PlainConditions, ReadRule, rule, bad_field, rule_of}
use Rattle.rules.specs.Scan.{fields_from}
use Rattle.rules.specs.Condition.{after_it, ConditionAt}
use Rattle.rules.specs.Shape.{shape_of}
use Rattle.check_rules.specs.Bound.{variables_answer, RuleLine, answers_variables}
use Rattle.check_rules.specs.Line.{callable, all_calls, CallsIn, rule_answer, line_of}
use Rattle.rules.specs.Condition.{Found}
use Rattle.check_rules.specs.Line.{Line, line_fault_number, line_told}
use Rattle.check_rules.specs.declared.line.LineFault.{LineFault}
use Rattle.check_rules.specs.declared.line.LineFault.TheVariants.{Shape as Shaped, Unbound, Range, Callee, Room}
use Rattle.std.specs.Prelude.{if◌then◌else◌, Ok, Err}
use Rattle.rules.specs.Rule.{bound, rule_variables}
use Rattle.rules.specs.Walk.{shape_told}
use Rattle.rules.specs.declared.rule_text.RuleText.{RuleText}
use Rattle.check_rules.specs.Bound.{all_below}
use Rattle.rules.specs.Shape.{Shape}
use Rattle.rules.proofs.Scanning.{fields-past}
use Rattle.check_rules.proofs.Lines.{good-rule}
use Rattle.check_rules.proofs.Early.{First, first_of, no-conditions, its-rule, conditions-text, conditions-inside}

-- The rest of the conditions decides.
pub record Calls (f : ℕ → Bool) (l : List ℕ) (at : ℕ) : Type 0 where
  pub its : Rule
  pub is : rule_of l ≡ rule its
  pub rest : List Condition
  pub plain : PlainConditions rest
  pub text : fields_from l at ≡ conditions_fields rest
  pub inside : at ≤ length l + 1
  pub same : all_calls f rest ≡ all_calls f its.conditions

pub calls-begin : {l : List ℕ} {right conditions : ℕ} (f : ℕ → Bool) (h : RuleLine l right conditions) → Calls f l conditions
calls-begin f h = record { its = h.its; is = its-rule h; rest = h.its.conditions; plain = h.plain.conditions; text = conditions-text h; inside = conditions-inside h; same = refl }

calls-first : (f : ℕ → Bool) (c : Condition) (cs : List Condition) → f c.callee ≡ true → all_calls f (c ∷ cs) ≡ all_calls f cs
unfolding all_calls
calls-first f c cs e = rw e

calls-never : (f : ℕ → Bool) (c : Condition) (cs : List Condition) → f c.callee ≡ false → all_calls f (c ∷ cs) ≡ false
unfolding all_calls
calls-never f c cs e = rw e

calls-none : (f : ℕ → Bool) (cs : List Condition) → cs ≡ [] → all_calls f cs ≡ true
unfolding all_calls
calls-none f cs e = rw e

module _ {f : ℕ → Bool} {l : List ℕ} {at : ℕ} (k : Calls f l at) where
  calls-in : (answer : Bool) → answer ≡ all_calls f k.its.conditions → CallsIn (rule_of l) f answer
  calls-in answer e = rw k.is e

  module _ (inside : at ≤ length l) (r : Found) (found : ConditionAt l at r) (answer : Bool) (e : answer ≡ f r.callee) where
    next : First l at r k.rest
    next = first_of l at r k.rest inside k.plain k.text found

    its-answer : f next.first.callee ≡ answer
    its-answer = sym (e ∙ ap f (ap (λ (x : Found). x.callee) next.found))

    pub calls-not : answer ≡ false → CallsIn (rule_of l) f false
    calls-not z = calls-in false (sym (sym k.same ∙ ap (all_calls f) next.are ∙ calls-never f next.first next.others (its-answer ∙ z)))

    pub calls-on : answer ≡ true → Calls f l r.next
    calls-on z =
        let t : r.next ≡ after_it at next.first = ap (λ (x : Found). x.next) next.found in
        record {
          its = k.its;
          is = k.is;
          rest = next.others;
          plain = next.plain;
          text = ap (fields_from l) t ∙ next.text;
          inside = omega (arith, t, next.inside);
          same = sym (ap (all_calls f) next.are ∙ calls-first f next.first next.others (its-answer ∙ z)) ∙ k.same;
        }

    pub calls-further : at < r.next
    calls-further = let t : r.next ≡ after_it at next.first = ap (λ (x : Found). x.next) next.found in omega arith

  pub calls-end : length l < at → CallsIn (rule_of l) f true
  calls-end past = calls-in true (sym (sym k.same ∙ calls-none f k.rest (no-conditions k.rest (sym (fields-past l at past) ∙ k.text))))

-- ---- one entry

module _ (t ms : List ℕ) (u x : ℕ) where
  pub not-used : u ≤ x → false ≡ callable t ms u x
  unfolding callable
  not-used h = rw (le-ltb x u h)

  pub not-rec : x < u → (n : ℕ) → n ≡ kind_of t x → (n ≡ 7 → ⊥) → false ≡ callable t ms u x
  unfolding callable
  not-rec h n e k = rw (lt-ltb x u h, ← e, ne_eqb n 7 k)

  pub by_mask : x < u → (n : ℕ) → n ≡ kind_of t x → n ≡ 7 → eqb (get_or ms x 0) 0 ≡ callable t ms u x
  unfolding callable
  by_mask h n e k = rw (lt-ltb x u h, ← e, eq-eqb n 7 k)

  pub no-mask : x < u → (n : ℕ) → n ≡ kind_of t x → n ≡ 7 → length ms ≤ x → true ≡ callable t ms u x
  unfolding callable
  no-mask h n e k l = rw (lt-ltb x u h, ← e, eq-eqb n 7 k, get_or-eq_default ms 0 l)

-- ---- the line

answer-variables : (f : ℕ → Bool) (q : Rule) (v : ℕ) → v ≡ variables_answer q → (v ≡ 0 → ⊥) → v ≡ rule_answer f q
unfolding rule_answer
answer-variables f q v z n = rw (← z, ne_eqb v 0 n)

answer-calls : (f : ℕ → Bool) (q : Rule) → variables_answer q ≡ 0 → all_calls f q.conditions ≡ true → 0 ≡ rule_answer f q
unfolding rule_answer
answer-calls f q z k = rw (z, k)

answer-called : (f : ℕ → Bool) (q : Rule) → variables_answer q ≡ 0 → all_calls f q.conditions ≡ false → 22 ≡ rule_answer f q
unfolding rule_answer
answer-called f q z k = rw (z, k)

line_made : (f : ℕ → Bool) (q : Rule) (s : Shape) (x : ReadRule) (answer : ℕ) → x ≡ rule q → s ≡ shape_of (rule q) → answer ≡ rule_answer f q
    → record { answer = answer; field = s.field; size = s.size } ≡ line_of f x
line_made f q s x answer i e z = rw (i, e, z)

module _ (l : List ℕ) (s : Shape) (e : s ≡ shape_of (rule_of l)) where
  module _ (g : s.good ≡ true) where
    abbrev q : Rule
    q = (good-rule l s e g).0

    is : rule_of l ≡ rule q
    is = (good-rule l s e g).1

    shape_is : s ≡ shape_of (rule q)
    shape_is = e ∙ ap shape_of is

    module _ (f : ℕ → Bool) (v : ℕ) (variables : answers_variables (rule_of l) v) where
      its-variables : v ≡ variables_answer q
      its-variables = rw is at variables

      made : (answer : ℕ) → answer ≡ rule_answer f q → record { answer = answer; field = s.field; size = s.size } ≡ line_of f (rule_of l)
      made answer z = line_made f q s (rule_of l) answer is shape_is z

      -- Its variables, or else its conditions' numbers, decide.
      pub line-variables : (v ≡ 0 → ⊥) → record { answer = v; field = s.field; size = s.size } ≡ line_of f (rule_of l)
      line-variables n = made v (by-variables its-variables)
        where
          by-variables : v ≡ variables_answer q → v ≡ rule_answer f q
          by-variables z = answer-variables f q v z n

      pub line-calls : v ≡ 0 → (b : Bool) → CallsIn (rule_of l) f b → b ≡ true → record { answer = 0; field = s.field; size = s.size } ≡ line_of f (rule_of l)
      line-calls z b k t = made 0 (answer-calls f q (sym its-variables ∙ z) (sym (rw is at k) ∙ t))

      pub line-called : v ≡ 0 → (b : Bool) → CallsIn (rule_of l) f b → b ≡ false → record { answer = 22; field = s.field; size = s.size } ≡ line_of f (rule_of l)
      line-called z b k t = made 22 (answer-called f q (sym its-variables ∙ z) (sym (rw is at k) ∙ t))

  pub line-bad : (f : ℕ → Bool) → s.good ≡ false → record { answer = 18; field = s.field; size = 0 } ≡ line_of f (rule_of l)
  line-bad f g = go (rule_of l) refl
    where
      broken : ℕ → Line
      broken n = record { answer = 18; field = n; size = 0 }

      go : (x : ReadRule) → rule_of l ≡ x → record { answer = 18; field = s.field; size = 0 } ≡ line_of f (rule_of l)
      go (rule r) z = impossible (let y : true ≡ false = ap (λ (x : Shape). x.good) (sym (e ∙ ap shape_of z)) ∙ g in cc)
      go (bad_field n) z = ap broken (ap (λ (x : Shape). x.field) (e ∙ ap shape_of z)) ∙ ap (line_of f) (sym z)

-- ---- what the code tells of the line

-- 18 is none of the answers to its variables.
not-eighteen : (q : Rule) → ◌≡◌ {A = ℕ} (variables_answer q) 18 → ⊥
unfolding variables_answer
not-eighteen q = go (bound q) (all_below (rule_variables q))
  where
    go : (x y : Bool) → ◌≡◌ {A = ℕ} (if x then (if y then 0 else 20) else 19) 18 → ⊥
    go true true e = absurd (omega arith)
    go true false e = absurd (omega arith)
    go false y e = absurd (omega arith)

fault-some : (f : LineFault) → line_fault_number f ≡ 0 → ⊥
fault-some (Shaped n) e = absurd (omega arith)
fault-some Unbound e = absurd (omega arith)
fault-some Range e = absurd (omega arith)
fault-some Callee e = absurd (omega arith)
fault-some Room e = absurd (omega arith)

module _ (l : List ℕ) (f : ℕ → Bool) where
  pub told-shape : (n : ℕ) → shape_told (Err n) ≡ shape_of (rule_of l) → line_told (line_of f (rule_of l)) (Err (Shaped n))
  told-shape n e =
      let z = line-bad l (shape_told (Err n)) e f refl in
      (ap (λ (x : Line). x.answer) (sym z), λ h. ap (λ (x : Line). x.field) (sym z))

  module _ (r : RuleText) (e : shape_told (Ok r) ≡ shape_of (rule_of l)) where
    pub told-variables : (v : LineFault) → answers_variables (rule_of l) (line_fault_number v) → line_told (line_of f (rule_of l)) (Err v)
    told-variables v k =
        let s = shape_told (Ok r) in
        let z = line-variables l s e refl f (line_fault_number v) k (fault-some v) in
        let a : (line_of f (rule_of l)).answer ≡ line_fault_number v = ap (λ (x : Line). x.answer) (sym z) in
        (a, λ h. absurd (not-eighteen (good-rule l s e refl).0 (sym (rw (good-rule l s e refl).1 at k) ∙ sym a ∙ h)))

    pub made-variables : (v : LineFault) → answers_variables (rule_of l) (line_fault_number v) → record { answer = line_fault_number v; field = r.field; size = r.size } ≡ line_of f (rule_of l)
    made-variables v k = line-variables l (shape_told (Ok r)) e refl f (line_fault_number v) k (fault-some v)

    pub told-calls : answers_variables (rule_of l) 0 → (b : Bool) → CallsIn (rule_of l) f b → b ≡ true → line_told (line_of f (rule_of l)) (Ok r.size)
    told-calls k b c t =
        let z = line-calls l (shape_told (Ok r)) e refl f 0 k refl b c t in
        (ap (λ (x : Line). x.answer) (sym z), ap (λ (x : Line). x.size) (sym z))

    pub told-called : answers_variables (rule_of l) 0 → (b : Bool) → CallsIn (rule_of l) f b → b ≡ false → line_told (line_of f (rule_of l)) (Err Callee)
    told-called k b c t =
        let z = line-called l (shape_told (Ok r)) e refl f 0 k refl b c t in
        let a : (line_of f (rule_of l)).answer ≡ 22 = ap (λ (x : Line). x.answer) (sym z) in
        (a, λ h. absurd (omega arith))
