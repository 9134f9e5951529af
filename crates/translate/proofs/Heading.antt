-- The bare entries inside a rule's scope, part by part, and the loop that puts those of its conditions: what is left to put after
-- what was put is all. Assumes nothing.
use mathlib.Core.Path.{◌≡◌, refl, ap, sym, ◌∙◌, subst}
use mathlib.Core.List.{List, [], ◌∷◌, ◌++◌}
use Prim.Native.Nat.{ℕ, ◌+◌, ◌≤◌, ◌<◌}
use native.Mathlib.Omega.{arith}
use lib.ListN.{length, length-append}
use Rattle.words.specs.Words.{rows}
use Rattle.rules.specs.Rule.{Condition, Rule}
use Rattle.rules.specs.Text.{pat_fields, conditions_fields, rule_fields, PlainConditions, rule, rule_of}
use Rattle.rules.specs.Entries.{Entry}
use Rattle.rules.specs.Scan.{fields_from}
use Rattle.rules.specs.Condition.{after_it, ConditionAt}
use Rattle.rules.specs.Condition.{Found}
use Rattle.rules.proofs.Scanning.{fields-past}
use Rattle.check_rules.proofs.Early.{First, first_of, no-conditions, its-rule, right-text, conditions-text, conditions-inside}
use Rattle.translate.specs.Added.{put_entries, Placed}
use Rattle.translate.specs.Bare.{bare_pat, bare_of, body_opened, build_put, bare_condition, bare_conditions, bare_body, bare_found, its_conditions, Fits, PlacedIn}
use Rattle.translate.proofs.Placing.{put-append, placed-more, bare-term, bare-condition}

-- ---- the loop over the conditions

pub record Heading (l : List ℕ) (first : ℕ) (t₀ t : List ℕ) (e at : ℕ) : Type 0 where
  pub its : Rule
  pub is : rule_of l ≡ rule its
  pub rest : List Condition
  pub plain : PlainConditions rest
  pub text : fields_from l at ≡ conditions_fields rest
  pub inside : at ≤ length l + 1
  pub all : put_entries t e (bare_conditions rest) ≡ put_entries t₀ first (bare_conditions its.conditions)
  pub number : e + length (bare_conditions rest) ≡ first + length (bare_conditions its.conditions)
  pub same : length t ≡ length t₀
  pub fits : first + length (bare_conditions its.conditions) ≤ rows t₀

pub heading-begin : {l : List ℕ} {right conditions first : ℕ} (t₀ : List ℕ) → Fits its_conditions l right conditions first (rows t₀) → Heading l first t₀ t₀ first conditions
heading-begin t₀ h = record {
  its = h.line.its;
  is = its-rule h.line;
  rest = h.line.its.conditions;
  plain = h.line.plain.conditions;
  text = conditions-text h.line;
  inside = conditions-inside h.line;
  all = refl;
  number = refl;
  same = refl;
  fits = h.fits;
}

first-long : (c : Condition) (cs : List Condition) → length (bare_conditions (c ∷ cs)) ≡ length (bare_condition c) + length (bare_conditions cs)
unfolding bare_conditions
first-long c cs = length-append (bare_condition c) (bare_conditions cs)

first-put : (t : List ℕ) (e : ℕ) (c : Condition) (cs : List Condition)
    → put_entries (put_entries t e (bare_condition c)) (e + length (bare_condition c)) (bare_conditions cs) ≡ put_entries t e (bare_conditions (c ∷ cs))
unfolding bare_conditions
first-put t e c cs = sym (put-append (bare_condition c) (bare_conditions cs) t e)

none-put : (t : List ℕ) (e : ℕ) (cs : List Condition) → cs ≡ [] → (t ≡ put_entries t e (bare_conditions cs)) × (length (bare_conditions cs) ≡ 0)
unfolding bare_conditions put_entries
none-put t e cs z = (rw z, rw z)

module _ {l : List ℕ} {first : ℕ} {t₀ t : List ℕ} {e at : ℕ} (g : Heading l first t₀ t e at) where
  module _ (inside : at ≤ length l) (r : Found) (found : ConditionAt l at r) where
    next : First l at r g.rest
    next = first_of l at r g.rest inside g.plain g.text found

    long : length (bare_conditions g.rest) ≡ length (bare_found l r) + length (bare_conditions next.others)
    long = ap (λ (cs : List Condition). length (bare_conditions cs)) next.are ∙ first-long next.first next.others ∙ omega (arith, ap length (bare-condition next))

    pub room-condition : e + length (bare_found l r) ≤ rows t
    room-condition = omega (arith, g.number, g.fits, g.same, long)

    pub heading-on : {t' : List ℕ} {e' : ℕ} → Placed t e (bare_found l r) t' e' → length t' ≡ length t → Heading l first t₀ t' e' r.next
    heading-on {t'} {e'} p s =
        let a : r.next ≡ after_it at next.first = ap (λ (x : Found). x.next) next.found in
        let q : Placed t e (bare_condition next.first) t' e' = subst (λ (xs : List Entry). Placed t e xs t' e') (bare-condition next) p in
        record {
          its = g.its;
          is = g.is;
          rest = next.others;
          plain = next.plain;
          text = ap (fields_from l) a ∙ next.text;
          inside = omega (arith, a, next.inside);
          all =
              ap (λ (w : List ℕ). put_entries w e' (bare_conditions next.others)) q.entries
              ∙ ap (λ (n : ℕ). put_entries (put_entries t e (bare_condition next.first)) n (bare_conditions next.others)) q.place
              ∙ first-put t e next.first next.others
              ∙ ap (λ (cs : List Condition). put_entries t e (bare_conditions cs)) (sym next.are)
              ∙ g.all;
          number = omega (arith, p.place, g.number, long);
          same = s ∙ g.same;
          fits = g.fits;
        }

  pub heading-end : length l < at → PlacedIn (rule_of l) its_conditions t₀ first t e
  heading-end past =
      let w = none-put t e g.rest (no-conditions g.rest (sym (fields-past l at past) ∙ g.text)) in
      rw g.is (record { entries = w.0 ∙ g.all; place = omega (arith, g.number, w.1) })

-- ---- all of them

body-long : (r : Rule) → length (bare_body r) ≡ 3 + (length (bare_pat r.left) + (length (bare_conditions r.conditions) + length (bare_pat r.right)))
unfolding bare_body
body-long r =
    omega (
      arith,
      length-append (bare_pat r.left) (bare_conditions r.conditions ++ (build_put ++ bare_pat r.right)),
      length-append (bare_conditions r.conditions)
          (build_put ++ bare_pat r.right),
    )

module _ {l : List ℕ} {right conditions first : ℕ} (t₀ : List ℕ) (h : Fits bare_body l right conditions first (rows t₀)) where
  abbrev r : Rule
  r = h.line.its

  left-bare : bare_of (fields_from l 0) 1 ≡ bare_pat r.left
  unfolding rule_fields
  left-bare = bare-term l 0 r.left (pat_fields r.right ++ conditions_fields r.conditions) h.line.plain.left h.line.text

  right-bare : bare_of (fields_from l right) 1 ≡ bare_pat r.right
  right-bare = bare-term l right r.right (conditions_fields r.conditions) h.line.plain.right (right-text h.line)

  conditions-in : {t t' : List ℕ} {e e' : ℕ} → PlacedIn (rule_of l) its_conditions t e t' e' → Placed t e (bare_conditions r.conditions) t' e'
  conditions-in p = rw (its-rule h.line) at p

  pub room_open : first + 2 ≤ rows t₀
  room_open = omega (arith, h.fits, body-long r)

  module _ {t₁ : List ℕ} {e₁ : ℕ} (opened : Placed t₀ first body_opened t₁ e₁) (same₁ : length t₁ ≡ length t₀) where
    pub room-left : e₁ + length (bare_of (fields_from l 0) 1) ≤ rows t₁
    room-left = omega (arith, h.fits, body-long r, opened.place, ap length left-bare, same₁)

    module _ {t₂ : List ℕ} {e₂ : ℕ} (left : Placed t₁ e₁ (bare_of (fields_from l 0) 1) t₂ e₂) (same₂ : length t₂ ≡ length t₁) where
      pub room-conditions : Fits its_conditions l right conditions e₂ (rows t₂)
      room-conditions = record { line = h.line; fits = omega (arith, h.fits, body-long r, opened.place, left.place, ap length left-bare, same₁, same₂) }

      module _ (t₃ : List ℕ) (e₃ : ℕ) (between : PlacedIn (rule_of l) its_conditions t₂ e₂ t₃ e₃) (same₃ : length t₃ ≡ length t₂) where
        pub room-build : e₃ + 1 ≤ rows t₃
        room-build = omega (arith, h.fits, body-long r, opened.place, left.place, (conditions-in between).place, ap length left-bare, same₁, same₂, same₃)

        module _ {t₄ : List ℕ} {e₄ : ℕ} (build : Placed t₃ e₃ build_put t₄ e₄) (same₄ : length t₄ ≡ length t₃) where
          pub room-right : e₄ + length (bare_of (fields_from l right) 1) ≤ rows t₄
          room-right = omega (
            arith,
            h.fits,
            body-long r,
            opened.place,
            left.place,
            (conditions-in between).place,
            build.place,
            ap length left-bare,
            ap length right-bare,
            same₁,
            same₂,
            same₃,
            same₄,
          )

          pub body-placed : {t₅ : List ℕ} {e₅ : ℕ} → Placed t₄ e₄ (bare_of (fields_from l right) 1) t₅ e₅ → PlacedIn (rule_of l) bare_body t₀ first t₅ e₅
          unfolding bare_body
          body-placed {t₅} {e₅} last =
              let p : Placed t₁ e₁ (bare_pat r.left) t₂ e₂ = subst (λ (xs : List Entry). Placed t₁ e₁ xs t₂ e₂) left-bare left in
              let q : Placed t₄ e₄ (bare_pat r.right) t₅ e₅ = subst (λ (xs : List Entry). Placed t₄ e₄ xs t₅ e₅) right-bare last in
              rw (its-rule h.line) (placed-more opened (placed-more p (placed-more (conditions-in between) (placed-more build q))))
