-- The loop over a rule's conditions that looks for a variable used before it is bound. Assumes nothing.
use mathlib.Core.Path.{◌≡◌, refl, ap, sym, ◌∙◌, subst}
use mathlib.Core.Logic.{⊎_elim, ◌⊎◌, inl, inr}
use mathlib.Core.Bool.{Bool, true, false, not, ◌&&◌, ◌||◌}
use mathlib.Core.List.{List, [], ◌∷◌, ◌++◌, append_assoc}
use Prim.Native.Nat.{ℕ, zero, suc, ◌+◌, ◌-◌, ◌^◌, ◌≤◌, ◌<◌}
use native.Mathlib.Omega.{arith}
use lib.Dec.{eqb, ltb}
use lib.Bits.{bit_and, bit_or, and_le_l}
use lib.ListN.{length}
use borrow.Author.Tests.{eqb-true, eqb-false, ltb-true, ltb-false}
use Rattle.meaning.specs.Bindings.{has}
use Rattle.meaning.proofs.Bits.{has-and, has-or, has_above, same-mask}
use Rattle.meaning.proofs.Tests.{impossible, decided}
use Rattle.text.specs.Text.{decimal}
use Rattle.text.proofs.Put.{for-one}
use Rattle.text.proofs.Decimal.{number-decimal}
use Rattle.rules.specs.Rule.{Pat, Pats, Condition, Rule, variables, member, none as no-pats}
use Rattle.rules.specs.Text.{Fields, pat_fields, pats_fields, conditions_fields, rule_fields, Plain, PlainConditions, plain-next, Read, got, bad, later}
use Rattle.rules.specs.Text.{condition_of, read, rule, rule_from, rule_of}
use Rattle.rules.specs.Scan.{width, fields_from}
use Rattle.rules.specs.Condition.{start_at, outcome_at, after_it, found_at, ConditionAt, condition, none as no-condition}
use Rattle.check_rules.specs.Bound.{window, late_from, late, marks_from, RuleLine, Late, one, no, LateIn}
use Rattle.rules.specs.Condition.{Found}
use Rattle.rules.proofs.Reading.{Wrote, read-wrote, count_none, two-read, conditions-read, rule-read}
use Rattle.rules.proofs.Terms.{width-append, width-from, width-most, fields-along}
use Rattle.rules.proofs.Scanning.{fields-past}
use Rattle.rules.proofs.Shaping.{conditions-bad, whole-line}
use Rattle.check_rules.proofs.Binding.{term-marks}

-- ---- a mask within a mask

module _ (a b : ℕ) where
  missing-below : (n : ℕ) → ((j : ℕ) → j < n → has a j ≡ true → has b j ≡ true) ⊎ ((j : ℕ) × (j < n) × (has a j ≡ true) × (has b j ≡ false))
  missing-below zero = inl (λ j l. absurd (omega arith))
  missing-below (suc n) = ⊎_elim (λ all. decided (has a n) (λ p. decided (has b n) (λ q. inl (more all (λ z. q))) (λ q. inr (n, omega arith, p, q)))
      (λ p. inl (more all (λ z. impossible (let y : true ≡ false = sym z ∙ p in cc))))) (λ w. inr (w.0, omega (arith, w.1), w.2, w.3)) (missing-below n)
    where
      more : ((j : ℕ) → j < n → has a j ≡ true → has b j ≡ true) → (has a n ≡ true → has b n ≡ true) → (j : ℕ) → j < suc n → has a j ≡ true → has b j ≡ true
      more all last j l h = decided (ltb j n) (λ e. all j (ltb-true j n e) h)
          (λ e. let z : n ≡ j = omega (arith, ltb-false j n e) in subst (λ (i : ℕ). has b i ≡ true) z (last (subst (λ (i : ℕ). has a i ≡ true) (sym z) h)))

  within : a < 2 ^ window → ((j : ℕ) → j < window → has a j ≡ true → has b j ≡ true) → bit_and a b ≡ a
  within l all = same-mask window (bit_and a b) a (omega (arith, and_le_l a b)) l (λ v. has-and a b v ∙ decided (has a v) (yes v) (none v))
    where
      none : (v : ℕ) → has a v ≡ false → has a v && has b v ≡ has a v
      none v e = rw e

      yes : (v : ℕ) → has a v ≡ true → has a v && has b v ≡ has a v
      yes v e = decided (ltb v window) (λ h. rw (e, all v (ltb-true v window h) e)) (λ h. impossible (let z : true ≡ false = sym e ∙ has_above window a v l (ltb-false v window h) in cc))

  -- A bit of a that b lacks.
  pub missing : a < 2 ^ window → (bit_and a b ≡ a → ⊥) → (j : ℕ) × (j < window) × (has a j ≡ true) × (has b j ≡ false)
  missing l n = ⊎_elim (λ all. absurd (n (within l all))) (λ w. w) (missing-below window)

  -- Where a is within b there is none.
  pub none-missing : bit_and a b ≡ a → (j : ℕ) → has a j && not (has b j) ≡ false
  none-missing e j = go (has a j) (has b j) (sym (has-and a b j) ∙ ap (λ (m : ℕ). has m j) e)
    where
      go : (x y : Bool) → x && y ≡ x → x && not y ≡ false
      go true true z = refl
      go true false z = impossible (cc)
      go false y z = refl

-- ---- the next condition

-- The condition that was found is the first of the rest.
pub record First (l : List ℕ) (at : ℕ) (r : Found) (rest : List Condition) : Type 0 where
  pub first : Condition
  pub others : List Condition
  pub are : rest ≡ first ∷ others
  pub found : r ≡ found_at at first
  pub start : Plain first.start
  pub outcome : Plain first.outcome
  pub plain : PlainConditions others
  pub start-text : fields_from l (start_at at first) ≡ pat_fields first.start ++ fields_from l (outcome_at at first)
  pub outcome-text : fields_from l (outcome_at at first) ≡ pat_fields first.outcome ++ fields_from l (after_it at first)
  pub text : fields_from l (after_it at first) ≡ conditions_fields others
  pub inside : after_it at first ≤ length l + 1

one-read : (c : Condition) (fs : Fields) (cs : List Condition) → PlainConditions (c ∷ []) → read fs 0 ≡ got no-pats cs → read (conditions_fields (c ∷ []) ++ fs) 0 ≡ got no-pats (c ∷ cs)
unfolding read conditions_fields condition_of later
one-read c fs cs (plain-next l h k g) e =
    let z : (pat_fields c.start ++ (pat_fields c.outcome ++ [])) ++ fs ≡ pat_fields c.start ++ (pat_fields c.outcome ++ fs) =
    append_assoc (pat_fields c.start) (pat_fields c.outcome ++ []) fs ∙ ap (λ (gs : Fields). pat_fields c.start ++ gs) (append_assoc (pat_fields c.outcome) [] fs) in
    rw (number-decimal for-one c.callee l, z, two-read c.start c.outcome h k fs cs e)

-- Of one condition and fields that are conditions, the fields are the conditions after the first.
split : (c : Condition) (fs : Fields) (rest : List Condition) → PlainConditions (c ∷ []) → PlainConditions rest → conditions_fields (c ∷ []) ++ fs ≡ conditions_fields rest
    → (cs : List Condition) × (rest ≡ c ∷ cs) × (fs ≡ conditions_fields cs) × PlainConditions cs
unfolding pats_fields
split c fs rest h k e = go (read fs 0) refl
  where
    all : read (conditions_fields (c ∷ []) ++ fs) 0 ≡ got no-pats rest
    all = ap (λ (gs : Fields). read gs 0) e ∙ conditions-read rest k

    whole : (cs : List Condition) → read fs 0 ≡ got no-pats cs → Wrote fs 0 no-pats cs → (ds : List Condition) × (rest ≡ c ∷ ds) × (fs ≡ conditions_fields ds) × PlainConditions ds
    whole cs i w =
        let z : got no-pats rest ≡ got no-pats (c ∷ cs) = sym all ∙ one-read c fs cs h i in
        let y : rest ≡ c ∷ cs = cc in
        (cs, y, w.text, w.conditions)

    go : (x : Read) → read fs 0 ≡ x → (cs : List Condition) × (rest ≡ c ∷ cs) × (fs ≡ conditions_fields cs) × PlainConditions cs
    go (bad i) z = impossible (let y : got no-pats rest ≡ bad (length (conditions_fields (c ∷ [])) + i) = sym all ∙ conditions-bad h fs i z in cc)
    go (got ps cs) z =
        let w : Wrote fs 0 ps cs = read-wrote fs 0 ps cs z in
        let y : ps ≡ no-pats = count_none ps w.number in
        whole cs (subst (λ (qs : Pats). read fs 0 ≡ got qs cs) y z) (subst (λ (qs : Pats). Wrote fs 0 qs cs) y w)

one_plain : {c : Condition} {cs : List Condition} → PlainConditions (c ∷ cs) → Plain c.start × Plain c.outcome
one_plain (plain-next l h k g) = (h, k)

pub first_of : (l : List ℕ) (at : ℕ) (r : Found) (rest : List Condition) → at ≤ length l → PlainConditions rest → fields_from l at ≡ conditions_fields rest → ConditionAt l at r → First l at r rest
unfolding conditions_fields width
first_of l at r rest inside plains t (no-condition n x e) =
    impossible (let y : got no-pats rest ≡ bad n = sym (conditions-read rest plains) ∙ ap (λ (fs : Fields). read fs 0) (sym t) ∙ x in cc)
first_of l at r rest inside plains t (condition c h x e) =
    let w = split c (fields_from l (after_it at c)) rest h plains (sym x ∙ t) in
    let p = one_plain h in
    let after : Fields = fields_from l (after_it at c) in
    let z : (pat_fields c.start ++ (pat_fields c.outcome ++ [])) ++ after ≡ pat_fields c.start ++ (pat_fields c.outcome ++ after) =
    append_assoc (pat_fields c.start) (pat_fields c.outcome ++ []) after ∙ ap (λ (gs : Fields). pat_fields c.start ++ gs) (append_assoc (pat_fields c.outcome) [] after) in
    let y : fields_from l at ≡ (decimal c.callee ∷ []) ++ (pat_fields c.start ++ (pat_fields c.outcome ++ after)) = x ∙ ap (λ (gs : Fields). decimal c.callee ∷ gs) z in
    let i : at + (length (decimal c.callee) + 1 + 0) ≡ start_at at c = omega arith in
    let a : fields_from l (start_at at c) ≡ pat_fields c.start ++ (pat_fields c.outcome ++ after) =
    ap (fields_from l) (sym i) ∙ fields-along l at (decimal c.callee ∷ []) (pat_fields c.start ++ (pat_fields c.outcome ++ after)) y in
    let b : fields_from l (outcome_at at c) ≡ pat_fields c.outcome ++ after = fields-along l (start_at at c) (pat_fields c.start) (pat_fields c.outcome ++ after) a in
    record {
      first = c;
      others = w.0;
      are = w.1;
      found = e;
      start = p.0;
      outcome = p.1;
      plain = w.3;
      start-text = a ∙ ap (λ (gs : Fields). pat_fields c.start ++ gs) (sym b);
      outcome-text = b;
      text = w.2;
      inside = omega (arith, width-from l at inside, ap width y, width-append (pat_fields c.start) (pat_fields c.outcome ++ after), width-append (pat_fields c.outcome) after);
    }

-- ---- the loop

-- What was bound up to a place: the rest of the conditions decides as all of them do.
pub record Binds (l : List ℕ) (right conditions base at mask : ℕ) : Type 0 where
  pub its : Rule
  pub is : rule_of l ≡ rule its
  pub last : Plain its.right
  pub last-text : fields_from l right ≡ pat_fields its.right ++ fields_from l conditions
  pub last_end : conditions ≡ right + width (pat_fields its.right)
  pub rest : List Condition
  pub plain : PlainConditions rest
  pub text : fields_from l at ≡ conditions_fields rest
  pub inside : at ≤ length l + 1
  pub same : (j : ℕ) → j < window → late (base + j) its ≡ late_from (base + j) (has mask j) rest its.right

-- A variable of the first starting term that is not bound is used too early; else the rest decides.
late-now : (v : ℕ) (seen : Bool) (c : Condition) (cs : List Condition) (p : Pat) → member v (variables c.start) ≡ true → seen ≡ false → late_from v seen (c ∷ cs) p ≡ true
unfolding late_from
late-now v seen c cs p x y = rw (x, y)

pub late-step : (v : ℕ) (seen : Bool) (c : Condition) (cs : List Condition) (p : Pat) → member v (variables c.start) && not seen ≡ false
    → late_from v seen (c ∷ cs) p ≡ late_from v (seen || member v (variables c.outcome)) cs p
unfolding late_from
late-step v seen c cs p x = rw x

pub late-last : (v : ℕ) (seen : Bool) (cs : List Condition) (p : Pat) → cs ≡ [] → late_from v seen cs p ≡ member v (variables p) && not seen
unfolding late_from
late-last v seen cs p e = rw e

pub no-conditions : (cs : List Condition) → [] ≡ conditions_fields cs → cs ≡ []
unfolding conditions_fields
no-conditions [] e = refl
no-conditions (c ∷ cs) e = impossible (cc)

-- The line's rule.
pub its-rule : {l : List ℕ} {right conditions : ℕ} (h : RuleLine l right conditions) → rule_of l ≡ rule h.its
unfolding rule_of
its-rule {l} h = ap (λ (fs : Fields). rule_from (read fs 2)) (sym (whole-line l) ∙ h.text) ∙ rule-read h.its h.plain

module _ {l : List ℕ} {right conditions : ℕ} (h : RuleLine l right conditions) where
  abbrev r : Rule
  r = h.its

  -- The right term and the conditions stand at their places.
  pub right-text : fields_from l right ≡ pat_fields r.right ++ conditions_fields r.conditions
  unfolding rule_fields
  right-text =
      let from : right ≡ 0 + width (pat_fields r.left) = omega (arith, h.right-at) in
      ap (fields_from l) from ∙ fields-along l 0 (pat_fields r.left) (pat_fields r.right ++ conditions_fields r.conditions) h.text

  pub right_end : conditions ≡ right + width (pat_fields r.right)
  right_end = omega (arith, h.right-at, h.conditions-at)

  pub conditions-text : fields_from l conditions ≡ conditions_fields r.conditions
  conditions-text = ap (fields_from l) right_end ∙ fields-along l right (pat_fields r.right) (conditions_fields r.conditions) right-text

  pub conditions-inside : conditions ≤ length l + 1
  unfolding rule_fields
  conditions-inside =
      let w : width (fields_from l 0) ≡ width (pat_fields r.left) + (width (pat_fields r.right) + width (conditions_fields r.conditions)) =
      ap width h.text ∙ width-append (pat_fields r.left) (pat_fields r.right ++ conditions_fields r.conditions)
      ∙ omega (arith, width-append (pat_fields r.right) (conditions_fields r.conditions)) in
      omega (arith, h.conditions-at, w, width-most l 0 (omega arith))

  -- At the first condition the left term's variables are bound.
  pub binds-begin : (base mask : ℕ) → mask ≡ marks_from base (fields_from l 0) 0 right 0 → Binds l right conditions base conditions mask
  unfolding rule_fields late
  binds-begin base mask e = record {
    its = r;
    is = its-rule h;
    last = h.plain.right;
    last-text = right-text ∙ ap (λ (gs : Fields). pat_fields r.right ++ gs) (sym conditions-text);
    last_end = right_end;
    rest = r.conditions;
    plain = h.plain.conditions;
    text = conditions-text;
    inside = conditions-inside;
    same =
        λ j k. ap (λ (x : Bool). late_from (base + j) x r.conditions r.right)
        (sym (ap (λ (m : ℕ). has m j) e ∙ term-marks base j k l 0 right r.left (pat_fields r.right ++ conditions_fields r.conditions) h.plain.left h.text (omega (arith, h.right-at))));
  }

module _ {l : List ℕ} {right conditions base at mask : ℕ} (b : Binds l right conditions base at mask) where
  late-in : (answer : Bool) → Late base b.its answer → LateIn (rule_of l) base answer
  late-in answer e = rw b.is e

  module _ (inside : at ≤ length l) (r : Found) (found : ConditionAt l at r) where
    next : First l at r b.rest
    next = first_of l at r b.rest inside b.plain b.text found

    module _ (needed : ℕ) (e : needed ≡ marks_from base (fields_from l r.start) r.start r.outcome 0) where
      needed-has : (j : ℕ) → j < window → has needed j ≡ member (base + j) (variables next.first.start)
      needed-has j k =
          let s : r.start ≡ start_at at next.first = ap (λ (x : Found). x.start) next.found in
          let o : r.outcome ≡ outcome_at at next.first = ap (λ (x : Found). x.outcome) next.found in
          ap (λ (m : ℕ). has m j) e
          ∙ term-marks base j k l r.start r.outcome next.first.start (fields_from l (outcome_at at next.first)) next.start (ap (fields_from l) s ∙ next.start-text) (omega (arith, s, o))

      -- A variable of the starting term that is not bound yet.
      pub binds-early : needed < 2 ^ window → (bit_and needed mask ≡ needed → ⊥) → LateIn (rule_of l) base true
      binds-early m n =
          let w = missing needed mask m n in
          let j : ℕ = w.0 in
          let x : member (base + j) (variables next.first.start) ≡ true = sym (needed-has j w.1) ∙ w.2 in
          late-in true
          (one refl (base + j)
          (b.same j w.1
          ∙ ap (λ (cs : List Condition). late_from (base + j) (has mask j) cs b.its.right) next.are
          ∙ late-now (base + j) (has mask j) next.first next.others b.its.right x w.3))

      -- All of them are bound: the outcome's variables are bound too after it.
      pub binds-on : bit_and needed mask ≡ needed → (more : ℕ) → more ≡ marks_from base (fields_from l r.outcome) r.outcome r.next 0
          → Binds l right conditions base r.next (bit_or mask more)
      binds-on n more q =
          let o : r.outcome ≡ outcome_at at next.first = ap (λ (x : Found). x.outcome) next.found in
          let t : r.next ≡ after_it at next.first = ap (λ (x : Found). x.next) next.found in
          record {
            its = b.its;
            is = b.is;
            last = b.last;
            last-text = b.last-text;
            last_end = b.last_end;
            rest = next.others;
            plain = next.plain;
            text = ap (fields_from l) t ∙ next.text;
            inside = omega (arith, t, next.inside);
            same = λ j k.
                let more-has : has more j ≡ member (base + j) (variables next.first.outcome) =
                ap (λ (m : ℕ). has m j) q
                ∙ term-marks base j k l r.outcome r.next next.first.outcome (fields_from l (after_it at next.first)) next.outcome (ap (fields_from l) o ∙ next.outcome-text)
                (omega (arith, o, t)) in
                let none : member (base + j) (variables next.first.start) && not (has mask j) ≡ false =
                ap (λ (x : Bool). x && not (has mask j)) (sym (needed-has j k)) ∙ none-missing needed mask n j in
                let bits : has (bit_or mask more) j ≡ has mask j || member (base + j) (variables next.first.outcome) = has-or mask more j ∙ ap (λ (x : Bool). has mask j || x) more-has in
                b.same j k
                ∙ ap (λ (cs : List Condition). late_from (base + j) (has mask j) cs b.its.right) next.are
                ∙ late-step (base + j) (has mask j) next.first next.others b.its.right none
                ∙ ap (λ (x : Bool). late_from (base + j) x next.others b.its.right) (sym bits);
          }

      pub binds-further : at < r.next
      binds-further = let t : r.next ≡ after_it at next.first = ap (λ (x : Found). x.next) next.found in omega arith

  -- No condition is left: the right term's variables.
  module _ (past : length l < at) (last : ℕ) (e : last ≡ marks_from base (fields_from l right) right conditions 0) (m : last < 2 ^ window) where
    last_has : (j : ℕ) → j < window → has last j ≡ member (base + j) (variables b.its.right)
    last_has j k = ap (λ (x : ℕ). has x j) e ∙ term-marks base j k l right conditions b.its.right (fields_from l conditions) b.last b.last-text b.last_end

    left : (j : ℕ) → j < window → late (base + j) b.its ≡ has last j && not (has mask j)
    left j k =
        b.same j k
        ∙ late-last (base + j) (has mask j) b.rest b.its.right (no-conditions b.rest (sym (fields-past l at past) ∙ b.text))
        ∙ ap (λ (x : Bool). x && not (has mask j)) (sym (last_has j k))

    pub binds-end : (answer : Bool) → answer ≡ not (eqb (bit_and last mask) last) → LateIn (rule_of l) base answer
    binds-end answer z = late-in answer (decided (eqb (bit_and last mask) last) none some)
      where
        none : eqb (bit_and last mask) last ≡ true → Late base b.its answer
        none q =
            no (z ∙ ap not q)
            (λ v p k.
            let y : base + (v - base) ≡ v = omega arith in
            subst (λ (x : ℕ). late x b.its ≡ false) y (left (v - base) k ∙ none-missing last mask (eqb-true (bit_and last mask) last q) (v - base)))

        some : eqb (bit_and last mask) last ≡ false → Late base b.its answer
        some q =
            let w = missing last mask m (eqb-false (bit_and last mask) last q) in
            one (z ∙ ap not q) (base + w.0) (left w.0 w.1 ∙ and-not w.2 w.3)
          where
            and-not : {x y : Bool} → x ≡ true → y ≡ false → x && not y ≡ true
            and-not p r = rw (p, r)
