-- The loop over a line's conditions: the rule that its fields are so far, and what is left of the line. Assumes nothing.
use mathlib.Core.Path.{◌≡◌, refl, ap, sym, ◌∙◌, subst}
use mathlib.Core.Bool.{Bool, true, false}
use mathlib.Core.List.{List, [], ◌∷◌, ◌++◌, append_assoc, append-nil}
use Prim.Native.Nat.{ℕ, suc, ◌+◌, ◌*◌, ◌/◌, ◌%◌, ◌≤◌, ◌<◌}
use native.Mathlib.Omega.{arith}
use lib.Dec.{ltb}
use lib.ListN.{length, length-append}
use borrow.Author.Tests.{le-leb}
use Rattle.std.specs.Prelude.{if◌then◌else◌}
use Rattle.meaning.proofs.Tests.{impossible}
use Rattle.text.specs.Text.{parts, digits, decimal}
use Rattle.text.proofs.Put.{for-one}
use Rattle.text.proofs.Decimal.{number-decimal}
use Rattle.rules.specs.Rule.{Pat, Pats, var, con, Condition, Rule, none as no-pats, more as more-pats}
use Rattle.rules.specs.Text.{Fields, pat_fields, pats_fields, conditions_fields, rule_fields, Plain, PlainConditions, plain_end, plain-next, PlainRule, Read, bad, later}
use Rattle.rules.specs.Text.{condition_of, read, rule, bad_field, rule_from, rule_of}
use Rattle.rules.specs.Entries.{size, sizes, code_size, condition_code, conditions_code, rule_code}
use Rattle.rules.specs.Scan.{width, fields_from}
use Rattle.rules.specs.Condition.{after_it, found_at, ConditionAt, condition, none as no-condition}
use Rattle.rules.specs.Shape.{right_at, conditions_at, rule_size, shape_of}
use Rattle.rules.specs.Condition.{Found}
use Rattle.rules.specs.Scan.{Term}
use Rattle.rules.proofs.Reading.{ahead, pat-read, rule-read}
use Rattle.rules.proofs.Bad.{read-within}
use Rattle.rules.proofs.Scanning.{fields-past}
use Rattle.rules.proofs.Terms.{TermFound, term-good, term-bad, width-append, length-width, width-most}
use Rattle.rules.proofs.Conditions.{good-bad}

-- ---- conditions, one after the other

conditions-append : (cs ds : List Condition) → conditions_fields (cs ++ ds) ≡ conditions_fields cs ++ conditions_fields ds
unfolding conditions_fields
conditions-append [] ds = refl
conditions-append (c ∷ cs) ds =
    rw (conditions-append cs ds)
    (ap (λ (fs : Fields). decimal c.callee ∷ fs)
    (sym (append_assoc (pat_fields c.start) (pat_fields c.outcome ++ conditions_fields cs) (conditions_fields ds)
    ∙ ap (λ (fs : Fields). pat_fields c.start ++ fs) (append_assoc (pat_fields c.outcome) (conditions_fields cs) (conditions_fields ds)))))

plain-append : {cs ds : List Condition} → PlainConditions cs → PlainConditions ds → PlainConditions (cs ++ ds)
plain-append plain_end h = h
plain-append (plain-next l i j g) h = plain-next l i j (plain-append g h)

-- With one condition more.
abbrev pub with-condition : Rule → Condition → Rule
with-condition r c = record { left = r.left; right = r.right; conditions = r.conditions ++ (c ∷ []) }

fields-more : (r : Rule) (c : Condition) → rule_fields (with-condition r c) ≡ rule_fields r ++ conditions_fields (c ∷ [])
unfolding rule_fields
fields-more r c =
    rw (conditions-append r.conditions (c ∷ []))
    (sym (append_assoc (pat_fields r.left) (pat_fields r.right ++ conditions_fields r.conditions) (conditions_fields (c ∷ []))
    ∙ ap (λ (fs : Fields). pat_fields r.left ++ fs) (append_assoc (pat_fields r.right) (conditions_fields r.conditions) (conditions_fields (c ∷ [])))))

size-conditions : (cs : List Condition) (c : Condition) (p : Pat)
    → code_size (conditions_code (cs ++ (c ∷ [])) p) ≡ code_size (conditions_code cs p) + 7 + (size c.start + size c.outcome)
unfolding code_size conditions_code condition_code
size-conditions [] c p = omega arith
size-conditions (d ∷ cs) c p = omega (arith, size-conditions cs c p)

size-more : (r : Rule) (c : Condition) → rule_size (with-condition r c) ≡ rule_size r + 7 + (size c.start + size c.outcome)
unfolding code_size rule_code
size-more r c = omega (arith, size-conditions r.conditions c r.right)

-- Without conditions.
abbrev pub plain-rule : Pat → Pat → Rule
plain-rule p q = record { left = p; right = q; conditions = [] }

size_none : (p q : Pat) → rule_size (plain-rule p q) ≡ 4 + size p + size q
unfolding code_size rule_code conditions_code
size_none p q = omega arith

fields-none : (p q : Pat) → rule_fields (plain-rule p q) ≡ pat_fields p ++ pat_fields q
unfolding rule_fields conditions_fields
fields-none p q = rw (append-nil (pat_fields q))

-- ---- how many entries fit into how many bytes

-- A number has a digit.
decimal-some : (n : ℕ) → 1 ≤ length (decimal n)
unfolding digits
decimal-some n = go (ltb n 10)
  where
    go : (q : Bool) → 1 ≤ length (if q then (48 + n) ∷ [] else digits 9 (n / 10) ++ ((48 + n % 10) ∷ []))
    go true = omega arith
    go false = omega (arith, length-append (digits 9 (n / 10)) ((48 + n % 10) ∷ []))

mutual
  unfolding size sizes pat_fields pats_fields width

  -- Each entry of a term has two bytes.
  pub size-width : (p : Pat) → 2 * size p ≤ width (pat_fields p)
  size-width (var v) = omega arith
  size-width (con c ps) = omega (arith, sizes-width ps)

  pub sizes-width : (ps : Pats) → 2 * sizes ps ≤ width (pats_fields ps)
  sizes-width no-pats = omega arith
  sizes-width (more-pats p ps) = omega (arith, size-width p, sizes-width ps, width-append (pat_fields p) (pats_fields ps))

size-some : (p : Pat) → 1 ≤ size p
unfolding size
size-some (var v) = omega arith
size-some (con c ps) = omega arith

condition-long : (c : Condition) → width (conditions_fields (c ∷ [])) ≡ length (decimal c.callee) + 1 + (width (pat_fields c.start) + width (pat_fields c.outcome))
unfolding conditions_fields width
condition-long c = omega (arith, width-append (pat_fields c.start) (pat_fields c.outcome ++ []), width-append (pat_fields c.outcome) [])

condition-count : (c : Condition) → length (conditions_fields (c ∷ [])) ≡ 1 + length (pat_fields c.start) + length (pat_fields c.outcome)
unfolding conditions_fields
condition-count c = omega (arith, length-append (pat_fields c.start) (pat_fields c.outcome ++ []), length-append (pat_fields c.outcome) [])

condition-width : (c : Condition) → 2 * (7 + (size c.start + size c.outcome)) ≤ 3 * width (conditions_fields (c ∷ []))
condition-width c =
    omega (arith, condition-long c, decimal-some c.callee, size-width c.start, size-width c.outcome, size-some c.start, size-some c.outcome)

-- ---- reading fails after the fields of a rule so far

bad-ahead : (n : ℕ) (p : Pat) (x : Read) (i : ℕ) → x ≡ bad i → ahead n (more-pats p no-pats) x ≡ bad (n + i)
unfolding ahead
bad-ahead n p x i e = rw e

two-bad : (p q : Pat) → Plain p → Plain q → (fs : Fields) (i : ℕ) → read fs 0 ≡ bad i → read (pat_fields p ++ (pat_fields q ++ fs)) 2 ≡ bad (length (pat_fields p) + (length (pat_fields q) + i))
two-bad p q h k fs i e =
    pat-read p h (pat_fields q ++ fs) 1
    ∙ bad-ahead (length (pat_fields p)) p (read (pat_fields q ++ fs) 1) (length (pat_fields q) + i) (pat-read q k fs 0 ∙ bad-ahead (length (pat_fields q)) q (read fs 0) i e)

after-number : (x : ℕ) (fs : Fields) (i : ℕ) → x ≤ 4294967295 → read fs 2 ≡ bad i → read (decimal x ∷ fs) 0 ≡ bad (suc i)
unfolding read later condition_of
after-number x fs i l e = rw (number-decimal for-one x l, e)

pub conditions-bad : {cs : List Condition} → PlainConditions cs → (fs : Fields) (i : ℕ) → read fs 0 ≡ bad i → read (conditions_fields cs ++ fs) 0 ≡ bad (length (conditions_fields cs) + i)
unfolding conditions_fields
conditions-bad plain_end fs i e = e ∙ ap bad (omega arith)
conditions-bad (plain-next {c = c} {cs = cs} l h k g) fs i e =
    let y : read (pat_fields c.start ++ (pat_fields c.outcome ++ (conditions_fields cs ++ fs))) 2 ≡ bad
    (length (pat_fields c.start) + (length (pat_fields c.outcome) + (length (conditions_fields cs) + i))) =
    two-bad c.start c.outcome h k (conditions_fields cs ++ fs) (length (conditions_fields cs) + i) (conditions-bad g fs i e) in
    let z : (pat_fields c.start ++ (pat_fields c.outcome ++ conditions_fields cs)) ++ fs ≡ pat_fields c.start ++ (pat_fields c.outcome ++ (conditions_fields cs ++ fs)) =
    append_assoc (pat_fields c.start) (pat_fields c.outcome ++ conditions_fields cs) fs
    ∙ ap (λ (gs : Fields). pat_fields c.start ++ gs) (append_assoc (pat_fields c.outcome) (conditions_fields cs) fs) in
    ap (λ (gs : Fields). read (decimal c.callee ∷ gs) 0) z
    ∙ after-number c.callee _ _ l y
    ∙ ap bad (omega (arith, length-append (pat_fields c.start) (pat_fields c.outcome ++ conditions_fields cs), length-append (pat_fields c.outcome) (conditions_fields cs)))

rule-bad : (r : Rule) → PlainRule r → (fs : Fields) (i : ℕ) → read fs 0 ≡ bad i → read (rule_fields r ++ fs) 2 ≡ bad (length (rule_fields r) + i)
unfolding rule_fields
rule-bad r h fs i e =
    ap (λ (gs : Fields). read gs 2)
    (append_assoc (pat_fields r.left) (pat_fields r.right ++ conditions_fields r.conditions) fs
    ∙ ap (λ (gs : Fields). pat_fields r.left ++ gs) (append_assoc (pat_fields r.right) (conditions_fields r.conditions) fs))
    ∙ two-bad r.left r.right h.left h.right (conditions_fields r.conditions ++ fs) (length (conditions_fields r.conditions) + i) (conditions-bad h.conditions fs i e)
    ∙ ap bad (omega (arith, length-append (pat_fields r.left) (pat_fields r.right ++ conditions_fields r.conditions), length-append (pat_fields r.right) (conditions_fields r.conditions)))

-- ---- the line

pub whole-line : (l : List ℕ) → fields_from l 0 ≡ parts 9 l
unfolding fields_from
whole-line l = rw (le-leb 0 (length l) (omega arith))

bad-line : (l : List ℕ) (i : ℕ) → read (fields_from l 0) 2 ≡ bad i → rule_of l ≡ bad_field (suc i)
unfolding rule_of
bad-line l i e = ap (λ (fs : Fields). rule_from (read fs 2)) (sym (whole-line l)) ∙ ap rule_from e

-- The fields of a line up to a place are those of a rule.
pub record Shaping (l : List ℕ) (right conditions fields size at : ℕ) : Type 0 where
  pub sofar : Rule
  pub plain : PlainRule sofar
  pub text : fields_from l 0 ≡ rule_fields sofar ++ fields_from l at
  pub place : at ≡ width (rule_fields sofar)
  pub number : fields ≡ length (rule_fields sofar)
  pub entries : size ≡ rule_size sofar
  pub right-at : right ≡ right_at sofar
  pub conditions-at : conditions ≡ conditions_at sofar
  pub inside : at ≤ length l + 1
  pub few : fields ≤ at
  pub small : 2 * size ≤ 8 + 3 * at

module _ (l : List ℕ) (t : Term) (left : TermFound l 0 t) where
  pub left-bad : t.good ≡ false → rule_of l ≡ bad_field (t.fields + 1)
  left-bad g = go left
    where
      go : TermFound l 0 t → rule_of l ≡ bad_field (t.fields + 1)
      go (term-good p h x e) = good-bad t (ap (λ (u : Term). u.good) e) g
      go (term-bad k h m) = bad-line l t.fields (h 1) ∙ ap bad_field (omega arith)

  module _ (good : t.good ≡ true) (u : Term) (right : TermFound l t.at u) where
    pub right-bad : u.good ≡ false → rule_of l ≡ bad_field (t.fields + u.fields + 1)
    right-bad g = go left right
      where
        go : TermFound l 0 t → TermFound l t.at u → rule_of l ≡ bad_field (t.fields + u.fields + 1)
        go (term-bad k h m) b = good-bad t good k
        go (term-good p h x e) (term-good q k y f) = good-bad u (ap (λ (v : Term). v.good) f) g
        go (term-good p h x e) (term-bad k h' m) =
            let a : t.at ≡ 0 + width (pat_fields p) = ap (λ (v : Term). v.at) e in
            let n : t.fields ≡ length (pat_fields p) = ap (λ (v : Term). v.fields) e in
            let rest : Fields = fields_from l (0 + width (pat_fields p)) in
            let b : read rest 1 ≡ bad u.fields = subst (λ (j : ℕ). read (fields_from l j) 1 ≡ bad u.fields) a (h' 0) in
            bad-line l (length (pat_fields p) + u.fields) (ap (λ (fs : Fields). read fs 2) x ∙ pat-read p h rest 1 ∙ bad-ahead (length (pat_fields p)) p (read rest 1) u.fields b)
            ∙ ap bad_field (omega arith)

    pub shaping-begins : u.good ≡ true → Shaping l t.at u.at (t.fields + u.fields) (4 + t.size + u.size) u.at
    shaping-begins g = go left right
      where
        go : TermFound l 0 t → TermFound l t.at u → Shaping l t.at u.at (t.fields + u.fields) (4 + t.size + u.size) u.at
        go (term-bad k h m) b = good-bad t good k
        go (term-good p h x e) (term-bad k h' m) = good-bad u g k
        go (term-good p h x e) (term-good q k y f) =
            let a : t.at ≡ 0 + width (pat_fields p) = ap (λ (v : Term). v.at) e in
            let b : u.at ≡ t.at + width (pat_fields q) = ap (λ (v : Term). v.at) f in
            let n : t.fields ≡ length (pat_fields p) = ap (λ (v : Term). v.fields) e in
            let m : u.fields ≡ length (pat_fields q) = ap (λ (v : Term). v.fields) f in
            let z : t.size ≡ size p = ap (λ (v : Term). v.size) e in
            let w : u.size ≡ size q = ap (λ (v : Term). v.size) f in
            let s : fields_from l 0 ≡ (pat_fields p ++ pat_fields q) ++ fields_from l u.at =
            x ∙ ap (λ (j : ℕ). pat_fields p ++ fields_from l j) (sym a) ∙ ap (λ (fs : Fields). pat_fields p ++ fs) (y ∙ ap (λ (j : ℕ). pat_fields q ++ fields_from l j) (sym b))
            ∙ sym (append_assoc (pat_fields p) (pat_fields q) (fields_from l u.at)) in
            let both : width (fields_from l 0) ≡ width (pat_fields p) + width (pat_fields q) + width (fields_from l u.at) =
            ap width s ∙ width-append (pat_fields p ++ pat_fields q) (fields_from l u.at) ∙ omega (arith, width-append (pat_fields p) (pat_fields q)) in
            record {
              sofar = plain-rule p q;
              plain = record { left = h; right = k; conditions = plain_end };
              text = s ∙ ap (λ (fs : Fields). fs ++ fields_from l u.at) (sym (fields-none p q));
              place = omega (arith, ap width (fields-none p q), width-append (pat_fields p) (pat_fields q));
              number = omega (arith, ap length (fields-none p q), length-append (pat_fields p) (pat_fields q));
              entries = omega (arith, size_none p q);
              right-at = omega arith;
              conditions-at = omega arith;
              inside = omega (arith, both, width-most l 0 (omega arith));
              few = omega (arith, length-width (pat_fields p), length-width (pat_fields q));
              small = omega (arith, size-width p, size-width q);
            }

module _ {l : List ℕ} {right conditions fields sized at : ℕ} (s : Shaping l right conditions fields sized at) (r : Found) (found : ConditionAt l at r) where
  pub shaping-lost : r.good ≡ false → rule_of l ≡ bad_field (fields + r.fields + 1)
  shaping-lost g = go found
    where
      go : ConditionAt l at r → rule_of l ≡ bad_field (fields + r.fields + 1)
      go (condition c h t e) = impossible (let z : true ≡ false = sym (ap (λ (v : Found). v.good) e) ∙ g in cc)
      go (no-condition n x e) =
          let f : r.fields ≡ n = ap (λ (v : Found). v.fields) e in
          bad-line l (length (rule_fields s.sofar) + n) (ap (λ (fs : Fields). read fs 2) s.text ∙ rule-bad s.sofar s.plain (fields_from l at) n x)
          ∙ ap bad_field (omega (arith, s.number))

  pub shaping-on : r.good ≡ true → Shaping l right conditions (fields + r.fields) (sized + (7 + r.size)) r.next × (at < r.next)
  shaping-on g = go found
    where
      longer : (c : Condition) → PlainConditions (c ∷ []) → fields_from l at ≡ conditions_fields (c ∷ []) ++ fields_from l (after_it at c) → r ≡ found_at at c
          → Shaping l right conditions (fields + r.fields) (sized + (7 + r.size)) r.next × (at < r.next)
      longer c h t e =
          let one : Fields = conditions_fields (c ∷ []) in
          let w : after_it at c ≡ at + width one = omega (arith, condition-long c) in
          let a : r.next ≡ after_it at c = ap (λ (v : Found). v.next) e in
          let f : r.fields ≡ length one = ap (λ (v : Found). v.fields) e ∙ sym (condition-count c) in
          let z : r.size ≡ size c.start + size c.outcome = ap (λ (v : Found). v.size) e in
          let y : width (fields_from l at) ≡ width one + width (fields_from l (after_it at c)) = ap width t ∙ width-append one (fields_from l (after_it at c)) in
          let m : rule_fields (with-condition s.sofar c) ≡ rule_fields s.sofar ++ one = fields-more s.sofar c in (
            record {
              sofar = with-condition s.sofar c;
              plain = record { left = s.plain.left; right = s.plain.right; conditions = plain-append s.plain.conditions h };
              text =
                  s.text
                  ∙ ap (λ (fs : Fields). rule_fields s.sofar ++ fs) (t ∙ ap (λ (j : ℕ). one ++ fields_from l j) (sym a))
                  ∙ sym (append_assoc (rule_fields s.sofar) one (fields_from l r.next))
                  ∙ ap (λ (fs : Fields). fs ++ fields_from l r.next) (sym m);
              place = omega (arith, s.place, a, w, ap width m, width-append (rule_fields s.sofar) one);
              number = omega (arith, s.number, f, ap length m, length-append (rule_fields s.sofar) one);
              entries = omega (arith, s.entries, z, size-more s.sofar c);
              right-at = s.right-at;
              conditions-at = s.conditions-at;
              inside = omega (arith, a, w, y, width-most l at s.inside);
              few = omega (arith, s.few, a, w, f, length-width one);
              small = omega (arith, s.small, a, w, z, condition-width c);
            },
            omega (arith, a, w, condition-long c),
          )

      go : ConditionAt l at r → Shaping l right conditions (fields + r.fields) (sized + (7 + r.size)) r.next × (at < r.next)
      go (no-condition n x e) = impossible (let z : true ≡ false = sym g ∙ ap (λ (v : Found). v.good) e in cc)
      go (condition c h t e) = longer c h t e

-- No more of a condition's fields are good than the line has.
pub condition-inside : (l : List ℕ) (i : ℕ) → i ≤ length l → (r : Found) → ConditionAt l i r → i + r.fields ≤ length l + 1
condition-inside l i h r (condition c p t e) =
    let f : r.fields ≡ length (conditions_fields (c ∷ [])) = ap (λ (v : Found). v.fields) e ∙ sym (condition-count c) in
    omega (arith, f, length-width (conditions_fields (c ∷ [])), ap width t, width-append (conditions_fields (c ∷ [])) (fields_from l (after_it i c)), width-most l i (omega arith))
condition-inside l i h r (no-condition n x e) =
    omega (arith, ap (λ (v : Found). v.fields) e, read-within (fields_from l i) 0 n x, length-width (fields_from l i), width-most l i (omega arith))

-- Nothing is left of the line: it is the rule so far.
pub shaping-end : {l : List ℕ} {right conditions fields size at : ℕ} → Shaping l right conditions fields size at → length l < at
    → record { good = true; field = fields + 1; size = size; right = right; conditions = conditions } ≡ shape_of (rule_of l)
unfolding rule_of
shaping-end {l} {right} {conditions} {fields} {size} {at} s h =
    let t : fields_from l 0 ≡ rule_fields s.sofar = s.text ∙ ap (λ (fs : Fields). rule_fields s.sofar ++ fs) (fields-past l at h) ∙ append-nil (rule_fields s.sofar) in
    let e : rule_from (read (parts 9 l) 2) ≡ rule s.sofar = ap (λ (fs : Fields). rule_from (read fs 2)) (sym (whole-line l) ∙ t) ∙ rule-read s.sofar s.plain in
    let f : fields + 1 ≡ suc (length (rule_fields s.sofar)) = omega (arith, s.number) in
    rw (e, f, s.entries, s.right-at, s.conditions-at)
