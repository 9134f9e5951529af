-- What is written of rules is read as it was, and what is read is what was written.
use mathlib.Core.Path.{◌≡◌, refl, ap, sym, ◌∙◌}
use mathlib.Core.Bool.{false}
use mathlib.Core.Option.{Option, none, some}
use mathlib.Core.List.{List, [], ◌∷◌, ◌++◌, append_assoc, append-nil}
use Prim.Native.Nat.{ℕ, zero, suc, ◌+◌, ◌≤◌}
use native.Mathlib.Omega.{arith}
use lib.Dec.{eqb, leb}
use lib.ListN.{length, length-append}
use borrow.Author.Tests.{eqb-true, leb-true, le-leb}
use Rattle.meaning.proofs.Tests.{impossible, decided}
use Rattle.text.specs.Text.{one_word, number_of, valued, decimal}
use Rattle.text.proofs.Put.{for-one}
use Rattle.text.proofs.Decimal.{number-decimal}
use Rattle.text.proofs.Decimal.{number-text}
use Rattle.rules.specs.Rule.{Pat, Pats, var, con, none as no-pats, more as more-pats, Condition, Rule, count}
use Rattle.rules.specs.Text.{Fields, pat_fields, pats_fields, conditions_fields, rule_fields, Plain, plain-var, plain-con, Plains, plain-none, plain_more, PlainConditions, plain_end}
use Rattle.rules.specs.Text.{plain-next, PlainRule, Head, variable, constructor, neither, variable_head, constructor_head, head_of, up_to_six, Read, got, bad, later, first_of, others_of}
use Rattle.rules.specs.Text.{in_front, parent, condition_of, or_bad, on_head, read, counted, rule, rule_from}

-- ---- terms one after the other

-- ps and then qs
unfoldable pub joined : Pats → Pats → Pats
joined no-pats qs = qs
joined (more-pats p ps) qs = more-pats p (joined ps qs)

-- ps in front of what is read, and the fields that they take
unfoldable pub ahead : ℕ → Pats → Read → Read
ahead n ps (got qs cs) = got (joined ps qs) cs
ahead n ps (bad i) = bad (n + i)

first-joined : (ps qs : Pats) → first_of (count ps) (joined ps qs) ≡ ps
unfolding first_of joined count
first-joined no-pats qs = refl
first-joined (more-pats p ps) qs = ap (more-pats p) (first-joined ps qs)

others-joined : (ps qs : Pats) → others_of (count ps) (joined ps qs) ≡ qs
unfolding others_of joined count
others-joined no-pats qs = refl
others-joined (more-pats p ps) qs = others-joined ps qs

-- ---- a field

-- a number does not begin with `v`
pub number-plain : (b : ℕ) (f : List ℕ) (c : ℕ) → number_of one_word (b ∷ f) ≡ some c → eqb b 118 ≡ false
unfolding number_of valued
number-plain b f c e = decided (eqb b 118) (λ q. let z = eqb-true b 118 q in impossible (cc (rw z at e))) (λ q. q)

pub head-constructor : (f : List ℕ) (c : ℕ) → number_of one_word f ≡ some c → c ≤ 65535 → head_of f ≡ constructor c
unfolding head_of number_of
head-constructor [] c e l = impossible (cc)
head-constructor (b ∷ f) c e l = rw (number-plain b f c e, e, le-leb c 65535 l)

pub head-variable : (v : ℕ) → v ≤ 4294967295 → head_of (118 ∷ decimal v) ≡ variable v
unfolding head_of
head-variable v l = rw (number-decimal for-one v l)

pub count-number : (n : ℕ) → n ≤ 6 → up_to_six (number_of one_word (decimal n)) ≡ some n
count-number n l = let m : n ≤ 4294967295 = omega arith in rw (number-decimal for-one n m, le-leb n 6 l)

-- ---- written, then read

later-front : (p : Pat) (x : Read) → later (in_front p x) ≡ ahead 1 (more-pats p no-pats) x
unfolding later in_front ahead joined
later-front p (got qs cs) = refl
later-front p (bad i) = ap bad (omega arith)

later-parent : (c n : ℕ) (ps : Pats) (x : Read) → later (later (parent c (count ps) (ahead n ps x))) ≡ ahead (suc (suc n)) (more-pats (con c ps) no-pats) x
unfolding later parent ahead joined
later-parent c n ps (got qs cs) = rw (first-joined ps qs, others-joined ps qs)
later-parent c n ps (bad i) = ap bad (omega arith)

ahead-ahead : (m n : ℕ) (p : Pat) (ps : Pats) (x : Read) → ahead m (more-pats p no-pats) (ahead n ps x) ≡ ahead (m + n) (more-pats p ps) x
unfolding ahead joined
ahead-ahead m n p ps (got qs cs) = refl
ahead-ahead m n p ps (bad i) = ap bad (omega arith)

ahead_none : (x : Read) → ahead 0 no-pats x ≡ x
unfolding ahead joined
ahead_none (got qs cs) = refl
ahead_none (bad i) = ap bad (omega arith)

mutual
  unfolding read counted pat_fields pats_fields count

  -- a term in front of fields is read as it was
  pub pat-read : (p : Pat) → Plain p → (fs : Fields) (k : ℕ) → read (pat_fields p ++ fs) (suc k) ≡ ahead (length (pat_fields p)) (more-pats p no-pats) (read fs k)
  pat-read (var v) (plain-var l) fs k = rw (head-variable v l) (later-front (var v) (read fs k))
  pat-read (con c ps) (plain-con l m h) fs k =
      let l' : c ≤ 4294967295 = omega arith in
      rw (head-constructor (decimal c) c (number-decimal for-one c l') l, count-number (count ps) m, pats-read ps h fs k) (later-parent c (length (pats_fields ps)) ps (read fs k))

  pub pats-read : (ps : Pats) → Plains ps → (fs : Fields) (k : ℕ) → read (pats_fields ps ++ fs) (count ps + k) ≡ ahead (length (pats_fields ps)) ps (read fs k)
  pats-read no-pats h fs k = let z : 0 + k ≡ k = omega arith in rw z (sym (ahead_none (read fs k)))
  pats-read (more-pats p ps) (plain_more i h) fs k =
      let z : suc (count ps) + k ≡ suc (count ps + k) = omega arith in
      rw (z, append_assoc, pat-read p i (pats_fields ps ++ fs) (count ps + k), pats-read ps h fs k, length-append) (ahead-ahead (length (pat_fields p)) (length (pats_fields ps)) p ps (read fs k))

-- two terms in front of conditions
pub two-read : (p q : Pat) → Plain p → Plain q → (fs : Fields) (cs : List Condition) → read fs 0 ≡ got no-pats cs
    → read (pat_fields p ++ (pat_fields q ++ fs)) 2 ≡ got (more-pats p (more-pats q no-pats)) cs
unfolding ahead joined
two-read p q i j fs cs e = rw (pat-read p i (pat_fields q ++ fs) 1, pat-read q j fs 0, e)

pub conditions-read : (cs : List Condition) → PlainConditions cs → read (conditions_fields cs) 0 ≡ got no-pats cs
unfolding read conditions_fields condition_of later
conditions-read [] plain_end = refl
conditions-read (c ∷ cs) (plain-next l i j h) = rw (number-decimal for-one c.callee l, two-read c.start c.outcome i j (conditions_fields cs) cs (conditions-read cs h))

-- The fields of a rule are read as the rule.
pub rule-read : (r : Rule) → PlainRule r → rule_from (read (rule_fields r) 2) ≡ rule r
unfolding rule_fields
rule-read r h = rw (two-read r.left r.right h.left h.right (conditions_fields r.conditions) r.conditions (conditions-read r.conditions h.conditions))

-- ---- read, then written

-- the fields are those of k terms and of conditions
pub record Wrote (fs : Fields) (k : ℕ) (ps : Pats) (cs : List Condition) : Type 0 where
  pub text : fs ≡ pats_fields ps ++ conditions_fields cs
  pub number : count ps ≡ k
  pub plains : Plains ps
  pub conditions : PlainConditions cs

pub later-got : (x : Read) {ps : Pats} {cs : List Condition} → later x ≡ got ps cs → x ≡ got ps cs
unfolding later
later-got (got ps cs) e = e
later-got (bad i) e = impossible (cc)

front-got : (p : Pat) (x : Read) {ps : Pats} {cs : List Condition} → in_front p x ≡ got ps cs → (qs : Pats) × (x ≡ got qs cs) × (ps ≡ more-pats p qs)
unfolding in_front
front-got p (got qs ds) e = (qs, cc, cc)
front-got p (bad i) e = impossible (cc)

parent-got : (c n : ℕ) (x : Read) {ps : Pats} {cs : List Condition} → parent c n x ≡ got ps cs → (qs : Pats) × (x ≡ got qs cs) × (ps ≡ more-pats (con c (first_of n qs)) (others_of n qs))
unfolding parent
parent-got c n (got qs ds) e = (qs, cc, cc)
parent-got c n (bad i) e = impossible (cc)

pub head-var-text : (f : List ℕ) (v : ℕ) → head_of f ≡ variable v → (f ≡ 118 ∷ decimal v) × (v ≤ 4294967295)
unfolding head_of
head-var-text [] v e = impossible (cc)
head-var-text (b ∷ f) v e = decided (eqb b 118) (λ q. yes (number_of one_word f) refl (eqb-true b 118 q) (rw q at e)) (λ q. no (number_of one_word (b ∷ f)) (rw q at e))
  where
    yes : (o : Option ℕ) → number_of one_word f ≡ o → b ≡ 118 → variable_head o ≡ variable v → (b ∷ f ≡ 118 ∷ decimal v) × (v ≤ 4294967295)
    yes none i q h = impossible (cc)
    yes (some w) i q h = let z : w ≡ v = cc in let (x, y) = number-text for-one f w i in (cc, omega arith)

    no : (o : Option ℕ) → constructor_head o ≡ variable v → (b ∷ f ≡ 118 ∷ decimal v) × (v ≤ 4294967295)
    no none h = impossible (cc)
    no (some w) h = decided (leb w 65535) (λ q. impossible (cc (rw q at h))) (λ q. impossible (cc (rw q at h)))

pub head-con-text : (f : List ℕ) (c : ℕ) → head_of f ≡ constructor c → (f ≡ decimal c) × (c ≤ 65535)
unfolding head_of
head-con-text [] c e = impossible (cc)
head-con-text (b ∷ f) c e = decided (eqb b 118) (λ q. yes (number_of one_word f) (rw q at e)) (λ q. no (number_of one_word (b ∷ f)) refl (rw q at e))
  where
    yes : (o : Option ℕ) → variable_head o ≡ constructor c → (b ∷ f ≡ decimal c) × (c ≤ 65535)
    yes none h = impossible (cc)
    yes (some w) h = impossible (cc)

    no : (o : Option ℕ) → number_of one_word (b ∷ f) ≡ o → constructor_head o ≡ constructor c → (b ∷ f ≡ decimal c) × (c ≤ 65535)
    no none i h = impossible (cc)
    no (some w) i h =
        decided (leb w 65535)
        (λ q. let z : w ≡ c = cc (rw q at h) in let (x, y) = number-text for-one (b ∷ f) w i in (cc, omega (arith, leb-true w 65535 q)))
        (λ q. impossible (cc (rw q at h)))

pub count-text : (f : List ℕ) (n : ℕ) → up_to_six (number_of one_word f) ≡ some n → (f ≡ decimal n) × (n ≤ 6)
count-text f n e = go (number_of one_word f) refl e
  where
    go : (o : Option ℕ) → number_of one_word f ≡ o → up_to_six o ≡ some n → (f ≡ decimal n) × (n ≤ 6)
    go none i h = impossible (cc)
    go (some w) i h =
        decided (leb w 6)
        (λ q. let z : w ≡ n = cc (rw q at h) in let (x, y) = number-text for-one f w i in (cc, omega (arith, leb-true w 6 q)))
        (λ q. impossible (cc (rw q at h)))

-- the first n of terms, and the others, are all
pub count-first : (n : ℕ) (ps : Pats) → n ≤ count ps → count (first_of n ps) ≡ n
unfolding first_of count
count-first zero ps l = refl
count-first (suc n) no-pats l = absurd (omega arith)
count-first (suc n) (more-pats p ps) l = ap suc (count-first n ps (omega arith))

pub count-others : (n k : ℕ) (ps : Pats) → count ps ≡ n + k → count (others_of n ps) ≡ k
unfolding others_of count
count-others zero k ps e = omega arith
count-others (suc n) k no-pats e = absurd (omega arith)
count-others (suc n) k (more-pats p ps) e = count-others n k ps (omega arith)

pub fields-apart : (n : ℕ) (ps : Pats) → pats_fields (first_of n ps) ++ pats_fields (others_of n ps) ≡ pats_fields ps
unfolding first_of others_of pats_fields
fields-apart zero ps = refl
fields-apart (suc n) no-pats = refl
fields-apart (suc n) (more-pats p ps) = rw (append_assoc, fields-apart n ps)

pub plain-first : (n : ℕ) {ps : Pats} → Plains ps → Plains (first_of n ps)
unfolding first_of
plain-first zero h = plain-none
plain-first (suc n) plain-none = plain-none
plain-first (suc n) (plain_more i h) = plain_more i (plain-first n h)

pub plain-others : (n : ℕ) {ps : Pats} → Plains ps → Plains (others_of n ps)
unfolding others_of
plain-others zero h = h
plain-others (suc n) plain-none = plain-none
plain-others (suc n) (plain_more i h) = plain-others n h

-- a variable, a constructor or a condition in front of what was written
wrote-variable : (f : List ℕ) (v : ℕ) {fs : Fields} {k : ℕ} {qs : Pats} {cs : List Condition} → head_of f ≡ variable v → Wrote fs k qs cs → Wrote (f ∷ fs) (suc k) (more-pats (var v) qs) cs
unfolding pat_fields pats_fields count
wrote-variable f v e w = let (x, y) = head-var-text f v e in record { text = rw (x, w.text); number = ap suc w.number; plains = plain_more (plain-var y) w.plains; conditions = w.conditions }

wrote-parent : (f g : List ℕ) (c n : ℕ) {fs : Fields} {k : ℕ} {qs : Pats} {cs : List Condition} → head_of f ≡ constructor c → up_to_six (number_of one_word g) ≡ some n → Wrote fs (n + k) qs cs
    → Wrote (f ∷ g ∷ fs) (suc k) (more-pats (con c (first_of n qs)) (others_of n qs)) cs
unfolding pat_fields pats_fields count
wrote-parent f g c n {fs} {k} {qs} {cs} e i w =
    let (x, y) = head-con-text f c e in
    let (u, v) = count-text g n i in
    let l : n ≤ count qs = omega arith in
    let m = count-first n qs l in
    let t : pats_fields (first_of n qs) ++ (pats_fields (others_of n qs) ++ conditions_fields cs) ≡ fs = sym
    (append_assoc (pats_fields (first_of n qs)) (pats_fields (others_of n qs)) (conditions_fields cs)) ∙ rw (fields-apart n qs) (sym w.text) in
    record {
      text = rw (append_assoc, t, m, x, u);
      number = ap suc (count-others n k qs w.number);
      plains = plain_more (plain-con {ps = first_of n qs} y (rw m v) (plain-first n w.plains)) (plain-others n w.plains);
      conditions = w.conditions;
    }

-- a condition's two terms
two-got : (x : ℕ) (r : Read) {ps : Pats} {cs : List Condition} → condition_of x r ≡ got ps cs
    → (s : Pat) × (o : Pat) × (qs : Pats) × (ds : List Condition) × (r ≡ got (more-pats s (more-pats o qs)) ds) × (ps ≡ no-pats) × (cs ≡ record { callee = x; start = s; outcome = o } ∷ ds)
unfolding condition_of
two-got x (got (more-pats s (more-pats o qs)) ds) e = (s, o, qs, ds, refl, cc, cc)
two-got x (got no-pats ds) e = impossible (cc)
two-got x (got (more-pats s no-pats) ds) e = impossible (cc)
two-got x (bad i) e = impossible (cc)

pub count_none : (ps : Pats) → count ps ≡ 0 → ps ≡ no-pats
unfolding count
count_none no-pats e = refl
count_none (more-pats p ps) e = absurd (omega arith)

-- two terms and no more
pub two-wrote : {fs : Fields} {s o : Pat} {qs : Pats} {ds : List Condition} → Wrote fs 2 (more-pats s (more-pats o qs)) ds
    → (fs ≡ pat_fields s ++ (pat_fields o ++ conditions_fields ds)) × Plain s × Plain o
unfolding count pats_fields
two-wrote {fs} {s} {o} {qs} {ds} w =
    let z = count_none qs (omega (arith, w.number)) in
    let (i, j) = plains w.plains in
    (w.text ∙ rw z (rw (append-nil, append_assoc)), i, j)
  where
    plains : Plains (more-pats s (more-pats o qs)) → Plain s × Plain o
    plains (plain_more i (plain_more j h)) = (i, j)

wrote-condition : (f : List ℕ) (x : ℕ) {fs : Fields} {s o : Pat} {qs : Pats} {ds : List Condition} → number_of one_word f ≡ some x → Wrote fs 2 (more-pats s (more-pats o qs)) ds
    → Wrote (f ∷ fs) 0 no-pats (record { callee = x; start = s; outcome = o } ∷ ds)
unfolding pats_fields conditions_fields count
wrote-condition f x e w =
    let (a, b) = number-text for-one f x e in
    let (t, i, j) = two-wrote w in
    record { text = rw (a, t); number = refl; plains = plain-none; conditions = plain-next b i j w.conditions }

nothing-wrote : {ps : Pats} {cs : List Condition} → got no-pats [] ≡ got ps cs → Wrote [] 0 ps cs
unfolding pats_fields conditions_fields count
nothing-wrote {ps} {cs} e =
    let x : no-pats ≡ ps = cc in
    let y : [] ≡ cs = cc in
    rw (← x, ← y) (record { text = refl; number = refl; plains = plain-none; conditions = plain_end })

condition-wrote : (f : List ℕ) (fs : Fields) (n : Option ℕ) {ps : Pats} {cs : List Condition} → number_of one_word f ≡ n → or_bad n (λ x. condition_of x (read fs 2)) ≡ got ps cs
    → ((qs : Pats) (ds : List Condition) → read fs 2 ≡ got qs ds → Wrote fs 2 qs ds) → Wrote (f ∷ fs) 0 ps cs
condition-wrote f fs none i e h = impossible (cc)
condition-wrote f fs (some x) i e h =
    let (s, o, qs, ds, z, u, v) = two-got x (read fs 2) (later-got (condition_of x (read fs 2)) e) in
    rw (u, v) (wrote-condition f x i (h (more-pats s (more-pats o qs)) ds z))

term-wrote : (f : List ℕ) (fs : Fields) (k : ℕ) (n : Head) {ps : Pats} {cs : List Condition} → head_of f ≡ n
    → on_head n (λ v. in_front (var v) (read fs k)) (λ c. counted fs c k) ≡ got ps cs
    → ((qs : Pats) (ds : List Condition) → read fs k ≡ got qs ds → Wrote fs k qs ds)
    → ((c : ℕ) → head_of f ≡ constructor c → (qs : Pats) (ds : List Condition) → counted fs c k ≡ got qs ds → Wrote (f ∷ fs) (suc k) qs ds)
    → Wrote (f ∷ fs) (suc k) ps cs
term-wrote f fs k (variable v) {cs = cs} i e h j =
    let (qs, z, u) = front-got (var v) (read fs k) (later-got (in_front (var v) (read fs k)) e) in
    rw u (wrote-variable f v i (h qs cs z))
term-wrote f fs k (constructor c) {ps = ps} {cs = cs} i e h j = j c i ps cs (later-got (counted fs c k) e)
term-wrote f fs k neither i e h j = impossible (cc)

children-wrote : (f g : List ℕ) (fs : Fields) (c k : ℕ) → head_of f ≡ constructor c → (n : Option ℕ) {ps : Pats} {cs : List Condition} → up_to_six (number_of one_word g) ≡ n
    → or_bad n (λ n. parent c n (read fs (n + k))) ≡ got ps cs
    → ((n : ℕ) (qs : Pats) (ds : List Condition) → read fs (n + k) ≡ got qs ds → Wrote fs (n + k) qs ds)
    → Wrote (f ∷ g ∷ fs) (suc k) ps cs
children-wrote f g fs c k t none i e h = impossible (cc)
children-wrote f g fs c k t (some n) {cs = cs} i e h =
    let (qs, z, u) = parent-got c n (read fs (n + k)) (later-got (parent c n (read fs (n + k))) e) in
    rw u (wrote-parent f g c n t i (h n qs cs z))

mutual
  unfolding read counted

  -- fields that are read are those of what was read
  pub read-wrote : (fs : Fields) (k : ℕ) (ps : Pats) (cs : List Condition) → read fs k ≡ got ps cs → Wrote fs k ps cs
  read-wrote [] zero ps cs e = nothing-wrote e
  read-wrote [] (suc k) ps cs e = impossible (cc)
  read-wrote (f ∷ fs) zero ps cs e = condition-wrote f fs (number_of one_word f) refl e (λ qs ds z. read-wrote fs 2 qs ds z)
  read-wrote (f ∷ fs) (suc k) ps cs e = term-wrote f fs k (head_of f) refl e (λ qs ds z. read-wrote fs k qs ds z) (λ c h qs ds z. counted-wrote fs f c k qs ds h z)

  counted-wrote : (fs : Fields) (f : List ℕ) (c k : ℕ) (ps : Pats) (cs : List Condition) → head_of f ≡ constructor c → counted fs c k ≡ got ps cs → Wrote (f ∷ fs) (suc k) ps cs
  counted-wrote [] f c k ps cs h e = impossible (cc)
  counted-wrote (g ∷ fs) f c k ps cs h e = children-wrote f g fs c k h (up_to_six (number_of one_word g)) refl e (λ n qs ds z. read-wrote fs (n + k) qs ds z)
