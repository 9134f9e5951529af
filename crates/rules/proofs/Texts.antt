-- The text of rules is read as the rules, and a text that is read is the rules' own.
use mathlib.Core.Path.{◌≡◌, refl, ap, sym, ◌∙◌}
use mathlib.Core.List.{List, [], ◌∷◌, ◌++◌, append_assoc, append-nil}
use Prim.Native.Nat.{ℕ, suc, ◌<◌}
use native.Mathlib.Omega.{arith}
use lib.ListN.{length}
use Rattle.meaning.proofs.Tests.{impossible}
use Rattle.text.specs.Text.{parts, joined, joined_after}
use Rattle.text.proofs.Parts.{parts_first}
use Rattle.text.proofs.Separators.{Clear, nil, one, clear-append, parts-clear, parts_cut, joined-parts}
use Rattle.text.proofs.Decimal.{digits-clear}
use Rattle.rules.specs.Rule.{Pat, Pats, var, con, none as no-pats, more as more-pats, Condition, Rule, count}
use Rattle.rules.specs.Text.{Fields, pat_fields, pats_fields, conditions_fields, rule_fields, tabbed, fields_text, rule_text, rules_text, PlainRule, PlainRules, no-rules, next-rule, Read}
use Rattle.rules.specs.Text.{got, bad, read, ReadRule, rule, bad_field, rule_from, rule_of, Meant, rules, bad_at, before, or_bad_at, unended, last_part, read_lines, meant}
use Rattle.rules.specs.Promises.{TextIsRules, OneReading}
use Rattle.rules.proofs.Reading.{rule-read, read-wrote, two-wrote}

-- no byte of the fields is c
data AllClear (c : ℕ) : Fields → Type 0 where
  no_field : AllClear c []
  next_field : {f : List ℕ} {fs : Fields} → Clear c f → AllClear c fs → AllClear c (f ∷ fs)

all_append : {c : ℕ} {fs : Fields} (gs : Fields) → AllClear c fs → AllClear c gs → AllClear c (fs ++ gs)
all_append gs no_field q = q
all_append gs (next_field i p) q = next_field i (all_append gs p q)

module _ (c : ℕ) (l : c < 48) where
  mutual
    unfolding pat_fields pats_fields

    pat-clear : (p : Pat) → AllClear c (pat_fields p)
    pat-clear (var v) = next_field (one 118 (λ e. omega arith) (digits-clear c 10 v l)) no_field
    pat-clear (con d ps) = next_field (digits-clear c 10 d l) (next_field (digits-clear c 10 (count ps) l) (pats-clear ps))

    pats-clear : (ps : Pats) → AllClear c (pats_fields ps)
    pats-clear no-pats = no_field
    pats-clear (more-pats p ps) = all_append (pats_fields ps) (pat-clear p) (pats-clear ps)

  conditions-clear : (cs : List Condition) → AllClear c (conditions_fields cs)
  unfolding conditions_fields
  conditions-clear [] = no_field
  conditions-clear (d ∷ cs) = next_field (digits-clear c 10 d.callee l)
      (all_append (pat_fields d.outcome ++ conditions_fields cs) (pat-clear d.start) (all_append (conditions_fields cs) (pat-clear d.outcome) (conditions-clear cs)))

  rule-clear : (r : Rule) → AllClear c (rule_fields r)
  unfolding rule_fields
  rule-clear r = all_append (pat_fields r.right ++ conditions_fields r.conditions) (pat-clear r.left)
      (all_append (conditions_fields r.conditions) (pat-clear r.right) (conditions-clear r.conditions))

-- fields and tabs between them
abbrev pub line : Fields → List ℕ
line fs = joined 9 fs

tabbed-joined_after : (fs : Fields) → tabbed fs ≡ joined_after 9 fs
unfolding tabbed
tabbed-joined_after [] = refl
tabbed-joined_after (f ∷ fs) = ap (λ (t : List ℕ). 9 ∷ (f ++ t)) (tabbed-joined_after fs)

-- a rule's text is its line and a line feed
pub fields-line : (fs : Fields) → fields_text fs ≡ line fs ++ (10 ∷ [])
unfolding fields_text
fields-line [] = refl
fields-line (f ∷ fs) = rw (tabbed-joined_after fs) (sym (append_assoc f (joined_after 9 fs) (10 ∷ [])))

joined_after-clear : {fs : Fields} → AllClear 10 fs → Clear 10 (joined_after 9 fs)
joined_after-clear no_field = nil
joined_after-clear (next_field {fs = fs} i p) = one 9 (λ e. omega arith) (clear-append (joined_after 9 fs) i (joined_after-clear p))

line_clear : {fs : Fields} → AllClear 10 fs → Clear 10 (line fs)
line_clear no_field = nil
line_clear (next_field {fs = fs} i p) = clear-append (joined_after 9 fs) i (joined_after-clear p)

-- fields between tabs are the parts
line-parts : {f : List ℕ} {fs : Fields} → Clear 9 f → AllClear 9 fs → parts 9 (f ++ joined_after 9 fs) ≡ f ∷ fs
line-parts {f} i no_field = rw append-nil (parts-clear i)
line-parts {f} i (next_field {f = g} {fs = fs} j p) = parts_cut (g ++ joined_after 9 fs) i ∙ ap (λ (gs : Fields). f ∷ gs) (line-parts j p)

fields-parts : {fs : Fields} → AllClear 9 fs → 0 < length fs → parts 9 (line fs) ≡ fs
fields-parts no_field l = absurd (omega arith)
fields-parts (next_field i p) l = line-parts i p

pat-some : (p : Pat) (fs : Fields) → 0 < length (pat_fields p ++ fs)
unfolding pat_fields
pat-some (var v) fs = omega arith
pat-some (con c ps) fs = omega arith

pub rule-some : (r : Rule) → 0 < length (rule_fields r)
unfolding rule_fields
rule-some r = pat-some r.left (pat_fields r.right ++ conditions_fields r.conditions)

-- ---- written, then read

pub line_read : (r : Rule) → PlainRule r → rule_of (line (rule_fields r)) ≡ rule r
unfolding rule_of
line_read r h = rw (fields-parts (rule-clear 9 (omega arith) r) (rule-some r), rule-read r h)

text-cut : (r : Rule) (t : List ℕ) → parts 10 (rule_text r ++ t) ≡ line (rule_fields r) ∷ parts 10 t
unfolding rule_text
text-cut r t = rw (fields-line (rule_fields r), append_assoc) (parts_cut t (line_clear (rule-clear 10 (omega arith) r)))

step : (n : ℕ) (l : List ℕ) (ps : List (List ℕ)) (r : Rule) → 0 < length ps → rule_of l ≡ rule r → read_lines n (l ∷ ps) ≡ before r (read_lines (suc n) ps)
unfolding read_lines
step n l [] r h e = absurd (omega arith)
step n l (p ∷ ps) r h e = rw e

some-parts : (c : ℕ) (s : List ℕ) → 0 < length (parts c s)
some-parts c s = rw (parts_first c s) (omega arith)

written_read : (n : ℕ) {rs : List Rule} → PlainRules rs → read_lines n (parts 10 (rules_text rs)) ≡ rules rs
unfolding rules_text read_lines parts
written_read n no-rules = refl
written_read n (next-rule {r = r} {rs = rs} h hs) = rw
    (text-cut r (rules_text rs), step n (line (rule_fields r)) (parts 10 (rules_text rs)) r (some-parts 10 (rules_text rs)) (line_read r h), written_read (suc n) hs)

-- ---- read, then written

pub record Line (l : List ℕ) (r : Rule) : Type 0 where
  pub text : l ≡ line (rule_fields r)
  pub plain : PlainRule r

pub rule-wrote : (fs : Fields) (x : Read) (r : Rule) → read fs 2 ≡ x → rule_from x ≡ rule r → (fs ≡ rule_fields r) × PlainRule r
unfolding rule_fields
rule-wrote fs (got (more-pats p (more-pats q ps)) cs) r i e =
    let w = read-wrote fs 2 (more-pats p (more-pats q ps)) cs i in
    let (t, j, k) = two-wrote w in
    let z : record { left = p; right = q; conditions = cs } ≡ r = cc in
    rw (← z) (t, record { left = j; right = k; conditions = w.conditions })
rule-wrote fs (got (more-pats p no-pats) cs) r i e = impossible (cc)
rule-wrote fs (got no-pats cs) r i e = impossible (cc)
rule-wrote fs (bad n) r i e = impossible (cc)

pub line_wrote : (l : List ℕ) (r : Rule) → rule_of l ≡ rule r → Line l r
unfolding rule_of
line_wrote l r e =
    let (x, y) = rule-wrote (parts 9 l) (read (parts 9 l) 2) r refl e in
    record { text = sym (joined-parts 9 l) ∙ ap line x; plain = y }

pub before-rules : (r : Rule) (m : Meant) (rs : List Rule) → before r m ≡ rules rs → (qs : List Rule) × (m ≡ rules qs) × (rs ≡ r ∷ qs)
before-rules r (rules qs) rs e = (qs, refl, cc)
before-rules r (bad_at l i) rs e = impossible (cc)

last-read : (n : ℕ) (l : List ℕ) (rs : List Rule) → last_part n l ≡ rules rs → (joined 10 (l ∷ []) ≡ rules_text rs) × PlainRules rs
unfolding rules_text
last-read n [] rs e = let z : [] ≡ rs = cc in rw (← z) (refl, no-rules)
last-read n (b ∷ l) rs e = go (rule_of (b ∷ l)) e
  where
    go : (x : ReadRule) → unended n (b ∷ l) x ≡ rules rs → (joined 10 ((b ∷ l) ∷ []) ≡ rules_text rs) × PlainRules rs
    go (bad_field i) h = impossible (cc)
    go (rule r) h = impossible (cc)

lines-wrote : (ps : List (List ℕ)) (n : ℕ) (rs : List Rule) → 0 < length ps → read_lines n ps ≡ rules rs → (joined 10 ps ≡ rules_text rs) × PlainRules rs
unfolding read_lines rules_text rule_text
lines-wrote [] n rs l e = absurd (omega arith)
lines-wrote (p ∷ []) n rs l e = last-read n p rs e
lines-wrote (p ∷ q ∷ ps) n rs l e = go (rule_of p) refl e (λ qs z. lines-wrote (q ∷ ps) (suc n) qs (omega arith) z)
  where
    go : (x : ReadRule) → rule_of p ≡ x → or_bad_at n x (λ r. before r (read_lines (suc n) (q ∷ ps))) ≡ rules rs
        → ((qs : List Rule) → read_lines (suc n) (q ∷ ps) ≡ rules qs → (joined 10 (q ∷ ps) ≡ rules_text qs) × PlainRules qs)
        → (joined 10 (p ∷ q ∷ ps) ≡ rules_text rs) × PlainRules rs
    go (bad_field i) j h f = impossible (cc)
    go (rule r) j h f =
        let (qs, x, y) = before-rules r (read_lines (suc n) (q ∷ ps)) rs h in
        let (t, u) = f qs x in
        let w = line_wrote p r j in
        rw y (rw (fields-line (rule_fields r), append_assoc, ← w.text, ← t), next-rule w.plain u)

-- A text means rules exactly where it is their text.
pub text-is-rules : TextIsRules
unfolding meant
text-is-rules s rs = (
  (λ e. let (t, h) = lines-wrote (parts 10 s) 1 rs (some-parts 10 s) e in (sym (joined-parts 10 s) ∙ t, h)),
  (λ p. rw p.0 (written_read 1 p.1)),
)

-- A text is read in one way.
pub one-reading : OneReading
one-reading rs qs h k e =
    let x = (text-is-rules (rules_text rs) rs).1 (refl, h) in
    let y = (text-is-rules (rules_text rs) qs).1 (e, k) in
    cc
