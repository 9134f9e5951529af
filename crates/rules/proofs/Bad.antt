-- The first bad field of a line.
use mathlib.Core.Path.{◌≡◌, refl, ap, sym, ◌∙◌, subst}
use mathlib.Core.Option.{Option, none, some}
use mathlib.Core.List.{List, [], ◌∷◌, ◌++◌}
use Prim.Native.Nat.{ℕ, zero, suc, ◌+◌, ◌≤◌, ◌<◌}
use native.Mathlib.Omega.{arith}
use lib.ListN.{length, take}
use Rattle.meaning.proofs.Tests.{impossible}
use Rattle.text.specs.Text.{one_word, number_of, decimal}
use Rattle.text.proofs.Put.{for-one}
use Rattle.text.proofs.Decimal.{number-decimal}
use Rattle.rules.specs.Rule.{Pat, Pats, var, con, none as no-pats, more as more-pats, Condition, Rule, count}
use Rattle.rules.specs.Text.{Fields, pats_fields, rule_fields, Plains, plain-none, plain_more, plain-con, PlainRule, Head, variable, constructor, neither, head_of, up_to_six}
use Rattle.rules.specs.Text.{Read, got, bad, later, first_of, others_of, in_front, parent, condition_of, or_bad, on_head, read, counted, bad_field, rule_from}
use Rattle.rules.specs.Promises.{BadField}
use Rattle.rules.proofs.Reading.{ahead, joined, pats-read, rule-read, Wrote, read-wrote, two-wrote}

-- something is read
abbrev Good : Read → Type 0
Good x = (ps : Pats) × (cs : List Condition) × (x ≡ got ps cs)

-- R fails at field i of fs: no later field counts, and the fields before may go on well
record Fails (R : Fields → Read) (fs : Fields) (i : ℕ) : Type 0 where
  within : i ≤ length fs
  stable : i < length fs → (gs : Fields) → R (take (suc i) fs ++ gs) ≡ bad i
  rest : Fields
  further : Good (R (take i fs ++ rest))

later-bad : (x : Read) {i : ℕ} → later x ≡ bad i → (j : ℕ) × (x ≡ bad j) × (i ≡ suc j)
unfolding later
later-bad (got ps cs) e = impossible (cc)
later-bad (bad j) e = (j, refl, cc)

later-good : {x : Read} → Good x → Good (later x)
unfolding later
later-good (ps, cs, e) = (ps, cs, rw e)

front-bad : (p : Pat) (x : Read) {i : ℕ} → in_front p x ≡ bad i → x ≡ bad i
unfolding in_front
front-bad p (got ps cs) e = impossible (cc)
front-bad p (bad j) e = e

parent-bad : (c n : ℕ) (x : Read) {i : ℕ} → parent c n x ≡ bad i → x ≡ bad i
unfolding parent
parent-bad c n (got ps cs) e = impossible (cc)
parent-bad c n (bad j) e = e

-- two terms make a condition
two-pats : (fs : Fields) (ps : Pats) (cs : List Condition) → read fs 2 ≡ got ps cs → (p : Pat) × (q : Pat) × (ps ≡ more-pats p (more-pats q no-pats))
unfolding count
two-pats fs no-pats cs e = absurd (omega (arith, (read-wrote fs 2 no-pats cs e).number))
two-pats fs (more-pats p no-pats) cs e = absurd (omega (arith, (read-wrote fs 2 (more-pats p no-pats) cs e).number))
two-pats fs (more-pats p (more-pats q no-pats)) cs e = (p, q, refl)
two-pats fs (more-pats p (more-pats q (more-pats r ps))) cs e = absurd (omega (arith, (read-wrote fs 2 (more-pats p (more-pats q (more-pats r ps))) cs e).number))

condition-bad : (x : ℕ) (fs : Fields) (r : Read) {i : ℕ} → read fs 2 ≡ r → condition_of x r ≡ bad i → r ≡ bad i
unfolding condition_of
condition-bad x fs (got no-pats cs) h e = let (p, q, z) = two-pats fs no-pats cs h in impossible (cc)
condition-bad x fs (got (more-pats p no-pats) cs) h e = let (q, r, z) = two-pats fs (more-pats p no-pats) cs h in impossible (cc)
condition-bad x fs (got (more-pats p (more-pats q ps)) cs) h e = impossible (cc)
condition-bad x fs (bad j) h e = e

condition-good : (x : ℕ) (fs : Fields) → Good (read fs 2) → Good (condition_of x (read fs 2))
unfolding condition_of
condition-good x fs (ps, cs, e) = let (p, q, z) = two-pats fs ps cs e in go ps p q z e
  where
    go : (ps : Pats) (p q : Pat) → ps ≡ more-pats p (more-pats q no-pats) → read fs 2 ≡ got ps cs → Good (condition_of x (read fs 2))
    go ps p q z e = (no-pats, record { callee = x; start = p; outcome = q } ∷ cs, ap (condition_of x) e ∙ ap (λ (ps : Pats). condition_of x (got ps cs)) z)

front-good : (p : Pat) {x : Read} → Good x → Good (in_front p x)
unfolding in_front
front-good p (ps, cs, e) = (more-pats p ps, cs, rw e)

parent-good : (c n : ℕ) {x : Read} → Good x → Good (parent c n x)
unfolding parent
parent-good c n (ps, cs, e) = (more-pats (con c (first_of n ps)) (others_of n ps), cs, rw e)

-- k terms can be read
unfoldable nothings : ℕ → Pats
nothings zero = no-pats
nothings (suc k) = more-pats (con 0 no-pats) (nothings k)

nothings-plain : (k : ℕ) → Plains (nothings k)
unfolding nothings count
nothings-plain zero = plain-none
nothings-plain (suc k) = plain_more (plain-con {c = 0} {ps = no-pats} (omega arith) (omega arith) plain-none) (nothings-plain k)

nothings-count : (k : ℕ) → count (nothings k) ≡ k
unfolding nothings count
nothings-count zero = refl
nothings-count (suc k) = ap suc (nothings-count k)

some-terms : (k : ℕ) → Good (read (pats_fields (nothings k) ++ []) k)
unfolding ahead read
some-terms k =
    let z : count (nothings k) + 0 ≡ k = omega (arith, nothings-count k) in
    (joined (nothings k) no-pats, [], subst (λ (n : ℕ). read (pats_fields (nothings k) ++ []) n ≡ got (joined (nothings k) no-pats) []) z (pats-read (nothings k) (nothings-plain k) [] 0))

-- bad at the first field
at_once : (R : Fields → Read) (fs gs : Fields) → Good (R gs) → (0 < length fs → (hs : Fields) → R (take 1 fs ++ hs) ≡ bad 0) → Fails R fs 0
at_once R fs gs g h = record { within = omega arith; stable = h; rest = gs; further = g }

-- one good field more
after : {R R' : Fields → Read} (f : List ℕ) {fs : Fields} {j : ℕ} → Fails R fs j → ((hs : Fields) → R hs ≡ bad j → R' (f ∷ hs) ≡ bad (suc j))
    → ((hs : Fields) → Good (R hs) → Good (R' (f ∷ hs))) → Fails R' (f ∷ fs) (suc j)
after f {fs} {j} w b g = record {
  within = omega (arith, w.within);
  stable = λ l gs. b (take (suc j) fs ++ gs) (w.stable (omega arith) gs);
  rest = w.rest;
  further = g (take j fs ++ w.rest) w.further;
}

read_number : (f : List ℕ) (x : ℕ) → number_of one_word f ≡ some x → (hs : Fields) → read (f ∷ hs) 0 ≡ later (condition_of x (read hs 2))
unfolding read
read_number f x e hs = rw e

read-variable : (f : List ℕ) (v k : ℕ) → head_of f ≡ variable v → (hs : Fields) → read (f ∷ hs) (suc k) ≡ later (in_front (var v) (read hs k))
unfolding read
read-variable f v k e hs = rw e

read-constructor : (f : List ℕ) (c k : ℕ) → head_of f ≡ constructor c → (hs : Fields) → read (f ∷ hs) (suc k) ≡ later (counted hs c k)
unfolding read
read-constructor f c k e hs = rw e

counted-number : (f : List ℕ) (c k n : ℕ) → up_to_six (number_of one_word f) ≡ some n → (hs : Fields) → counted (f ∷ hs) c k ≡ later (parent c n (read hs (n + k)))
unfolding counted
counted-number f c k n e hs = rw e

number-fails : (f : List ℕ) (fs : Fields) (o : Option ℕ) {i : ℕ} → number_of one_word f ≡ o → or_bad o (λ x. condition_of x (read fs 2)) ≡ bad i
    → ((j : ℕ) → read fs 2 ≡ bad j → Fails (λ hs. read hs 2) fs j) → Fails (λ hs. read hs 0) (f ∷ fs) i
unfolding read later condition_of
number-fails f fs none {i} h e k = let z : 0 ≡ i = cc in subst (λ (n : ℕ). Fails (λ hs. read hs 0) (f ∷ fs) n) z (at_once (λ hs. read hs 0) (f ∷ fs) [] (no-pats, [], refl) (λ l hs. rw h))
number-fails f fs (some x) {i} h e k =
    let (j, y, z) = later-bad (condition_of x (read fs 2)) e in
    let w = k j (condition-bad x fs (read fs 2) refl y) in
    rw z (after f w (λ hs q. read_number f x h hs ∙ rw q) (λ hs q. rw (read_number f x h hs) (later-good (condition-good x hs q))))

term-fails : (f : List ℕ) (fs : Fields) (k : ℕ) (o : Head) {i : ℕ} → head_of f ≡ o → on_head o (λ v. in_front (var v) (read fs k)) (λ c. counted fs c k) ≡ bad i
    → ((j : ℕ) → read fs k ≡ bad j → Fails (λ hs. read hs k) fs j)
    → ((c j : ℕ) → counted fs c k ≡ bad j → Fails (λ hs. counted hs c k) fs j)
    → Fails (λ hs. read hs (suc k)) (f ∷ fs) i
unfolding read later in_front
term-fails f fs k (variable v) h e m n =
    let (j, y, z) = later-bad (in_front (var v) (read fs k)) e in
    let w = m j (front-bad (var v) (read fs k) y) in
    rw z (after f w (λ hs q. read-variable f v k h hs ∙ rw q) (λ hs q. rw (read-variable f v k h hs) (later-good (front-good (var v) q))))
term-fails f fs k (constructor c) h e m n =
    let (j, y, z) = later-bad (counted fs c k) e in
    rw z (after f (n c j y) (λ hs q. read-constructor f c k h hs ∙ rw q) (λ hs q. rw (read-constructor f c k h hs) (later-good q)))
term-fails f fs k neither {i} h e m n = let z : 0 ≡ i = cc in subst (λ (n : ℕ). Fails (λ hs. read hs (suc k)) (f ∷ fs) n) z
    (at_once (λ hs. read hs (suc k)) (f ∷ fs) (pats_fields (nothings (suc k)) ++ []) (some-terms (suc k)) (λ l hs. rw h))

-- a count and as many terms as are wanted
some-counted : (c k : ℕ) → Good (counted (decimal 0 ∷ (pats_fields (nothings k) ++ [])) c k)
some-counted c k =
    let l : 0 ≤ 4294967295 = omega arith in
    let z : 0 + k ≡ k = omega arith in
    rw (counted-number (decimal 0) c k 0 (rw (number-decimal for-one 0 l)) (pats_fields (nothings k) ++ [])) (later-good (parent-good c 0 (rw z (some-terms k))))

count-fails : (f : List ℕ) (fs : Fields) (c k : ℕ) (o : Option ℕ) {i : ℕ} → up_to_six (number_of one_word f) ≡ o → or_bad o (λ n. parent c n (read fs (n + k))) ≡ bad i
    → ((n j : ℕ) → read fs (n + k) ≡ bad j → Fails (λ hs. read hs (n + k)) fs j) → Fails (λ hs. counted hs c k) (f ∷ fs) i
unfolding counted later parent
count-fails f fs c k none {i} h e m = let z : 0 ≡ i = cc in subst (λ (n : ℕ). Fails (λ hs. counted hs c k) (f ∷ fs) n) z
    (at_once (λ hs. counted hs c k) (f ∷ fs) (decimal 0 ∷ (pats_fields (nothings k) ++ [])) (some-counted c k) (λ l hs. rw h))
count-fails f fs c k (some n) h e m =
    let (j, y, z) = later-bad (parent c n (read fs (n + k))) e in
    let w = m n j (parent-bad c n (read fs (n + k)) y) in
    rw z (after f w (λ hs q. counted-number f c k n h hs ∙ rw q) (λ hs q. rw (counted-number f c k n h hs) (later-good (parent-good c n q))))

mutual
  unfolding read counted

  read-fails : (fs : Fields) (k i : ℕ) → read fs k ≡ bad i → Fails (λ hs. read hs k) fs i
  read-fails [] zero i e = impossible (cc)
  read-fails [] (suc k) i e = let z : 0 ≡ i = cc in subst (λ (n : ℕ). Fails (λ hs. read hs (suc k)) [] n) z
      (at_once (λ hs. read hs (suc k)) [] (pats_fields (nothings (suc k)) ++ []) (some-terms (suc k)) (λ l hs. absurd (omega arith)))
  read-fails (f ∷ fs) zero i e = number-fails f fs (number_of one_word f) refl e (λ j z. read-fails fs 2 j z)
  read-fails (f ∷ fs) (suc k) i e = term-fails f fs k (head_of f) refl e (λ j z. read-fails fs k j z) (λ c j z. counted-fails fs c k j z)

  counted-fails : (fs : Fields) (c k i : ℕ) → counted fs c k ≡ bad i → Fails (λ hs. counted hs c k) fs i
  counted-fails [] c k i e = let z : 0 ≡ i = cc in subst (λ (n : ℕ). Fails (λ hs. counted hs c k) [] n) z
      (at_once (λ hs. counted hs c k) [] (decimal 0 ∷ (pats_fields (nothings k) ++ [])) (some-counted c k) (λ l hs. absurd (omega arith)))
  counted-fails (f ∷ fs) c k i e = count-fails f fs c k (up_to_six (number_of one_word f)) refl e (λ n j z. read-fails fs (n + k) j z)

-- no more fields are good than there are
pub read-within : (fs : Fields) (k i : ℕ) → read fs k ≡ bad i → i ≤ length fs
read-within fs k i e = (read-fails fs k i e).within

-- what is read as two terms and conditions is a rule's
good-rule : (fs : Fields) → Good (read fs 2) → (r : Rule) × PlainRule r × (rule_fields r ≡ fs)
unfolding rule_fields
good-rule fs (ps, cs, e) =
    let (p, q, z) = two-pats fs ps cs e in
    let w : Wrote fs 2 (more-pats p (more-pats q no-pats)) cs = subst (λ (x : Pats). Wrote fs 2 x cs) z (read-wrote fs 2 ps cs e) in
    let (t, i, j) = two-wrote w in
    (record { left = p; right = q; conditions = cs }, record { left = i; right = j; conditions = w.conditions }, sym t)

bad-number : (fs : Fields) (x : Read) {n : ℕ} → read fs 2 ≡ x → rule_from x ≡ bad_field n → (i : ℕ) × (x ≡ bad i) × (n ≡ suc i)
bad-number fs (got no-pats cs) h e = let (p, q, z) = two-pats fs no-pats cs h in impossible (cc)
bad-number fs (got (more-pats p no-pats) cs) h e = let (q, r, z) = two-pats fs (more-pats p no-pats) cs h in impossible (cc)
bad-number fs (got (more-pats p (more-pats q ps)) cs) h e = impossible (cc)
bad-number fs (bad i) h e = (i, refl, cc)

-- The first bad field of a line.
pub bad-field : BadField
bad-field fs n e =
    let (i, x, y) = bad-number fs (read fs 2) refl e in
    let w = read-fails fs 2 i x in
    let (r, p, t) = good-rule (take i fs ++ w.rest) w.further in
    record {
      before = i;
      number = y;
      within = w.within;
      rule = r;
      plain = p;
      rest = w.rest;
      begins = t;
      bad = λ r gs p q l. let u = rule-read r p in let v = w.stable l gs in impossible (cc (ap (λ (hs : Fields). rule_from (read hs 2)) q, ap rule_from v));
      short = λ r p q. let u = rule-read r p in impossible (cc (ap (λ (hs : Fields). rule_from (read hs 2)) q));
    }
