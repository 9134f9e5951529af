-- The text that is accepted is that of rules which may all be added; and two outcomes agree. Assumes nothing.
use mathlib.Core.Path.{◌≡◌, refl, ap, sym, ◌∙◌, subst}
use mathlib.Core.Bool.{Bool, true, false}
use mathlib.Core.List.{List, [], ◌∷◌}
use Prim.Native.Nat.{ℕ, suc, ◌+◌, ◌≤◌}
use native.Mathlib.Omega.{arith}
use lib.Dec.{eqb, ltb}
use borrow.Author.Tests.{eqb-true, eqb-false, ltb-false, le-ltb, eq-eqb}
use Rattle.std.specs.Prelude.{if◌then◌else◌}
use Rattle.words.specs.Words.{rows}
use Rattle.words.proofs.Tests.{and-true}
use Rattle.meaning.proofs.Tests.{impossible, decided}
use Rattle.text.specs.Text.{parts}
use Rattle.rules.specs.Rule.{Condition, Rule, rule_variables, bound}
use Rattle.rules.specs.Text.{ReadRule, rule, bad_field, rule_of, rules, before, or_bad_at, unended, last_part, read_lines, meant}
use Rattle.rules.specs.Shape.{rule_size}
use Rattle.check_rules.specs.Bound.{all_below, variables_answer}
use Rattle.check_rules.specs.Line.{all_calls, rule_answer, line_of}
use Rattle.check_rules.specs.Check.{told, refusal, by_line, last_line, text_checked}
use Rattle.check_rules.specs.Answer.{used_checked, Callable, RulesChecked, entries, lines}
use Rattle.rules.specs.Promises.{Among, here, there}
use Rattle.check_rules.specs.Promises.{Allowed, AllAllowed, none_left, and-more, entries_of, Accepted, Accepts, AcceptsNumbers, Agree}
use Rattle.check_rules.specs.Check.{Translated}
use Rattle.rules.proofs.Texts.{before-rules, text-is-rules}
use Rattle.check_rules.proofs.Answering.{used-sizes}

-- ---- one rule

module _ (f : ℕ → Bool) where
  calls-all : (cs : List Condition) → all_calls f cs ≡ true → (c : Condition) → Among c cs → f c.callee ≡ true
  unfolding all_calls
  calls-all (d ∷ cs) e c here = (and-true (f d.callee) _ e).0
  calls-all (d ∷ cs) e c (there i) = calls-all cs (and-true (f d.callee) _ e).1 c i
  calls-all [] e c x'' = elim x'' [ ]

  all-calls : (cs : List Condition) → ((c : Condition) → Among c cs → f c.callee ≡ true) → all_calls f cs ≡ true
  unfolding all_calls
  all-calls [] h = refl
  all-calls (d ∷ cs) h = rw (h d here, all-calls cs (λ c i. h c (there i)))

  module _ (t : List ℕ) (u : ℕ) (callable : Callable t u f) where
    pub answer-allowed : (r : Rule) → rule_answer f r ≡ 0 → Allowed t u r
    unfolding rule_answer variables_answer
    answer-allowed r e = go (bound r) refl (all_below (rule_variables r)) refl (all_calls f r.conditions) refl e
      where
        go : (b : Bool) → bound r ≡ b → (l : Bool) → all_below (rule_variables r) ≡ l → (k : Bool) → all_calls f r.conditions ≡ k
            → ◌≡◌ {A = ℕ} (if eqb (if b then (if l then 0 else 20) else 19) 0 then (if k then 0 else 22) else (if b then (if l then 0 else 20) else 19)) 0 → Allowed t u r
        go true i true j true m z = record { bound-before = i; in-range = j; called = λ c a. (callable c.callee).0 (calls-all r.conditions m c a) }
        go true i true j false m z = absurd (omega (arith, z))
        go true i false j k m z = absurd (omega (arith, z))
        go false i l j k m z = absurd (omega (arith, z))

    pub allowed-answer : (r : Rule) → Allowed t u r → rule_answer f r ≡ 0
    unfolding rule_answer variables_answer
    allowed-answer r a = rw (a.bound-before, a.in-range, all-calls r.conditions (λ c i. (callable c.callee).1 (a.called c i)))

    -- ---- lines

    module _ (room used : ℕ) where
      -- The rules of lines that are accepted.
      record Taken (n m e : ℕ) (ps : List (List ℕ)) : Type 0 where
        its : List Rule
        reading : read_lines m ps ≡ rules its
        allowed : AllAllowed t u its
        fits : e + entries_of its ≤ room
        numbers : text_checked f room used n e ps ≡ told (e + entries_of its) 0 0 0

      no_more : (n m e : ℕ) (ps : List (List ℕ)) → read_lines m ps ≡ rules [] → text_checked f room used n e ps ≡ told e 0 0 0 → e ≤ room → Taken n m e ps
      unfolding entries_of
      no_more n m e ps i z l = record { its = []; reading = i; allowed = none_left; fits = omega arith; numbers = z ∙ ap (λ (x : ℕ). told x 0 0 0) (omega arith) }

      last_taken : (n m e : ℕ) (l : List ℕ) → e ≤ room → (last_line f room used n e l).answer ≡ 0 → Taken n m e (l ∷ [])
      unfolding read_lines text_checked
      last_taken n m e [] h z = no_more n m e ([] ∷ []) refl refl h
      last_taken n m e (b ∷ l) h z = absurd (omega (arith, z))

      taken : (ps : List (List ℕ)) (n m e : ℕ) → e ≤ room → (text_checked f room used n e ps).answer ≡ 0 → Taken n m e ps
      unfolding read_lines text_checked entries_of refusal
      taken [] n m e h z = no_more n m e [] refl refl h
      taken (l ∷ []) n m e h z = last_taken n m e l h z
      taken (l ∷ k ∷ ls) n m e h z = go (rule_of l) refl z (λ e' g y. taken (k ∷ ls) (n + 1) (suc m) e' g y)
        where
          more : (r : Rule) → rule_of l ≡ rule r → rule_answer f r ≡ 0 → e + rule_size r ≤ room → Taken (n + 1) (suc m) (e + rule_size r) (k ∷ ls) → Taken n m e (l ∷ k ∷ ls)
          more r i a g w = record {
            its = r ∷ w.its;
            reading = rw (i, w.reading);
            allowed = and-more (answer-allowed r a) w.allowed;
            fits = omega (arith, w.fits);
            numbers = rw (i, eq-eqb (rule_answer f r) 0 a, le-ltb room (e + rule_size r) g) (w.numbers ∙ ap (λ (x : ℕ). told x 0 0 0) (omega arith));
          }

          go : (x : ReadRule) → rule_of l ≡ x → (by_line f room used n e (line_of f x) (λ e'. text_checked f room used (n + 1) e' (k ∷ ls))).answer ≡ 0
              → ((e' : ℕ) → e' ≤ room → (text_checked f room used (n + 1) e' (k ∷ ls)).answer ≡ 0 → Taken (n + 1) (suc m) e' (k ∷ ls)) → Taken n m e (l ∷ k ∷ ls)
          go (bad_field i) j z w = absurd (omega (arith, z))
          go (rule r) j z w = decided (eqb (rule_answer f r) 0) fine (λ q. absurd (eqb-false (rule_answer f r) 0 q (let y : rule_answer f r ≡ 0 = rw q at z in y)))
            where
              fine : eqb (rule_answer f r) 0 ≡ true → Taken n m e (l ∷ k ∷ ls)
              fine q = decided (ltb room (e + rule_size r)) (λ o. absurd (omega (arith, full q o)))
                  (λ o. more r j (eqb-true (rule_answer f r) 0 q) (ltb-false room (e + rule_size r) o) (w (e + rule_size r) (ltb-false room (e + rule_size r) o) (rest q o)))
                where
                  full : eqb (rule_answer f r) 0 ≡ true → ltb room (e + rule_size r) ≡ true → ◌≡◌ {A = ℕ} 23 0
                  full q o = rw (q, o) at z

                  rest : eqb (rule_answer f r) 0 ≡ true → ltb room (e + rule_size r) ≡ false → (text_checked f room used (n + 1) (e + rule_size r) (k ∷ ls)).answer ≡ 0
                  rest q o = rw (q, o) at z

      -- And the other way round.
      nothing : (e : ℕ) (rs : List Rule) → rules [] ≡ rules rs → told e 0 0 0 ≡ told (e + entries_of rs) 0 0 0
      unfolding entries_of
      nothing e rs i = let z : [] ≡ rs = cc in ap (λ (x : ℕ). told x 0 0 0) (subst (λ (qs : List Rule). e ≡ e + entries_of qs) z (omega arith))

      unended-no : {A : Type 0} (m : ℕ) (l : List ℕ) (x : ReadRule) (rs : List Rule) → unended m l x ≡ rules rs → A
      unended-no m l (bad_field i) rs z = impossible (cc)
      unended-no m l (rule r) rs z = impossible (cc)

      last-taking : (n m e : ℕ) (l : List ℕ) (rs : List Rule) → last_part m l ≡ rules rs → last_line f room used n e l ≡ told (e + entries_of rs) 0 0 0
      last-taking n m e [] rs i = nothing e rs i
      last-taking n m e (b ∷ l) rs i = unended-no m (b ∷ l) (rule_of (b ∷ l)) rs i

      one_more : {r : Rule} {qs : List Rule} → AllAllowed t u (r ∷ qs) → Allowed t u r × AllAllowed t u qs
      one_more (and-more a b) = (a, b)

      taking : (ps : List (List ℕ)) (n m e : ℕ) (rs : List Rule) → read_lines m ps ≡ rules rs → AllAllowed t u rs → e + entries_of rs ≤ room
          → text_checked f room used n e ps ≡ told (e + entries_of rs) 0 0 0
      unfolding read_lines text_checked entries_of
      taking [] n m e rs i a h = nothing e rs i
      taking (l ∷ []) n m e rs i a h = last-taking n m e l rs i
      taking (l ∷ k ∷ ls) n m e rs i a h = go (rule_of l) refl i (taking (k ∷ ls) (n + 1) (suc m))
        where
          more : (r : Rule) (qs : List Rule) → rule_of l ≡ rule r → rs ≡ r ∷ qs → text_checked f room used (n + 1) (e + rule_size r) (k ∷ ls) ≡ told (e + rule_size r + entries_of qs) 0 0 0
              → by_line f room used n e (line_of f (rule_of l)) (λ e'. text_checked f room used (n + 1) e' (k ∷ ls)) ≡ told (e + entries_of rs) 0 0 0
          more r qs j z w =
              let b = one_more (subst (AllAllowed t u) z a) in
              let y : e + entries_of rs ≡ e + rule_size r + entries_of qs = ap (λ (x : List Rule). e + entries_of x) z ∙ omega arith in
              rw (j, eq-eqb (rule_answer f r) 0 (allowed-answer r b.0), le-ltb room (e + rule_size r) (omega (arith, y, h))) (w ∙ ap (λ (x : ℕ). told x 0 0 0) (sym y))

          go : (x : ReadRule) → rule_of l ≡ x → or_bad_at m x (λ r. before r (read_lines (suc m) (k ∷ ls))) ≡ rules rs
              → ((e' : ℕ) (qs : List Rule) → read_lines (suc m) (k ∷ ls) ≡ rules qs → AllAllowed t u qs → e' + entries_of qs ≤ room
              → text_checked f room used (n + 1) e' (k ∷ ls) ≡ told (e' + entries_of qs) 0 0 0)
              → by_line f room used n e (line_of f (rule_of l)) (λ e'. text_checked f room used (n + 1) e' (k ∷ ls)) ≡ told (e + entries_of rs) 0 0 0
          go (bad_field x) j z w = impossible (cc)
          go (rule r) j z w =
              let (qs, p, q) = before-rules r (read_lines (suc m) (k ∷ ls)) rs z in
              let b = one_more (subst (AllAllowed t u) q a) in
              let y : e + entries_of rs ≡ e + rule_size r + entries_of qs = ap (λ (x : List Rule). e + entries_of x) q ∙ omega arith in
              more r qs j q (w (e + rule_size r) qs p b.1 (omega (arith, y, h)))

-- ---- the text

accepts-one : (t : List ℕ) (u : ℕ) (s : List ℕ) (r : Translated) → RulesChecked t u s r → r.answer ≡ 0 → ((used_checked t u).answer ≡ 0) × Accepted t u s
unfolding meant
accepts-one t u s r (entries n e) z = absurd (n (sym (ap (λ (x : Translated). x.answer) e) ∙ z))
accepts-one t u s r (lines e f c q) z =
    let w = taken f t u c (rows t) u (parts 10 s) 1 1 u (used-sizes t u e).1 (sym (ap (λ (x : Translated). x.answer) q) ∙ z) in
    let p = (text-is-rules s w.its).0 w.reading in
    (e, record { its = w.its; text = p.0; plain = p.1; allowed = w.allowed; room = w.fits })

pub accepts_numbers : AcceptsNumbers
unfolding meant
accepts_numbers t u s r (entries n e) z a = absurd (n z)
accepts_numbers t u s r (lines e f c q) z a =
    q ∙ taking f t u c (rows t) u (parts 10 s) 1 1 u a.its ((text-is-rules s a.its).1 (a.text, a.plain)) a.allowed a.room

pub accepts : Accepts
accepts t u s r h = (accepts-one t u s r h, λ p. ap (λ (x : Translated). x.answer) (accepts_numbers t u s r h p.0 p.1))

-- ---- two outcomes

same_test : (t : List ℕ) (u : ℕ) (f g : ℕ → Bool) → Callable t u f → Callable t u g → (x : ℕ) → f x ≡ g x
same_test t u f g c d x = decided (f x) (λ p. p ∙ sym ((d x).1 ((c x).0 p))) (λ p. decided (g x) (λ q. (c x).1 ((d x).0 q) ∙ sym q) (λ q. p ∙ sym q))

pub agree : Agree
agree t u s r r' (entries n e) (entries m i) = e ∙ sym i
agree t u s r r' (entries n e) (lines i f c q) = absurd (n i)
agree t u s r r' (lines e f c q) (entries n i) = absurd (n e)
agree t u s r r' (lines e f c q) (lines i g d p) =
    let z : f ≡ g = λ j x. same_test t u f g c d x j in
    q ∙ ap (λ (h : ℕ → Bool). text_checked h (rows t) u 1 u (parts 10 s)) z ∙ sym p
