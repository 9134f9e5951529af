-- What is promised of the writer, and of the writer and the translator together. Assumes nothing.
use mathlib.Core.Path.{◌≡◌, refl, ap, sym, ◌∙◌, subst}
use mathlib.Core.Logic.{⊎_elim}
use mathlib.Core.List.{List, [], ◌∷◌, ◌++◌, append-nil}
use Prim.Native.Nat.{ℕ, suc, ◌+◌, ◌≤◌, ◌<◌}
use native.Mathlib.Omega.{arith}
use lib.ListN.{length, take, drop}
use lib.Seq.{take_at}
use Rattle.words.specs.Words.{word_at, rows}
use Rattle.words.proofs.Tests.{below-or-from}
use Rattle.rules.specs.Rule.{Pat, Pats, var, con, none as no-pats, more as more-pats, count, Condition, Rule}
use Rattle.rules.specs.Text.{rule_text, rules_text, Plain, plain-con, Plains, plain_more, no-rules, next-rule, Meant, rules, meant}
use Rattle.rules.specs.Entries.{Entry, size, places, pat_entries, pats_entries, rule_entries, Rows}
use Rattle.check_rules.specs.Answer.{used_checked}
use Rattle.rules.proofs.Sizes.{length-pat, length-places}
use Rattle.rules.proofs.Words.{rows_append}
use Rattle.check_rules.proofs.Answering.{used-sizes}
use Rattle.rules.proofs.Texts.{text-is-rules}
use Rattle.translate.specs.Added.{put_entries, rules_entries, with_rules}
use Rattle.translate.proofs.Written.{Eights, same-words, length-put, put_other, put-rows}
use Rattle.translate.proofs.Preorder.{rows-first}
use Rattle.translate.proofs.Promises.{rule-eights, all-stand, faultless}
use Rattle.write_rules.specs.Written.{RuleAt, wrote, RuleWritten, entries, none, short, line}
use Rattle.write_rules.specs.Lines.{TermAt, ConditionHere, condition_size, conditions_size, ConditionsAt}
use Rattle.write_rules.specs.Promises.{Agree, OneRuleThere, SameBytes, TranslatedThenWritten, WrittenThenTranslated}
use Rattle.write_rules.specs.Written.{Written}
use Rattle.write_rules.proofs.Walking.{variable-words, constructor-words}
use Rattle.write_rules.proofs.Listing.{opened, at-build, last-term, rule-parts}
use Rattle.write_rules.proofs.Finding.{length-rule, rows-equal}

-- ---- entries start one rule

module _ (t : List ℕ) where
  same_count : (e : ℕ) (ps qs : Pats) → length (places e ps) ≡ length (places e qs) → count ps ≡ count qs
  same_count e ps qs z = sym (length-places e ps) ∙ z ∙ length-places e qs

  mutual
    unfolding pat_entries pats_entries count

    pat-one : (p : Pat) (q : Pat) (e : ℕ) → Plain p → Plain q → Rows t e (pat_entries e p) → Rows t e (pat_entries e q) → p ≡ q
    pat-one (var v) (var w) e i j h k =
        let a = variable-words t e v (rows-first _ _ t e h).0 in
        let b = variable-words t e w (rows-first _ _ t e k).0 in
        ap var (sym a.2 ∙ b.2)
    pat-one (var v) (con c qs) e i (plain-con l m g) h k =
        let a = variable-words t e v (rows-first _ _ t e h).0 in
        let b = constructor-words t e c (places (suc e) qs) (omega (arith, length-places (suc e) qs)) (rows-first _ _ t e k).0 in
        absurd (omega (arith, a.0, b.0))
    pat-one (con c ps) (var w) e (plain-con l m g) j h k =
        let a = constructor-words t e c (places (suc e) ps) (omega (arith, length-places (suc e) ps)) (rows-first _ _ t e h).0 in
        let b = variable-words t e w (rows-first _ _ t e k).0 in
        absurd (omega (arith, a.0, b.0))
    pat-one (con c ps) (con d qs) e (plain-con l m g) (plain-con n o f) h k =
        let (h1, h2) = rows-first _ _ t e h in
        let (k1, k2) = rows-first _ _ t e k in
        let a = constructor-words t e c (places (suc e) ps) (omega (arith, length-places (suc e) ps)) h1 in
        let b = constructor-words t e d (places (suc e) qs) (omega (arith, length-places (suc e) qs)) k1 in
        let y : c ≡ d = sym a.2 ∙ b.2 in
        let z : ps ≡ qs = pats-one ps qs (suc e) g f (same_count (suc e) ps qs (sym a.1 ∙ b.1)) h2 k2 in
        ap (λ (x : ℕ). con x ps) y ∙ ap (con d) z

    pats-one : (ps : Pats) (qs : Pats) (e : ℕ) → Plains ps → Plains qs → count ps ≡ count qs → Rows t e (pats_entries e ps) → Rows t e (pats_entries e qs) → ps ≡ qs
    pats-one no-pats no-pats e i j n h k = refl
    pats-one no-pats (more-pats q qs) e i j n h k = absurd (omega arith)
    pats-one (more-pats p ps) no-pats e i j n h k = absurd (omega arith)
    pats-one (more-pats p ps) (more-pats q qs) e (plain_more i f) (plain_more j g) n h k =
        let (h1, h2) = rows_append t e (pat_entries e p) (pats_entries (e + size p) ps) h in
        let (k1, k2) = rows_append t e (pat_entries e q) (pats_entries (e + size q) qs) k in
        let z : p ≡ q = pat-one p q e i j h1 k1 in
        let a : Rows t (e + size p) (pats_entries (e + size p) ps) = subst (λ (x : ℕ). Rows t x (pats_entries (e + size p) ps)) (ap (λ (x : ℕ). e + x) (length-pat e p)) h2 in
        let b : Rows t (e + size q) (pats_entries (e + size q) qs) = subst (λ (x : ℕ). Rows t x (pats_entries (e + size q) qs)) (ap (λ (x : ℕ). e + x) (length-pat e q)) k2 in
        let c : Rows t (e + size p) (pats_entries (e + size p) qs) = subst (λ (r : Pat). Rows t (e + size r) (pats_entries (e + size r) qs)) (sym z) b in
        ap (λ (r : Pat). more-pats r ps) z ∙ ap (more-pats q) (pats-one ps qs (e + size p) f g (omega arith) a c)

  module _ (u : ℕ) where
    term-one : (e : ℕ) (p q : Pat) → TermAt t u e p → TermAt t u e q → p ≡ q
    term-one e p q h k = pat-one p q e h.plain k.plain h.rows k.rows

    condition-one : (e : ℕ) (c d : Condition) → ConditionHere t u e c → ConditionHere t u e d → c ≡ d
    condition-one e c d h k =
        let s : c.start ≡ d.start = term-one (e + 4) c.start d.start h.start k.start in
        let x : c.callee ≡ d.callee = sym h.called ∙ ap (λ (p : Pat). word_at t (e + 4 + size p + 1) 2) s ∙ k.called in
        let o : c.outcome ≡ d.outcome = term-one (e + 4 + size c.start + 3) c.outcome d.outcome h.outcome
        (subst (λ (p : Pat). TermAt t u (e + 4 + size p + 3) d.outcome) (sym s) k.outcome) in
        λ i. record { callee = x i; start = s i; outcome = o i }

    conditions-one : (cs ds : List Condition) (p q : Pat) (e : ℕ) → ConditionsAt t u e cs p → ConditionsAt t u e ds q → cs ≡ ds
    conditions-one [] [] p q e h k = refl
    conditions-one [] (d ∷ ds) p q e h k = absurd (omega (arith, at-build t u e p h, (opened t u e d ds q k).kind))
    conditions-one (c ∷ cs) [] p q e h k = absurd (omega (arith, at-build t u e q k, (opened t u e c cs p h).kind))
    conditions-one (c ∷ cs) (d ∷ ds) p q e h k =
        let a = opened t u e c cs p h in
        let b = opened t u e d ds q k in
        let z : c ≡ d = condition-one e c d a.here b.here in
        let y : ConditionsAt t u (e + condition_size c) ds q = subst (λ (x : Condition). ConditionsAt t u (e + condition_size x) ds q) (sym z) b.others in
        ap (λ (x : Condition). x ∷ cs) z ∙ ap (λ (xs : List Condition). d ∷ xs) (conditions-one cs ds p q (e + condition_size c) a.others y)

pub one-rule-there : OneRuleThere
one-rule-there t u e q q' h k =
    let a = rule-parts t u e q h in
    let b = rule-parts t u e q' k in
    let l : q.left ≡ q'.left = term-one t u (e + 3) q.left q'.left a.left b.left in
    let at : ℕ = e + 3 + size q.left in
    let d : ConditionsAt t u at q'.conditions q'.right = subst (λ (p : Pat). ConditionsAt t u (e + 3 + size p) q'.conditions q'.right) (sym l) b.conditions in
    let c : q.conditions ≡ q'.conditions = conditions-one t u q.conditions q'.conditions q.right q'.right at a.conditions d in
    let x : TermAt t u (at + conditions_size q.conditions + 1) q.right = last-term t u q.conditions q.right at h.plain.right a.conditions in
    let y : TermAt t u (at + conditions_size q.conditions + 1) q'.right =
    subst (λ (cs : List Condition). TermAt t u (at + conditions_size cs + 1) q'.right) (sym c) (last-term t u q'.conditions q'.right at k.plain.right d) in
    let r : q.right ≡ q'.right = term-one t u (at + conditions_size q.conditions + 1) q.right q'.right x y in
    λ i. record { left = l i; right = r i; conditions = c i }

-- ---- two outcomes

pub agree : Agree
agree t u e b r r' b' b'' (entries n z y) (entries m x w) = (z ∙ sym x, y ∙ sym w)
agree t u e b r r' b' b'' (entries n z y) (none f o x w) = absurd (n f)
agree t u e b r r' b' b'' (entries n z y) (short f q h l x w) = absurd (n f)
agree t u e b r r' b' b'' (entries n z y) (line f q h l x w) = absurd (n f)
agree t u e b r r' b' b'' (none f o z y) (entries m x w) = absurd (m f)
agree t u e b r r' b' b'' (none f o z y) (none g p x w) = (z ∙ sym x, y ∙ sym w)
agree t u e b r r' b' b'' (none f o z y) (short g q h l x w) = absurd (o q h)
agree t u e b r r' b' b'' (none f o z y) (line g q h l x w) = absurd (o q h)
agree t u e b r r' b' b'' (short f p h k z y) (entries m x w) = absurd (m f)
agree t u e b r r' b' b'' (short f p h k z y) (none g o x w) = absurd (o p h)
agree t u e b r r' b' b'' (short f p h k z y) (short g q i l x w) = (z ∙ sym x, y ∙ sym w)
agree t u e b r r' b' b'' (short f p h k z y) (line g q i l x w) =
    let s : length (rule_text p) ≡ length (rule_text q) = ap (λ (a : Rule). length (rule_text a)) (one-rule-there t u e p q h i) in
    absurd (omega arith)
agree t u e b r r' b' b'' (line f p h k z y) (entries m x w) = absurd (m f)
agree t u e b r r' b' b'' (line f p h k z y) (none g o x w) = absurd (o p h)
agree t u e b r r' b' b'' (line f p h k z y) (short g q i l x w) =
    let s : length (rule_text p) ≡ length (rule_text q) = ap (λ (a : Rule). length (rule_text a)) (one-rule-there t u e p q h i) in
    absurd (omega arith)
agree t u e b r r' b' b'' (line f p h k z y) (line g q i l x w) =
    let s : p ≡ q = one-rule-there t u e p q h i in
    (z ∙ ap (λ (a : Rule). wrote 0 0 (length (rule_text a))) s ∙ sym x, y ∙ ap (λ (a : Rule). rule_text a ++ drop (length (rule_text a)) b) s ∙ sym w)

-- ---- there and back

same_bytes : (t : List ℕ) (u e : ℕ) (q : Rule) → (used_checked t u).answer ≡ 0 → RuleAt t u e q → (b : List ℕ) → length (rule_text q) ≤ length b → (w : Written) (b' : List ℕ)
    → RuleWritten t u e b w b' → SameBytes q w b'
same_bytes t u e q fine at b room w b' (entries n z y) = absurd (n fine)
same_bytes t u e q fine at b room w b' (none f o z y) = absurd (o q at)
same_bytes t u e q fine at b room w b' (short f p h l z y) =
    let s : length (rule_text p) ≡ length (rule_text q) = ap (λ (a : Rule). length (rule_text a)) (one-rule-there t u e p q h at) in
    absurd (omega arith)
same_bytes t u e q fine at b room w b' (line f p h l z y) =
    let s : p ≡ q = one-rule-there t u e p q h at in
    let n : w.length ≡ length (rule_text p) = ap (λ (x : Written). x.length) z in
    record {
      answer = ap (λ (x : Written). x.answer) z;
      long = n ∙ ap (λ (a : Rule). length (rule_text a)) s;
      bytes = ap (take w.length) y ∙ take_at (rule_text p) (drop (length (rule_text p)) b) w.length (sym n) ∙ ap rule_text s;
    }

pub translated-then-written : TranslatedThenWritten
translated-then-written t u s r t' h z rs m e q b c room w c' k =
    let there = all-stand t u s r t' h z rs m e q b in
    let at : RuleAt t' r.used e q = record { plain = there.plain-there; allowed = there.allowed-there; inside = there.inside-there; rows = there.rows-there } in
    same_bytes t' r.used e q (faultless t u s r t' h z) at c room w c' k

-- Entries put where they stand leave the table as it is.
put-there : (t : List ℕ) (e : ℕ) (xs : List Entry) → Eights xs → e + length xs ≤ rows t → Rows t e xs → put_entries t e xs ≡ t
put-there t e xs h room k =
    same-words (put_entries t e xs) t (length-put h t e room)
    (λ i j l.
    decide i j l)
  where
    decide : (i j : ℕ) → j < 8 → word_at (put_entries t e xs) i j ≡ word_at t i j
    decide i j l = ⊎_elim (λ m. put_other h t e room i j l (λ a b. omega arith))
        (λ m. ⊎_elim (λ n. rows-equal (put_entries t e xs) t xs e (put-rows h t e room) k i j l m n) (λ n. put_other h t e room i j l (λ a b. omega arith)) (below-or-from i (e + length xs)))
        (below-or-from i e)

one-text : (q : Rule) → rule_text q ≡ rules_text (q ∷ [])
unfolding rules_text
one-text q = sym (append-nil (rule_text q))

one-entries : (e : ℕ) (q : Rule) → rules_entries e (q ∷ []) ≡ rule_entries e q
unfolding rules_entries
one-entries e q = append-nil (rule_entries e q)

pub written-then-translated : WrittenThenTranslated
written-then-translated t u e b r b' (entries n z y) a = absurd (n (sym (ap (λ (x : Written). x.answer) z) ∙ a))
written-then-translated t u e b r b' (none f o z y) a = absurd (omega (arith, ap (λ (x : Written). x.answer) z, a))
written-then-translated t u e b r b' (short f p h l z y) a = absurd (omega (arith, ap (λ (x : Written). x.answer) z, a))
written-then-translated t u e b r b' (line f p h l z y) a =
    let n : r.length ≡ length (rule_text p) = ap (λ (x : Written). x.length) z in
    let s : take r.length b' ≡ rule_text p = ap (take r.length) y ∙ take_at (rule_text p) (drop (length (rule_text p)) b) r.length (sym n) in
    let m : meant (take r.length b') ≡ rules (p ∷ []) = (text-is-rules (take r.length b') (p ∷ [])).1 (s ∙ one-text p, next-rule h.plain no-rules) in
    let room : e + length (rule_entries e p) ≤ rows t = let k = used-sizes t u f in omega (arith, k.1, h.inside, length-rule e p) in
    record {
      rule = p;
      means = m;
      entries = ap (λ (x : Meant). with_rules x t e) m ∙ ap (put_entries t e) (one-entries e p) ∙ put-there t e (rule_entries e p) (rule-eights p h.plain e) room h.rows;
    }
