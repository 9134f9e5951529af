-- A condition of a line where it stands, from its number and its two terms. Assumes nothing.
use mathlib.Core.Path.{◌≡◌, ap, sym, ◌∙◌, subst}
use mathlib.Core.Bool.{true, false}
use mathlib.Core.Option.{none, some}
use mathlib.Core.List.{List, [], ◌∷◌, ◌++◌, append_assoc, append-nil}
use Prim.Native.Nat.{ℕ, suc, ◌+◌, ◌-◌, ◌≤◌}
use native.Mathlib.Omega.{arith}
use lib.ListN.{length, drop, take}
use Rattle.meaning.proofs.Tests.{impossible}
use Rattle.text.specs.Text.{up_to, one_word, number_of, decimal}
use Rattle.text.proofs.Put.{for-one}
use Rattle.text.proofs.Decimal.{number-text}
use Rattle.rules.specs.Rule.{Pat, Condition, none as no-pats, more as more-pats}
use Rattle.rules.specs.Text.{Fields, pat_fields, conditions_fields, plain_end, plain-next, Read, bad, later, condition_of, read}
use Rattle.rules.specs.Scan.{width, fields_from}
use Rattle.rules.specs.Condition.{after_it, lost_after, ConditionAt, condition, none as no-condition}
use Rattle.rules.specs.Condition.{Found}
use Rattle.std.specs.Prelude.{Some, Result, Ok, Err}
use Rattle.std.specs.Result.{result_ok}
use Rattle.rules.specs.Scan.{Term}
use Rattle.rules.proofs.Reading.{ahead, pat-read}
use Rattle.rules.proofs.Scanning.{fields-here, field-length}
use Rattle.rules.proofs.Terms.{TermFound, term-good, term-bad}

read-no-number : (f : List ℕ) (fs : Fields) → none ≡ number_of one_word f → read (f ∷ fs) 0 ≡ bad 0
unfolding read
read-no-number f fs e = rw (← e)

read_number : (f : List ℕ) (fs : Fields) (x i : ℕ) → some x ≡ number_of one_word f → read fs 2 ≡ bad i → read (f ∷ fs) 0 ≡ bad (1 + i)
unfolding read later condition_of
read_number f fs x i e h = let z : 1 + i ≡ suc i = omega arith in rw (← e, h, z)

bad-ahead : (n : ℕ) (p : Pat) (x : Read) (i : ℕ) → x ≡ bad i → ahead n (more-pats p no-pats) x ≡ bad (n + i)
unfolding ahead
bad-ahead n p x i e = rw e

pub good-bad : {A : Type 0} (r : Term) → r.good ≡ true → r.good ≡ false → A
good-bad r g h = impossible (go (sym g ∙ h))
  where
    go : true ≡ false → ◌≡◌ {A = ℕ} 0 1
    go e = cc

module _ (l : List ℕ) (i e : ℕ) (at : i ≤ length l) (found : e ≡ i + length (up_to 9 (drop i l))) where
  abbrev field : List ℕ
  field = take (e - i) (drop i l)

  here : fields_from l i ≡ field ∷ fields_from l (e + 1)
  here = fields-here l i e at found

  -- No number.
  pub condition-none : (r : Found) → r ≡ lost_after 0 → none ≡ number_of one_word field → ConditionAt l i r
  condition-none r z n = no-condition 0 (ap (λ (fs : Fields). read fs 0) here ∙ read-no-number field (fields_from l (e + 1)) n) z

  module _ (x : ℕ) (n : some x ≡ number_of one_word field) (s : Term) (start : TermFound l (e + 1) s) where
    -- No starting term.
    pub condition-start : (r : Found) → r ≡ lost_after (1 + s.fields) → s.good ≡ false → ConditionAt l i r
    condition-start r z g = go start
      where
        go : TermFound l (e + 1) s → ConditionAt l i r
        go (term-good p h t q) = good-bad s (ap (λ (u : Term). u.good) q) g
        go (term-bad k h m) = no-condition (1 + s.fields) (ap (λ (fs : Fields). read fs 0) here ∙ read_number field (fields_from l (e + 1)) x s.fields n (h 1)) z

    module _ (good : s.good ≡ true) (o : Term) (outcome : TermFound l s.at o) where
      -- No outcome.
      pub condition-outcome : (r : Found) → r ≡ lost_after (1 + s.fields + o.fields) → o.good ≡ false → ConditionAt l i r
      condition-outcome r z g = go start outcome
        where
          go : TermFound l (e + 1) s → TermFound l s.at o → ConditionAt l i r
          go (term-bad k h m) b = good-bad s good k
          go (term-good p h t q) (term-good p' h' t' q') = good-bad o (ap (λ (u : Term). u.good) q') g
          go (term-good p h t q) (term-bad k h' m) =
              let a : s.at ≡ e + 1 + width (pat_fields p) = ap (λ (u : Term). u.at) q in
              let f : s.fields ≡ length (pat_fields p) = ap (λ (u : Term). u.fields) q in
              let rest : Fields = fields_from l (e + 1 + width (pat_fields p)) in
              let b : read rest 1 ≡ bad o.fields = subst (λ (j : ℕ). read (fields_from l j) 1 ≡ bad o.fields) a (h' 0) in
              let d : read (fields_from l (e + 1)) 2 ≡ bad (length (pat_fields p) + o.fields) =
              ap (λ (fs : Fields). read fs 2) t ∙ pat-read p h rest 1 ∙ bad-ahead (length (pat_fields p)) p (read rest 1) o.fields b in
              let y : 1 + (length (pat_fields p) + o.fields) ≡ 1 + s.fields + o.fields = omega arith in
              no-condition (1 + s.fields + o.fields) (ap (λ (fs : Fields). read fs 0) here ∙ read_number field (fields_from l (e + 1)) x (length (pat_fields p) + o.fields) n d ∙ ap bad y) z

      -- A condition.
      pub condition-found : (r : Found) → o.good ≡ true
          → r ≡ record { good = true; callee = x; start = e + 1; outcome = s.at; next = o.at; fields = 1 + s.fields + o.fields; size = s.size + o.size } → ConditionAt l i r
      unfolding conditions_fields
      condition-found r g z = go start outcome
        where
          go : TermFound l (e + 1) s → TermFound l s.at o → ConditionAt l i r
          go (term-bad k h m) b = good-bad s good k
          go (term-good p h t q) (term-bad k h' m) = good-bad o g k
          go (term-good p h t q) (term-good p' h' t' q') =
              let (number, small) = number-text for-one field x (sym n) in
              let c : Condition = record { callee = x; start = p; outcome = p' } in
              let long : length field ≡ length (decimal x) = ap length number in
              let begins : e + 1 ≡ i + (length (decimal x) + 1) = omega (arith, field-length l i e at found) in
              let a : s.at ≡ i + (length (decimal x) + 1) + width (pat_fields p) = omega (arith, ap (λ (u : Term). u.at) q) in
              let b : o.at ≡ after_it i c = omega (arith, ap (λ (u : Term). u.at) q') in
              let a' : s.at ≡ e + 1 + width (pat_fields p) = ap (λ (u : Term). u.at) q in
              let b' : s.at + width (pat_fields p') ≡ after_it i c = omega arith in
              let text : fields_from l i ≡ decimal x ∷ (pat_fields p ++ (pat_fields p' ++ [])) ++ fields_from l (after_it i c) =
              here
              ∙ ap (λ (f : List ℕ). f ∷ fields_from l (e + 1)) number
              ∙ ap (λ (fs : Fields). decimal x ∷ fs) (t ∙ ap (λ (j : ℕ). pat_fields p ++ fields_from l j) (sym a')
              ∙ ap (λ (fs : Fields). pat_fields p ++ fs) (t' ∙ ap (λ (j : ℕ). pat_fields p' ++ fields_from l j) b'))
              ∙ rw (append-nil (pat_fields p'), append_assoc (pat_fields p) (pat_fields p') (fields_from l (after_it i c))) in
              condition c (plain-next small h h' plain_end) text
              (z ∙ rw (begins, a, b) (λ j. record {
                good = true;
                callee = x;
                start = i + (length (decimal x) + 1);
                outcome = i + (length (decimal x) + 1) + width (pat_fields p);
                next = after_it i c;
                fields = 1 + ap (λ (u : Term). u.fields) q j + ap (λ (u : Term). u.fields) q' j;
                size = ap (λ (u : Term). u.size) q j + ap (λ (u : Term). u.size) q' j;
              }))

-- What was good.
pub was_ok : {A E : Type 0} (r : Result A E) (a : A) → Some a ≡ result_ok r → r ≡ Ok a
was_ok (Ok b) a e = let z : b ≡ a = cc in ap Ok z
was_ok (Err n) a e = impossible (cc)
