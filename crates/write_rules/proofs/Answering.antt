-- What the writer answers: the line that was made is that of the rule, or there is none. Assumes nothing.
use mathlib.Core.Path.{◌≡◌, refl, ap, sym, ◌∙◌}
use mathlib.Core.Bool.{Bool, true, false}
use mathlib.Core.List.{List, [], ◌∷◌, ◌++◌, append_assoc}
use Prim.Native.Nat.{ℕ, zero, suc, ◌+◌, ◌-◌, ◌≤◌, ◌<◌}
use native.Mathlib.Omega.{arith}
use lib.ListN.{length, take, drop, length-append}
use lib.Seq.{take_at, take-take, length-take-le}
use Rattle.meaning.proofs.Tests.{impossible}
use Rattle.text.specs.Text.{joined, joined_after}
use Rattle.rules.specs.Rule.{Rule}
use Rattle.rules.specs.Text.{Fields, rule_fields, rule_text, rule, rule_of}
use Rattle.checks.specs.Checked.{Checked}
use Rattle.check_rules.specs.Answer.{used_checked}
use Rattle.check_rules.proofs.Answering.{used-sizes}
use Rattle.rules.proofs.Texts.{line_read, line_wrote, fields-line, rule-some}
use Rattle.write_rules.specs.Written.{RuleAt, wrote, RuleWritten, entries, none, short, line}
use Rattle.write_rules.specs.Lines.{ended, HasLine, IsRule, yes, no}
use Rattle.write_rules.specs.Written.{Written}
use Rattle.write_rules.proofs.Finding.{size-some}

-- Fields with a tab after each are fields with a tab between them, and one tab more.
ended-after : (f : List ℕ) (fs : Fields) → f ++ (9 ∷ ended fs) ≡ (f ++ joined_after 9 fs) ++ (9 ∷ [])
unfolding ended
ended-after f [] = sym (append_assoc f [] (9 ∷ []))
ended-after f (g ∷ fs) = ap (λ (x : List ℕ). f ++ (9 ∷ x)) (ended-after g fs) ∙ sym (append_assoc f (9 ∷ (g ++ joined_after 9 fs)) (9 ∷ []))

ended-joined : (fs : Fields) → 0 < length fs → ended fs ≡ joined 9 fs ++ (9 ∷ [])
unfolding ended
ended-joined [] l = absurd (omega arith)
ended-joined (f ∷ fs) l = ended-after f fs

module _ (t : List ℕ) (u e : ℕ) (b : List ℕ) (n : ℕ) (inside : n ≤ length b) (has : HasLine t u e b n) where
  its-bytes : (q : Rule) → RuleAt t u e q → take n b ≡ joined 9 (rule_fields q) ++ (9 ∷ [])
  its-bytes q h = has q h ∙ ended-joined (rule_fields q) (rule-some q)

  pub some_bytes : (q : Rule) → RuleAt t u e q → n ≡ 0 → ⊥
  some_bytes q h z = omega (arith, ap length (its-bytes q h), length-append (joined 9 (rule_fields q)) (9 ∷ []), length-take-le n b inside)

  -- Without its last tab it is read as the rule.
  pub its-line : (q : Rule) → RuleAt t u e q → rule_of (take (n - 1) b) ≡ rule q
  its-line q h =
      let long : length (joined 9 (rule_fields q)) ≡ n - 1 = omega (arith, ap length (its-bytes q h), length-append (joined 9 (rule_fields q)) (9 ∷ []), length-take-le n b inside) in
      ap rule_of (sym (take-take (n - 1) n b (omega arith)) ∙ ap (take (n - 1)) (its-bytes q h) ∙ take_at (joined 9 (rule_fields q)) (9 ∷ []) (n - 1) long) ∙ line_read q h.plain

-- The text of a rule whose line was read.
rule-bytes : (l : List ℕ) (q : Rule) → rule_of l ≡ rule q → rule_text q ≡ l ++ (10 ∷ [])
unfolding rule_text
rule-bytes l q z = fields-line (rule_fields q) ∙ ap (λ (x : List ℕ). x ++ (10 ∷ [])) (sym (line_wrote l q z).text)

rule-long : (l : List ℕ) (q : Rule) → rule_of l ≡ rule q → length (rule_text q) ≡ length l + 1
rule-long l q z = ap length (rule-bytes l q z) ∙ length-append l (10 ∷ [])

-- The entries in use are refused.
pub refused-entries : {t : List ℕ} {u : ℕ} (e : ℕ) {b : List ℕ} {k : Checked} → k ≡ used_checked t u → (k.answer ≡ 0 → ⊥) → (r : Written) → r ≡ wrote k.answer k.place 0
    → RuleWritten t u e b r b
refused-entries e {b} {k} z n r y = entries (λ x. n (ap (λ (c : Checked). c.answer) z ∙ x)) (y ∙ ap (λ (c : Checked). wrote c.answer c.place 0) z) refl

pub used-few : (t : List ℕ) (u : ℕ) → (used_checked t u).answer ≡ 0 → u ≤ 4096
used-few t u e = let s = used-sizes t u e in omega (arith, s.0, s.1)

pub part-words : (l : List ℕ) (n : ℕ) → n ≤ length l → n - 1 ≡ length (take (n - 1) l)
part-words l n m = sym (length-take-le (n - 1) l (omega arith))

pub part-long : (l : List ℕ) (n : ℕ) → (n ≡ 0 → ⊥) → n ≤ length l → length (take (n - 1) l) + 1 ≡ n
part-long l n z m = go n z m (length-take-le (n - 1) l (omega arith))
  where
    go : (n : ℕ) → (n ≡ 0 → ⊥) → n ≤ length l → length (take (n - 1) l) ≡ n - 1 → length (take (n - 1) l) + 1 ≡ n
    go zero z m k = absurd (z refl)
    go (suc n) z m k = omega (arith, k)

module _ {t : List ℕ} {u e : ℕ} {b : List ℕ} (fine : (used_checked t u).answer ≡ 0) where
  -- An entry that is not in use starts no rule.
  pub not-used : u ≤ e → (r : Written) → r ≡ wrote 5 0 0 → RuleWritten t u e b r b
  not-used l r z = none fine (λ q h. omega (arith, h.inside, size-some q)) z refl

  module _ (c : List ℕ) (n : ℕ) (inside : n ≤ length c) (has : HasLine t u e c n) where
    pub nothing-made : n ≡ 0 → (r : Written) → r ≡ wrote 5 0 0 → RuleWritten t u e b r b
    nothing-made l r z = none fine (λ q h. some_bytes t u e c n inside has q h l) z refl

    pub no-rule : {l : List ℕ} → l ≡ take (n - 1) c → {answer : Bool} → IsRule t u e l answer → answer ≡ false → (r : Written) → r ≡ wrote 5 0 0 → RuleWritten t u e b r b
    no-rule k (no a f) q r z = none fine (λ p h. f p h (ap rule_of k ∙ its-line t u e c n inside has p h)) z refl
    no-rule k (yes a p h y) q r z = impossible (let x : true ≡ false = sym a ∙ q in cc)

  module _ {l : List ℕ} {n : ℕ} (long : length l + 1 ≡ n) where
    pub too_short : {answer : Bool} → IsRule t u e l answer → answer ≡ true → length b < n → (r : Written) → r ≡ wrote 26 0 0 → RuleWritten t u e b r b
    too_short (yes a p h y) q k r z = short fine p h (omega (arith, rule-long l p y)) z refl
    too_short (no a f) q k r z = impossible (let x : true ≡ false = sym q ∙ a in cc)

    pub in-full : {answer : Bool} → IsRule t u e l answer → answer ≡ true → n ≤ length b → (r : Written) → r ≡ wrote 0 0 n → {b' : List ℕ} → b' ≡ l ++ (10 ∷ drop (length l + 1) b)
        → RuleWritten t u e b r b'
    in-full (yes a p h y) q k r z {b'} x =
        let m : length (rule_text p) ≡ n = rule-long l p y ∙ long in
        line fine p h (omega (arith, m)) (z ∙ ap (wrote 0 0) (sym m))
        (x ∙ sym (append_assoc l (10 ∷ []) (drop (length l + 1) b)) ∙ ap (λ (s : List ℕ). s ++ drop (length l + 1) b) (sym (rule-bytes l p y))
        ∙ ap (λ (i : ℕ). rule_text p ++ drop i b) (sym (rule-long l p y)))
    in-full (no a f) q k r z x = impossible (let w : true ≡ false = sym q ∙ a in cc)
