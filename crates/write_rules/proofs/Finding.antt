-- Whether a line is that of the rule whose entries begin at an entry: the line gives a rule, its entries are made elsewhere, and
-- the words are compared. Assumes nothing.
use mathlib.Core.Path.{◌≡◌, refl, ap, sym, ◌∙◌, subst}
use mathlib.Core.Logic.{⊎_elim}
use mathlib.Core.Bool.{Bool, false}
use mathlib.Core.List.{List, [], ◌∷◌}
use Prim.Native.Nat.{ℕ, suc, ◌+◌, ◌-◌, ◌*◌, ◌/◌, ◌%◌, ◌≤◌, ◌<◌}
use native.Mathlib.Omega.{arith}
use lib.Dec.{eqb}
use lib.ListN.{length, get_or}
use borrow.Author.Tests.{eqb-true, eqb-false}
use Rattle.words.specs.Words.{word_at, rows}
use Rattle.words.proofs.Tests.{below-or-from}
use Rattle.meaning.proofs.Tests.{decided}
use Rattle.rules.specs.Rule.{Rule}
use Rattle.rules.specs.Text.{PlainRule, ReadRule, rule, bad_field, rule_of}
use Rattle.rules.specs.Entries.{Entry, code_size, rule_code, rule_entries, Rows}
use Rattle.rules.specs.Shape.{rule_size}
use Rattle.check_rules.specs.Line.{callable, rule_answer, line_of}
use Rattle.check_rules.specs.Answer.{used_checked, Callable, MasksOf}
use Rattle.check_rules.specs.Promises.{Allowed}
use Rattle.check_rules.specs.Line.{Line}
use Rattle.rules.proofs.Sizes.{length-code}
use Rattle.rules.proofs.Texts.{line_wrote}
use Rattle.check_rules.proofs.Answering.{used-sizes, masks-callable}
use Rattle.check_rules.proofs.Accepting.{answer-allowed, allowed-answer}
use Rattle.translate.specs.Added.{Placed, LineFits, LineIn}
use Rattle.translate.proofs.Written.{put-rows}
use Rattle.translate.proofs.Preorder.{rows_same}
use Rattle.translate.proofs.Promises.{rule-eights}
use Rattle.write_rules.specs.Lines.{SameWords, same, differ, IsRule, yes, no}
use Rattle.std.specs.Prelude.{Result, Ok, Err, Some, None}
use Rattle.check_rules.specs.declared.line.LineFault.{LineFault}
use Rattle.check_rules.specs.declared.line.Measure.{Measure}
use Rattle.check_rules.specs.declared.line.Unfit.{Unfit}
use Rattle.check_rules.specs.Line.{verdict_of, line_told}
use Rattle.check_rules.proofs.Checking.{refused-some}
use Rattle.write_rules.specs.Lines.{taken_of}

pub length-rule : (e : ℕ) (r : Rule) → length (rule_entries e r) ≡ rule_size r
unfolding rule_entries
length-rule e r = length-code e _

pub size-some : (r : Rule) → 1 ≤ rule_size r
unfolding rule_code code_size
size-some r = omega arith

-- Rows of the same entries have the same words.
pub rows-equal : (a b : List ℕ) (xs : List Entry) (e : ℕ) → Rows a e xs → Rows b e xs → (x j : ℕ) → j < 8 → e ≤ x → x < e + length xs → word_at a x j ≡ word_at b x j
unfolding Rows
rows-equal a b [] e h k x j l m n = absurd (omega arith)
rows-equal a b (y ∷ xs) e (h, hs) (k, ks) x j l m n =
    decided (eqb x e) (λ z. subst (λ (i : ℕ). word_at a i j ≡ word_at b i j) (sym (eqb-true x e z)) (h j l ∙ sym (k j l)))
    (λ z. let o : (x ≡ e → ⊥) = eqb-false x e z in rows-equal a b xs (suc e) hs ks x j l (after x e m o) (omega arith))
  where
    after : (x e : ℕ) → e ≤ x → (x ≡ e → ⊥) → suc e ≤ x
    after x e l n = ⊎_elim (λ i. i) (λ i. absurd (n (omega arith))) (below-or-from e x)

-- ---- what is taken of a line

pub taken-none : (x : Line) (r : Result Measure Unfit) → line_told x (verdict_of r) → taken_of r ≡ None → x.answer ≡ 0 → ⊥
taken-none x (Ok m) t e = absurd cc
taken-none x (Err u) t e = refused-some x u.fault t

pub taken-some : (x : Line) (r : Result Measure Unfit) (n : ℕ) → line_told x (verdict_of r) → taken_of r ≡ Some n → (x.answer ≡ 0) × (x.size ≡ n)
taken-some x (Ok m) n t e = (t.0, let s : m.size ≡ n = cc in t.1 ∙ s)
taken-some x (Err u) n t e = absurd cc

-- ---- what the line gives

module _ (t : List ℕ) (u e : ℕ) (l : List ℕ) (fine : (used_checked t u).answer ≡ 0) (ms : List ℕ) (masks : MasksOf t u ms) (got : Line) (is : got ≡ line_of (callable t ms u) (rule_of l)) where
  calls : Callable t u (callable t ms u)
  calls = masks-callable t u ms masks

  its-answer : (q : Rule) → rule_of l ≡ rule q → (got.answer ≡ rule_answer (callable t ms u) q) × (got.size ≡ rule_size q)
  its-answer q z = let y : got ≡ line_of (callable t ms u) (rule q) = is ∙ ap (line_of (callable t ms u)) z in (ap (λ (x : Line). x.answer) y, ap (λ (x : Line). x.size) y)

  pub no_answer : (got.answer ≡ 0 → ⊥) → IsRule t u e l false
  no_answer n = no refl (λ q h z. n ((its-answer q z).0 ∙ allowed-answer (callable t ms u) t u calls q h.allowed))

  pub no_size : u - e < got.size → IsRule t u e l false
  no_size n = no refl (λ q h z. omega (arith, n, (its-answer q z).1, h.inside))

  module _ (zero : got.answer ≡ 0) (low : e < u) (fits : got.size ≤ u - e) where
    its-rule : (q : Rule) × (rule_of l ≡ rule q)
    its-rule = go (rule_of l) refl
      where
        go : (x : ReadRule) → rule_of l ≡ x → (q : Rule) × (rule_of l ≡ rule q)
        go (rule q) z = (q, z)
        go (bad_field n) z = absurd (omega (arith, zero, ap (λ (x : Line). x.answer) (is ∙ ap (line_of (callable t ms u)) z)))

    allowed : Allowed t u its-rule.0
    allowed = answer-allowed (callable t ms u) t u calls its-rule.0 (sym (its-answer its-rule.0 its-rule.1).0 ∙ zero)

    plain : PlainRule its-rule.0
    plain = (line_wrote l its-rule.0 its-rule.1).plain

    inside : e + rule_size its-rule.0 ≤ u
    inside = omega (arith, (its-answer its-rule.0 its-rule.1).1, fits)

    module _ (m : List ℕ) (long : length m ≡ 32768) where
      few : u ≤ 4096
      few = let s = used-sizes t u fine in omega (arith, s.0, s.1)

      pub made-fits : LineFits e (rows m) (rule_of l)
      made-fits = record { its = its-rule.0; is = its-rule.1; below = allowed.in-range; fits = omega (arith, inside, few, long) }

      module _ (m' : List ℕ) (stop : ℕ) (made : LineIn (rule_of l) m e m' stop) where
        placed : Placed m e (rule_entries e its-rule.0) m' stop
        placed = rw its-rule.1 at made

        stops : stop ≡ e + rule_size its-rule.0
        stops = placed.place ∙ ap (λ (n : ℕ). e + n) (length-rule e its-rule.0)

        its-rows : Rows m' e (rule_entries e its-rule.0)
        its-rows =
            subst (λ (w : List ℕ). Rows w e (rule_entries e its-rule.0)) (sym placed.entries)
            (put-rows (rule-eights its-rule.0 plain e) m e (omega (arith, length-rule e its-rule.0, inside, few, long)))

        pub compared : (answer : Bool) → SameWords t m' (8 * e) (8 * stop) answer → IsRule t u e l answer
        compared answer (same z all) =
            yes z its-rule.0
            (record {
              plain = plain;
              allowed = allowed;
              inside = inside;
              rows = rows_same m' t e (rule_entries e its-rule.0) (λ i j k a b. all (8 * i + j) (omega arith) (omega (arith, stops, length-rule e its-rule.0))) its-rows;
            })
            its-rule.1
        compared answer (differ z i a b n) =
            no z
            (λ q h y.
            let x : q ≡ its-rule.0 = same-rule (sym y ∙ its-rule.1) in
            let r : Rows t e (rule_entries e its-rule.0) = subst (λ (p : Rule). Rows t e (rule_entries e p)) x h.rows in
            let c : 8 * (i / 8) + i % 8 ≡ i = omega arith in
            n (subst (λ (k : ℕ). get_or t k 0 ≡ get_or m' k 0) c
            (rows-equal t m' (rule_entries e its-rule.0) e r its-rows (i / 8) (i % 8) (omega arith) (omega arith) (omega (arith, stops, length-rule e its-rule.0)))))
          where
            same-rule : {p q : Rule} → rule p ≡ rule q → p ≡ q
            same-rule y = cc
