-- CONG: constructor and count agree, or it fails.
use mathlib.Core.Path.{◌≡◌, ap, sym, ◌∙◌}
use mathlib.Core.Bool.{Bool, true, false, not, ◌&&◌}
use mathlib.Core.List.{List}
use Prim.Native.Nat.{ℕ, ◌<◌}
use native.Mathlib.Omega.{arith}
use lib.Dec.{eqb}
use lib.ListN.{length}
use Rattle.checks.specs.Good.{kind_of, operand_count, argument_of, constructor_of, child_count}
use Rattle.meaning.specs.Table.{operands}
use Rattle.meaning.specs.Rules.{agree, when}
use Rattle.meaning.specs.Store.{children}
use Rattle.state.specs.Answers.{node_in, units_in, failed_word}
use Rattle.state.specs.Record.{standing, held}
use borrow.Author.Tests.{not-true, not-false}
use Rattle.leaves.proofs.Patterns.{agreed-count}
use Rattle.state.specs.Visits.{plan, ruled, count_of, agreeing, Entries, Gives}
use Rattle.cycle.specs.Cycle.{Counted, walked, Ready}
use Rattle.state.proofs.AnswerWords.{gave-failed}
use Rattle.leaves.proofs.Children.{part_length}
use Rattle.state.proofs.Holding.{further, framed-refl}
use Rattle.leaves.proofs.Walking.{failing}
use Rattle.cycle.proofs.Ruling.{ruled-cong}

-- the code's test is the rule's
pub agreeing-agree : {t : List ℕ} → Entries t → (w : List ℕ) (e k : ℕ) → e < 4096 → agreeing t w e k ≡ agree (argument_of t e) (operands t e) (constructor_of w k) (children w k)
unfolding agreeing agree
agreeing-agree {t} n w e k h =
    let few : operand_count t e ≡ length (operands t e) = omega (arith, n.few e h, part_length t e (operand_count t e)) in
    let many : count_of w k ≡ length (children w k) = sym (part_length w k (child_count w k)) in
    λ i. eqb (argument_of t e) (constructor_of w k) && eqb (few i) (many i)

module _ {t w st : List ℕ} {e s : ℕ} (n : ℕ) (ready : Ready t w st e s) (h : kind_of t e ≡ 10) {a : Bool} (ae : a ≡ agreeing t w e (node_in s)) where
  rule : {b : Bool} → a ≡ b → ruled t n e (node_in s) (held st) w (standing st) (units_in s) ≡ plan t n (when b (walked t w e (node_in s) (held st))) w (standing st) (units_in s)
  rule q =
      ruled-cong t n e (node_in s) (held st) w (standing st) (units_in s) h
      ∙ ap (λ b. plan t n (when b (walked t w e (node_in s) (held st))) w (standing st) (units_in s)) (sym (agreeing-agree ready.entries w e (node_in s) ready.inside) ∙ sym ae ∙ q)

  pub gives-cong-failed : {r : ℕ} → not a ≡ true → r ≡ failed_word (units_in s) → Gives (ruled t n e (node_in s) (held st) w (standing st) (units_in s)) st r st w
  unfolding when
  gives-cong-failed {r} q p = record {
    is = gave-failed st w r (units_in s) p (omega arith) ∙ sym (rule (not-true a q) ∙ failing t n w (standing st) (units_in s));
    frame = framed-refl further st;
  }

  pub gives-cong : {r : ℕ} {st' w' : List ℕ} → not a ≡ false → Gives (plan t n (walked t w e (node_in s) (held st)) w (standing st) (units_in s)) st r st' w'
      → Gives (ruled t n e (node_in s) (held st) w (standing st) (units_in s)) st r st' w'
  unfolding when
  gives-cong q g = record { is = g.is ∙ sym (rule (not-false a q)); frame = g.frame }

  -- an operand for each child
  pub cong-counted : not a ≡ false → Counted t w e (node_in s)
  cong-counted q = (λ z. omega (arith, h, z), λ z. agreed-count t w e (node_in s) (sym ae ∙ not-false a q))
