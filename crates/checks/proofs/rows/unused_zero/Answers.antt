-- `checks::rows::unused_zero` meets its contract: every word from 2 + n on is zero. Assumes nothing.
use Rattle.std.proofs.Common.{◌≡◌, ℕ, List, Bool, true, ◌+◌, ◌-◌, ◌<◌, ◌≤◌, ◌↔◌, eqb, rules, arith}
use Rattle.std.proofs.iter.runs.Sources.{ranges}
use borrow.Author.Tests.{eq-eqb, eqb-true}
use Rattle.words.specs.Words.{word_at}
use Rattle.words.proofs.Tests.{every_both}
use Rattle.checks.specs.Good.{zeros_from}
use Rattle.checks.proofs.rows.unused_zero.Goals as goal

zero-words : (w : List ℕ) (k j : ℕ) (b : Bool) → j ≤ 8 → (b ≡ true ↔ ((i : ℕ) → j ≤ i → i < 8 → word_at w k i ≡ 0)) → b ≡ zeros_from w k j
zero-words w k j b l h =
    every_both (λ i. eqb (word_at w k i) 0) j (8 - j) b
    (λ e i m n. eq-eqb _ _ (h.0 e i m (omega arith)), λ f. h.1 (λ i m n. eqb-true _ _ (f i m (omega arith))))

pub returns : goal.returns
returns c = zero-words c.args.rows.now c.args.k (2 + c.args.n) c.all.result (omega arith) (search (rules, ranges))
