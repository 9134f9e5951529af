-- `free::free_variables` meets its contract: the refusals in their order, then the mask. Assumes nothing.
use Rattle.std.proofs.Common.{refl, sym, ap, ◌∙◌, arith}
use Rattle.std.proofs.lemmas.Result.{err_from_is_err_and}
use Rattle.checks.specs.Kinds.{ours}
use Rattle.checks.specs.Checked.{Checked}
use Rattle.checks.proofs.Numbers.{answer-some, answer_ne0}
use Rattle.checks.proofs.Promises.{table_passes}
use Rattle.free.specs.Answered.{asked_by}
use Rattle.free.proofs.Smallest.{strategy-plain}
use Rattle.free.proofs.free_variables.Goals as goal

pub returns-in_err-check_table : goal.returns-in_err-check_table
unfolding asked_by
returns-in_err-check_table c =
    let p = err_from_is_err_and c.from_residual.result c.from_residual.ensures.1 in
    rw (p.1, p.2)
    record {
      outcome = rw (← c.in_err-check_table.ensures, answer-some _);
      refused = λ n. refl;
      mask = λ z. absurd (answer_ne0 _ z);
    }

pub returns-then-not-is_strategy : goal.returns-then-not-is_strategy
unfolding asked_by
returns-then-not-is_strategy c =
    record {
      outcome = rw (← c.in_ok-check_table.ensures, ← c.is_strategy.ensures, c.if-not-is_strategy.true);
      refused = λ n. refl;
      mask = λ z. absurd (omega arith);
    }

pub mask_of-requires : goal.mask_of-requires
mask_of-requires c = (
  (table_passes ours _).0 (ap (λ (r : Checked). r.answer) (sym (c.in_ok-check_table.ensures))),
  (strategy-plain _ _).0 (sym c.is_strategy.ensures ∙ c.if-not-is_strategy.false),
)

pub returns : goal.returns
unfolding asked_by
returns c =
    record {
      outcome = rw (← c.in_ok-check_table.ensures, ← c.is_strategy.ensures, c.if-not-is_strategy.false);
      refused = λ n. absurd (n refl);
      mask = λ z. c.mask_of.ensures;
    }
