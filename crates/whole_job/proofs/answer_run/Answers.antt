-- `whole_job::answer_run` meets its contract: what `run` returns is what is written. Assumes nothing.
use Rattle.std.proofs.Common.{arith, rules, ◌≤◌, List, ℕ, get_or, subst, sym}
use Rattle.text.specs.Written.{Put}
use Rattle.job.specs.Answer.{answered}
use Rattle.whole_job.proofs.Answering.{mark-fits, put-run}
use Rattle.whole_job.proofs.answer_run.Goals as goal

pub answer-requires : goal.answer-requires
answer-requires c = (
  search rules,
  subst (λ (f : List ℕ). get_or f 3 0 ≤ 1024) (sym c.five_numbers-five.ensures) (mark-fits _ 1024 c.run-ran.ensures (omega arith) (omega arith)),
  search rules,
)

pub returns : goal.returns
returns c =
    put-run _ c.run-ran.ensures
    (subst (λ (f : List ℕ). Put c.args.out.now 0 (answered (get_or f 0 0) (get_or f 1 0) (get_or f 2 0) (get_or f 3 0) (get_or f 4 0)
    c.run-ran.new.store c.run-ran.new.bindings) c.answer.new.buf c.answer.result) c.five_numbers-five.ensures c.answer.ensures)
