use borrow.Author.Tests.{eqb-true, eqb-false}
use Prim.Native.Nat.{ℕ, ◌+◌}
use mathlib.Core.Path.{ap, sym, ◌∙◌}
use native.Mathlib.Omega.{arith}
use Rattle.state.proofs.Holding.{further, held-some}
use Rattle.loading.proofs.Copying.{written-more, written_all, word_some, word_none}
use Rattle.loading.proofs.closed.Goals as goal
use Rattle.loading.proofs.closed.Goals.{else-is_bound, then-is_bound}

pub overflow_add-w : goal.overflow_add-w
overflow_add-w c =
    omega (
      arith,
      c.word_of.ensures,
      c.requires.1 _ _
          (held-some further c.args.st c.loop-v.v (omega arith) (eqb-true _ 1 (sym c.is_bound.ensures ∙ c.if-is_bound.true))),
    )

pub loop-v-preserved : goal.loop-v-preserved
loop-v-preserved c = written-more _ _ _ _ c.loop-v.invariant (omega arith) (
    elim c.if-is_bound.branch [
      | then-is_bound w ↦ w.w-is
          ∙ ap (λ (x : ℕ). x + 1) w.word_of.ensures
          ∙ word_some c.args.st c.loop-v.v (omega arith) (eqb-true _ 1 (sym c.is_bound.ensures ∙ w.if-is_bound.true))
      | else-is_bound w ↦ w.w-is ∙ word_none c.args.st c.loop-v.v (eqb-false _ 1 (sym c.is_bound.ensures ∙ w.if-is_bound.false))
    ])

pub returns : goal.returns
returns c = written_all _ _ _ c.loop-v.invariant (omega arith)
