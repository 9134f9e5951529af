-- `hints::scope_head` meets its contract: a SCOPE begins one visit later than its operand.
use mathlib.Core.Path.{ap, sym, ◌∙◌}
use Prim.Native.Nat.{ℕ}
use Rattle.words.specs.Words.{word_at}
use Rattle.loading.proofs.Hinting.{found_scope}
use Rattle.loading.proofs.hints.scope_head.Goals as goal

pub returns : goal.returns
returns c =
    let a = c.args in
    found_scope
    (c.word.ensures ∙ ap (λ (j : ℕ). word_at a.table.now a.q j) c.operands_from.ensures)
    c.in_ok-h.ensures
    (sym c.kind_of.ensures ∙ c.if-kind_of-ne-SCOPE.false)
