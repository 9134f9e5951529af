-- `hints::seq_head` meets its contract: a SEQ begins one visit later than its operand.
use mathlib.Core.Path.{sym, ◌∙◌}
use Rattle.loading.proofs.Hinting.{found-seq}
use Rattle.loading.proofs.hints.seq_head.Goals as goal

pub returns : goal.returns
returns c = found-seq c.word.ensures c.in_ok-h.ensures (sym c.kind_of.ensures ∙ c.if-kind_of-ne-SEQ.false)
