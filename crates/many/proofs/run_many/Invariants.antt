-- `run_many` meets its contract: refused, or a turn for each subject. The loop's invariant is `Going`: what the turns so far have
-- written, and then what single calls over the rest leave.
use Rattle.checks.specs.Kinds.{ours}
use Rattle.calls.specs.Refused.{lent_signature}
use Rattle.calls.specs.Many.{handed}
use Rattle.calls.proofs.Turns.{Going}
use Rattle.many.proofs.run_many.Given as goal

abbrev pub invariant-loop-j : goal.invariant-loop-j
invariant-loop-j l =
    Going ours (lent_signature l.fn.signature) (handed l.table l.initial.store l.bindings l.mark l.start l.subjects l.units l.initial.results) l.store l.results l.left l.j
