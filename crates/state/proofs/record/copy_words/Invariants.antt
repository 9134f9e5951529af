-- `record::copy_words` meets its contract. The loop's invariant: the bits that are left are those of the variables from v on, and
-- what is left to copy into the words as they are gives what the contract says of the words as they were. Assumes nothing.
use mathlib.Core.Path.{◌≡◌}
use Prim.Native.Nat.{◌-◌, ◌^◌, ◌≤◌, ◌<◌}
use lib.ListN.{length}
use Rattle.checks.specs.Kinds.{variables}
use Rattle.state.specs.Record.{copied_from, copied}
use Rattle.state.proofs.record.copy_words.Given as goal

abbrev pub invariant-loop-rest : goal.invariant-loop-rest
invariant-loop-rest l =
    (l.v ≤ variables) × (l.rest < 2 ^ (variables - l.v)) × (length l.to ≡ length l.initial.to) ×
    (copied_from (variables - l.v) l.v l.rest l.from l.start l.to l.at ≡ copied variables l.mask l.from l.start l.initial.to l.at)

abbrev pub decreases-loop-rest : goal.decreases-loop-rest
decreases-loop-rest l =
    l.rest
