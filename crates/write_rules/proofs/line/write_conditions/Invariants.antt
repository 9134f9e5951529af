-- `write_rules::line::write_conditions` meets its contract. The loop's invariant: what is written and the fields of what is left are the conditions'. Assumes nothing.
use Rattle.write_rules.proofs.Listing.{Lists}
use Prim.Native.Nat.{◌-◌}
use Rattle.write_rules.proofs.line.write_conditions.Given as goal

abbrev pub invariant-loop-entry : goal.invariant-loop-entry
invariant-loop-entry l =
    Lists l.table l.used l.first l.from l.initial.line l.line l.entry l.at

abbrev pub decreases-loop-entry : goal.decreases-loop-entry
decreases-loop-entry l =
    l.used - l.entry
