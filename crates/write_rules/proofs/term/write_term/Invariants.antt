-- `write_rules::term::write_term` meets its contract. The loop's invariant: what is written and the fields of what is left are the term's. Assumes nothing.
use Rattle.write_rules.proofs.Walking.{Walks}
use Prim.Native.Nat.{◌-◌}
use Rattle.write_rules.proofs.term.write_term.Given as goal

abbrev pub invariant-loop-wanted : goal.invariant-loop-wanted
invariant-loop-wanted l =
    Walks l.table l.used l.first l.from l.initial.line l.line l.wanted l.entry l.at

abbrev pub decreases-loop-wanted : goal.decreases-loop-wanted
decreases-loop-wanted l =
    l.used - l.entry
