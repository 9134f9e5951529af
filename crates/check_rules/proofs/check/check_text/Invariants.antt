-- `check_rules::check::check_text` meets its contract. The loop's invariant: what the rest of the text gets is what all of it gets. Assumes nothing.
use Rattle.check_rules.proofs.Checking.{Checks}
use Rattle.check_rules.specs.Line.{callable}
use Rattle.words.specs.Words.{rows}
use lib.ListN.{length}
use Prim.Native.Nat.{◌-◌}
use mathlib.Core.Path.{◌≡◌}
use Rattle.check_rules.proofs.check.check_text.Given as goal

abbrev pub invariant-loop-at : goal.invariant-loop-at
invariant-loop-at l =
    Checks (callable l.table l.masks l.used) (rows l.table) l.used l.text l.e l.n l.at × (l.room ≡ rows l.table)

abbrev pub decreases-loop-at : goal.decreases-loop-at
decreases-loop-at l =
    length l.text - l.at
