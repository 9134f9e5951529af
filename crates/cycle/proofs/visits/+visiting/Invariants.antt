-- The nesting falls at each visit; within one visit the functions call one another in the order of the numbers added here.
use Rattle.std.proofs.Common.{◌≡◌, ◌+◌, ◌*◌, ◌∷◌, length}
use Rattle.cycle.proofs.Looping.{Turn}
use Rattle.cycle.proofs.Descending.{Trying}
use Rattle.cycle.proofs.Walker.{Going}
use Rattle.cycle.proofs.visits.+visiting.Given as goal

abbrev pub decreases-apply : goal.decreases-apply
decreases-apply l = 5 * l.deep + 1

abbrev pub decreases-apply_first : goal.decreases-apply_first
decreases-apply_first l = 5 * l.deep + 1

abbrev pub decreases-apply_in_scope : goal.decreases-apply_in_scope
decreases-apply_in_scope l = 5 * l.deep + 1

abbrev pub decreases-apply_loop : goal.decreases-apply_loop
decreases-apply_loop l = 5 * l.deep

abbrev pub decreases-begin_seq : goal.decreases-begin_seq
decreases-begin_seq l = 5 * l.deep + 2

abbrev pub decreases-cong : goal.decreases-cong
decreases-cong l = 5 * l.deep + 3

abbrev pub decreases-guard : goal.decreases-guard
decreases-guard l = 5 * l.deep + 2

abbrev pub decreases-hiding : goal.decreases-hiding
decreases-hiding l = 5 * l.deep + 2

abbrev pub decreases-keep_subject : goal.decreases-keep_subject
decreases-keep_subject l = 5 * l.deep + 2

abbrev pub decreases-one : goal.decreases-one
decreases-one l = 5 * l.deep + 2

abbrev pub decreases-path : goal.decreases-path
decreases-path l = 5 * l.deep + 2

abbrev pub decreases-rule : goal.decreases-rule
decreases-rule l = 5 * l.d + 4

abbrev pub decreases-scope : goal.decreases-scope
decreases-scope l = 5 * l.deep + 3

abbrev pub decreases-walk : goal.decreases-walk
decreases-walk l = 5 * l.deep + 2

abbrev pub invariant-apply_loop-loop-start : goal.invariant-apply_loop-loop-start
invariant-apply_loop-loop-start l = Turn l.table l.initial.store l.initial.st l.start l.given l.deep l.store l.st l.e l.s l.d

abbrev pub decreases-apply_loop-loop-start : goal.decreases-apply_loop-loop-start
decreases-apply_loop-loop-start l = l.d

abbrev pub invariant-one-loop-i : goal.invariant-one-loop-i
invariant-one-loop-i l = Trying l.table l.initial.store l.initial.st l.deep l.e l.s l.n l.store l.st l.left l.i

abbrev pub invariant-walk-loop-i : goal.invariant-walk-loop-i
invariant-walk-loop-i l =
    Going l.table l.initial.store l.initial.st l.e l.s l.deep l.store l.st l.left l.won (l.name ∷ l.n ∷ l.a ∷ l.b ∷ l.others) l.i × (length l.others ≡ 4)
