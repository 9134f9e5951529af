-- `run_many_indexed` meets its contract: refused, or a turn for each subject. The loop's invariant is `Turning`, over any words behind the
-- store's. Assumes nothing.
use mathlib.Core.Path.{◌≡◌}
use mathlib.Core.List.{List}
use Prim.Native.Nat.{ℕ, ◌/◌}
use lib.ListN.{length, take, drop}
use Rattle.calls.specs.Refused.{lent_signature}
use Rattle.calls.specs.Many.{handed}
use Rattle.indexed.proofs.Turning.{Turning}
use Rattle.indexed.proofs.subjects.run_many_indexed.Given as goal

abbrev pub invariant-loop-j : goal.invariant-loop-j
invariant-loop-j l =
    (x : List ℕ) → length x ≡ length (drop l.fn.words l.initial.lent)
    → Turning (lent_signature l.fn.signature) (handed l.table (take l.fn.words l.initial.lent) l.bindings l.mark l.start l.subjects l.units l.initial.results) x
    (length l.initial.lent) (l.own / 8) l.lent l.results l.left l.top l.j
