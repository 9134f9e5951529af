-- `checks::entries::check_operands` meets its contract. The loop's invariant: the operands from i on decide, and what was
-- found of the sorts before them. Assumes nothing.
use mathlib.Core.Path.{◌≡◌}
use mathlib.Core.Bool.{Bool, false}
use mathlib.Core.Logic.{◌⊎◌}
use Prim.Native.Nat.{ℕ, ◌-◌}
use lib.Dec.{eqb}
use Rattle.std.specs.Prelude.{if◌then◌else◌}
use Rattle.words.specs.Tests.{every}
use Rattle.checks.specs.Kinds.{ours}
use Rattle.checks.specs.Good.{operand_count, operand_placed_by, operand_sorted_by}
use Rattle.checks.specs.Numbers.{fault_of}
use Rattle.checks.proofs.entries.check_operands.Given as goal

-- f is 0 where the test held so far, and 16 where it failed; from i on it decides
abbrev pub Kept : (ℕ → Bool) → (n f i : ℕ) → Bool → Type 0
Kept p n f i whole = ((f ≡ 0) ⊎ (f ≡ 16)) × ((if eqb f 0 then every p i (n - i) else false) ≡ whole)

abbrev pub invariant-loop-i : goal.invariant-loop-i
invariant-loop-i l =
    (every (operand_placed_by ours l.table l.e) l.i (l.n - l.i) ≡ every (operand_placed_by ours l.table l.e) 0 (operand_count l.table l.e))
    × Kept (operand_sorted_by ours l.table l.e) l.n (fault_of l.sorted) l.i (every (operand_sorted_by ours l.table l.e) 0 (operand_count l.table l.e))
