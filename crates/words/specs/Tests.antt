-- Tests on numbers, and what is done with them: a test at each number below a bound, the first number that a
-- test rejects. Every definition here computes.
use Rattle.std.specs.Prelude.{Bool, true, ◌&&◌, ℕ, zero, suc, ◌+◌, if◌then◌else◌}
use Rattle.std.proofs.Math.Option.{Option, none, some}

-- the test holds at i, i + 1 and so on, at k numbers
unfoldable pub every : (ℕ → Bool) → ℕ → ℕ → Bool
every p i zero = true
every p i (suc k) = p i && every p (i + 1) k

-- the first of i, i + 1 and so on, of k numbers, that the test rejects
unfoldable pub rejected : (ℕ → Bool) → ℕ → ℕ → Option ℕ
rejected p i zero = none
rejected p i (suc k) = if p i then rejected p (i + 1) k else some i
