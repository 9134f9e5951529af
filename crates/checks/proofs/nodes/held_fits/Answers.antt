-- `checks::nodes::held_fits` meets its contract, on either side of the count. Assumes nothing.
use mathlib.Core.Path.{◌≡◌, refl, sym, ◌∙◌}
use Prim.Native.Nat.{ℕ, zero, suc}
use native.Mathlib.Omega.{arith}
use lib.Dec.{ltb, eqb}
use borrow.Author.Tests.{lt-ltb, le-ltb, ne_eqb}
use Rattle.checks.specs.Good.{held_fits}
use Rattle.checks.proofs.nodes.held_fits.Goals as goal
use Rattle.checks.proofs.nodes.held_fits.Goals.{else-i-n, then-i-n}

-- To be below 1 is to be zero.
below_one : (w : ℕ) → ltb w 1 ≡ eqb w 0
below_one zero = refl
below_one (suc w) = le-ltb (suc w) 1 (omega arith) ∙ sym (ne_eqb (suc w) 0 (λ e. omega arith))

pub returns : goal.returns
unfolding held_fits
returns c =
    elim c.if-i-n.branch [ then-i-n w ↦ rw (w.limit-is, lt-ltb _ _ w.if-i-n.true) | else-i-n w ↦ rw (w.limit-is, le-ltb _ _ w.if-i-n.false) (below_one c.args.w) ]
