-- `nodes::row_inside` meets its contract. Assumes nothing.
use mathlib.Core.Path.{◌≡◌}
use mathlib.Core.List.{[], ◌∷◌}
use Prim.Native.Nat.{◌+◌, ◌*◌}
use native.Mathlib.Omega.{arith}
use lib.ListN.{get_or}
use Rattle.words.specs.Words.{word_at}
use Rattle.machine.proofs.nodes.row_inside.Goals as goal

pub returns : goal.returns
returns c =
    let e : 8 * c.args.r ≡ 8 * c.args.r + 0 = omega arith in λ z. get_or c.args.words.now (e z) 0 ∷ word_at c.args.words.now c.args.r 1 ∷ word_at c.args.words.now c.args.r 2 ∷ word_at c.args.words.now c.args.r 3 ∷ word_at c.args.words.now c.args.r 4 ∷ word_at c.args.words.now c.args.r 5 ∷ word_at
    c.args.words.now c.args.r 6 ∷ word_at c.args.words.now c.args.r 7 ∷ []
