use mathlib.Core.Path.{◌≡◌, refl, ap, sym, ◌∙◌}
use mathlib.Core.Bool.{Bool}
use mathlib.Core.Option.{some}
use mathlib.Core.List.{List}
use Prim.Native.Nat.{ℕ, ◌-◌, ◌<◌}
use native.Mathlib.Omega.{arith}
use Rattle.std.specs.Prelude.{if◌then◌else◌}
use Rattle.meaning.specs.Shared.{eight, alike, node_with}
use Rattle.meaning.proofs.NodeWith.{node_with-next}
use Rattle.machine.proofs.nodes.standing.Goals as goal

-- one node further down, by whether it has the words
next : (w r : List ℕ) (m k : ℕ) {t : Bool} → node_with w r m ≡ node_with w r k → 0 < k → t ≡ alike (eight w (k - 1)) r
    → node_with w r m ≡ (if t then some (k - 1) else node_with w r (k - 1))
next w r m k e h a = e ∙ node_with-next w r k h ∙ ap (λ t. if t then some (k - 1) else node_with w r (k - 1)) (sym a)

pub returns-then-has : goal.returns-then-has
returns-then-has c = sym (next _ _ _ _ c.loop-k.invariant (omega arith) (sym c.if-has.true ∙ c.has.ensures))

pub loop-k-preserved : goal.loop-k-preserved
loop-k-preserved c = next _ _ _ _ c.loop-k.invariant (omega arith) (sym c.if-has.false ∙ c.has.ensures)

pub returns : goal.returns
unfolding node_with
returns c = let e : c.loop-k.k ≡ 0 = omega arith in sym (c.loop-k.invariant ∙ ap (node_with _ _) e)
