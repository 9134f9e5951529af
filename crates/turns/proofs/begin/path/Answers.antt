-- `begin::path` meets its contract. Assumes nothing.
use mathlib.Core.Path.{refl, ap, ◌∙◌}
use mathlib.Core.Logic.{inl, inr}
use Prim.Native.Nat.{ℕ, ◌-◌, min}
use native.Mathlib.Omega.{arith}
use Rattle.turns.specs.declared.turn.Asked.{Asked}
use Rattle.turns.specs.declared.turn.Turn.TheVariants.{Ask}
use Rattle.turns.proofs.Begun.{path-nowhere, path-asked}
use Rattle.turns.proofs.begin.path.Goals as goal
use Rattle.turns.proofs.begin.path.Goals.{then-i-eq0-via-then-i-eq0, then-i-eq0-via-else-i-eq0+then-few-i}

pub returns-then-i-eq0 : goal.returns-then-i-eq0
returns-then-i-eq0 c d =
    elim c.then-i-eq0.branch [
      | then-i-eq0-via-then-i-eq0 w ↦ path-nowhere _ _ _ _ d _ c.requires c.word-i.ensures (inl w.if-i-eq0.true) refl
      | then-i-eq0-via-else-i-eq0+then-few-i w ↦
          let few = w.few.ensures ∙ ap (λ (n : ℕ). min n 6) w.word.ensures in
          path-nowhere _ _ _ _ d _ c.requires c.word-i.ensures (inr (omega (arith, few, w.if-few-i.true))) refl
    ]

pub returns : goal.returns
returns c d =
    let few = c.few.ensures ∙ ap (λ (n : ℕ). min n 6) c.word.ensures in
    path-asked _ _ _ _ d _ c.requires c.word-i.ensures c.if-i-eq0.false (omega (arith, few, c.if-few-i.false))
    c.word-2.ensures c.word-3.ensures
    (ap (λ (a : Asked). Ask (record { mode = a.mode; what = a.what; at = c.word-i.result - 1; x = a.x; y = a.y; mask = a.mask })) c.visit.ensures)
