-- `translate::link::row_linked` meets its contract, operand by operand. Assumes nothing.
use mathlib.Core.Path.{◌≡◌, refl, ap, ◌∙◌}
use mathlib.Core.List.{List}
use Prim.Native.Nat.{ℕ, ◌+◌, ◌-◌}
use native.Mathlib.Omega.{arith}
use lib.ListN.{length, get_or, set, length-set}
use Rattle.words.specs.Words.{word_at}
use Rattle.translate.specs.Links.{filled, inner_of}
use Rattle.translate.proofs.Links.{inner-most, filled-end, filled_more, filled_none}
use Rattle.translate.proofs.link.row_linked.Goals as goal

pub loop-i-init : goal.loop-i-init
loop-i-init c =
    let n : c.inner-i-end.result ≡ inner_of (word_at c.args.table.now c.args.e 0) =
    c.inner-i-end.ensures ∙ ap (λ (row : List ℕ). inner_of (get_or row 0 0)) c.row-row.ensures
    in (
      ap (λ (row : List ℕ). length row) c.row-row.ensures,
      ap (λ (row : List ℕ). filled (c.inner-i-end.result - 0) (c.args.e + 1) c.args.ends.now row 2) c.row-row.ensures
          ∙ filled_none c.inner-i-end.result c.args.table.now c.args.ends.now c.args.e n,
    )

pub overflow_add-row : goal.overflow_add-row
overflow_add-row c = omega (arith, c.inner-i-end.ensures, inner-most (get_or c.row-row.result 0 0))

pub bounds-row-i : goal.bounds-row-i
bounds-row-i c = omega (arith, c.inner-i-end.ensures, inner-most (get_or c.row-row.result 0 0))

pub loop-i-preserved : goal.loop-i-preserved
loop-i-preserved c =
    let es = c.args.ends.now in (
      length-set c.loop-i.row (2 + c.loop-i.i) c.loop-i.end ∙ c.loop-i.invariant.0,
      ap (λ (o : ℕ). filled (c.inner-i-end.result - (c.loop-i.i + 1)) o es (set c.loop-i.row (2 + c.loop-i.i) c.loop-i.end) (2 + (c.loop-i.i + 1)))
          c.end_at-end.ensures ∙ filled_more c.inner-i-end.result c.loop-i.i c.loop-i.end es c.loop-i.row c.loop-i-test.true ∙ c.loop-i.invariant.1,
    )

pub returns : goal.returns
returns c =
    filled-end (c.inner-i-end.result - c.loop-i.i) c.loop-i.end c.args.ends.now c.loop-i.row (2 + c.loop-i.i) (omega arith)
    ∙ c.loop-i.invariant.1
