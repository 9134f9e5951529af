-- `frames::open` meets its contract. Assumes nothing.
use mathlib.Core.Path.{refl}
use Prim.Native.Nat.{◌%◌}
use native.Mathlib.Omega.{arith}
use mathlib.Core.List.{[], ◌∷◌}
use Rattle.machine.proofs.Opening.{opened-plain, opened-row, opened-pair, long_kept, long-row, built-row, node_row}
use borrow.Author.Rules.{rules}
use Rattle.machine.proofs.frames.open.Goals as goal

pub returns-then-a-lt-LEFTMOST : goal.returns-then-a-lt-LEFTMOST
returns-then-a-lt-LEFTMOST c =
    opened-plain c.args.table.now c.args.store.now _ _ _ _ _ _ _ _ c.args.a c.requires.0 c.requires.1.frames refl c.put_head.ensures c.if-a-lt-LEFTMOST.true

pub put_row-requires : goal.put_row-requires
put_row-requires c =
    omega (
      arith,
      c.requires.0,
      c.requires.1.frames,
      long_kept _ _ _ _ _ _ _ _ _ _ c.requires.0 c.requires.1.frames refl c.put_head.ensures,
    )

pub returns-then-a-eq-MAKING : goal.returns-then-a-eq-MAKING
returns-then-a-eq-MAKING c =
    opened-row c.args.table.now c.args.store.now _ _ _ _ _ _ _ _ c.args.a c.requires.0 c.requires.1.frames
    refl c.put_head.ensures _ _ refl c.put_row.ensures (λ e. omega (
      arith,
      c.if-a-eq-MAKING.true,
    )) (built-row c.args.table.now c.args.store.now _ c.args.m.x c.args.m.y c.args.a c.if-a-eq-MAKING.true (λ z. c.word.ensures z ∷ c.word-count.ensures z % 16 ∷ 0 ∷ 0 ∷ 0 ∷ 0 ∷ 0 ∷ 0 ∷ []))

pub put_row-requires-2 : goal.put_row-requires-2
put_row-requires-2 c =
    omega (
      arith,
      c.requires.0,
      c.requires.1.frames,
      long_kept _ _ _ _ _ _ _ _ _ _ c.requires.0 c.requires.1.frames refl c.put_head.ensures,
    )

pub overflow_add-r-then-a-eq-PAIRS : goal.overflow_add-r-then-a-eq-PAIRS
overflow_add-r-then-a-eq-PAIRS c = omega (
  arith,
  c.requires.0,
)

pub put_row-requires-then-a-eq-PAIRS : goal.put_row-requires-then-a-eq-PAIRS
put_row-requires-then-a-eq-PAIRS c = omega (
  arith,
  c.requires.0,
  c.requires.1.frames,
  long-row c.args.table.now c.args.store.now _ _ _ _ _ _ _ _ c.args.a c.requires.0 c.requires.1.frames refl c.put_head.ensures _ _ (search rules) c.put_row-2.ensures,
)

pub returns-then-a-eq-PAIRS : goal.returns-then-a-eq-PAIRS
returns-then-a-eq-PAIRS c = opened-pair c.args.table.now c.args.store.now _ _
    _ _ _ _ _ _ c.args.a c.requires.0 c.requires.1.frames refl c.put_head.ensures _ _ (search rules) c.put_row-2.ensures (search rules) c.put_row-then-a-eq-PAIRS.ensures c.if-a-eq-PAIRS.true (node_row c.args.table.now c.args.store.now _ c.args.m.x c.args.m.y c.args.a c.if-a-eq-MAKING.false c.row_at.ensures) c.row_at-then-a-eq-PAIRS.ensures

pub returns-else-a-eq-PAIRS : goal.returns-else-a-eq-PAIRS
returns-else-a-eq-PAIRS c = opened-row c.args.table.now c.args.store.now _ _ _ _ _ _ _ _ c.args.a c.requires.0 c.requires.1.frames refl c.put_head.ensures _ _ (search rules) c.put_row-2.ensures c.if-a-eq-PAIRS.false (node_row c.args.table.now c.args.store.now _ c.args.m.x c.args.m.y c.args.a c.if-a-eq-MAKING.false c.row_at.ensures)
