use Rattle.translate.proofs.Putting.{variable-row, constructor-row, bare-none, bare-past, count_past, bare-neither, bare-variable, bare-constructor, count-bad, count-some}
use Rattle.translate.proofs.Putting.{puts-end, puts-room, puts-below, puts-on}
use Rattle.rules.proofs.Scanning.{end-within, constructor-long}
use native.Mathlib.Omega.{arith}
use Prim.Native.Nat.{◌+◌, ◌-◌}
use mathlib.Core.Path.{◌≡◌, refl, ◌∙◌}
use mathlib.Core.List.{[], ◌∷◌}
use Rattle.words.specs.Words.{put_row}
use Rattle.translate.proofs.heads.put_term.Goals as goal

pub loop-wanted-init : goal.loop-wanted-init
loop-wanted-init c =
    record { all = refl; count = refl; same = refl; few = omega arith }

pub shape_of-table-then-line-at : goal.shape_of-table-then-line-at
shape_of-table-then-line-at c =
    c.loop-wanted.invariant.same

pub returns-then-line-at : goal.returns-then-line-at
returns-then-line-at c =
    puts-end c.loop-wanted.invariant (bare-past c.args.line.now c.loop-wanted.at c.loop-wanted.wanted c.if-line-at.true)

pub slice_bounds-head_of-count : goal.slice_bounds-head_of-count
slice_bounds-head_of-count c =
    let w = end-within c.args.line.now c.loop-wanted.at c.next_at-end.result c.if-line-at.false c.next_at-end.ensures in
    omega (arith, w.0)

pub slice_bounds-head_of-start : goal.slice_bounds-head_of-start
slice_bounds-head_of-start c =
    let w = end-within c.args.line.now c.loop-wanted.at c.next_at-end.result c.if-line-at.false c.next_at-end.ensures in
    omega (arith, w.0, w.1)

pub slice_bounds-head_of-end : goal.slice_bounds-head_of-end
slice_bounds-head_of-end c =
    let w = end-within c.args.line.now c.loop-wanted.at c.next_at-end.result c.if-line-at.false c.next_at-end.ensures in
    omega (arith, w.0, w.1)

pub shape_of-table-in-None : goal.shape_of-table-in-None
shape_of-table-in-None c =
    c.loop-wanted.invariant.same

pub returns-in-None : goal.returns-in-None
returns-in-None c =
    puts-end c.loop-wanted.invariant (bare-neither c.args.line.now c.loop-wanted.at c.next_at-end.result c.if-line-at.false c.next_at-end.ensures
    c.loop-wanted.wanted c.in-None.ensures)

pub put_row-requires : goal.put_row-requires
put_row-requires c =
    puts-room c.loop-wanted.invariant _ _
    (bare-variable c.args.line.now c.loop-wanted.at c.next_at-end.result c.if-line-at.false c.next_at-end.ensures c.loop-wanted.wanted
    c.in-Some-Variable.v c.loop-wanted-test.true (rw c.in-Some-Variable.field-0-is at c.in-Some-Variable.ensures)) c.requires.0

pub overflow_add-at : goal.overflow_add-at
overflow_add-at c =
    let w = end-within c.args.line.now c.loop-wanted.at c.next_at-end.result c.if-line-at.false c.next_at-end.ensures in
    omega (arith, w.1)

pub overflow_add-e : goal.overflow_add-e
overflow_add-e c =
    omega (
      arith,
      puts-below c.loop-wanted.invariant _ _
          (bare-variable c.args.line.now c.loop-wanted.at c.next_at-end.result c.if-line-at.false c.next_at-end.ensures c.loop-wanted.wanted
          c.in-Some-Variable.v c.loop-wanted-test.true (rw c.in-Some-Variable.field-0-is at c.in-Some-Variable.ensures)) c.requires.0,
      c.requires.1,
    )

pub overflow_sub-wanted : goal.overflow_sub-wanted
overflow_sub-wanted c =
    omega (arith, c.loop-wanted-test.true)

pub loop-wanted-smaller-in-Some-Variable : goal.loop-wanted-smaller-in-Some-Variable
loop-wanted-smaller-in-Some-Variable c =
    let w = end-within c.args.line.now c.loop-wanted.at c.next_at-end.result c.if-line-at.false c.next_at-end.ensures in
    omega (arith, w.0, w.1)

pub loop-wanted-preserved-in-Some-Variable : goal.loop-wanted-preserved-in-Some-Variable
loop-wanted-preserved-in-Some-Variable c =
    let w = end-within c.args.line.now c.loop-wanted.at c.next_at-end.result c.if-line-at.false c.next_at-end.ensures in
    let q : c.put_row.new.words ≡ put_row c.loop-wanted.table c.loop-wanted.e (288 ∷ c.in-Some-Variable.v ∷ 0 ∷ 0 ∷ 0 ∷ 0 ∷ 0 ∷ 0 ∷ []) =
    cc (c.put_row.ensures, c.in-Some-Variable.v-is)
    in
    puts-on c.loop-wanted.invariant _ _
    (bare-variable c.args.line.now c.loop-wanted.at c.next_at-end.result c.if-line-at.false c.next_at-end.ensures c.loop-wanted.wanted
    c.in-Some-Variable.v c.loop-wanted-test.true (rw c.in-Some-Variable.field-0-is at c.in-Some-Variable.ensures)) _
    (variable-row c.in-Some-Variable.v) q c.put_row.auto.words refl (omega (arith, c.loop-wanted.invariant.few, w.0))

pub overflow_add-at-in-Some-Constructor : goal.overflow_add-at-in-Some-Constructor
overflow_add-at-in-Some-Constructor c =
    let w = end-within c.args.line.now c.loop-wanted.at c.next_at-end.result c.if-line-at.false c.next_at-end.ensures in
    omega (arith, w.1)

pub shape_of-table-then-line-at-2 : goal.shape_of-table-then-line-at-2
shape_of-table-then-line-at-2 c =
    c.loop-wanted.invariant.same

pub returns-then-line-at-2 : goal.returns-then-line-at-2
returns-then-line-at-2 c =
    puts-end c.loop-wanted.invariant (bare-constructor c.args.line.now c.loop-wanted.at c.next_at-end.result c.if-line-at.false c.next_at-end.ensures
    c.loop-wanted.wanted c.in-Some-Constructor.c c.loop-wanted-test.true (rw c.in-Some-Constructor.field-0-is at c.in-Some-Constructor.ensures)
    ∙ count_past c.args.line.now (c.next_at-end.result + 1) c.in-Some-Constructor.c (c.loop-wanted.wanted - 1) c.if-line-at-2.true)

pub slice_bounds-children-count : goal.slice_bounds-children-count
slice_bounds-children-count c =
    let w2 = end-within c.args.line.now (c.next_at-end.result + 1) c.next_at-stop.result c.if-line-at-2.false c.next_at-stop.ensures in
    omega (arith, w2.0)

pub slice_bounds-children-start : goal.slice_bounds-children-start
slice_bounds-children-start c =
    let w2 = end-within c.args.line.now (c.next_at-end.result + 1) c.next_at-stop.result c.if-line-at-2.false c.next_at-stop.ensures in
    omega (arith, w2.0, w2.1)

pub slice_bounds-children-end : goal.slice_bounds-children-end
slice_bounds-children-end c =
    let w2 = end-within c.args.line.now (c.next_at-end.result + 1) c.next_at-stop.result c.if-line-at-2.false c.next_at-stop.ensures in
    omega (arith, w2.0, w2.1)

pub shape_of-table-in_default : goal.shape_of-table-in_default
shape_of-table-in_default c =
    c.loop-wanted.invariant.same

pub returns-in_default : goal.returns-in_default
returns-in_default c =
    puts-end c.loop-wanted.invariant (bare-constructor c.args.line.now c.loop-wanted.at c.next_at-end.result c.if-line-at.false c.next_at-end.ensures
    c.loop-wanted.wanted c.in-Some-Constructor.c c.loop-wanted-test.true (rw c.in-Some-Constructor.field-0-is at c.in-Some-Constructor.ensures)
    ∙ count-bad c.args.line.now (c.next_at-end.result + 1) c.next_at-stop.result c.if-line-at-2.false c.next_at-stop.ensures
    c.in-Some-Constructor.c (c.loop-wanted.wanted - 1) c.in_default.ensures)

pub overflow_add-n : goal.overflow_add-n
overflow_add-n c =
    let k = count-some c.args.line.now (c.next_at-end.result + 1) c.next_at-stop.result c.if-line-at-2.false c.next_at-stop.ensures
    c.in-Some-Constructor.c (c.loop-wanted.wanted - 1) c.in-Some.n c.in-Some.ensures in
    omega (arith, k.1)

pub put_row-requires-in-Some-Constructor : goal.put_row-requires-in-Some-Constructor
put_row-requires-in-Some-Constructor c =
    let k = count-some c.args.line.now (c.next_at-end.result + 1) c.next_at-stop.result c.if-line-at-2.false c.next_at-stop.ensures
    c.in-Some-Constructor.c (c.loop-wanted.wanted - 1) c.in-Some.n c.in-Some.ensures in
    puts-room c.loop-wanted.invariant _ _
    (bare-constructor c.args.line.now c.loop-wanted.at c.next_at-end.result c.if-line-at.false c.next_at-end.ensures c.loop-wanted.wanted
    c.in-Some-Constructor.c c.loop-wanted-test.true (rw c.in-Some-Constructor.field-0-is at c.in-Some-Constructor.ensures) ∙ k.0) c.requires.0

pub overflow_add-at-in-Some-Constructor-2 : goal.overflow_add-at-in-Some-Constructor-2
overflow_add-at-in-Some-Constructor-2 c =
    let w2 = end-within c.args.line.now (c.next_at-end.result + 1) c.next_at-stop.result c.if-line-at-2.false c.next_at-stop.ensures in
    omega (arith, w2.1)

pub overflow_add-e-in-Some-Constructor : goal.overflow_add-e-in-Some-Constructor
overflow_add-e-in-Some-Constructor c =
    let k = count-some c.args.line.now (c.next_at-end.result + 1) c.next_at-stop.result c.if-line-at-2.false c.next_at-stop.ensures
    c.in-Some-Constructor.c (c.loop-wanted.wanted - 1) c.in-Some.n c.in-Some.ensures in
    omega (
      arith,
      puts-below c.loop-wanted.invariant _ _
          (bare-constructor c.args.line.now c.loop-wanted.at c.next_at-end.result c.if-line-at.false c.next_at-end.ensures c.loop-wanted.wanted
          c.in-Some-Constructor.c c.loop-wanted-test.true (rw c.in-Some-Constructor.field-0-is at c.in-Some-Constructor.ensures) ∙ k.0) c.requires.0,
      c.requires.1,
    )

pub overflow_sub-wanted-in-Some-Constructor : goal.overflow_sub-wanted-in-Some-Constructor
overflow_sub-wanted-in-Some-Constructor c =
    omega (arith, c.loop-wanted-test.true)

pub overflow_add-wanted : goal.overflow_add-wanted
overflow_add-wanted c =
    let k = count-some c.args.line.now (c.next_at-end.result + 1) c.next_at-stop.result c.if-line-at-2.false c.next_at-stop.ensures
    c.in-Some-Constructor.c (c.loop-wanted.wanted - 1) c.in-Some.n c.in-Some.ensures in
    let w = end-within c.args.line.now c.loop-wanted.at c.next_at-end.result c.if-line-at.false c.next_at-end.ensures in
    let w2 = end-within c.args.line.now (c.next_at-end.result + 1) c.next_at-stop.result c.if-line-at-2.false c.next_at-stop.ensures in
    omega (arith, k.1, c.loop-wanted.invariant.few, w.0, w.1, w2.0, w2.1)

pub loop-wanted-smaller : goal.loop-wanted-smaller
loop-wanted-smaller c =
    let w = end-within c.args.line.now c.loop-wanted.at c.next_at-end.result c.if-line-at.false c.next_at-end.ensures in
    let w2 = end-within c.args.line.now (c.next_at-end.result + 1) c.next_at-stop.result c.if-line-at-2.false c.next_at-stop.ensures in
    omega (arith, w.0, w.1, w2.0, w2.1)

pub loop-wanted-preserved : goal.loop-wanted-preserved
loop-wanted-preserved c =
    let k = count-some c.args.line.now (c.next_at-end.result + 1) c.next_at-stop.result c.if-line-at-2.false c.next_at-stop.ensures
    c.in-Some-Constructor.c (c.loop-wanted.wanted - 1) c.in-Some.n c.in-Some.ensures in
    let w = end-within c.args.line.now c.loop-wanted.at c.next_at-end.result c.if-line-at.false c.next_at-end.ensures in
    let w2 = end-within c.args.line.now (c.next_at-end.result + 1) c.next_at-stop.result c.if-line-at-2.false c.next_at-stop.ensures in
    let j = constructor-long c.args.line.now c.loop-wanted.at c.next_at-end.result c.if-line-at.false c.next_at-end.ensures c.loop-wanted.wanted 0 0
    c.in-Some-Constructor.c (rw c.in-Some-Constructor.field-0-is at c.in-Some-Constructor.ensures) in
    let q : c.put_row-in-Some-Constructor.new.words
    ≡ put_row c.loop-wanted.table c.loop-wanted.e ((304 + c.in-Some.n) ∷ c.in-Some-Constructor.c ∷ 0 ∷ 0 ∷ 0 ∷ 0 ∷ 0 ∷ 0 ∷ []) =
    cc (c.put_row-in-Some-Constructor.ensures, c.in-Some-Constructor.c-is)
    in
    puts-on c.loop-wanted.invariant _ _
    (bare-constructor c.args.line.now c.loop-wanted.at c.next_at-end.result c.if-line-at.false c.next_at-end.ensures c.loop-wanted.wanted
    c.in-Some-Constructor.c c.loop-wanted-test.true (rw c.in-Some-Constructor.field-0-is at c.in-Some-Constructor.ensures) ∙ k.0) _
    (constructor-row c.in-Some-Constructor.c c.in-Some.n k.1) q c.put_row-in-Some-Constructor.auto.words refl
    (omega (arith, c.loop-wanted.invariant.few, k.1, w.0, w2.0, j))

pub shape_of-table : goal.shape_of-table
shape_of-table c =
    c.loop-wanted.invariant.same

pub returns : goal.returns
returns c =
    puts-end c.loop-wanted.invariant (bare-none _ c.loop-wanted.wanted (omega (arith, c.loop-wanted-test.false)))
