use mathlib.Core.Path.{◌≡◌, sym, ◌∙◌}
use native.Mathlib.Omega.{arith}
use borrow.Author.Rules.{rules}
use mir.Val.{Fits}
use mir.Syntax.{w32}
use Rattle.words.specs.Words.{word_at}
use Rattle.state.specs.Visits.{count_of}
use Rattle.state.proofs.Asking.{Tagged-not_done}
use Rattle.state.proofs.AnswerWords.{done-units}
use Rattle.state.proofs.Storing.{child-stored}
use Rattle.leaves.proofs.Limited.{units-kept, nesting-kept}
use Rattle.leaves.proofs.Comparing.{Pair, FromPair, not-zero, one_less, falls-once, lower, weaker, below}
use Rattle.leaves.proofs.Comparing.{not_last, one-more, last, last-word, up_to, few, child-word}
use Rattle.leaves.proofs.Comparing.{other-constructor, other-count, agreed, compared, pair-done, pair-stops, last-pair}
use Prim.Native.Nat.{◌+◌, ◌<◌}
use Rattle.leaves.proofs.compare.+same.Goals as goal
use Rattle.leaves.proofs.compare.+same.Goals.{then-node_word-via-then-node_word, then-node_word-via-else-node_word+then-n-count}

pub loop-left-init : goal.loop-left-init
unfolding Pair
loop-left-init t c = (omega arith, omega arith, λ t β m r e. e, c.requires.0, c.requires.1)

pub returns-then-left-eq0 : goal.returns-then-left-eq0
unfolding Pair
returns-then-left-eq0 t c = λ t β m.
    c.loop-left.invariant.2 t β m _
    (units-kept t _ _ _ _ _ m _ β c.no_units.ensures c.if-left-eq0.true)

pub returns-then-d-eq0 : goal.returns-then-d-eq0
unfolding Pair
returns-then-d-eq0 t c = λ t β m.
    let l = c.loop-left.invariant in
    l.2 t β m _ (nesting-kept t _ _ _ _ _ m _ β c.no_nesting.ensures l.0 c.if-left-eq0.false c.if-d-eq0.true)

pub returns-then-node_word : goal.returns-then-node_word
unfolding Pair
returns-then-node_word t c = λ u β m.
    let l = c.loop-left.invariant in
    l.2 u β m _ (elim c.then-node_word.branch [
      | then-node_word-via-then-node_word w ↦ other-constructor _ _ _ u _ m _ β c.if-left-eq0.false c.if-d-eq0.false _ c.failure.ensures l.0
          (λ h. w.if-node_word.true (c.node_word.ensures ∙ h ∙ sym c.node_word-in-loop-left.ensures))
      | then-node_word-via-else-node_word+then-n-count w ↦ other-count _ _ _ u _ m _ β c.if-left-eq0.false c.if-d-eq0.false _ c.failure.ensures l.0
          (sym c.node_word.ensures ∙ w.if-node_word.false ∙ c.node_word-in-loop-left.ensures)
          (λ h. w.if-n-count.true (c.count-n.ensures ∙ h ∙ sym w.count.ensures))
    ])

pub returns-then-n-eq0 : goal.returns-then-n-eq0
unfolding Pair
returns-then-n-eq0 t c =
    let same-heads : let w = c.args.store.now in word_at w c.loop-left.x 0 ≡ word_at w c.loop-left.y 0 =
    sym c.node_word.ensures ∙ c.if-node_word.false ∙ c.node_word-in-loop-left.ensures in
    let same-counts : c.count-n.result ≡ count_of c.args.store.now c.loop-left.y =
    c.if-n-count.false ∙ c.count.ensures in
    λ u β m.
    let l = c.loop-left.invariant in
    let n = c.count-n.ensures in
    let g = agreed _ _ _ u _ m _ β c.if-left-eq0.false
    c.if-d-eq0.false
    same-heads (sym n ∙ same-counts) in
    l.2 u β m _ (compared _ _ _ u _ 0 β m _ g _ c.done.ensures (one_less l.0) (omega (arith, sym n ∙ c.if-n-eq0.true)))

pub loop-i-init : goal.loop-i-init
unfolding Pair FromPair
loop-i-init t c =
    let same-heads : let w = c.args.store.now in word_at w c.loop-left.x 0 ≡ word_at w c.loop-left.y 0 =
    sym c.node_word.ensures ∙ c.if-node_word.false ∙ c.node_word-in-loop-left.ensures in
    let same-counts : c.count-n.result ≡ count_of c.args.store.now c.loop-left.y =
    c.if-n-count.false ∙ c.count.ensures in
    let l = c.loop-left.invariant in
    let n = c.count-n.ensures in (
      not-zero c.if-n-eq0.false,
      n,
      same-counts,
      one_less l.0,
      lower l.1 c.if-d-eq0.false,
      λ u β m. (
        _,
        agreed _ _ _ u _ m _ β c.if-left-eq0.false
            c.if-d-eq0.false same-heads
            (sym n ∙ same-counts),
        l.2 u β m,
      ),
      l.3,
      l.4,
    )

pub same-got-requires : goal.same-got-requires
same-got-requires t c =
    let next-pair : let w = c.args.store.now in (c.loop-i.i < count_of w c.loop-left.x) × (c.loop-i.i < count_of w c.loop-left.y) =
    let l = c.loop-i.invariant in
    (not_last c.loop-i-test.true l.1, not_last c.loop-i-test.true l.2) in
    let l = c.loop-i.invariant in
    let i = next-pair in (
      below l.4 c.decreases,
      (child-stored l.6 _ i.0 c.node_word-in-loop-i.ensures, child-stored l.7 _ i.1 c.node_word-in-loop-i-2.ensures),
    )

pub returns-in_default : goal.returns-in_default
unfolding FromPair
returns-in_default t c =
    let next-pair : let w = c.args.store.now in (c.loop-i.i < count_of w c.loop-left.x) × (c.loop-i.i < count_of w c.loop-left.y) =
    let l = c.loop-i.invariant in
    (not_last c.loop-i-test.true l.1, not_last c.loop-i-test.true l.2) in
    λ u β m.
    let g = c.loop-i.invariant.5 u β m in
    let i = next-pair in
    g.2 _ (pair-stops _ _ _ u _ _ β m _ g.1 i.0 i.1 _ _ _
    c.node_word-in-loop-i.ensures c.node_word-in-loop-i-2.ensures
    (c.same-got.ensures u β m) _ c.answer_of.ensures (Tagged-not_done _ c.in_default.not-Done))

pub loop-i-preserved : goal.loop-i-preserved
unfolding FromPair
loop-i-preserved t c =
    let next-pair : let w = c.args.store.now in (c.loop-i.i < count_of w c.loop-left.x) × (c.loop-i.i < count_of w c.loop-left.y) =
    let l = c.loop-i.invariant in
    (not_last c.loop-i-test.true l.1, not_last c.loop-i-test.true l.2) in
    let l = c.loop-i.invariant in (
      one-more c.loop-i-test.true,
      l.1,
      l.2,
      done-units _ _ _ _ c.answer_of.ensures c.in-Done.is,
      l.4,
      λ u β m.
          let g = l.5 u β m in
          let i = next-pair in (
            _,
            pair-done _ _ _ u _ _ β m _ g.1 i.0 i.1 _ _ _
                c.node_word-in-loop-i.ensures
                c.node_word-in-loop-i-2.ensures
                (c.same-got.ensures u β m)
                _ c.answer_of.ensures _ _ c.in-Done.is,
            g.2,
          ),
      l.6,
      l.7,
    )

pub loop-left-preserved : goal.loop-left-preserved
unfolding Pair FromPair
loop-left-preserved t c =
    let last_one : let w = c.args.store.now in (c.loop-i.i + 1 ≡ count_of w c.loop-left.x) × (c.loop-i.i + 1 ≡ count_of w c.loop-left.y) =
    let l = c.loop-i.invariant in
    (last l.0 c.loop-i-test.false l.1, last l.0 c.loop-i-test.false l.2) in
    let l = c.loop-i.invariant in
    let i = last_one in (
      l.3,
      weaker l.4,
      λ u β m r e.
          let g = l.5 u β m in
          g.2 r (last-pair _ _ _ u _ _ β m _ g.1 i.0 i.1 _ _ (last-word _ _ _ _ c.node_word-x.ensures l.1 i.0) (last-word _ _ _ _ c.node_word-y.ensures l.2 i.1) r e),
      child-stored l.6 _ (up_to i.0) (last-word _ _ _ _ c.node_word-x.ensures l.1 i.0),
      child-stored l.7 _ (up_to i.1) (last-word _ _ _ _ c.node_word-y.ensures l.2 i.1),
    )

pub overflow_sub-left : goal.overflow_sub-left
overflow_sub-left t c = not-zero c.if-left-eq0.false

pub overflow_sub-d : goal.overflow_sub-d
overflow_sub-d t c = not-zero c.if-d-eq0.false

pub count-n-requires : goal.count-n-requires
count-n-requires t c = c.loop-left.invariant.3

pub node_word-requires : goal.node_word-requires
node_word-requires t c = (c.loop-left.invariant.3, search rules)

pub node_word-requires-in-loop-left : goal.node_word-requires-in-loop-left
node_word-requires-in-loop-left t c = (c.loop-left.invariant.4, search rules)

pub count-requires : goal.count-requires
count-requires t c = c.loop-left.invariant.4

pub overflow_add-i : goal.overflow_add-i
overflow_add-i t c =
    let few-pairs : Fits w32 (c.loop-i.i + 1) × Fits w32 (2 + c.loop-i.i) =
    few _ c.loop-i.invariant.0 c.loop-i.invariant.1 in
    few-pairs.1

pub overflow_add-i-in-loop-i : goal.overflow_add-i-in-loop-i
overflow_add-i-in-loop-i t c =
    let few-pairs : Fits w32 (c.loop-i.i + 1) × Fits w32 (2 + c.loop-i.i) =
    few _ c.loop-i.invariant.0 c.loop-i.invariant.1 in
    few-pairs.1

pub node_word-requires-in-loop-i : goal.node_word-requires-in-loop-i
node_word-requires-in-loop-i t c =
    let next-pair : let w = c.args.store.now in (c.loop-i.i < count_of w c.loop-left.x) × (c.loop-i.i < count_of w c.loop-left.y) =
    let l = c.loop-i.invariant in
    (not_last c.loop-i-test.true l.1, not_last c.loop-i-test.true l.2) in
    (c.loop-i.invariant.6, child-word _ next-pair.0)

pub node_word-requires-in-loop-i-2 : goal.node_word-requires-in-loop-i-2
node_word-requires-in-loop-i-2 t c =
    let next-pair : let w = c.args.store.now in (c.loop-i.i < count_of w c.loop-left.x) × (c.loop-i.i < count_of w c.loop-left.y) =
    let l = c.loop-i.invariant in
    (not_last c.loop-i-test.true l.1, not_last c.loop-i-test.true l.2) in
    (c.loop-i.invariant.7, child-word _ next-pair.1)

pub node_word-x-requires : goal.node_word-x-requires
node_word-x-requires t c =
    let last_one : let w = c.args.store.now in (c.loop-i.i + 1 ≡ count_of w c.loop-left.x) × (c.loop-i.i + 1 ≡ count_of w c.loop-left.y) =
    let l = c.loop-i.invariant in
    (last l.0 c.loop-i-test.false l.1, last l.0 c.loop-i-test.false l.2) in
    (c.loop-i.invariant.6, omega (arith, last_one.0, c.loop-i.invariant.1))

pub node_word-y-requires : goal.node_word-y-requires
node_word-y-requires t c =
    let last_one : let w = c.args.store.now in (c.loop-i.i + 1 ≡ count_of w c.loop-left.x) × (c.loop-i.i + 1 ≡ count_of w c.loop-left.y) =
    let l = c.loop-i.invariant in
    (last l.0 c.loop-i-test.false l.1, last l.0 c.loop-i-test.false l.2) in
    (c.loop-i.invariant.7, omega (arith, last_one.1, c.loop-i.invariant.2))

pub loop-left-smaller : goal.loop-left-smaller
loop-left-smaller t c = falls-once c.if-d-eq0.false
