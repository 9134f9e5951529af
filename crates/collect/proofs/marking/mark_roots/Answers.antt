use mathlib.Core.Path.{◌≡◌, refl, sym, subst}
use mathlib.Core.Bool.{◌||◌}
use mathlib.Core.List.{List}
use Prim.Native.Nat.{ℕ, suc, ◌-◌}
use native.Mathlib.Numerals.{add-one}
use native.Mathlib.Omega.{arith}
use lib.Dec.{eqb}
use lib.ListN.{length, get_or, set}
use Rattle.words.specs.Words.{cleared_from}
use Rattle.collect.specs.Reachable.{among, is_root}
use Rattle.collect.specs.Passes.{Flags}
use Rattle.collect.proofs.Flagging.{root-first, root-long, root-more, root-same}
use Rattle.collect.proofs.marking.mark_roots.Goals as goal
use Rattle.collect.proofs.marking.mark_roots.Goals.{else-bound-ne0, then-bound-ne0}

pub loop-bound-init : goal.loop-bound-init
loop-bound-init c =
    let a = c.args in
    let w : List ℕ = a.work.now in
    let x : ℕ = a.subject in
    let b : List ℕ = a.bindings.now in
    let e : c.clear_from.new.words ≡ cleared_from w 0 = c.clear_from.ensures in
    let long : length (set (cleared_from w 0) x 1) ≡ length w = root-long b x 0 w (cleared_from w 0) refl in
    subst (λ (l : List ℕ). Flags (length (set l x 1)) (λ j. eqb j x || among (λ u. eqb (get_or b u 0) (suc j)) 0) (set l x 1)) (sym e)
    (root-first b x (length (set (cleared_from w 0) x 1)) w (sym long) (omega (arith, c.requires.0)))

pub loop-bound-preserved : goal.loop-bound-preserved
loop-bound-preserved c =
    let a = c.args in
    let b : List ℕ = a.bindings.now in
    let v : ℕ = c.loop-bound.bound-index in
    let l : List ℕ = c.clear_from.new.words in
    let n : ℕ = length (set l a.subject 1) in
    let long : n ≡ length a.work.now = root-long b a.subject 0 a.work.now l c.clear_from.ensures in
    rw add-one
    (elim c.if-bound-ne0.branch [
      | then-bound-ne0 w ↦
          rw w.work-is (root-more b a.subject n c.loop-bound.work v (get_or b v 0 - 1) c.loop-bound.invariant (omega (arith, w.if-bound-ne0.true)) (omega (arith, c.requires.1 v, w.if-bound-ne0.true)))
      | else-bound-ne0 w ↦ rw w.work-is (root-same b a.subject n c.loop-bound.work v c.loop-bound.invariant w.if-bound-ne0.false)
    ])

pub returns : goal.returns
unfolding is_root
returns c =
    let a = c.args in
    let b : List ℕ = a.bindings.now in
    let all : c.loop-bound.bound-index ≡ length b = omega arith in
    let w : List ℕ = c.loop-bound.work in
    let l : List ℕ = set c.clear_from.new.words a.subject 1 in
    let long : length l ≡ length a.work.now = root-long b a.subject 0 a.work.now _ c.clear_from.ensures in
    subst (λ (n : ℕ). Flags n (λ j. eqb j a.subject || among (λ u. eqb (get_or b u 0) (suc j)) (length b)) w) long
    (subst (λ (n : ℕ). Flags (length l) (λ j. eqb j a.subject || among (λ u. eqb (get_or b u 0) (suc j)) n) w) all c.loop-bound.invariant)
