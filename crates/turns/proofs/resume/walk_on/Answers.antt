-- `resume::walk_on` meets its contract. Assumes nothing.
use mathlib.Core.Path.{refl, ap, sym}
use Prim.Native.Nat.{◌+◌, ◌<◌}
use native.Mathlib.Omega.{arith}
use lib.ListN.{drop, length-drop}
use Rattle.words.specs.Words.{word_at}
use Rattle.meaning.specs.Table.{six}
use Rattle.meaning.specs.Plan.{ret}
use Rattle.meaning.specs.Rules.{apply, match, build, compare, again}
use Rattle.turns.specs.declared.turn.Turn.TheVariants.{Next}
use Rattle.turns.specs.Ways.{makes, plan_of, ways, way_of, visit_of}
use Rattle.turns.proofs.Resumed.{first-operand, next-operand, next-mate, walker-on, some-walks-on, step-made}
use Rattle.turns.proofs.resume.walk_on.Goals as goal

pub returns-in-9 : goal.returns-in-9
unfolding ways
returns-in-9 c f y o n g b d =
    some-walks-on _ f _ _ o n y g b d _ 9 c.in-9.is (ap Next c.visit.ensures) c.requires.1
    c.word-same.ensures refl

pub returns-in-10 : goal.returns-in-10
unfolding ways
returns-in-10 c f y o n g b d =
    some-walks-on _ f _ _ o n y g b d _ 10 c.in-10.is (ap Next c.visit-in-10.ensures) c.requires.1
    c.word-same.ensures refl

pub returns-in-12 : goal.returns-in-12
unfolding plan_of way_of ways visit_of
returns-in-12 c f y o n g b d =
    let t = c.args.table.now in
    walker-on t f _ _ o n y g b d _ 12 0 (λ o h. apply (word_at t f.x 2) h) (six t f.x) (again f.y)
    c.in-12.is (ap Next c.visit-in-12.ensures) c.requires.1 (omega (arith, c.requires.1, c.requires.2))
    (λ z. apply (first-operand t f _ _ o n c.word-same.ensures z) (n.next z) d) refl refl

pub returns-in-13 : goal.returns-in-13
unfolding plan_of way_of ways visit_of
returns-in-13 c f y o n g b d =
    let t = c.args.table.now in
    let few : c.args.s.at + 1 < 6 = omega (arith, c.requires.1, c.requires.2) in
    walker-on t f _ _ o n y g b d _ 13 0 apply (six t f.x) (again f.y) c.in-13.is (ap Next c.visit-in-13.ensures)
    c.requires.1 few
    (λ z. apply (next-operand t f _ _ o n c.word-beside.ensures few z) (n.next z) d) refl refl

pub returns-in-14 : goal.returns-in-14
unfolding plan_of way_of ways visit_of
returns-in-14 c f y o n g b d =
    let t = c.args.table.now in
    let few : c.args.s.at + 1 < 6 = omega (arith, c.requires.1, c.requires.2) in
    walker-on t f _ _ o n y g b d _ 14 1 match (six t f.x) (λ n hs e. ret f.y e) c.in-14.is
    (ap Next c.visit-in-14.ensures) c.requires.1 few
    (λ z. match (next-operand t f _ _ o n c.word-beside.ensures few z) (n.next z) d) refl refl

pub returns-in-15 : goal.returns-in-15
unfolding plan_of way_of ways visit_of
returns-in-15 c f y o n g b d =
    let t = c.args.table.now in
    let few : c.args.s.at + 1 < 6 = omega (arith, c.requires.1, c.requires.2) in
    walker-on t f _ _ o n y g b d _ 15 2 (λ p h. build p f.y) (six t f.x) makes c.in-15.is
    (ap Next c.visit-in-15.ensures) c.requires.1 few
    (λ z. build (next-operand t f _ _ o n c.word-beside.ensures few z) (sym o.y z) d) refl refl

pub returns-in-16 : goal.returns-in-16
unfolding plan_of way_of ways visit_of
returns-in-16 c f y o n g b d =
    let t = c.args.table.now in
    walker-on t f _ _ o n y g b d _ 16 3 compare (drop 2 f.other) (λ n hs e. ret f.y e) c.in-16.is (ap Next c.visit-in-16.ensures)
    c.requires.1
    (simp length-drop (omega (arith, c.requires.1, c.requires.2, n.long-other)))
    (λ z. compare (next-mate t f _ _ o n z) (n.next z) d) refl refl

pub returns-in_default : goal.returns-in_default
returns-in_default c f y o n g b d =
    let none = c.in_default.in_default-own.rest in
    step-made _ f _ _ o n y g b d _ _ c.requires.0 none.0.0.0.0.0.0.1 none.0.0.0.0.0.1 none.0.0.0.0.1
    none.0.0.0.1 none.0.0.1 none.0.1 none.1
    refl refl (omega (arith, c.requires.1))
