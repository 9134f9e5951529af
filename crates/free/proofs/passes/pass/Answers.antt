use Rattle.std.proofs.Common.{refl, sym, ◌∙◌, arith}
use Rattle.checks.specs.Kinds.{ours}
use Rattle.free.proofs.Entries.{entry_of}
use Rattle.free.proofs.Masks.{pass-turn, pass-end, changed-turn, changed-end}
use Rattle.free.proofs.passes.pass.Goals as goal

pub loop-e-init : goal.loop-e-init
loop-e-init c = record { long = refl; changed = refl; passed = refl }

pub grow-any-requires : goal.grow-any-requires
grow-any-requires c = (entry_of ours _ c.requires.0 _ (omega arith), omega arith)

pub loop-e-preserved : goal.loop-e-preserved
loop-e-preserved c =
    let t = c.args.table.now in
    let l = c.loop-e in
    let g = c.grow-any in
    let some = c.loop-e-test.true in
    record {
      long = omega arith;
      changed = changed-turn ours t l.masks l.e some g.result g.new.masks g.ensures.0 g.ensures.1 l.any ∙ l.invariant.changed;
      passed = pass-turn ours t l.masks l.e some g.result g.new.masks g.ensures.0 g.ensures.1 ∙ l.invariant.passed;
    }

pub returns : goal.returns
returns c =
    let t = c.args.table.now in
    let l = c.loop-e in
    let end = c.loop-e-test.false in (
      sym (changed-end ours t l.masks l.e l.any end) ∙ l.invariant.changed,
      sym (pass-end ours t l.masks l.e end) ∙ l.invariant.passed,
    )
