-- `collect::collect` meets its contract: a refusal writes nothing, and otherwise the two passes leave what is collected.
-- Assumes nothing.
use mathlib.Core.Path.{ap, sym, ◌∙◌}
use Prim.Native.Nat.{ℕ}
use native.Mathlib.Omega.{arith}
use Rattle.checks.specs.Kinds.{ours}
use Rattle.checks.specs.Checked.{Checked}
use Rattle.checks.proofs.Numbers.{answer_ne0}
use Rattle.std.proofs.lemmas.Result.{err_from_is_err_and}
use lib.ListN.{get_or}
use Rattle.collect.specs.Packed.{rebound}
use Rattle.collect.specs.Refused.{Lent}
use Rattle.collect.specs.Collected.{lent, refusing}
use Rattle.collect.proofs.Accepting.{collectable, collected-refused}
use Rattle.collect.proofs.Whole.{movable, mark-small, subject-inside, bindings-inside, whole, store_length, work-length, bindings-length}
use Rattle.collect.proofs.collect.Goals as goal

pub returns-in_err-check_collection : goal.returns-in_err-check_collection
returns-in_err-check_collection c =
    let a = c.args in
    let i : Lent = lent a.store.now a.bindings.now a.work.now a.mark a.subject in
    let e = c.in_err-check_collection.ensures in
    let p = err_from_is_err_and c.from_residual.result c.from_residual.ensures.1 in
    rw (p.1, p.2)
    ((λ z. refusing i (e z)) ∙ sym (collected-refused ours i (λ z. answer_ne0 _ (ap (λ (c : Checked). c.answer) e ∙ z))))

pub mark_reached-requires : goal.mark_reached-requires
mark_reached-requires c =
    let a = c.args in
    let i : Lent = lent a.store.now a.bindings.now a.work.now a.mark a.subject in
    collectable ours i (sym (ap (λ (c : Checked). c.answer) c.in_ok-check_collection.ensures))

pub move_kept-kept-requires : goal.move_kept-kept-requires
move_kept-kept-requires c =
    let a = c.args in
    let i : Lent = lent a.store.now a.bindings.now a.work.now a.mark a.subject in
    let good = collectable ours i (sym (ap (λ (c : Checked). c.answer) c.in_ok-check_collection.ensures)) in
    movable i good _ c.mark_reached.ensures

pub bounds-work-subject : goal.bounds-work-subject
bounds-work-subject c =
    let a = c.args in
    let i : Lent = lent a.store.now a.bindings.now a.work.now a.mark a.subject in
    let good = collectable ours i (sym (ap (λ (c : Checked). c.answer) c.in_ok-check_collection.ensures)) in
    subject-inside i good _ c.mark_reached.ensures _ _ _ c.move_kept-kept.ensures

pub move_bindings-requires : goal.move_bindings-requires
move_bindings-requires c =
    let a = c.args in
    let i : Lent = lent a.store.now a.bindings.now a.work.now a.mark a.subject in
    let good = collectable ours i (sym (ap (λ (c : Checked). c.answer) c.in_ok-check_collection.ensures)) in
    bindings-inside i good _ c.mark_reached.ensures _ _ _ c.move_kept-kept.ensures

pub overflow_mul-kept : goal.overflow_mul-kept
overflow_mul-kept c =
    let a = c.args in
    let i : Lent = lent a.store.now a.bindings.now a.work.now a.mark a.subject in
    let good = collectable ours i (sym (ap (λ (c : Checked). c.answer) c.in_ok-check_collection.ensures)) in
    omega (arith, mark-small i good _ c.mark_reached.ensures _ _ _ c.move_kept-kept.ensures)

pub shape_of-store : goal.shape_of-store
shape_of-store c =
    let a = c.args in
    let i : Lent = lent a.store.now a.bindings.now a.work.now a.mark a.subject in
    let good = collectable ours i (sym (ap (λ (c : Checked). c.answer) c.in_ok-check_collection.ensures)) in
    omega (arith, store_length i good _ c.mark_reached.ensures _ _ _ c.move_kept-kept.ensures _ c.clear_from.ensures)

pub shape_of-bindings : goal.shape_of-bindings
shape_of-bindings c =
    let a = c.args in
    let f : ℕ → ℕ = rebound (λ k. get_or c.move_kept-kept.new.work k 0) in
    omega (arith, bindings-length a.bindings.now c.move_bindings.new.bindings f c.move_bindings.ensures)

pub shape_of-work : goal.shape_of-work
shape_of-work c =
    let a = c.args in
    let i : Lent = lent a.store.now a.bindings.now a.work.now a.mark a.subject in
    let good = collectable ours i (sym (ap (λ (c : Checked). c.answer) c.in_ok-check_collection.ensures)) in
    omega (arith, work-length i good _ c.mark_reached.ensures _ _ _ c.move_kept-kept.ensures _ c.clear_from-2.ensures)

pub returns : goal.returns
returns c =
    let a = c.args in
    let i : Lent = lent a.store.now a.bindings.now a.work.now a.mark a.subject in
    let good = collectable ours i (sym (ap (λ (c : Checked). c.answer) c.in_ok-check_collection.ensures)) in
    whole i good _ c.mark_reached.ensures _ _ _ c.move_kept-kept.ensures _ _ _ c.move_bindings.ensures c.clear_from.ensures c.clear_from-2.ensures
