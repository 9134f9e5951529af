-- `run_on` meets its contract. Assumes nothing.
use Rattle.std.proofs.Common.{◌≡◌, ℕ, ◌≤◌, length, sym, refl, ap, ◌∙◌, le_refl, arith, lit<}
use Rattle.words.specs.Words.{rows}
use Rattle.meaning.specs.Store.{Input}
use Rattle.calls.specs.Run.{input}
use Rattle.tallying.specs.Added.{counted_at_return}
use Rattle.tallying.proofs.Accepted.{accepted-lent, all-counted}
use Rattle.tallying.proofs.run_on.Goals as goal

-- ---- the lengths of the two lists of its own: a list of so many zeros is long to compute, so it is done once for each place
-- m is n, and so as long
as_long : {m n : ℕ} → m ≡ n → n ≤ m
as_long e = omega (arith, e)

pub load_bindings-mask-requires : goal.load_bindings-mask-requires
load_bindings-mask-requires c = (le_refl 327680, c.requires.0.bindings)

pub slice_bounds-save-end : goal.slice_bounds-save-end
slice_bounds-save-end c =
    let work-long : length c.load_bindings-mask.new.work ≡ 327680 = c.load_bindings-mask.auto.work in
    sym work-long

pub save-requires : goal.save-requires
save-requires c =
    let work-long : length c.load_bindings-mask.new.work ≡ 327680 = c.load_bindings-mask.auto.work in
    (as_long work-long, lit< tt)

pub slice_bounds-count_on-end : goal.slice_bounds-count_on-end
slice_bounds-count_on-end c =
    let work-long : length c.load_bindings-mask.new.work ≡ 327680 = c.load_bindings-mask.auto.work in
    let saved-long : length c.save.new.work ≡ 327680 = c.save.auto.work ∙ work-long in
    sym saved-long

pub count_on-t-requires : goal.count_on-t-requires
count_on-t-requires c =
    let work-long : length c.load_bindings-mask.new.work ≡ 327680 = c.load_bindings-mask.auto.work in
    let saved-long : length c.save.new.work ≡ 327680 = c.save.auto.work ∙ work-long in
    let i : Input = input c.args.table.now c.args.store.now c.args.bindings.now c.args.mark c.args.start c.args.subject c.args.units in
    (refl, lit< tt, accepted-lent i _ c.requires.0 (as_long saved-long), refl, c.requires.2)

pub slice_bounds-count_rest-end : goal.slice_bounds-count_rest-end
slice_bounds-count_rest-end c = sym c.count_on-t.auto.kept

pub count_rest-requires : goal.count_rest-requires
count_rest-requires c =
    let so = c.count_on-t.ensures.0 in
    (so.level, so.low, omega (arith, so.long))

pub slice_bounds-conclude-end : goal.slice_bounds-conclude-end
slice_bounds-conclude-end c =
    let work-long : length c.load_bindings-mask.new.work ≡ 327680 = c.load_bindings-mask.auto.work in
    let saved-long : length c.save.new.work ≡ 327680 = c.save.auto.work ∙ work-long in
    sym (c.count_on-t.auto.work ∙ saved-long)

pub conclude-ran-requires : goal.conclude-ran-requires
conclude-ran-requires c = (c.requires.0.bindings, c.count_on-t.ensures.0.lent.frames)

-- ---- the lent lists are as long as they were
pub shape_of-store : goal.shape_of-store
shape_of-store c = c.conclude-ran.auto.store ∙ c.count_on-t.auto.store

pub shape_of-bindings : goal.shape_of-bindings
shape_of-bindings c = c.conclude-ran.auto.bindings

pub shape_of-counts : goal.shape_of-counts
shape_of-counts c = c.count_rest.auto.counts ∙ c.count_on-t.auto.counts

-- ---- what it returns
pub returns : goal.returns
returns c =
    let i : Input = input c.args.table.now c.args.store.now c.args.bindings.now c.args.mark c.args.start c.args.subject c.args.units in
    ap (counted_at_return _ _ _) c.count_rest.ensures
    ∙ all-counted c.args.shares i c.requires.0 c.args.counts.now (rows c.args.table.now)
    c.requires.1 c.requires.2 c.ranges.units.fits
    _ _ _ _ c.load_bindings-mask.ensures c.save.ensures
    _ _ _ _ _ _ c.count_on-t.ensures.0 c.count_on-t.ensures.1
    _ _ _ _ c.conclude-ran.ensures
