-- `checks::nodes::check_store` meets its contract: the length and the mark first, then the lowest bad node.
-- Assumes nothing.
use Rattle.std.proofs.Common.{ap, rules}
use borrow.Author.Tests.{le-leb, lt-leb}
use Rattle.checks.specs.Good.{good_node}
use Rattle.checks.specs.Checked.{found, store_checked}
use Rattle.checks.proofs.nodes.check_store.Goals as goal
use Rattle.checks.proofs.nodes.check_store.Goals.{then-not-store_length_fits-via-then-not-store_length_fits, then-not-store_length_fits-via-else-not-store_length_fits+then-store-mark}

pub returns-then-not-store_length_fits : goal.returns-then-not-store_length_fits
unfolding store_checked
returns-then-not-store_length_fits c =
    elim c.then-not-store_length_fits.branch [
      | then-not-store_length_fits-via-then-not-store_length_fits w ↦ rw (← c.store_length_fits.ensures, w.if-not-store_length_fits.true)
      | then-not-store_length_fits-via-else-not-store_length_fits+then-store-mark w ↦
          rw (← c.store_length_fits.ensures, w.if-not-store_length_fits.false, lt-leb _ _ w.if-store-mark.true)
    ]

pub returns-in-Some : goal.returns-in-Some
unfolding store_checked
returns-in-Some c =
    rw (← c.store_length_fits.ensures, c.if-not-store_length_fits.false, le-leb _ _ c.if-store-mark.false)
    (ap (found 4) (c.in-Some.ensures (good_node c.args.store.now) (λ k b l h. search rules)))

pub returns-in-None : goal.returns-in-None
unfolding store_checked
returns-in-None c =
    rw (← c.store_length_fits.ensures, c.if-not-store_length_fits.false, le-leb _ _ c.if-store-mark.false)
    (ap (found 4) (c.in-None.ensures (good_node c.args.store.now) (λ k b l h. search rules)))
