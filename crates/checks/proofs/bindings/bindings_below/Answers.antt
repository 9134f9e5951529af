-- `checks::bindings::bindings_below` meets its contract: every word is at most the mark. Assumes nothing.
use Rattle.std.proofs.Common.{◌≤◌, ◌↔◌, leb, length, get_or, rules, le-leb, leb-true, IsTrue, EachIndex, slice_index}
use Rattle.words.proofs.Tests.{every_either}
use Rattle.checks.specs.Checked.{bound_below}
use Rattle.checks.proofs.bindings.bindings_below.Goals as goal

pub returns : goal.returns
unfolding bound_below
returns c =
    let b = c.args.bindings.now in
    let h : IsTrue c.all.result ↔ EachIndex b (λ k. slice_index b k ≤ c.args.mark) = search rules in
    every_either (λ v. leb (get_or b v 0) c.args.mark) (length b) c.all.result
    (λ e j l. le-leb _ _ (h.0 e j l), λ f. h.1 (λ j l. leb-true _ _ (f j l)))
