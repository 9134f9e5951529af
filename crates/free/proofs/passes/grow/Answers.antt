-- `free::passes::grow` meets its contract. Assumes nothing.
use mathlib.Core.Path.{◌≡◌}
use Rattle.free.specs.Passes.{fuller, grows, grown}
use borrow.Author.Rules.{rules}
use Rattle.free.proofs.passes.grow.Goals as goal

pub returns : goal.returns
unfolding grows grown fuller
returns c =
    let e : c.mask_at-old.result ≡ _ = c.mask_at-old.ensures in
    (rw (e, c.rule.ensures), rw (e, c.rule.ensures))
