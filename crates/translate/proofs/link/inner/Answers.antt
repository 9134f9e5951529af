-- `translate::link::inner` meets its contract. Assumes nothing.
use Rattle.std.proofs.Common.{rules, ◌≡◌, ◌%◌, min}
use Rattle.translate.proofs.Links.{inner-call, inner-count}
use Rattle.translate.proofs.link.inner.Goals as goal

pub returns-then-w-eq-CALL : goal.returns-then-w-eq-CALL
returns-then-w-eq-CALL c = inner-call c.args.w c.if-w-eq-CALL.true

pub returns-else-w-eq-CALL : goal.returns-else-w-eq-CALL
returns-else-w-eq-CALL c =
    let m : c.min.result ≡ min (c.args.w % 16) 6 = search rules in
    inner-count c.args.w c.min.result c.if-w-eq-CALL.false m
