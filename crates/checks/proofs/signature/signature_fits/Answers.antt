-- `checks::signature::signature_fits` meets its contract: the length, then every word. Assumes nothing.
use Rattle.std.proofs.Common.{◌≤◌, ◌↔◌, leb, length, get_or, rules, arith, le-leb, leb-true, IsTrue, EachIndex, slice_index}
use Rattle.std.proofs.lemmas.Bool.Decides.{nat_tests}
use Rattle.words.proofs.Tests.{every_either}
use Rattle.checks.specs.Signature.{signature_fits}
use Rattle.checks.proofs.signature.signature_fits.Goals as goal

pub returns-then-signature-le65536 : goal.returns-then-signature-le65536
unfolding signature_fits
returns-then-signature-le65536 c =
    let g = c.args.signature.now in
    let h : IsTrue c.all.result ↔ EachIndex g (λ k. slice_index g k ≤ 7) = search rules in
    rw (le-leb (length g) 65536 c.if-signature-le65536.true)
    (every_either (λ v. leb (get_or g v 0) 7) (length g) c.all.result
    (λ e j l. le-leb _ _ (h.0 e j l), λ f. h.1 (λ j l. leb-true _ _ (f j l))))

pub returns-else-signature-le65536 : goal.returns-else-signature-le65536
unfolding signature_fits
returns-else-signature-le65536 c = grind (arith, nat_tests)
