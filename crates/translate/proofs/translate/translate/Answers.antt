-- `translate::translate::translate` meets its contract: what may be added is known before a word is written. Assumes nothing.
use mathlib.Core.Path.{refl}
use borrow.Author.Rules.{rules}
use Rattle.std.proofs.lemmas.Result.{err_from_is_err_and}
use Rattle.std.specs.Prelude.{Ok}
use Rattle.check_rules.specs.Check.{told_of}
use Rattle.check_rules.proofs.Answering.{used-sizes}
use Rattle.check_rules.proofs.Accepting.{accepts}
use Rattle.translate.proofs.Refusing.{told_ne0}
use Rattle.translate.proofs.translate.translate.Goals as goal

pub returns-in_err-all : goal.returns-in_err-all
returns-in_err-all c =
    let p = err_from_is_err_and c.from_residual.result c.from_residual.ensures.1 in
    rw (p.1, p.2)
    record { numbers = c.in_err-all.ensures; refused = λ n. refl; added = λ z. absurd (told_ne0 _ _ z) }

pub put_text-requires : goal.put_text-requires
put_text-requires c =
    let a = (accepts c.args.table.now c.args.used c.args.text.now _ c.in_ok-all.ensures).0 refl in
    (a.1, (used-sizes c.args.table.now c.args.used a.0).0)

pub returns : goal.returns
returns c = record { numbers = c.in_ok-all.ensures; refused = λ n. absurd (n refl); added = λ z. c.put_text.ensures }
